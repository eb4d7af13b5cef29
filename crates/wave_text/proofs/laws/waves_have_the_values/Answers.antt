use Rattle.wave_text.proofs.ValuesShown.{all_shown}
use Rattle.wave_text.proofs.laws.waves_have_the_values.Goals as goal

pub returns-clause-before : goal.returns-clause-before
returns-clause-before c = λ ports events outputs k var event shown known there beside within.
    (all_shown c.values_have_their_widths.ensures ports events outputs k var event shown known there beside within).0

pub returns-clause-edges : goal.returns-clause-edges
returns-clause-edges c = λ ports events outputs k var event shown known there beside within.
    (all_shown c.values_have_their_widths.ensures ports events outputs k var event shown known there beside within).1
