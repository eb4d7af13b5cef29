use Rattle.waves.proofs.CodeDigits.{code_injective, code_some, code_visible}
use Rattle.waves.proofs.laws.codes_are_distinct.Goals as goal

pub returns-clause-distinct : goal.returns-clause-distinct
returns-clause-distinct c = code_injective

pub returns-clause-some : goal.returns-clause-some
returns-clause-some c = code_some

pub returns-clause-visible : goal.returns-clause-visible
returns-clause-visible c = code_visible
