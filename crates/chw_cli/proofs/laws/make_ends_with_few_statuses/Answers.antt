use Rattle.chw_cli.proofs.MakeEnds.{make_ends, told_is_own}
use Rattle.chw_cli.proofs.laws.make_ends_with_few_statuses.Goals as goal

pub returns : goal.returns
returns g c words taps shelf shelf' out out' err err' s is outcome =
    make_ends c.make_is_refused_for_its_program.ensures.words c.make_is_refused_for_its_program.ensures.statuses words taps is s
    (told_is_own _ _ _ err err') outcome
