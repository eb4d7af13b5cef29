use Rattle.std.proofs.Common.{◌∙◌, sym, ap}
use Rattle.net_built.specs.Words.{only}
use Rattle.net_pieces.proofs.Choosing.{last_at}
use Rattle.net_pieces.proofs.choices.last_only.Goals as goal

pub returns-in-Some : goal.returns-in-Some
returns-in-Some c =
    c.only.ensures
    ∙ ap only (c.as_slice.ensures ∙ sym (last_at c.args.results.now c.in-Some.last.now (sym c.in-Some.ensures.value)))
