use Rattle.std.proofs.Common.{◌∙◌, ap}
use Rattle.std.proofs.lemmas.Result.{on_ok_weaker}
use Rattle.chw_terms.specs.TermMoves.{rename}
use Rattle.moved_in_place.proofs.Renamed.{lifted_raise}
use Rattle.moved_in_place.proofs.renaming.raise.Goals as goal

pub returns : goal.returns
returns c = on_ok_weaker c.walk.result (λ h. h ∙ ap (rename c.args.term.now) (lifted_raise c.args.from.number c.args.by)) c.walk.ensures
