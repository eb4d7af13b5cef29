use Rattle.std.proofs.Common.{sym, subst, IfOk}
use Rattle.std.proofs.lemmas.Result.{IfOk-weaker}
use Rattle.chw_terms.specs.TermView.{tree_of}
use Rattle.rewriting.specs.Origins.{origins_of}
use Rattle.rewriting.specs.Spots.{spot_of}
use Rattle.rule_parts.specs.Cores.{AnswersCore}
use Rattle.work_lets.proofs.trial.of_head.Goals as goal

pub returns-in-Dead : goal.returns-in-Dead
returns-in-Dead c =
    let o = origins_of c.args.scene.now in
    subst (λ r. IfOk c.dead.result (AnswersCore o (spot_of c.args.place.now) r (tree_of c.args.head.now))) (sym c.in-Dead.is)
    (IfOk-weaker c.dead.result _ _ (λ x h. h o) c.dead.ensures)
