use Rattle.std.proofs.Common.{sym, subst}
use Rattle.std.proofs.lemmas.Result.{IfOk-weaker}
use Rattle.chw_terms.specs.TermTree.{prim}
use Rattle.chw_terms.specs.TermView.{applied}
use Rattle.rewriting.specs.Origins.{origins_of}
use Rattle.rewriting.specs.Spots.{spot_of}
use Rattle.rule_parts.specs.Cores.{AnswersCore}
use Rattle.work_prims.proofs.trial.on_args.Goals as goal

pub returns-in-Elem : goal.returns-in-Elem
returns-in-Elem c =
    let o = origins_of c.args.scene.now in
    IfOk-weaker c.element.result _ _ (λ r h. subst (λ rule. AnswersCore o (spot_of c.args.place.now) rule (applied (prim c.args.p) c.args.args.now) r) (sym c.in-Elem.is) (h o)) c.element.ensures

pub returns-in-Delta : goal.returns-in-Delta
returns-in-Delta c =
    let o = origins_of c.args.scene.now in
    IfOk-weaker c.delta.result _ _ (λ r h. subst (λ rule. AnswersCore o (spot_of c.args.place.now) rule (applied (prim c.args.p) c.args.args.now) r) (sym c.in-Delta.is) (h o)) c.delta.ensures
