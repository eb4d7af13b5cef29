use Rattle.std.proofs.Common.{◌≡◌, ◌∙◌, sym, ap, Bool, List, map, IfSome, IfNone, subst}
use Rattle.std.proofs.lemmas.Result.{IfOk-weaker}
use Rattle.chw_types.specs.TypeTree.{nat_lit}
use Rattle.chw_terms.specs.Evaluated.{evaluated}
use Rattle.work_prims.specs.Given.{AreWords}
use Rattle.work_prims.proofs.Computed.{result_more}
use Rattle.work_prims.proofs.results.value_on.Goals as goal

pub returns-in_default-2 : goal.returns-in_default-2
returns-in_default-2 c e h =
    (subst (λ r. IfNone r ((ws : List (List Bool)) → AreWords c.args.rest.now ws → ⊥)) c.in_default-2.is c.in_ok-words.ensures.none) h.words h.are

pub returns : goal.returns
returns c =
    let closed = subst (λ r. IfSome r (λ ns. map evaluated c.args.types.now ≡ map (λ n. nat_lit n) ns.items)) c.in-Some.is c.in_ok-nats.ensures.some ∙ ap (map (λ n. nat_lit n)) (sym c.deref.ensures.value) in
    let are = subst (AreWords c.args.rest.now) (sym c.deref-2.ensures.value) (subst (λ r. IfSome r (λ ws. AreWords c.args.rest.now ws.items)) c.in-Some-2.is c.in_ok-words.ensures.some) in
    IfOk-weaker c.value.result _ _ (λ r h. result_more c.args.p c.args.types.now c.args.rest.now c.deref.result.now c.deref-2.result.now r closed are h) c.value.ensures
