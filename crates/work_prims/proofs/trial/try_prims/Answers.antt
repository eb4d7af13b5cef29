use Rattle.std.proofs.Common.{◌≡◌, ◌∙◌, ◌<◌, ◌++◌, ap, sym, subst, length, None, arith}
use Rattle.std.specs.Option.{option_map}
use Rattle.std.proofs.lemmas.List.{take-append-drop}
use Rattle.std.proofs.lemmas.Result.{IfOk-weaker}
use Rattle.chw_prims.specs.Schemas.{row_type, schema_type}
use Rattle.chw_terms.specs.TermView.{applied}
use Rattle.rewriting.specs.Origins.{origins_of}
use Rattle.rewriting.specs.Spots.{spot_of, asked_for}
use Rattle.rule_parts.specs.Cores.{Answers}
use Rattle.work_prims.proofs.Trials.{of_no_prim, of_few, of_named}
use Rattle.work_prims.proofs.trial.try_prims.Goals as goal

pub returns-in_default : goal.returns-in_default
returns-in_default c =
    let o = origins_of c.args.scene.now in
    let at = spot_of c.args.place.now in
    subst (λ e. Answers o at c.args.rule e None) c.at.view_is
    (of_no_prim o at c.args.rule c.at.inside.head c.at.inside.args.items c.requires.rule c.in_default.not-PrimOf)

pub returns-then-len-count : goal.returns-then-len-count
returns-then-len-count c =
    let o = origins_of c.args.scene.now in
    let at = spot_of c.args.place.now in
    let p = c.in-PrimOf.p in
    let args = c.at.inside.args in
    let count : c.asked-count.result ≡ asked_for (schema_type p) = c.asked-count.ensures ∙ ap (λ row. asked_for (row_type row)) c.of.ensures in
    let few : length args.items < asked_for (schema_type p) = omega (arith, count, c.len.ensures, args.ok.0, c.if-len-count.true) in
    subst (λ e. Answers o at c.args.rule e None) c.at.view_is
    (of_few o at c.args.rule c.at.inside.head p args.items c.requires.rule c.in-PrimOf.is few)

pub returns : goal.returns
returns c =
    let o = origins_of c.args.scene.now in
    let at = spot_of c.args.place.now in
    let r = c.args.rule in
    let p = c.in-PrimOf.p in
    let items = c.at.inside.args.items in
    let n = c.asked-count.result in
    let args = c.split_at.result.0.now in
    let rest = c.split_at.result.1.now in
    let made = c.in_ok-made.made in
    let count : n ≡ asked_for (schema_type p) = c.asked-count.ensures ∙ ap (λ row. asked_for (row_type row)) c.of.ensures in
    let parts : items ≡ args ++ rest = sym c.deref.ensures.value ∙ sym (take-append-drop n c.deref.result.now) ∙ (λ i. sym c.split_at.ensures.front i ++ sym c.split_at.ensures.back i) in
    let all : Answers o at r c.args.at.now (option_map (λ e. applied e rest) made) =
    subst (λ e. Answers o at r e (option_map (λ e. applied e rest) made)) c.at.view_is
    (of_named o at r c.at.inside.head p items args rest made c.requires.rule c.in-PrimOf.is parts (c.split_at.ensures.front_len ∙ count) c.in_ok-made.ensures) in
    IfOk-weaker c.with_rest.result _ _ (λ it is. subst (Answers o at r c.args.at.now) (sym is) all) c.with_rest.ensures
