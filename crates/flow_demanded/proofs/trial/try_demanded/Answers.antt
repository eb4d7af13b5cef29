use Rattle.std.proofs.Common.{◌≡◌, ◌∙◌, ◌≤◌, ◌++◌, length, ap, sym, subst, Option, None, arith}
use Rattle.std.specs.Option.{option_map}
use Rattle.std.proofs.lemmas.List.{take-append-drop, length-take-le}
use Rattle.chw_prims.specs.Schemas.{schema_type}
use Rattle.chw_terms.specs.TermTree.{TermTree, prim}
use Rattle.chw_terms.specs.TermView.{tree_of, applied}
use Rattle.rewriting.specs.Origins.{origins_of}
use Rattle.rewriting.specs.Spots.{spot_of, asked_for}
use Rattle.seen_types.proofs.Matched.{ok_more}
use Rattle.rule_parts.specs.Cores.{Answers}
use Rattle.rule_parts.proofs.Heads.{bare, of_few_args, of_named_args, of_other_head}
use Rattle.flow_demanded.proofs.Whole.{of_prims, looks_at_none, other_prim}
use Rattle.flow_demanded.proofs.trial.try_demanded.Goals as goal

pub returns-in_default : goal.returns-in_default
returns-in_default c =
    let o = origins_of c.args.scene.now in
    let at = spot_of c.args.place.now in
    let r = c.args.rule in
    let h = c.at.inside.head in
    subst (λ e. Answers o at r e None) c.at.view_is (of_other_head o at r (tree_of h) c.at.inside.args.items (of_prims r c.requires.rule) (bare h) (other_prim h c.in_default.not-PrimOf))

pub returns-in_default-named_args : goal.returns-in_default-named_args
returns-in_default-named_args c =
    let o = origins_of c.args.scene.now in
    let at = spot_of c.args.place.now in
    let r = c.args.rule in
    let p = c.in-PrimOf.which in
    let args = c.at.inside.args.items in
    let whole : applied (prim p) args ≡ c.args.at.now = ap (λ h. applied (tree_of h) args) (sym c.in-PrimOf.is) ∙ c.at.view_is in
    subst (λ e. Answers o at r e None) whole (looks_at_none o at r p args c.requires.rule c.in_default-named_args.ensures.none)

pub returns-then-len-count : goal.returns-then-len-count
returns-then-len-count c =
    let o = origins_of c.args.scene.now in
    let at = spot_of c.args.place.now in
    let r = c.args.rule in
    let p = c.in-PrimOf.which in
    let args = c.at.inside.args.items in
    let whole : applied (prim p) args ≡ c.args.at.now = ap (λ h. applied (tree_of h) args) (sym c.in-PrimOf.is) ∙ c.at.view_is in
    subst (λ e. Answers o at r e None) whole (of_few_args o at r p args (of_prims r c.requires.rule) (omega (arith, c.if-len-count.true, c.len.ensures, c.at.inside.args.ok.0, c.in-Some.ensures.some)))

pub returns : goal.returns
returns c =
    let o = origins_of c.args.scene.now in
    let at = spot_of c.args.place.now in
    let r = c.args.rule in
    let p = c.in-PrimOf.which in
    let n = c.in-Some.count in
    let args = c.at.inside.args.items in
    let given = c.deref.result.now in
    let front = c.split_at.result.0.now in
    let rest = c.split_at.result.1.now in
    let made = c.in_ok-made.made in
    let parts : front ++ rest ≡ args = (λ i. c.split_at.ensures.front i ++ c.split_at.ensures.back i) ∙ take-append-drop n given ∙ c.deref.ensures.value in
    let whole : applied (prim p) (front ++ rest) ≡ c.args.at.now = ap (applied (prim p)) parts ∙ ap (λ h. applied (tree_of h) args) (sym c.in-PrimOf.is) ∙ c.at.view_is in
    let some : n ≤ length given = omega (arith, c.if-len-count.false, c.len.ensures, c.at.inside.args.ok.0, ap length c.deref.ensures.value) in
    let count : length front ≡ asked_for (schema_type p) = ap length c.split_at.ensures.front ∙ length-take-le n given some ∙ c.in-Some.ensures.some in
    let all : Answers o at r c.args.at.now (option_map (λ e. applied e rest) made) =
    subst (λ e. Answers o at r e (option_map (λ e. applied e rest) made)) whole (of_named_args o at r p front rest made (of_prims r c.requires.rule) count c.in_ok-made.ensures) in
    ok_more c.with_rest.result (λ (it : Option TermTree). it ≡ option_map (λ e. applied e rest) made) (Answers o at r c.args.at.now)
    (λ it is. subst (Answers o at r c.args.at.now) (sym is) all) c.with_rest.ensures
