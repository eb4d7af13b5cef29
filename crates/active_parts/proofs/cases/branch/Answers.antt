use Rattle.std.proofs.Common.{◌≤◌, length, reverse, refl, sym, subst, arith, MatchOption}
use Rattle.std.proofs.lemmas.Bool.{ltb-true, ltb-false}
use Rattle.std.proofs.lemmas.Option.{slice_get_read, slice_get_within}
use Rattle.chw_types.specs.TypeTree.{TypeTree}
use Rattle.chw_terms.specs.declared.scene.Mode.TheVariants.{V}
use Rattle.chw_typing.specs.HeadTypes.{PatternOf}
use Rattle.rewriting.specs.Named.{IsNamed}
use Rattle.rewriting.specs.Origins.{origins_of}
use Rattle.rewriting.specs.Spots.{spot_of}
use Rattle.active_parts.specs.Below.{IsVariable, HasFields}
use Rattle.active_parts.proofs.Heads.{no_branch, branch_below}
use Rattle.active_parts.proofs.Patterns.{has_fields}
use Rattle.active_parts.proofs.Truths.{not_true}
use Rattle.active_parts.proofs.Variables.{one_type}
use Rattle.active_parts.proofs.cases.branch.Goals as goal

pub returns-then-not-builds_value : goal.returns-then-not-builds_value
returns-then-not-builds_value c at' x b =
    no_branch (origins_of c.args.ground.now.scene.now) (spot_of c.args.place.now) c.args.on.now c.args.alts.now c.args.number
    (λ k. not_true c.builds_value.result c.if-not-builds_value.true (c.builds_value.ensures.1 k.mode)) at' x b

pub returns-in_default : goal.returns-in_default
returns-in_default c at' x b =
    let alts = c.args.alts.now in
    let n = c.args.number in
    let past : length alts ≤ n = ltb-false _ _ (sym c.in_default.ensures.lookup.0) in
    no_branch (origins_of c.args.ground.now.scene.now) (spot_of c.args.place.now) c.args.on.now alts n
    (λ k. let l = slice_get_within alts n k.item k.listed in omega (arith, l, past)) at' x b

pub returns-in_default-2 : goal.returns-in_default-2
returns-in_default-2 c at' x b =
    let vars = reverse c.args.place.now.vars in
    let on = c.args.on.now in
    let none = subst (λ r. MatchOption r ((u : TypeTree) → IsVariable vars on u → ⊥) (IsVariable vars on)) c.in_default-2.is c.in_ok-of.ensures in
    no_branch (origins_of c.args.ground.now.scene.now) (spot_of c.args.place.now) on c.args.alts.now c.args.number
    (λ k. none k.type (k.number, k.is, k.of)) at' x b

pub returns-then-not-branch : goal.returns-then-not-branch
returns-then-not-branch c at' x b =
    let vars = reverse c.args.place.now.vars in
    let on = c.args.on.now in
    let of = c.in-Some-2.of in
    let variable = subst (λ r. MatchOption r ((u : TypeTree) → IsVariable vars on u → ⊥) (IsVariable vars on)) c.in-Some-2.is c.in_ok-of.ensures in
    let unnamed = λ (n : IsNamed c.args.ground.now.scene.now.program.now.datas V of).
    not_true c.in_ok-is_named.field-0 c.if-not-branch.true (c.in_ok-is_named.ensures.1 (subst (λ ds. IsNamed ds V of) (sym c.as_slice-datas.ensures) n)) in
    no_branch (origins_of c.args.ground.now.scene.now) (spot_of c.args.place.now) on c.args.alts.now c.args.number
    (λ k. unnamed (subst (IsNamed c.args.ground.now.scene.now.program.now.datas V) (one_type vars on k.type of (k.number, k.is, k.of) variable) k.named)) at' x b

pub field_types-requires : goal.field_types-requires
field_types-requires c =
    let scene = c.args.ground.now.scene.now in
    let vars = reverse c.args.place.now.vars in
    let on = c.args.on.now in
    let alts = c.args.alts.now in
    let n = c.args.number in
    let a = c.in-Some.alt.now in
    let of = c.in-Some-2.of in
    let there = c.in-Some.ensures.lookup in
    let item = slice_get_read alts (length alts) n a refl (ltb-true _ _ (sym there.0)) there.1 in
    let v = subst (λ r. MatchOption r ((u : TypeTree) → IsVariable vars on u → ⊥) (IsVariable vars on)) c.in-Some-2.is c.in_ok-of.ensures in
    let typed = c.requires.typed.1 in
    subst (λ ds. HasFields ds of a.pattern) (sym c.requires.ground.table.constructors)
    (has_fields scene vars on v.0 of typed.0 alts n a v.1 v.2 typed.1 item)

pub returns : goal.returns
returns c =
    let o = origins_of c.args.ground.now.scene.now in
    let at = spot_of c.args.place.now in
    let vars = reverse c.args.place.now.vars in
    let on = c.args.on.now in
    let alts = c.args.alts.now in
    let n = c.args.number in
    let a = c.in-Some.alt.now in
    let of = c.in-Some-2.of in
    let there = c.in-Some.ensures.lookup in
    let item = slice_get_read alts (length alts) n a refl (ltb-true _ _ (sym there.0)) there.1 in
    let v = subst (λ r. MatchOption r ((u : TypeTree) → IsVariable vars on u → ⊥) (IsVariable vars on)) c.in-Some-2.is c.in_ok-of.ensures in
    let named = subst (λ ds. IsNamed ds V of) c.as_slice-datas.ensures (c.in_ok-is_named.ensures.0 c.if-not-branch.false) in
    let more = c.in_ok-more.more.items in
    let pattern = subst (λ ds. PatternOf ds of a.pattern more) c.requires.ground.table.constructors c.in_ok-more.ensures in
    branch_below o at on alts v.0 n of a more (c.builds_value.ensures.0 c.if-not-builds_value.false) v.1 v.2 named item pattern
