use Rattle.std.proofs.Common.{◌≡◌, ℕ, ◌+◌, [], ap, subst, sym, ◌∙◌, arith}
use Rattle.std.specs.Prelude.{reverse, Option, Some, None, IfSome}
use Rattle.chw_types.specs.declared.kind.Kind.{Kind}
use Rattle.chw_types.specs.Arguments.{given}
use Rattle.chw_types.specs.TypeTree.{TypeTree, ty_var, for_all}
use Rattle.chw_types.specs.TypeView.{tree_of}
use Rattle.chw_types.specs.TypeSize.{tree_size}
use Rattle.chw_types.specs.TypeMoves.{Substitution, shift, up_by, sub}
use Rattle.chw_types.specs.SmallTypes.{Takes}
use Rattle.chw_types.proofs.Rooms.{size_of_argument, variable_takes, for_all_takes, passed_more}
use Rattle.chw_types.proofs.room.+parts_left.Goals as goal

some_takes : (r : Option ℕ) (a : TypeTree) (σ : Substitution) (x c depth parts : ℕ) → shift a 0 c ≡ σ x → IfSome r (Takes (sub a (up_by 0 (given (reverse [])))) depth parts) → IfSome r (Takes (sub (ty_var x) σ) depth parts)
some_takes None a σ x c depth parts e h = tt
some_takes (Some left) a σ x c depth parts e h = variable_takes a σ x c depth parts left e h

bound_takes : (r : Option ℕ) (k : Kind) (t : TypeTree) (σ : Substitution) (c depth parts within of : ℕ) → within + 1 ≡ depth → of + 1 ≡ parts → IfSome r (Takes (sub t (up_by (c + 1) σ)) within of) → IfSome r (Takes (sub (for_all k t) (up_by c σ)) depth parts)
bound_takes None k t σ c depth parts within of e f h = tt
bound_takes (Some left) k t σ c depth parts within of e f h = for_all_takes k t σ c depth parts within of left e f h

pub parts_left-requires : goal.parts_left-requires
parts_left-requires t c =
    let fewer = size_of_argument c.args.args.now c.in-Some.arg.now c.in-Some.ensures.some.0 in
    let one = ap (λ n. tree_size (tree_of n)) (sym c.in-Var.is) ∙ ap tree_size c.t.view_is in
    (omega (arith, fewer, one, c.decreases), tt)

pub loop-part-preserved : goal.loop-part-preserved
loop-part-preserved t c =
    let σ = up_by c.args.under (given (reverse c.args.args.now)) in (
      c.loop-part.invariant.0,
      passed_more c.deref-part-items.result.now _ σ c.loop-part.part-index c.part-item.result _ _ c.loop-part.inner.parts _ c.loop-part-test.true c.part-item.is c.loop-part.invariant.1 (rw (← c.loop-part.invariant.0) c.in_ok-inner-in-DataOf-2.ensures),
    )

pub returns-in-Some : goal.returns-in-Some
returns-in-Some t c =
    let σ = up_by c.args.under (given (reverse c.args.args.now)) in
    let whole = ap tree_of (sym c.in-Var.is) ∙ c.t.view_is in
    subst (λ u. IfSome c.parts_left.result (λ left. Takes (sub u σ) c.args.room.depth c.args.room.parts left)) whole
    (some_takes c.parts_left.result c.in-Some.arg.now σ c.in-Var.x.number c.args.under c.args.room.depth c.args.room.parts c.in-Some.ensures.some.1 c.parts_left.ensures)

pub returns-in_ok-inside-in-Forall : goal.returns-in_ok-inside-in-Forall
returns-in_ok-inside-in-Forall t c =
    let σ = given (reverse c.args.args.now) in
    let whole = ap tree_of (sym c.in-Forall.is) ∙ c.t.view_is in
    let inner = c.in_ok-inside-in-Forall.field-0 in
    let under : c.in_ok-under-in-Forall.under ≡ c.args.under + 1 = omega (arith, c.in_ok-under-in-Forall.ensures) in
    let body : sub c.deref.result.now (up_by c.in_ok-under-in-Forall.under σ) ≡ sub c.in-Forall.t.value (up_by (c.args.under + 1) σ) = λ i. sub (c.deref.ensures i) (up_by (under i) σ) in
    subst (λ u. IfSome c.parts_left-in-Forall.result (λ left. Takes (sub u (up_by c.args.under σ)) c.args.room.depth c.args.room.parts left)) whole
    (bound_takes c.parts_left-in-Forall.result c.in-Forall.field-0 c.in-Forall.t.value σ c.args.under c.args.room.depth c.args.room.parts inner.depth inner.parts (omega (arith, c.in_ok-inside-in-Forall.ensures)) (omega (arith, c.in_ok-inside-in-Forall.ensures))
    (subst (λ u. IfSome c.parts_left-in-Forall.result (Takes u inner.depth inner.parts)) body c.parts_left-in-Forall.ensures))
