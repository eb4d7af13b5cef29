-- Worked examples of blocked places, and of one that isn't.
use Rattle.std.specs.Prelude.{ℕ, true, List, [], ◌∷◌}
use Rattle.chw_types.specs.declared.kind.Scalar.TheVariants.{U}
use Rattle.chw_types.specs.TypeTree.{TypeTree, nat_lit, domain, scalar, fun}
use Rattle.chw_prims.specs.declared.prim.Primitive.TheVariants.{Register, VReverse}
use Rattle.chw_terms.specs.declared.scene.Mode.{Mode}
use Rattle.chw_terms.specs.declared.scene.Mode.TheVariants.{V, C}
use Rattle.chw_terms.specs.TermTree.{var, letrec, prim, no_bindings, bind}
use Rattle.chw_terms.specs.TermView.{applied}
use Rattle.chw_layout.specs.declared.outcome.NoLayout.TheVariants.{Scalar as OverScalar}
use Rattle.chw_layout.specs.declared.outcome.NoLayout.TheVariants.{Length as OverLength}
use Rattle.chw_typing.specs.Given.{types_then}
use Rattle.rewriting.specs.Spots.{Spot, spot}
use Rattle.normal_forms.specs.Blocked.{recursion, payload, PassesAt, BlocksAt}
use Rattle.normal_forms.specs.Examples.{byte, here, counter, cyclic}

abbrev pub at_root : Mode → List TypeTree → Spot
at_root mode vars = spot mode true vars

-- where a value is built, `letrec { x : U8 = y; y : U8 = x; } in x` is blocked by x and y
abbrev pub CycleBlocks : Type 0
CycleBlocks = BlocksAt here (at_root V []) (letrec cyclic (var 1)) (recursion (0 ∷ 1 ∷ []))

-- the cycle of a counter goes through signals, which are named: nothing is blocked by it
abbrev pub CounterIsFree : Type 0
CounterIsFree = (cycle : List ℕ) → BlocksAt here (at_root C []) counter (recursion cycle) → ⊥

-- `register @A @(U8 -> U8) f s`
abbrev pub FunctionBlocks : Type 0
FunctionBlocks =
    BlocksAt here (at_root C [])
    (applied (prim Register) (types_then (domain 0 ∷ fun byte byte ∷ []) (var 0 ∷ var 1 ∷ [])))
    (payload (fun byte byte))

-- the binding of `letrec { x : Unsigned 129 = y; } in z` passes the limit of scalars
abbrev pub wide : TypeTree
wide = scalar U (nat_lit 129)

abbrev pub WideBinding : Type 0
WideBinding =
    PassesAt here (at_root V (wide ∷ byte ∷ []))
    (letrec (bind wide (var 1) no_bindings) (var 2)) 1 (OverScalar 129)

-- `vreverse @2000 @U8` passes the limit of lengths
abbrev pub LongVector : Type 0
LongVector =
    PassesAt here (at_root V [])
    (applied (prim VReverse) (types_then (nat_lit 2000 ∷ byte ∷ []) [])) 1 (OverLength 2000)
