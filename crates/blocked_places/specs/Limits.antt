-- Limits that are passed at a place.
use Rattle.std.specs.Borrow.{Bor}
use Rattle.std.specs.Prelude.{◌≡◌, ℕ, suc, ◌<◌, List, ◌++◌, map, length}
use Rattle.std.specs.Prelude.{Option, Some, None, MatchOption, Vec}
use Rattle.std.specs.declared.alloc.Global.{Global}
use Rattle.std.specs.List.{slice_get}
use Rattle.chw_types.specs.declared.declarations.Data.{Data}
use Rattle.type_ports.specs.declared.ports.Leaf.{Leaf}
use Rattle.chw_types.specs.declared.ty.Ty.{Ty}
use Rattle.chw_types.specs.TypeTree.{TypeTree}
use Rattle.chw_terms.specs.declared.term.Arg.{Arg}
use Rattle.chw_terms.specs.declared.term.Arg.TheVariants.{OfType}
use Rattle.chw_terms.specs.declared.term.Binding.{Binding}
use Rattle.chw_terms.specs.TermTree.{TermTree}
use Rattle.chw_layout.specs.declared.outcome.NoLayout.{NoLayout}
use Rattle.chw_layout.specs.declared.outcome.NoLayout.TheVariants.{NotRepresentable, Scalar}
use Rattle.chw_layout.specs.declared.outcome.NoLayout.TheVariants.{Data as OverData, Length}
use Rattle.chw_layout.specs.Measured.{Measured, too_wide}
use Rattle.rewriting.specs.Origins.{Origins}
use Rattle.rewriting.specs.Spots.{Spot}
use Rattle.rewriting.specs.Lifted.{FindsAt}
use Rattle.normal_forms.specs.Blocked.{Passes, PassesAt, types_asked}
use Rattle.blocked_places.specs.Firsts.{Passing}

-- why a type has no width, where that is a limit that it passes
abbrev pub over : NoLayout → Option NoLayout
over NotRepresentable = None
over (Scalar n) = Some (Scalar n)
over (OverData n) = Some (OverData n)
over (Length n) = Some (Length n)

-- a type is over a limit, be it a port or not
abbrev pub IsTooWide : List Data → Passing TypeTree
IsTooWide datas t l = Measured datas t (too_wide l)

-- so the payload of a leaf
abbrev pub IsLeafTooWide : List Data → Passing Leaf
IsLeafTooWide datas leaf l = IsTooWide datas leaf.payload l

-- the type of a binding passes a limit
abbrev pub BindingPasses : List Data → Passing Binding
BindingPasses datas b l = Passes datas b.ty l

-- a type that is found for the term passes a limit
abbrev pub TypePasses : Origins → Spot → Passing TermTree
TypePasses o at e l = (t : TypeTree) × FindsAt o at e t × Passes o.program.datas t l

-- of the limits that are passed in later turns this one is passed in the first
pub record IsPartLimit (o : Origins) (at : Spot) (e : TermTree) (l : NoLayout) : Type 0 where
  pub turn : ℕ
  pub passes : PassesAt o at e (suc turn) l
  pub first : (j : ℕ) (k : NoLayout) → j < turn → PassesAt o at e (suc j) k → ⊥

-- the answer is that limit, or nothing where none is passed in a later turn
abbrev pub FindsPartLimit : Origins → Spot → TermTree → Option NoLayout → Type 0
FindsPartLimit o at e answer =
    MatchOption answer ((j : ℕ) (k : NoLayout) → PassesAt o at e (suc j) k → ⊥)
    (IsPartLimit o at e)

-- of all limits that are passed this one is passed in the first turn
pub record IsLimit (o : Origins) (at : Spot) (e : TermTree) (l : NoLayout) : Type 0 where
  pub turn : ℕ
  pub passes : PassesAt o at e turn l
  pub first : (j : ℕ) (k : NoLayout) → j < turn → PassesAt o at e j k → ⊥

-- the answer is that limit, or nothing where none is passed
abbrev pub FindsLimit : Origins → Spot → TermTree → Option NoLayout → Type 0
FindsLimit o at e answer =
    MatchOption answer ((j : ℕ) (k : NoLayout) → PassesAt o at e j k → ⊥) (IsLimit o at e)

-- the answer is the type that is the argument of this number, or nothing where none is
abbrev pub FindsType : List Arg → ℕ → Option (Bor Ty) → Type 0
FindsType args i answer =
    MatchOption answer ((t : TypeTree) → slice_get args i ≡ Some (OfType t) → ⊥)
    (λ t. slice_get args i ≡ Some (OfType t.now))

-- these types are all that a primitive's type asks for, before the other arguments
pub record AreGiven (schema : TypeTree) (args : List Arg) (types : List TypeTree) : Type 0 where
  pub more : List Arg
  pub are : args ≡ map (λ t. OfType t) types ++ more
  pub all : length types ≡ types_asked schema

-- the answer is those types, or nothing where not all of them are given
abbrev pub FindsTypes : TypeTree → List Arg → Option (Vec TypeTree Global) → Type 0
FindsTypes schema args answer =
    MatchOption answer ((types : List TypeTree) → AreGiven schema args types → ⊥)
    (λ found. AreGiven schema args found.items)
