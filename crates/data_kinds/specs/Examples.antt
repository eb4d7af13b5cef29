-- A data type that refers to itself: its field doesn't say which kind it has.
use Rattle.std.specs.Prelude.{◌≡◌, List, [], ◌∷◌, codes}
use Rattle.chw_types.specs.declared.kind.Kind.{Kind}
use Rattle.chw_types.specs.declared.kind.Kind.TheVariants.{Val, Cir}
use Rattle.chw_types.specs.declared.declarations.Data.{Data}
use Rattle.chw_types.specs.BuiltIn.{constructor_of}
use Rattle.chw_types.specs.TypeTree.{data_of, no_types}
use Rattle.data_kinds.specs.Kinds.{HaveTheirKinds, SameButKinds}

-- `data Loop = Again Loop;` alone, of this kind
abbrev pub loop : Kind → List Data
loop k = record { name = codes "Loop"; params = []; kind = k; cons = constructor_of (codes "Again") (data_of 0 no_types ∷ []) ∷ [] } ∷ []

-- it may be values as well as a circuit
pub record LoopHasTwoKinds : Type 0 where
  pub values : HaveTheirKinds (loop Val) 0
  pub circuit : HaveTheirKinds (loop Cir) 0
  pub same_but_kinds : SameButKinds (loop Val) (loop Cir)
  pub apart : loop Val ≡ loop Cir → ⊥
