-- Types that are circuits, and constructors with fields that are.
use Rattle.std.specs.Prelude.{ℕ, Bool, true, false, List, Result, Ok, Err}
use Rattle.std.specs.List.{Any}
use Rattle.chw_types.specs.declared.kind.Kind.{Kind}
use Rattle.chw_types.specs.declared.kind.Kind.TheVariants.{Cir}
use Rattle.chw_types.specs.declared.declarations.ConDecl.{ConDecl}
use Rattle.chw_types.specs.declared.declarations.Data.{Data}
use Rattle.chw_types.specs.declared.kinding.KindFault.{KindFault}
use Rattle.chw_types.specs.Kinds.{KindOf}

-- whether the kind that was found is that of circuits
abbrev pub is_cir : Result Kind KindFault → Bool
is_cir (Ok Cir) = true
is_cir (Ok _) = false
is_cir (Err e) = false

-- a field of the constructor is a circuit, with variables of these kinds
abbrev pub SomeCircuit : List Data → ℕ → List Kind → ConDecl → Type 0
SomeCircuit datas domains scope c = Any (λ t. KindOf datas domains scope t Cir) c.fields
