-- Shapes of types, of terms and of arguments, told by cases.
use Rattle.std.specs.Prelude.{ℕ, List, [], ◌∷◌}
use Rattle.chw_prims.specs.declared.prim.Primitive.{Primitive as Prim}
use Rattle.chw_prims.specs.declared.prim.Primitive.TheVariants.{Fmap, Ap}
use Rattle.chw_types.specs.TypeTree.{TypeTree, domain, vector, data_of}
use Rattle.chw_terms.specs.declared.term.Alt.{Alt}
use Rattle.chw_terms.specs.declared.term.Arg.{Arg}
use Rattle.chw_terms.specs.declared.term.Arg.TheVariants.{OfTerm, OfType}
use Rattle.chw_terms.specs.declared.term.Pattern.{Pattern}
use Rattle.chw_terms.specs.declared.term.Pattern.TheVariants.{OfCon}
use Rattle.chw_terms.specs.TermTree.{TermTree, var, made, letrec, prim, vec_lit}
use Rattle.net_built.specs.Circuits.{IsLifted}
use Rattle.value_build.specs.ReadyParts.{IsName}

-- a made definition
abbrev pub IsMade : TermTree → Type 0
IsMade (made m) = Unit {0}
IsMade _ = ⊥

-- a primitive
abbrev pub IsPrimitive : TermTree → Type 0
IsPrimitive (prim p) = Unit {0}
IsPrimitive _ = ⊥

-- a vector of terms
abbrev pub IsVectorTerm : TermTree → Type 0
IsVectorTerm (vec_lit t es) = Unit {0}
IsVectorTerm _ = ⊥

-- a variable, or a letrec that gives one
abbrev pub IsBlockForm : TermTree → Type 0
IsBlockForm (var x) = Unit {0}
IsBlockForm (letrec g e) = IsName e
IsBlockForm _ = ⊥

-- a domain
abbrev pub IsDomain : TypeTree → Type 0
IsDomain (domain d) = Unit {0}
IsDomain _ = ⊥

-- a vector's type
abbrev pub IsVector : TypeTree → Type 0
IsVector (vector n t) = Unit {0}
IsVector _ = ⊥

-- a data type on types
abbrev pub IsData : TypeTree → Type 0
IsData (data_of d ts) = Unit {0}
IsData _ = ⊥

-- a pattern for a constructor
abbrev pub IsConPattern : Pattern → Type 0
IsConPattern (OfCon c n) = Unit {0}
IsConPattern _ = ⊥

-- one alternative
abbrev pub IsOneAlternative : List Alt → Type 0
IsOneAlternative (a ∷ []) = Unit {0}
IsOneAlternative _ = ⊥

-- three types, a function and a signal
abbrev pub IsLifting : List Arg → Type 0
IsLifting (OfType d ∷ OfType a ∷ OfType b ∷ OfTerm f ∷ OfTerm x ∷ []) = Unit {0}
IsLifting _ = ⊥

-- a made definition that is lifted on operands
abbrev pub IsSomeLifted : TermTree → Type 0
IsSomeLifted u = (m : ℕ) × (es : List TermTree) × IsLifted m u es

-- a primitive that lifts this function: a made definition, or one that is lifted already
abbrev pub IsLiftedBy : Prim → TermTree → Type 0
IsLiftedBy Fmap f = IsMade f
IsLiftedBy Ap f = IsSomeLifted f
IsLiftedBy _ f = ⊥
