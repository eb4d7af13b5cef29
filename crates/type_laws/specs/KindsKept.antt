-- What is promised of the kinds of types that something was put into.
use Rattle.std.specs.Prelude.{◌≡◌, ◌↔◌, ℕ, true, List, ◌∷◌, ◌++◌, length, reverse, Some}
use Rattle.std.specs.List.{slice_get}
use Rattle.chw_types.specs.declared.kind.Kind.{Kind}
use Rattle.chw_types.specs.declared.kind.Kind.TheVariants.{Nat}
use Rattle.chw_types.specs.declared.declarations.Data.{Data}
use Rattle.chw_types.specs.TypeTree.{TypeTree, TypeTrees}
use Rattle.chw_types.specs.TypeMoves.{put, Substitution, sub}
use Rattle.chw_types.specs.Arguments.{arguments}
use Rattle.chw_types.specs.Kinds.{IsOfTerms, KindOf, KindsOf}
use Rattle.chw_types.specs.Polynomials.{is_natural}
use Rattle.type_laws.specs.DegreesFit.{DegreesFit}

-- the kind of each data type is one of terms
abbrev pub AreOfTerms : List Data → Type 0
AreOfTerms datas = (d : ℕ) (it : Data) → slice_get datas d ≡ Some it → IsOfTerms it.kind

-- over such data types, what has the kind of naturals is a natural
abbrev pub NatIsNatural : Type 0
NatIsNatural =
    (datas : List Data) (domains : ℕ) (scope : List Kind) (t : TypeTree) → AreOfTerms datas → KindOf datas domains scope t Nat → is_natural t ≡ true

-- what has a kind has no natural of too great a degree
abbrev pub KindedFits : Type 0
KindedFits = (datas : List Data) (domains : ℕ) (scope : List Kind) (t : TypeTree) (k : Kind) → KindOf datas domains scope t k → DegreesFit t

-- types of the variables' kinds were put: the kind is kept exactly where no natural came to have too great a degree
abbrev pub PuttingAllKeepsKindExactly : Type 0
PuttingAllKeepsKindExactly =
    (datas : List Data) (domains : ℕ) (scope scope' : List Kind) (t : TypeTree) (σ : Substitution) (k : Kind) → KindOf datas domains scope t k
    → ((x : ℕ) (j : Kind) → slice_get scope x ≡ Some j → KindOf datas domains scope' (σ x) j)
    → (KindOf datas domains scope' (sub t σ) k ↔ DegreesFit (sub t σ))

-- a type of the variable's kind was put: the kind is kept exactly where no natural came to have too great a degree
abbrev pub PutKeepsKindExactly : Type 0
PutKeepsKindExactly =
    (datas : List Data) (domains : ℕ) (inner outer : List Kind) (t a : TypeTree) (j k : Kind) → KindOf datas domains (inner ++ j ∷ outer) t k → KindOf datas domains outer a j
    → (KindOf datas domains (inner ++ outer) (put t (length inner) a) k ↔ DegreesFit (put t (length inner) a))

-- so it has no other kind
abbrev pub PutHasNoOtherKind : Type 0
PutHasNoOtherKind =
    (datas : List Data) (domains : ℕ) (inner outer : List Kind) (t a : TypeTree) (i j k : Kind) → KindOf datas domains (inner ++ j ∷ outer) t k → KindOf datas domains outer a j
    → KindOf datas domains (inner ++ outer) (put t (length inner) a) i → i ≡ k

-- the same of a field of a data type, with arguments of the parameters' kinds
abbrev pub ArgumentsKeepKindExactly : Type 0
ArgumentsKeepKindExactly =
    (datas : List Data) (domains : ℕ) (scope params : List Kind) (f : TypeTree) (ts : TypeTrees) (k : Kind) → KindOf datas domains (reverse params) f k → KindsOf datas domains scope ts params
    → (KindOf datas domains scope (sub f (arguments ts)) k ↔ DegreesFit (sub f (arguments ts)))
