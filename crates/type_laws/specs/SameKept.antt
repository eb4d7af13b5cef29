-- What is promised of types that are the same: their kinds, their parts, and what is put into them.
use Rattle.std.specs.Prelude.{◌≡◌, ◌↔◌, ℕ, true, ◌⊎◌, List, ◌∷◌, ◌++◌, length, reverse}
use Rattle.chw_types.specs.declared.kind.Kind.{Kind}
use Rattle.chw_types.specs.declared.kind.Scalar.{Scalar}
use Rattle.chw_types.specs.declared.declarations.Data.{Data}
use Rattle.chw_types.specs.TypeTree.{TypeTree, domain, scalar, vector, data_of, fun, signal, for_all, TypeTrees}
use Rattle.chw_types.specs.TypeMoves.{shift, put, Substitution, sub}
use Rattle.chw_types.specs.Arguments.{arguments}
use Rattle.chw_types.specs.Kinds.{KindOf, KindsOf}
use Rattle.chw_types.specs.Polynomials.{is_natural, SameNaturals}
use Rattle.chw_types.specs.SameTypes.{SameTypes, SameAll}
use Rattle.type_laws.specs.KindsKept.{AreOfTerms}
use Rattle.type_laws.specs.Standing.{InSums}

-- types that are the same and have kinds have one kind
abbrev pub SameKinds : Type 0
SameKinds =
    (datas : List Data) (domains : ℕ) (scope : List Kind) (t u : TypeTree) (j k : Kind) → SameTypes t u → KindOf datas domains scope t j → KindOf datas domains scope u k → j ≡ k

-- what is the same as a domain, a scalar, a vector, a data type, a function, a signal or a bound type is one too, with the same parts
abbrev pub SameAsDomain : Type 0
SameAsDomain = (d : ℕ) (u : TypeTree) → SameTypes (domain d) u → u ≡ domain d

abbrev pub SameAsScalar : Type 0
SameAsScalar = (s : Scalar) (w u : TypeTree) → SameTypes (scalar s w) u → (v : TypeTree) × (u ≡ scalar s v) × SameTypes w v

abbrev pub SameAsVector : Type 0
SameAsVector =
    (n t u : TypeTree) → SameTypes (vector n t) u → (m : TypeTree) × (v : TypeTree) × (u ≡ vector m v) × SameTypes n m × SameTypes t v

abbrev pub SameAsData : Type 0
SameAsData = (d : ℕ) (ts : TypeTrees) (u : TypeTree) → SameTypes (data_of d ts) u → (us : TypeTrees) × (u ≡ data_of d us) × SameAll ts us

abbrev pub SameAsFunction : Type 0
SameAsFunction =
    (a b u : TypeTree) → SameTypes (fun a b) u → (c : TypeTree) × (d : TypeTree) × (u ≡ fun c d) × SameTypes a c × SameTypes b d

abbrev pub SameAsSignal : Type 0
SameAsSignal =
    (d t u : TypeTree) → SameTypes (signal d t) u → (e : TypeTree) × (v : TypeTree) × (u ≡ signal e v) × SameTypes d e × SameTypes t v

abbrev pub SameAsBound : Type 0
SameAsBound = (k : Kind) (t u : TypeTree) → SameTypes (for_all k t) u → (v : TypeTree) × (u ≡ for_all k v) × SameTypes t v

-- what is the same as a natural is one, of its polynomial
abbrev pub SameAsNatural : Type 0
SameAsNatural = (t u : TypeTree) → SameTypes t u → (is_natural t ≡ is_natural u) × SameNaturals t u

-- the same for each variable keeps types the same, if it is a natural for each variable in a sum or product
abbrev pub PuttingAllKeepsSame : Type 0
PuttingAllKeepsSame =
    (t u : TypeTree) (σ τ : Substitution) → SameTypes t u → ((x : ℕ) → SameTypes (σ x) (τ x)) → ((x : ℕ) → InSums t x ⊎ InSums u x → is_natural (σ x) ≡ true)
    → SameTypes (sub t σ) (sub u τ)

-- what is put into types that are the same keeps them the same, if it is a natural wherever it comes into a sum or product
abbrev pub PutKeepsSame : Type 0
PutKeepsSame =
    (t u a b : TypeTree) (c : ℕ) → SameTypes t u → SameTypes a b → (InSums t c ⊎ InSums u c → is_natural a ≡ true) → SameTypes (put t c a) (put u c b)

-- so it does where both types have a kind, and what is put has the variable's
abbrev pub PutKeepsSameOfKinds : Type 0
PutKeepsSameOfKinds =
    (datas : List Data) (domains : ℕ) (inner outer scope : List Kind) (t u a b : TypeTree) (i j k : Kind) → AreOfTerms datas
    → KindOf datas domains (inner ++ j ∷ outer) t i → KindOf datas domains (inner ++ j ∷ outer) u k → KindOf datas domains scope a j
    → SameTypes t u → SameTypes a b → SameTypes (put t (length inner) a) (put u (length inner) b)

-- a shift keeps types the same, and keeps others apart
abbrev pub ShiftKeepsSame : Type 0
ShiftKeepsSame = (t u : TypeTree) (c by : ℕ) → (SameTypes t u ↔ SameTypes (shift t c by) (shift u c by))

-- arguments that are the same keep types the same
abbrev pub ArgumentsKeepSame : Type 0
ArgumentsKeepSame =
    (t u : TypeTree) (ts us : TypeTrees) → SameTypes t u → SameAll ts us → ((x : ℕ) → InSums t x ⊎ InSums u x → is_natural (arguments ts x) ≡ true)
    → SameTypes (sub t (arguments ts)) (sub u (arguments us))

-- so do those of the parameters' kinds in a field of a data type
abbrev pub FieldsKeepSame : Type 0
FieldsKeepSame =
    (datas : List Data) (domains : ℕ) (scope params : List Kind) (f : TypeTree) (ts us : TypeTrees) (k : Kind) → AreOfTerms datas
    → KindOf datas domains (reverse params) f k → KindsOf datas domains scope ts params → SameAll ts us
    → SameTypes (sub f (arguments ts)) (sub f (arguments us))
