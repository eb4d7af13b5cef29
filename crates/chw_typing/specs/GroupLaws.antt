-- What is promised of groups, of alternatives and of where variables occur.
use Rattle.std.specs.Prelude.{◌≡◌, ◌≢◌, ◌↔◌, ℕ, ◌+◌, ◌<◌, true, false}
use Rattle.std.specs.Prelude.{List, ◌++◌, map, length, Contains, AllPairs}
use Rattle.chw_types.specs.declared.declarations.Data.{Data}
use Rattle.chw_types.specs.TypeTree.{TypeTree}
use Rattle.chw_types.specs.TypeMoves.{Renaming}
use Rattle.chw_terms.specs.declared.term.Arg.{Arg}
use Rattle.chw_terms.specs.TermTree.{TermTree, Terms, Group, Alts, size_of}
use Rattle.chw_terms.specs.TermView.{applied}
use Rattle.chw_terms.specs.TermMoves.{rename, rename_all, rename_group, rename_alts, Substitution}
use Rattle.chw_terms.specs.TermMoves.{sub, sub_all, sub_group, sub_alts, shift, put, in_place_of}
use Rattle.chw_terms.specs.TermMoves.{lowered, exchanged}
use Rattle.chw_terms.specs.Occurs.{occurs}
use Rattle.chw_terms.specs.FreeVariables.{free_in}
use Rattle.chw_typing.specs.Scopes.{with_more, declared}
use Rattle.chw_typing.specs.Alternatives.{NoneHidden, IsCovered}
use Rattle.chw_typing.specs.Typing.{count}
use Rattle.chw_typing.specs.Groups.{joined, binding_at, Reached, each_body, patterns, rename_arg}

-- a variable occurs after renaming where one that occurs is brought to it
abbrev pub OccursAfterRename : Type 0
OccursAfterRename =
    (e : TermTree) (ρ : Renaming) (y : ℕ)
    → (occurs (rename e ρ) y ≡ true) ↔ ((x : ℕ) × (occurs e x ≡ true) × (ρ x ≡ y))

-- and after putting terms, where it occurs in what is put for one that occurs
abbrev pub OccursAfterSub : Type 0
OccursAfterSub =
    (e : TermTree) (σ : Substitution) (y : ℕ)
    → (occurs (sub e σ) y ≡ true) ↔ ((x : ℕ) × (occurs e x ≡ true) × (occurs (σ x) y ≡ true))

-- only where the variables that occur are brought matters
abbrev pub RenameWhereOccurs : Type 0
RenameWhereOccurs =
    (e : TermTree) (ρ π : Renaming)
    → ((x : ℕ) → occurs e x ≡ true → ρ x ≡ π x) → rename e ρ ≡ rename e π

-- a term from outside of c binders, raised by c, stands in the scope of the result
abbrev pub PutIsInPlace : Type 0
PutIsInPlace = (e a : TermTree) (c : ℕ) → put e c a ≡ sub e (in_place_of c (shift a 0 c))

-- where the variable doesn't occur, the others only come down
abbrev pub InPlaceWhereAbsent : Type 0
InPlaceWhereAbsent =
    (e a : TermTree) (v : ℕ) → occurs e v ≡ false → sub e (in_place_of v a) ≡ rename e (lowered v)

-- room for m variables below is, when they change places with the next n, room behind these n
abbrev pub ShiftIsExchange : Type 0
ShiftIsExchange = (e : TermTree) (m n : ℕ) → rename (shift e 0 m) (exchanged m n) ≡ shift e n m

-- the same variables change places again
abbrev pub ExchangedBack : Type 0
ExchangedBack = (e : TermTree) (m n : ℕ) → rename (rename e (exchanged m n)) (exchanged n m) ≡ e

-- the arguments of a spine are renamed each for itself
abbrev pub SpineRenamed : Type 0
SpineRenamed =
    (e : TermTree) (args : List Arg) (ρ : Renaming)
    → rename (applied e args) ρ ≡ applied (rename e ρ) (map (rename_arg ρ) args)

-- two groups bind what both bind
abbrev pub DeclaredJoined : Type 0
DeclaredJoined = (g h : Group) → declared (joined g h) ≡ declared g ++ declared h

-- and as many variables
abbrev pub SizeJoined : Type 0
SizeJoined = (g h : Group) → size_of (joined g h) ≡ size_of g + size_of h

-- the bindings of the first group keep their numbers
abbrev pub FirstOfJoined : Type 0
FirstOfJoined = (g h : Group) (i : ℕ) → i < size_of g → binding_at (joined g h) i ≡ binding_at g i

-- those of the second come behind
abbrev pub SecondOfJoined : Type 0
SecondOfJoined = (g h : Group) (i : ℕ) → binding_at (joined g h) (size_of g + i) ≡ binding_at h i

-- two groups are renamed, and terms are put in them, each for itself
abbrev pub JoinedRenamed : Type 0
JoinedRenamed =
    (g h : Group) (ρ : Renaming)
    → rename_group (joined g h) ρ ≡ joined (rename_group g ρ) (rename_group h ρ)

abbrev pub JoinedPut : Type 0
JoinedPut =
    (g h : Group) (σ : Substitution)
    → sub_group (joined g h) σ ≡ joined (sub_group g σ) (sub_group h σ)

-- what is reached is a binding of the group
abbrev pub ReachedIsBinding : Type 0
ReachedIsBinding = (g : Group) (e : TermTree) (i : ℕ) → Reached g e i → i < size_of g

-- variables that are bound one list after the other are bound as one list
abbrev pub WithMoreTwice : Type 0
WithMoreTwice =
    (us ts vars : List TypeTree) → with_more us (with_more ts vars) ≡ with_more (ts ++ us) vars

-- a group declares a type for each variable
abbrev pub DeclaredLength : Type 0
DeclaredLength = (g : Group) → length (declared g) ≡ size_of g

-- and the same ones after renaming and putting
abbrev pub DeclaredRenamed : Type 0
DeclaredRenamed = (g : Group) (ρ : Renaming) → declared (rename_group g ρ) ≡ declared g

abbrev pub DeclaredPut : Type 0
DeclaredPut = (g : Group) (σ : Substitution) → declared (sub_group g σ) ≡ declared g

-- there are as many elements after renaming and putting
abbrev pub CountRenamed : Type 0
CountRenamed = (es : Terms) (ρ : Renaming) → count (rename_all es ρ) ≡ count es

abbrev pub CountPut : Type 0
CountPut = (es : Terms) (σ : Substitution) → count (sub_all es σ) ≡ count es

-- changing bodies, renaming and putting keep the patterns
abbrev pub PatternsOfEach : Type 0
PatternsOfEach =
    (f : ℕ → TermTree → TermTree) (alts : Alts) → patterns (each_body f alts) ≡ patterns alts

abbrev pub PatternsRenamed : Type 0
PatternsRenamed = (alts : Alts) (ρ : Renaming) → patterns (rename_alts alts ρ) ≡ patterns alts

abbrev pub PatternsPut : Type 0
PatternsPut = (alts : Alts) (σ : Substitution) → patterns (sub_alts alts σ) ≡ patterns alts

-- whether an alternative is hidden depends on the patterns alone
abbrev pub NoneHiddenByPatterns : Type 0
NoneHiddenByPatterns =
    (alts more : Alts) → patterns alts ≡ patterns more → NoneHidden alts → NoneHidden more

-- and so does whether there is one for whatever is looked at
abbrev pub CoveredByPatterns : Type 0
CoveredByPatterns =
    (datas : List Data) (alts more : Alts)
    → patterns alts ≡ patterns more → IsCovered datas alts → IsCovered datas more

-- the free variables are those that occur
abbrev pub FreeAreOccurring : Type 0
FreeAreOccurring = (e : TermTree) (x : ℕ) → Contains (free_in e) x ↔ (occurs e x ≡ true)

-- and each stands there once
abbrev pub FreeAreDistinct : Type 0
FreeAreDistinct = (e : TermTree) → AllPairs (λ x y. x ≢ y) (free_in e)
