-- What the parts of unrolling ask for and give: the body at type arguments whose closed naturals are
-- numerals.
use Rattle.std.specs.Prelude.{◌≡◌, ℕ, List, [], ◌∷◌, Some, IsSome}
use Rattle.chw_types.specs.TypeTree.{TypeTree, nat_lit}
use Rattle.chw_prims.specs.declared.row.Row.{Row}
use Rattle.chw_terms.specs.TermTree.{TermTree}
use Rattle.chw_terms.specs.Unrolled.{body_of}

-- the primitives of a line have a body at these types
abbrev pub HasBody : Row → List TypeTree → Type 0
HasBody row types = IsSome (body_of row types)

-- it is this one
abbrev pub IsBody : Row → List TypeTree → TermTree → Type 0
IsBody row types e = body_of row types ≡ Some e

-- types that are a number and one, two or three types, or two numbers and a type
abbrev pub Sized1 : List TypeTree → Type 0
Sized1 ts = (n : ℕ) × (a : TypeTree) × (ts ≡ nat_lit n ∷ a ∷ [])

abbrev pub Sized2 : List TypeTree → Type 0
Sized2 ts = (n : ℕ) × (a : TypeTree) × (b : TypeTree) × (ts ≡ nat_lit n ∷ a ∷ b ∷ [])

abbrev pub Sized3 : List TypeTree → Type 0
Sized3 ts = (n : ℕ) × (a : TypeTree) × (b : TypeTree) × (c : TypeTree) × (ts ≡ nat_lit n ∷ a ∷ b ∷ c ∷ [])

abbrev pub TwiceSized : List TypeTree → Type 0
TwiceSized ts = (n : ℕ) × (m : ℕ) × (a : TypeTree) × (ts ≡ nat_lit n ∷ nat_lit m ∷ a ∷ [])
