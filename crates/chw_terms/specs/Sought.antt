-- What a search for a variable tells. Variables are numbered by 32 bits, so that none is found at a greater place; this makes it safe
-- to end the place at the greatest number of 64 bits.
use Rattle.std.specs.Prelude.{◌≡◌, ℕ, ◌+◌, ◌<◌, ◌≤◌, ◌^◌, Bool, true, false, ◌||◌, List, [], ◌∷◌, drop}
use Rattle.chw_terms.specs.declared.term.Arg.{Arg}
use Rattle.chw_terms.specs.declared.term.Arg.TheVariants.{OfTerm, OfType}
use Rattle.chw_terms.specs.declared.term.Binding.{Binding}
use Rattle.chw_terms.specs.declared.term.Alt.{Alt}
use Rattle.chw_terms.specs.TermTree.{binders}
use Rattle.chw_terms.specs.Occurs.{occurs}

-- the answer of a test at a place: where it is yes the place is small, and where it is no the test fails at each great place too
abbrev pub Found : (ℕ → Bool) → ℕ → Bool → Type 0
Found f v true = (f v ≡ true) × (v < 2 ^ 32)
Found f v false = (f v ≡ false) × ((w : ℕ) → 2 ^ 32 ≤ w → f w ≡ false)

-- two tests agree at a place and at each great place
abbrev pub Agree : (ℕ → Bool) → (ℕ → Bool) → ℕ → Type 0
Agree f g v = (f v ≡ g v) × ((w : ℕ) → 2 ^ 32 ≤ w → f w ≡ g w)

-- whether a test holds for an item
abbrev pub any_of : {X : Type 0} → (X → ℕ → Bool) → List X → ℕ → Bool
any_of p [] v = false
any_of p (x ∷ xs) v = p x v || any_of p xs v

-- a search among items that found nothing before this one
abbrev pub NoneBefore : {X : Type 0} → (X → ℕ → Bool) → List X → ℕ → ℕ → Type 0
NoneBefore p xs i v = Agree (any_of p xs) (any_of p (drop i xs)) v

-- whether a variable occurs in an argument
abbrev pub occurs_in : Arg → ℕ → Bool
occurs_in (OfTerm e) v = occurs e v
occurs_in (OfType t) v = false

-- whether a variable occurs in a right side; the binders of the group are already passed
abbrev pub occurs_in_binding : Binding → ℕ → Bool
occurs_in_binding b v = occurs b.body v

-- whether a variable occurs in an alternative
abbrev pub occurs_in_alt : Alt → ℕ → Bool
occurs_in_alt a v = occurs a.body (v + binders a.pattern)
