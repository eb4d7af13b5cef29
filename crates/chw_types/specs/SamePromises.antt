-- What is promised of types that are the same.
use Rattle.std.specs.Prelude.{◌≡◌, ℕ, ◌+◌, ◌*◌, ◌≤◌, true}
use Rattle.chw_types.specs.TypeTree.{TypeTree, ty_var, nat_lit, nat_sum, nat_product}
use Rattle.chw_types.specs.Polynomials.{greatest, ended, is_natural, SameNaturals}
use Rattle.chw_types.specs.SameTypes.{SameTypes}

abbrev pub SameReflexive : Type 0
SameReflexive = (t : TypeTree) → SameTypes t t

abbrev pub SameSymmetric : Type 0
SameSymmetric = (t u : TypeTree) → SameTypes t u → SameTypes u t

abbrev pub SameTransitive : Type 0
SameTransitive = (t u v : TypeTree) → SameTypes t u → SameTypes u v → SameTypes t v

-- the value of a natural where its variables have these values: sums and products end at the greatest natural
unfoldable pub natural_value : (ℕ → ℕ) → TypeTree → ℕ
natural_value ρ (ty_var x) = ρ x
natural_value ρ (nat_lit n) = ended n
natural_value ρ (nat_sum a b) = ended (natural_value ρ a + natural_value ρ b)
natural_value ρ (nat_product a b) = ended (natural_value ρ a * natural_value ρ b)
natural_value ρ _ = 0

-- naturals of one polynomial have one value, whatever naturals their variables stand for
abbrev pub SameValues : Type 0
SameValues =
    (a b : TypeTree) (ρ : ℕ → ℕ) → ((x : ℕ) → ρ x ≤ greatest) → is_natural a ≡ true → is_natural b ≡ true → SameNaturals a b → natural_value ρ a ≡ natural_value ρ b
