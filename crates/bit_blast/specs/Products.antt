-- Products by the numbers of their further nodes.
use Rattle.std.specs.Prelude.{ℕ, zero, suc, ◌+◌, ◌-◌, ◌*◌, List, [], ◌∷◌}
use Rattle.bit_laws.specs.BitNames.{further}
use Rattle.bit_laws.specs.Bitnet.{Node}
use Rattle.bit_laws.specs.Blast.{gate_of, row_nodes}
use Rattle.bit_laws.specs.Gates.Gate.{both, most, never, odd}

-- the nodes of a row at one place, where c is the number of the carry that it reads
abbrev pub place_nodes : (k c : ℕ) → (p x y : List ℕ) → List Node
place_nodes k c p x y =
    gate_of both (x ∷ y ∷ []) (further k (c + 1))
    ∷ gate_of odd (p ∷ further k (c + 1) ∷ further k c ∷ []) (further k (c + 2))
    ∷ gate_of most (p ∷ further k (c + 1) ∷ further k c ∷ []) (further k (c + 3)) ∷ []

-- a row behind its first carry, which has this number
abbrev pub carried_row : (k c : ℕ) → (ps xs : List (List ℕ)) → (y : List ℕ) → List Node
carried_row k c ps xs y = gate_of never [] (further k c) ∷ row_nodes k c ps xs y

-- the number of the first carry of a row of a product of this width. Row 0 has no carry.
abbrev pub first_carry : (width row : ℕ) → ℕ
first_carry width zero = 0
first_carry width (suc zero) = width
first_carry width (suc (suc row)) = first_carry width (suc row) + (1 + 3 * (width - suc row))

-- the number of the node that a place of the product has in the end
abbrev pub end_number : (width place : ℕ) → ℕ
end_number width zero = 0
end_number width (suc place) = first_carry width (suc place) + 2
