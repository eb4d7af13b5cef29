-- Words bit by bit, and truth values as words of one bit.
use Rattle.std.specs.Prelude.{Bool, not, ◌&&◌, ◌||◌, List, [], ◌∷◌, map, zip}

-- two words bit by bit
abbrev pub bit_by_bit : (Bool → Bool → Bool) → (a b : List Bool) → List Bool
bit_by_bit of a b = map (λ pair. of pair.0 pair.1) (zip a b)

-- whether just one of two bits is set
abbrev pub differ : (x y : Bool) → Bool
differ x y = x && not y || not x && y

-- a truth value as one bit
abbrev pub one_bit : Bool → List Bool
one_bit bit = bit ∷ []
