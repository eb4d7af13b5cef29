-- How the logic stores a list of bits: as a tree of numbers, which gives it back.
use Rattle.std.specs.Prelude.{◌≡◌, suc, Bool, true, false, List, [], ◌∷◌, refl}
use base.Stored.{Gv, gnil, gnum, gcons}

abbrev pub bit_code : Bool → Gv
bit_code true = gnum 1
bit_code false = gnum 0

abbrev pub bit_back : Gv → Bool
bit_back (gnum (suc n)) = true
bit_back _ = false

abbrev pub bits_code : List Bool → Gv
bits_code [] = gnil
bits_code (b ∷ bs) = gcons (bit_code b) (bits_code bs)

abbrev pub bits_back : Gv → List Bool
bits_back (gcons b bs) = bit_back b ∷ bits_back bs
bits_back _ = []

pub bit_same : (b : Bool) → bit_back (bit_code b) ≡ b
bit_same true = refl
bit_same false = refl

pub bits_same : (bs : List Bool) → bits_back (bits_code bs) ≡ bs
bits_same [] = refl
bits_same (b ∷ bs) = λ i. bit_same b i ∷ bits_same bs i
