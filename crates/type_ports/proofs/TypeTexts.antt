-- What the code of texts owes.
use Rattle.std.proofs.Common.{◌≡◌, ℕ, true, false, List, [], ◌∷◌, length, eqb, ap}
use Rattle.std.proofs.lemmas.Bool.{eq-eqb}
use Rattle.chw_types.specs.TypeTree.{TypeTree, data_of}
use Rattle.chw_types.specs.TypeView.{trees_of}
use Rattle.type_ports.specs.TypeText.{tightness}

-- a data type with arguments
pub with_arguments : (d n : ℕ) (ts : List TypeTree) (x : TypeTree) → data_of d (trees_of ts) ≡ x → n ≡ length ts → eqb n 0 ≡ false → 3 ≡ tightness x
with_arguments d n [] x e f g = let h : eqb n 0 ≡ true = eq-eqb n 0 f in absurd (cc)
with_arguments d n (t ∷ ts) x e f g = ap tightness e
