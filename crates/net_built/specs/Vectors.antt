-- The cells that take elements of vectors.
use Rattle.std.specs.Prelude.{ℕ, zero, suc, ◌+◌, ◌-◌, ◌*◌, ◌^◌, min, Bool, List, [], ◌∷◌}
use Rattle.chw_base.specs.declared.index.WireId.{WireId}
use Rattle.chw_bits.specs.Bits.{bits_of}
use Rattle.netlist.specs.declared.net.Cell.TheVariants.{Cut}
use Rattle.net_built.specs.Data.{tests, test_wires, chosen}
use Rattle.net_built.specs.Wires.{wire, new_wires, wire_count, Piece, nothing, one, ◌▸◌}
use Rattle.net_built.specs.Wires.{after}
use Rattle.net_built.specs.Words.{only}

-- the element of so many bits behind which stand so many others; element 0 is the most significant
abbrev pub element : (width behind at : ℕ) → List WireId → Piece
element width behind at v =
    one width (Cut (wire at) (only v) ((behind + 1) * width - 1) (behind * width))

-- the last elements, so many, in order
abbrev pub elements : (width count at : ℕ) → List WireId → Piece
elements width zero at v = nothing
elements width (suc behind) at v =
    let p : Piece = element width behind at v in p ▸ elements width behind (after at p) v

-- the wires of so many elements that were cut out from wire n on
abbrev pub element_wires : (width count n : ℕ) → List (List WireId)
element_wires width zero n = []
element_wires width (suc count) n =
    new_wires n (width ∷ []) ∷ element_wires width count (n + wire_count (width ∷ []))

-- the words of k bits for the numbers from j on, so many
abbrev pub words_from : (k j count : ℕ) → List (List Bool)
words_from k j zero = []
words_from k j (suc count) = bits_of k j ∷ words_from k (j + 1) count

-- the element that a word of k bits names, of n + 1 elements: all are cut out; those before the
-- last are tested for as far as words of k bits go; past them comes the last
abbrev pub element_at : (width n k at : ℕ) → (v i : List WireId) → Piece
element_at width n k at v i =
    let words : List (List Bool) = words_from k 0 (min n (2 ^ k)) in
    let p : Piece = elements width (n + 1) at v in
    let q : Piece = tests k i words (after at p) in
    p ▸ q
    ▸ chosen width (test_wires k i words (after at p)) (element_wires width (n + 1) at)
    (after (after at p) q)
