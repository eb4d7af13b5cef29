-- The names of single bits: of the bits of a wire, and of the further nodes of the cell that drives
-- a wire.
use Rattle.std.specs.Prelude.{ℕ, zero, suc, ◌+◌, nat_lt, if◌then◌else◌}
use Rattle.std.specs.Prelude.{List, [], ◌∷◌, ◌++◌, length, map, codes, decimal, slice_index_or}
use Rattle.chw_clock.specs.declared.event.Ports.{Ports}
use Rattle.verilog_text.specs.Names.{input_name, wire_text}

-- the bit at this place of a word of this name
abbrev pub place_name : List ℕ → ℕ → List ℕ
place_name name j = name ++ codes "_" ++ decimal j

-- the bits of a word of this name and this width, the most significant first
abbrev pub word_names : List ℕ → ℕ → List (List ℕ)
word_names name zero = []
word_names name (suc width) = place_name name width ∷ word_names name width

-- a flat wire: an input has its port's name
abbrev pub wire_name : Ports → ℕ → List ℕ
wire_name ports w =
    if nat_lt w (length ports.inputs)
    then slice_index_or (map (input_name ports.domains) ports.inputs) w []
    else wire_text w

-- a bit of a flat wire
abbrev pub bit_name : Ports → (w j : ℕ) → List ℕ
bit_name ports w j = place_name (wire_name ports w) j

-- the further node of this number, of the cell that drives the wire
abbrev pub further : (w x : ℕ) → List ℕ
further w x = wire_text w ++ codes "_x" ++ decimal x

-- so many further nodes from this number on, the last one first
abbrev pub furthers : (w x count : ℕ) → List (List ℕ)
furthers w x zero = []
furthers w x (suc count) = further w (x + count) ∷ furthers w x count
