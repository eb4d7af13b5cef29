-- Words of bits by the places of their bits.
use Rattle.std.specs.Prelude.{ℕ, zero, suc, ◌+◌, List, [], ◌∷◌}
use Rattle.netlist.specs.declared.net.Flat.{Flat}
use Rattle.bit_laws.specs.BitNames.{wire_name, word_names}
use Rattle.bit_nodes.specs.Standing.{name_of}
use Rattle.bit_nodes.specs.declared.nodes.BitName.{BitName}
use Rattle.bit_nodes.specs.declared.nodes.BitName.TheVariants.{Bit, Further, Output}
use Rattle.bit_blast.specs.declared.names.Word.{Word}
use Rattle.bit_blast.specs.declared.names.Word.TheVariants.{Part, Port, Furthers}

-- the names at so many places, the highest place first
abbrev pub by_places : (ℕ → List ℕ) → ℕ → List (List ℕ)
by_places f zero = []
by_places f (suc n) = f n ∷ by_places f n

-- the bit of a word at this place
abbrev pub bit_of : Word → ℕ → BitName
bit_of (Part wire low) j = Bit wire (low + j)
bit_of (Port port) j = Output port j
bit_of (Furthers wire first) j = Further wire (first + j)

-- the names of the lowest bits of a word, so many, the most significant first
abbrev pub names_of : Flat → Word → ℕ → List (List ℕ)
names_of flat word n = by_places (λ j. name_of flat (bit_of word j)) n

-- the number behind those of so many bits
abbrev pub end_of : Word → ℕ → ℕ
end_of (Part wire low) n = low + n
end_of (Port port) n = n
end_of (Furthers wire first) n = first + n

-- the names of the lowest bits of a wire, so many; all of them are its word
abbrev pub lowest : Flat → (w n : ℕ) → List (List ℕ)
lowest flat w n = word_names (wire_name flat.ports w) n
