-- Shifts by the places of their bits.
use Rattle.std.specs.Prelude.{ℕ, ◌+◌, ◌-◌, nat_lt, if◌then◌else◌, List}
use Rattle.bit_laws.specs.Blast.{moved_down, moved_up}
use Rattle.bit_nodes.specs.declared.nodes.BitName.{BitName}
use Rattle.bit_blast.specs.Names.{bit_of}
use Rattle.bit_blast.specs.declared.names.Word.{Word}
use Rattle.bit_blast.specs.declared.shifts.Move.{Move}
use Rattle.bit_blast.specs.declared.shifts.Way.{Way}
use Rattle.bit_blast.specs.declared.shifts.Way.TheVariants.{Up, Down}

-- how names move this way by so many places, with this filling
abbrev pub mover : Way → (filling : List ℕ) → (places : ℕ) → List (List ℕ) → List (List ℕ)
mover Up filling = λ places. moved_up places filling
mover Down filling = λ places. moved_down places filling

-- the bit at a place of a word of this width that moved so
abbrev pub bit_behind : Way → (filling : BitName) → (places width : ℕ) → Word → ℕ → BitName
bit_behind Up filling places width bits j =
    if nat_lt j places then filling else bit_of bits (j - places)
bit_behind Down filling places width bits j =
    if nat_lt j (width - places) then bit_of bits (j + places) else filling

-- the same by a move
abbrev pub moved_bit : Move → Word → ℕ → BitName
moved_bit move bits j = bit_behind move.way move.filling move.places move.width bits j
