-- Small nets, and the bits that their wires have event by event; and what operators give.
use Rattle.std.specs.Prelude.{◌≡◌, ℕ, Bool, List, [], ◌∷◌, ◌++◌, codes, map}
use Rattle.std.specs.List.{AllByRecursion}
use Rattle.chw_base.specs.declared.index.DomId.{DomId}
use Rattle.chw_base.specs.declared.index.WireId.{WireId}
use Rattle.chw_bits.specs.Bits.{bits_of}
use Rattle.chw_clock.specs.declared.event.Event.{Event}
use Rattle.chw_clock.specs.declared.event.Port.{Port}
use Rattle.netlist.specs.NetValue.{NetValue}
use Rattle.netlist.specs.Operators.{operator, operator1, operator2}
use Rattle.netlist.specs.declared.net.Cell.{Cell}
use Rattle.netlist.specs.declared.net.Cell.TheVariants.{Const, Copy, Join, Cut, Bin, Mux, Reg, Ram}
use Rattle.netlist.specs.declared.net.Flat.{Flat}
use Rattle.netlist.specs.declared.net.Op1.TheVariants.{Not, RedAnd, RedOr, RedXor}
use Rattle.netlist.specs.declared.net.Op2.TheVariants.{Add, Sub, Mul, And, Or, Xor, Eq, LtU, LtS}
use Rattle.netlist.specs.declared.net.Op2.TheVariants.{Shl, Shr, Sar}
use Rattle.netlist.specs.declared.net.RamIn.{RamIn}

abbrev pub wire : ℕ → WireId
wire n = record { number = n }

abbrev pub dom : ℕ → DomId
dom n = record { number = n }

-- the lowest 8 bits of a number
abbrev pub byte : ℕ → List Bool
byte n = bits_of 8 n

abbrev pub bit : ℕ → List Bool
bit n = bits_of 1 n

-- an event in which these domains tick, these of them with their reset, and these bits come in
abbrev pub event : List ℕ → List ℕ → List (List Bool) → Event
event ticks resets inputs =
    record { ticks = map dom ticks; resets = map dom resets; inputs = inputs }

-- the domains of an event: none, the first, the second, or both
abbrev pub no : List ℕ
no = []

abbrev pub a : List ℕ
a = 0 ∷ []

abbrev pub b : List ℕ
b = 1 ∷ []

abbrev pub ab : List ℕ
ab = 0 ∷ 1 ∷ []

abbrev pub input_of : ℕ → Port
input_of width = record { name = codes "x"; dom = dom 0; width = width }

-- a flat net of domains of these names, of which these have a reset, with inputs of these widths
-- and other wires of these, and with these cells
abbrev pub net_of : List (List ℕ) → List ℕ → List ℕ → List ℕ → List Cell → Flat
net_of domains resets inputs widths cells = record {
  ports = record {
    domains = domains;
    resets = map dom resets;
    inputs = map input_of inputs;
    outputs = [];
  };
  widths = inputs ++ widths;
  outputs = [];
  cells = cells;
}

abbrev pub one_clock : List (List ℕ)
one_clock = codes "A" ∷ []

abbrev pub two_clocks : List (List ℕ)
two_clocks = codes "A" ∷ codes "B" ∷ []

-- an event, and the bits that wires have there
pub record Line : Type 0 where
  pub present : Event
  pub shows : List (ℕ × List Bool)

abbrev pub line : Event → List (ℕ × List Bool) → Line
line present shows = record { present = present; shows = shows }

-- after these past events each line's wires have their bits, line by line
abbrev pub Shows : Flat → List Event → List Line → Type 0
Shows flat past [] = Unit {0}
Shows flat past (next ∷ lines) =
    AllByRecursion (λ it. NetValue flat (next.present ∷ past) it.0 it.1) next.shows
    × Shows flat (next.present ∷ past) lines

-- A register adds up x from a first number: w2 = w1 + x, and w1 takes w2.
abbrev pub accumulator : List (List ℕ) → List ℕ → ℕ → Flat
accumulator domains resets first =
    net_of domains resets (8 ∷ []) (8 ∷ 8 ∷ [])
    (Reg (wire 1) (dom 0) (byte first) (wire 2) ∷ Bin (wire 2) Add (wire 1) (wire 0) ∷ [])

-- its register has these bits where x comes
abbrev pub sum_line : List ℕ → List ℕ → (x shown : ℕ) → Line
sum_line ticks resets x shown = line (event ticks resets (byte x ∷ [])) ((1, byte shown) ∷ [])

-- each sum is shown at the event after it
abbrev pub sums : List Line
sums = sum_line a no 5 0 ∷ sum_line a no 7 5 ∷ sum_line a no 0 12 ∷ []

abbrev pub Accumulates : Type 0
Accumulates = Shows (accumulator one_clock no 0) [] sums

-- after an event with the reset, the first number is shown again
abbrev pub restarts : List Line
restarts = sum_line a no 5 3 ∷ sum_line a a 7 8 ∷ sum_line a no 1 3 ∷ sum_line a no 0 4 ∷ []

abbrev pub Restarts : Type 0
Restarts = Shows (accumulator one_clock a 3) [] restarts

-- a reset in the first event, one in the next, and one of the other domain, which ticks alone
abbrev pub resets_in_a_row : List Line
resets_in_a_row =
    sum_line a a 5 3 ∷ sum_line a a 7 3 ∷ sum_line a no 1 3 ∷ sum_line b b 9 4
    ∷ sum_line a no 0 4 ∷ []

abbrev pub ResetsInARow : Type 0
ResetsInARow = Shows (accumulator two_clocks ab 3) [] resets_in_a_row

-- w0 counts the ticks of the first domain, and w3 takes w0 at the ticks of the second
abbrev pub crossing : Flat
crossing =
    net_of two_clocks no [] (8 ∷ 8 ∷ 8 ∷ 8 ∷ 8 ∷ [])
    (Reg (wire 0) (dom 0) (byte 0) (wire 1) ∷ Bin (wire 1) Add (wire 0) (wire 2)
    ∷ Const (wire 2) (byte 1) ∷ Reg (wire 3) (dom 1) (byte 0) (wire 4)
    ∷ Copy (wire 4) (wire 0) ∷ [])

-- an event without inputs, and what wires show in it
abbrev pub tick : List ℕ → List (ℕ × List Bool) → Line
tick ticks shows = line (event ticks no []) shows

-- where both tick, the second domain takes what the first showed before
abbrev pub crossed : List Line
crossed =
    tick a ((0, byte 0) ∷ []) ∷ tick b ((3, byte 0) ∷ []) ∷ tick a ((0, byte 1) ∷ [])
    ∷ tick ab ((0, byte 2) ∷ (3, byte 1) ∷ []) ∷ tick b ((3, byte 2) ∷ []) ∷ []

abbrev pub Crosses : Type 0
Crosses = Shows crossing [] crossed

-- two registers of two domains take each other's bits
abbrev pub swapping : Flat
swapping =
    net_of two_clocks no [] (8 ∷ 8 ∷ 8 ∷ 8 ∷ [])
    (Reg (wire 0) (dom 0) (byte 1) (wire 1) ∷ Copy (wire 1) (wire 2)
    ∷ Reg (wire 2) (dom 1) (byte 2) (wire 3) ∷ Copy (wire 3) (wire 0) ∷ [])

abbrev pub both_tick : (first second : ℕ) → Line
both_tick first second = tick ab ((0, byte first) ∷ (2, byte second) ∷ [])

abbrev pub swapped : List Line
swapped = both_tick 1 2 ∷ both_tick 2 1 ∷ both_tick 1 2 ∷ []

abbrev pub Swaps : Type 0
Swaps = Shows swapping [] swapped

abbrev pub five_words : List (List Bool)
five_words = map byte (10 ∷ 20 ∷ 30 ∷ 40 ∷ 50 ∷ [])

abbrev pub memory_inputs : RamIn
memory_inputs = record { read = wire 3; enable = wire 4; place = wire 6; value = wire 7 }

-- A RAM of five words. The inputs are an address of 3 bits to read, and a write of 12 bits:
-- whether, where and what. Both addresses are extended by zeros.
abbrev pub memory : List (List ℕ) → List ℕ → Flat
memory domains resets =
    net_of domains resets (3 ∷ 12 ∷ []) (9 ∷ 12 ∷ 1 ∷ 3 ∷ 12 ∷ 8 ∷ 8 ∷ [])
    (Const (wire 2) (bits_of 9 0) ∷ Join (wire 3) (wire 2 ∷ wire 0 ∷ [])
    ∷ Cut (wire 4) (wire 1) 11 11 ∷ Cut (wire 5) (wire 1) 10 8
    ∷ Join (wire 6) (wire 2 ∷ wire 5 ∷ []) ∷ Cut (wire 7) (wire 1) 7 0
    ∷ Ram (wire 8) (dom 0) five_words memory_inputs ∷ [])

-- the RAM shows this number where this address and this write come
abbrev pub memory_line : List ℕ → List ℕ → (read write shown : ℕ) → Line
memory_line ticks resets read write shown =
    line (event ticks resets (bits_of 3 read ∷ bits_of 12 write ∷ [])) ((8, byte shown) ∷ [])

-- 0x963 writes 99 at 1, and 0xf01 writes 1 at 7, where no word is. A read at the write of its word
-- shows the old one.
abbrev pub remembered : List Line
remembered =
    memory_line a no 1 0 0 ∷ memory_line a no 1 0x963 20 ∷ memory_line a no 1 0 20
    ∷ memory_line a no 7 0 99 ∷ memory_line a no 0 0xf01 0 ∷ memory_line a no 0 0 10
    ∷ memory_line a no 0 0 10 ∷ []

abbrev pub Remembers : Type 0
Remembers = Shows (memory one_clock no) [] remembered

-- A RAM moves at the ticks of its own domain, and reads and writes in a reset too.
abbrev pub remembered_through_a_reset : List Line
remembered_through_a_reset =
    memory_line a no 1 0 0 ∷ memory_line b no 1 0x963 20 ∷ memory_line a no 1 0 20
    ∷ memory_line a a 1 0x963 20 ∷ memory_line a no 1 0 20 ∷ memory_line a no 0 0 99 ∷ []

abbrev pub RemembersThroughAReset : Type 0
RemembersThroughAReset = Shows (memory two_clocks a) [] remembered_through_a_reset

-- sums, differences and products lose what doesn't fit
abbrev pub Arithmetic : Type 0
Arithmetic =
    (operator2 Add (byte 200) (byte 100) ≡ byte 44) × (operator2 Sub (byte 5) (byte 7) ≡ byte 254)
    × (operator2 Mul (byte 17) (byte 17) ≡ byte 33)

abbrev pub BitByBit : Type 0
BitByBit =
    (operator2 And (byte 0xf0) (byte 0x3c) ≡ byte 0x30)
    × (operator2 Or (byte 0xf0) (byte 0x3c) ≡ byte 0xfc)
    × (operator2 Xor (byte 0xf0) (byte 0x3c) ≡ byte 0xcc) × (operator1 Not (byte 0x0f) ≡ byte 0xf0)

-- 0x80 is over 1 as a number, and under 1 as a signed one
abbrev pub Comparisons : Type 0
Comparisons =
    (operator2 Eq (byte 42) (byte 42) ≡ bit 1) × (operator2 Eq (byte 42) (byte 43) ≡ bit 0)
    × (operator2 LtU (byte 0x80) (byte 1) ≡ bit 0) × (operator2 LtU (byte 1) (byte 0x80) ≡ bit 1)
    × (operator2 LtS (byte 0x80) (byte 1) ≡ bit 1) × (operator2 LtS (byte 1) (byte 0x80) ≡ bit 0)

-- Zeros come in, but copies of the sign in a signed shift down. The number of places is the whole
-- right word.
abbrev pub Shifts : Type 0
Shifts =
    (operator2 Shl (byte 0x81) (bit 1) ≡ byte 0x02)
    × (operator2 Shr (byte 0x81) (bit 1) ≡ byte 0x40)
    × (operator2 Sar (byte 0x81) (bit 1) ≡ byte 0xc0)
    × (operator2 Sar (byte 0x71) (bit 1) ≡ byte 0x38)
    × (operator2 Shl (byte 0x81) (byte 9) ≡ byte 0) × (operator2 Shr (byte 0x81) (byte 9) ≡ byte 0)
    × (operator2 Sar (byte 0x81) (byte 9) ≡ byte 0xff)

abbrev pub Reductions : Type 0
Reductions =
    (operator1 RedAnd (byte 0xff) ≡ bit 1) × (operator1 RedAnd (byte 0xfe) ≡ bit 0)
    × (operator1 RedOr (byte 0x10) ≡ bit 1) × (operator1 RedOr (byte 0) ≡ bit 0)
    × (operator1 RedXor (byte 0x91) ≡ bit 1) × (operator1 RedXor (byte 0xff) ≡ bit 0)

abbrev pub chosen : (on : ℕ) → List Bool
chosen on = operator (Mux (wire 3) (wire 0) (wire 1) (wire 2)) (bit on ∷ byte 1 ∷ byte 2 ∷ [])

abbrev pub joined : List Bool
joined = operator (Join (wire 2) (wire 0 ∷ wire 1 ∷ [])) (bits_of 4 3 ∷ byte 0x0f ∷ [])

-- the first part of a join is its high one, and a cut counts from the low end
abbrev pub Parts : Type 0
Parts =
    (joined ≡ bits_of 12 0x30f)
    × (operator (Cut (wire 1) (wire 0) 10 1) (bits_of 11 0x7b2 ∷ []) ≡ bits_of 10 0x3d9)
    × (chosen 1 ≡ byte 1) × (chosen 0 ≡ byte 2)
