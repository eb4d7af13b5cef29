-- The net of single bits that a flat net becomes: each cell becomes nodes, from the least
-- significant bit on. The names of a word stand with the most significant bit first, so the nodes
-- of the rest of a word stand before those of its first bit.
use Rattle.std.specs.Prelude.{ℕ, zero, suc, ◌+◌, ◌-◌, ◌*◌, ◌^◌, min, Bool, true, false}
use Rattle.std.specs.Prelude.{if◌then◌else◌}
use Rattle.std.specs.Prelude.{List, [], ◌∷◌, ◌++◌, length, take, drop, replicate, reverse}
use Rattle.std.specs.Prelude.{flat_map, slice_index}
use Rattle.chw_base.specs.declared.index.WireId.{WireId}
use Rattle.chw_bits.specs.Bits.{bits_of}
use Rattle.chw_clock.specs.Histories.{has_reset}
use Rattle.chw_clock.specs.declared.event.Port.{Port}
use Rattle.chw_clock.specs.declared.event.Ports.{Ports}
use Rattle.netlist.specs.declared.net.Cell.{Cell}
use Rattle.netlist.specs.declared.net.Cell.TheVariants.{Const, Copy, Join, Cut, Un, Bin, Mux, Reg}
use Rattle.netlist.specs.declared.net.Cell.TheVariants.{Ram, Use}
use Rattle.netlist.specs.declared.net.Flat.{Flat}
use Rattle.netlist.specs.declared.net.Op1.{Op1}
use Rattle.netlist.specs.declared.net.Op1.TheVariants.{Not, RedAnd, RedOr, RedXor}
use Rattle.netlist.specs.declared.net.Op2.{Op2}
use Rattle.netlist.specs.declared.net.Op2.TheVariants.{Add, Sub, Mul, And, Or, Xor, Eq, LtU, LtS}
use Rattle.netlist.specs.declared.net.Op2.TheVariants.{Shl, Shr, Sar}
use Rattle.verilog_text.specs.Names.{input_name, output_name}
use Rattle.verilog_text.specs.Text.{clock_names}
use Rattle.bit_laws.specs.BitNames.{further, furthers, wire_name, word_names}
use Rattle.bit_laws.specs.Bitnet.{Bitnet, Node, clock_of, reset_of}
use Rattle.bit_laws.specs.Bitnet.Node.{latch, table}
use Rattle.bit_laws.specs.Gates.{Gate, rows_of}
use Rattle.bit_laws.specs.Gates.Gate.{added, address, alike, always, both, buffer, choice, cleared}
use Rattle.bit_laws.specs.Gates.Gate.{differing, either, inverse, less, most, never, odd}

-- the names of a wire's bits, the most significant first
abbrev pub word : Flat → ℕ → List (List ℕ)
word flat w = word_names (wire_name flat.ports w) (slice_index flat.widths w)

-- the table of a gate
abbrev pub gate_of : Gate → (reads : List (List ℕ)) → (drives : List ℕ) → Node
gate_of gate reads drives = table reads drives (rows_of gate)

-- these bits
abbrev pub constants : (outs : List (List ℕ)) → List Bool → List Node
constants (o ∷ outs) (bit ∷ bits) =
    constants outs bits ++ gate_of (if bit then always else never) [] o ∷ []
constants _ _ = []

-- a gate on each bit of a word
abbrev pub on_each : Gate → (outs xs : List (List ℕ)) → List Node
on_each gate (o ∷ outs) (x ∷ xs) = on_each gate outs xs ++ gate_of gate (x ∷ []) o ∷ []
on_each gate _ _ = []

-- a gate on the bits of two words
abbrev pub on_both : Gate → (outs xs ys : List (List ℕ)) → List Node
on_both gate (o ∷ outs) (x ∷ xs) (y ∷ ys) =
    on_both gate outs xs ys ++ gate_of gate (x ∷ y ∷ []) o ∷ []
on_both gate _ _ _ = []

-- by one bit the first word or the second
abbrev pub choices : (c : List ℕ) → (outs xs ys : List (List ℕ)) → List Node
choices c (o ∷ outs) (x ∷ xs) (y ∷ ys) =
    choices c outs xs ys ++ gate_of choice (c ∷ x ∷ y ∷ []) o ∷ []
choices c _ _ _ = []

-- the same, by a word of one bit
abbrev pub choices_by : (cs outs xs ys : List (List ℕ)) → List Node
choices_by (c ∷ cs) outs xs ys = choices c outs xs ys
choices_by [] outs xs ys = []

-- a gate on what is folded so far and the next bit. The further nodes are of wire k.
abbrev pub folded : Gate → (k : ℕ) → List (List ℕ) → List Node
folded gate k [] = []
folded gate k (x ∷ []) = gate_of buffer (x ∷ []) (further k 0) ∷ []
folded gate k (x ∷ y ∷ xs) =
    folded gate k (y ∷ xs)
    ++ gate_of gate (further k (length xs) ∷ x ∷ []) (further k (length (y ∷ xs))) ∷ []

-- the node that has all bits folded
abbrev pub fold_end : (k : ℕ) → List (List ℕ) → List ℕ
fold_end k [] = further k 0
fold_end k (x ∷ xs) = further k (length xs)

abbrev pub reduction : Gate → (k : ℕ) → (outs xs : List (List ℕ)) → List Node
reduction gate k outs xs = folded gate k xs ++ on_each buffer outs (fold_end k xs ∷ [])

-- a sum, and its carries
abbrev pub sum_nodes : (k : ℕ) → (outs xs ys : List (List ℕ)) → List Node
sum_nodes k (o ∷ outs) (x ∷ xs) (y ∷ ys) =
    sum_nodes k outs xs ys
    ++ gate_of odd (x ∷ y ∷ further k (length xs) ∷ []) o
    ∷ gate_of most (x ∷ y ∷ further k (length xs) ∷ []) (further k (length (x ∷ xs))) ∷ []
sum_nodes k _ _ _ = []

-- a difference: the sum with the opposite bits, and one more
abbrev pub difference_nodes : (k : ℕ) → (outs xs ys : List (List ℕ)) → List Node
difference_nodes k (o ∷ outs) (x ∷ xs) (y ∷ ys) =
    difference_nodes k outs xs ys
    ++ gate_of inverse (y ∷ []) (further k (2 * length xs + 1))
    ∷ gate_of odd (x ∷ further k (2 * length xs + 1) ∷ further k (2 * length xs) ∷ []) o
    ∷ gate_of most (x ∷ further k (2 * length xs + 1) ∷ further k (2 * length xs) ∷ [])
    (further k (2 * length (x ∷ xs))) ∷ []
difference_nodes k _ _ _ = []

-- whether all bits are equal
abbrev pub equal_nodes : (k : ℕ) → (xs ys : List (List ℕ)) → List Node
equal_nodes k (x ∷ xs) (y ∷ ys) =
    equal_nodes k xs ys
    ++ gate_of alike (x ∷ y ∷ []) (further k (2 * length xs + 1))
    ∷ gate_of both (further k (2 * length xs) ∷ further k (2 * length xs + 1) ∷ [])
    (further k (2 * length (x ∷ xs))) ∷ []
equal_nodes k _ _ = []

-- whether the first word is less than the second
abbrev pub less_nodes : (k : ℕ) → (xs ys : List (List ℕ)) → List Node
less_nodes k (x ∷ xs) (y ∷ ys) =
    less_nodes k xs ys
    ++ gate_of less (x ∷ y ∷ further k (length xs) ∷ []) (further k (length (x ∷ xs))) ∷ []
less_nodes k _ _ = []

-- the same of signed words: the first bits are exchanged
abbrev pub signed_nodes : (k : ℕ) → (xs ys : List (List ℕ)) → List Node
signed_nodes k (x ∷ xs) (y ∷ ys) =
    less_nodes k xs ys
    ++ gate_of less (y ∷ x ∷ further k (length xs) ∷ []) (further k (length (x ∷ xs))) ∷ []
signed_nodes k _ _ = []

-- One row of a product: to a word is added another one, of which each bit is masked by y, and which
-- ends with the first bits of the word. c is the number of the row's first carry.
abbrev pub row_nodes : (k c : ℕ) → (ps xs : List (List ℕ)) → (y : List ℕ) → List Node
row_nodes k c (p ∷ ps) (x ∷ xs) y =
    row_nodes k c ps xs y
    ++ gate_of both (x ∷ y ∷ []) (further k (c + (3 * length xs + 1)))
    ∷ gate_of odd
    (p ∷ further k (c + (3 * length xs + 1)) ∷ further k (c + 3 * length xs) ∷ [])
    (further k (c + (3 * length xs + 2)))
    ∷ gate_of most
    (p ∷ further k (c + (3 * length xs + 1)) ∷ further k (c + 3 * length xs) ∷ [])
    (further k (c + 3 * length (x ∷ xs))) ∷ []
row_nodes k c _ _ y = []

-- the word after the row
abbrev pub row_names : (k c : ℕ) → (ps xs : List (List ℕ)) → List (List ℕ)
row_names k c (p ∷ ps) (x ∷ xs) = further k (c + (3 * length xs + 2)) ∷ row_names k c ps xs
row_names k c ps _ = ps

-- how many further nodes the rows of these bits take
abbrev pub product_count : (xs ys : List (List ℕ)) → ℕ
product_count xs [] = 0
product_count xs (y ∷ []) = length xs
product_count xs (y ∷ z ∷ ys) =
    product_count xs (z ∷ ys) + (1 + 3 * length (drop (length (z ∷ ys)) xs))

-- the word after the rows of these bits
abbrev pub product_names : (k : ℕ) → (xs ys : List (List ℕ)) → List (List ℕ)
product_names k xs [] = []
product_names k xs (y ∷ []) = furthers k 0 (length xs)
product_names k xs (y ∷ z ∷ ys) =
    row_names k (product_count xs (z ∷ ys)) (product_names k xs (z ∷ ys))
    (drop (length (z ∷ ys)) xs)

-- a word, each bit masked by y
abbrev pub masked : (outs xs : List (List ℕ)) → (y : List ℕ) → List Node
masked (o ∷ outs) (x ∷ xs) y = masked outs xs y ++ gate_of both (x ∷ y ∷ []) o ∷ []
masked _ _ y = []

-- the rows of a product
abbrev pub product_nodes : (k : ℕ) → (xs ys : List (List ℕ)) → List Node
product_nodes k xs [] = []
product_nodes k xs (y ∷ []) = masked (furthers k 0 (length xs)) xs y
product_nodes k xs (y ∷ z ∷ ys) =
    product_nodes k xs (z ∷ ys)
    ++ gate_of never [] (further k (product_count xs (z ∷ ys)))
    ∷ row_nodes k (product_count xs (z ∷ ys)) (product_names k xs (z ∷ ys))
    (drop (length (z ∷ ys)) xs) y

-- a word moved up or down by so many places, with this filling
abbrev pub moved_up : {A : Type 0} → (places : ℕ) → (filling : A) → List A → List A
moved_up places filling xs = drop places xs ++ replicate (min places (length xs)) filling

abbrev pub moved_down : {A : Type 0} → (places : ℕ) → (filling : A) → List A → List A
moved_down places filling xs =
    replicate (min places (length xs)) filling ++ take (length xs - places) xs

-- the word after the stages of these bits of the amount
abbrev pub shifted_names : (k : ℕ) → (xs ss : List (List ℕ)) → List (List ℕ)
shifted_names k xs [] = xs
shifted_names k xs (s ∷ ss) = furthers k (1 + length ss * length xs) (length xs)

-- the stages of a shift: each moves by twice as many places as the one before, or not
abbrev pub shift_nodes : ((places : ℕ) → List (List ℕ) → List (List ℕ)) → (k : ℕ)
    → (xs ss : List (List ℕ)) → List Node
shift_nodes moved k xs [] = []
shift_nodes moved k xs (s ∷ ss) =
    shift_nodes moved k xs ss
    ++ choices s (shifted_names k xs (s ∷ ss)) (moved (2 ^ length ss) (shifted_names k xs ss))
    (shifted_names k xs ss)

-- what is filled in by a signed shift: the sign
abbrev pub sign_nodes : (k : ℕ) → List (List ℕ) → List Node
sign_nodes k [] = []
sign_nodes k (x ∷ xs) = gate_of buffer (x ∷ []) (further k 0) ∷ []

abbrev pub shift_up : (k : ℕ) → (outs xs ss : List (List ℕ)) → List Node
shift_up k outs xs ss =
    gate_of never [] (further k 0)
    ∷ (shift_nodes (λ places. moved_up places (further k 0)) k xs ss
    ++ on_each buffer outs (shifted_names k xs ss))

abbrev pub shift_down : (k : ℕ) → (outs xs ss : List (List ℕ)) → List Node
shift_down k outs xs ss =
    shift_nodes (λ places. moved_down places (further k 0)) k xs ss
    ++ on_each buffer outs (shifted_names k xs ss)

abbrev pub unary_nodes : Op1 → (k : ℕ) → (outs xs : List (List ℕ)) → List Node
unary_nodes Not k outs xs = on_each inverse outs xs
unary_nodes RedAnd k outs xs = reduction both k outs xs
unary_nodes RedOr k outs xs = reduction either k outs xs
unary_nodes RedXor k outs xs = reduction differing k outs xs

abbrev pub binary_nodes : Op2 → (k : ℕ) → (outs xs ys : List (List ℕ)) → List Node
binary_nodes Add k outs xs ys = gate_of never [] (further k 0) ∷ sum_nodes k outs xs ys
binary_nodes Sub k outs xs ys = gate_of always [] (further k 0) ∷ difference_nodes k outs xs ys
binary_nodes Mul k outs xs ys = product_nodes k xs ys ++ on_each buffer outs (product_names k xs ys)
binary_nodes And k outs xs ys = on_both both outs xs ys
binary_nodes Or k outs xs ys = on_both either outs xs ys
binary_nodes Xor k outs xs ys = on_both differing outs xs ys
binary_nodes Eq k outs xs ys =
    gate_of always [] (further k 0)
    ∷ (equal_nodes k xs ys ++ on_each buffer outs (further k (2 * length xs) ∷ []))
binary_nodes LtU k outs xs ys =
    gate_of never [] (further k 0)
    ∷ (less_nodes k xs ys ++ on_each buffer outs (further k (length xs) ∷ []))
binary_nodes LtS k outs xs ys =
    gate_of never [] (further k 0)
    ∷ (signed_nodes k xs ys ++ on_each buffer outs (further k (length xs) ∷ []))
binary_nodes Shl k outs xs ys = shift_up k outs xs ys
binary_nodes Shr k outs xs ys = gate_of never [] (further k 0) ∷ shift_down k outs xs ys
binary_nodes Sar k outs xs ys = sign_nodes k xs ++ shift_down k outs xs ys

-- the latches of a register without a reset
abbrev pub register_nodes : (clock : List ℕ) → (outs xs : List (List ℕ)) → List Bool → List Node
register_nodes clock (o ∷ outs) (x ∷ xs) (bit ∷ bits) =
    register_nodes clock outs xs bits ++ latch x o clock bit ∷ []
register_nodes clock _ _ _ = []

-- those of one with a reset, each behind a gate that gives the initial bit while the reset is
-- asserted
abbrev pub reset_nodes : (k : ℕ) → (clock reset : List ℕ) → (outs xs : List (List ℕ)) → List Bool
    → List Node
reset_nodes k clock reset (o ∷ outs) (x ∷ xs) (bit ∷ bits) =
    reset_nodes k clock reset outs xs bits
    ++ gate_of (if bit then either else cleared) (x ∷ reset ∷ []) (further k (length xs))
    ∷ latch (further k (length xs)) o clock bit ∷ []
reset_nodes k clock reset _ _ _ = []

-- what a RAM reads
pub record RamNames : Type 0 where
  -- the address to read, the enable, the place and the value
  pub read : List (List ℕ)
  pub enable : List (List ℕ)
  pub place : List (List ℕ)
  pub value : List (List ℕ)

-- the latches of one word of a RAM, and what is shown so far: x is the number of the first further
-- node of the word, and cs are shown so far
abbrev pub word_nodes : (k x : ℕ) → (clock : List ℕ) → (cs values : List (List ℕ)) → List Bool
    → List Node
word_nodes k x clock (c ∷ cs) (v ∷ values) (bit ∷ bits) =
    word_nodes k x clock cs values bits
    ++ latch (further k (x + (3 * length cs + 3))) (further k (x + (3 * length cs + 2))) clock bit
    ∷ gate_of choice (further k x ∷ v ∷ further k (x + (3 * length cs + 2)) ∷ [])
    (further k (x + (3 * length cs + 3)))
    ∷ gate_of added (c ∷ further k (x + 1) ∷ further k (x + (3 * length cs + 2)) ∷ [])
    (further k (x + (3 * length cs + 4))) ∷ []
word_nodes k x clock _ _ _ = []

-- what is shown then
abbrev pub shown_names : (k x : ℕ) → (count : ℕ) → List (List ℕ)
shown_names k x zero = []
shown_names k x (suc count) = further k (x + (3 * count + 4)) ∷ shown_names k x count

-- the words of a RAM of this width from this address on, each with a node that it is written at and
-- one that it is read at
abbrev pub ram_words : (k width x at : ℕ) → (clock : List ℕ) → RamNames → (cs : List (List ℕ))
    → List (List Bool) → List Node
ram_words k width x at clock names cs [] = []
ram_words k width x at clock names cs (bits ∷ words) =
    gate_of (address (true ∷ bits_of (length names.place) at)) (names.enable ++ names.place)
    (further k x)
    ∷ gate_of (address (bits_of (length names.read) at)) names.read (further k (x + 1))
    ∷ (word_nodes k x clock cs names.value bits
    ++ ram_words k width (x + (2 + 3 * width)) (at + 1) clock names (shown_names k x width) words)

-- what is shown after these words
abbrev pub ram_shown : (k width x : ℕ) → (cs : List (List ℕ)) → List (List Bool) → List (List ℕ)
ram_shown k width x cs [] = cs
ram_shown k width x cs (bits ∷ words) =
    ram_shown k width (x + (2 + 3 * width)) (shown_names k x width) words

-- so many zeros
abbrev pub all_zeros : ℕ → List Bool
all_zeros width = replicate width false

-- first zeros are shown, and behind all words latches show what was read
abbrev pub ram_nodes : (k width : ℕ) → (clock : List ℕ) → (outs : List (List ℕ)) → RamNames
    → List (List Bool) → List Node
ram_nodes k width clock outs names words =
    constants (furthers k 0 width) (all_zeros width)
    ++ (ram_words k width width 0 clock names (furthers k 0 width) words
    ++ register_nodes clock outs (ram_shown k width width (furthers k 0 width) words)
    (all_zeros width))

-- the names of the bits from one place of a word down to another
abbrev pub part_of : (high low : ℕ) → List (List ℕ) → List (List ℕ)
part_of high low xs = take (high + 1 - low) (drop (length xs - 1 - high) xs)

-- the nodes of a cell
abbrev pub nodes_of : Flat → Cell → List Node
nodes_of flat (Const w bits) = constants (word flat w.number) bits
nodes_of flat (Copy w a) = on_each buffer (word flat w.number) (word flat a.number)
nodes_of flat (Join w parts) =
    on_each buffer (word flat w.number) (flat_map (λ p. word flat p.number) parts)
nodes_of flat (Cut w a high low) =
    on_each buffer (word flat w.number) (part_of high low (word flat a.number))
nodes_of flat (Un w op a) = unary_nodes op w.number (word flat w.number) (word flat a.number)
nodes_of flat (Bin w op a b) =
    binary_nodes op w.number (word flat w.number) (word flat a.number) (word flat b.number)
nodes_of flat (Mux w c a b) =
    choices_by (word flat c.number) (word flat w.number) (word flat a.number)
    (word flat b.number)
nodes_of flat (Reg w domain initial a) =
    if has_reset flat.ports domain
    then reset_nodes w.number (clock_of flat.ports domain) (reset_of flat.ports domain)
    (word flat w.number) (word flat a.number) initial
    else register_nodes (clock_of flat.ports domain) (word flat w.number) (word flat a.number)
    initial
nodes_of flat (Ram w domain words inputs) =
    ram_nodes w.number (slice_index flat.widths w.number) (clock_of flat.ports domain)
    (word flat w.number) (record {
      read = word flat inputs.read.number;
      enable = word flat inputs.enable.number;
      place = word flat inputs.place.number;
      value = word flat inputs.value.number;
    }) words
nodes_of flat (Use m reads drives) = []

-- the names of an output's bits, and of an input's
abbrev pub output_names : Ports → Port → List (List ℕ)
output_names ports port = word_names (output_name ports.domains port) port.width

abbrev pub input_names : Ports → Port → List (List ℕ)
input_names ports port = word_names (input_name ports.domains port) port.width

-- a buffer for each bit of these outputs, which have these wires
abbrev pub output_nodes : Flat → List Port → List WireId → List Node
output_nodes flat (port ∷ ports) (w ∷ wires) =
    on_each buffer (output_names flat.ports port) (word flat w.number)
    ++ output_nodes flat ports wires
output_nodes flat _ _ = []

-- The net of single bits. Its inputs are the clocks, each with its reset behind it where its domain
-- has one, and the bits of the inputs; ports show their least significant bit first.
abbrev pub blast : Flat → Bitnet
blast flat = record {
  inputs = clock_names flat.ports.resets 0 flat.ports.domains
      ++ flat_map (λ port. reverse (input_names flat.ports port)) flat.ports.inputs;
  outputs = flat_map (λ port. reverse (output_names flat.ports port)) flat.ports.outputs;
  nodes = flat_map (nodes_of flat) flat.cells
      ++ output_nodes flat flat.ports.outputs flat.outputs;
}
