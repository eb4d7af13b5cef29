-- Bytes by which cells and known bits are compared.
use Rattle.std.specs.Prelude.{◌≡◌, ℕ, ◌+◌, ◌*◌, ◌/◌, ◌%◌, ◌^◌, ◌<◌, ◌≤◌, Bool, true, List, []}
use Rattle.std.specs.Prelude.{◌∷◌, ◌++◌, flat_map, length, map, Some, slice_get, slice_index}
use Rattle.std.specs.Prelude.{if◌then◌else◌}
use Rattle.std.specs.List.{fold}
use Rattle.name_tables.specs.Names.{place_of}
use Rattle.netlist.specs.Wires.{read_by}
use Rattle.netlist.specs.declared.net.Cell.{Cell}
use Rattle.netlist.specs.declared.net.Cell.TheVariants.{Const, Copy, Join, Cut, Un, Bin, Mux, Reg}
use Rattle.netlist.specs.declared.net.Cell.TheVariants.{Ram, Use}
use Rattle.netlist.specs.declared.net.Op1.{Op1}
use Rattle.netlist.specs.declared.net.Op1.TheVariants.{Not, RedAnd, RedOr, RedXor}
use Rattle.netlist.specs.declared.net.Op2.{Op2}
use Rattle.netlist.specs.declared.net.Op2.TheVariants.{Add, Sub, Mul, And, Or, Xor, Eq, LtU, LtS}
use Rattle.netlist.specs.declared.net.Op2.TheVariants.{Shl, Shr, Sar}
use Rattle.wire_classes.specs.Closed.{label_of, labels_of, mark_of}

-- the least significant byte of a number, and what is above it
abbrev pub lowest : ℕ → ℕ
lowest n = n % 256

abbrev pub above : ℕ → ℕ
above n = n / 256

-- a byte, and the four bytes of a number, the least significant first
abbrev pub tagged : (tag n : ℕ) → List ℕ
tagged tag n =
    tag ∷ lowest n ∷ lowest (above n) ∷ lowest (above (above n)) ∷ above (above (above n)) ∷ []

-- numbers in order, up to an end
abbrev pub numbers_key : List ℕ → List ℕ
numbers_key numbers = flat_map (tagged 1) numbers ++ 0 ∷ []

abbrev pub bit_key : Bool → ℕ
bit_key bit = if bit then 1 else 0

abbrev pub bits_key : List Bool → List ℕ
bits_key bits = map bit_key bits

-- the bits of a word, up to an end
abbrev pub word_key : List Bool → List ℕ
word_key bits = bits_key bits ++ 2 ∷ []

abbrev pub op1_key : Op1 → ℕ
op1_key Not = 0
op1_key RedAnd = 1
op1_key RedOr = 2
op1_key RedXor = 3

abbrev pub op2_key : Op2 → ℕ
op2_key Add = 0
op2_key Sub = 1
op2_key Mul = 2
op2_key And = 3
op2_key Or = 4
op2_key Xor = 5
op2_key Eq = 6
op2_key LtU = 7
op2_key LtS = 8
op2_key Shl = 9
op2_key Shr = 10
op2_key Sar = 11

-- what a cell is without its wires
abbrev pub form_key : Cell → List ℕ
form_key (Const w bits) = 0 ∷ bits_key bits
form_key (Copy w a) = 1 ∷ []
form_key (Join w parts) = 2 ∷ []
form_key (Cut w a high low) = tagged 3 high ++ tagged 3 low
form_key (Un w op a) = 4 ∷ op1_key op ∷ []
form_key (Bin w op a b) = 5 ∷ op2_key op ∷ []
form_key (Mux w c a b) = 6 ∷ []
form_key (Reg w domain initial a) = tagged 7 domain.number ++ bits_key initial
form_key (Ram w domain words inputs) = tagged 8 domain.number ++ flat_map word_key words
form_key (Use m reads drives) = 9 ∷ []

-- the labels of what a cell reads, and what the cell is
abbrev pub cell_key : List ℕ → Cell → List ℕ
cell_key of cell = numbers_key (labels_of of (read_by cell)) ++ form_key cell

-- known bits
abbrev pub known_key : List Bool → List ℕ
known_key bits = 1 ∷ bits_key bits

-- a number for a key
abbrev pub mixed : (hash byte : ℕ) → ℕ
mixed hash byte = (hash * 1099511628211 % 2 ^ 64 + byte) % 2 ^ 64

abbrev pub hash_of : List ℕ → ℕ
hash_of bytes = fold mixed 14695981039346656037 bytes

-- of so many wires these are the marked ones
pub record AreMarked (known : List Bool) (count : ℕ) (wires : List ℕ) : Type 0 where
  pub marked : (i w : ℕ) → slice_get wires i ≡ Some w → mark_of known w ≡ true
  pub below : (i w : ℕ) → slice_get wires i ≡ Some w → w < count
  pub each : (w : ℕ) → w < count → mark_of known w ≡ true
      → (i : ℕ) × (slice_get wires i ≡ Some w)
  pub few : length wires ≤ count

-- equal keys have one label
abbrev pub KeysAgree : List (List ℕ) → List ℕ → Type 0
KeysAgree keys labels =
    (i j : ℕ) (key : List ℕ) → slice_get keys i ≡ Some key → slice_get keys j ≡ Some key
    → label_of labels i ≡ label_of labels j

-- keys at these places are equal, and have two labels
pub record KeysClash (keys : List (List ℕ)) (labels : List ℕ) (i j : ℕ) : Type 0 where
  pub key : List ℕ
  pub one : slice_get keys i ≡ Some key
  pub other : slice_get keys j ≡ Some key
  pub apart : label_of labels i ≡ label_of labels j → ⊥

-- Of the first keys, so many, the different ones are these names. Each name has a place at which
-- it stands among the keys, whose label is that of all keys of that name.
pub record AreLooked (keys : List (List ℕ)) (labels : List ℕ) (i : ℕ) (names : List (List ℕ))
    (firsts : List ℕ) : Type 0 where
  pub count : length firsts ≡ length names
  pub each : (k : ℕ) (name : List ℕ) → slice_get names k ≡ Some name
      → slice_get keys (slice_index firsts k) ≡ Some name
  pub all : (j : ℕ) (key : List ℕ) → j < i → slice_get keys j ≡ Some key
      → (k : ℕ) × (place_of names key ≡ Some k)
  pub agree : (j : ℕ) (key : List ℕ) (k : ℕ) → j < i → slice_get keys j ≡ Some key
      → place_of names key ≡ Some k
      → label_of labels (slice_index firsts k) ≡ label_of labels j
