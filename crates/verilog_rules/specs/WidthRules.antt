-- The rules on the widths, literals and numbers of a resolved text.
use Rattle.std.specs.Prelude.{ℕ, ◌+◌, ◌-◌, ◌&&◌, ◌==◌, nat_le, nat_lt}
use Rattle.std.specs.Prelude.{List, [], ◌∷◌, ◌++◌, length, map, take, slice_index, slice_get}
use Rattle.std.specs.Prelude.{Option, Some, None, option_map}
use Rattle.std.specs.List.{flat_map}
use Rattle.chw_base.specs.declared.limits.TheConstants.{ADDRESS_BITS, ARITHMETIC_BITS}
use Rattle.netlist.specs.declared.net.Op1.{Op1}
use Rattle.netlist.specs.declared.net.Op1.TheVariants.{Not}
use Rattle.netlist.specs.declared.net.Op2.{Op2}
use Rattle.netlist.specs.declared.net.Op2.TheVariants.{Add, Sub, Mul, And, Or, Xor, Eq, LtU, LtS}
use Rattle.netlist.specs.declared.net.Op2.TheVariants.{Shl, Shr, Sar}
use Rattle.verilog_rules.specs.Checks.{Check, check}
use Rattle.verilog_rules.specs.Texts.{amount, is_literal_of, is_word_of, number, width}
use Rattle.verilog_rules.specs.declared.resolved.Address.{Address}
use Rattle.verilog_rules.specs.declared.resolved.Driver.{Driver}
use Rattle.verilog_rules.specs.declared.resolved.Driver.TheVariants.{Assign, Output, Ram, Register}
use Rattle.verilog_rules.specs.declared.resolved.Driver.TheVariants.{Use}
use Rattle.verilog_rules.specs.declared.resolved.Kind.{Kind}
use Rattle.verilog_rules.specs.declared.resolved.Kind.TheVariants as kind
use Rattle.verilog_rules.specs.declared.resolved.Operand.{Operand}
use Rattle.verilog_rules.specs.declared.resolved.RamOf.{RamOf}
use Rattle.verilog_rules.specs.declared.resolved.Resolved.{Resolved}
use Rattle.verilog_rules.specs.declared.resolved.ResolvedModule.{ResolvedModule}
use Rattle.verilog_rules.specs.declared.resolved.Value.{Value}
use Rattle.verilog_rules.specs.declared.resolved.Value.TheVariants.{Binary, Choice, Constant, Copy}
use Rattle.verilog_rules.specs.declared.resolved.Value.TheVariants.{Cut, Join, Unary}
use Rattle.verilog_rules.specs.declared.resolved.Wire.{Wire}
use Rattle.verilog_tree.specs.declared.item.FirstWord.{FirstWord}
use Rattle.verilog_tree.specs.declared.item.Memory.{Memory}
use Rattle.verilog_tree.specs.declared.word.Line.{Line}
use Rattle.verilog_tree.specs.declared.word.Range.{Range}
use Rattle.verilog_tree.specs.declared.word.Word.{Word}

-- the widths of lines
abbrev pub widths_of : List Line → List ℕ
widths_of lines = map (λ (l : Line). width l.range) lines

-- the widths of the wires of a module
abbrev pub wire_widths : ResolvedModule → List ℕ
wire_widths m = map (λ (w : Wire). width w.line.range) m.wires

-- the width of an operand, by those of the wires
abbrev pub wide : List ℕ → Operand → ℕ
wide widths a = slice_index widths a.wire.number

-- the operand has this width
abbrev pub width_check : List ℕ → ℕ → Operand → Check
width_check widths n a = check a.at (wide widths a == n)

-- DECLARATIONS

-- a range ends at 0
abbrev pub range_check : Range → Check
range_check range = check range.to.at (number range.to == 0)

-- how many words a memory has
abbrev pub count_of : Memory → ℕ
count_of memory = number memory.places.to + 1

-- a memory is as wide as its register, whose first value is zeros, and its places begin with 0
abbrev pub memory_width_checks : ℕ → (literal : Word) → Memory → List Check
memory_width_checks n literal memory =
    check literal.at (is_literal_of n 0 literal)
    ∷ range_check memory.width
    ∷ check memory.width.from.at (width memory.width == n)
    ∷ check memory.places.from.at (number memory.places.from == 0) ∷ []

-- a register's first value has its width
abbrev pub kind_checks : ℕ → Kind → List Check
kind_checks n (kind.Register literal None) = check literal.at (is_word_of n literal) ∷ []
kind_checks n (kind.Register literal (Some memory)) = memory_width_checks n literal memory
kind_checks n _ = []

abbrev pub wire_checks : Wire → List Check
wire_checks w = range_check w.line.range ∷ kind_checks (width w.line.range) w.kind

-- ASSIGNMENTS, to a wire of n bits

-- joined wires behind others of so many bits: with no wire the sum passes n, and it comes to n
abbrev pub join_checks : List ℕ → (n sum : ℕ) → List Operand → (close : ℕ) → List Check
join_checks widths n sum [] close = check close (nat_le n sum) ∷ []
join_checks widths n sum (a ∷ parts) close =
    check a.at (nat_le (sum + wide widths a) n)
    ∷ join_checks widths n (sum + wide widths a) parts close

-- a cut stays within its wire, runs downwards and has n bits
abbrev pub cut_checks : List ℕ → ℕ → Operand → Range → List Check
cut_checks widths n a range =
    check range.from.at (nat_lt (number range.from) (wide widths a))
    ∷ check range.to.at
    (nat_le (number range.to) (number range.from)
    && (n == number range.from - number range.to + 1)) ∷ []

-- the result of a reduction or a comparison, at the sign
abbrev pub bit_check : ℕ → (sign : ℕ) → Check
bit_check n sign = check sign (n == 1)

abbrev pub unary_checks : List ℕ → ℕ → Op1 → (sign : ℕ) → Operand → List Check
unary_checks widths n Not sign a = width_check widths n a ∷ []
unary_checks widths n _ sign a = bit_check n sign ∷ []

-- both operands are as wide as the result
abbrev pub equal_checks : List ℕ → ℕ → Operand → Operand → List Check
equal_checks widths n a b = width_check widths n a ∷ width_check widths n b ∷ []

-- and not too wide for arithmetic
abbrev pub arithmetic_checks : List ℕ → ℕ → (sign : ℕ) → Operand → Operand → List Check
arithmetic_checks widths n sign a b =
    check sign (nat_le n ARITHMETIC_BITS) ∷ equal_checks widths n a b

-- the operands are of one width, and the result is one bit
abbrev pub comparison_checks : List ℕ → ℕ → (sign : ℕ) → Operand → Operand → List Check
comparison_checks widths n sign a b =
    bit_check n sign ∷ width_check widths (wide widths a) b ∷ []

-- the left operand is as wide as the result
abbrev pub shift_checks : List ℕ → ℕ → Operand → List Check
shift_checks widths n a = width_check widths n a ∷ []

abbrev pub binary_checks : List ℕ → ℕ → Op2 → (sign : ℕ) → Operand → Operand → List Check
binary_checks widths n Add sign a b = arithmetic_checks widths n sign a b
binary_checks widths n Sub sign a b = arithmetic_checks widths n sign a b
binary_checks widths n Mul sign a b = arithmetic_checks widths n sign a b
binary_checks widths n And sign a b = equal_checks widths n a b
binary_checks widths n Or sign a b = equal_checks widths n a b
binary_checks widths n Xor sign a b = equal_checks widths n a b
binary_checks widths n Eq sign a b = comparison_checks widths n sign a b
binary_checks widths n LtU sign a b = comparison_checks widths n sign a b
binary_checks widths n LtS sign a b = comparison_checks widths n sign a b
binary_checks widths n Shl sign a b = shift_checks widths n a
binary_checks widths n Shr sign a b = shift_checks widths n a
binary_checks widths n Sar sign a b = shift_checks widths n a

abbrev pub value_checks : List ℕ → ℕ → Value → List Check
value_checks widths n (Constant literal) = check literal.at (is_word_of n literal) ∷ []
value_checks widths n (Copy a) = width_check widths n a ∷ []
value_checks widths n (Join parts close) = join_checks widths n 0 parts close
value_checks widths n (Cut a range) = cut_checks widths n a range
value_checks widths n (Unary op sign a) = unary_checks widths n op sign a
value_checks widths n (Binary op sign a b) = binary_checks widths n op sign a b
value_checks widths n (Choice c a b) = width_check widths 1 c ∷ equal_checks widths n a b

-- REGISTERS AND RAMS

-- the literal of a register
abbrev pub literal_of : Option Kind → Option Word
literal_of (Some (kind.Register literal memory)) = Some literal
literal_of _ = None

-- the memory that a register shows
abbrev pub memory_of : Option Kind → Option Memory
memory_of (Some (kind.Register literal memory)) = memory
memory_of _ = None

-- how the wire of an operand is declared
abbrev pub kind_at : List Wire → Operand → Option Kind
kind_at wires a = option_map (λ (w : Wire). w.kind) (slice_get wires a.wire.number)

-- a reset's literal means the bits of the first value
abbrev pub reset_literal_checks : ℕ → (first reset : Option Word) → List Check
reset_literal_checks n (Some first) (Some reset) =
    check reset.at (is_literal_of n (amount first) reset) ∷ []
reset_literal_checks n _ _ = []

abbrev pub register_checks : List ℕ → ℕ → Option Kind → Option Word → Operand → List Check
register_checks widths n kind reset a =
    reset_literal_checks n (literal_of kind) reset ++ width_check widths n a ∷ []

-- the words of a memory from this place on: each has its place, a word of n bits, and is one of
-- the memory's words
abbrev pub word_checks : (n count : ℕ) → (place : ℕ) → List FirstWord → List Check
word_checks n count place [] = []
word_checks n count place (word ∷ words) =
    check word.memory.at (nat_lt place count)
    ∷ check word.place.at (number word.place == place)
    ∷ check word.literal.at (is_word_of n word.literal)
    ∷ word_checks n count (place + 1) words

-- an address has 12 bits, and the literal is the number of words
abbrev pub address_checks : List ℕ → (count : ℕ) → Address → List Check
address_checks widths count address =
    width_check widths ADDRESS_BITS address.address
    ∷ check address.count.at (is_literal_of ADDRESS_BITS count address.count) ∷ []

-- a RAM of so many words of n bits
abbrev pub words_checks : List ℕ → (n count : ℕ) → RamOf → List Check
words_checks widths n count ram =
    word_checks n count 0 ram.words
    ++ (check ram.end (length ram.words == count) ∷ width_check widths 1 ram.enable
    ∷ (address_checks widths count ram.write
    ++ (width_check widths n ram.value
    ∷ (address_checks widths count ram.read
    ++ check ram.zeros.at (is_literal_of n 0 ram.zeros) ∷ []))))

-- the RAM of a memory
abbrev pub ram_width_checks : List ℕ → ℕ → Option Memory → RamOf → List Check
ram_width_checks widths n None ram = []
ram_width_checks widths n (Some memory) ram = words_checks widths n (count_of memory) ram

-- USES

-- wires are as wide as ports, one by one
abbrev pub port_checks : (widths ports : List ℕ) → List Operand → List Check
port_checks widths (n ∷ ports) (a ∷ operands) =
    width_check widths n a ∷ port_checks widths ports operands
port_checks widths _ _ = []

-- the wires of a use are as wide as the ports of the used module
abbrev pub joined_checks
    : List ℕ → Option ResolvedModule → (reads drives : List Operand) → List Check
joined_checks widths None reads drives = []
joined_checks widths (Some used) reads drives =
    port_checks widths (take used.inputs (wire_widths used)) reads
    ++ port_checks widths (widths_of used.outputs) drives

-- MODULES

-- a driver, in a module behind earlier ones
abbrev pub driver_width_checks : List ResolvedModule → ResolvedModule → Driver → List Check
driver_width_checks earlier m (Assign w value) =
    value_checks (wire_widths m) (wide (wire_widths m) w) value
driver_width_checks earlier m (Output k at a) =
    width_check (wire_widths m) (slice_index (widths_of m.outputs) k) a ∷ []
driver_width_checks earlier m (Register w domain reset a) =
    register_checks (wire_widths m) (wide (wire_widths m) w) (kind_at m.wires w) reset a
driver_width_checks earlier m (Ram ram) =
    ram_width_checks (wire_widths m) (wide (wire_widths m) ram.register)
    (memory_of (kind_at m.wires ram.register)) ram
driver_width_checks earlier m (Use used reads drives) =
    joined_checks (wire_widths m) (slice_get earlier used.number) reads drives

abbrev pub module_width_checks : List ResolvedModule → ResolvedModule → List Check
module_width_checks earlier m =
    map (λ (l : Line). range_check l.range) m.outputs
    ++ (flat_map wire_checks m.wires ++ flat_map (driver_width_checks earlier m) m.drivers)

-- modules, each behind those before it
abbrev pub widths_from : List ResolvedModule → List ResolvedModule → List Check
widths_from earlier [] = []
widths_from earlier (m ∷ modules) =
    module_width_checks earlier m ++ widths_from (earlier ++ m ∷ []) modules

-- the rules on widths
abbrev pub width_checks : Resolved → List Check
width_checks source = widths_from [] source.modules
