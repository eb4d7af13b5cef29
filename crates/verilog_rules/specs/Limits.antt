-- The limits on a text: widths, words of a memory, sizes of literals, and modules.
use Rattle.std.specs.Prelude.{ℕ, ◌+◌, nat_le, nat_lt, List, [], ◌∷◌, ◌++◌, map}
use Rattle.std.specs.Prelude.{Option, Some, None}
use Rattle.std.specs.List.{flat_map}
use Rattle.chw_base.specs.declared.limits.TheConstants.{MODULES, RAM_WORDS, WIRE_BITS}
use Rattle.verilog_rules.specs.Checks.{Check, check}
use Rattle.verilog_rules.specs.Declarations.{modules_of, ports_in}
use Rattle.verilog_rules.specs.Texts.{number, size, width}
use Rattle.verilog_tree.specs.declared.item.FirstWord.{FirstWord}
use Rattle.verilog_tree.specs.declared.item.Item.{Item}
use Rattle.verilog_tree.specs.declared.item.Item.TheVariants as item
use Rattle.verilog_tree.specs.declared.item.Memory.{Memory}
use Rattle.verilog_tree.specs.declared.item.Ram.{Ram}
use Rattle.verilog_tree.specs.declared.item.Reset.{Reset}
use Rattle.verilog_tree.specs.declared.module.Module.{Module}
use Rattle.verilog_tree.specs.declared.module.Port.{Port}
use Rattle.verilog_tree.specs.declared.module.Port.TheVariants.{Input, Output, Signal}
use Rattle.verilog_tree.specs.declared.module.Tree.{Tree}
use Rattle.verilog_tree.specs.declared.right.Right.{Right}
use Rattle.verilog_tree.specs.declared.right.Right.TheVariants.{Constant}
use Rattle.verilog_tree.specs.declared.word.Range.{Range}
use Rattle.verilog_tree.specs.declared.word.Word.{Word}

-- a range has no more bits than a wire may have
abbrev pub range_limit : Range → Check
range_limit range = check range.from.at (nat_le (width range) WIRE_BITS)

-- a literal has no more bits than a wire may have
abbrev pub literal_limit : Word → Check
literal_limit literal = check literal.at (nat_le (size literal) WIRE_BITS)

-- a memory has no more words than it may have
abbrev pub places_limit : Range → Check
places_limit places = check places.to.at (nat_lt (number places.to) RAM_WORDS)

abbrev pub port_limits : Port → List Check
port_limits (Signal s) = []
port_limits (Input l) = range_limit l.range ∷ []
port_limits (Output l) = range_limit l.range ∷ []

abbrev pub memory_limits : Option Memory → List Check
memory_limits None = []
memory_limits (Some memory) = range_limit memory.width ∷ places_limit memory.places ∷ []

abbrev pub right_limits : Right → List Check
right_limits (Constant literal) = literal_limit literal ∷ []
right_limits _ = []

abbrev pub reset_limits : Option Reset → List Check
reset_limits None = []
reset_limits (Some reset) = literal_limit reset.literal ∷ []

abbrev pub word_limit : FirstWord → Check
word_limit word = literal_limit word.literal

abbrev pub ram_limits : Ram → List Check
ram_limits ram =
    map word_limit (ram.first ∷ ram.others)
    ++ literal_limit ram.write.count ∷ literal_limit ram.read.count ∷ literal_limit ram.zeros ∷ []

abbrev pub item_limits : Item → List Check
item_limits (item.Wire l) = range_limit l.range ∷ []
item_limits (item.Register l literal memory) =
    range_limit l.range ∷ literal_limit literal ∷ memory_limits memory
item_limits (item.Assign name right) = right_limits right
item_limits (item.Edge edge) = reset_limits edge.reset
item_limits (item.Ram ram) = ram_limits ram
item_limits (item.Use u) = []

-- of the module of this number
abbrev pub module_limits : ℕ → Module → List Check
module_limits k m =
    check m.name.at (nat_lt k MODULES)
    ∷ (flat_map port_limits (ports_in m) ++ flat_map item_limits m.items)

-- of the modules from this number on
abbrev pub limits_from : ℕ → List Module → List Check
limits_from k [] = []
limits_from k (m ∷ modules) = module_limits k m ++ limits_from (k + 1) modules

-- the limits on a text
abbrev pub limit_checks : Tree → List Check
limit_checks tree = limits_from 0 (modules_of tree)
