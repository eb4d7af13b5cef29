-- What the earlier rules say of a resolved text: its ranges and memories are within their limits,
-- its literals have their form, and the numbers of a cut are in the order of the text.
use Rattle.std.specs.Prelude.{◌≤◌, List, Option, Some, None}
use Rattle.std.specs.List.{AllByRecursion}
use Rattle.chw_base.specs.declared.limits.TheConstants.{RAM_WORDS, WIRE_BITS}
use Rattle.verilog_checks.specs.Formed.{IsFormed}
use Rattle.verilog_checks.specs.Narrow.{AreNarrow}
use Rattle.verilog_rules.specs.Texts.{width}
use Rattle.verilog_rules.specs.WidthRules.{count_of}
use Rattle.verilog_rules.specs.declared.resolved.Driver.{Driver}
use Rattle.verilog_rules.specs.declared.resolved.Driver.TheVariants.{Assign, Ram, Register}
use Rattle.verilog_rules.specs.declared.resolved.Kind.{Kind}
use Rattle.verilog_rules.specs.declared.resolved.Kind.TheVariants as kind
use Rattle.verilog_rules.specs.declared.resolved.ResolvedModule.{ResolvedModule}
use Rattle.verilog_rules.specs.declared.resolved.Value.{Value}
use Rattle.verilog_rules.specs.declared.resolved.Value.TheVariants.{Constant, Cut}
use Rattle.verilog_rules.specs.declared.resolved.Wire.{Wire}
use Rattle.verilog_tree.specs.declared.item.FirstWord.{FirstWord}
use Rattle.verilog_tree.specs.declared.item.Memory.{Memory}
use Rattle.verilog_tree.specs.declared.word.Word.{Word}

-- a literal has its form, if there is one
abbrev pub IsFormedIf : Option Word → Type 0
IsFormedIf None = Unit {0}
IsFormedIf (Some literal) = IsFormed literal

-- a memory has no more words than it may have
abbrev pub IsSmall : Option Memory → Type 0
IsSmall None = Unit {0}
IsSmall (Some memory) = count_of memory ≤ RAM_WORDS

abbrev pub IsReadKind : Kind → Type 0
IsReadKind (kind.Register literal memory) = IsFormed literal × IsSmall memory
IsReadKind _ = Unit {0}

abbrev pub IsReadKindIf : Option Kind → Type 0
IsReadKindIf None = Unit {0}
IsReadKindIf (Some kind) = IsReadKind kind

-- wires have no more bits than they may have
abbrev pub AreNarrowWires : List Wire → Type 0
AreNarrowWires wires = AllByRecursion (λ (w : Wire). width w.line.range ≤ WIRE_BITS) wires

abbrev pub AreReadKinds : List Wire → Type 0
AreReadKinds wires = AllByRecursion (λ (w : Wire). IsReadKind w.kind) wires

abbrev pub IsReadValue : Value → Type 0
IsReadValue (Constant literal) = IsFormed literal
IsReadValue (Cut a range) = range.from.at ≤ range.to.at
IsReadValue _ = Unit {0}

-- the literals of the words of a memory have their form
abbrev pub AreReadWords : List FirstWord → Type 0
AreReadWords words = AllByRecursion (λ (word : FirstWord). IsFormed word.literal) words

abbrev pub IsReadDriver : Driver → Type 0
IsReadDriver (Assign w value) = IsReadValue value
IsReadDriver (Register w domain reset a) = IsFormedIf reset
IsReadDriver (Ram ram) = AreReadWords ram.words
IsReadDriver _ = Unit {0}

pub record IsReadModule (m : ResolvedModule) : Type 0 where
  pub narrow : AreNarrowWires m.wires
  pub kinds : AreReadKinds m.wires
  pub outputs : AreNarrow m.outputs
  pub drivers : AllByRecursion IsReadDriver m.drivers

-- the modules of a text
abbrev pub AreRead : List ResolvedModule → Type 0
AreRead modules = AllByRecursion IsReadModule modules
