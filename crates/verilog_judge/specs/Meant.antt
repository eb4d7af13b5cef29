-- What all rules on widths say of a resolved text: its literals fit their sizes, and the numbers
-- of its cuts are within their wires.
use Rattle.std.specs.Prelude.{◌<◌, ◌≤◌, ◌^◌, List, Option, Some, None}
use Rattle.std.specs.List.{AllByRecursion}
use Rattle.chw_base.specs.declared.limits.TheConstants.{WIRE_BITS}
use Rattle.verilog_checks.specs.Formed.{IsFormed}
use Rattle.verilog_judge.specs.Read.{AreNarrowWires}
use Rattle.verilog_rules.specs.Texts.{amount, number, size}
use Rattle.verilog_rules.specs.declared.resolved.Driver.{Driver}
use Rattle.verilog_rules.specs.declared.resolved.Driver.TheVariants.{Assign, Ram}
use Rattle.verilog_rules.specs.declared.resolved.Kind.{Kind}
use Rattle.verilog_rules.specs.declared.resolved.Kind.TheVariants as kind
use Rattle.verilog_rules.specs.declared.resolved.ResolvedModule.{ResolvedModule}
use Rattle.verilog_rules.specs.declared.resolved.Value.{Value}
use Rattle.verilog_rules.specs.declared.resolved.Value.TheVariants.{Constant, Cut}
use Rattle.verilog_rules.specs.declared.resolved.Wire.{Wire}
use Rattle.verilog_tree.specs.declared.item.FirstWord.{FirstWord}
use Rattle.verilog_tree.specs.declared.word.Range.{Range}
use Rattle.verilog_tree.specs.declared.word.Word.{Word}

-- the literal means bits: it has its form, and its number fits its size
pub record IsMeant (literal : Word) : Type 0 where
  pub formed : IsFormed literal
  pub narrow : size literal ≤ WIRE_BITS
  pub fits : amount literal < 2 ^ size literal

abbrev pub IsMeantIf : Option Word → Type 0
IsMeantIf None = Unit {0}
IsMeantIf (Some literal) = IsMeant literal

abbrev pub IsMeantKind : Kind → Type 0
IsMeantKind (kind.Register literal memory) = IsMeant literal
IsMeantKind _ = Unit {0}

abbrev pub IsMeantKindIf : Option Kind → Type 0
IsMeantKindIf None = Unit {0}
IsMeantKindIf (Some kind) = IsMeantKind kind

abbrev pub AreMeantKinds : List Wire → Type 0
AreMeantKinds wires = AllByRecursion (λ (w : Wire). IsMeantKind w.kind) wires

-- the numbers of a cut are below the width of a wire
abbrev pub IsCut : Range → Type 0
IsCut range = (number range.from < WIRE_BITS) × (number range.to < WIRE_BITS)

abbrev pub IsMeantValue : Value → Type 0
IsMeantValue (Constant literal) = IsMeant literal
IsMeantValue (Cut a range) = IsCut range
IsMeantValue _ = Unit {0}

-- the literals of the words of a memory mean bits
abbrev pub AreMeantWords : List FirstWord → Type 0
AreMeantWords words = AllByRecursion (λ (word : FirstWord). IsMeant word.literal) words

abbrev pub IsMeantDriver : Driver → Type 0
IsMeantDriver (Assign w value) = IsMeantValue value
IsMeantDriver (Ram ram) = AreMeantWords ram.words
IsMeantDriver _ = Unit {0}

pub record IsMeantModule (m : ResolvedModule) : Type 0 where
  pub narrow : AreNarrowWires m.wires
  pub kinds : AreMeantKinds m.wires
  pub drivers : AllByRecursion IsMeantDriver m.drivers

-- the modules of a text
abbrev pub AreMeant : List ResolvedModule → Type 0
AreMeant modules = AllByRecursion IsMeantModule modules
