-- The rules on the drivers of a resolved text: each wire but the inputs has one, and each output.
use Rattle.std.specs.Prelude.{ℕ, ◌+◌, Bool, not, ◌&&◌, ◌==◌, nat_le}
use Rattle.std.specs.Prelude.{List, [], ◌∷◌, ◌++◌, drop, length, map}
use Rattle.std.specs.List.{flat_map, list_any}
use Rattle.verilog_rules.specs.Checks.{Check, check}
use Rattle.verilog_rules.specs.declared.resolved.Driver.{Driver}
use Rattle.verilog_rules.specs.declared.resolved.Driver.TheVariants.{Assign, Output, Ram, Register}
use Rattle.verilog_rules.specs.declared.resolved.Driver.TheVariants.{Use}
use Rattle.verilog_rules.specs.declared.resolved.Operand.{Operand}
use Rattle.verilog_rules.specs.declared.resolved.Resolved.{Resolved}
use Rattle.verilog_rules.specs.declared.resolved.ResolvedModule.{ResolvedModule}
use Rattle.verilog_rules.specs.declared.resolved.Wire.{Wire}
use Rattle.verilog_tree.specs.declared.word.Line.{Line}
use Rattle.verilog_tree.specs.declared.word.Word.{Word}

-- the wires that a driver drives
abbrev pub drives : Driver → List Operand
drives (Assign w value) = w ∷ []
drives (Output k at a) = []
drives (Register w domain reset a) = w ∷ []
drives (Ram ram) = ram.register ∷ []
drives (Use used reads driven) = driven

-- the output that a driver drives, as a number and its place
pub record OutputAt : Type 0 where
  pub number : ℕ
  pub at : ℕ

abbrev pub shows : Driver → List OutputAt
shows (Output k at a) = record { number = k; at = at } ∷ []
shows _ = []

-- the number is one of these
abbrev pub is_one_of : List ℕ → ℕ → Bool
is_one_of numbers n = list_any (λ m. m == n) numbers

-- the number of a driven wire
abbrev pub wire_number : Operand → ℕ
wire_number a = a.wire.number

-- each driven wire is no input, and none of those driven before it
abbrev pub driven_checks : (inputs : ℕ) → (before : List ℕ) → List Operand → List Check
driven_checks inputs before [] = []
driven_checks inputs before (a ∷ driven) =
    check a.at (nat_le inputs (wire_number a) && not (is_one_of before (wire_number a)))
    ∷ driven_checks inputs (before ++ wire_number a ∷ []) driven

-- each output that is assigned is none of those assigned before
abbrev pub shown_checks : (before : List ℕ) → List OutputAt → List Check
shown_checks before [] = []
shown_checks before (o ∷ outputs) =
    check o.at (not (is_one_of before o.number))
    ∷ shown_checks (before ++ o.number ∷ []) outputs

-- each of these names, from this number on, is among the driven ones
abbrev pub undriven_checks : (driven : List ℕ) → (k : ℕ) → List Word → List Check
undriven_checks driven k [] = []
undriven_checks driven k (name ∷ names) =
    check name.at (is_one_of driven k) ∷ undriven_checks driven (k + 1) names

-- the numbers of the wires that drivers drive, in their order
abbrev pub all_driven : List Driver → List ℕ
all_driven drivers = map wire_number (flat_map drives drivers)

-- the numbers of the outputs that drivers drive, in their order
abbrev pub all_shown : List Driver → List ℕ
all_shown drivers = map (λ (o : OutputAt). o.number) (flat_map shows drivers)

-- the names of the wires that are no inputs
abbrev pub own_names : ResolvedModule → List Word
own_names m = map (λ (w : Wire). w.line.name) (drop m.inputs m.wires)

abbrev pub module_driver_checks : ResolvedModule → List Check
module_driver_checks m =
    undriven_checks (all_shown m.drivers) 0 (map (λ (l : Line). l.name) m.outputs)
    ++ (undriven_checks (all_driven m.drivers) m.inputs (own_names m)
    ++ (driven_checks m.inputs [] (flat_map drives m.drivers)
    ++ shown_checks [] (flat_map shows m.drivers)))

-- a module that isn't the last has an output
abbrev pub some_output : ResolvedModule → Check
some_output m = check m.name.at (not (length m.outputs == 0))

abbrev pub drivers_from : List ResolvedModule → List Check
drivers_from [] = []
drivers_from (last ∷ []) = module_driver_checks last
drivers_from (m ∷ next ∷ modules) =
    some_output m ∷ (module_driver_checks m ++ drivers_from (next ∷ modules))

-- the rules on drivers
abbrev pub driver_checks : Resolved → List Check
driver_checks source = drivers_from source.modules
