-- The rules on one word of a memory.
use Rattle.std.specs.Prelude.{ℕ, ◌==◌, nat_lt, List, [], ◌∷◌, ◌++◌, take}
use Rattle.verilog_rules.specs.Checks.{Check, check}
use Rattle.verilog_rules.specs.Texts.{is_word_of, number}
use Rattle.verilog_rules.specs.WidthRules.{port_checks, widths_of, wire_widths}
use Rattle.verilog_rules.specs.declared.resolved.Operand.{Operand}
use Rattle.verilog_rules.specs.declared.resolved.ResolvedModule.{ResolvedModule}
use Rattle.verilog_tree.specs.declared.item.FirstWord.{FirstWord}

-- a word of n bits at this place of so many
abbrev pub word_check : (n count place : ℕ) → FirstWord → List Check
word_check n count place word =
    check word.memory.at (nat_lt place count)
    ∷ check word.place.at (number word.place == place)
    ∷ check word.literal.at (is_word_of n word.literal) ∷ []

-- the rules on a use of this module
abbrev pub used_checks : List ℕ → ResolvedModule → (reads drives : List Operand) → List Check
used_checks widths used reads drives =
    port_checks widths (take used.inputs (wire_widths used)) reads
    ++ port_checks widths (widths_of used.outputs) drives
