-- What the items of a module are printed by, and the module's name, by what the printer holds.
use Rattle.std.specs.Prelude.{ℕ, List, [], map, slice_index_or, Bool, if◌then◌else◌}
use Rattle.verilog_text.specs.Names.{input_name, input_text, module_name, output_name, output_text}
use Rattle.verilog_text.specs.Names.{top_name}
use Rattle.verilog_text.specs.Text.{Scope}
use Rattle.verilog_print.specs.declared.scope.Scope as printer

-- the module's input of this number
abbrev pub input_in : printer.Scope → ℕ → List ℕ
input_in s k =
    if s.is_top
    then slice_index_or (map (input_name s.ports.now.domains) s.ports.now.inputs) k []
    else input_text k

-- its output of this number
abbrev pub output_in : printer.Scope → ℕ → List ℕ
output_in s k =
    if s.is_top
    then slice_index_or (map (output_name s.ports.now.domains) s.ports.now.outputs) k []
    else output_text k

abbrev pub scope_of : printer.Scope → Scope
scope_of s = record {
  domains = s.ports.now.domains;
  resets = s.ports.now.resets;
  inputs = s.inputs;
  input = input_in s;
  output = output_in s;
}

-- the name of a module
abbrev pub title : Bool → ℕ → List ℕ
title is_top k = if is_top then top_name else module_name k
