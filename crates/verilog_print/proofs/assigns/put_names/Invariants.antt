-- what is written, with the names that are left, is all
use Rattle.std.proofs.Common.{◌≡◌, ◌++◌, map, drop}
use Rattle.std.specs.List.{flat_map}
use Rattle.verilog_text.specs.Text.{name_in}
use Rattle.verilog_print.specs.Parts.{after_comma}
use Rattle.verilog_print.specs.Scopes.{scope_of}
use Rattle.verilog_print.proofs.assigns.put_names.Given as goal

abbrev pub invariant-loop-wire : goal.invariant-loop-wire
invariant-loop-wire l =
    l.out.items ++ flat_map after_comma (map (name_in (scope_of l.scope)) (drop l.wire-index l.rest))
    ≡ l.initial.out.items ++ flat_map after_comma (map (name_in (scope_of l.scope)) l.rest)
