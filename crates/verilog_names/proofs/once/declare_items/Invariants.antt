-- the names so far are declared
use Rattle.std.proofs.Common.{take}
use Rattle.std.specs.List.{flat_map}
use Rattle.verilog_names.specs.Declares.{Declares}
use Rattle.verilog_rules.specs.Declarations.{words_by}
use Rattle.verilog_names.proofs.once.declare_items.Given as goal

abbrev pub invariant-loop-item : goal.invariant-loop-item
invariant-loop-item l =
    Declares l.initial.known l.known l.initial.least l.least (flat_map words_by (take l.item-index l.items))
