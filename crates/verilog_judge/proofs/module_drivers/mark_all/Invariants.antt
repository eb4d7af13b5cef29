-- the wires that are left are still to be marked
use Rattle.std.proofs.Common.{◌≡◌, drop}
use Rattle.verilog_checks.specs.Least.{least_after}
use Rattle.verilog_judge.specs.Marks.{marked, marking_checks}
use Rattle.verilog_judge.proofs.module_drivers.mark_all.Given as goal

abbrev pub invariant-loop-a : goal.invariant-loop-a
invariant-loop-a l = record {
  least : least_after l.least (marking_checks l.inputs l.marks (drop l.a-index l.driven)) ≡ least_after l.initial.least (marking_checks l.inputs l.initial.marks l.driven);
  marks : marked l.marks (drop l.a-index l.driven) ≡ marked l.initial.marks l.driven;
}
