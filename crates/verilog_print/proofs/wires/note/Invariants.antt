-- what the wires that are left will note makes the table that all wires make
use Rattle.std.proofs.Common.{◌≡◌, ◌==◌, ◌<◌, ℕ, length, drop, slice_index_or, if◌then◌else◌, Some, None}
use Rattle.std.specs.List.{list_any}
use Rattle.verilog_print.proofs.wires.note.Given as goal

abbrev pub invariant-loop-wire : goal.invariant-loop-wire
invariant-loop-wire l =
    (length l.table.items ≡ length l.initial.table.items)
    × ((k : ℕ) → k < length l.initial.table.items →
    (if list_any (λ w. w.number == k) (drop l.wire-index l.wires) then Some l.place else slice_index_or l.table.items k None)
    ≡ (if list_any (λ w. w.number == k) l.wires then Some l.place else slice_index_or l.initial.table.items k None))
