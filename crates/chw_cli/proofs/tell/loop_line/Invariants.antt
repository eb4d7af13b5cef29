use Rattle.std.proofs.Common.{◌≡◌, ◌++◌, codes, take}
use Rattle.chw_cli.specs.Lines.{wire_texts}
use Rattle.chw_cli.proofs.tell.loop_line.Given as goal

abbrev pub invariant-loop-wire : goal.invariant-loop-wire
invariant-loop-wire l = l.line.items ≡ codes "chw: E16 loop" ++ wire_texts (take l.wire-index l.wire-items)
