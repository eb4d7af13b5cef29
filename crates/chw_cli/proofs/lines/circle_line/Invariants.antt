use Rattle.std.proofs.Common.{◌≡◌, ◌++◌, take}
use Rattle.chw_cli.specs.Lines.{name_texts}
use Rattle.chw_cli.proofs.lines.circle_line.Given as goal

abbrev pub invariant-loop-name : goal.invariant-loop-name
invariant-loop-name l = l.line.items ≡ l.text ++ name_texts (take l.name-index l.name-items)
