use Rattle.std.proofs.Common.{◌≡◌, ◌++◌, drop}
use Rattle.chw_types.specs.TypeView.{trees_of}
use Rattle.type_ports.specs.TypeText.{arguments_text}
use Rattle.type_ports.proofs.text.+text_under.Given as goal

abbrev pub invariant-loop-arg : goal.invariant-loop-arg
invariant-loop-arg l = l.text.items ++ arguments_text l.datas l.domains l.under (trees_of (drop l.arg-index l.arg-items)) ≡ l.initial.text.items ++ arguments_text l.datas l.domains l.under (trees_of l.arg-items)
