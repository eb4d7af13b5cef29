use Rattle.std.proofs.Common.{◌≡◌, take}
use Rattle.std.specs.List.{flat_map}
use Rattle.chw_grammar.specs.Text.{declaration_text}
use Rattle.chw_text.proofs.printer.print.Given as goal

abbrev pub invariant-loop-declaration : goal.invariant-loop-declaration
invariant-loop-declaration l = l.out.items ≡ flat_map declaration_text (take l.declaration-index l.declaration-items)
