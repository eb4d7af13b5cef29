-- what is written, with the modules that are left, is all
use Rattle.std.proofs.Common.{◌≡◌, ◌++◌, drop, length}
use Rattle.std.specs.List.{concat}
use Rattle.verilog_text.specs.Text.{net_text, numbered, text_of_module}
use Rattle.verilog_print.proofs.printer.print.Given as goal

abbrev pub invariant-loop-number : goal.invariant-loop-number
invariant-loop-number l =
    l.out.items ++ concat (numbered (text_of_module l.net.ports (length l.net.modules)) l.number (drop l.number l.net.modules))
    ≡ net_text l.net
