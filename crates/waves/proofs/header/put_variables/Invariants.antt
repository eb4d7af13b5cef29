-- what is written, with the variables that are left, is all
use Rattle.std.proofs.Common.{◌≡◌, ◌++◌, drop}
use Rattle.waves.specs.Vcd.{variable_lines}
use Rattle.waves.proofs.header.put_variables.Given as goal

abbrev pub invariant-loop-number : goal.invariant-loop-number
invariant-loop-number l =
    l.out.items ++ variable_lines l.number (drop l.number l.variables)
    ≡ l.initial.out.items ++ variable_lines 0 l.variables
