-- all are the same where those that are left are
use Rattle.std.proofs.Common.{◌≡◌, drop}
use Rattle.std.specs.Cmp.Lexicographic.{pointwise}
use Rattle.std.specs.Str.{bytes_eq}
use Rattle.verilog_rules.specs.NameRules.{texts}
use Rattle.verilog_names.proofs.ports.are_same_words.Given as goal

abbrev pub invariant-loop-i : goal.invariant-loop-i
invariant-loop-i l =
    pointwise bytes_eq (texts (drop l.i l.a)) (texts (drop l.i l.b)) ≡ pointwise bytes_eq (texts l.a) (texts l.b)
