use Rattle.std.proofs.Common.{ap, subst, ◌∙◌}
use Rattle.std.proofs.Math.Bool.{beq}
use Rattle.std.specs.Cmp.Lexicographic.{pointwise}
use Rattle.verilog_checks.specs.Fitting.{Fits}
use Rattle.verilog_checks.proofs.Reading.{one_number}
use Rattle.verilog_checks.proofs.literals.are_one.Goals as goal

pub returns-in-Some-Some : goal.returns-in-Some-Some
returns-in-Some-Some c = λ width m n f g.
    one_number width m n c.in-Some-Some.a c.in-Some-Some.b c.eq.result
    (c.eq.ensures ∙ ap (λ l. pointwise beq l c.as_slice-in-Some-Some.result.now) c.as_slice.ensures.value
    ∙ ap (λ l. pointwise beq c.in-Some-Some.a l) c.as_slice-in-Some-Some.ensures.value)
    (subst (Fits width m) c.in-Some-Some.is-0 f) (subst (Fits width n) c.in-Some-Some.is-1 g)
