-- the types of the parameters so far
use Rattle.std.proofs.Common.{◌≡◌}
use Rattle.answers.proofs.SimAnswer.Parameters.{Led}
use Rattle.answers.proofs.sim_answer.inputs.parameters.Given as goal

abbrev pub invariant-loop-rest : goal.invariant-loop-rest
invariant-loop-rest l = record {
  same : l.widths ≡ l.initial.widths;
  led : Led l.initial.widths l.t l.rest l.types.items;
}
