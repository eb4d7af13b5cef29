use Rattle.std.proofs.Common.{subst}
use Rattle.std.proofs.lemmas.Option.{MatchOption-at_some}
use Rattle.std.proofs.lemmas.Result.{err_from_is_err_and}
use Rattle.chw_cli.specs.Fetching.RefusesFile.{nothing, too_long, wrong}
use Rattle.chw_cli.specs.Refusals.{RefusesVerilog, of_circuit_fault}
use Rattle.chw_cli.proofs.Reasons.{circuit_refuses, without_value}
use Rattle.run_answer.specs.Circuits.{IsCircuitOf}
use Rattle.chw_cli.proofs.run.read_circuit.Goals as goal

pub returns-in_err-text-clause-refused : goal.returns-in_err-text-clause-refused
returns-in_err-text-clause-refused g c =
    let p = err_from_is_err_and c.from_residual.result c.from_residual.ensures.1 in
    rw (p.1, p.2) (nothing c.in_err-text.field-0.0 c.in_err-text.ensures.nothing)

pub returns-in_default-clause-refused : goal.returns-in_default-clause-refused
returns-in_default-clause-refused g c =
    let long = without_value _ _ c.in_ok-text.field-0 c.in_default.not-Some c.in_ok-text.ensures.text in
    too_long long.0 long.1

pub returns-in_err-circuit_of-clause-refused : goal.returns-in_err-circuit_of-clause-refused
returns-in_err-circuit_of-clause-refused g c =
    let p = err_from_is_err_and c.from_residual-in_err-circuit_of.result c.from_residual-in_err-circuit_of.ensures.1 in
    rw (p.1, p.2)
    (wrong c.in-Some.text.items (of_circuit_fault c.in_err-circuit_of.field-0.0) (MatchOption-at_some _ _ c.in-Some.text c.in-Some.is c.in_ok-text.ensures.text)
    (subst (λ t. RefusesVerilog t (of_circuit_fault c.in_err-circuit_of.field-0.0)) c.as_slice.ensures.value
    (circuit_refuses c.as_slice.result.now c.in_err-circuit_of.field-0.0 c.in_err-circuit_of.ensures.fault)))

pub returns-clause-circuit : goal.returns-clause-circuit
returns-clause-circuit g c = (
  c.in-Some.text.items,
  MatchOption-at_some _ _ c.in-Some.text c.in-Some.is c.in_ok-text.ensures.text,
  subst (λ t. IsCircuitOf t c.in_ok-circuit_of.field-0) c.as_slice.ensures.value c.in_ok-circuit_of.ensures.circuit,
)
