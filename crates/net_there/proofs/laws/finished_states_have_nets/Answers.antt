use Rattle.net_there.proofs.States.{state_built, run_built}
use Rattle.net_there.proofs.laws.finished_states_have_nets.Goals as goal

pub returns : goal.returns
returns c = record {
  states = λ p state entry normal acyclic.
      state_built c.states_are_ready.ensures c.ready_states_have_nets.ensures c.runs_build_well_formed.ensures.states p state entry normal acyclic;
  runs = λ rules p n steps state tidy typed run few normal acyclic.
      run_built c.states_are_ready.ensures c.ready_states_have_nets.ensures c.runs_build_well_formed.ensures.states c.runs_begin_with_top.ensures c.states_stay_typed.ensures.runs rules p n steps state tidy typed run few normal acyclic;
}
