use Rattle.std.proofs.Common.{[], ◌∷◌, ◌++◌, ◌+◌, ◌%◌, ◌^◌, take, refl, sym, ap, subst, ◌∙◌, arith}
use Rattle.std.proofs.lemmas.List.{take_more}
use Rattle.netlist.specs.NetValue.{ReadValues}
use Rattle.netlist.specs.declared.net.Flat.{Flat}
use Rattle.net_sim.specs.Sims.{SimStandsFor}
use Rattle.net_run.specs.Runs.OutputsAt.{none}
use Rattle.net_run.proofs.Lines.{past_after, past_more}
use Rattle.answers.specs.MakeAnswer.Sums.{adds}
use Rattle.answers.proofs.MakeAnswer.Totals.{has_sum_more}
use Rattle.answers.proofs.make_answer.sums.sum_of.Goals as goal

pub loop-number-init : goal.loop-number-init
loop-number-init c = record {
  table = c.in_ok-sim.ensures.table;
  net = c.in_ok-sim.ensures.net;
  stands = c.in_ok-sim.ensures.past;
  sum = record { outputs = []; shown = none []; sum_is = refl };
}

pub loop-number-preserved : goal.loop-number-preserved
loop-number-preserved c =
    let l = c.loop-number in
    let flat = c.args.flat.now in
    let events = c.args.events.now in
    let event = c.index-events-number.result in
    let past = past_after [] (take l.number events) in
    let one = take_more events l.number event c.loop-number-test.true
    ∙ ap (λ e. take l.number events ++ e ∷ []) (sym c.index-events-number.is) in
    let net = c.inputs.ensures.net ∙ l.invariant.net in
    let outputs = c.inputs.new.self.outputs.items in
    let read = subst (λ (f : Flat). ReadValues f (event ∷ past) f.outputs outputs) net
    (c.inputs.ensures.outputs past l.invariant.stands) in
    let sum = c.with_event-sum.ensures
    ∙ ap (λ os. (l.sum + adds l.number os) % 2 ^ 64) c.outputs.ensures in
    record {
      table = c.tick.ensures.table;
      net = c.tick.ensures.net ∙ net;
      stands = subst (λ es. SimStandsFor c.tick.new.self (past_after [] es)) (sym one)
          (subst (SimStandsFor c.tick.new.self) (sym (past_more [] (take l.number events) event))
          (c.tick.ensures.stands past (c.inputs.ensures.stands past l.invariant.stands)));
      sum = has_sum_more flat events l.number event outputs l.sum _ (omega (arith, c.loop-number-test.true)) one l.invariant.sum read sum;
    }
