use Rattle.std.proofs.Common.{[], ◌∷◌, ◌++◌, take, sym, ap, subst, ◌∙◌, arith}
use Rattle.std.proofs.lemmas.List.{take_more}
use Rattle.netlist.specs.NetValue.{ReadValues}
use Rattle.netlist.specs.declared.net.Flat.{Flat}
use Rattle.net_sim.specs.Sims.{SimStandsFor}
use Rattle.net_run.specs.Runs.OutputsAt.{none}
use Rattle.net_run.proofs.Lines.{past_after, past_more, run_more}
use Rattle.stimulus.specs.Output.{line_text}
use Rattle.net_run.proofs.running.run.Goals as goal

pub loop-number-init : goal.loop-number-init
loop-number-init c = record {
  table = c.in_ok-sim.ensures.table;
  net = c.in_ok-sim.ensures.net;
  stands = c.in_ok-sim.ensures.past;
  run = record { outputs = []; shown = none []; text_is = c.new-lines.ensures.items };
}

pub loop-number-preserved : goal.loop-number-preserved
loop-number-preserved c =
    let l = c.loop-number in
    let flat = c.args.flat.now in
    let events = c.args.events.now in
    let event = c.index-events-number.result in
    let past = past_after [] (take l.number events) in
    let one = take_more events l.number event c.loop-number-test.true
    ∙ ap (λ e. take l.number events ++ e ∷ []) (sym c.index-events-number.is) in
    let net = c.inputs.ensures.net ∙ l.invariant.net in
    let read = subst (λ (f : Flat). ReadValues f (event ∷ past) f.outputs c.inputs.new.self.outputs.items) net
    (c.inputs.ensures.outputs past l.invariant.stands) in
    let line = c.in_ok-print_line.ensures.line ∙ ap (λ os. l.lines.items ++ line_text l.number flat.ports event os) c.outputs.ensures in
    record {
      table = c.tick.ensures.table;
      net = c.tick.ensures.net ∙ net;
      stands = subst (λ es. SimStandsFor c.tick.new.self (past_after [] es)) (sym one)
          (subst (SimStandsFor c.tick.new.self) (sym (past_more [] (take l.number events) event))
          (c.tick.ensures.stands past (c.inputs.ensures.stands past l.invariant.stands)));
      run = run_more flat events l.number event c.inputs.new.self.outputs.items l.lines.items _ (omega (arith, c.loop-number-test.true)) one l.invariant.run read line;
    }
