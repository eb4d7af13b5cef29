use Rattle.std.proofs.Common.{◌≡◌, [], ◌∷◌, ◌++◌, take, sym, ap, subst, ◌∙◌, arith}
use Rattle.std.proofs.lemmas.List.{length-take, take_all, take_more}
use Rattle.chw_clock.specs.Histories.{HaveWidths}
use Rattle.chw_clock.specs.declared.event.Ports.{Ports}
use Rattle.netlist.specs.NetValue.{ReadValues}
use Rattle.netlist.specs.declared.net.Flat.{Flat}
use Rattle.net_sim.specs.Sims.{SimStandsFor}
use Rattle.net_run.specs.Runs.OutputsAt.{none}
use Rattle.net_run.proofs.Lines.{past_after, past_more}
use Rattle.net_run.proofs.Waves.{HoldsRun, have_widths, run_holds, waves_held}
use Rattle.waves.specs.Holding.{Printed}
use Rattle.net_run.proofs.waving.run_waves.Goals as goal

pub loop-present-init : goal.loop-present-init
loop-present-init c = record {
  table = c.in_ok-sim.ensures.table;
  net = c.in_ok-sim.ensures.net;
  stands = c.in_ok-sim.ensures.past;
  run = record { outputs = []; shown = none []; holds = c.in_ok-out.ensures.holds; ports = ap (λ (it : Printed). it.ports) c.in_ok-out.ensures.made };
}

pub event-requires-clause-outputs : goal.event-requires-clause-outputs
event-requires-clause-outputs c =
    let l = c.loop-present in
    let flat = c.args.flat.now in
    let net = c.inputs.ensures.net ∙ l.invariant.net in
    let widths = have_widths c.inputs.new.self.flat.now.ports.outputs c.inputs.new.self.outputs.items c.inputs.ensures.table.outputs in
    subst (HaveWidths l.out.ports.outputs) (sym c.outputs.ensures)
    (subst (λ (ps : Ports). HaveWidths ps.outputs c.inputs.new.self.outputs.items) (sym l.invariant.run.ports)
    (subst (λ (f : Flat). HaveWidths f.ports.outputs c.inputs.new.self.outputs.items) net widths))

pub event-requires-clause-few : goal.event-requires-clause-few
event-requires-clause-few c =
    let l = c.loop-present in
    let count = l.invariant.run.holds.count in
    let few = c.requires.few in
    omega (arith, count, few, length-take l.present-index c.args.events.now)

pub loop-present-preserved : goal.loop-present-preserved
loop-present-preserved c =
    let l = c.loop-present in
    let flat = c.args.flat.now in
    let events = c.args.events.now in
    let event = c.present-item.result in
    let past = past_after [] (take l.present-index events) in
    let one = take_more events l.present-index event c.loop-present-test.true
    ∙ ap (λ e. take l.present-index events ++ e ∷ []) (sym c.present-item.is) in
    let net = c.inputs.ensures.net ∙ l.invariant.net in
    let read = subst (λ (f : Flat). ReadValues f (event ∷ past) f.outputs c.inputs.new.self.outputs.items) net
    (c.inputs.ensures.outputs past l.invariant.stands) in
    let read_now = subst (ReadValues flat (event ∷ past) flat.outputs) (sym c.outputs.ensures) read in
    record {
      table = c.tick.ensures.table;
      net = c.tick.ensures.net ∙ net;
      stands = subst (λ es. SimStandsFor c.tick.new.self (past_after [] es)) (sym one)
          (subst (SimStandsFor c.tick.new.self) (sym (past_more [] (take l.present-index events) event))
          (c.tick.ensures.stands past (c.inputs.ensures.stands past l.invariant.stands)));
      run = run_holds flat events l.present-index event c.outputs.result.now l.out c.event.new.self one l.invariant.run read_now c.in_ok-event.ensures.made c.in_ok-event.ensures.holds;
    }

pub returns : goal.returns
returns c =
    let l = c.loop-present in
    let flat = c.args.flat.now in
    let events = c.args.events.now in
    let whole : take l.present-index events ≡ events = take_all l.present-index events (omega (arith, c.loop-present-test.false)) in
    waves_held flat events l.out c.into_text.result.items (subst (λ es. HoldsRun flat es l.out) whole l.invariant.run) c.into_text.ensures
