use Rattle.std.proofs.Common.{sym, subst}
use Rattle.std.specs.List.{AllByRecursion}
use Rattle.answers.specs.SimAnswer.Simulation.{HasValues, not_values}
use Rattle.chw_layout.specs.Encodes.{HaveConstructors}
use Rattle.answers.specs.SimAnswer.Types.{AllAreSized, IsFirstStranger, IsMeasured}
use Rattle.answers.proofs.SimAnswer.Histories.{stimulus_fits}
use Rattle.answers.proofs.SimAnswer.Pairs.{events_sized, got_within, types_measured}
use Rattle.answers.proofs.SimAnswer.Strangers.{first_line_without}
use Rattle.answers.proofs.sim_answer.simulating.check_values.Goals as goal

pub first_stranger-found-requires-clause-inhabited : goal.first_stranger-found-requires-clause-inhabited
first_stranger-found-requires-clause-inhabited c = subst HaveConstructors (sym c.as_slice.ensures) c.requires.tidy.inhabited

pub first_stranger-found-requires-clause-measured : goal.first_stranger-found-requires-clause-measured
first_stranger-found-requires-clause-measured c =
    subst (λ ds. AllByRecursion (IsMeasured ds) c.deref.result.now) (sym c.as_slice.ensures)
    (subst (AllByRecursion (IsMeasured c.args.program.now.datas)) (sym c.deref.ensures.value)
    (types_measured (c.in_ok-types.ensures c.args.ports.now c.requires.ports).are_types))

pub first_stranger-found-requires-clause-widths : goal.first_stranger-found-requires-clause-widths
first_stranger-found-requires-clause-widths c =
    let p = c.args.program.now in
    let events = c.args.events.now in
    let ports = c.args.ports.now in
    subst (λ ds. AllAreSized ds c.deref.result.now events) (sym c.as_slice.ensures)
    (subst (λ ts. AllAreSized p.datas ts events) (sym c.deref.ensures.value)
    (events_sized p ports c.in_ok-types.types.items events (c.in_ok-types.ensures ports c.requires.ports)
    (stimulus_fits c.args.text.now ports events c.requires.read)))

pub line_of_event-requires : goal.line_of_event-requires
line_of_event-requires c =
    let first = rw c.in-Some.is at c.in_ok-place.ensures.some in
    record {
      events = c.args.events.now;
      read = c.requires.read;
      within = got_within c.args.events.now c.in-Some.place first.event first.is_event;
    }

pub returns-in_ok-line-in-Some-clause-fault : goal.returns-in_ok-line-in-Some-clause-fault
returns-in_ok-line-in-Some-clause-fault c =
    let p = c.args.program.now in
    let events = c.args.events.now in
    let ports = c.args.ports.now in
    let types = c.in_ok-types.types.items in
    let place = c.in-Some.place in
    let first = subst (λ ts. IsFirstStranger p.datas ts events place) c.deref.ensures.value
    (subst (λ ds. IsFirstStranger ds c.deref.result.now events place) c.as_slice.ensures (rw c.in-Some.is at c.in_ok-place.ensures.some)) in
    not_values c.in_ok-line-in-Some.line
    (first_line_without p c.args.text.now ports types events place c.in_ok-line-in-Some.line (c.in_ok-types.ensures ports c.requires.ports) c.requires.read
    first c.in_ok-line-in-Some.ensures)

pub returns-in-None-clause-stimulus : goal.returns-in-None-clause-stimulus
returns-in-None-clause-stimulus c =
    let p = c.args.program.now in
    let events = c.args.events.now in
    let ports = c.args.ports.now in
    record {
      types = c.in_ok-types.types.items;
      has = c.in_ok-types.ensures ports c.requires.ports;
      read = c.requires.read;
      values = subst (λ ts. AllByRecursion (HasValues p.datas ts) events) c.deref.ensures.value
          (subst (λ ds. AllByRecursion (HasValues ds c.deref.result.now) events) c.as_slice.ensures (rw c.in-None.is at c.in_ok-place.ensures.none));
    }
