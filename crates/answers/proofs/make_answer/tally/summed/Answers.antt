use Rattle.std.proofs.Common.{sym, subst}
use Rattle.std.specs.List.{AllByRecursion}
use Rattle.chw_clock.specs.Histories.{FitsEvent}
use Rattle.answers.proofs.SimAnswer.Histories.{stimulus_fits}
use Rattle.answers.specs.MakeAnswer.Sums.{HasSum}
use Rattle.answers.proofs.make_answer.tally.summed.Goals as goal

pub sum_of-requires-clause-fit : goal.sum_of-requires-clause-fit
sum_of-requires-clause-fit c =
    let ports = c.args.flat.now.ports in
    subst (AllByRecursion (FitsEvent ports)) (sym c.as_slice.ensures)
    (stimulus_fits c.args.text.now ports c.in_ok-events.events c.in_ok-events.ensures.events.read)

pub returns-clause-sum : goal.returns-clause-sum
returns-clause-sum c =
    let p = c.args.program.now in
    let flat = c.args.flat.now in
    let events = c.in_ok-events.events in
    let stimulus = c.in_ok-events.ensures.events in
    let has = subst (λ es. HasSum flat es c.in_ok-sum_of.field-0) c.as_slice.ensures c.in_ok-sum_of.ensures in
    record {
      ports = flat.ports;
      events = events;
      stimulus = stimulus;
      outputs = has.outputs;
      meant = c.outputs_are_meant.ensures p flat c.args.text.now events has.outputs c.requires.tidy c.requires.sound c.requires.means stimulus has.shown;
      sum_is = has.sum_is;
    }
