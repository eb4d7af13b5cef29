use Rattle.std.proofs.Common.{◌<◌, true, length, get_or, refl, length-set, ◌∙◌}
use Rattle.std.proofs.lemmas.Option.{slice_get-get_or}
use Rattle.net_rules.proofs.Marking.{at_place, driven_twice, input_driven, marks_more, marks_none}
use Rattle.netlist.proofs.Places.{all_at}
use Rattle.net_rules.proofs.well_formed.drivers.mark_all.Goals as goal

pub loop-w-init : goal.loop-w-init
loop-w-init c = record { marks = marks_none c.args.inputs c.args.driven.now c.args.marks.now c.requires.none; size = refl }

pub returns-then-w-inputs-clause-no : goal.returns-then-w-inputs-clause-no
returns-then-w-inputs-clause-no c =
    let l = c.loop-w in
    input_driven c.args.inputs _ c.args.driven.now l.w-index _ (at_place c.args.driven.now l.w-index _ c.loop-w-test.true) c.if-w-inputs.true

pub returns-then-marks-place-clause-no : goal.returns-then-marks-place-clause-no
returns-then-marks-place-clause-no c =
    let l = c.loop-w in
    driven_twice c.args.inputs _ c.args.driven.now l.marks l.w-index _ (at_place c.args.driven.now l.w-index _ c.loop-w-test.true) c.if-marks-place.true l.invariant.marks

pub loop-w-preserved : goal.loop-w-preserved
loop-w-preserved c =
    let l = c.loop-w in
    let ws = c.args.driven.now in
    let here = slice_get-get_or ws l.w-index _ c.loop-w-test.true in
    let fits : (get_or ws l.w-index (record { number = 0 })).number < length l.marks = rw l.invariant.size (all_at _ ws l.w-index _ c.requires.wires here) in
    record {
      marks = marks_more c.args.inputs ws l.marks l.w-index _ fits (at_place ws l.w-index _ c.loop-w-test.true) c.if-w-inputs.false c.if-marks-place.false l.invariant.marks;
      size = length-set l.marks _ true ∙ l.invariant.size;
    }
