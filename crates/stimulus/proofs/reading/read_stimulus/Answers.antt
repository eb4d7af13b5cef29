use Rattle.std.proofs.Common.{◌≡◌, ◌<◌, length, sym, subst, ◌∙◌, arith}
use Rattle.std.specs.List.{AllByRecursion}
use Rattle.std.proofs.lemmas.Result.{err_from_is_err_and}
use Rattle.std.proofs.lemmas.Grind.{common_steps}
use Rattle.chw_clock.specs.Histories.{FitsEvent}
use Rattle.stimulus.specs.Texts.{lines_of}
use Rattle.stimulus.proofs.Fits.{events_fit}
use Rattle.stimulus.proofs.Progress.{reads_more, reads_end, reads_fault}
use Rattle.stimulus.proofs.reading.read_stimulus.Goals as goal

pub returns-in_err-left-clause-fault : goal.returns-in_err-left-clause-fault
returns-in_err-left-clause-fault c =
    let l = c.loop-left in
    let some : 0 < length l.left.text.now = grind (arith, common_steps) in
    let p = err_from_is_err_and c.from_residual.result c.from_residual.ensures.1 in
    rw (p.1, p.2) (reads_fault c.args.ports.now c.args.text.now l.left.text.now l.left.lines l.events.items c.in_err-left.field-0.0 l.invariant some c.if-text.false
    c.in_err-left.ensures.number c.in_err-left.ensures.fault)

pub loop-left-preserved : goal.loop-left-preserved
loop-left-preserved c =
    let l = c.loop-left in
    let some : 0 < length l.left.text.now = grind (arith, common_steps) in
    let e = c.in_ok-left.ensures in
    reads_more c.args.ports.now c.args.text.now l.left.text.now c.in_ok-left.left.text.now l.left.lines c.in_ok-left.left.lines l.events.items c.put_first.new.events.items l.invariant some
    e.text e.lines e.right e.events e.few

pub returns-clause-fit : goal.returns-clause-fit
returns-clause-fit c =
    let l = c.loop-left in
    let none : length l.left.text.now ≡ 0 = grind (arith, common_steps) in
    let stim = reads_end c.args.ports.now c.args.text.now l.left.text.now l.left.lines l.events.items l.invariant none c.if-text.false in
    subst (AllByRecursion (FitsEvent c.args.ports.now)) (sym (c.from.ensures ∙ stim.events_are)) (events_fit c.args.ports.now (lines_of c.args.text.now) stim.right)
