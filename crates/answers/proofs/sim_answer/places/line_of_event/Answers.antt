use Rattle.std.proofs.Common.{◌<◌, length, sym, ap, subst, ◌∙◌, arith}
use Rattle.std.proofs.lemmas.Grind.{common_steps}
use Rattle.stimulus.specs.Stimulus.{count_of}
use Rattle.answers.specs.SimAnswer.Places.{IsOneLine}
use Rattle.answers.proofs.SimAnswer.Lines.{first_alone, found, walked_more}
use Rattle.answers.proofs.sim_answer.places.line_of_event.Goals as goal

pub event_count-requires : goal.event_count-requires
event_count-requires c =
    let l = c.loop-left in
    let some : 0 < length l.left.now = grind (arith, common_steps) in
    subst (IsOneLine c.args.ports.now) (sym c.first_line.ensures.line)
    (first_alone c.args.ports.now c.args.text.now l.left.now l.line l.events c.args.place l.invariant some c.requires)

pub returns-then-place-events : goal.returns-then-place-events
returns-then-place-events c =
    let l = c.loop-left in
    let some : 0 < length l.left.now = grind (arith, common_steps) in
    found c.args.ports.now c.args.text.now l.left.now l.line l.events c.args.place l.invariant some c.in_ok-count.count
    (c.in_ok-count.ensures ∙ ap count_of c.first_line.ensures.line) c.if-place-events.true

pub loop-left-preserved : goal.loop-left-preserved
loop-left-preserved c =
    let l = c.loop-left in
    let some : 0 < length l.left.now = grind (arith, common_steps) in
    walked_more c.args.ports.now c.args.text.now l.left.now l.line l.events c.args.place l.invariant some c.in_ok-count.count _
    c.first_line.ensures.rest (c.in_ok-count.ensures ∙ ap count_of c.first_line.ensures.line) c.if-place-events.false
