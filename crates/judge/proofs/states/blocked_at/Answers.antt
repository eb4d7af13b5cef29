use Rattle.std.proofs.Common.{refl, sym, ◌∙◌, arith}
use Rattle.judge.proofs.Places.{free_below_first, free_below_next, free_everywhere, first_of_all}
use Rattle.judge.proofs.states.blocked_at.Goals as goal

pub loop-number-init : goal.loop-number-init
loop-number-init c =
    let scene = c.args.scene.now in
    record { same = refl; free = free_below_first scene.program.now scene.made.now }

pub blocked_in-requires-clause-widths : goal.blocked_in-requires-clause-widths
blocked_in-requires-clause-widths c = c.loop-number.invariant.same ∙ c.requires.widths

pub loop-number-preserved : goal.loop-number-preserved
loop-number-preserved c =
    let scene = c.args.scene.now in
    let so = c.loop-number.invariant in
    record {
      same = c.blocked_in.ensures.same ∙ so.same;
      free = free_below_next scene.program.now scene.made.now c.loop-number.number c.in_ok-found.found
          (sym c.is_some.ensures ∙ c.if-is_some.false) so.free c.in_ok-found.ensures.found;
    }

pub returns-then-is_some : goal.returns-then-is_some
returns-then-is_some c =
    let scene = c.args.scene.now in
    first_of_all scene.program.now scene.made.now c.loop-number.number c.in_ok-found.found
    (sym c.is_some.ensures ∙ c.if-is_some.true) c.loop-number.invariant.free c.in_ok-found.ensures.found

pub returns : goal.returns
returns c =
    let scene = c.args.scene.now in
    free_everywhere scene.program.now scene.made.now c.loop-number.number
    (omega (arith, c.loop-number-test.false)) c.loop-number.invariant.free
