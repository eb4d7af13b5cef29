use Rattle.std.proofs.Common.{◌≡◌, ◌∙◌, ◌+◌, suc, sym, subst, arith}
use Rattle.trials.specs.Trials.{built}
use Rattle.step_search.proofs.LookedStates.{LooksBelow, looked_at_none, looked_below_next, looked_so_far}
use Rattle.step_search.proofs.States.{HasNoneBelow, none_below_start, found_if_some, none_if_none, none_at_all}
use Rattle.step_search.proofs.state.next_from.Goals as goal

pub loop-number-init : goal.loop-number-init
loop-number-init g c =
    let scene = c.args.scene.now in
    let from = c.args.from.now in
    record {
      none =
          none_below_start built scene.program.now scene.made.now from.made.number from.path.items;
      looks =
          looked_at_none built scene.program.now scene.made.now from.made.number from.made.number from.path.items (g.R.Looks.looks c.args.rules.now);
    }

pub returns-then-is_some : goal.returns-then-is_some
returns-then-is_some g c =
    let scene = c.args.scene.now in
    let from = c.args.from.now in
    record {
      first =
          found_if_some built scene.program.now scene.made.now c.loop-number.number from.made.number from.path.items c.in_ok-found.found
          (sym c.is_some.ensures ∙ c.if-is_some.true) c.loop-number.invariant.none c.in_ok-found.ensures.first;
      looks =
          looked_so_far built scene.program.now scene.made.now (suc c.loop-number.number) from.made.number from.path.items (g.R.Looks.looks c.args.rules.now) (g.R.Looks.looks c.in_number.new.rules)
          (looked_below_next built scene.program.now scene.made.now c.loop-number.number from.made.number from.path.items (g.R.Looks.looks c.args.rules.now) (g.R.Looks.looks c.loop-number.rules) (g.R.Looks.looks c.in_number.new.rules)
          c.loop-number.invariant.none c.loop-number.invariant.looks c.in_number.ensures.looks);
    }

pub loop-number-preserved : goal.loop-number-preserved
loop-number-preserved g c =
    let scene = c.args.scene.now in
    let from = c.args.from.now in
    let n = c.loop-number.number in
    let next : suc n ≡ n + 1 = omega arith in
    record {
      none =
          subst (λ k. HasNoneBelow built scene.program.now scene.made.now k from.made.number from.path.items) next
          (none_if_none built scene.program.now scene.made.now n from.made.number from.path.items c.in_ok-found.found
          (sym c.is_some.ensures ∙ c.if-is_some.false) c.loop-number.invariant.none c.in_ok-found.ensures.first);
      looks =
          subst (λ k. LooksBelow built scene.program.now scene.made.now k from.made.number from.path.items (g.R.Looks.looks c.args.rules.now) (g.R.Looks.looks c.in_number.new.rules)) next
          (looked_below_next built scene.program.now scene.made.now c.loop-number.number from.made.number from.path.items (g.R.Looks.looks c.args.rules.now) (g.R.Looks.looks c.loop-number.rules) (g.R.Looks.looks c.in_number.new.rules)
          c.loop-number.invariant.none c.loop-number.invariant.looks c.in_number.ensures.looks);
    }

pub returns : goal.returns
returns g c =
    let scene = c.args.scene.now in
    let from = c.args.from.now in
    record {
      first =
          none_at_all built scene.program.now scene.made.now c.loop-number.number from.made.number from.path.items
          (omega (arith, c.loop-number-test.false)) c.loop-number.invariant.none;
      looks =
          looked_so_far built scene.program.now scene.made.now c.loop-number.number from.made.number from.path.items (g.R.Looks.looks c.args.rules.now) (g.R.Looks.looks c.loop-number.rules) c.loop-number.invariant.looks;
    }

pub returns-in_err-found-clause-looks : goal.returns-in_err-found-clause-looks
returns-in_err-found-clause-looks g c =
    let scene = c.args.scene.now in
    let from = c.args.from.now in
    looked_so_far built scene.program.now scene.made.now (suc c.loop-number.number) from.made.number from.path.items (g.R.Looks.looks c.args.rules.now) (g.R.Looks.looks c.in_number.new.rules)
    (looked_below_next built scene.program.now scene.made.now c.loop-number.number from.made.number from.path.items (g.R.Looks.looks c.args.rules.now) (g.R.Looks.looks c.loop-number.rules) (g.R.Looks.looks c.in_number.new.rules)
    c.loop-number.invariant.none c.loop-number.invariant.looks c.in_number.ensures.looks)
