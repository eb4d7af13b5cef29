use Rattle.std.proofs.Common.{◌≡◌, ◌+◌, ◌++◌, drop, ap, ◌∙◌, arith}
use Rattle.waves.specs.Vcd.{changes}
use Rattle.waves.proofs.Changing.{goes_on, line_of, values_step}
use Rattle.waves.proofs.values.put_changes.Goals as goal

pub loop-place-preserved : goal.loop-place-preserved
loop-place-preserved c =
    let l = c.loop-place in
    let old = c.args.old.now in
    let new = c.args.new.now in
    let bits = c.index-new-place.result in
    let place : c.args.first + l.place + 1 ≡ c.args.first + (l.place + 1) = omega arith in
    goes_on l.out.items _ _ _ _ _ c.in_ok-put_change.ensures
    (values_step (c.args.first + l.place) old new l.place bits c.loop-place-test.true c.index-new-place.is
    ∙ ap (λ n. line_of (c.args.first + l.place) (drop l.place old) bits ++ changes n (drop (l.place + 1) old) (drop (l.place + 1) new)) place) l.invariant
