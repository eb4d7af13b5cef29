use Rattle.std.proofs.Common.{false, get_or}
use Rattle.std.proofs.lemmas.List.{get_or_default}
use Rattle.waves.proofs.Changing.{goes_on, levels_step}
use Rattle.waves.proofs.values.put_levels.Goals as goal

pub loop-place-preserved : goal.loop-place-preserved
loop-place-preserved c =
    let l = c.loop-place in
    let new = c.args.new.now in
    let level = get_or new l.place false in
    goes_on l.out.items _ _ _ _ _ c.in_ok-put_level.ensures
    (levels_step l.place c.args.old.now new l.place level c.loop-place-test.true (get_or_default new l.place false level c.loop-place-test.true)) l.invariant
