use Rattle.std.proofs.Common.{ℕ, List, length, sym, ap, subst, arith}
use Rattle.share_laws.specs.Shares.{RisesFrom}
use Rattle.net_share.proofs.Becoming.{kept_below, plan_of}
use Rattle.net_share.proofs.Looking.{server_within}
use Rattle.net_share.proofs.planning.plan_by.Goals as goal

pub overflow_cast-inputs : goal.overflow_cast-inputs
overflow_cast-inputs c = let sound = c.requires.sound in omega (arith, sound.few, sound.all, c.len-inputs.ensures)

pub overflow_cast-count : goal.overflow_cast-count
overflow_cast-count c = let sound = c.requires.sound in omega (arith, sound.few, c.len-count.ensures)

pub kept_wires-requires-clause-few : goal.kept_wires-requires-clause-few
kept_wires-requires-clause-few c =
    let sound = c.requires.sound in
    omega (arith, sound.few, ap length c.deref.ensures.value, c.in_ok-marks.ensures.count)

pub kept_wires-requires-clause-inputs : goal.kept_wires-requires-clause-inputs
kept_wires-requires-clause-inputs c =
    let sound = c.requires.sound in
    omega (arith, sound.all, ap length c.deref.ensures.value, c.in_ok-marks.ensures.count, c.len-inputs.ensures)

pub new_numbers-requires-clause-inputs : goal.new_numbers-requires-clause-inputs
new_numbers-requires-clause-inputs c = let sound = c.requires.sound in omega (arith, sound.all, c.len-inputs.ensures, c.len-count.ensures)

pub new_numbers-requires-clause-rises : goal.new_numbers-requires-clause-rises
new_numbers-requires-clause-rises c =
    subst (λ (ws : List ℕ). RisesFrom c.len-inputs.result ws) (sym c.deref-2.ensures.value) c.in_ok-kept.ensures.rises

pub new_numbers-requires-clause-below : goal.new_numbers-requires-clause-below
new_numbers-requires-clause-below c =
    kept_below c.args.flat.now c.requires.sound c.in_ok-marks.marks.items c.deref.result.now c.len-inputs.result c.in_ok-kept.kept.items c.deref.ensures.value
    c.in_ok-marks.ensures c.len-inputs.ensures c.in_ok-kept.ensures c.len-count.result c.deref-2.result.now c.len-count.ensures c.deref-2.ensures.value

pub new_names-requires : goal.new_names-requires
new_names-requires c = λ w v e.
    let within = server_within c.args.flat.now c.args.servers.now c.requires.sound c.requires.servers w v e in
    omega (arith, within, ap length c.deref-3.ensures.value, c.in_ok-numbers.ensures.count, c.len-count.ensures)

pub returns : goal.returns
returns c =
    plan_of c.args.flat.now c.requires.sound c.in_ok-marks.marks.items c.deref.result.now c.len-inputs.result c.in_ok-kept.kept.items c.deref.ensures.value
    c.in_ok-marks.ensures c.len-inputs.ensures c.in_ok-kept.ensures c.args.servers.now c.len-count.result c.deref-2.result.now c.in_ok-numbers.numbers.items
    c.deref-3.result.now c.in_ok-names.names.items c.requires.servers c.len-count.ensures c.deref-2.ensures.value c.in_ok-numbers.ensures c.deref-3.ensures.value
    c.in_ok-names.ensures
