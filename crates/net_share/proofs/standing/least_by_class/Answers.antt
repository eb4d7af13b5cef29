use Rattle.std.proofs.Common.{◌≡◌, ◌+◌, ◌-◌, ℕ, length, ap, subst, ◌∙◌, arith}
use Rattle.std.proofs.lemmas.List.{length-replicate}
use Rattle.net_share.specs.Standing.{LeastsFrom}
use Rattle.net_share.proofs.Servers.{least_none}
use Rattle.net_share.proofs.standing.least_by_class.Goals as goal

pub loop-w-init : goal.loop-w-init
loop-w-init c =
    let flat = c.args.flat.now in
    let count = c.len-count.result in
    record {
      count = ap length (c.in_ok-table.ensures.items_if_clones_equal (λ y e. e)) ∙ length-replicate count 0 ∙ c.len-count.ensures;
      least = least_none flat c.args.classes.now.of count c.in_ok-table.table.items c.requires.sound c.len-count.ensures;
    }

pub overflow_cast-w : goal.overflow_cast-w
overflow_cast-w c = let sound = c.requires.sound in omega (arith, sound.few, c.loop-w-test.true, c.loop-w.auto.w, c.len-count.ensures)

pub note-requires-clause-wire : goal.note-requires-clause-wire
note-requires-clause-wire c = omega (arith, c.loop-w-test.true, c.loop-w.auto.w, c.len-count.ensures)

pub note-requires-clause-table : goal.note-requires-clause-table
note-requires-clause-table c = c.loop-w.invariant.count

pub note-requires-clause-least : goal.note-requires-clause-least
note-requires-clause-least c =
    let next : c.loop-w.w ≡ c.loop-w.w - 1 + 1 = omega (arith, c.loop-w-test.true) in
    subst (λ (n : ℕ). LeastsFrom c.args.flat.now c.args.classes.now.of n c.loop-w.table.items) next c.loop-w.invariant.least

pub loop-w-preserved : goal.loop-w-preserved
loop-w-preserved c = record { count = c.note.ensures.count ∙ c.loop-w.invariant.count; least = c.note.ensures.least }

pub returns-clause-count : goal.returns-clause-count
returns-clause-count c = c.loop-w.invariant.count

pub returns-clause-least : goal.returns-clause-least
returns-clause-least c =
    let none : c.loop-w.w ≡ 0 = omega (arith, c.loop-w-test.false) in
    subst (λ (n : ℕ). LeastsFrom c.args.flat.now c.args.classes.now.of n c.loop-w.table.items) none c.loop-w.invariant.least
