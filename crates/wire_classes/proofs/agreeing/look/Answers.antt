use Rattle.std.proofs.Common.{Some, sym, ap, ◌∙◌}
use Rattle.wire_classes.proofs.Seen.{key_here, seen_clash, seen_new, seen_old}
use Rattle.wire_classes.proofs.agreeing.look.Goals as goal

pub returns-in_default-clause-none : goal.returns-in_default-clause-none
returns-in_default-clause-none c =
    let here = key_here c.args.of.now c.args.flat.now.cells c.args.place c.cell_at.result.now c.set_cell_key.new.key.items c.deref.result.now c.cell_at.ensures
    c.in_ok-set_cell_key.ensures c.deref.ensures.value in
    seen_new _ c.args.labels.now c.args.place c.args.seen.now.firsts c.requires.seen c.deref.result.now here c.insert.new.self c.hash_of-hash.result
    c.hash_of-hash.ensures (sym c.first_with.ensures ∙ c.in_default.is) c.in_ok-insert.ensures.updates.0

pub returns-then-label-clause-none : goal.returns-then-label-clause-none
returns-then-label-clause-none c =
    let here = key_here c.args.of.now c.args.flat.now.cells c.args.place c.cell_at.result.now c.set_cell_key.new.key.items c.deref.result.now c.cell_at.ensures
    c.in_ok-set_cell_key.ensures c.deref.ensures.value in
    seen_old _ c.args.labels.now c.args.place c.args.seen.now.firsts c.requires.seen c.deref.result.now here c.is_key_of.new.seen.firsts c.is_key_of.ensures.firsts
    c.in-Some.first c.hash_of-hash.result c.hash_of-hash.ensures (sym c.first_with.ensures ∙ c.in-Some.is)
    (c.in_ok-is_key_of.ensures.same c.if-not-branch.false ∙ ap Some (sym c.deref.ensures.value))
    (sym c.label.ensures ∙ c.if-label.true ∙ c.label-2.ensures)

pub returns-clause-some : goal.returns-clause-some
returns-clause-some c =
    let here = key_here c.args.of.now c.args.flat.now.cells c.args.place c.cell_at.result.now c.set_cell_key.new.key.items c.deref.result.now c.cell_at.ensures
    c.in_ok-set_cell_key.ensures c.deref.ensures.value in
    seen_clash _ c.args.labels.now c.args.place c.deref.result.now here c.in-Some.first
    (c.in_ok-is_key_of.ensures.same c.if-not-branch.false ∙ ap Some (sym c.deref.ensures.value))
    (λ e. c.if-label.false (c.label.ensures ∙ e ∙ sym c.label-2.ensures))
