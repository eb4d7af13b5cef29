use Rattle.std.proofs.Common.{sym, ◌∙◌}
use Rattle.wire_classes.proofs.Copying.{copied_same, target_there}
use Rattle.wire_classes.proofs.Marking.{known_made}
use Rattle.wire_classes.proofs.search.visit.Goals as goal

pub join-requires-clause-same : goal.join-requires-clause-same
join-requires-clause-same c =
    let at = c.cell_at-cell.ensures in
    copied_same c.args.scene.now.flat.now c.compress_reads.new.of c.compress_reads.new.known c.args.scene.now.values.now c.compress_reads.ensures c.cell_at-cell.result.now
    c.wire_at-w.result c.in-Some.a (c.args.place, at) (target_there c.args.scene.now.flat.now c.args.place c.wire_at-w.result c.cell_at-cell.result.now at c.wire_at-w.ensures)
    (sym c.copied_by.ensures ∙ c.in-Some.is)

pub learn-requires-clause-known : goal.learn-requires-clause-known
learn-requires-clause-known c =
    let at = c.cell_at-cell.ensures in
    known_made c.args.scene.now.flat.now c.compress_reads.new.of c.compress_reads.new.known c.args.scene.now.values.now c.compress_reads.ensures c.cell_at-cell.result.now
    c.wire_at-w.result (c.args.place, at) (target_there c.args.scene.now.flat.now c.args.place c.wire_at-w.result c.cell_at-cell.result.now at c.wire_at-w.ensures)
    (sym c.gives_known.ensures ∙ c.if-gives_known.true)
