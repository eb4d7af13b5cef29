use Rattle.std.specs.Prelude.{slice_index_or}
use Rattle.net_flat.specs.Drivers.{IsCellFor}
use Rattle.net_flat.specs.declared.tables.Driver.TheVariants.{Place}
use Rattle.net_flat.proofs.Pushed.{pushed_more}
use Rattle.net_flat.proofs.tables.push_own.Goals as goal

pub loop-w-preserved : goal.loop-w-preserved
loop-w-preserved c =
    let here : IsCellFor c.args.base c.args.m.now.cells c.loop-w.w (slice_index_or c.args.table.now c.loop-w.w (Place 0)) c.in_ok-cell.cell = c.in_ok-cell.ensures in
    pushed_more c.args.base c.args.m.now c.args.table.now c.loop-w.w c.args.cells.now.items c.loop-w.cells.items c.push.new.self.items c.in_ok-cell.cell
    c.loop-w.invariant here c.in_ok-push.ensures.items
