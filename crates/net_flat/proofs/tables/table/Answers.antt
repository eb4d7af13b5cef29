use Rattle.std.proofs.Common.{◌≡◌, ℕ, ◌+◌, ◌≤◌, ◌++◌, List, length, take, drop, Some, slice_get, sym, ap, ◌∙◌, arith}
use Rattle.std.proofs.lemmas.List.{take_at}
use Rattle.chw_base.specs.declared.limits.TheConstants.{FLAT_WIRES}
use Rattle.net_flat.specs.Drivers.{drivers_written}
use Rattle.net_flat.specs.Sizes.{size_in}
use Rattle.net_flat.specs.declared.tables.Driver.{Driver}
use Rattle.net_flat.proofs.Filled.{filled_next, table_filled}
use Rattle.net_flat.proofs.Lists.{item_at}
use Rattle.net_flat.proofs.Within.{cells_drive, facts_of, next_after, next_within, use_gives}
use Rattle.net_flat.proofs.tables.table.Goals as goal

pub overflow_cast-next : goal.overflow_cast-next
overflow_cast-next c =
    let f = facts_of c.args.net.now c.args.sizes.now c.args.x.now c.args.m.now c.requires in
    omega (arith, f.long)

pub overflow_add-next : goal.overflow_add-next
overflow_add-next c =
    let f = facts_of c.args.net.now c.args.sizes.now c.args.x.now c.args.m.now c.requires in
    omega (arith, f.long)

pub write_drivers-requires-clause-wires : goal.write_drivers-requires-clause-wires
write_drivers-requires-clause-wires c =
    let m = c.args.m.now in
    let here : slice_get m.cells c.loop-place.place ≡ Some c.cell-item.result =
    item_at c.as_slice-cell-items.result.now m.cells c.loop-place.place c.cell-item.result c.as_slice-cell-items.ensures (omega (arith, c.loop-place-test.true)) c.cell-item.is in
    let size : length m.widths ≡ length c.deref_mut.result.now = sym (ap length c.deref_mut.ensures.value ∙ c.loop-place.invariant.size) in
    cells_drive c.args.net.now c.args.sizes.now c.args.x.now m c.loop-place.place c.cell-item.result (length c.deref_mut.result.now) c.requires here size

pub write_drivers-requires-clause-moves : goal.write_drivers-requires-clause-moves
write_drivers-requires-clause-moves c =
    let m = c.args.m.now in
    let here : slice_get m.cells c.loop-place.place ≡ Some c.cell-item.result =
    item_at c.as_slice-cell-items.result.now m.cells c.loop-place.place c.cell-item.result c.as_slice-cell-items.ensures (omega (arith, c.loop-place-test.true)) c.cell-item.is in
    use_gives c.args.net.now c.args.sizes.now c.args.x.now m c.loop-place.place c.loop-place.next c.cell-item.result c.requires here c.loop-place.invariant.at

pub overflow_add-next-in-loop-place : goal.overflow_add-next-in-loop-place
overflow_add-next-in-loop-place c =
    let m = c.args.m.now in
    let here : slice_get m.cells c.loop-place.place ≡ Some c.cell-item.result =
    item_at c.as_slice-cell-items.result.now m.cells c.loop-place.place c.cell-item.result c.as_slice-cell-items.ensures (omega (arith, c.loop-place-test.true)) c.cell-item.is in
    let l : c.loop-place.next + size_in c.args.sizes.now c.cell-item.result ≤ FLAT_WIRES =
    next_within c.args.net.now c.args.sizes.now c.args.x.now m c.loop-place.place c.loop-place.next c.cell-item.result c.requires here c.loop-place.invariant.at in
    omega (arith, c.size_of_use-next.ensures)

pub loop-place-preserved : goal.loop-place-preserved
loop-place-preserved c =
    let net = c.args.net.now in
    let m = c.args.m.now in
    let place = c.loop-place.place in
    let cell = c.cell-item.result in
    let here : slice_get m.cells place ≡ Some cell =
    item_at c.as_slice-cell-items.result.now m.cells place cell c.as_slice-cell-items.ensures (omega (arith, c.loop-place-test.true)) c.cell-item.is in
    let size : length c.write_drivers.new.table ≡ c.loop-place.table.len =
    omega (arith, c.write_drivers.auto.table, ap length c.deref_mut.ensures.value, c.loop-place.table.ok) in
    let same : take c.loop-place.table.len (c.write_drivers.new.table ++ drop (length c.write_drivers.new.table) c.loop-place.table.items)
    ≡ drivers_written net.modules c.loop-place.next place cell c.loop-place.table.items =
    take_at c.write_drivers.new.table (drop (length c.write_drivers.new.table) c.loop-place.table.items) c.loop-place.table.len size
    ∙ c.write_drivers.ensures ∙ ap (λ (ds : List Driver). drivers_written net.modules c.loop-place.next place cell ds) c.deref_mut.ensures.value in
    let drives = cells_drive net c.args.sizes.now c.args.x.now m place cell (length c.loop-place.table.items) c.requires here (sym c.loop-place.invariant.size) in
    record {
      size = ap length (take_at c.write_drivers.new.table (drop (length c.write_drivers.new.table) c.loop-place.table.items) c.loop-place.table.len size)
          ∙ size ∙ c.loop-place.table.ok.0 ∙ c.loop-place.invariant.size;
      filled = rw same (filled_next net c.args.sizes.now c.args.x.now m c.loop-place.table.items c.loop-place.next place cell c.requires c.loop-place.invariant.filled here drives c.loop-place.invariant.at);
      at = ap (λ (n : ℕ). c.loop-place.next + n) c.size_of_use-next.ensures
          ∙ next_after net c.args.sizes.now c.args.x.now m place c.loop-place.next cell c.requires here c.loop-place.invariant.at;
    }

pub returns : goal.returns
returns c =
    let m = c.args.m.now in
    table_filled c.args.net.now c.args.sizes.now c.args.x.now m c.loop-place.table.items c.loop-place.place c.requires c.loop-place.invariant.size
    (let n = ap length c.as_slice-cell-items.ensures in omega (arith, n, c.loop-place-test.false)) c.loop-place.invariant.filled
