use Rattle.verilog_names.proofs.ItemsMore.{drivers_more, rules_more, wires_more}
use Rattle.verilog_names.proofs.items.add_items.Goals as goal

pub loop-item-preserved : goal.loop-item-preserved
loop-item-preserved c =
    let items = c.args.items.now in
    let l = c.loop-item in
    let x = c.item-item.result in
    let lt = c.loop-item-test.true in
    let done = c.in_ok-add_item.ensures in
    record {
      wires = wires_more items l.item-index x _ _ _ _ lt c.item-item.is done.wires l.invariant.wires;
      drivers = drivers_more c.args.place.now c.args.outputs.now items l.item-index x _ _ _ _ _ _ lt c.item-item.is done.wires done.drivers l.invariant.drivers;
      checks = rules_more c.args.place.now c.args.outputs.now items l.item-index x _ _ _ _ _ _ lt c.item-item.is done.wires done.checks l.invariant.checks;
    }
