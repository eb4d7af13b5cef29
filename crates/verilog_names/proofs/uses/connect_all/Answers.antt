use Rattle.std.proofs.Common.{◌≡◌, ◌<◌, ◌≤◌, length, arith}
use Rattle.std.specs.Prelude.{min}
use Rattle.verilog_names.proofs.Joined.{checks_all, checks_more, drives_all, drives_split, joined_more, reads_all, reads_split}
use Rattle.verilog_rules.specs.Resolving.{drives_of, reads_of}
use Rattle.verilog_names.proofs.uses.connect_all.Goals as goal

pub loop-i-preserved : goal.loop-i-preserved
loop-i-preserved c =
    let wires = c.args.wires.now in
    let ports = c.args.ports.now in
    let connections = c.args.connections.now in
    let i = c.loop-i.i in
    let lp : i < length ports = omega (arith, c.loop-i-test.true, c.min-count.ensures) in
    let lc : i < length connections = omega (arith, c.loop-i-test.true, c.min-count.ensures) in
    let joined = c.in_ok-connect.ensures in
    record {
      reads = joined_more (reads_of wires) ports connections i _ _ _ _ _ (reads_split wires) lp lc joined.reads c.loop-i.invariant.reads;
      drives = joined_more (drives_of wires) ports connections i _ _ _ _ _ (drives_split wires) lp lc joined.drives c.loop-i.invariant.drives;
      checks = checks_more wires c.args.close ports connections i _ _ _ _ _ lp lc joined.checks c.loop-i.invariant.checks;
    }

pub returns-clause-reads : goal.returns-clause-reads
returns-clause-reads c =
    let ends : min (length c.args.ports.now) (length c.args.connections.now) ≤ c.loop-i.i = omega (arith, c.loop-i-test.false, c.min-count.ensures) in
    reads_all c.args.wires.now c.args.ports.now c.args.connections.now c.loop-i.i _ _ ends c.loop-i.invariant.reads

pub returns-clause-drives : goal.returns-clause-drives
returns-clause-drives c =
    let ends : min (length c.args.ports.now) (length c.args.connections.now) ≤ c.loop-i.i = omega (arith, c.loop-i-test.false, c.min-count.ensures) in
    drives_all c.args.wires.now c.args.ports.now c.args.connections.now c.loop-i.i _ _ ends c.loop-i.invariant.drives

pub returns-clause-checks : goal.returns-clause-checks
returns-clause-checks c =
    let at : c.loop-i.i ≡ c.min-count.result = omega (arith, c.loop-i-test.false, c.loop-i.auto.i-end) in
    checks_all c.args.wires.now c.args.close c.args.ports.now c.args.connections.now c.loop-i.i c.min-count.result _ _ _ c.min-count.ensures at c.check_end.ensures c.loop-i.invariant.checks
