use Rattle.std.proofs.Common.{◌+◌, [], sym, subst, arith}
use Rattle.wire_classes.specs.Keys.{AreLooked}
use Rattle.wire_classes.proofs.Closing.{none_told}
use Rattle.wire_classes.proofs.Looks.{looked_agree, looked_none}
use Rattle.wire_classes.proofs.clash.clash.Goals as goal

pub loop-i-init : goal.loop-i-init
loop-i-init c =
    subst (λ names. AreLooked c.args.keys.now c.args.labels.now 0 names c.new-firsts.result.items) (sym c.new-names.ensures)
    (subst (AreLooked c.args.keys.now c.args.labels.now 0 []) (sym c.new-firsts.ensures.items) (looked_none c.args.keys.now c.args.labels.now))

pub loop-i-preserved : goal.loop-i-preserved
loop-i-preserved c =
    none_told c.in_ok-first.field-0 (AreLooked c.args.keys.now c.args.labels.now (c.loop-i.i + 1) c.look.new.names c.look.new.firsts.items)
    c.in_default.not-Some c.in_ok-first.ensures.none

pub returns : goal.returns
returns c = record {
  none = looked_agree c.args.keys.now c.args.labels.now c.loop-i.i c.loop-i.names c.loop-i.firsts.items c.loop-i.invariant (omega (arith, c.loop-i-test.false));
  some = tt;
}
