use Rattle.std.proofs.Common.{◌≡◌, ℕ, length, refl, subst, arith}
use Rattle.net_share.specs.Numbering.{AreKept}
use Rattle.net_share.proofs.Numbers.{kept_none}
use Rattle.net_share.proofs.numbering.kept_wires.Goals as goal

pub loop-w-init : goal.loop-w-init
loop-w-init c = kept_none c.args.inputs c.args.marks.now c.new-kept.result.items c.args.inputs c.new-kept.ensures.items refl

pub keep-requires : goal.keep-requires
keep-requires c = omega (arith, c.loop-w-test.true)

pub loop-w-preserved : goal.loop-w-preserved
loop-w-preserved c = c.in_ok-keep.ensures c.args.inputs (omega (arith, c.loop-w.auto.w)) c.loop-w.invariant

pub returns : goal.returns
returns c =
    let end : c.loop-w.w ≡ length c.args.marks.now = omega (arith, c.loop-w-test.false, c.loop-w.auto.w-end, c.requires.inputs) in
    subst (λ (n : ℕ). AreKept c.args.inputs c.args.marks.now n c.loop-w.kept.items) end c.loop-w.invariant
