use Rattle.std.proofs.Common.{◌-◌, None, sym, ap, ◌∙◌, arith}
use Rattle.wave_text.specs.Values.{latest}
use Rattle.wave_text.proofs.Latest.{change_there, no_change, not_yet}
use Rattle.wave_text.proofs.wave.Wave.at.Goals as goal

pub returns-in-Some : goal.returns-in-Some
returns-in-Some c =
    change_there c.args.var c.args.time c.as_slice-steps.result.now c.args.self.now.steps (c.loop-k.k - 1) c.loop-k.k c.index-steps-k.result _ c.in-Some.bits.now _
    c.as_slice-steps.ensures (omega arith) (omega arith) c.if-steps-k.true (c.in-Some.ensures ∙ ap (latest c.args.var None) c.as_slice.ensures) c.loop-k.invariant

pub loop-k-preserved-in_default : goal.loop-k-preserved-in_default
loop-k-preserved-in_default c =
    no_change c.args.var c.args.time c.as_slice-steps.result.now c.args.self.now.steps (c.loop-k.k - 1) c.loop-k.k c.index-steps-k.result _ _
    c.as_slice-steps.ensures (omega arith) (omega arith) c.if-steps-k.true
    (ap (latest c.args.var None) (sym c.as_slice.ensures) ∙ sym c.in_default.ensures) c.loop-k.invariant

pub loop-k-preserved : goal.loop-k-preserved
loop-k-preserved c =
    not_yet c.args.var c.args.time c.as_slice-steps.result.now c.args.self.now.steps (c.loop-k.k - 1) c.loop-k.k c.index-steps-k.result _
    c.as_slice-steps.ensures (omega arith) (omega arith) c.if-steps-k.false c.loop-k.invariant
