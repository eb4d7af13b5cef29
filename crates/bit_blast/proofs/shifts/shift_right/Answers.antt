use Rattle.bit_blast.proofs.Adding.{added_behind}
use Rattle.bit_blast.proofs.shifts.shift_right.Goals as goal

pub returns : goal.returns
returns c = λ flat.
    added_behind flat c.args.nodes.now.items c.fill.new.nodes.items c.shift.new.nodes.items _ _ c.in_ok-fill.ensures (c.in_ok-shift.ensures flat)
