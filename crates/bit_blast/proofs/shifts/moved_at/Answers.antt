use Rattle.std.proofs.Common.{◌≤◌, arith}
use Rattle.bit_blast.proofs.ShiftStages.{end_below}
use Rattle.bit_blast.proofs.shifts.moved_at.Goals as goal

pub from_below-requires : goal.from_below-requires
from_below-requires c =
    let le : c.args.place ≤ c.args.moved.width = omega arith in
    end_below c.args.bits c.args.place c.args.moved.width le c.requires.bits
