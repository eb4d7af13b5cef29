use Rattle.std.proofs.Common.{◌≤◌, ◌-◌, arith}
use Rattle.bit_blast.proofs.ShiftStages.{end_below}
use Rattle.bit_blast.proofs.shifts.from_below.Goals as goal

pub at-requires : goal.at-requires
at-requires c =
    let le : c.args.place - c.args.places ≤ c.args.place = omega arith in
    end_below c.args.bits (c.args.place - c.args.places) c.args.place le c.requires
