use Rattle.std.proofs.Common.{refl}
use Rattle.blif_read.proofs.Reaching.{placed_is, unplaced, unsaid}
use Rattle.blif_read.proofs.said.said_at.Goals as goal

pub returns-in_default-clause-fault : goal.returns-in_default-clause-fault
returns-in_default-clause-fault c =
    let never = rw c.in_default.is at c.in_ok-says.ensures.none in
    unsaid c.args.place c.args.line.now c.as_slice.result.now c.args.line.now.number c.as_slice.ensures.value never refl

pub returns-in-Some-place_behind-clause-placed : goal.returns-in-Some-place_behind-clause-placed
returns-in-Some-place_behind-clause-placed c =
    let says = rw c.in-Some.is at c.in_ok-says.ensures.some in
    placed_is c.args.place c.args.line.now c.as_slice.result.now _ _ c.as_slice.ensures.value says c.in-Some-place_behind.ensures refl

pub returns-clause-fault : goal.returns-clause-fault
returns-clause-fault c =
    let says = rw c.in-Some.is at c.in_ok-says.ensures.some in
    unplaced c.args.place c.args.line.now c.as_slice.result.now c.args.line.now.number c.in-Some.says c.as_slice.ensures.value says c.in-None.ensures refl
