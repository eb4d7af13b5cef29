use Rattle.std.proofs.Common.{◌≡◌, ◌+◌, ◌-◌, ◌<◌, length, ap, arith}
use Rattle.net_share.proofs.Proper.{drives_at}
use Rattle.net_share.proofs.Pushed.{item_at}
use Rattle.net_share.proofs.copying.cell_of.Goals as goal

pub bounds-as_slice-place : goal.bounds-as_slice-place
bounds-as_slice-place c =
    let sound = c.requires.sound in
    omega (arith, sound.all, ap length c.as_slice.ensures, c.requires.wire, c.len-inputs.ensures, c.if-wire-inputs.false)

pub returns-clause-driven : goal.returns-clause-driven
returns-clause-driven c =
    let flat = c.args.flat.now in
    let sound = c.requires.sound in
    let place = c.args.w - c.len-inputs.result in
    let cell = c.index-as_slice-place.result in
    let within : place < length flat.cells = omega (arith, sound.all, c.requires.wire, c.len-inputs.ensures, c.if-wire-inputs.false) in
    let is : c.args.w ≡ length flat.ports.inputs + place = omega (arith, c.len-inputs.ensures, c.if-wire-inputs.false) in
    drives_at flat sound c.args.w place cell is
    (item_at c.as_slice.result.now flat.cells place cell c.as_slice.ensures (omega (arith, within, ap length c.as_slice.ensures)) c.index-as_slice-place.is)
    within
