use Rattle.std.proofs.Common.{◌≡◌, List, length, get_or, Some, slice_get, ap, subst, arith}
use Rattle.std.proofs.lemmas.Option.{slice_get-get_or}
use Rattle.chw_base.specs.declared.index.WireId.{WireId}
use Rattle.bit_blast.proofs.Whole.{outputs_all, outputs_more}
use Rattle.bit_blast.proofs.blasting.all_outputs.Goals as goal

pub loop-port-preserved : goal.loop-port-preserved
loop-port-preserved c =
    let flat = c.args.flat.now in
    let wires = c.as_slice-wires.result.now in
    let k = c.loop-port.port in
    let d : WireId = record { number = 0 } in
    let w = get_or wires k d in
    let there : slice_get flat.outputs k ≡ Some w =
    subst (λ (ws : List WireId). slice_get ws k ≡ Some w) c.as_slice-wires.ensures (slice_get-get_or wires k d (omega arith)) in
    outputs_more flat c.args.nodes.now.items c.loop-port.nodes.items c.on_each.new.nodes.items k c.width_of-width.result w c.requires.sound there
    c.width_of-width.ensures.width c.loop-port.invariant (c.in_ok-on_each.ensures flat)

pub returns : goal.returns
returns c =
    let long = ap length c.as_slice-wires.ensures in
    outputs_all c.args.flat.now c.args.nodes.now.items c.loop-port.nodes.items c.loop-port.port c.requires.sound (omega (arith, long)) c.loop-port.invariant
