use Rattle.std.proofs.Common.{◌<◌, List, length, get_or, refl, sym, ap, ◌∙◌, subst, arith}
use Rattle.std.proofs.lemmas.List.{length-map}
use Rattle.std.proofs.lemmas.Option.{slice_get-get_or}
use Rattle.chw_base.specs.declared.index.WireId.{WireId}
use Rattle.net_sim.specs.Tables.{value_in, values_in}
use Rattle.net_sim.proofs.Incoming.{next_width, put_more}
use Rattle.net_sim.proofs.Kept.{output_wire}
use Rattle.net_sim.proofs.OutputBits.{output_bits, output_count, output_fit, outputs_stay}
use Rattle.net_sim.proofs.outputs.put_outputs.Goals as goal

pub word_at-requires : goal.word_at-requires
word_at-requires c =
    let flat = c.args.flat.now in
    let k = c.loop-k.k in
    let none : WireId = record { number = 0 } in
    let within : k < length flat.outputs = subst (λ (ws : List WireId). k < length ws) c.as_slice-w-items.ensures c.loop-k-test.true in
    let there = output_wire flat k (get_or flat.outputs k none) c.requires.sound (slice_get-get_or flat.outputs k none within) in
    let size = ap length c.requires.table in
    let same = ap (λ (ws : List WireId). (get_or ws k none).number) c.as_slice-w-items.ensures in
    omega (arith, there, size, same)

pub bounds-outputs-k : goal.bounds-outputs-k
bounds-outputs-k c =
    let flat = c.args.flat.now in
    let words = c.args.words.now in
    let old = c.args.outputs.now in
    let k = c.loop-k.k in
    let within : k < length flat.outputs = subst (λ (ws : List WireId). k < length ws) c.as_slice-w-items.ensures c.loop-k-test.true in
    let count = output_count flat words old c.requires.sound c.requires.table c.requires.widths in
    let made = length-map flat.outputs (λ (w : WireId). value_in words w.number) in
    let stay = outputs_stay (values_in words flat.outputs) old c.loop-k.outputs k c.loop-k.invariant (made ∙ sym count) (omega (arith, count, within)) in
    omega (arith, stay, count, within)

pub put_into-requires : goal.put_into-requires
put_into-requires c =
    let flat = c.args.flat.now in
    let words = c.args.words.now in
    let old = c.args.outputs.now in
    let l = c.loop-k in
    let inputs = values_in words flat.outputs in
    let made = length-map flat.outputs (λ (w : WireId). value_in words w.number) in
    let count = output_count flat words old c.requires.sound c.requires.table c.requires.widths in
    let within : l.k < length flat.outputs = subst (λ (ws : List WireId). l.k < length ws) c.as_slice-w-items.ensures c.loop-k-test.true in
    let bits = output_bits flat words _ l.k _ _ c.as_slice-w-items.ensures c.loop-k-test.true refl c.word_at.ensures in
    ap length bits
    ∙ next_width inputs old l.outputs l.k _ (omega (arith, made, within)) (omega (arith, made, count))
    (output_fit flat words old c.requires.sound c.requires.table c.requires.widths) l.invariant

pub loop-k-preserved : goal.loop-k-preserved
loop-k-preserved c =
    let flat = c.args.flat.now in
    let words = c.args.words.now in
    let old = c.args.outputs.now in
    let l = c.loop-k in
    let made = length-map flat.outputs (λ (w : WireId). value_in words w.number) in
    let count = output_count flat words old c.requires.sound c.requires.table c.requires.widths in
    let within : l.k < length flat.outputs = subst (λ (ws : List WireId). l.k < length ws) c.as_slice-w-items.ensures c.loop-k-test.true in
    let bits = output_bits flat words _ l.k _ _ c.as_slice-w-items.ensures c.loop-k-test.true refl c.word_at.ensures in
    put_more (values_in words flat.outputs) old l.outputs l.k _ (omega (arith, made, within)) (omega (arith, made, count)) l.invariant
    (c.put_into.ensures ∙ bits)
