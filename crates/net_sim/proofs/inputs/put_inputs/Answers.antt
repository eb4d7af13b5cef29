use Rattle.std.proofs.Common.{[], length, ap, ◌∙◌}
use Rattle.std.proofs.lemmas.List.{get_or_default}
use Rattle.net_sim.proofs.Incoming.{next_width, put_more}
use Rattle.net_sim.proofs.inputs.put_inputs.Goals as goal

pub put_bits-requires : goal.put_bits-requires
put_bits-requires c =
    let l = c.loop-k in
    let inputs = c.args.inputs.now in
    let made = c.as_slice.ensures.value ∙ c.index-inputs-k.is ∙ get_or_default inputs l.k _ [] c.loop-k-test.true in
    ap length made
    ∙ next_width inputs c.args.words.now l.words l.k _ c.loop-k-test.true c.requires.few c.requires.widths l.invariant

pub loop-k-preserved : goal.loop-k-preserved
loop-k-preserved c =
    let l = c.loop-k in
    let inputs = c.args.inputs.now in
    let made = c.as_slice.ensures.value ∙ c.index-inputs-k.is ∙ get_or_default inputs l.k _ [] c.loop-k-test.true in
    put_more inputs c.args.words.now l.words l.k _ c.loop-k-test.true c.requires.few l.invariant (c.put_bits.ensures ∙ made)
