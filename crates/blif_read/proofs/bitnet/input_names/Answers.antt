use Rattle.blif_text.specs.BlifText.{Said, inputs_of}
use Rattle.blif_read.proofs.Copies.{named_next}
use Rattle.blif_read.proofs.bitnet.input_names.Goals as goal

pub loop-it-preserved : goal.loop-it-preserved
loop-it-preserved c =
    let l = c.loop-it in
    named_next (λ (it : Said). inputs_of it.says) c.args.all.now l.it-index c.it-item.result _ l.names.items c.put_names.new.names.items _ c.loop-it-test.true c.it-item.is l.invariant
    c.in_ok-put_names.ensures c.inputs_of.ensures
