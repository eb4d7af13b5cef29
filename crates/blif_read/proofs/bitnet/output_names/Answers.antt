use Rattle.blif_text.specs.BlifText.{Said, outputs_of}
use Rattle.blif_read.proofs.Copies.{named_next}
use Rattle.blif_read.proofs.bitnet.output_names.Goals as goal

pub loop-it-preserved : goal.loop-it-preserved
loop-it-preserved c =
    let l = c.loop-it in
    named_next (λ (it : Said). outputs_of it.says) c.args.all.now l.it-index c.it-item.result _ l.names.items c.put_names.new.names.items _ c.loop-it-test.true c.it-item.is l.invariant
    c.in_ok-put_names.ensures c.outputs_of.ensures
