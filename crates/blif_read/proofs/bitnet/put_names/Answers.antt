use Rattle.std.proofs.Common.{refl, ◌∙◌}
use Rattle.blif_read.proofs.Copies.{names_next}
use Rattle.blif_read.proofs.bitnet.put_names.Goals as goal

pub loop-name-preserved : goal.loop-name-preserved
loop-name-preserved c =
    let l = c.loop-name in
    names_next c.args.names.now.items l.names.items c.push.new.self.items c.args.more.now l.name-index _ c.in_ok-copy_of.field-0 c.loop-name-test.true l.invariant
    c.in_ok-push.ensures.items c.in_ok-copy_of.ensures
