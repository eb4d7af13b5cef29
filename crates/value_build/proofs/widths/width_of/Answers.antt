use Rattle.value_build.proofs.Refused.{no_fault}
use Rattle.value_build.proofs.widths.width_of.Goals as goal

pub want_of_memory-requires : goal.want_of_memory-requires
want_of_memory-requires c = no_fault c.args.widths.now c.args.t.now c.in-Err.why c.requires c.in-Err.ensures.refused
