use Rattle.std.proofs.Common.{◌∙◌}
use Rattle.verilog_judge.proofs.Marking.{driven_checked}
use Rattle.verilog_judge.proofs.module_drivers.check_driven.Goals as goal

pub returns : goal.returns
returns c =
    driven_checked c.args.inputs c.args.count c.args.names.now c.args.driven.now c.deref_mut.result.now _ _ c.requires.count c.requires.driven
    (c.deref_mut.ensures.value ∙ c.in_ok-marks.ensures.items_if_clones_equal (λ y e. e)) c.check_by_marks.ensures
