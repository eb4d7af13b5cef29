-- The lines of the worked examples.
use Rattle.std.proofs.Common.{refl}
use Rattle.std.specs.Fmt.{digits}
use Rattle.norm_lines.specs.Examples.{RunPrinted, DeepStepPrinted, RootStepPrinted, AppliedPrinted}

pub run_printed : RunPrinted
unfolding digits
run_printed = refl

pub deep_step_printed : DeepStepPrinted
unfolding digits
deep_step_printed = refl

pub root_step_printed : RootStepPrinted
unfolding digits
root_step_printed = refl

pub applied_printed : AppliedPrinted
unfolding digits
applied_printed = refl
