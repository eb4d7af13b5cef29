-- each of the definitions so far fits
use Rattle.chw_typing.specs.Programs.{setting_of}
use Rattle.chw_check.specs.Fits.{DefFits}
use Rattle.chw_check.proofs.EachItem.{EachBefore}
use Rattle.chw_check.proofs.kinds.first.first_def.Given as goal

abbrev pub invariant-loop-place : goal.invariant-loop-place
invariant-loop-place l = EachBefore (DefFits (setting_of l.fn.program)) l.fn.program.defs l.place
