-- each of the data types so far fits
use Rattle.chw_typing.specs.Programs.{setting_of}
use Rattle.chw_check.specs.Fits.{DataFits}
use Rattle.chw_check.proofs.EachItem.{EachBefore}
use Rattle.chw_check.proofs.kinds.first.first_data.Given as goal

abbrev pub invariant-loop-place : goal.invariant-loop-place
invariant-loop-place l = EachBefore (DataFits (setting_of l.fn.program)) l.fn.program.datas l.place
