-- each of the constructors so far has fields that fit
use Rattle.chw_typing.specs.Programs.{setting_of}
use Rattle.chw_check.specs.FitParts.{FieldsFit}
use Rattle.chw_check.proofs.EachItem.{EachBefore}
use Rattle.chw_check.proofs.kinds.fields.data_fits.Given as goal

abbrev pub invariant-loop-con : goal.invariant-loop-con
invariant-loop-con l = EachBefore (FieldsFit (setting_of l.fn.program) l.fn.it.params) l.fn.it.cons l.con-index
