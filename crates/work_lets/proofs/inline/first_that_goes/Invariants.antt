use Rattle.std.proofs.Common.{◌-◌, length, take}
use Rattle.chw_terms.specs.TermView.{group_of}
use Rattle.rewriting.specs.Lets.{EachStays}
use Rattle.work_lets.proofs.inline.first_that_goes.Given as goal

abbrev pub invariant-loop-n : goal.invariant-loop-n
invariant-loop-n l = EachStays l.datas l.mode (group_of (take l.n l.bindings)) (length l.bindings - l.n)
