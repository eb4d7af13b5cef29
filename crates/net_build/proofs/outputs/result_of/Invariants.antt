-- what is left gives the same
use Rattle.std.proofs.Common.{◌≡◌}
use Rattle.net_built.specs.Terms.{result_of}
use Rattle.net_build.proofs.outputs.result_of.Given as goal

abbrev pub invariant-loop-inner : goal.invariant-loop-inner
invariant-loop-inner l = result_of l.inner ≡ result_of l.t
