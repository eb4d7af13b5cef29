use Rattle.std.proofs.Common.{◌≡◌, ◌↔◌, drop}
use Rattle.chw_types.specs.SummandView.{sum_of}
use Rattle.chw_types.proofs.polynomial.same_sums.Given as goal

abbrev pub invariant-loop-i : goal.invariant-loop-i
invariant-loop-i l = (sum_of (drop l.i l.p) ≡ sum_of (drop l.i l.q)) ↔ (sum_of l.p ≡ sum_of l.q)
