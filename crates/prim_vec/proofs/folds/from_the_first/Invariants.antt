use Rattle.std.proofs.Common.{◌≡◌}
use Rattle.std.specs.List.{fold, range_with_len}
use Rattle.chw_terms.specs.TermTree.{var, app}
use Rattle.chw_terms.specs.Unrolled.{element}
use Rattle.prim_vec.proofs.folds.from_the_first.Given as goal

abbrev pub invariant-loop-j : goal.invariant-loop-j
invariant-loop-j l = l.made ≡ fold (λ e j. app (app (var 2) e) (element l.kind l.n l.a (var 0) j)) (var 1) (range_with_len 0 l.j)
