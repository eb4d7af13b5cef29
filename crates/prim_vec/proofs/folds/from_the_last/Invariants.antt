use Rattle.std.proofs.Common.{◌≡◌, ◌-◌}
use Rattle.std.specs.List.{fold}
use Rattle.chw_terms.specs.TermTree.{var, app}
use Rattle.chw_terms.specs.Unrolled.{each, element}
use Rattle.prim_vec.proofs.folds.from_the_last.Given as goal

abbrev pub invariant-loop-j : goal.invariant-loop-j
invariant-loop-j l = l.made ≡ fold (λ e j. app (app (var 2) (element l.kind l.n l.a (var 0) j)) e) (var 1) (each l.j (λ j. l.n - 1 - j))
