use Rattle.std.proofs.Common.{◌≡◌, ◌++◌}
use Rattle.std.specs.List.{flat_map, range_with_len}
use Rattle.chw_terms.specs.TermTree.{var}
use Rattle.chw_terms.specs.Unrolled.{each, element}
use Rattle.prim_vec.proofs.moves.push_all.Given as goal

abbrev pub invariant-loop-q : goal.invariant-loop-q
invariant-loop-q l = l.done.items ≡ l.initial.done.items ++ flat_map (λ q. each l.m (element l.kind l.m l.a (element l.kind l.n l.inner (var 0) q))) (range_with_len 0 l.q)
