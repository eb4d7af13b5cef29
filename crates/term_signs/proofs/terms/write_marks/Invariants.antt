use Rattle.std.proofs.Common.{◌≡◌, ◌++◌, map}
use Rattle.term_signs.specs.Written.{mark}
use Rattle.term_signs.proofs.terms.write_marks.Given as goal

abbrev pub invariant-loop-arg : goal.invariant-loop-arg
invariant-loop-arg l = l.out.items ≡ l.initial.out.items ++ map (λ a. mark a.now) l.yielded
