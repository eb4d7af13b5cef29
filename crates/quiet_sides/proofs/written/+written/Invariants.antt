use Rattle.std.proofs.Common.{◌+◌, ◌*◌, [], ◌∷◌}
use Rattle.chw_terms.specs.TermSize.{tree_size, terms_size, args_size}
use Rattle.chw_terms.specs.TermView.{tree_of, terms_of}
use Rattle.quiet_sides.specs.Quiet.{IsWritten}
use Rattle.quiet_sides.specs.Tests.{IfTerm}
use Rattle.quiet_sides.proofs.Loops.{HoldsBelow}
use Rattle.quiet_sides.proofs.written.+written.Given as goal

abbrev pub invariant-are_written-loop-arg : goal.invariant-are_written-loop-arg
invariant-are_written-loop-arg l = HoldsBelow (λ i a. IfTerm IsWritten a) l.args l.arg-index

abbrev pub invariant-each_is_written-loop-element : goal.invariant-each_is_written-loop-element
invariant-each_is_written-loop-element l = HoldsBelow (λ i e. IsWritten e) l.elements l.element-index

-- the calls go into parts of the term
abbrev pub decreases-is_written : goal.decreases-is_written
decreases-is_written l = 4 * tree_size l.term.now + 2

abbrev pub decreases-is_written_head : goal.decreases-is_written_head
decreases-is_written_head l = 4 * (tree_size (tree_of l.head.now) + args_size l.args.now) + 1

abbrev pub decreases-is_written_argument : goal.decreases-is_written_argument
decreases-is_written_argument l = 4 * args_size (l.arg.now ∷ [])

abbrev pub decreases-are_written : goal.decreases-are_written
decreases-are_written l = 4 * args_size l.args.now + 1

abbrev pub decreases-each_is_written : goal.decreases-each_is_written
decreases-each_is_written l = 4 * terms_size (terms_of l.elements.now) + 1
