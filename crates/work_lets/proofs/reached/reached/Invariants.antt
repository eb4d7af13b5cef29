use Rattle.std.proofs.Common.{◌+◌, length}
use Rattle.chw_terms.specs.TermView.{group_of}
use Rattle.work_lets.specs.Searching.{unmarked}
use Rattle.work_lets.proofs.Searched.{Searches}
use Rattle.work_lets.proofs.reached.reached.Given as goal

abbrev pub invariant-loop-place : goal.invariant-loop-place
invariant-loop-place l = Searches (group_of l.bindings) l.body l.search

-- each turn takes one that waits, and others come as they are marked
abbrev pub decreases-loop-place : goal.decreases-loop-place
decreases-loop-place l = unmarked l.search.marks.items + length l.search.waiting.items
