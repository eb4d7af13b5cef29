use Rattle.std.proofs.Common.{◌≡◌, ◌+◌, ◌*◌}
use Rattle.chw_terms.specs.TermSize.{tree_size, group_size, alts_size}
use Rattle.chw_terms.specs.TermView.{group_of, alts_of}
use Rattle.value_build.specs.Drafting.{Drafts}
use Rattle.value_build.specs.InScope.{in_scope, as_variable}
use Rattle.value_build.proofs.DraftRows.{GroupSoFar, AltsSoFar}
use Rattle.value_build.proofs.blocks.+blocks.Given as goal

-- so many bindings, or alternatives, are drafted
abbrev pub invariant-sides-loop-binding : goal.invariant-sides-loop-binding
invariant-sides-loop-binding l = record {
  drafted : Drafts
      (λ at n p inner. GroupSoFar l.initial.base l.known at (in_scope l.initial.scope.items) n l.bindings l.binding-index l.found.items inner p)
      l.initial.draft l.draft;
  scope : l.scope.items ≡ l.initial.scope.items;
  base : l.base ≡ l.initial.base;
}

abbrev pub invariant-alternatives-loop-alt : goal.invariant-alternatives-loop-alt
invariant-alternatives-loop-alt l = record {
  drafted : Drafts
      (λ at n p inner. AltsSoFar l.initial.base l.known at (in_scope l.initial.scope.items) (as_variable l.it) l.below n l.alts l.alt-index l.results.items inner p)
      l.initial.draft l.draft;
  scope : l.scope.items ≡ l.initial.scope.items;
  base : l.base ≡ l.initial.base;
}

-- the calls go into parts of the term
abbrev pub decreases-block : goal.decreases-block
decreases-block l = 4 * tree_size l.e.now + 3

abbrev pub decreases-letrec : goal.decreases-letrec
decreases-letrec l = 4 * group_size (group_of l.bindings.now) + 4

abbrev pub decreases-sides : goal.decreases-sides
decreases-sides l = 4 * group_size (group_of l.bindings.now) + 3

abbrev pub decreases-side : goal.decreases-side
decreases-side l = 4 * tree_size l.e.now + 5

abbrev pub decreases-case : goal.decreases-case
decreases-case l = 4 * alts_size (alts_of l.alts.now) + 5

abbrev pub decreases-case_on : goal.decreases-case_on
decreases-case_on l = 4 * alts_size (alts_of l.alts.now) + 4

abbrev pub decreases-alternatives : goal.decreases-alternatives
decreases-alternatives l = 4 * alts_size (alts_of l.alts.now) + 3

abbrev pub decreases-alternative : goal.decreases-alternative
decreases-alternative l = 4 * tree_size l.alt.now.body + 4
