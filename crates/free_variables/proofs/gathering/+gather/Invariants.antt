use Rattle.std.proofs.Common.{◌≡◌, ◌+◌, ◌*◌, [], ◌∷◌, take}
use Rattle.std.specs.List.{flat_map}
use Rattle.chw_terms.specs.TermSize.{tree_size, terms_size, group_size, alts_size, args_size}
use Rattle.chw_terms.specs.TermView.{tree_of, terms_of, group_of, alts_of}
use Rattle.chw_terms.specs.FreeVariables.{occurrences}
use Rattle.free_variables.specs.Gathered.{gathered, in_arg, in_alt, numbers_of}
use Rattle.free_variables.proofs.gathering.+gather.Given as goal

abbrev pub invariant-gather-loop-arg : goal.invariant-gather-loop-arg
invariant-gather-loop-arg l = (numbers_of l.seen.items) ≡ gathered l.under (flat_map in_arg (take l.arg-index l.arg-items)) (numbers_of l.initial.seen.items)

abbrev pub invariant-gather_all-loop-element : goal.invariant-gather_all-loop-element
invariant-gather_all-loop-element l = (numbers_of l.seen.items) ≡ gathered l.under (flat_map occurrences (take l.element-index l.elements)) (numbers_of l.initial.seen.items)

abbrev pub invariant-gather_alts-loop-alt : goal.invariant-gather_alts-loop-alt
invariant-gather_alts-loop-alt l = (numbers_of l.seen.items) ≡ gathered l.under (flat_map in_alt (take l.alt-index l.alts)) (numbers_of l.initial.seen.items)

abbrev pub invariant-gather_group-loop-binding : goal.invariant-gather_group-loop-binding
invariant-gather_group-loop-binding l =
    (numbers_of l.seen.items) ≡ gathered l.under (flat_map (λ b. occurrences b.body) (take l.binding-index l.bindings)) (numbers_of l.initial.seen.items)

-- the calls go into parts of the term, or from a term to its head
abbrev pub decreases-gather : goal.decreases-gather
decreases-gather l = 4 * tree_size l.t.now + 3

abbrev pub decreases-gather_arg : goal.decreases-gather_arg
decreases-gather_arg l = 4 * args_size (l.arg.now ∷ [])

abbrev pub decreases-gather_head : goal.decreases-gather_head
decreases-gather_head l = 4 * tree_size (tree_of l.head.now) + 2

abbrev pub decreases-gather_group : goal.decreases-gather_group
decreases-gather_group l = 4 * group_size (group_of l.bindings.now) + 1

abbrev pub decreases-gather_all : goal.decreases-gather_all
decreases-gather_all l = 4 * terms_size (terms_of l.elements.now) + 1

abbrev pub decreases-gather_alts : goal.decreases-gather_alts
decreases-gather_alts l = 4 * alts_size (alts_of l.alts.now) + 1

abbrev pub decreases-gather_alt : goal.decreases-gather_alt
decreases-gather_alt l = 4 * tree_size l.alt.now.body + 4
