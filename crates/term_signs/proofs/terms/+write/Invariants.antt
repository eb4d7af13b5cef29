use Rattle.std.proofs.Common.{◌≡◌, ◌+◌, ◌*◌, ◌++◌, [], ◌∷◌, take}
use Rattle.std.specs.List.{flat_map}
use Rattle.chw_terms.specs.TermSize.{tree_size, terms_size, group_size, alts_size, args_size}
use Rattle.chw_terms.specs.TermView.{tree_of, terms_of, group_of, alts_of}
use Rattle.term_signs.specs.Written.{in_arg, in_element, in_binding, in_alt}
use Rattle.term_signs.proofs.terms.+write.Given as goal

abbrev pub invariant-write-loop-arg : goal.invariant-write-loop-arg
invariant-write-loop-arg l = l.out.items ≡ l.initial.out.items ++ flat_map in_arg (take l.arg-index l.arg-items)

abbrev pub invariant-write_all-loop-element : goal.invariant-write_all-loop-element
invariant-write_all-loop-element l = l.out.items ≡ l.initial.out.items ++ flat_map in_element (take l.element-index l.elements)

abbrev pub invariant-write_group-loop-binding : goal.invariant-write_group-loop-binding
invariant-write_group-loop-binding l = l.out.items ≡ l.initial.out.items ++ flat_map in_binding (take l.binding-index l.group)

abbrev pub invariant-write_alts-loop-alt : goal.invariant-write_alts-loop-alt
invariant-write_alts-loop-alt l = l.out.items ≡ l.initial.out.items ++ flat_map in_alt (take l.alt-index l.alts)

-- the calls go into parts of the term, or from a term to its head
abbrev pub decreases-write : goal.decreases-write
decreases-write l = 4 * tree_size l.term.now + 3

abbrev pub decreases-write_arg : goal.decreases-write_arg
decreases-write_arg l = 4 * args_size (l.arg.now ∷ [])

abbrev pub decreases-write_head : goal.decreases-write_head
decreases-write_head l = 4 * tree_size (tree_of l.head.now) + 2

abbrev pub decreases-write_all : goal.decreases-write_all
decreases-write_all l = 4 * terms_size (terms_of l.elements.now) + 1

abbrev pub decreases-write_element : goal.decreases-write_element
decreases-write_element l = 4 * tree_size l.element.now + 4

abbrev pub decreases-write_group : goal.decreases-write_group
decreases-write_group l = 4 * group_size (group_of l.group.now) + 1

abbrev pub decreases-write_binding : goal.decreases-write_binding
decreases-write_binding l = 4 * tree_size l.binding.now.body + 4

abbrev pub decreases-write_alts : goal.decreases-write_alts
decreases-write_alts l = 4 * alts_size (alts_of l.alts.now) + 1

abbrev pub decreases-write_alt : goal.decreases-write_alt
decreases-write_alt l = 4 * tree_size l.alt.now.body + 4
