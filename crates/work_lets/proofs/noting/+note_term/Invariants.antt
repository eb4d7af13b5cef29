use Rattle.std.proofs.Common.{◌+◌, ◌*◌, ◌∷◌, [], take}
use Rattle.chw_terms.specs.Occurs.{occurs}
use Rattle.chw_terms.specs.Sought.{any_of, occurs_in, occurs_in_binding, occurs_in_alt}
use Rattle.chw_terms.specs.TermSize.{tree_size, terms_size, group_size, alts_size, args_size}
use Rattle.chw_terms.specs.TermView.{tree_of, terms_of, group_of, alts_of}
use Rattle.work_lets.specs.Searching.{Noted, beyond}
use Rattle.work_lets.proofs.noting.+note_term.Given as goal

abbrev pub invariant-note_args-loop-arg : goal.invariant-note_args-loop-arg
invariant-note_args-loop-arg l = Noted l.initial.search (beyond (any_of occurs_in (take l.arg-index l.args)) l.under) l.search

abbrev pub invariant-note_sides-loop-binding : goal.invariant-note_sides-loop-binding
invariant-note_sides-loop-binding l = Noted l.initial.search (beyond (any_of occurs_in_binding (take l.binding-index l.bindings)) l.under) l.search

abbrev pub invariant-note_elements-loop-element : goal.invariant-note_elements-loop-element
invariant-note_elements-loop-element l = Noted l.initial.search (beyond (any_of occurs (take l.element-index l.elements)) l.under) l.search

abbrev pub invariant-note_alts-loop-alt : goal.invariant-note_alts-loop-alt
invariant-note_alts-loop-alt l = Noted l.initial.search (beyond (any_of occurs_in_alt (take l.alt-index l.alts)) l.under) l.search

-- the calls go into parts of the term, or from a term to its head
abbrev pub decreases-note_term : goal.decreases-note_term
decreases-note_term l = 4 * tree_size l.term.now + 3

abbrev pub decreases-note_args : goal.decreases-note_args
decreases-note_args l = 4 * args_size l.args.now + 1

abbrev pub decreases-note_arg : goal.decreases-note_arg
decreases-note_arg l = 4 * args_size (l.arg.now ∷ [])

abbrev pub decreases-note_head : goal.decreases-note_head
decreases-note_head l = 4 * tree_size (tree_of l.head.now) + 2

abbrev pub decreases-note_under : goal.decreases-note_under
decreases-note_under l = 4 * tree_size l.term.now + 4

abbrev pub decreases-note_letrec : goal.decreases-note_letrec
decreases-note_letrec l = 4 * (group_size (group_of l.bindings.now) + tree_size l.body.now) + 4

abbrev pub decreases-note_sides : goal.decreases-note_sides
decreases-note_sides l = 4 * group_size (group_of l.bindings.now) + 1

abbrev pub decreases-note_elements : goal.decreases-note_elements
decreases-note_elements l = 4 * terms_size (terms_of l.elements.now) + 1

abbrev pub decreases-note_case : goal.decreases-note_case
decreases-note_case l = 4 * (tree_size l.on.now + alts_size (alts_of l.alts.now)) + 4

abbrev pub decreases-note_alts : goal.decreases-note_alts
decreases-note_alts l = 4 * alts_size (alts_of l.alts.now) + 2

abbrev pub decreases-note_alt : goal.decreases-note_alt
decreases-note_alt l = 4 * tree_size l.alt.now.body + 5
