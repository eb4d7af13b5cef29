use Rattle.std.proofs.Common.{◌≡◌, ◌+◌, ◌*◌, ◌∷◌, [], map, take}
use Rattle.chw_terms.specs.TermSize.{tree_size, terms_size, group_size, alts_size, args_size}
use Rattle.chw_terms.specs.TermView.{tree_of, terms_of, group_of, alts_of}
use Rattle.work_lets.specs.Closings.{closed, closed_arg, closed_binding, closed_alt}
use Rattle.work_lets.proofs.closing.+close.Given as goal

abbrev pub invariant-close_args-loop-arg : goal.invariant-close_args-loop-arg
invariant-close_args-loop-arg l = l.done.items ≡ map (closed_arg l.closing l.at) (take l.arg-index l.args)

abbrev pub invariant-close_letrec-loop-binding : goal.invariant-close_letrec-loop-binding
invariant-close_letrec-loop-binding l = l.group.items ≡ map (closed_binding l.closing l.inner) (take l.binding-index l.bindings)

abbrev pub invariant-close_vec-loop-element : goal.invariant-close_vec-loop-element
invariant-close_vec-loop-element l = l.done.items ≡ map (closed l.closing l.at) (take l.element-index l.elements)

abbrev pub invariant-close_case-loop-alt : goal.invariant-close_case-loop-alt
invariant-close_case-loop-alt l = l.done.items ≡ map (closed_alt l.closing l.at) (take l.alt-index l.alts)

-- the calls go into parts of the term, and from a term to its head
abbrev pub decreases-close : goal.decreases-close
decreases-close l = 4 * tree_size l.t.now + 3

abbrev pub decreases-close_args : goal.decreases-close_args
decreases-close_args l = 4 * args_size l.args.now + 1

abbrev pub decreases-close_arg : goal.decreases-close_arg
decreases-close_arg l = 4 * args_size (l.arg.now ∷ [])

abbrev pub decreases-close_head : goal.decreases-close_head
decreases-close_head l = 4 * tree_size (tree_of l.head.now) + 2

abbrev pub decreases-close_lam : goal.decreases-close_lam
decreases-close_lam l = 4 * tree_size l.body.now + 4

abbrev pub decreases-close_letrec : goal.decreases-close_letrec
decreases-close_letrec l = 4 * (group_size (group_of l.bindings.now) + tree_size l.body.now) + 4

abbrev pub decreases-close_binding : goal.decreases-close_binding
decreases-close_binding l = 4 * tree_size l.binding.now.body + 4

abbrev pub decreases-close_vec : goal.decreases-close_vec
decreases-close_vec l = 4 * terms_size (terms_of l.elements.now) + 1

abbrev pub decreases-close_case : goal.decreases-close_case
decreases-close_case l = 4 * (tree_size l.on.now + alts_size (alts_of l.alts.now)) + 4

abbrev pub decreases-close_alt : goal.decreases-close_alt
decreases-close_alt l = 4 * tree_size l.alt.now.body + 4
