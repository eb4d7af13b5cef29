use Rattle.std.proofs.Common.{◌≡◌, ◌+◌, ◌*◌, ◌∷◌, [], map, take}
use Rattle.chw_terms.specs.TermSize.{tree_size, terms_size, group_size, alts_size, args_size}
use Rattle.chw_terms.specs.TermView.{tree_of, terms_of, group_of, alts_of}
use Rattle.chw_terms.specs.Moved.{moved, moved_arg, moved_binding, moved_alt, weight}
use Rattle.chw_terms.proofs.walk.+walk.Given as goal

abbrev pub invariant-walk_args-loop-arg : goal.invariant-walk_args-loop-arg
invariant-walk_args-loop-arg l = l.done.items ≡ map (moved_arg l.what l.at l.types) (take l.arg-index l.args)

abbrev pub invariant-walk_letrec-loop-binding : goal.invariant-walk_letrec-loop-binding
invariant-walk_letrec-loop-binding l = l.group.items ≡ map (moved_binding l.what l.inner l.types) (take l.binding-index l.bindings)

abbrev pub invariant-walk_vec-loop-element : goal.invariant-walk_vec-loop-element
invariant-walk_vec-loop-element l = l.done.items ≡ map (moved l.what l.at l.types) (take l.element-index l.elements)

abbrev pub invariant-walk_case-loop-alt : goal.invariant-walk_case-loop-alt
invariant-walk_case-loop-alt l = l.done.items ≡ map (moved_alt l.what l.at l.types) (take l.alt-index l.alts)

-- the calls go into parts of the term, from a term to its head, or from a variable to the term that is put for it
abbrev pub decreases-walk : goal.decreases-walk
decreases-walk l = 4 * tree_size l.t.now + 3 + weight l.what

abbrev pub decreases-walk_args : goal.decreases-walk_args
decreases-walk_args l = 4 * args_size l.args.now + 1 + weight l.what

abbrev pub decreases-walk_arg : goal.decreases-walk_arg
decreases-walk_arg l = 4 * args_size (l.arg.now ∷ []) + weight l.what

abbrev pub decreases-walk_head : goal.decreases-walk_head
decreases-walk_head l = 4 * tree_size (tree_of l.head.now) + 2 + weight l.what

abbrev pub decreases-walk_lam : goal.decreases-walk_lam
decreases-walk_lam l = 4 * tree_size l.body.now + 4 + weight l.what

abbrev pub decreases-walk_letrec : goal.decreases-walk_letrec
decreases-walk_letrec l = 4 * (group_size (group_of l.bindings.now) + tree_size l.body.now) + 4 + weight l.what

abbrev pub decreases-walk_binding : goal.decreases-walk_binding
decreases-walk_binding l = 4 * tree_size l.binding.now.body + 4 + weight l.what

abbrev pub decreases-walk_vec : goal.decreases-walk_vec
decreases-walk_vec l = 4 * terms_size (terms_of l.elements.now) + 1 + weight l.what

abbrev pub decreases-walk_case : goal.decreases-walk_case
decreases-walk_case l = 4 * (tree_size l.on.now + alts_size (alts_of l.alts.now)) + 4 + weight l.what

abbrev pub decreases-walk_alt : goal.decreases-walk_alt
decreases-walk_alt l = 4 * tree_size l.alt.now.body + 4 + weight l.what

abbrev pub decreases-walk_var : goal.decreases-walk_var
decreases-walk_var l = 1 + weight l.what

abbrev pub decreases-put_for_var : goal.decreases-put_for_var
decreases-put_for_var l = 4 * tree_size l.arg.now + 4
