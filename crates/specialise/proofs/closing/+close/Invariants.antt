use Rattle.std.proofs.Common.{◌≡◌, ◌+◌, ◌*◌, ◌∷◌, [], map, take}
use Rattle.chw_types.specs.TypeMoves.{lift_by}
use Rattle.chw_terms.specs.TermSize.{tree_size, terms_size, group_size, alts_size, args_size}
use Rattle.chw_terms.specs.TermView.{tree_of, terms_of, group_of, alts_of}
use Rattle.rewriting.specs.Origins.{origins_of}
use Rattle.rewriting.specs.Calls.{to_lambdas}
use Rattle.specialise.specs.Closed.{numbers, closed, closed_arg, closed_binding, closed_alt}
use Rattle.specialise.proofs.closing.+close.Given as goal

abbrev pub invariant-close_args-loop-arg : goal.invariant-close_args-loop-arg
invariant-close_args-loop-arg l = l.done.items ≡ map (closed_arg (origins_of l.scene) (lift_by l.under (to_lambdas (numbers l.free)))) (take l.arg-index l.args)

abbrev pub invariant-close_all-loop-element : goal.invariant-close_all-loop-element
invariant-close_all-loop-element l = l.done.items ≡ map (closed (origins_of l.scene) (lift_by l.under (to_lambdas (numbers l.free)))) (take l.element-index l.elements)

abbrev pub invariant-close_group-loop-binding : goal.invariant-close_group-loop-binding
invariant-close_group-loop-binding l = l.done.items ≡ map (closed_binding (origins_of l.scene) (lift_by l.under (to_lambdas (numbers l.free)))) (take l.binding-index l.bindings)

abbrev pub invariant-close_alts-loop-alt : goal.invariant-close_alts-loop-alt
invariant-close_alts-loop-alt l = l.done.items ≡ map (closed_alt (origins_of l.scene) (lift_by l.under (to_lambdas (numbers l.free)))) (take l.alt-index l.alts)

-- the calls go into parts of the term, or from a term to its head
abbrev pub decreases-close : goal.decreases-close
decreases-close l = 4 * tree_size l.t.now + 3

abbrev pub decreases-close_args : goal.decreases-close_args
decreases-close_args l = 4 * args_size l.args.now + 1

abbrev pub decreases-close_arg : goal.decreases-close_arg
decreases-close_arg l = 4 * args_size (l.arg.now ∷ [])

abbrev pub decreases-close_head : goal.decreases-close_head
decreases-close_head l = 4 * tree_size (tree_of l.head.now) + 2

abbrev pub decreases-close_lam : goal.decreases-close_lam
decreases-close_lam l = 4 * tree_size l.body.now + 4

abbrev pub decreases-close_letrec : goal.decreases-close_letrec
decreases-close_letrec l =
    4 * (group_size (group_of l.bindings.now) + tree_size l.body.now) + 4

abbrev pub decreases-close_vec : goal.decreases-close_vec
decreases-close_vec l = 4 * terms_size (terms_of l.elements.now) + 2

abbrev pub decreases-close_case : goal.decreases-close_case
decreases-close_case l = 4 * (tree_size l.on.now + alts_size (alts_of l.alts.now)) + 4

abbrev pub decreases-close_all : goal.decreases-close_all
decreases-close_all l = 4 * terms_size (terms_of l.elements.now) + 1

abbrev pub decreases-close_group : goal.decreases-close_group
decreases-close_group l = 4 * group_size (group_of l.bindings.now) + 1

abbrev pub decreases-close_binding : goal.decreases-close_binding
decreases-close_binding l = 4 * tree_size l.binding.now.body + 4

abbrev pub decreases-close_alts : goal.decreases-close_alts
decreases-close_alts l = 4 * alts_size (alts_of l.alts.now) + 1

abbrev pub decreases-close_alt : goal.decreases-close_alt
decreases-close_alt l = 4 * tree_size l.alt.now.body + 4
