use Rattle.std.proofs.Common.{◌≡◌, ◌+◌, ◌*◌, ◌∷◌, []}
use Rattle.chw_types.specs.TypeMoves.{lift_by}
use Rattle.chw_terms.specs.TermMoves.{rename}
use Rattle.chw_terms.specs.TermSize.{tree_size, terms_size, group_size, alts_size, args_size}
use Rattle.chw_terms.specs.TermView.{tree_of, terms_of, group_of, alts_of}
use Rattle.chw_typing.specs.Groups.{rename_arg}
use Rattle.moved_in_place.specs.Moves.{renamed_binding, renamed_alt}
use Rattle.moved_in_place.proofs.InPlace.{mapped_to}
use Rattle.moved_in_place.proofs.walk.+walk.Given as goal

abbrev pub invariant-walk_args-loop-arg : goal.invariant-walk_args-loop-arg
invariant-walk_args-loop-arg g l = l.args ≡ mapped_to (rename_arg (lift_by l.at (g.R.Renumbering.renaming l.how))) l.arg-index l.fn.args

abbrev pub invariant-walk_bindings-loop-binding : goal.invariant-walk_bindings-loop-binding
invariant-walk_bindings-loop-binding g l = l.bindings ≡ mapped_to (renamed_binding (lift_by l.at (g.R.Renumbering.renaming l.how))) l.binding-index l.fn.bindings

abbrev pub invariant-walk_elements-loop-element : goal.invariant-walk_elements-loop-element
invariant-walk_elements-loop-element g l = l.elements ≡ mapped_to (λ e. rename e (lift_by l.at (g.R.Renumbering.renaming l.how))) l.element-index l.fn.elements

abbrev pub invariant-walk_alts-loop-alt : goal.invariant-walk_alts-loop-alt
invariant-walk_alts-loop-alt g l = l.alts ≡ mapped_to (renamed_alt (g.R.Renumbering.renaming l.how) l.at) l.alt-index l.fn.alts

-- the calls go into parts of the term, or from a term to its head
abbrev pub decreases-walk : goal.decreases-walk
decreases-walk g l = 4 * tree_size l.term.now + 3

abbrev pub decreases-walk_args : goal.decreases-walk_args
decreases-walk_args g l = 4 * args_size l.args.now + 1

abbrev pub decreases-walk_arg : goal.decreases-walk_arg
decreases-walk_arg g l = 4 * args_size (l.arg.now ∷ [])

abbrev pub decreases-walk_head : goal.decreases-walk_head
decreases-walk_head g l = 4 * tree_size (tree_of l.head.now) + 2

abbrev pub decreases-walk_under : goal.decreases-walk_under
decreases-walk_under g l = 4 * tree_size l.term.now + 4

abbrev pub decreases-walk_letrec : goal.decreases-walk_letrec
decreases-walk_letrec g l = 4 * (group_size (group_of l.bindings.now) + tree_size l.body.now) + 4

abbrev pub decreases-walk_bindings : goal.decreases-walk_bindings
decreases-walk_bindings g l = 4 * group_size (group_of l.bindings.now) + 1

abbrev pub decreases-walk_elements : goal.decreases-walk_elements
decreases-walk_elements g l = 4 * terms_size (terms_of l.elements.now) + 1

abbrev pub decreases-walk_case : goal.decreases-walk_case
decreases-walk_case g l = 4 * (tree_size l.on.now + alts_size (alts_of l.alts.now)) + 4

abbrev pub decreases-walk_alts : goal.decreases-walk_alts
decreases-walk_alts g l = 4 * alts_size (alts_of l.alts.now) + 1
