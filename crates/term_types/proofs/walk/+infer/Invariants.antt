use Rattle.std.proofs.Common.{◌+◌, ◌*◌, ◌∷◌, [], take}
use Rattle.std.specs.Prelude.{reverse}
use Rattle.chw_terms.specs.TermTree.{TermTree}
use Rattle.chw_terms.specs.TermSize.{tree_size, terms_size, group_size, alts_size, args_size}
use Rattle.chw_terms.specs.TermView.{tree_of, applied, terms_of, group_of, alts_of}
use Rattle.chw_typing.specs.Typing.{HasTypeUpTo}
use Rattle.term_types.specs.Answers.{IsTyped}
use Rattle.term_types.specs.Cases.{GiveTogether}
use Rattle.seen_types.specs.Each.{Each}
use Rattle.term_types.specs.Groups.{HaveTheirTypes}
use Rattle.term_spines.specs.Spines.{spine_found, IsNumbered}
use Rattle.chw_typing.specs.Scopes.{setting_in}
use Rattle.term_types.proofs.walk.+infer.Given as goal

-- what has the type of the head has this one at the arguments so far, and its number is the type's
abbrev pub invariant-infer_args-loop-arg : goal.invariant-infer_args-loop-arg
invariant-infer_args-loop-arg l =
    ((e : TermTree) → IsTyped (setting_in l.scene) (reverse l.kinds) l.vars.vars e (spine_found l.initial.spine) → IsTyped (setting_in l.scene) (reverse l.kinds) l.vars.vars (applied e (take l.arg-index l.args)) (spine_found l.spine))
    × IsNumbered l.signature.numbering.types l.spine

abbrev pub invariant-have_their_types-loop-b : goal.invariant-have_their_types-loop-b
invariant-have_their_types-loop-b l = HaveTheirTypes (setting_in l.scene) (reverse l.kinds) l.vars.vars (take l.b-index l.bindings)

abbrev pub invariant-infer_vector-loop-e : goal.invariant-infer_vector-loop-e
invariant-infer_vector-loop-e l = Each (λ e. HasTypeUpTo (setting_in l.scene) (reverse l.kinds) l.vars.vars e l.ty) (take l.e-index l.elements)

abbrev pub invariant-infer_alts-loop-alt : goal.invariant-infer_alts-loop-alt
invariant-infer_alts-loop-alt l = GiveTogether (setting_in l.scene) (reverse l.kinds) l.vars.vars l.on (take l.alt-index l.alts) l.given

-- the calls go into parts of the term, or from a term to its head
abbrev pub decreases-infer : goal.decreases-infer
decreases-infer l = 4 * tree_size l.term.now + 3

abbrev pub decreases-infer_args : goal.decreases-infer_args
decreases-infer_args l = 4 * args_size l.args.now + 1

abbrev pub decreases-infer_applied : goal.decreases-infer_applied
decreases-infer_applied l = 4 * args_size (l.arg.now ∷ [])

abbrev pub decreases-infer_at_term : goal.decreases-infer_at_term
decreases-infer_at_term l = 4 * tree_size l.term.now + 4

abbrev pub decreases-infer_head : goal.decreases-infer_head
decreases-infer_head l = 4 * tree_size (tree_of l.head.now) + 2

abbrev pub decreases-infer_lam : goal.decreases-infer_lam
decreases-infer_lam l = 4 * tree_size l.body.now + 8

abbrev pub decreases-infer_ty_lam : goal.decreases-infer_ty_lam
decreases-infer_ty_lam l = 4 * tree_size l.body.now + 8

abbrev pub decreases-infer_letrec : goal.decreases-infer_letrec
decreases-infer_letrec l = 4 * group_size (group_of l.bindings.now) + 4 * tree_size l.body.now + 8

abbrev pub decreases-have_their_types : goal.decreases-have_their_types
decreases-have_their_types l = 4 * group_size (group_of l.bindings.now) + 1

abbrev pub decreases-has_type : goal.decreases-has_type
decreases-has_type l = 4 * tree_size l.term.now + 4

abbrev pub decreases-infer_vector : goal.decreases-infer_vector
decreases-infer_vector l = 4 * terms_size (terms_of l.elements.now) + 8

abbrev pub decreases-infer_case : goal.decreases-infer_case
decreases-infer_case l = 4 * tree_size l.on.now + 4 * alts_size (alts_of l.alts.now) + 8

abbrev pub decreases-infer_alts : goal.decreases-infer_alts
decreases-infer_alts l = 4 * alts_size (alts_of l.alts.now) + 1

abbrev pub decreases-infer_alt : goal.decreases-infer_alt
decreases-infer_alt l = 4 * tree_size l.alt.now.body + 4
