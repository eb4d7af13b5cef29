use Rattle.std.proofs.Common.{◌≡◌, ◌+◌, ◌*◌, ◌∷◌, [], reverse}
use Rattle.chw_terms.specs.TermSize.{tree_size, terms_size, group_size, alts_size, args_size}
use Rattle.chw_terms.specs.TermView.{tree_of, terms_of, group_of, alts_of}
use Rattle.chw_typing.specs.Programs.{setting_of}
use Rattle.chw_check.specs.Fits.{TypesFit}
use Rattle.chw_check.specs.FitParts.{ArgFits}
use Rattle.chw_check.proofs.EachItem.{EachBefore}
use Rattle.chw_check.proofs.PartsFit.{AltFits, BindingFits}
use Rattle.chw_check.proofs.kinds.terms.+types_fit.Given as goal

-- the kinds are as they were, and each item so far fits
abbrev pub invariant-args_fit-loop-arg : goal.invariant-args_fit-loop-arg
invariant-args_fit-loop-arg l = record {
  scope : l.kinds.items ≡ l.fn.kinds.items;
  fit : EachBefore (ArgFits (setting_of l.fn.program) (reverse l.fn.kinds.items)) l.fn.args l.arg-index;
}

abbrev pub invariant-bindings_fit-loop-binding : goal.invariant-bindings_fit-loop-binding
invariant-bindings_fit-loop-binding l = record {
  scope : l.kinds.items ≡ l.fn.kinds.items;
  fit : EachBefore (BindingFits (setting_of l.fn.program) (reverse l.fn.kinds.items)) l.fn.bindings l.binding-index;
}

abbrev pub invariant-all_fit-loop-element : goal.invariant-all_fit-loop-element
invariant-all_fit-loop-element l = record {
  scope : l.kinds.items ≡ l.fn.kinds.items;
  fit : EachBefore (TypesFit (setting_of l.fn.program) (reverse l.fn.kinds.items)) l.fn.elements l.element-index;
}

abbrev pub invariant-alts_fit-loop-alt : goal.invariant-alts_fit-loop-alt
invariant-alts_fit-loop-alt l = record {
  scope : l.kinds.items ≡ l.fn.kinds.items;
  fit : EachBefore (AltFits (setting_of l.fn.program) (reverse l.fn.kinds.items)) l.fn.alts l.alt-index;
}

-- the calls go into parts of the term, or from a term to its head
abbrev pub decreases-types_fit : goal.decreases-types_fit
decreases-types_fit l = 4 * tree_size l.term.now + 3

abbrev pub decreases-typed_fits : goal.decreases-typed_fits
decreases-typed_fits l = 4 * tree_size l.term.now + 4

abbrev pub decreases-head_fits : goal.decreases-head_fits
decreases-head_fits l = 4 * tree_size (tree_of l.head.now) + 2

abbrev pub decreases-args_fit : goal.decreases-args_fit
decreases-args_fit l = 4 * args_size l.args.now + 1

abbrev pub decreases-arg_fits : goal.decreases-arg_fits
decreases-arg_fits l = 4 * args_size (l.arg.now ∷ [])

abbrev pub decreases-fits_under : goal.decreases-fits_under
decreases-fits_under l = 4 * tree_size l.body.now + 4

abbrev pub decreases-bindings_fit : goal.decreases-bindings_fit
decreases-bindings_fit l = 4 * group_size (group_of l.bindings.now) + 1

abbrev pub decreases-all_fit : goal.decreases-all_fit
decreases-all_fit l = 4 * terms_size (terms_of l.elements.now) + 1

abbrev pub decreases-alts_fit : goal.decreases-alts_fit
decreases-alts_fit l = 4 * alts_size (alts_of l.alts.now) + 1
