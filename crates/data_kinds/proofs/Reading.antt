-- What is listed of items, item by item, and of a spine.
use Rattle.std.proofs.Common.{◌≡◌, ℕ, ◌≤◌, List, [], ◌∷◌, ◌++◌, length, drop, flat_map, append_assoc, append-nil, sym, ap, ◌∙◌}
use Rattle.std.proofs.lemmas.List.{drop_all}
use Rattle.chw_terms.specs.declared.term.Arg.{Arg}
use Rattle.chw_terms.specs.declared.term.Arg.TheVariants.{OfTerm, OfType}
use Rattle.chw_terms.specs.TermTree.{TermTree, app, ty_app}
use Rattle.chw_terms.specs.TermView.{applied}
use Rattle.data_kinds.specs.Named.{defs_in, arg_defs}

-- the definitions of a spine are those of the head and of the arguments
pub spine_defs : (e : TermTree) (args : List Arg) → defs_in (applied e args) ≡ defs_in e ++ flat_map arg_defs args
unfolding defs_in
spine_defs e [] = sym (append-nil (defs_in e))
spine_defs e (OfTerm a ∷ args) = spine_defs (app e a) args ∙ append_assoc (defs_in e) (defs_in a) (flat_map arg_defs args)
spine_defs e (OfType t ∷ args) = spine_defs (ty_app e t) args

-- what a loop over the arguments added behind the head's
pub spine_added : (e t : TermTree) (args xs : List Arg) (before between after : List ℕ) (i : ℕ) → length xs ≤ i → xs ≡ args → applied e args ≡ t → between ≡ before ++ defs_in e
    → after ++ flat_map arg_defs (drop i xs) ≡ between ++ flat_map arg_defs xs → after ≡ before ++ defs_in t
spine_added e t args xs before between after i le same whole head all =
    sym (append-nil after) ∙ ap (λ l. after ++ flat_map arg_defs l) (sym (drop_all i xs le)) ∙ all
    ∙ (λ j. head j ++ flat_map arg_defs (same j)) ∙ append_assoc before (defs_in e) (flat_map arg_defs args)
    ∙ ap (λ l. before ++ l) (sym (spine_defs e args) ∙ ap defs_in whole)
