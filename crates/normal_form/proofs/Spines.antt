-- The made definitions of a spine.
use Rattle.std.proofs.Common.{◌≡◌, ℕ, ◌≤◌, List, [], ◌∷◌, ◌++◌, length, drop, flat_map, append_assoc, append-nil, sym, ap, ◌∙◌}
use Rattle.std.proofs.lemmas.List.{drop_all}
use Rattle.chw_terms.specs.declared.term.Arg.{Arg}
use Rattle.chw_terms.specs.declared.term.Arg.TheVariants.{OfTerm, OfType}
use Rattle.chw_terms.specs.TermTree.{TermTree, app, ty_app}
use Rattle.chw_terms.specs.TermView.{applied}
use Rattle.normal_form.specs.MadeIn.{made_in, arg_made}

-- they are those of the head and of the arguments
spine_made : (e : TermTree) (args : List Arg) → made_in (applied e args) ≡ made_in e ++ flat_map arg_made args
unfolding made_in
spine_made e [] = sym (append-nil (made_in e))
spine_made e (OfTerm a ∷ args) = spine_made (app e a) args ∙ append_assoc (made_in e) (made_in a) (flat_map arg_made args)
spine_made e (OfType t ∷ args) = spine_made (ty_app e t) args

-- what a loop over the arguments added behind the head's
pub spine_added : (e t : TermTree) (args xs : List Arg) (before between after : List ℕ) (i : ℕ) → length xs ≤ i → xs ≡ args → applied e args ≡ t → between ≡ before ++ made_in e
    → after ++ flat_map arg_made (drop i xs) ≡ between ++ flat_map arg_made xs → after ≡ before ++ made_in t
spine_added e t args xs before between after i le same whole head all =
    sym (append-nil after) ∙ ap (λ l. after ++ flat_map arg_made l) (sym (drop_all i xs le)) ∙ all
    ∙ (λ j. head j ++ flat_map arg_made (same j)) ∙ append_assoc before (made_in e) (flat_map arg_made args)
    ∙ ap (λ l. before ++ l) (sym (spine_made e args) ∙ ap made_in whole)
