-- The scope of a place with more variables, and without them again.
use Rattle.std.proofs.Common.{◌≡◌, ◌∙◌, refl, sym, ap, List, [], ◌∷◌, ◌++◌, drop, length, reverse, take}
use Rattle.std.proofs.Math.Seq.{take-append_seam, drop-append_seam}
use Rattle.std.proofs.lemmas.List.{reverse-append, length-reverse}
use Rattle.chw_types.specs.TypeTree.{TypeTree}
use Rattle.chw_terms.specs.declared.scene.Place.{Place}
use Rattle.chw_terms.specs.declared.term.Arg.{Arg}
use Rattle.chw_terms.specs.declared.term.Arg.TheVariants.{OfTerm, OfType}
use Rattle.chw_terms.specs.TermTree.{TermTree}
use Rattle.chw_terms.specs.TermView.{applied_to, applied}
use Rattle.chw_typing.specs.Scopes.{with_more}
use Rattle.rewriting.specs.Spots.{spot, spot_of}
use Rattle.active_parts.specs.Grounds.{with_variables}
use Rattle.active_parts.specs.Parts.{declares, around, IsInside}

pub more_in_scope : (vars more : List TypeTree)
    → reverse (vars ++ more) ≡ with_more more (reverse vars)
more_in_scope vars more = reverse-append vars more

pub left_again : (at : Place) (more : List TypeTree)
    → with_variables (with_variables at (at.vars ++ more)) (take (length at.vars) (at.vars ++ more)) ≡ at
left_again at more = ap (with_variables at) (take-append_seam at.vars more)

-- a place in which the variables that a term declares are in scope too
outside_again : (vars more : List TypeTree) → drop (length more) (reverse (vars ++ more)) ≡ reverse vars
outside_again vars more =
    ap (drop (length more)) (more_in_scope vars more)
    ∙ ap (λ n. drop n (with_more more (reverse vars))) (sym (length-reverse more))
    ∙ drop-append_seam (reverse more) (reverse vars)

pub around_inner : (at : Place) (e : TermTree)
    → around (with_variables at (at.vars ++ declares e)) e ≡ spot_of at
around_inner at e = ap (spot at.mode at.result) (outside_again at.vars (declares e))

pub is_inside : (at : Place) (e : TermTree) → IsInside (with_variables at (at.vars ++ declares e)) e
is_inside at e =
    more_in_scope at.vars (declares e)
    ∙ ap (with_more (declares e)) (sym (outside_again at.vars (declares e)))

-- an application declares none
none_declared : (e : TermTree) (a : Arg) → declares (applied_to e a) ≡ []
none_declared e (OfTerm x) = refl
none_declared e (OfType t) = refl

still_none : (args : List Arg) (e : TermTree) → declares e ≡ [] → declares (applied e args) ≡ []
still_none [] e none = none
still_none (a ∷ args) e none = still_none args (applied_to e a) (none_declared e a)

pub declares_none : (e : TermTree) (args : List Arg) → (args ≡ [] → ⊥) → declares (applied e args) ≡ []
declares_none e [] some = absurd (some refl)
declares_none e (a ∷ args) some = still_none args (applied_to e a) (none_declared e a)

pub around_application : (at : Place) (e : TermTree) (args : List Arg) → (args ≡ [] → ⊥)
    → around at (applied e args) ≡ spot_of at
around_application at e args some =
    ap (λ (ts : List TypeTree). spot at.mode at.result (drop (length ts) (reverse at.vars)))
    (declares_none e args some)
