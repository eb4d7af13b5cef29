-- Quiet terms stay quiet where variables are renamed.
use Rattle.std.proofs.Common.{◌≡◌, inl, inr, sym, ap, refl, subst, ℕ, zero, suc, ◌<◌, List, [], ◌∷◌, map, Some, slice_get, arith}
use Rattle.chw_types.specs.TypeMoves.{Renaming, lift_by}
use Rattle.chw_prims.specs.declared.prim.Primitive.{Primitive as Prim}
use Rattle.chw_terms.specs.declared.term.Arg.{Arg}
use Rattle.chw_terms.specs.declared.term.Arg.TheVariants.{OfTerm, OfType}
use Rattle.chw_terms.specs.declared.term.Pattern.TheVariants.{OfCon, OfLit, Default}
use Rattle.chw_terms.specs.TermMoves.{rename, rename_all, rename_alts}
use Rattle.chw_terms.specs.TermTree.{TermTree, var, made, con, prim, Terms, no_terms, term_and, Alts, no_alts, alt, binders}
use Rattle.chw_typing.specs.Groups.{rename_arg}
use Rattle.chw_typing.specs.Paths.{element_at, Branch, branch_at}
use Rattle.chw_typing.proofs.Exchanged.{spine_renamed}
use Rattle.rewriting.specs.Shapes.{IsVariable, IsDefaultOrNone}
use Rattle.quiet_sides.specs.Quiet.{EachTerm, EachElement, IsWritten, written_literal, written_constructor, written_vector, IsPlainArgument, IsLifted, lifted_on_one, lifted_on_more, IsProjection, IsOfMany, IsChoice, IsQuiet, of_variable, of_literal, of_call, of_constructor, of_vector, of_prim, of_lifted, of_case}

pub variable_renamed : (e : TermTree) (ρ : Renaming) → IsVariable e → IsVariable (rename e ρ)
unfolding rename
variable_renamed (var x) ρ v = tt
variable_renamed _ ρ v = absurd v

-- an argument that is a term, and an element, before the renaming
argument_before : (args : List Arg) (ρ : Renaming) (i : ℕ) (a : TermTree) → slice_get (map (rename_arg ρ) args) i ≡ Some (OfTerm a) → (c : TermTree) × (slice_get args i ≡ Some (OfTerm c)) × (rename c ρ ≡ a)
argument_before [] ρ i a q = absurd cc
argument_before (OfTerm c ∷ args) ρ zero a q = let same : rename c ρ ≡ a = cc in (c, refl, same)
argument_before (OfType t ∷ args) ρ zero a q = absurd cc
argument_before (OfTerm c ∷ args) ρ (suc i) a q = argument_before args ρ i a q
argument_before (OfType t ∷ args) ρ (suc i) a q = argument_before args ρ i a q

element_before : (es : Terms) (ρ : Renaming) (i : ℕ) (a : TermTree) → element_at (rename_all es ρ) i ≡ Some a → (c : TermTree) × (element_at es i ≡ Some c) × (rename c ρ ≡ a)
unfolding rename
element_before no_terms ρ i a q = absurd cc
element_before (term_and c es) ρ zero a q = let same : rename c ρ ≡ a = cc in (c, refl, same)
element_before (term_and c es) ρ (suc i) a q = element_before es ρ i a q

each_renamed : (P : ℕ → TermTree → Type 0) (ρ : Renaming) → ((i : ℕ) (a : TermTree) → P i a → P i (rename a ρ)) → (args : List Arg) → EachTerm P args → EachTerm P (map (rename_arg ρ) args)
each_renamed P ρ keeps args h i a q =
    let c = argument_before args ρ i a q in
    subst (P i) c.2 (keeps i c.0 (h i c.0 c.1))

elements_renamed : (es : Terms) (ρ : Renaming) → EachElement IsVariable es → EachElement IsVariable (rename_all es ρ)
elements_renamed es ρ h i a q =
    let c = element_before es ρ i a q in
    subst IsVariable c.2 (variable_renamed c.0 ρ (h i c.0 c.1))

-- constants that are written out, and lifted functions
written_renamed : (ρ : Renaming) {e : TermTree} → IsWritten e → IsWritten (rename e ρ)
unfolding rename
written_renamed ρ written_literal = written_literal
written_renamed ρ (written_constructor c args h) =
    subst IsWritten (sym (spine_renamed (con c) args ρ))
    (written_constructor c (map (rename_arg ρ) args) (λ i a q. let b = argument_before args ρ i a q in subst IsWritten b.2 (written_renamed ρ (h i b.0 b.1))))
written_renamed ρ (written_vector {es = es} h) =
    written_vector (λ i a q. let b = element_before es ρ i a q in subst IsWritten b.2 (written_renamed ρ (h i b.0 b.1)))

lifted_renamed : (ρ : Renaming) {e : TermTree} → IsLifted e → IsLifted (rename e ρ)
unfolding rename
lifted_renamed ρ lifted_on_one = lifted_on_one
lifted_renamed ρ (lifted_on_more l) = lifted_on_more (lifted_renamed ρ l)

plain_renamed : (p : Prim) (ρ : Renaming) (i : ℕ) (a : TermTree) → IsPlainArgument p i a → IsPlainArgument p i (rename a ρ)
plain_renamed p ρ i a (inl v) = inl (variable_renamed a ρ v)
plain_renamed p ρ i a (inr w) = inr (w.0, written_renamed ρ w.1)

-- alternatives
lifted_below : (n : ℕ) (ρ : Renaming) (x : ℕ) → x < n → lift_by n ρ x ≡ x
lifted_below zero ρ x h = absurd (omega (arith, h))
lifted_below (suc n) ρ zero h = refl
lifted_below (suc n) ρ (suc x) h = ap suc (lifted_below n ρ x (omega (arith, h)))

projection_renamed : (alts : Alts) (ρ : Renaming) → IsProjection alts → IsProjection (rename_alts alts ρ)
unfolding rename
projection_renamed (alt (OfCon c n) (var j) no_alts) ρ h = subst (λ k. k < n) (sym (lifted_below n ρ j h)) h
projection_renamed _ ρ h = absurd h

default_before : (alts : Alts) (ρ : Renaming) → IsDefaultOrNone (rename_alts alts ρ) → IsDefaultOrNone alts
unfolding rename
default_before no_alts ρ d = tt
default_before (alt Default e no_alts) ρ d = tt
default_before (alt Default e (alt q x more)) ρ d = d
default_before (alt (OfCon c n) e more) ρ d = d
default_before (alt (OfLit s b) e more) ρ d = d

many_renamed : (alts : Alts) (ρ : Renaming) → IsOfMany alts → IsOfMany (rename_alts alts ρ)
unfolding rename
many_renamed (alt (OfLit s b) e more) ρ h = tt
many_renamed (alt (OfCon c n) e more) ρ h = λ d. h (default_before more ρ d)
many_renamed _ ρ h = absurd h

branch_before : (alts : Alts) (ρ : Renaming) (i : ℕ) (a : Branch) → branch_at (rename_alts alts ρ) i ≡ Some a → (c : Branch) × (branch_at alts i ≡ Some c) × (rename c.body (lift_by (binders c.pattern) ρ) ≡ a.body)
unfolding rename
branch_before no_alts ρ i a q = absurd cc
branch_before (alt p e more) ρ zero a q =
    let same : record { pattern = p; body = rename e (lift_by (binders p) ρ) } ≡ a = cc in
    (record { pattern = p; body = e }, refl, ap (λ (a : Branch). a.body) same)
branch_before (alt p e more) ρ (suc i) a q = branch_before more ρ i a q

choice_renamed : (alts : Alts) (ρ : Renaming) → IsChoice alts → IsChoice (rename_alts alts ρ)
choice_renamed alts ρ h = record {
  many = many_renamed alts ρ h.many;
  names = λ i a q. let c = branch_before alts ρ i a q in subst IsVariable c.2 (variable_renamed c.0.body (lift_by (binders c.0.pattern) ρ) (h.names i c.0 c.1));
}

pub quiet_renamed : (ρ : Renaming) {e : TermTree} → IsQuiet e → IsQuiet (rename e ρ)
unfolding rename
quiet_renamed ρ of_variable = of_variable
quiet_renamed ρ of_literal = of_literal
quiet_renamed ρ (of_call m args h) =
    subst IsQuiet (sym (spine_renamed (made m) args ρ)) (of_call m (map (rename_arg ρ) args) (each_renamed (λ i a. IsVariable a) ρ (λ i a v. variable_renamed a ρ v) args h))
quiet_renamed ρ (of_constructor c args h) =
    subst IsQuiet (sym (spine_renamed (con c) args ρ)) (of_constructor c (map (rename_arg ρ) args) (each_renamed (λ i a. IsVariable a) ρ (λ i a v. variable_renamed a ρ v) args h))
quiet_renamed ρ (of_vector {es = es} h) = of_vector (elements_renamed es ρ h)
quiet_renamed ρ (of_prim p args r h) =
    subst IsQuiet (sym (spine_renamed (prim p) args ρ)) (of_prim p (map (rename_arg ρ) args) r (each_renamed (IsPlainArgument p) ρ (plain_renamed p ρ) args h))
quiet_renamed ρ (of_lifted l) = of_lifted (lifted_renamed ρ l)
quiet_renamed ρ (of_case {alts = alts} (inl h)) = of_case (inl (projection_renamed alts ρ h))
quiet_renamed ρ (of_case {alts = alts} (inr h)) = of_case (inr (choice_renamed alts ρ h))
