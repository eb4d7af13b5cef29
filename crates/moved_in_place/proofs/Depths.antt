-- Renaming keeps depths.
use Rattle.std.proofs.Common.{◌≡◌, ◌∙◌, ℕ, suc, max, ap, refl}
use Rattle.chw_types.specs.TypeMoves.{Renaming, lift, lift_by}
use Rattle.chw_terms.specs.Depth.{type_depth, in_spine, parts_depth, terms_depth, group_depth, alts_depth}
use Rattle.chw_terms.specs.TermMoves.{rename, rename_all, rename_group, rename_alts}
use Rattle.chw_terms.specs.TermTree.{TermTree, var, global, made, lam, app, ty_lam, ty_app, letrec, con, prim, lit, vec_lit, case_of, Terms, no_terms, term_and, Group, no_bindings, bind, Alts, no_alts, alt, binders, size_of}

-- what a renamed function adds to the parts of the spine
spine_renamed : (e : TermTree) (ρ : Renaming) (n : ℕ) → in_spine (rename e ρ) n ≡ in_spine e n
unfolding rename
spine_renamed (var x) ρ n = refl
spine_renamed (global d) ρ n = refl
spine_renamed (made m) ρ n = refl
spine_renamed (lam t e) ρ n = refl
spine_renamed (app f a) ρ n = refl
spine_renamed (ty_lam k e) ρ n = refl
spine_renamed (ty_app f t) ρ n = refl
spine_renamed (letrec g e) ρ n = refl
spine_renamed (con c) ρ n = refl
spine_renamed (prim p) ρ n = refl
spine_renamed (lit s b) ρ n = refl
spine_renamed (vec_lit t es) ρ n = refl
spine_renamed (case_of e alts) ρ n = refl

mutual
  unfolding rename parts_depth

  pub parts_renamed : (e : TermTree) (ρ : Renaming) → parts_depth (rename e ρ) ≡ parts_depth e
  parts_renamed (var x) ρ = refl
  parts_renamed (global d) ρ = refl
  parts_renamed (made m) ρ = refl
  parts_renamed (lam t e) ρ = ap (λ n. max (type_depth t) (suc n)) (parts_renamed e (lift ρ))
  parts_renamed (app f a) ρ =
      let s = spine_renamed f ρ (parts_depth (rename f ρ)) ∙ ap (in_spine f) (parts_renamed f ρ) in
      λ i. max (s i) (suc (parts_renamed a ρ i))
  parts_renamed (ty_lam k e) ρ = ap suc (parts_renamed e ρ)
  parts_renamed (ty_app f t) ρ =
      let s = spine_renamed f ρ (parts_depth (rename f ρ)) ∙ ap (in_spine f) (parts_renamed f ρ) in
      λ i. max (s i) (type_depth t)
  parts_renamed (letrec g e) ρ = λ i. max (group_renamed g (lift_by (size_of g) ρ) i) (suc (parts_renamed e (lift_by (size_of g) ρ) i))
  parts_renamed (con c) ρ = refl
  parts_renamed (prim p) ρ = refl
  parts_renamed (lit s b) ρ = refl
  parts_renamed (vec_lit t es) ρ = ap (max (type_depth t)) (terms_renamed es ρ)
  parts_renamed (case_of s alts) ρ = λ i. max (suc (parts_renamed s ρ i)) (alts_renamed alts ρ i)

  terms_renamed : (es : Terms) (ρ : Renaming) → terms_depth (rename_all es ρ) ≡ terms_depth es
  terms_renamed no_terms ρ = refl
  terms_renamed (term_and e es) ρ = λ i. max (suc (parts_renamed e ρ i)) (terms_renamed es ρ i)

  pub group_renamed : (g : Group) (ρ : Renaming) → group_depth (rename_group g ρ) ≡ group_depth g
  group_renamed no_bindings ρ = refl
  group_renamed (bind t e g) ρ = λ i. max (max (type_depth t) (suc (parts_renamed e ρ i))) (group_renamed g ρ i)

  alts_renamed : (alts : Alts) (ρ : Renaming) → alts_depth (rename_alts alts ρ) ≡ alts_depth alts
  alts_renamed no_alts ρ = refl
  alts_renamed (alt q e more) ρ = λ i. max (suc (parts_renamed e (lift_by (binders q) ρ) i)) (alts_renamed more ρ i)
