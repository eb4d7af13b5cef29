-- Only the made definitions that stand in a term matter for it.
use Rattle.std.proofs.Common.{◌≡◌, ℕ, Bool, true, ◌||◌, refl, ap}
use Rattle.std.proofs.lemmas.Bool.{eq-eqb, or_left, or_right}
use Rattle.chw_terms.specs.TermTree.{TermTree, var, global, made, lam, app, ty_lam, ty_app, letrec, con, prim, lit, vec_lit, case_of, Terms, no_terms, term_and, Group, no_bindings, bind, Alts, no_alts, alt}
use Rattle.rewriting.specs.Origins.{with_origins, with_origins_all, with_origins_group, with_origins_alts}
use Rattle.normal_forms.specs.Uses.{names_made, any_names_made, group_names_made, alts_name_made}

-- the same terms for the made definitions that stand in a term
abbrev pub Agree : (ℕ → Bool) → (ℕ → TermTree) → (ℕ → TermTree) → Type 0
Agree P o u = (n : ℕ) → P n ≡ true → o n ≡ u n

on_left : (P Q : ℕ → Bool) (o u : ℕ → TermTree) → Agree (λ n. P n || Q n) o u → Agree P o u
on_left P Q o u h n p = h n (or_left (P n) (Q n) p)

on_right : (P Q : ℕ → Bool) (o u : ℕ → TermTree) → Agree (λ n. P n || Q n) o u → Agree Q o u
on_right P Q o u h n p = h n (or_right (P n) (Q n) p)

mutual
  unfolding with_origins

  pub put_where : (e : TermTree) (o u : ℕ → TermTree) → Agree (names_made e) o u → with_origins o e ≡ with_origins u e
  put_where (var x) o u h = refl
  put_where (global d) o u h = refl
  put_where (made m) o u h = h m (eq-eqb m m refl)
  put_where (lam t e) o u h = ap (lam t) (put_where e o u h)
  put_where (app f a) o u h = λ i. app (put_where f o u (on_left (names_made f) (names_made a) o u h) i) (put_where a o u (on_right (names_made f) (names_made a) o u h) i)
  put_where (ty_lam k e) o u h = ap (ty_lam k) (put_where e o u h)
  put_where (ty_app f t) o u h = ap (λ x. ty_app x t) (put_where f o u h)
  put_where (letrec g e) o u h =
      λ i. letrec (group_where g o u (on_left (group_names_made g) (names_made e) o u h) i) (put_where e o u (on_right (group_names_made g) (names_made e) o u h) i)
  put_where (con c) o u h = refl
  put_where (prim p) o u h = refl
  put_where (lit s bs) o u h = refl
  put_where (vec_lit t es) o u h = ap (vec_lit t) (all_where es o u h)
  put_where (case_of e alts) o u h =
      λ i. case_of (put_where e o u (on_left (names_made e) (alts_name_made alts) o u h) i) (alts_where alts o u (on_right (names_made e) (alts_name_made alts) o u h) i)

  all_where : (es : Terms) (o u : ℕ → TermTree) → Agree (any_names_made es) o u → with_origins_all o es ≡ with_origins_all u es
  all_where no_terms o u h = refl
  all_where (term_and e es) o u h =
      λ i. term_and (put_where e o u (on_left (names_made e) (any_names_made es) o u h) i) (all_where es o u (on_right (names_made e) (any_names_made es) o u h) i)

  group_where : (g : Group) (o u : ℕ → TermTree) → Agree (group_names_made g) o u → with_origins_group o g ≡ with_origins_group u g
  group_where no_bindings o u h = refl
  group_where (bind t e g) o u h =
      λ i. bind t (put_where e o u (on_left (names_made e) (group_names_made g) o u h) i) (group_where g o u (on_right (names_made e) (group_names_made g) o u h) i)

  alts_where : (alts : Alts) (o u : ℕ → TermTree) → Agree (alts_name_made alts) o u → with_origins_alts o alts ≡ with_origins_alts u alts
  alts_where no_alts o u h = refl
  alts_where (alt q e more) o u h =
      λ i. alt q (put_where e o u (on_left (names_made e) (alts_name_made more) o u h) i) (alts_where more o u (on_right (names_made e) (alts_name_made more) o u h) i)
