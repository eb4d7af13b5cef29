-- Only what is put for the variables that occur matters.
use Rattle.std.proofs.Common.{◌≡◌, ℕ, suc, zero, ◌+◌, Bool, true, false, ◌==◌, refl, sym, ap, ◌∙◌, arith, subst}
use Rattle.std.proofs.Math.Dec.{eqb-suc-suc}
use Rattle.std.proofs.lemmas.Bool.{or_left, or_right}
use Rattle.chw_types.specs.TypeMoves.{lift, raised}
use Rattle.chw_terms.specs.TermTree.{TermTree, var, global, made, lam, app, ty_lam, ty_app, letrec, con, prim, lit, vec_lit, case_of, Terms, no_terms, term_and, Group, no_bindings, bind, Alts, no_alts, alt, binders, size_of}
use Rattle.chw_terms.specs.TypesMoved.{rename_types}
use Rattle.chw_terms.specs.TermMoves.{rename, Substitution, up, up_by, under_type, sub, sub_all, sub_group, sub_alts, shift, put_at, put}
use Rattle.chw_terms.specs.Occurs.{occurs, occurs_all, occurs_group, occurs_alts}
use Rattle.chw_terms.proofs.Renamed.{rename_rename}
use Rattle.chw_terms.proofs.TermsPut.{sub_rename, sub_ids}

eq_self : (x : ℕ) → (x == x) ≡ true
eq_self zero = refl
eq_self (suc x) = eqb-suc-suc x x ∙ eq_self x

-- two puttings agree where the test holds
abbrev pub Agree : (ℕ → Bool) → Substitution → Substitution → Type 0
Agree P σ τ = (x : ℕ) → P x ≡ true → σ x ≡ τ x

agree_up : (P : ℕ → Bool) (σ τ : Substitution) → Agree (λ x. P (suc x)) σ τ → Agree P (up σ) (up τ)
unfolding up
agree_up P σ τ h zero p = refl
agree_up P σ τ h (suc x) p = ap (λ e. rename e suc) (h x p)

agree_under : (n : ℕ) (P : ℕ → Bool) (σ τ : Substitution) → Agree (λ x. P (x + n)) σ τ → Agree P (up_by n σ) (up_by n τ)
unfolding up_by
agree_under zero P σ τ h x p = let e : x ≡ x + 0 = omega arith in h x (subst (λ z. P z ≡ true) e p)
agree_under (suc n) P σ τ h y q = agree_up P (up_by n σ) (up_by n τ) (agree_under n (λ x. P (suc x)) σ τ under) y q
  where
    under : Agree (λ x. P (suc (x + n))) σ τ
    under x p = let e : suc (x + n) ≡ x + suc n = omega arith in h x (subst (λ z. P z ≡ true) e p)

-- the same where the variables that occur get the same
mutual
  unfolding sub occurs

  pub sub_where : (e : TermTree) (σ τ : Substitution) → Agree (occurs e) σ τ → sub e σ ≡ sub e τ
  sub_where (var x) σ τ h = h x (eq_self x)
  sub_where (global d) σ τ h = refl
  sub_where (made m) σ τ h = refl
  sub_where (lam t e) σ τ h = ap (lam t) (sub_where e (up σ) (up τ) (agree_up (occurs e) σ τ h))
  sub_where (app f a) σ τ h = λ i. app (sub_where f σ τ (λ x p. h x (or_left (occurs f x) (occurs a x) p)) i) (sub_where a σ τ (λ x p. h x (or_right (occurs f x) (occurs a x) p)) i)
  sub_where (ty_lam k e) σ τ h = ap (ty_lam k) (sub_where e (under_type σ) (under_type τ) (λ x p. ap (λ e. rename_types e suc) (h x p)))
  sub_where (ty_app f t) σ τ h = λ i. ty_app (sub_where f σ τ h i) t
  sub_where (letrec g e) σ τ h =
      let n = size_of g in
      λ i. letrec (sub_where_group g (up_by n σ) (up_by n τ) (agree_under n (occurs_group g) σ τ (λ x p. h x (or_left (occurs_group g (x + n)) (occurs e (x + n)) p))) i) (sub_where e (up_by n σ) (up_by n τ) (agree_under n (occurs e) σ τ (λ x p. h x (or_right (occurs_group g (x + n)) (occurs e (x + n)) p))) i)
  sub_where (con c) σ τ h = refl
  sub_where (prim p) σ τ h = refl
  sub_where (lit s bs) σ τ h = refl
  sub_where (vec_lit t es) σ τ h = ap (vec_lit t) (sub_where_all es σ τ h)
  sub_where (case_of s alts) σ τ h = λ i. case_of (sub_where s σ τ (λ x p. h x (or_left (occurs s x) (occurs_alts alts x) p)) i) (sub_where_alts alts σ τ (λ x p. h x (or_right (occurs s x) (occurs_alts alts x) p)) i)

  pub sub_where_all : (es : Terms) (σ τ : Substitution) → Agree (occurs_all es) σ τ → sub_all es σ ≡ sub_all es τ
  sub_where_all no_terms σ τ h = refl
  sub_where_all (term_and e es) σ τ h = λ i. term_and (sub_where e σ τ (λ x p. h x (or_left (occurs e x) (occurs_all es x) p)) i) (sub_where_all es σ τ (λ x p. h x (or_right (occurs e x) (occurs_all es x) p)) i)

  pub sub_where_group : (g : Group) (σ τ : Substitution) → Agree (occurs_group g) σ τ → sub_group g σ ≡ sub_group g τ
  sub_where_group no_bindings σ τ h = refl
  sub_where_group (bind t e g) σ τ h = λ i. bind t (sub_where e σ τ (λ x p. h x (or_left (occurs e x) (occurs_group g x) p)) i) (sub_where_group g σ τ (λ x p. h x (or_right (occurs e x) (occurs_group g x) p)) i)

  pub sub_where_alts : (alts : Alts) (σ τ : Substitution) → Agree (occurs_alts alts) σ τ → sub_alts alts σ ≡ sub_alts alts τ
  sub_where_alts no_alts σ τ h = refl
  sub_where_alts (alt q e more) σ τ h =
      let n = binders q in
      λ i. alt q (sub_where e (up_by n σ) (up_by n τ) (agree_under n (occurs e) σ τ (λ x p. h x (or_left (occurs e (x + n)) (occurs_alts more x) p))) i) (sub_where_alts more σ τ (λ x p. h x (or_right (occurs e (x + n)) (occurs_alts more x) p)) i)

-- for a variable that occurs, where c doesn't, the same is put whatever stands for c
apart : (c : ℕ) (a b : TermTree) (P : ℕ → Bool) → P c ≡ false → Agree P (put_at c a) (put_at c b)
unfolding put_at up_by up
apart zero a b P absent zero p = cc
apart zero a b P absent (suc x) p = refl
apart (suc c) a b P absent zero p = refl
apart (suc c) a b P absent (suc x) p = ap (λ e. rename e suc) (apart c a b (λ z. P (suc z)) absent x p)

pub put_absent : (e a b : TermTree) (c : ℕ) → occurs e c ≡ false → put e c a ≡ put e c b
put_absent e a b c absent = sub_where e (put_at c a) (put_at c b) (apart c a b (occurs e) absent)

-- and a shift brings it back
back : (c : ℕ) (a : TermTree) (P : ℕ → Bool) → P c ≡ false → Agree P (λ x. rename (put_at c a x) (raised c 1)) var
unfolding put_at up_by up rename
back zero a P absent zero p = cc
back zero a P absent (suc x) p = let e : x + 1 ≡ suc x = omega arith in ap var e
back (suc c) a P absent zero p = refl
back (suc c) a P absent (suc x) p =
    rename_rename (put_at c a x) suc (lift (raised c 1))
    ∙ sym (rename_rename (put_at c a x) (raised c 1) suc)
    ∙ ap (λ e. rename e suc) (back c a (λ z. P (suc z)) absent x p)

pub shift_absent : (e a : TermTree) (c : ℕ) → occurs e c ≡ false → shift (put e c a) c 1 ≡ e
shift_absent e a c absent =
    sub_rename e (put_at c a) (raised c 1) ∙ sub_where e (λ x. rename (put_at c a x) (raised c 1)) var (back c a (occurs e) absent) ∙ sub_ids e
