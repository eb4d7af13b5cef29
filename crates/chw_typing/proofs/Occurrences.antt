-- Where variables occur after putting terms and renaming.
use Rattle.std.proofs.Common.{◌≡◌, ◌↔◌, ℕ, suc, zero, ◌+◌, Bool, true, ◌||◌, ⊎_elim, refl, sym, ap, ◌∙◌, arith, subst, eqb-true, eq-eqb}
use Rattle.std.proofs.Math.Dec.{eqb-suc-suc, eqb-zero-suc}
use Rattle.std.proofs.lemmas.Bool.{true≢false, or_left, or_right, or_cases}
use Rattle.chw_types.specs.TypeMoves.{Renaming}
use Rattle.chw_terms.specs.TermTree.{TermTree, var, global, made, lam, app, ty_lam, ty_app, letrec, con, prim, lit, vec_lit, case_of, Terms, no_terms, term_and, Group, no_bindings, bind, Alts, no_alts, alt, binders, size_of}
use Rattle.chw_terms.specs.TermMoves.{rename, Substitution, up, up_by, under_type, sub, sub_all, sub_group, sub_alts}
use Rattle.chw_terms.specs.Occurs.{occurs, occurs_all, occurs_group, occurs_alts}
use Rattle.chw_terms.proofs.OccursLaws.{occurs_renamed, occurs_retyped}
use Rattle.chw_terms.proofs.TermsPut.{size_put, rename_is_sub}
use Rattle.chw_terms.proofs.Absent.{sub_where}

-- the test holds of a variable for which a term is put in which y occurs
abbrev pub Reaches : (ℕ → Bool) → Substitution → ℕ → Type 0
Reaches P σ y = (x : ℕ) × (P x ≡ true) × (occurs (σ x) y ≡ true)

occurs_raised : (e : TermTree) (y : ℕ) → occurs (rename e suc) (suc y) ≡ occurs e y
occurs_raised e y = occurs_renamed e suc y (suc y) (λ z. eqb-suc-suc z y)

-- through one binder, and through n
from_up : (P : ℕ → Bool) (σ : Substitution) (y : ℕ) → Reaches P (up σ) (suc y) → Reaches (λ x. P (suc x)) σ y
unfolding up occurs
from_up P σ y (zero, p, q) = absurd (true≢false (sym q ∙ eqb-zero-suc y))
from_up P σ y (suc x, p, q) = (x, p, sym (occurs_raised (σ x) y) ∙ q)

to_up : (P : ℕ → Bool) (σ : Substitution) (y : ℕ) → Reaches (λ x. P (suc x)) σ y → Reaches P (up σ) (suc y)
unfolding up
to_up P σ y (x, p, q) = (suc x, p, occurs_raised (σ x) y ∙ q)

from_under : (n : ℕ) (P : ℕ → Bool) (σ : Substitution) (y : ℕ) → Reaches P (up_by n σ) (y + n) → Reaches (λ x. P (x + n)) σ y
unfolding up_by
from_under zero P σ y (x, p, q) =
    let e : x ≡ x + 0 = omega arith in
    let f : y + 0 ≡ y = omega arith in
    (x, subst (λ z. P z ≡ true) e p, subst (λ z. occurs (σ x) z ≡ true) f q)
from_under (suc n) P σ y r = next (from_under n (λ x. P (suc x)) σ y (from_up P (up_by n σ) (y + n) (subst (Reaches P (up (up_by n σ))) e r)))
  where
    e : y + suc n ≡ suc (y + n)
    e = omega arith

    next : Reaches (λ x. P (suc (x + n))) σ y → Reaches (λ x. P (x + suc n)) σ y
    next (x, p, q) = let f : suc (x + n) ≡ x + suc n = omega arith in (x, subst (λ z. P z ≡ true) f p, q)

to_under : (n : ℕ) (P : ℕ → Bool) (σ : Substitution) (y : ℕ) → Reaches (λ x. P (x + n)) σ y → Reaches P (up_by n σ) (y + n)
unfolding up_by
to_under zero P σ y (x, p, q) =
    let e : x + 0 ≡ x = omega arith in
    let f : y ≡ y + 0 = omega arith in
    (x, subst (λ z. P z ≡ true) e p, subst (λ z. occurs (σ x) z ≡ true) f q)
to_under (suc n) P σ y (x, p, q) = subst (Reaches P (up (up_by n σ))) e (to_up P (up_by n σ) (y + n) (to_under n (λ x. P (suc x)) σ y (x, subst (λ z. P z ≡ true) f p, q)))
  where
    e : suc (y + n) ≡ y + suc n
    e = omega arith

    f : x + suc n ≡ suc (x + n)
    f = omega arith

-- through a type binder
from_typed : (P : ℕ → Bool) (σ : Substitution) (y : ℕ) → Reaches P (under_type σ) y → Reaches P σ y
from_typed P σ y (x, p, q) = (x, p, sym (occurs_retyped (σ x) suc y) ∙ q)

to_typed : (P : ℕ → Bool) (σ : Substitution) (y : ℕ) → Reaches P σ y → Reaches P (under_type σ) y
to_typed P σ y (x, p, q) = (x, p, occurs_retyped (σ x) suc y ∙ q)

-- from one of two parts, and in one of two parts
module _ (P Q : ℕ → Bool) (σ : Substitution) (y : ℕ) where
  in_first : Reaches P σ y → Reaches (λ x. P x || Q x) σ y
  in_first (x, p, q) = (x, or_left (P x) (Q x) p, q)

  in_second : Reaches Q σ y → Reaches (λ x. P x || Q x) σ y
  in_second (x, p, q) = (x, or_right (P x) (Q x) p, q)

  either : (a b : Bool) → (a ≡ true → Reaches P σ y) → (b ≡ true → Reaches Q σ y) → (a || b) ≡ true → Reaches (λ x. P x || Q x) σ y
  either a b f g h = ⊎_elim (λ p. in_first (f p)) (λ q. in_second (g q)) (or_cases a b h)

  one_of : (a b : Bool) → (Reaches P σ y → a ≡ true) → (Reaches Q σ y → b ≡ true) → Reaches (λ x. P x || Q x) σ y → (a || b) ≡ true
  one_of a b f g (x, p, q) = ⊎_elim (λ h. or_left a b (f (x, h, q))) (λ h. or_right a b (g (x, h, q))) (or_cases (P x) (Q x) p)

-- a variable that occurs after putting occurs in what is put for one that occurs
mutual
  unfolding sub occurs

  pub reaches_from : (e : TermTree) (σ : Substitution) (y : ℕ) → occurs (sub e σ) y ≡ true → Reaches (occurs e) σ y
  reaches_from (var x) σ y h = (x, eq-eqb x x refl, h)
  reaches_from (global d) σ y h = absurd (true≢false (sym h))
  reaches_from (made m) σ y h = absurd (true≢false (sym h))
  reaches_from (lam t e) σ y h = from_up (occurs e) σ y (reaches_from e (up σ) (suc y) h)
  reaches_from (app f a) σ y h = either (occurs f) (occurs a) σ y (occurs (sub f σ) y) (occurs (sub a σ) y) (reaches_from f σ y) (reaches_from a σ y) h
  reaches_from (ty_lam k e) σ y h = from_typed (occurs e) σ y (reaches_from e (under_type σ) y h)
  reaches_from (ty_app f t) σ y h = reaches_from f σ y h
  reaches_from (letrec g e) σ y h =
      let n = size_of g in
      let w : (occurs_group (sub_group g (up_by n σ)) (y + n) || occurs (sub e (up_by n σ)) (y + n)) ≡ true = ap (λ k. occurs_group (sub_group g (up_by n σ)) (y + k) || occurs (sub e (up_by n σ)) (y + k)) (sym (size_put g (up_by n σ))) ∙ h in
      either (λ x. occurs_group g (x + n)) (λ x. occurs e (x + n)) σ y (occurs_group (sub_group g (up_by n σ)) (y + n)) (occurs (sub e (up_by n σ)) (y + n))
      (λ p. from_under n (occurs_group g) σ y (reaches_from_group g (up_by n σ) (y + n) p))
      (λ p. from_under n (occurs e) σ y (reaches_from e (up_by n σ) (y + n) p))
      w
  reaches_from (con c) σ y h = absurd (true≢false (sym h))
  reaches_from (prim p) σ y h = absurd (true≢false (sym h))
  reaches_from (lit s bs) σ y h = absurd (true≢false (sym h))
  reaches_from (vec_lit t es) σ y h = reaches_from_all es σ y h
  reaches_from (case_of s alts) σ y h = either (occurs s) (occurs_alts alts) σ y (occurs (sub s σ) y) (occurs_alts (sub_alts alts σ) y) (reaches_from s σ y) (reaches_from_alts alts σ y) h

  reaches_from_all : (es : Terms) (σ : Substitution) (y : ℕ) → occurs_all (sub_all es σ) y ≡ true → Reaches (occurs_all es) σ y
  reaches_from_all no_terms σ y h = absurd (true≢false (sym h))
  reaches_from_all (term_and e es) σ y h = either (occurs e) (occurs_all es) σ y (occurs (sub e σ) y) (occurs_all (sub_all es σ) y) (reaches_from e σ y) (reaches_from_all es σ y) h

  reaches_from_group : (g : Group) (σ : Substitution) (y : ℕ) → occurs_group (sub_group g σ) y ≡ true → Reaches (occurs_group g) σ y
  reaches_from_group no_bindings σ y h = absurd (true≢false (sym h))
  reaches_from_group (bind t e g) σ y h = either (occurs e) (occurs_group g) σ y (occurs (sub e σ) y) (occurs_group (sub_group g σ) y) (reaches_from e σ y) (reaches_from_group g σ y) h

  reaches_from_alts : (alts : Alts) (σ : Substitution) (y : ℕ) → occurs_alts (sub_alts alts σ) y ≡ true → Reaches (occurs_alts alts) σ y
  reaches_from_alts no_alts σ y h = absurd (true≢false (sym h))
  reaches_from_alts (alt q e more) σ y h =
      let n = binders q in
      either (λ x. occurs e (x + n)) (occurs_alts more) σ y (occurs (sub e (up_by n σ)) (y + n)) (occurs_alts (sub_alts more σ) y)
      (λ p. from_under n (occurs e) σ y (reaches_from e (up_by n σ) (y + n) p)) (reaches_from_alts more σ y) h

-- and the other way round
mutual
  unfolding sub occurs

  pub reaches_to : (e : TermTree) (σ : Substitution) (y : ℕ) → Reaches (occurs e) σ y → occurs (sub e σ) y ≡ true
  reaches_to (var x) σ y (z, p, q) = subst (λ z. occurs (σ z) y ≡ true) (sym (eqb-true x z p)) q
  reaches_to (global d) σ y (z, p, q) = absurd (true≢false (sym p))
  reaches_to (made m) σ y (z, p, q) = absurd (true≢false (sym p))
  reaches_to (lam t e) σ y r = reaches_to e (up σ) (suc y) (to_up (occurs e) σ y r)
  reaches_to (app f a) σ y r = one_of (occurs f) (occurs a) σ y (occurs (sub f σ) y) (occurs (sub a σ) y) (reaches_to f σ y) (reaches_to a σ y) r
  reaches_to (ty_lam k e) σ y r = reaches_to e (under_type σ) y (to_typed (occurs e) σ y r)
  reaches_to (ty_app f t) σ y r = reaches_to f σ y r
  reaches_to (letrec g e) σ y r =
      let n = size_of g in
      ap (λ k. occurs_group (sub_group g (up_by n σ)) (y + k) || occurs (sub e (up_by n σ)) (y + k)) (size_put g (up_by n σ))
      ∙ one_of (λ x. occurs_group g (x + n)) (λ x. occurs e (x + n)) σ y (occurs_group (sub_group g (up_by n σ)) (y + n)) (occurs (sub e (up_by n σ)) (y + n))
      (λ s. reaches_to_group g (up_by n σ) (y + n) (to_under n (occurs_group g) σ y s))
      (λ s. reaches_to e (up_by n σ) (y + n) (to_under n (occurs e) σ y s))
      r
  reaches_to (con c) σ y (z, p, q) = absurd (true≢false (sym p))
  reaches_to (prim h) σ y (z, p, q) = absurd (true≢false (sym p))
  reaches_to (lit s bs) σ y (z, p, q) = absurd (true≢false (sym p))
  reaches_to (vec_lit t es) σ y r = reaches_to_all es σ y r
  reaches_to (case_of s alts) σ y r = one_of (occurs s) (occurs_alts alts) σ y (occurs (sub s σ) y) (occurs_alts (sub_alts alts σ) y) (reaches_to s σ y) (reaches_to_alts alts σ y) r

  reaches_to_all : (es : Terms) (σ : Substitution) (y : ℕ) → Reaches (occurs_all es) σ y → occurs_all (sub_all es σ) y ≡ true
  reaches_to_all no_terms σ y (z, p, q) = absurd (true≢false (sym p))
  reaches_to_all (term_and e es) σ y r = one_of (occurs e) (occurs_all es) σ y (occurs (sub e σ) y) (occurs_all (sub_all es σ) y) (reaches_to e σ y) (reaches_to_all es σ y) r

  reaches_to_group : (g : Group) (σ : Substitution) (y : ℕ) → Reaches (occurs_group g) σ y → occurs_group (sub_group g σ) y ≡ true
  reaches_to_group no_bindings σ y (z, p, q) = absurd (true≢false (sym p))
  reaches_to_group (bind t e g) σ y r = one_of (occurs e) (occurs_group g) σ y (occurs (sub e σ) y) (occurs_group (sub_group g σ) y) (reaches_to e σ y) (reaches_to_group g σ y) r

  reaches_to_alts : (alts : Alts) (σ : Substitution) (y : ℕ) → Reaches (occurs_alts alts) σ y → occurs_alts (sub_alts alts σ) y ≡ true
  reaches_to_alts no_alts σ y (z, p, q) = absurd (true≢false (sym p))
  reaches_to_alts (alt h e more) σ y r =
      let n = binders h in
      one_of (λ x. occurs e (x + n)) (occurs_alts more) σ y (occurs (sub e (up_by n σ)) (y + n)) (occurs_alts (sub_alts more σ) y)
      (λ s. reaches_to e (up_by n σ) (y + n) (to_under n (occurs e) σ y s)) (reaches_to_alts more σ y) r

pub occurs_put : (e : TermTree) (σ : Substitution) (y : ℕ) → (occurs (sub e σ) y ≡ true) ↔ Reaches (occurs e) σ y
occurs_put e σ y = (reaches_from e σ y, reaches_to e σ y)

-- a renaming puts variables
occurs_var : (x y : ℕ) → (occurs (var x) y ≡ true) ↔ (x ≡ y)
unfolding occurs
occurs_var x y = (eqb-true x y, eq-eqb x y)

pub occurs_brought : (e : TermTree) (ρ : Renaming) (y : ℕ) → (occurs (rename e ρ) y ≡ true) ↔ ((x : ℕ) × (occurs e x ≡ true) × (ρ x ≡ y))
occurs_brought e ρ y = (λ h. forth (reaches_from e σ y (subst (λ u. occurs u y ≡ true) (rename_is_sub e ρ) h)), λ r. subst (λ u. occurs u y ≡ true) (sym (rename_is_sub e ρ)) (reaches_to e σ y (back r)))
  where
    σ : Substitution
    σ = λ x. var (ρ x)

    forth : Reaches (occurs e) σ y → (x : ℕ) × (occurs e x ≡ true) × (ρ x ≡ y)
    forth (x, p, q) = (x, p, (occurs_var (ρ x) y).0 q)

    back : (x : ℕ) × (occurs e x ≡ true) × (ρ x ≡ y) → Reaches (occurs e) σ y
    back (x, p, q) = (x, p, (occurs_var (ρ x) y).1 q)

pub rename_where : (e : TermTree) (ρ π : Renaming) → ((x : ℕ) → occurs e x ≡ true → ρ x ≡ π x) → rename e ρ ≡ rename e π
rename_where e ρ π h = rename_is_sub e ρ ∙ sub_where e (λ x. var (ρ x)) (λ x. var (π x)) (λ x p. ap var (h x p)) ∙ sym (rename_is_sub e π)
