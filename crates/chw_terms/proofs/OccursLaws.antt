-- Where variables occur, after renaming and beside types.
use Rattle.std.proofs.Common.{◌≡◌, ℕ, suc, zero, ◌+◌, ◌≤◌, ◌<◌, false, ◌||◌, ◌==◌, refl, sym, ap, ◌∙◌, arith, subst}
use Rattle.std.proofs.Math.Dec.{eqb-suc-suc, eqb-suc-zero, eqb-zero-suc}
use Rattle.chw_types.specs.TypeMoves.{Renaming, lift, lift_by, raised, Substitution as TypeSubstitution, up as up_type}
use Rattle.chw_terms.specs.TermTree.{TermTree, var, global, made, lam, app, ty_lam, ty_app, letrec, con, prim, lit, vec_lit, case_of, Terms, no_terms, term_and, Group, no_bindings, bind, Alts, no_alts, alt, binders, size_of}
use Rattle.chw_terms.specs.TypesMoved.{rename_types, rename_types_all, rename_types_group, rename_types_alts, sub_types, sub_types_all, sub_types_group, sub_types_alts}
use Rattle.chw_terms.specs.TermMoves.{rename, rename_all, rename_group, rename_alts, shift}
use Rattle.chw_terms.specs.Occurs.{occurs, occurs_all, occurs_group, occurs_alts}
use Rattle.chw_terms.proofs.Renamed.{size_renamed, size_retyped}
use Rattle.chw_terms.proofs.TypesPut.{size_typed}

-- a renaming brings x, and nothing else, to y
abbrev pub Brings : Renaming → ℕ → ℕ → Type 0
Brings ρ x y = (z : ℕ) → (ρ z == y) ≡ (z == x)

brings_lift : (ρ : Renaming) (x y : ℕ) → Brings ρ x y → Brings (lift ρ) (suc x) (suc y)
brings_lift ρ x y h zero = eqb-zero-suc y ∙ sym (eqb-zero-suc x)
brings_lift ρ x y h (suc z) = eqb-suc-suc (ρ z) y ∙ h z ∙ sym (eqb-suc-suc z x)

brings_under : (n : ℕ) (ρ : Renaming) (x y : ℕ) → Brings ρ x y → Brings (lift_by n ρ) (x + n) (y + n)
brings_under zero ρ x y h = let e : x ≡ x + 0 = omega arith in let f : y ≡ y + 0 = omega arith in subst (λ v. Brings ρ v (y + 0)) e (subst (λ v. Brings ρ x v) f h)
brings_under (suc n) ρ x y h =
    let e : suc (x + n) ≡ x + suc n = omega arith in
    let f : suc (y + n) ≡ y + suc n = omega arith in
    subst (λ v. Brings (lift (lift_by n ρ)) v (y + suc n)) e (subst (λ v. Brings (lift (lift_by n ρ)) (suc (x + n)) v) f (brings_lift (lift_by n ρ) (x + n) (y + n) (brings_under n ρ x y h)))

-- a variable occurs where a renaming brings it
mutual
  unfolding rename occurs

  pub occurs_renamed : (e : TermTree) (ρ : Renaming) (x y : ℕ) (h : Brings ρ x y) → occurs (rename e ρ) y ≡ occurs e x
  occurs_renamed (var z) ρ x y h = h z
  occurs_renamed (global d) ρ x y h = refl
  occurs_renamed (made m) ρ x y h = refl
  occurs_renamed (lam t e) ρ x y h = occurs_renamed e (lift ρ) (suc x) (suc y) (brings_lift ρ x y h)
  occurs_renamed (app f a) ρ x y h = λ i. occurs_renamed f ρ x y h i || occurs_renamed a ρ x y h i
  occurs_renamed (ty_lam k e) ρ x y h = occurs_renamed e ρ x y h
  occurs_renamed (ty_app f t) ρ x y h = occurs_renamed f ρ x y h
  occurs_renamed (letrec g e) ρ x y h =
      let n = size_of g in
      ap (λ k. occurs_group (rename_group g (lift_by n ρ)) (y + k) || occurs (rename e (lift_by n ρ)) (y + k)) (size_renamed g (lift_by n ρ))
      ∙ (λ i. occurs_renamed_group g (lift_by n ρ) (x + n) (y + n) (brings_under n ρ x y h) i || occurs_renamed e (lift_by n ρ) (x + n) (y + n) (brings_under n ρ x y h) i)
  occurs_renamed (con c) ρ x y h = refl
  occurs_renamed (prim p) ρ x y h = refl
  occurs_renamed (lit s bs) ρ x y h = refl
  occurs_renamed (vec_lit t es) ρ x y h = occurs_renamed_all es ρ x y h
  occurs_renamed (case_of s alts) ρ x y h = λ i. occurs_renamed s ρ x y h i || occurs_renamed_alts alts ρ x y h i

  pub occurs_renamed_all : (es : Terms) (ρ : Renaming) (x y : ℕ) (h : Brings ρ x y) → occurs_all (rename_all es ρ) y ≡ occurs_all es x
  occurs_renamed_all no_terms ρ x y h = refl
  occurs_renamed_all (term_and e es) ρ x y h = λ i. occurs_renamed e ρ x y h i || occurs_renamed_all es ρ x y h i

  pub occurs_renamed_group : (g : Group) (ρ : Renaming) (x y : ℕ) (h : Brings ρ x y) → occurs_group (rename_group g ρ) y ≡ occurs_group g x
  occurs_renamed_group no_bindings ρ x y h = refl
  occurs_renamed_group (bind t e g) ρ x y h = λ i. occurs_renamed e ρ x y h i || occurs_renamed_group g ρ x y h i

  pub occurs_renamed_alts : (alts : Alts) (ρ : Renaming) (x y : ℕ) (h : Brings ρ x y) → occurs_alts (rename_alts alts ρ) y ≡ occurs_alts alts x
  occurs_renamed_alts no_alts ρ x y h = refl
  occurs_renamed_alts (alt q e more) ρ x y h = λ i. (occurs_renamed e (lift_by (binders q) ρ) (x + binders q) (y + binders q) (brings_under (binders q) ρ x y h)) i || occurs_renamed_alts more ρ x y h i

-- a renaming brings nothing to y
abbrev pub Misses : Renaming → ℕ → Type 0
Misses ρ y = (z : ℕ) → (ρ z == y) ≡ false

misses_lift : (ρ : Renaming) (y : ℕ) → Misses ρ y → Misses (lift ρ) (suc y)
misses_lift ρ y h zero = eqb-zero-suc y
misses_lift ρ y h (suc z) = eqb-suc-suc (ρ z) y ∙ h z

misses_under : (n : ℕ) (ρ : Renaming) (y : ℕ) → Misses ρ y → Misses (lift_by n ρ) (y + n)
misses_under zero ρ y h = let f : y ≡ y + 0 = omega arith in subst (λ v. Misses ρ v) f h
misses_under (suc n) ρ y h =
    let f : suc (y + n) ≡ y + suc n = omega arith in
    subst (λ v. Misses (lift (lift_by n ρ)) v) f (misses_lift (lift_by n ρ) (y + n) (misses_under n ρ y h))

-- and doesn't where a renaming brings nothing
mutual
  unfolding rename occurs

  pub occurs_missed : (e : TermTree) (ρ : Renaming) (y : ℕ) (h : Misses ρ y) → occurs (rename e ρ) y ≡ false
  occurs_missed (var x) ρ y h = h x
  occurs_missed (global d) ρ y h = refl
  occurs_missed (made m) ρ y h = refl
  occurs_missed (lam t e) ρ y h = occurs_missed e (lift ρ) (suc y) (misses_lift ρ y h)
  occurs_missed (app f a) ρ y h = λ i. occurs_missed f ρ y h i || occurs_missed a ρ y h i
  occurs_missed (ty_lam k e) ρ y h = occurs_missed e ρ y h
  occurs_missed (ty_app f t) ρ y h = occurs_missed f ρ y h
  occurs_missed (letrec g e) ρ y h =
      let n = size_of g in
      ap (λ k. occurs_group (rename_group g (lift_by n ρ)) (y + k) || occurs (rename e (lift_by n ρ)) (y + k)) (size_renamed g (lift_by n ρ))
      ∙ (λ i. occurs_missed_group g (lift_by n ρ) (y + n) (misses_under n ρ y h) i || occurs_missed e (lift_by n ρ) (y + n) (misses_under n ρ y h) i)
  occurs_missed (con c) ρ y h = refl
  occurs_missed (prim p) ρ y h = refl
  occurs_missed (lit s bs) ρ y h = refl
  occurs_missed (vec_lit t es) ρ y h = occurs_missed_all es ρ y h
  occurs_missed (case_of s alts) ρ y h = λ i. occurs_missed s ρ y h i || occurs_missed_alts alts ρ y h i

  pub occurs_missed_all : (es : Terms) (ρ : Renaming) (y : ℕ) (h : Misses ρ y) → occurs_all (rename_all es ρ) y ≡ false
  occurs_missed_all no_terms ρ y h = refl
  occurs_missed_all (term_and e es) ρ y h = λ i. occurs_missed e ρ y h i || occurs_missed_all es ρ y h i

  pub occurs_missed_group : (g : Group) (ρ : Renaming) (y : ℕ) (h : Misses ρ y) → occurs_group (rename_group g ρ) y ≡ false
  occurs_missed_group no_bindings ρ y h = refl
  occurs_missed_group (bind t e g) ρ y h = λ i. occurs_missed e ρ y h i || occurs_missed_group g ρ y h i

  pub occurs_missed_alts : (alts : Alts) (ρ : Renaming) (y : ℕ) (h : Misses ρ y) → occurs_alts (rename_alts alts ρ) y ≡ false
  occurs_missed_alts no_alts ρ y h = refl
  occurs_missed_alts (alt q e more) ρ y h = λ i. (occurs_missed e (lift_by (binders q) ρ) (y + binders q) (misses_under (binders q) ρ y h)) i || occurs_missed_alts more ρ y h i

-- beside a renaming of type variables
mutual
  unfolding rename_types occurs

  pub occurs_retyped : (e : TermTree) (π : Renaming) (v : ℕ) → occurs (rename_types e π) v ≡ occurs e v
  occurs_retyped (var x) π v = refl
  occurs_retyped (global d) π v = refl
  occurs_retyped (made m) π v = refl
  occurs_retyped (lam t e) π v = occurs_retyped e π (suc v)
  occurs_retyped (app f a) π v = λ i. occurs_retyped f π v i || occurs_retyped a π v i
  occurs_retyped (ty_lam k e) π v = occurs_retyped e (lift π) v
  occurs_retyped (ty_app f t) π v = occurs_retyped f π v
  occurs_retyped (letrec g e) π v =
      let n = size_of g in
      ap (λ k. occurs_group (rename_types_group g π) (v + k) || occurs (rename_types e π) (v + k)) (size_retyped g π)
      ∙ (λ i. occurs_retyped_group g π (v + n) i || occurs_retyped e π (v + n) i)
  occurs_retyped (con c) π v = refl
  occurs_retyped (prim p) π v = refl
  occurs_retyped (lit s bs) π v = refl
  occurs_retyped (vec_lit t es) π v = occurs_retyped_all es π v
  occurs_retyped (case_of s alts) π v = λ i. occurs_retyped s π v i || occurs_retyped_alts alts π v i

  pub occurs_retyped_all : (es : Terms) (π : Renaming) (v : ℕ) → occurs_all (rename_types_all es π) v ≡ occurs_all es v
  occurs_retyped_all no_terms π v = refl
  occurs_retyped_all (term_and e es) π v = λ i. occurs_retyped e π v i || occurs_retyped_all es π v i

  pub occurs_retyped_group : (g : Group) (π : Renaming) (v : ℕ) → occurs_group (rename_types_group g π) v ≡ occurs_group g v
  occurs_retyped_group no_bindings π v = refl
  occurs_retyped_group (bind t e g) π v = λ i. occurs_retyped e π v i || occurs_retyped_group g π v i

  pub occurs_retyped_alts : (alts : Alts) (π : Renaming) (v : ℕ) → occurs_alts (rename_types_alts alts π) v ≡ occurs_alts alts v
  occurs_retyped_alts no_alts π v = refl
  occurs_retyped_alts (alt q e more) π v = λ i. (occurs_retyped e π (v + binders q)) i || occurs_retyped_alts more π v i

-- and beside a putting of types
mutual
  unfolding sub_types occurs

  pub occurs_typed : (e : TermTree) (τ : TypeSubstitution) (v : ℕ) → occurs (sub_types e τ) v ≡ occurs e v
  occurs_typed (var x) τ v = refl
  occurs_typed (global d) τ v = refl
  occurs_typed (made m) τ v = refl
  occurs_typed (lam t e) τ v = occurs_typed e τ (suc v)
  occurs_typed (app f a) τ v = λ i. occurs_typed f τ v i || occurs_typed a τ v i
  occurs_typed (ty_lam k e) τ v = occurs_typed e (up_type τ) v
  occurs_typed (ty_app f t) τ v = occurs_typed f τ v
  occurs_typed (letrec g e) τ v =
      let n = size_of g in
      ap (λ k. occurs_group (sub_types_group g τ) (v + k) || occurs (sub_types e τ) (v + k)) (size_typed g τ)
      ∙ (λ i. occurs_typed_group g τ (v + n) i || occurs_typed e τ (v + n) i)
  occurs_typed (con c) τ v = refl
  occurs_typed (prim p) τ v = refl
  occurs_typed (lit s bs) τ v = refl
  occurs_typed (vec_lit t es) τ v = occurs_typed_all es τ v
  occurs_typed (case_of s alts) τ v = λ i. occurs_typed s τ v i || occurs_typed_alts alts τ v i

  pub occurs_typed_all : (es : Terms) (τ : TypeSubstitution) (v : ℕ) → occurs_all (sub_types_all es τ) v ≡ occurs_all es v
  occurs_typed_all no_terms τ v = refl
  occurs_typed_all (term_and e es) τ v = λ i. occurs_typed e τ v i || occurs_typed_all es τ v i

  pub occurs_typed_group : (g : Group) (τ : TypeSubstitution) (v : ℕ) → occurs_group (sub_types_group g τ) v ≡ occurs_group g v
  occurs_typed_group no_bindings τ v = refl
  occurs_typed_group (bind t e g) τ v = λ i. occurs_typed e τ v i || occurs_typed_group g τ v i

  pub occurs_typed_alts : (alts : Alts) (τ : TypeSubstitution) (v : ℕ) → occurs_alts (sub_types_alts alts τ) v ≡ occurs_alts alts v
  occurs_typed_alts no_alts τ v = refl
  occurs_typed_alts (alt q e more) τ v = λ i. (occurs_typed e τ (v + binders q)) i || occurs_typed_alts more τ v i

-- numbers raised by as much
eq_plus : (by z x : ℕ) → (z + by == x + by) ≡ (z == x)
eq_plus zero z x = let e : z + 0 ≡ z = omega arith in let f : x + 0 ≡ x = omega arith in λ i. e i == f i
eq_plus (suc by) z x =
    let e : z + suc by ≡ suc (z + by) = omega arith in
    let f : x + suc by ≡ suc (x + by) = omega arith in
    (λ i. e i == f i) ∙ eqb-suc-suc (z + by) (x + by) ∙ eq_plus by z x

brings_raised : (c by x : ℕ) → Brings (raised c by) x (raised c by x)
brings_raised zero by x z = eq_plus by z x
brings_raised (suc c) by zero z = brings_zero z
  where
    brings_zero : (z : ℕ) → (lift (raised c by) z == 0) ≡ (z == 0)
    brings_zero zero = refl
    brings_zero (suc z) = eqb-suc-zero (raised c by z) ∙ sym (eqb-suc-zero z)
brings_raised (suc c) by (suc x) z = brings_lift (raised c by) x (raised c by x) (brings_raised c by x) z

-- numbers that are raised by more
eq_above : (by x z : ℕ) → x < by → (z + by == x) ≡ false
eq_above zero x z h = absurd (omega (arith, h))
eq_above (suc by) zero z h = let e : z + suc by ≡ suc (z + by) = omega arith in ap (λ n. n == 0) e ∙ eqb-suc-zero (z + by)
eq_above (suc by) (suc x) z h = let e : z + suc by ≡ suc (z + by) = omega arith in ap (λ n. n == suc x) e ∙ eqb-suc-suc (z + by) x ∙ eq_above by x z (omega (arith, h))

misses_raised : (c by x : ℕ) → c ≤ x → x < c + by → Misses (raised c by) x
misses_raised zero by x low high z = eq_above by x z (omega (arith, high))
misses_raised (suc c) by zero low high z = absurd (omega (arith, low))
misses_raised (suc c) by (suc x) low high z = misses_lift (raised c by) x (misses_raised c by x (omega (arith, low)) (omega (arith, high))) z

pub occurs_shift : (e : TermTree) (c by x : ℕ) → occurs (shift e c by) (raised c by x) ≡ occurs e x
occurs_shift e c by x = occurs_renamed e (raised c by) x (raised c by x) (brings_raised c by x)

pub absent_shift : (e : TermTree) (c by x : ℕ) → c ≤ x → x < c + by → occurs (shift e c by) x ≡ false
absent_shift e c by x low high = occurs_missed e (raised c by) x (misses_raised c by x low high)
