-- The same put into the same.
use Rattle.std.proofs.Common.{◌≡◌, ℕ, suc, zero, Bool, true, false, ◌&&◌, ◌⊎◌, inl, inr, refl, sym, ◌∙◌, subst}
use Rattle.std.proofs.lemmas.Bool.{and_parts}
use Rattle.chw_types.specs.TypeTree.{TypeTree, ty_var, nat_lit, nat_sum, nat_product, TypeTrees}
use Rattle.chw_types.specs.TypeMoves.{Renaming, lift, rename, rename_all, Substitution, up, sub, sub_all}
use Rattle.chw_types.specs.Polynomials.{greatest, multiplied, is_natural, SameNaturals}
use Rattle.chw_types.specs.SameTypes.{SameTypes, same_naturals, same_sum, same_product, same_domain, same_scalar, same_vector, same_data, same_fun, same_signal, same_for_all, SameAll, same_none, same_and}
use Rattle.chw_types.proofs.Sums.{agree_append, agree_by_each}
use Rattle.chw_types.proofs.SameLaws.{same_self}
use Rattle.chw_types.proofs.TypeLaws.{rename_sub, sub_ids}
use Rattle.type_laws.specs.Standing.{StandsIn, InSums, AnyInSums}
use Rattle.type_laws.proofs.Filling.{polys_put}
use Rattle.type_laws.proofs.Parts.{variable_stands, variable_or_sum}

-- what is the same as a natural is one
pub natural_as : {t u : TypeTree} → SameTypes t u → is_natural t ≡ is_natural u
unfolding is_natural
natural_as (same_naturals n m h) = n ∙ sym m
natural_as (same_sum h g) = λ i. natural_as h i && natural_as g i
natural_as (same_product h g) = λ i. natural_as h i && natural_as g i
natural_as same_domain = refl
natural_as (same_scalar h) = refl
natural_as (same_vector h g) = refl
natural_as (same_data h) = refl
natural_as (same_fun h g) = refl
natural_as (same_signal h g) = refl
natural_as (same_for_all h) = refl

-- and has its polynomial
pub polys_as : {t u : TypeTree} → SameTypes t u → SameNaturals t u
unfolding multiplied
polys_as (same_naturals n m h) k = h k
polys_as (same_sum {a = a} {b = b} {c = c} {d = d} h g) k = agree_append greatest (multiplied a) (multiplied c) (multiplied b) (multiplied d) (polys_as h) (polys_as g) k
polys_as (same_product {a = a} {b = b} {c = c} {d = d} h g) k = agree_by_each greatest (multiplied a) (multiplied c) (multiplied b) (multiplied d) (polys_as h) (polys_as g) k
polys_as same_domain k = refl
polys_as (same_scalar h) k = refl
polys_as (same_vector h g) k = refl
polys_as (same_data h) k = refl
polys_as (same_fun h g) k = refl
polys_as (same_signal h g) k = refl
polys_as (same_for_all h) k = refl

-- what is put for a variable of the natural is a natural
abbrev PutsNaturals : Substitution → TypeTree → Type 0
PutsNaturals σ t = (y : ℕ) → StandsIn t y → is_natural (σ y) ≡ true

sub_natural : (t : TypeTree) (σ : Substitution) → is_natural t ≡ true → PutsNaturals σ t → is_natural (sub t σ) ≡ true
unfolding is_natural sub
sub_natural (ty_var x) σ n h = h x refl
sub_natural (nat_lit k) σ n h = refl
sub_natural (nat_sum a b) σ n h = let w = and_parts (is_natural a) (is_natural b) n in λ i. sub_natural a σ w.0 (λ y s. h y (inl s)) i && sub_natural b σ w.1 (λ y s. h y (inr s)) i
sub_natural (nat_product a b) σ n h = let w = and_parts (is_natural a) (is_natural b) n in λ i. sub_natural a σ w.0 (λ y s. h y (inl s)) i && sub_natural b σ w.1 (λ y s. h y (inr s)) i
sub_natural _ σ n h = absurd (cc)

abbrev pub SamePuts : Substitution → Substitution → Type 0
SamePuts σ τ = (x : ℕ) → SameTypes (σ x) (τ x)

naturals_put : (a b : TypeTree) (σ τ : Substitution) → is_natural a ≡ true → is_natural b ≡ true → SameNaturals a b → SamePuts σ τ → PutsNaturals σ a → PutsNaturals σ b → SameTypes (sub a σ) (sub b τ)
naturals_put a b σ τ n m p h f g =
    same_naturals (sub_natural a σ n f) (sub_natural b τ m (λ y s. sym (natural_as (h y)) ∙ g y s)) (polys_put a b σ τ p (λ x. polys_as (h x)))

puts_variable : (t : TypeTree) (x : ℕ) (σ : Substitution) → t ≡ ty_var x → is_natural (σ x) ≡ true → PutsNaturals σ t
puts_variable t x σ e n y s =
    let is : x ≡ y = subst (λ t. StandsIn t y) e s in
    subst (λ z. is_natural (σ z) ≡ true) is n

-- both are one variable
variables_put : (a b : TypeTree) (x y : ℕ) (σ τ : Substitution) → a ≡ ty_var x → b ≡ ty_var y → SameNaturals a b → SamePuts σ τ → SameTypes (sub a σ) (sub b τ)
unfolding sub
variables_put a b x y σ τ e f p h =
    let s = variable_stands x b (subst (λ a. SameNaturals a b) e p) in
    let is : y ≡ x = subst (λ b. StandsIn b x) f s in
    subst (λ a. SameTypes (sub a σ) (sub b τ)) (sym e) (subst (λ b. SameTypes (σ x) (sub b τ)) (sym f) (subst (λ z. SameTypes (σ x) (τ z)) (sym is) (h x)))

-- naturals of one polynomial: both are one variable, or all is put into sums and products
same_naturals_put : (a b : TypeTree) (σ τ : Substitution) → is_natural a ≡ true → is_natural b ≡ true → SameNaturals a b → SamePuts σ τ → ((x : ℕ) → InSums a x ⊎ InSums b x → is_natural (σ x) ≡ true) → SameTypes (sub a σ) (sub b τ)
same_naturals_put a b σ τ n m p h f =
    elim (variable_or_sum a n) [
      | inl v ↦ elim (variable_or_sum b m) [
        | inl w ↦ variables_put a b v.0 w.0 σ τ v.1 w.1 p h
        | inr w ↦
            let s = w v.0 (variable_stands v.0 b (subst (λ a. SameNaturals a b) v.1 p)) in
            naturals_put a b σ τ n m p h (puts_variable a v.0 σ v.1 (f v.0 (inr s))) (λ y z. f y (inr (w y z)))
      ]
      | inr v ↦ elim (variable_or_sum b m) [
        | inl w ↦
            let s = v w.0 (variable_stands w.0 a (subst (λ b. SameNaturals b a) w.1 (λ k. sym (p k)))) in
            naturals_put a b σ τ n m p h (λ y z. f y (inl (v y z))) (puts_variable b w.0 σ w.1 (f w.0 (inl s)))
        | inr w ↦ naturals_put a b σ τ n m p h (λ y z. f y (inl (v y z))) (λ y z. f y (inr (w y z)))
      ]
    ]

-- a renaming is a putting of variables
pub renamed_is : (t : TypeTree) (ρ : Renaming) → rename t ρ ≡ sub t (λ x. ty_var (ρ x))
renamed_is t ρ = sym (sub_ids (rename t ρ)) ∙ rename_sub t ρ ty_var

pub natural_renamed : (t : TypeTree) (ρ : Renaming) → is_natural (rename t ρ) ≡ is_natural t
unfolding is_natural rename
natural_renamed (nat_sum a b) ρ = λ i. natural_renamed a ρ i && natural_renamed b ρ i
natural_renamed (nat_product a b) ρ = λ i. natural_renamed a ρ i && natural_renamed b ρ i
natural_renamed (ty_var x) ρ = refl
natural_renamed (nat_lit n) ρ = refl
natural_renamed _ ρ = refl

naturals_renamed : (a b : TypeTree) (ρ : Renaming) → is_natural a ≡ true → is_natural b ≡ true → SameNaturals a b → SameTypes (rename a ρ) (rename b ρ)
unfolding is_natural
naturals_renamed a b ρ n m p =
    let σ : Substitution = λ x. ty_var (ρ x) in
    let put = naturals_put a b σ σ n m p (λ x. same_self (σ x)) (λ y s. refl) (λ y s. refl) in
    subst (λ t. SameTypes t (rename b ρ)) (sym (renamed_is a ρ)) (subst (SameTypes (sub a σ)) (sym (renamed_is b ρ)) put)

-- a renaming keeps types the same
mutual
  unfolding rename

  pub same_renamed : {t u : TypeTree} → SameTypes t u → (ρ : Renaming) → SameTypes (rename t ρ) (rename u ρ)
  same_renamed (same_naturals {a = a} {b = b} n m h) ρ = naturals_renamed a b ρ n m h
  same_renamed (same_sum h g) ρ = same_sum (same_renamed h ρ) (same_renamed g ρ)
  same_renamed (same_product h g) ρ = same_product (same_renamed h ρ) (same_renamed g ρ)
  same_renamed same_domain ρ = same_domain
  same_renamed (same_scalar h) ρ = same_scalar (same_renamed h ρ)
  same_renamed (same_vector h g) ρ = same_vector (same_renamed h ρ) (same_renamed g ρ)
  same_renamed (same_data h) ρ = same_data (all_renamed h ρ)
  same_renamed (same_fun h g) ρ = same_fun (same_renamed h ρ) (same_renamed g ρ)
  same_renamed (same_signal h g) ρ = same_signal (same_renamed h ρ) (same_renamed g ρ)
  same_renamed (same_for_all h) ρ = same_for_all (same_renamed h (lift ρ))

  pub all_renamed : {ts us : TypeTrees} → SameAll ts us → (ρ : Renaming) → SameAll (rename_all ts ρ) (rename_all us ρ)
  all_renamed same_none ρ = same_none
  all_renamed (same_and h hs) ρ = same_and (same_renamed h ρ) (all_renamed hs ρ)

pub same_under : (σ τ : Substitution) → SamePuts σ τ → SamePuts (up σ) (up τ)
unfolding up
same_under σ τ h zero = same_self (ty_var zero)
same_under σ τ h (suc x) = same_renamed (h x) suc

-- what comes into a sum or product under a binder is a natural
fits_under : (σ : Substitution) (t u : TypeTree) → ((x : ℕ) → InSums t (suc x) ⊎ InSums u (suc x) → is_natural (σ x) ≡ true) → (x : ℕ) → InSums t x ⊎ InSums u x → is_natural (up σ x) ≡ true
unfolding up is_natural
fits_under σ t u f zero s = refl
fits_under σ t u f (suc x) s = natural_renamed (σ x) suc ∙ f x s

first : {P Q R S : ℕ → Type 0} (σ : Substitution) → ((x : ℕ) → (P x ⊎ Q x) ⊎ (R x ⊎ S x) → is_natural (σ x) ≡ true) → (x : ℕ) → P x ⊎ R x → is_natural (σ x) ≡ true
first σ f x (inl p) = f x (inl (inl p))
first σ f x (inr r) = f x (inr (inl r))

second : {P Q R S : ℕ → Type 0} (σ : Substitution) → ((x : ℕ) → (P x ⊎ Q x) ⊎ (R x ⊎ S x) → is_natural (σ x) ≡ true) → (x : ℕ) → Q x ⊎ S x → is_natural (σ x) ≡ true
second σ f x (inl q) = f x (inl (inr q))
second σ f x (inr s) = f x (inr (inr s))

-- the same put into the same
mutual
  unfolding sub

  pub same_put : {t u : TypeTree} → SameTypes t u → (σ τ : Substitution) → SamePuts σ τ → ((x : ℕ) → InSums t x ⊎ InSums u x → is_natural (σ x) ≡ true) → SameTypes (sub t σ) (sub u τ)
  same_put (same_naturals {a = a} {b = b} n m p) σ τ h f = same_naturals_put a b σ τ n m p h f
  same_put (same_sum {a = a} {b = b} {c = c} {d = d} k l) σ τ h f =
      let g = second {P = λ x. StandsIn a x ⊎ StandsIn b x} {Q = λ x. InSums a x ⊎ InSums b x} {R = λ x. StandsIn c x ⊎ StandsIn d x} {S = λ x. InSums c x ⊎ InSums d x} σ f in
      same_sum
      (same_put k σ τ h (first {P = InSums a} {Q = InSums b} {R = InSums c} {S = InSums d} σ g))
      (same_put l σ τ h (second {P = InSums a} {Q = InSums b} {R = InSums c} {S = InSums d} σ g))
  same_put (same_product {a = a} {b = b} {c = c} {d = d} k l) σ τ h f =
      let g = second {P = λ x. StandsIn a x ⊎ StandsIn b x} {Q = λ x. InSums a x ⊎ InSums b x} {R = λ x. StandsIn c x ⊎ StandsIn d x} {S = λ x. InSums c x ⊎ InSums d x} σ f in
      same_product
      (same_put k σ τ h (first {P = InSums a} {Q = InSums b} {R = InSums c} {S = InSums d} σ g))
      (same_put l σ τ h (second {P = InSums a} {Q = InSums b} {R = InSums c} {S = InSums d} σ g))
  same_put same_domain σ τ h f = same_domain
  same_put (same_scalar k) σ τ h f = same_scalar (same_put k σ τ h f)
  same_put (same_vector {n = n} {m = m} {t = t} {u = u} k l) σ τ h f =
      same_vector
      (same_put k σ τ h (first {P = InSums n} {Q = InSums t} {R = InSums m} {S = InSums u} σ f))
      (same_put l σ τ h (second {P = InSums n} {Q = InSums t} {R = InSums m} {S = InSums u} σ f))
  same_put (same_data k) σ τ h f = same_data (all_put k σ τ h f)
  same_put (same_fun {a = a} {b = b} {c = c} {d = d} k l) σ τ h f =
      same_fun
      (same_put k σ τ h (first {P = InSums a} {Q = InSums b} {R = InSums c} {S = InSums d} σ f))
      (same_put l σ τ h (second {P = InSums a} {Q = InSums b} {R = InSums c} {S = InSums d} σ f))
  same_put (same_signal {d = d} {e = e} {t = t} {u = u} k l) σ τ h f =
      same_signal
      (same_put k σ τ h (first {P = InSums d} {Q = InSums t} {R = InSums e} {S = InSums u} σ f))
      (same_put l σ τ h (second {P = InSums d} {Q = InSums t} {R = InSums e} {S = InSums u} σ f))
  same_put (same_for_all {t = t} {u = u} k) σ τ h f = same_for_all (same_put k (up σ) (up τ) (same_under σ τ h) (fits_under σ t u f))

  pub all_put : {ts us : TypeTrees} → SameAll ts us → (σ τ : Substitution) → SamePuts σ τ → ((x : ℕ) → AnyInSums ts x ⊎ AnyInSums us x → is_natural (σ x) ≡ true) → SameAll (sub_all ts σ) (sub_all us τ)
  all_put same_none σ τ h f = same_none
  all_put (same_and {t = t} {u = u} {ts = ts} {us = us} k ks) σ τ h f =
      same_and
      (same_put k σ τ h (first {P = InSums t} {Q = AnyInSums ts} {R = InSums u} {S = AnyInSums us} σ f))
      (all_put ks σ τ h (second {P = InSums t} {Q = AnyInSums ts} {R = InSums u} {S = AnyInSums us} σ f))
