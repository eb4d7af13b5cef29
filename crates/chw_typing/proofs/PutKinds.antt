-- Types into which others of the variables' kinds were put, where a natural may have come to have too great a degree: which variables stand in
-- them, and the kind of what is the same.
use Rattle.std.proofs.Common.{◌≡◌, ℕ, suc, true, inl, inr, refl, sym, ap, List, ◌∷◌}
use Rattle.std.specs.Prelude.{Some}
use Rattle.std.specs.List.{slice_get}
use Rattle.chw_types.specs.declared.kind.Kind.{Kind}
use Rattle.chw_types.specs.declared.kind.Kind.TheVariants.{Nat, Val, Cir}
use Rattle.chw_types.specs.declared.kind.Scalar.{Scalar}
use Rattle.chw_types.specs.declared.declarations.Data.{Data}
use Rattle.chw_types.specs.TypeTree.{TypeTree, nat_sum, nat_product, scalar, vector, data_of, fun, signal, for_all, TypeTrees}
use Rattle.chw_types.specs.TypeMoves.{Substitution, up, sub, sub_all}
use Rattle.chw_types.specs.Kinds.{KindOf, kind_var, kind_nat, kind_sum, kind_product, kind_domain, kind_scalar, kind_vector, kind_data, kind_fun, kind_signal, kind_for_all, KindsOf, no_kinds, kind_and}
use Rattle.chw_types.specs.Polynomials.{is_natural, SameNaturals}
use Rattle.chw_types.specs.SameTypes.{SameTypes, same_naturals, same_sum, same_product, same_scalar, same_vector, same_data, same_fun, same_signal, same_for_all}
use Rattle.type_laws.specs.Standing.{StandsIn, InSums, AnyInSums}
use Rattle.type_laws.proofs.KindsExact.{PutsKinds, kinds_under}
use Rattle.type_laws.proofs.OneKind.{stands_kind, sums_kind, one_slot, same_kind}
use Rattle.type_laws.proofs.Parts.{variable_stands}

stands_put : {datas : List Data} {domains : ℕ} {scope : List Kind} {t : TypeTree} {k : Kind} → KindOf datas domains scope t k → (σ : Substitution) (scope' : List Kind) → PutsKinds datas domains σ scope scope' → (y : ℕ) → StandsIn (sub t σ) y → slice_get scope' y ≡ Some k
unfolding sub
stands_put (kind_var {x = x} {k = k} e) σ scope' h y s = stands_kind (h x k e) y s
stands_put (kind_sum d e small) σ scope' h y (inl s) = stands_put d σ scope' h y s
stands_put (kind_sum d e small) σ scope' h y (inr s) = stands_put e σ scope' h y s
stands_put (kind_product d e small) σ scope' h y (inl s) = stands_put d σ scope' h y s
stands_put (kind_product d e small) σ scope' h y (inr s) = stands_put e σ scope' h y s
stands_put kind_nat σ scope' h y s = absurd s
stands_put (kind_domain l) σ scope' h y s = absurd s
stands_put (kind_scalar d) σ scope' h y s = absurd s
stands_put (kind_vector d e o) σ scope' h y s = absurd s
stands_put (kind_data e ds) σ scope' h y s = absurd s
stands_put (kind_fun d e o) σ scope' h y s = absurd s
stands_put (kind_signal d e) σ scope' h y s = absurd s
stands_put (kind_for_all d o) σ scope' h y s = absurd s

-- what stands in a sum or product has the kind of naturals
abbrev pub SumsAreNat : List Kind → TypeTree → Type 0
SumsAreNat scope t = (y : ℕ) → InSums t y → slice_get scope y ≡ Some Nat

mutual
  unfolding sub

  pub sums_put : {datas : List Data} {domains : ℕ} {scope : List Kind} {t : TypeTree} {k : Kind} → KindOf datas domains scope t k → (σ : Substitution) (scope' : List Kind) → PutsKinds datas domains σ scope scope' → (y : ℕ) → InSums (sub t σ) y → slice_get scope' y ≡ Some Nat
  sums_put (kind_var {x = x} {k = k} e) σ scope' h y s = sums_kind (h x k e) y s
  sums_put (kind_sum d e small) σ scope' h y (inl (inl s)) = stands_put d σ scope' h y s
  sums_put (kind_sum d e small) σ scope' h y (inl (inr s)) = stands_put e σ scope' h y s
  sums_put (kind_sum d e small) σ scope' h y (inr (inl s)) = sums_put d σ scope' h y s
  sums_put (kind_sum d e small) σ scope' h y (inr (inr s)) = sums_put e σ scope' h y s
  sums_put (kind_product d e small) σ scope' h y (inl (inl s)) = stands_put d σ scope' h y s
  sums_put (kind_product d e small) σ scope' h y (inl (inr s)) = stands_put e σ scope' h y s
  sums_put (kind_product d e small) σ scope' h y (inr (inl s)) = sums_put d σ scope' h y s
  sums_put (kind_product d e small) σ scope' h y (inr (inr s)) = sums_put e σ scope' h y s
  sums_put (kind_scalar d) σ scope' h y s = sums_put d σ scope' h y s
  sums_put (kind_vector d e o) σ scope' h y (inl s) = sums_put d σ scope' h y s
  sums_put (kind_vector d e o) σ scope' h y (inr s) = sums_put e σ scope' h y s
  sums_put (kind_data e ds) σ scope' h y s = any_sums_put ds σ scope' h y s
  sums_put (kind_fun d e o) σ scope' h y (inl s) = sums_put d σ scope' h y s
  sums_put (kind_fun d e o) σ scope' h y (inr s) = sums_put e σ scope' h y s
  sums_put (kind_signal d e) σ scope' h y (inl s) = sums_put d σ scope' h y s
  sums_put (kind_signal d e) σ scope' h y (inr s) = sums_put e σ scope' h y s
  sums_put {datas} {domains} (kind_for_all {scope = scope} {j = j} d o) σ scope' h y s = sums_put d (up σ) (j ∷ scope') (kinds_under datas domains σ scope scope' j h) (suc y) s
  sums_put kind_nat σ scope' h y s = absurd s
  sums_put (kind_domain l) σ scope' h y s = absurd s

  pub any_sums_put : {datas : List Data} {domains : ℕ} {scope : List Kind} {ts : TypeTrees} {ks : List Kind} → KindsOf datas domains scope ts ks → (σ : Substitution) (scope' : List Kind) → PutsKinds datas domains σ scope scope' → (y : ℕ) → AnyInSums (sub_all ts σ) y → slice_get scope' y ≡ Some Nat
  any_sums_put no_kinds σ scope' h y s = absurd s
  any_sums_put (kind_and d ds) σ scope' h y (inl s) = sums_put d σ scope' h y s
  any_sums_put (kind_and d ds) σ scope' h y (inr s) = any_sums_put ds σ scope' h y s

-- a natural whose polynomial is one in variables of the kind of naturals has that kind
nat_kind : {datas : List Data} {domains : ℕ} {scope : List Kind} {u : TypeTree} {i : Kind} → KindOf datas domains scope u i → is_natural u ≡ true → (w : TypeTree) → SameNaturals w u → ((y : ℕ) → StandsIn w y → slice_get scope y ≡ Some Nat) → i ≡ Nat
unfolding is_natural
nat_kind {scope = scope} (kind_var {x = x} {k = k} e) n w p h = one_slot scope x k Nat e (h x (variable_stands x w (λ m. sym (p m))))
nat_kind kind_nat n w p h = refl
nat_kind (kind_sum d e small) n w p h = refl
nat_kind (kind_product d e small) n w p h = refl
nat_kind (kind_domain l) n w p h = absurd (cc)
nat_kind (kind_scalar d) n w p h = absurd (cc)
nat_kind (kind_vector d e o) n w p h = absurd (cc)
nat_kind (kind_data e ds) n w p h = absurd (cc)
nat_kind (kind_fun d e o) n w p h = absurd (cc)
nat_kind (kind_signal d e) n w p h = absurd (cc)
nat_kind (kind_for_all d o) n w p h = absurd (cc)

as_sum_kind : {datas : List Data} {domains : ℕ} {scope : List Kind} {a b u : TypeTree} {i : Kind} → SameTypes (nat_sum a b) u → KindOf datas domains scope u i → ((y : ℕ) → StandsIn (nat_sum a b) y → slice_get scope y ≡ Some Nat) → i ≡ Nat
as_sum_kind {a = a} {b = b} (same_naturals n m p) d h = nat_kind d m (nat_sum a b) p h
as_sum_kind (same_sum g k) (kind_sum d e small) h = refl

as_product_kind : {datas : List Data} {domains : ℕ} {scope : List Kind} {a b u : TypeTree} {i : Kind} → SameTypes (nat_product a b) u → KindOf datas domains scope u i → ((y : ℕ) → StandsIn (nat_product a b) y → slice_get scope y ≡ Some Nat) → i ≡ Nat
as_product_kind {a = a} {b = b} (same_naturals n m p) d h = nat_kind d m (nat_product a b) p h
as_product_kind (same_product g k) (kind_product d e small) h = refl

as_scalar_kind : {datas : List Data} {domains : ℕ} {scope : List Kind} {s : Scalar} {w u : TypeTree} {i : Kind} → SameTypes (scalar s w) u → KindOf datas domains scope u i → i ≡ Val
unfolding is_natural
as_scalar_kind (same_naturals n m p) d = absurd (cc)
as_scalar_kind (same_scalar g) (kind_scalar d) = refl

as_vector_kind : {datas : List Data} {domains : ℕ} {scope : List Kind} {n t u : TypeTree} {i : Kind} → SameTypes (vector n t) u → KindOf datas domains scope u i → (v : TypeTree) × SameTypes t v × KindOf datas domains scope v i
unfolding is_natural
as_vector_kind (same_naturals n m p) d = absurd (cc)
as_vector_kind (same_vector {u = v} g k) (kind_vector d e o) = (v, k, e)

as_data_kind : {datas : List Data} {domains : ℕ} {scope : List Kind} {d : ℕ} {ts : TypeTrees} {u : TypeTree} {i : Kind} (it : Data) → slice_get datas d ≡ Some it → SameTypes (data_of d ts) u → KindOf datas domains scope u i → i ≡ it.kind
unfolding is_natural
as_data_kind it e (same_naturals n m p) d = absurd (cc)
as_data_kind it e (same_data g) (kind_data {it = other} f ds) = let is : other ≡ it = cc in ap (λ (o : Data). o.kind) is

as_function_kind : {datas : List Data} {domains : ℕ} {scope : List Kind} {a b u : TypeTree} {i : Kind} → SameTypes (fun a b) u → KindOf datas domains scope u i → (v : TypeTree) × SameTypes b v × KindOf datas domains scope v i
unfolding is_natural
as_function_kind (same_naturals n m p) d = absurd (cc)
as_function_kind (same_fun {d = v} g k) (kind_fun d e o) = (v, k, e)

as_signal_kind : {datas : List Data} {domains : ℕ} {scope : List Kind} {d t u : TypeTree} {i : Kind} → SameTypes (signal d t) u → KindOf datas domains scope u i → i ≡ Cir
unfolding is_natural
as_signal_kind (same_naturals n m p) d = absurd (cc)
as_signal_kind (same_signal g k) (kind_signal d e) = refl

as_bound_kind : {datas : List Data} {domains : ℕ} {scope : List Kind} {j : Kind} {t u : TypeTree} {i : Kind} → SameTypes (for_all j t) u → KindOf datas domains scope u i → (v : TypeTree) × SameTypes t v × KindOf datas domains (j ∷ scope) v i
unfolding is_natural
as_bound_kind (same_naturals n m p) d = absurd (cc)
as_bound_kind (same_for_all {u = v} g) (kind_for_all d o) = (v, g, d)

-- what is the same as a type after types of the variables' kinds were put has the type's kind, if any
pub same_kind_put : {datas : List Data} {domains : ℕ} {scope : List Kind} {t : TypeTree} {k : Kind} → KindOf datas domains scope t k → (σ : Substitution) (scope' : List Kind) → PutsKinds datas domains σ scope scope' → (u : TypeTree) (i : Kind) → SameTypes (sub t σ) u → KindOf datas domains scope' u i → i ≡ k
unfolding sub
same_kind_put (kind_var {x = x} {k = k} e) σ scope' h u i m d = sym (same_kind m (h x k e) d)
same_kind_put kind_nat σ scope' h u i m d = sym (same_kind m kind_nat d)
same_kind_put (kind_sum a b small) σ scope' h u i m d = as_sum_kind m d (λ y s. stands_put (kind_sum a b small) σ scope' h y s)
same_kind_put (kind_product a b small) σ scope' h u i m d = as_product_kind m d (λ y s. stands_put (kind_product a b small) σ scope' h y s)
same_kind_put (kind_domain l) σ scope' h u i m d = sym (same_kind m (kind_domain l) d)
same_kind_put (kind_scalar a) σ scope' h u i m d = as_scalar_kind m d
same_kind_put (kind_vector a b o) σ scope' h u i m d = let at = as_vector_kind m d in same_kind_put b σ scope' h at.0 i at.1 at.2
same_kind_put (kind_data {it = it} e ds) σ scope' h u i m d = as_data_kind it e m d
same_kind_put (kind_fun a b o) σ scope' h u i m d = let at = as_function_kind m d in same_kind_put b σ scope' h at.0 i at.1 at.2
same_kind_put (kind_signal a b) σ scope' h u i m d = as_signal_kind m d
same_kind_put {datas} {domains} (kind_for_all {scope = scope} {j = j} a o) σ scope' h u i m d =
    let at = as_bound_kind m d in
    same_kind_put a (up σ) (j ∷ scope') (kinds_under datas domains σ scope scope' j h) at.0 i at.1 at.2
