-- The kinds of types that are the same, and of what stands in naturals.
use Rattle.std.proofs.Common.{◌≡◌, ℕ, suc, true, ◌&&◌, ◌⊎◌, inl, inr, refl, sym, ap, ◌∙◌, subst, List}
use Rattle.std.specs.Prelude.{Some}
use Rattle.std.specs.List.{slice_get}
use Rattle.chw_types.specs.declared.kind.Kind.{Kind}
use Rattle.chw_types.specs.declared.kind.Kind.TheVariants.{Nat, Dom, Val, Cir}
use Rattle.chw_types.specs.declared.declarations.Data.{Data}
use Rattle.chw_types.specs.TypeTree.{TypeTree, ty_var, TypeTrees}
use Rattle.chw_types.specs.Kinds.{IsOfTerms, HasFunctions, KindOf, kind_var, kind_nat, kind_sum, kind_product, kind_domain, kind_scalar, kind_vector, kind_data, kind_fun, kind_signal, kind_for_all, KindsOf, no_kinds, kind_and}
use Rattle.chw_types.specs.Polynomials.{is_natural, SameNaturals}
use Rattle.chw_types.specs.SameTypes.{SameTypes, same_naturals, same_sum, same_product, same_domain, same_scalar, same_vector, same_data, same_fun, same_signal, same_for_all}
use Rattle.type_laws.specs.KindsKept.{AreOfTerms}
use Rattle.type_laws.specs.Standing.{StandsIn, InSums, AnyInSums}
use Rattle.type_laws.proofs.Parts.{variable_stands}

-- a variable that stands in a natural has the natural's kind
pub stands_kind : {datas : List Data} {domains : ℕ} {scope : List Kind} {t : TypeTree} {k : Kind} → KindOf datas domains scope t k → (x : ℕ) → StandsIn t x → slice_get scope x ≡ Some k
stands_kind {datas} {domains} (kind_var {scope = scope} {k = k} e) x s = subst (λ y. slice_get scope y ≡ Some k) s e
stands_kind (kind_sum d e small) x (inl s) = stands_kind d x s
stands_kind (kind_sum d e small) x (inr s) = stands_kind e x s
stands_kind (kind_product d e small) x (inl s) = stands_kind d x s
stands_kind (kind_product d e small) x (inr s) = stands_kind e x s
stands_kind kind_nat x s = absurd s
stands_kind (kind_domain l) x s = absurd s
stands_kind (kind_scalar d) x s = absurd s
stands_kind (kind_vector d e o) x s = absurd s
stands_kind (kind_data e ds) x s = absurd s
stands_kind (kind_fun d e o) x s = absurd s
stands_kind (kind_signal d e) x s = absurd s
stands_kind (kind_for_all d o) x s = absurd s

-- what stands in a sum or product has the kind of naturals
mutual
  pub sums_kind : {datas : List Data} {domains : ℕ} {scope : List Kind} {t : TypeTree} {k : Kind} → KindOf datas domains scope t k → (x : ℕ) → InSums t x → slice_get scope x ≡ Some Nat
  sums_kind (kind_sum d e small) x (inl (inl s)) = stands_kind d x s
  sums_kind (kind_sum d e small) x (inl (inr s)) = stands_kind e x s
  sums_kind (kind_sum d e small) x (inr (inl s)) = sums_kind d x s
  sums_kind (kind_sum d e small) x (inr (inr s)) = sums_kind e x s
  sums_kind (kind_product d e small) x (inl (inl s)) = stands_kind d x s
  sums_kind (kind_product d e small) x (inl (inr s)) = stands_kind e x s
  sums_kind (kind_product d e small) x (inr (inl s)) = sums_kind d x s
  sums_kind (kind_product d e small) x (inr (inr s)) = sums_kind e x s
  sums_kind (kind_scalar d) x s = sums_kind d x s
  sums_kind (kind_vector d e o) x (inl s) = sums_kind d x s
  sums_kind (kind_vector d e o) x (inr s) = sums_kind e x s
  sums_kind (kind_data e ds) x s = sums_kinds ds x s
  sums_kind (kind_fun d e o) x (inl s) = sums_kind d x s
  sums_kind (kind_fun d e o) x (inr s) = sums_kind e x s
  sums_kind (kind_signal d e) x (inl s) = sums_kind d x s
  sums_kind (kind_signal d e) x (inr s) = sums_kind e x s
  sums_kind (kind_for_all d o) x s = sums_kind d (suc x) s
  sums_kind (kind_var e) x s = absurd s
  sums_kind kind_nat x s = absurd s
  sums_kind (kind_domain l) x s = absurd s

  pub sums_kinds : {datas : List Data} {domains : ℕ} {scope : List Kind} {ts : TypeTrees} {ks : List Kind} → KindsOf datas domains scope ts ks → (x : ℕ) → AnyInSums ts x → slice_get scope x ≡ Some Nat
  sums_kinds no_kinds x s = absurd s
  sums_kinds (kind_and d ds) x (inl s) = sums_kind d x s
  sums_kinds (kind_and d ds) x (inr s) = sums_kinds ds x s

-- a natural is a variable of its kind, or of the kind of naturals
natural_kind : {datas : List Data} {domains : ℕ} {scope : List Kind} {t : TypeTree} {k : Kind} → KindOf datas domains scope t k → is_natural t ≡ true → ((x : ℕ) × (t ≡ ty_var x) × (slice_get scope x ≡ Some k)) ⊎ (k ≡ Nat)
unfolding is_natural
natural_kind (kind_var {x = x} e) n = inl (x, refl, e)
natural_kind kind_nat n = inr refl
natural_kind (kind_sum d e small) n = inr refl
natural_kind (kind_product d e small) n = inr refl
natural_kind (kind_domain l) n = absurd (cc)
natural_kind (kind_scalar d) n = absurd (cc)
natural_kind (kind_vector d e o) n = absurd (cc)
natural_kind (kind_data e ds) n = absurd (cc)
natural_kind (kind_fun d e o) n = absurd (cc)
natural_kind (kind_signal d e) n = absurd (cc)
natural_kind (kind_for_all d o) n = absurd (cc)

pub one_slot : (scope : List Kind) (x : ℕ) (j k : Kind) → slice_get scope x ≡ Some j → slice_get scope x ≡ Some k → j ≡ k
one_slot scope x j k e f = cc

variable_kind : {datas : List Data} {domains : ℕ} {scope : List Kind} {t u : TypeTree} {j k : Kind} (x : ℕ) → t ≡ ty_var x → slice_get scope x ≡ Some j → KindOf datas domains scope u k → SameNaturals t u → j ≡ k
variable_kind {scope = scope} {u = u} {j = j} {k = k} x e f d p =
    one_slot scope x j k f (stands_kind d x (variable_stands x u (subst (λ t. SameNaturals t u) e p)))

naturals_kind : {datas : List Data} {domains : ℕ} {scope : List Kind} {t u : TypeTree} {j k : Kind} → KindOf datas domains scope t j → KindOf datas domains scope u k → is_natural t ≡ true → is_natural u ≡ true → SameNaturals t u → j ≡ k
naturals_kind d e n m p =
    elim (natural_kind d n) [
      | inl v ↦ variable_kind v.0 v.1 v.2 e p
      | inr v ↦ elim (natural_kind e m) [
        | inl w ↦ sym (variable_kind w.0 w.1 w.2 d (λ k. sym (p k)))
        | inr w ↦ v ∙ sym w
      ]
    ]

data_kind : (datas : List Data) (d : ℕ) (it is : Data) → slice_get datas d ≡ Some it → slice_get datas d ≡ Some is → it.kind ≡ is.kind
data_kind datas d it is e f = let same : it ≡ is = cc in ap (λ (o : Data). o.kind) same

-- types that are the same have one kind
pub same_kind : {datas : List Data} {domains : ℕ} {scope : List Kind} {t u : TypeTree} {j k : Kind} → SameTypes t u → KindOf datas domains scope t j → KindOf datas domains scope u k → j ≡ k
same_kind (same_naturals n m p) d e = naturals_kind d e n m p
same_kind (same_sum h g) (kind_sum a b s) (kind_sum c d r) = refl
same_kind (same_product h g) (kind_product a b s) (kind_product c d r) = refl
same_kind same_domain (kind_domain l) (kind_domain g) = refl
same_kind (same_scalar h) (kind_scalar d) (kind_scalar e) = refl
same_kind (same_vector h g) (kind_vector a b s) (kind_vector c d r) = same_kind g b d
same_kind {datas} (same_data {d = d} h) (kind_data {it = it} e ds) (kind_data {it = is} f es) = data_kind datas d it is e f
same_kind (same_fun h g) (kind_fun a b s) (kind_fun c d r) = same_kind g b d
same_kind (same_signal h g) (kind_signal a b) (kind_signal c d) = refl
same_kind (same_for_all h) (kind_for_all d s) (kind_for_all e r) = same_kind h d e

no_function_to_nat : (j : Kind) → HasFunctions j Nat → ⊥
no_function_to_nat Nat h = h
no_function_to_nat Dom h = h
no_function_to_nat Val h = h
no_function_to_nat Cir h = h

-- over data types of kinds of terms only naturals have the kind of naturals
pub nat_natural : {datas : List Data} {domains : ℕ} {scope : List Kind} {t : TypeTree} {k : Kind} → AreOfTerms datas → KindOf datas domains scope t k → k ≡ Nat → is_natural t ≡ true
unfolding is_natural
nat_natural of (kind_var e) is = refl
nat_natural of kind_nat is = refl
nat_natural of (kind_sum d e small) is = λ i. nat_natural of d refl i && nat_natural of e refl i
nat_natural of (kind_product d e small) is = λ i. nat_natural of d refl i && nat_natural of e refl i
nat_natural of (kind_domain l) is = absurd (cc)
nat_natural of (kind_scalar d) is = absurd (cc)
nat_natural of (kind_vector d e o) is = absurd (subst IsOfTerms is o)
nat_natural of (kind_data {d = d} {it = it} e ds) is = absurd (subst IsOfTerms is (of d it e))
nat_natural of (kind_fun {j = j} d e o) is = absurd (no_function_to_nat j (subst (HasFunctions j) is o))
nat_natural of (kind_signal d e) is = absurd (cc)
nat_natural of (kind_for_all d o) is = absurd (subst IsOfTerms is o)
