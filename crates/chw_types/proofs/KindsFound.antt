-- The kind that is found is the kind.
use Rattle.std.proofs.Common.{◌≡◌, ℕ, Bool, true, false, ◌&&◌, refl, sym, ap, ◌∙◌, subst, List, [], ◌∷◌}
use Rattle.std.specs.Prelude.{Option, Some, None}
use Rattle.std.proofs.lemmas.Bool.{and_parts, ltb-true, leb-true, lt-ltb, le-leb}
use Rattle.chw_types.specs.declared.kind.Kind.{Kind}
use Rattle.chw_types.specs.declared.kind.Kind.TheVariants.{Nat, Dom, Val, Cir}
use Rattle.chw_types.specs.declared.declarations.Data.{Data}
use Rattle.chw_types.specs.TypeTree.{TypeTree, ty_var, nat_lit, nat_sum, nat_product, domain, scalar, vector, data_of, fun, signal, for_all, TypeTrees, no_types, type_and}
use Rattle.chw_types.specs.Kinds.{IsOfTerms, HasFunctions, KindOf, kind_var, kind_nat, kind_sum, kind_product, kind_domain, kind_scalar, kind_vector, kind_data, kind_fun, kind_signal, kind_for_all, KindsOf, no_kinds, kind_and, HasNoKind}
use Rattle.chw_types.specs.KindFound.{natural_kind, domain_kind, scalar_kind, vector_kind, function_kind, signal_kind, bound_kind, is_kind, params_of, kind_found, data_kind, are_kinds}

natural_kind_is : (small : Bool) (a b : Option Kind) (k : Kind) → natural_kind small a b ≡ Some k → (small ≡ true) × (a ≡ Some Nat) × (b ≡ Some Nat) × (k ≡ Nat)
natural_kind_is true (Some Nat) (Some Nat) k h = (refl, refl, refl, (cc))
natural_kind_is _ _ _ k h = absurd (cc)

domain_kind_is : (b : Bool) (k : Kind) → domain_kind b ≡ Some k → (b ≡ true) × (k ≡ Dom)
domain_kind_is true k h = (refl, (cc))
domain_kind_is false k h = absurd (cc)

scalar_kind_is : (a : Option Kind) (k : Kind) → scalar_kind a ≡ Some k → (a ≡ Some Nat) × (k ≡ Val)
scalar_kind_is (Some Nat) k h = (refl, (cc))
scalar_kind_is _ k h = absurd (cc)

vector_kind_is : (a b : Option Kind) (k : Kind) → vector_kind a b ≡ Some k → (a ≡ Some Nat) × (b ≡ Some k) × IsOfTerms k
vector_kind_is (Some Nat) (Some Val) k h = let e : Val ≡ k = cc in (refl, h, subst IsOfTerms e tt)
vector_kind_is (Some Nat) (Some Cir) k h = let e : Cir ≡ k = cc in (refl, h, subst IsOfTerms e tt)
vector_kind_is _ _ k h = absurd (cc)

function_kind_is : (a b : Option Kind) (k : Kind) → function_kind a b ≡ Some k → (j : Kind) × (a ≡ Some j) × (b ≡ Some k) × HasFunctions j k
function_kind_is (Some Val) (Some Val) k h = let e : Val ≡ k = cc in (Val, refl, h, subst (HasFunctions Val) e tt)
function_kind_is (Some Val) (Some Cir) k h = let e : Cir ≡ k = cc in (Val, refl, h, subst (HasFunctions Val) e tt)
function_kind_is (Some Cir) (Some Cir) k h = let e : Cir ≡ k = cc in (Cir, refl, h, subst (HasFunctions Cir) e tt)
function_kind_is _ _ k h = absurd (cc)

signal_kind_is : (a b : Option Kind) (k : Kind) → signal_kind a b ≡ Some k → (a ≡ Some Dom) × (b ≡ Some Val) × (k ≡ Cir)
signal_kind_is (Some Dom) (Some Val) k h = (refl, refl, (cc))
signal_kind_is _ _ k h = absurd (cc)

bound_kind_is : (a : Option Kind) (k : Kind) → bound_kind a ≡ Some k → (a ≡ Some k) × IsOfTerms k
bound_kind_is (Some Val) k h = let e : Val ≡ k = cc in (h, subst IsOfTerms e tt)
bound_kind_is (Some Cir) k h = let e : Cir ≡ k = cc in (h, subst IsOfTerms e tt)
bound_kind_is _ k h = absurd (cc)

is_kind_is : (a : Option Kind) (k : Kind) → is_kind a k ≡ true → a ≡ Some k
is_kind_is (Some Nat) Nat h = refl
is_kind_is (Some Dom) Dom h = refl
is_kind_is (Some Val) Val h = refl
is_kind_is (Some Cir) Cir h = refl
is_kind_is _ _ h = cc

data_kind_is : (o : Option Data) (b : Bool) (k : Kind) → data_kind o b ≡ Some k → (it : Data) × (o ≡ Some it) × (b ≡ true) × (it.kind ≡ k)
data_kind_is (Some it) true k h = (it, refl, refl, (cc))
data_kind_is _ _ k h = absurd (cc)

-- what is found is a kind of the type
mutual
  unfolding kind_found

  pub found_is_kind : (datas : List Data) (domains : ℕ) (scope : List Kind) (t : TypeTree) (k : Kind) → kind_found datas domains scope t ≡ Some k → KindOf datas domains scope t k
  found_is_kind datas domains scope (ty_var x) k h = kind_var h
  found_is_kind datas domains scope (nat_lit n) k h = let e : Nat ≡ k = cc in subst (KindOf datas domains scope (nat_lit n)) e kind_nat
  found_is_kind datas domains scope (nat_sum a b) k h =
      let w = natural_kind_is _ _ _ k h in
      subst (KindOf datas domains scope (nat_sum a b)) (sym w.3) (kind_sum (found_is_kind datas domains scope a Nat w.1) (found_is_kind datas domains scope b Nat w.2) (leb-true _ _ w.0))
  found_is_kind datas domains scope (nat_product a b) k h =
      let w = natural_kind_is _ _ _ k h in
      subst (KindOf datas domains scope (nat_product a b)) (sym w.3) (kind_product (found_is_kind datas domains scope a Nat w.1) (found_is_kind datas domains scope b Nat w.2) (leb-true _ _ w.0))
  found_is_kind datas domains scope (domain d) k h =
      let w = domain_kind_is _ k h in
      subst (KindOf datas domains scope (domain d)) (sym w.1) (kind_domain (ltb-true _ _ w.0))
  found_is_kind datas domains scope (scalar s w) k h =
      let e = scalar_kind_is _ k h in
      subst (KindOf datas domains scope (scalar s w)) (sym e.1) (kind_scalar (found_is_kind datas domains scope w Nat e.0))
  found_is_kind datas domains scope (vector n t) k h =
      let e = vector_kind_is _ _ k h in
      kind_vector (found_is_kind datas domains scope n Nat e.0) (found_is_kind datas domains scope t k e.1) e.2
  found_is_kind datas domains scope (data_of d ts) k h =
      let e = data_kind_is _ _ k h in
      let right : are_kinds datas domains scope ts e.0.params ≡ true = sym (ap (λ o. are_kinds datas domains scope ts (params_of o)) e.1) ∙ e.2 in
      subst (KindOf datas domains scope (data_of d ts)) e.3 (kind_data e.1 (found_are_kinds datas domains scope ts e.0.params right))
  found_is_kind datas domains scope (fun a b) k h =
      let e = function_kind_is _ _ k h in
      kind_fun (found_is_kind datas domains scope a e.0 e.1) (found_is_kind datas domains scope b k e.2) e.3
  found_is_kind datas domains scope (signal d t) k h =
      let e = signal_kind_is _ _ k h in
      subst (KindOf datas domains scope (signal d t)) (sym e.2) (kind_signal (found_is_kind datas domains scope d Dom e.0) (found_is_kind datas domains scope t Val e.1))
  found_is_kind datas domains scope (for_all j t) k h =
      let e = bound_kind_is _ k h in
      kind_for_all (found_is_kind datas domains (j ∷ scope) t k e.0) e.1

  pub found_are_kinds : (datas : List Data) (domains : ℕ) (scope : List Kind) (ts : TypeTrees) (ks : List Kind) → are_kinds datas domains scope ts ks ≡ true → KindsOf datas domains scope ts ks
  found_are_kinds datas domains scope no_types [] h = no_kinds
  found_are_kinds datas domains scope (type_and t ts) (k ∷ ks) h =
      let e = and_parts _ _ h in
      kind_and (found_is_kind datas domains scope t k (is_kind_is _ k e.0)) (found_are_kinds datas domains scope ts ks e.1)
  found_are_kinds datas domains scope no_types (k ∷ ks) h = absurd (cc)
  found_are_kinds datas domains scope (type_and t ts) [] h = absurd (cc)

vector_kind_of : (k : Kind) → IsOfTerms k → vector_kind (Some Nat) (Some k) ≡ Some k
vector_kind_of Val h = refl
vector_kind_of Cir h = refl
vector_kind_of Nat h = absurd h
vector_kind_of Dom h = absurd h

bound_kind_of : (k : Kind) → IsOfTerms k → bound_kind (Some k) ≡ Some k
bound_kind_of Val h = refl
bound_kind_of Cir h = refl
bound_kind_of Nat h = absurd h
bound_kind_of Dom h = absurd h

function_kind_of : (j k : Kind) → HasFunctions j k → function_kind (Some j) (Some k) ≡ Some k
function_kind_of Val Val h = refl
function_kind_of Val Cir h = refl
function_kind_of Cir Cir h = refl
function_kind_of _ _ h = absurd h

is_kind_of : (k : Kind) → is_kind (Some k) k ≡ true
is_kind_of Nat = refl
is_kind_of Dom = refl
is_kind_of Val = refl
is_kind_of Cir = refl

-- a kind of the type is what is found
mutual
  unfolding kind_found

  pub kind_is_found : {datas : List Data} {domains : ℕ} {scope : List Kind} {t : TypeTree} {k : Kind} → KindOf datas domains scope t k → kind_found datas domains scope t ≡ Some k
  kind_is_found (kind_var h) = h
  kind_is_found kind_nat = refl
  kind_is_found (kind_sum a b h) = λ i. natural_kind (le-leb _ _ h i) (kind_is_found a i) (kind_is_found b i)
  kind_is_found (kind_product a b h) = λ i. natural_kind (le-leb _ _ h i) (kind_is_found a i) (kind_is_found b i)
  kind_is_found (kind_domain h) = ap domain_kind (lt-ltb _ _ h)
  kind_is_found (kind_scalar w) = ap scalar_kind (kind_is_found w)
  kind_is_found (kind_vector {k = k} n t h) = (λ i. vector_kind (kind_is_found n i) (kind_is_found t i)) ∙ vector_kind_of k h
  kind_is_found {datas} {domains} (kind_data {scope = scope} {it = it} {ts = args} h ts) =
      ap (λ o. data_kind o (are_kinds datas domains scope args (params_of o))) h ∙ ap (data_kind (Some it)) (kinds_are_found ts)
  kind_is_found (kind_fun {j = j} {k = k} a b h) = (λ i. function_kind (kind_is_found a i) (kind_is_found b i)) ∙ function_kind_of j k h
  kind_is_found (kind_signal d t) = λ i. signal_kind (kind_is_found d i) (kind_is_found t i)
  kind_is_found (kind_for_all {k = k} t h) = ap bound_kind (kind_is_found t) ∙ bound_kind_of k h

  pub kinds_are_found : {datas : List Data} {domains : ℕ} {scope : List Kind} {ts : TypeTrees} {ks : List Kind} → KindsOf datas domains scope ts ks → are_kinds datas domains scope ts ks ≡ true
  kinds_are_found no_kinds = refl
  kinds_are_found (kind_and {k = k} {ks = ks} t ts) = (λ i. is_kind (kind_is_found t i) k && kinds_are_found ts i) ∙ ap (λ b. b && true) (is_kind_of k)

-- where nothing is found, there is none
pub none_is_found : (datas : List Data) (domains : ℕ) (scope : List Kind) (t : TypeTree) → kind_found datas domains scope t ≡ None → HasNoKind datas domains scope t
none_is_found datas domains scope t h k it = let e = kind_is_found it in cc

-- a type has one kind
pub one_kind : {datas : List Data} {domains : ℕ} {scope : List Kind} {t : TypeTree} {j k : Kind} → KindOf datas domains scope t j → KindOf datas domains scope t k → j ≡ k
one_kind a b = let e = kind_is_found a in let d = kind_is_found b in cc
