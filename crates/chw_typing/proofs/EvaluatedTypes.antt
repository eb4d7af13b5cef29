-- Evaluating the closed naturals of a type: the same type, of the same kinds.
use Rattle.std.proofs.Common.{◌≡◌, ℕ, ◌+◌, ◌*◌, max, refl, sym, ap, ◌∙◌, subst, List, [], ◌∷◌, arith}
use Rattle.std.specs.Prelude.{Option, Some, None}
use Rattle.chw_types.specs.declared.kind.Kind.{Kind}
use Rattle.chw_types.specs.declared.kind.Kind.TheVariants.{Nat}
use Rattle.chw_types.specs.declared.declarations.Data.{Data}
use Rattle.chw_types.specs.TypeTree.{TypeTree, ty_var, nat_lit, nat_sum, nat_product, domain, scalar, vector, data_of, fun, signal, for_all, TypeTrees, no_types, type_and}
use Rattle.chw_types.specs.Kinds.{degree, KindOf, kind_var, kind_nat, kind_sum, kind_product, kind_domain, kind_scalar, kind_vector, kind_data, kind_fun, kind_signal, kind_for_all, KindsOf, no_kinds, kind_and}
use Rattle.chw_types.specs.Polynomials.{ended, is_natural, multiplied, SameNaturals}
use Rattle.chw_types.specs.SameTypes.{SameTypes, same_naturals, same_sum, same_product, same_domain, same_scalar, same_vector, same_data, same_fun, same_signal, same_for_all, SameAll, same_none, same_and}
use Rattle.chw_types.proofs.SameLaws.{same_self, same_through}
use Rattle.chw_terms.proofs.TypesEvaluated.{numeral_is}
use Rattle.chw_terms.specs.Evaluated.{numeral, numeral_or, evaluated, evaluated_all}

sum_of_numerals : (m n : ℕ) → SameTypes (nat_sum (nat_lit m) (nat_lit n)) (nat_lit (ended (m + n)))
unfolding is_natural multiplied
sum_of_numerals m n = same_naturals refl refl here
  where
    at_one : (m n : ℕ) → ended (m + (n + 0)) ≡ ended (ended (m + n) + 0)
    at_one m n = omega arith

    here : SameNaturals (nat_sum (nat_lit m) (nat_lit n)) (nat_lit (ended (m + n)))
    here [] = at_one m n
    here (x ∷ k) = refl

product_of_numerals : (m n : ℕ) → SameTypes (nat_product (nat_lit m) (nat_lit n)) (nat_lit (ended (m * n)))
unfolding is_natural multiplied
product_of_numerals m n = same_naturals refl refl here
  where
    capped : (k : ℕ) → ended (k + 0) ≡ ended (ended k + 0)
    capped k = omega arith

    here : SameNaturals (nat_product (nat_lit m) (nat_lit n)) (nat_lit (ended (m * n)))
    here [] = capped (m * n)
    here (x ∷ k) = refl

-- what an operation gives on two naturals, by whether they are numerals
added_same : (a b : TypeTree) (m n : Option ℕ) → numeral a ≡ m → numeral b ≡ n → SameTypes (nat_sum a b) (numeral_or (λ m n. m + n) m n (nat_sum a b))
added_same a b (Some m) (Some n) e f =
    subst (λ t. SameTypes (nat_sum t b) (nat_lit (ended (m + n)))) (sym (numeral_is a m e))
    (subst (λ t. SameTypes (nat_sum (nat_lit m) t) (nat_lit (ended (m + n)))) (sym (numeral_is b n f)) (sum_of_numerals m n))
added_same a b (Some m) None e f = same_self (nat_sum a b)
added_same a b None n e f = same_self (nat_sum a b)

multiplied_same : (a b : TypeTree) (m n : Option ℕ) → numeral a ≡ m → numeral b ≡ n → SameTypes (nat_product a b) (numeral_or (λ m n. m * n) m n (nat_product a b))
multiplied_same a b (Some m) (Some n) e f =
    subst (λ t. SameTypes (nat_product t b) (nat_lit (ended (m * n)))) (sym (numeral_is a m e))
    (subst (λ t. SameTypes (nat_product (nat_lit m) t) (nat_lit (ended (m * n)))) (sym (numeral_is b n f)) (product_of_numerals m n))
multiplied_same a b (Some m) None e f = same_self (nat_product a b)
multiplied_same a b None n e f = same_self (nat_product a b)

-- the type is the same as before
mutual
  unfolding evaluated

  pub same_evaluated : (t : TypeTree) → SameTypes t (evaluated t)
  same_evaluated (ty_var x) = same_self (ty_var x)
  same_evaluated (nat_lit n) = same_self (nat_lit n)
  same_evaluated (nat_sum a b) = same_through (same_sum (same_evaluated a) (same_evaluated b)) (added_same (evaluated a) (evaluated b) (numeral (evaluated a)) (numeral (evaluated b)) refl refl)
  same_evaluated (nat_product a b) = same_through (same_product (same_evaluated a) (same_evaluated b)) (multiplied_same (evaluated a) (evaluated b) (numeral (evaluated a)) (numeral (evaluated b)) refl refl)
  same_evaluated (domain d) = same_domain
  same_evaluated (scalar s w) = same_scalar (same_evaluated w)
  same_evaluated (vector n t) = same_vector (same_evaluated n) (same_evaluated t)
  same_evaluated (data_of d ts) = same_data (all_evaluated ts)
  same_evaluated (fun a b) = same_fun (same_evaluated a) (same_evaluated b)
  same_evaluated (signal d t) = same_signal (same_evaluated d) (same_evaluated t)
  same_evaluated (for_all k t) = same_for_all (same_evaluated t)

  pub all_evaluated : (ts : TypeTrees) → SameAll ts (evaluated_all ts)
  all_evaluated no_types = same_none
  all_evaluated (type_and t ts) = same_and (same_evaluated t) (all_evaluated ts)

degree_of_op : (f : ℕ → ℕ → ℕ) (a b t : TypeTree) (m n : Option ℕ) → numeral a ≡ m → numeral b ≡ n → (degree a ≡ 0 → degree b ≡ 0 → degree t ≡ 0) → degree (numeral_or f m n t) ≡ degree t
degree_of_op f a b t (Some m) (Some n) e g h = sym (h (ap degree (numeral_is a m e)) (ap degree (numeral_is b n g)))
degree_of_op f a b t (Some m) None e g h = refl
degree_of_op f a b t None n e g h = refl

-- the degree is as before
pub degree_evaluated : (t : TypeTree) → degree (evaluated t) ≡ degree t
unfolding evaluated
degree_evaluated (nat_sum a b) =
    degree_of_op (λ m n. m + n) (evaluated a) (evaluated b) (nat_sum (evaluated a) (evaluated b)) (numeral (evaluated a)) (numeral (evaluated b)) refl refl (λ e f. none e f)
    ∙ (λ i. max (degree_evaluated a i) (degree_evaluated b i))
  where
    none : degree (evaluated a) ≡ 0 → degree (evaluated b) ≡ 0 → max (degree (evaluated a)) (degree (evaluated b)) ≡ 0
    none e f = λ i. max (e i) (f i)
degree_evaluated (nat_product a b) =
    degree_of_op (λ m n. m * n) (evaluated a) (evaluated b) (nat_product (evaluated a) (evaluated b)) (numeral (evaluated a)) (numeral (evaluated b)) refl refl (λ e f. none e f)
    ∙ (λ i. degree_evaluated a i + degree_evaluated b i)
  where
    none : degree (evaluated a) ≡ 0 → degree (evaluated b) ≡ 0 → degree (evaluated a) + degree (evaluated b) ≡ 0
    none e f = λ i. e i + f i
degree_evaluated (ty_var x) = refl
degree_evaluated (nat_lit n) = refl
degree_evaluated (domain d) = refl
degree_evaluated (scalar s w) = refl
degree_evaluated (vector n t) = refl
degree_evaluated (data_of d ts) = refl
degree_evaluated (fun a b) = refl
degree_evaluated (signal d t) = refl
degree_evaluated (for_all k t) = refl

op_kind : {datas : List Data} {domains : ℕ} {scope : List Kind} (f : ℕ → ℕ → ℕ) (m n : Option ℕ) (t : TypeTree) → KindOf datas domains scope t Nat → KindOf datas domains scope (numeral_or f m n t) Nat
op_kind f (Some m) (Some n) t d = kind_nat
op_kind f (Some m) None t d = d
op_kind f None n t d = d

-- the kind is kept
mutual
  unfolding evaluated

  pub kind_evaluated : {datas : List Data} {domains : ℕ} {scope : List Kind} {t : TypeTree} {k : Kind} → KindOf datas domains scope t k → KindOf datas domains scope (evaluated t) k
  kind_evaluated (kind_var e) = kind_var e
  kind_evaluated kind_nat = kind_nat
  kind_evaluated (kind_sum {a = a} {b = b} d e small) =
      op_kind (λ m n. m + n) (numeral (evaluated a)) (numeral (evaluated b)) (nat_sum (evaluated a) (evaluated b))
      (kind_sum (kind_evaluated d) (kind_evaluated e) (omega (arith, degree_evaluated a, degree_evaluated b, small)))
  kind_evaluated (kind_product {a = a} {b = b} d e small) =
      op_kind (λ m n. m * n) (numeral (evaluated a)) (numeral (evaluated b)) (nat_product (evaluated a) (evaluated b))
      (kind_product (kind_evaluated d) (kind_evaluated e) (omega (arith, degree_evaluated a, degree_evaluated b, small)))
  kind_evaluated (kind_domain l) = kind_domain l
  kind_evaluated (kind_scalar d) = kind_scalar (kind_evaluated d)
  kind_evaluated (kind_vector d e o) = kind_vector (kind_evaluated d) (kind_evaluated e) o
  kind_evaluated (kind_data e ds) = kind_data e (kinds_evaluated ds)
  kind_evaluated (kind_fun d e o) = kind_fun (kind_evaluated d) (kind_evaluated e) o
  kind_evaluated (kind_signal d e) = kind_signal (kind_evaluated d) (kind_evaluated e)
  kind_evaluated (kind_for_all d o) = kind_for_all (kind_evaluated d) o

  pub kinds_evaluated : {datas : List Data} {domains : ℕ} {scope : List Kind} {ts : TypeTrees} {ks : List Kind} → KindsOf datas domains scope ts ks → KindsOf datas domains scope (evaluated_all ts) ks
  kinds_evaluated no_kinds = no_kinds
  kinds_evaluated (kind_and d ds) = kind_and (kind_evaluated d) (kinds_evaluated ds)
