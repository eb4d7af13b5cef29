-- Laws of evaluating the closed naturals of types.
use Rattle.std.proofs.Common.{◌≡◌, ℕ, suc, zero, ◌+◌, ◌*◌, ◌≤◌, take, List, [], ◌∷◌, map, length, Option, Some, None, refl, sym, ap, ◌∙◌}
use Rattle.chw_types.specs.TypeTree.{TypeTree, ty_var, nat_lit, nat_sum, nat_product, domain, scalar, vector, data_of, fun, signal, for_all, TypeTrees, no_types, type_and}
use Rattle.std.proofs.lemmas.List.{take_all}
use Rattle.chw_types.specs.TypeView.{trees_of}
use Rattle.chw_types.specs.TypeMoves.{Renaming, lift, rename, rename_all, Substitution, up, sub, sub_all}
use Rattle.chw_types.proofs.TypeLaws.{same, sub_ids}
use Rattle.chw_terms.specs.Evaluated.{numeral, numeral_or, added, multiplied_by, evaluated, evaluated_all}

numeral_renamed : (t : TypeTree) (ρ : Renaming) → numeral (rename t ρ) ≡ numeral t
unfolding rename
numeral_renamed (ty_var x) ρ = refl
numeral_renamed (nat_lit n) ρ = refl
numeral_renamed (nat_sum a b) ρ = refl
numeral_renamed (nat_product a b) ρ = refl
numeral_renamed (domain d) ρ = refl
numeral_renamed (scalar s w) ρ = refl
numeral_renamed (vector n t) ρ = refl
numeral_renamed (data_of d ts) ρ = refl
numeral_renamed (fun a b) ρ = refl
numeral_renamed (signal d t) ρ = refl
numeral_renamed (for_all k t) ρ = refl

or_renamed : (f : ℕ → ℕ → ℕ) (m n : Option ℕ) (t : TypeTree) (ρ : Renaming) → numeral_or f m n (rename t ρ) ≡ rename (numeral_or f m n t) ρ
unfolding rename
or_renamed f (Some m) (Some n) t ρ = refl
or_renamed f (Some m) None t ρ = refl
or_renamed f None n t ρ = refl

added_renamed : (a b : TypeTree) (ρ : Renaming) → added (rename a ρ) (rename b ρ) ≡ rename (added a b) ρ
unfolding rename
added_renamed a b ρ =
    (λ i. numeral_or (λ m n. m + n) (numeral_renamed a ρ i) (numeral_renamed b ρ i) (rename (nat_sum a b) ρ))
    ∙ or_renamed (λ m n. m + n) (numeral a) (numeral b) (nat_sum a b) ρ

multiplied_renamed : (a b : TypeTree) (ρ : Renaming) → multiplied_by (rename a ρ) (rename b ρ) ≡ rename (multiplied_by a b) ρ
unfolding rename
multiplied_renamed a b ρ =
    (λ i. numeral_or (λ m n. m * n) (numeral_renamed a ρ i) (numeral_renamed b ρ i) (rename (nat_product a b) ρ))
    ∙ or_renamed (λ m n. m * n) (numeral a) (numeral b) (nat_product a b) ρ

mutual
  unfolding rename evaluated

  pub evaluated_renamed : (t : TypeTree) (ρ : Renaming) → evaluated (rename t ρ) ≡ rename (evaluated t) ρ
  evaluated_renamed (ty_var x) ρ = refl
  evaluated_renamed (nat_lit n) ρ = refl
  evaluated_renamed (nat_sum a b) ρ = (λ i. added (evaluated_renamed a ρ i) (evaluated_renamed b ρ i)) ∙ added_renamed (evaluated a) (evaluated b) ρ
  evaluated_renamed (nat_product a b) ρ = (λ i. multiplied_by (evaluated_renamed a ρ i) (evaluated_renamed b ρ i)) ∙ multiplied_renamed (evaluated a) (evaluated b) ρ
  evaluated_renamed (domain d) ρ = refl
  evaluated_renamed (scalar s w) ρ = ap (scalar s) (evaluated_renamed w ρ)
  evaluated_renamed (vector n t) ρ = λ i. vector (evaluated_renamed n ρ i) (evaluated_renamed t ρ i)
  evaluated_renamed (data_of d ts) ρ = ap (data_of d) (evaluated_renamed_all ts ρ)
  evaluated_renamed (fun a b) ρ = λ i. fun (evaluated_renamed a ρ i) (evaluated_renamed b ρ i)
  evaluated_renamed (signal d t) ρ = λ i. signal (evaluated_renamed d ρ i) (evaluated_renamed t ρ i)
  evaluated_renamed (for_all k t) ρ = ap (for_all k) (evaluated_renamed t (lift ρ))

  pub evaluated_renamed_all : (ts : TypeTrees) (ρ : Renaming) → evaluated_all (rename_all ts ρ) ≡ rename_all (evaluated_all ts) ρ
  evaluated_renamed_all no_types ρ = refl
  evaluated_renamed_all (type_and t ts) ρ = λ i. type_and (evaluated_renamed t ρ i) (evaluated_renamed_all ts ρ i)

-- only numerals have a number
pub numeral_is : (t : TypeTree) (n : ℕ) → numeral t ≡ Some n → t ≡ nat_lit n
numeral_is (ty_var x) n h = cc
numeral_is (nat_lit m) n h = let e : m ≡ n = cc in ap nat_lit e
numeral_is (nat_sum a b) n h = cc
numeral_is (nat_product a b) n h = cc
numeral_is (domain d) n h = cc
numeral_is (scalar s w) n h = cc
numeral_is (vector m t) n h = cc
numeral_is (data_of d ts) n h = cc
numeral_is (fun a b) n h = cc
numeral_is (signal d t) n h = cc
numeral_is (for_all k t) n h = cc

-- what is put into a sum that was evaluated
sum_put : (a b : TypeTree) (τ : Substitution) (m n : Option ℕ) → numeral a ≡ m → numeral b ≡ n → evaluated (sub (numeral_or (λ m n. m + n) m n (nat_sum a b)) τ) ≡ added (evaluated (sub a τ)) (evaluated (sub b τ))
unfolding sub evaluated
sum_put a b τ (Some m) (Some n) p q =
    λ i. added (evaluated (sub (sym (numeral_is a m p) i) τ)) (evaluated (sub (sym (numeral_is b n q) i) τ))
sum_put a b τ (Some m) None p q = refl
sum_put a b τ None n p q = refl

product_put : (a b : TypeTree) (τ : Substitution) (m n : Option ℕ) → numeral a ≡ m → numeral b ≡ n → evaluated (sub (numeral_or (λ m n. m * n) m n (nat_product a b)) τ) ≡ multiplied_by (evaluated (sub a τ)) (evaluated (sub b τ))
unfolding sub evaluated
product_put a b τ (Some m) (Some n) p q =
    λ i. multiplied_by (evaluated (sub (sym (numeral_is a m p) i) τ)) (evaluated (sub (sym (numeral_is b n q) i) τ))
product_put a b τ (Some m) None p q = refl
product_put a b τ None n p q = refl

pub evaluated_up : (τ : Substitution) → (λ x. evaluated (up τ x)) ≡ up (λ x. evaluated (τ x))
unfolding up evaluated
evaluated_up τ = same _ _ here
  where
    here : (x : ℕ) → evaluated (up τ x) ≡ up (λ x. evaluated (τ x)) x
    here zero = refl
    here (suc x) = evaluated_renamed (τ x) suc

-- types may be evaluated before they are put, and the type before they are put into it
mutual
  unfolding sub evaluated

  pub evaluated_put : (t : TypeTree) (τ : Substitution) → evaluated (sub (evaluated t) τ) ≡ evaluated (sub t τ)
  evaluated_put (ty_var x) τ = refl
  evaluated_put (nat_lit n) τ = refl
  evaluated_put (nat_sum a b) τ = sum_put (evaluated a) (evaluated b) τ (numeral (evaluated a)) (numeral (evaluated b)) refl refl ∙ (λ i. added (evaluated_put a τ i) (evaluated_put b τ i))
  evaluated_put (nat_product a b) τ = product_put (evaluated a) (evaluated b) τ (numeral (evaluated a)) (numeral (evaluated b)) refl refl ∙ (λ i. multiplied_by (evaluated_put a τ i) (evaluated_put b τ i))
  evaluated_put (domain d) τ = refl
  evaluated_put (scalar s w) τ = ap (scalar s) (evaluated_put w τ)
  evaluated_put (vector n t) τ = λ i. vector (evaluated_put n τ i) (evaluated_put t τ i)
  evaluated_put (data_of d ts) τ = ap (data_of d) (evaluated_put_all ts τ)
  evaluated_put (fun a b) τ = λ i. fun (evaluated_put a τ i) (evaluated_put b τ i)
  evaluated_put (signal d t) τ = λ i. signal (evaluated_put d τ i) (evaluated_put t τ i)
  evaluated_put (for_all k t) τ = ap (for_all k) (evaluated_put t (up τ))

  pub evaluated_put_all : (ts : TypeTrees) (τ : Substitution) → evaluated_all (sub_all (evaluated_all ts) τ) ≡ evaluated_all (sub_all ts τ)
  evaluated_put_all no_types τ = refl
  evaluated_put_all (type_and t ts) τ = λ i. type_and (evaluated_put t τ i) (evaluated_put_all ts τ i)

-- what was evaluated stays
pub evaluated_twice : (t : TypeTree) → evaluated (evaluated t) ≡ evaluated t
evaluated_twice t = ap evaluated (sym (sub_ids (evaluated t))) ∙ evaluated_put t ty_var ∙ ap evaluated (sub_ids t)

mutual
  unfolding sub evaluated

  pub put_evaluated : (t : TypeTree) (τ : Substitution) → evaluated (sub t (λ x. evaluated (τ x))) ≡ evaluated (sub t τ)
  put_evaluated (ty_var x) τ = evaluated_twice (τ x)
  put_evaluated (nat_lit n) τ = refl
  put_evaluated (nat_sum a b) τ = λ i. added (put_evaluated a τ i) (put_evaluated b τ i)
  put_evaluated (nat_product a b) τ = λ i. multiplied_by (put_evaluated a τ i) (put_evaluated b τ i)
  put_evaluated (domain d) τ = refl
  put_evaluated (scalar s w) τ = ap (scalar s) (put_evaluated w τ)
  put_evaluated (vector n t) τ = λ i. vector (put_evaluated n τ i) (put_evaluated t τ i)
  put_evaluated (data_of d ts) τ = ap (data_of d) (put_evaluated_all ts τ)
  put_evaluated (fun a b) τ = λ i. fun (put_evaluated a τ i) (put_evaluated b τ i)
  put_evaluated (signal d t) τ = λ i. signal (put_evaluated d τ i) (put_evaluated t τ i)
  put_evaluated (for_all k t) τ = ap (for_all k) (ap (λ σ. evaluated (sub t σ)) (sym (evaluated_up τ)) ∙ put_evaluated t (up τ))

  pub put_evaluated_all : (ts : TypeTrees) (τ : Substitution) → evaluated_all (sub_all ts (λ x. evaluated (τ x))) ≡ evaluated_all (sub_all ts τ)
  put_evaluated_all no_types τ = refl
  put_evaluated_all (type_and t ts) τ = λ i. type_and (put_evaluated t τ i) (put_evaluated_all ts τ i)

-- the data type of arguments that were evaluated one after another
pub evaluated_data : (ts done : List TypeTree) (d i : ℕ) → done ≡ map evaluated (take i ts) → length ts ≤ i → data_of d (trees_of done) ≡ evaluated (data_of d (trees_of ts))
unfolding evaluated
evaluated_data ts done d i e all = ap (λ ts. data_of d (trees_of ts)) (e ∙ ap (map evaluated) (take_all i ts all)) ∙ ap (data_of d) (each ts)
  where
    each : (ts : List TypeTree) → trees_of (map evaluated ts) ≡ evaluated_all (trees_of ts)
    each [] = refl
    each (t ∷ ts) = ap (type_and (evaluated t)) (each ts)
