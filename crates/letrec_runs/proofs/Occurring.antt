-- Variables that occur in terms, as lists of numbers have them.
use Rattle.std.proofs.Common.{◌≡◌, ◌⊎◌, inl, inr, ◌<◌, ◌+◌, ℕ, zero, suc, sym, subst, arith, Bool, true, false, not, cond, ◌==◌, filter, nat_eq}
use Rattle.std.proofs.Common.{List, [], ◌∷◌, length, take, get_or, Contains}
use Rattle.std.specs.List.{list_any}
use Rattle.std.proofs.lemmas.Bool.{eqb-true}
use Rattle.std.proofs.lemmas.List.{take_all}
use Rattle.std.proofs.lemmas.Map.Views.{Contains-from_any}
use Rattle.chw_base.specs.declared.index.VarIx.{VarIx}
use Rattle.chw_terms.specs.FreeVariables.{firsts, occurrences}
use Rattle.chw_terms.specs.TermTree.{TermTree}
use Rattle.chw_typing.proofs.Free.{occurrences_occur}
use Rattle.free_variables.specs.Gathered.{numbers_of}
use Rattle.kept_letrecs.specs.Resting.{KeepsVariables}

-- a number among those of the first so many, and one more
longer : (xs : List ℕ) (w x v : ℕ) → Contains xs x ⊎ (v ≡ x) → Contains (w ∷ xs) x ⊎ (v ≡ x)
longer xs w x v (inl (k, m, q)) = inl (suc k, omega (arith, m), q)
longer xs w x v (inr q) = inr q

head_or_later : (xs ys : List ℕ) (w x v : ℕ) → (Contains xs x → Contains ys x ⊎ (v ≡ x)) → Contains (w ∷ xs) x → Contains (w ∷ ys) x ⊎ (v ≡ x)
head_or_later xs ys w x v f (zero, m, q) = inl (zero, omega arith, q)
head_or_later xs ys w x v f (suc k, m, q) = longer ys w x v (f (k, omega (arith, m), q))

only : (w x : ℕ) → Contains (w ∷ []) x → w ≡ x
only w x (zero, m, q) = q
only w x (suc k, m, q) = absurd (omega (arith, m))

number_of_more : (vs : List VarIx) (i x : ℕ) (v : VarIx) → i < length vs → Contains (numbers_of (take (i + 1) vs)) x
    → Contains (numbers_of (take i vs)) x ⊎ ((get_or vs i v).number ≡ x)
number_of_more [] i x v l c = absurd (omega (arith, l))
number_of_more (w ∷ vs) zero x v l c = inr (only w.number x c)
number_of_more (w ∷ vs) (suc i) x v l c =
    let next : suc i + 1 ≡ suc (i + 1) = omega arith in
    head_or_later (numbers_of (take (i + 1) vs)) (numbers_of (take i vs)) w.number x (get_or vs i v).number
    (λ d. number_of_more vs i x v (omega (arith, l)) d) (subst (λ k. Contains (numbers_of (take k (w ∷ vs))) x) next c)

contained_by : (xs keys : List ℕ) (v x : ℕ) → Contains keys v → ((x : ℕ) → Contains xs x → Contains keys x) → Contains xs x ⊎ (v ≡ x) → Contains keys x
contained_by xs keys v x found h (inl k) = h x k
contained_by xs keys v x found h (inr q) = subst (Contains keys) q found

pub contained_more : (vs : List VarIx) (i : ℕ) (v : VarIx) (keys : List ℕ) → i < length vs → list_any (nat_eq (get_or vs i v).number) keys ≡ true
    → ((x : ℕ) → Contains (numbers_of (take i vs)) x → Contains keys x) → (x : ℕ) → Contains (numbers_of (take (i + 1) vs)) x → Contains keys x
contained_more vs i v keys l found h x c =
    contained_by (numbers_of (take i vs)) keys (get_or vs i v).number x (Contains-from_any eqb-true (get_or vs i v).number keys found) h (number_of_more vs i x v l c)

-- one more of them stands among those
pub found_more : (found those : List VarIx) (n : ℕ) (d : VarIx) (v : ℕ) → n < length found → (get_or found n d).number ≡ v → Contains (numbers_of those) v
    → ((x : ℕ) → Contains (numbers_of (take n found)) x → Contains (numbers_of those) x) → (x : ℕ) → Contains (numbers_of (take (n + 1) found)) x → Contains (numbers_of those) x
found_more found those n d v l same there h x c =
    contained_by (numbers_of (take n found)) (numbers_of those) (get_or found n d).number x (subst (Contains (numbers_of those)) (sym same) there) h (number_of_more found n x d l c)

-- where there are no more, all do
pub found_all : (found : List VarIx) (n : ℕ) (keys : List ℕ) → n ≡ length found → ((x : ℕ) → Contains (numbers_of (take n found)) x → Contains keys x)
    → (x : ℕ) → Contains (numbers_of found) x → Contains keys x
found_all found n keys all h x c = h x (subst (λ vs. Contains (numbers_of vs) x) (sym (take_all n found (omega (arith, all)))) c)

pub found_none : (vs : List VarIx) (keys : List ℕ) (x : ℕ) → Contains (numbers_of (take 0 vs)) x → Contains keys x
found_none [] keys x (k, m, q) = absurd (omega (arith, m))
found_none (v ∷ vs) keys x (k, m, q) = absurd (omega (arith, m))

later : (xs : List ℕ) (x v : ℕ) → Contains xs v → Contains (x ∷ xs) v
later xs x v (k, m, q) = (suc k, omega (arith, m), q)

-- what is left of a list, and each number where it is first, are of the list
in_filtered : (xs ys : List ℕ) (x v : ℕ) (b : Bool) → (Contains ys v → Contains xs v) → Contains (cond b (x ∷ ys) ys) v → Contains (x ∷ xs) v
in_filtered xs ys x v true f (zero, m, q) = (zero, omega arith, q)
in_filtered xs ys x v true f (suc k, m, q) = later xs x v (f (k, omega (arith, m), q))
in_filtered xs ys x v false f d = later xs x v (f d)

in_filter : (p : ℕ → Bool) (xs : List ℕ) (v : ℕ) → Contains (filter p xs) v → Contains xs v
in_filter p [] v c = c
in_filter p (x ∷ xs) v c = in_filtered xs (filter p xs) x v (p x) (in_filter p xs v) c

pub in_firsts : (xs : List ℕ) (v : ℕ) → Contains (firsts xs) v → Contains xs v
in_firsts [] v c = c
in_firsts (x ∷ xs) v (zero, m, q) = (zero, omega arith, q)
in_firsts (x ∷ xs) v (suc k, m, q) = later xs x v (in_firsts xs v (in_filter (λ y. not (y == x)) (firsts xs) v (k, omega (arith, m), q)))

-- what occurs in a term is among what occurs in another
pub keeps_by : (old new : TermTree) (before after : List VarIx) → numbers_of before ≡ occurrences old → numbers_of after ≡ occurrences new
    → ((x : ℕ) → Contains (numbers_of before) x → Contains (numbers_of after) x) → (n : ℕ) → KeepsVariables n old new
keeps_by old new before after bq aq among n v l o =
    (occurrences_occur new v).0 (subst (λ xs. Contains xs v) aq (among v (subst (λ xs. Contains xs v) (sym bq) ((occurrences_occur old v).1 o))))
