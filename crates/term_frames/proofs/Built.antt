-- The types of constructors.
use Rattle.std.proofs.Common.{◌≡◌, ℕ, suc, zero, ◌+◌, ◌-◌, ◌<◌, ◌≤◌, refl, sym, ap, ◌∙◌, List, [], ◌∷◌, ◌++◌, length, take, get_or, arith}
use Rattle.std.proofs.lemmas.List.{take_all}
use Rattle.chw_types.specs.declared.kind.Kind.{Kind}
use Rattle.chw_types.specs.TypeTree.{TypeTree, ty_var, fun, for_all, TypeTrees, no_types, type_and}
use Rattle.chw_types.specs.TypeView.{trees_of}
use Rattle.chw_typing.specs.HeadTypes.{for_each, from_each, variables}
use Rattle.seen_types.proofs.EachItem.{next_taken}

-- the variables that are there, before others
abbrev pub before : List TypeTree → TypeTrees → TypeTrees
before [] ts = ts
before (t ∷ more) ts = type_and t (before more ts)

before_last : (xs : List TypeTree) (x : TypeTree) (ts : TypeTrees) → before (xs ++ x ∷ []) ts ≡ before xs (type_and x ts)
before_last [] x ts = refl
before_last (y ∷ xs) x ts = ap (type_and y) (before_last xs x ts)

before_none : (xs : List TypeTree) → before xs no_types ≡ trees_of xs
before_none [] = refl
before_none (y ∷ xs) = ap (type_and y) (before_none xs)

pub variables_next : (xs ys : List TypeTree) (n i : ℕ) → i < n → ys ≡ xs ++ ty_var (n - 1 - i) ∷ [] → before xs (variables (n - i)) ≡ variables n → before ys (variables (n - (i + 1))) ≡ variables n
variables_next xs ys n i l e h =
    let a : n - i ≡ suc (n - 1 - i) = omega arith in
    let b : n - (i + 1) ≡ n - 1 - i = omega arith in
    (λ k. before (e k) (variables (b k))) ∙ before_last xs (ty_var (n - 1 - i)) (variables (n - 1 - i)) ∙ ap (λ m. before xs (variables m)) (sym a) ∙ h

pub variables_all : (xs : List TypeTree) (n i : ℕ) → n ≤ i → before xs (variables (n - i)) ≡ variables n → trees_of xs ≡ variables n
variables_all xs n i l h = let a : n - i ≡ 0 = omega arith in sym (before_none xs) ∙ ap (λ m. before xs (variables m)) (sym a) ∙ h

from_last : (xs : List TypeTree) (x t : TypeTree) → from_each (xs ++ x ∷ []) t ≡ from_each xs (fun x t)
from_last [] x t = refl
from_last (y ∷ xs) x t = ap (fun y) (from_last xs x t)

for_last : (ks : List Kind) (k : Kind) (t : TypeTree) → for_each (ks ++ k ∷ []) t ≡ for_each ks (for_all k t)
for_last [] k t = refl
for_last (j ∷ ks) k t = ap (for_all j) (for_last ks k t)

before_end : {A : Type 0} (xs : List A) (i : ℕ) (x : A) → i < length xs → x ≡ get_or xs (length xs - 1 - i) x → take (length xs - i) xs ≡ take (length xs - (i + 1)) xs ++ x ∷ []
before_end xs i x l is =
    let a : length xs - i ≡ (length xs - 1 - i) + 1 = omega arith in
    let b : length xs - 1 - i ≡ length xs - (i + 1) = omega arith in
    ap (λ n. take n xs) a ∙ next_taken xs (length xs - 1 - i) x x (omega arith) is ∙ ap (λ n. take n xs ++ x ∷ []) b

pub from_next : (fs : List TypeTree) (i : ℕ) (x y t u r : TypeTree) → i < length fs → x ≡ get_or fs (length fs - 1 - i) x → y ≡ x → u ≡ fun y t → from_each (take (length fs - i) fs) t ≡ r → from_each (take (length fs - (i + 1)) fs) u ≡ r
from_next fs i x y t u r l is same e h =
    ap (from_each (take (length fs - (i + 1)) fs)) (e ∙ ap (λ z. fun z t) same) ∙ sym (from_last (take (length fs - (i + 1)) fs) x t) ∙ ap (λ xs. from_each xs t) (sym (before_end fs i x l is)) ∙ h

pub from_done : (fs : List TypeTree) (i : ℕ) (t r : TypeTree) → length fs ≤ i → from_each (take (length fs - i) fs) t ≡ r → t ≡ r
from_done fs i t r l h = let a : length fs - i ≡ 0 = omega arith in sym (ap (λ n. from_each (take n fs) t) a) ∙ h

pub from_start : (fs : List TypeTree) (t : TypeTree) → from_each (take (length fs - 0) fs) t ≡ from_each fs t
from_start fs t = ap (λ xs. from_each xs t) (take_all (length fs - 0) fs (omega arith))

pub for_next : (ks : List Kind) (i : ℕ) (k : Kind) (t u r : TypeTree) → i < length ks → k ≡ get_or ks (length ks - 1 - i) k → u ≡ for_all k t → for_each (take (length ks - i) ks) t ≡ r → for_each (take (length ks - (i + 1)) ks) u ≡ r
for_next ks i k t u r l is e h =
    ap (for_each (take (length ks - (i + 1)) ks)) e ∙ sym (for_last (take (length ks - (i + 1)) ks) k t) ∙ ap (λ xs. for_each xs t) (sym (before_end ks i k l is)) ∙ h

pub for_done : (ks : List Kind) (i : ℕ) (t r : TypeTree) → length ks ≤ i → for_each (take (length ks - i) ks) t ≡ r → t ≡ r
for_done ks i t r l h = let a : length ks - i ≡ 0 = omega arith in sym (ap (λ n. for_each (take n ks) t) a) ∙ h

pub for_start : (ks : List Kind) (t : TypeTree) → for_each (take (length ks - 0) ks) t ≡ for_each ks t
for_start ks t = ap (λ xs. for_each xs t) (take_all (length ks - 0) ks (omega arith))

-- an item that is there is the same whatever stands for one that isn't
at_any : {A : Type 0} (xs : List A) (i : ℕ) (d e : A) → i < length xs → get_or xs i d ≡ get_or xs i e
at_any [] i d e l = absurd (omega arith)
at_any (x ∷ xs) zero d e l = refl
at_any (x ∷ xs) (suc i) d e l = at_any xs i d e (omega arith)

pub for_step : (ks : List Kind) (i : ℕ) (d : Kind) (t u r : TypeTree) → i < length ks → u ≡ for_all (get_or ks (length ks - 1 - i) d) t → for_each (take (length ks - i) ks) t ≡ r → for_each (take (length ks - (i + 1)) ks) u ≡ r
for_step ks i d t u r l e h =
    for_next ks i (get_or ks (length ks - 1 - i) d) t u r l (at_any ks (length ks - 1 - i) d (get_or ks (length ks - 1 - i) d) (omega arith)) e h
