-- The arguments of an application at their paths.
use Rattle.std.proofs.Common.{◌≡◌, ℕ, suc, zero, ◌-◌, ◌∙◌, sym, ap, refl, arith, List, [], ◌∷◌, ◌++◌, length, replicate, set, Some}
use Rattle.std.specs.List.{slice_get}
use Rattle.chw_terms.specs.declared.term.Arg.{Arg}
use Rattle.chw_terms.specs.declared.term.Arg.TheVariants.{OfTerm, OfType}
use Rattle.chw_terms.specs.TermTree.{TermTree}
use Rattle.chw_terms.specs.TermView.{applied_to, applied}
use Rattle.chw_typing.specs.Paths.{part_at, with_part, argument_path}

zeros_turned : (n : ℕ) (q : List ℕ) → replicate n 0 ++ 0 ∷ q ≡ 0 ∷ replicate n 0 ++ q
zeros_turned zero q = refl
zeros_turned (suc n) q = ap (λ p. 0 ∷ p) (zeros_turned n q)

part_of_function : (e : TermTree) (a : Arg) (q : List ℕ) → part_at (applied_to e a) (0 ∷ q) ≡ part_at e q
part_of_function e (OfTerm a) q = refl
part_of_function e (OfType t) q = refl

with_part_of_function : (e x : TermTree) (a : Arg) (q : List ℕ) → with_part (applied_to e a) (0 ∷ q) x ≡ applied_to (with_part e q x) a
with_part_of_function e x (OfTerm a) q = refl
with_part_of_function e x (OfType t) q = refl

-- below the head
pub part_of_head : (args : List Arg) (e : TermTree) (q : List ℕ) → part_at (applied e args) (replicate (length args) 0 ++ q) ≡ part_at e q
part_of_head [] e q = refl
part_of_head (a ∷ args) e q =
    ap (part_at (applied (applied_to e a) args)) (sym (zeros_turned (length args) q)) ∙ part_of_head args (applied_to e a) (0 ∷ q) ∙ part_of_function e a q

pub with_part_of_head : (args : List Arg) (e x : TermTree) (q : List ℕ) → with_part (applied e args) (replicate (length args) 0 ++ q) x ≡ applied (with_part e q x) args
with_part_of_head [] e x q = refl
with_part_of_head (a ∷ args) e x q =
    ap (λ p. with_part (applied (applied_to e a) args) p x) (sym (zeros_turned (length args) q))
    ∙ with_part_of_head args (applied_to e a) x (0 ∷ q)
    ∙ ap (λ f. applied f args) (with_part_of_function e x a q)

-- the first of some arguments, and a later one
first_path : (m : ℕ) → argument_path 0 (suc m) ≡ replicate m 0 ++ 1 ∷ []
first_path m = let n : suc m - 1 - 0 ≡ m = omega arith in ap (λ k. replicate k 0 ++ 1 ∷ []) n

later_path : (i m : ℕ) → argument_path (suc i) (suc m) ≡ argument_path i m
later_path i m = let n : suc m - 1 - suc i ≡ m - 1 - i = omega arith in ap (λ k. replicate k 0 ++ 1 ∷ []) n

pub spine_argument : (args : List Arg) (e a : TermTree) (i : ℕ) → slice_get args i ≡ Some (OfTerm a) → part_at (applied e args) (argument_path i (length args)) ≡ Some a
spine_argument [] e a i h = absurd cc
spine_argument (b ∷ args) e a zero h =
    let is : b ≡ OfTerm a = cc in
    ap (part_at (applied (applied_to e b) args)) (first_path (length args)) ∙ part_of_head args (applied_to e b) (1 ∷ []) ∙ ap (λ c. part_at (applied_to e c) (1 ∷ [])) is
spine_argument (b ∷ args) e a (suc i) h = ap (part_at (applied (applied_to e b) args)) (later_path i (length args)) ∙ spine_argument args (applied_to e b) a i h

pub with_spine_argument : (args : List Arg) (e a x : TermTree) (i : ℕ) → slice_get args i ≡ Some (OfTerm a) → with_part (applied e args) (argument_path i (length args)) x ≡ applied e (set args i (OfTerm x))
with_spine_argument [] e a x i h = absurd cc
with_spine_argument (b ∷ args) e a x zero h =
    let is : b ≡ OfTerm a = cc in
    ap (λ p. with_part (applied (applied_to e b) args) p x) (first_path (length args))
    ∙ with_part_of_head args (applied_to e b) x (1 ∷ [])
    ∙ ap (λ c. applied (with_part (applied_to e c) (1 ∷ []) x) args) is
with_spine_argument (b ∷ args) e a x (suc i) h =
    ap (λ p. with_part (applied (applied_to e b) args) p x) (later_path i (length args)) ∙ with_spine_argument args (applied_to e b) a x i h
