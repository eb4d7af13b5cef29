-- Steps below a letrec, a case and a vector in which what is below another step has changed.
use Rattle.std.proofs.Common.{◌≡◌, ◌≢◌, ◌⊎◌, inl, inr, ◌∙◌, ℕ, suc, refl, sym, ap, subst}
use Rattle.std.proofs.Common.{arith, false, List, [], ◌∷◌, ◌++◌, Some}
use Rattle.std.proofs.lemmas.Bool.{cases_eq}
use Rattle.std.proofs.lemmas.Option.{same_Some}
use Rattle.chw_types.specs.TypeTree.{TypeTree}
use Rattle.chw_terms.specs.TermTree.{TermTree, letrec, vec_lit, case_of, Terms, Group, Alts}
use Rattle.chw_typing.specs.Paths.{element_at, part_of_group, with_body, with_branch}
use Rattle.chw_typing.specs.Paths.{with_element, with_side}
use Rattle.chw_typing.proofs.PathChildren.{child_apart, child_of_with_child}
use Rattle.rewriting.specs.Origins.{Origins}
use Rattle.rewriting.specs.Active.{Below}
use Rattle.rewriting.specs.Spots.{Spot, spot, scrutinee_mode}
use Rattle.rewriting.proofs.OneStep.{one_below}
use Rattle.step_order.proofs.Left.{IsLeft}
use Rattle.step_order.proofs.Moves.{InCase, InLet, InVector}
use Rattle.step_order.proofs.Moves.{in_branch, in_let, in_scrutinee, in_vector}
use Rattle.step_order.proofs.Others.{branch_body, declared_with_side, patterns_with_branch}

-- a step below the term e in which y has come where the step along p leads: it is that step, or it
-- was there before, or it doesn't go off to the left
pub data Onto (o : Origins) (at : Spot) (e : TermTree) (p : List ℕ) (mid : Spot) (y : TermTree)
    (q : List ℕ) (at' : Spot) (z : TermTree) : Type 0 where
  to_it : q ≡ p → at' ≡ mid → z ≡ y → Onto o at e p mid y q at' z
  beside : Below o at e q at' z → Onto o at e p mid y q at' z
  to_right : ((p' q' : List ℕ) → IsLeft (q ++ q') (p ++ p') → ⊥) → Onto o at e p mid y q at' z

-- a path of one step leads to one spot
pub one_spot : {o : Origins} {at at' mid : Spot} {e x z : TermTree} {p : List ℕ}
    → Below o at e p at' z → Below o at e p mid x → at' ≡ mid
one_spot {o} {at} {at'} {mid} {e} {x} {z} {p} b d = (one_below o at at' mid e z x p b d).0

pub onto_scrutinee : {o : Origins} {at mid at' : Spot} {y z : TermTree} {q : List ℕ}
    (s : TermTree) (alts : Alts)
    → mid ≡ spot (scrutinee_mode o.program.datas at.mode alts) false at.vars
    → InCase o at y alts q at' z
    → Onto o at (case_of s alts) (0 ∷ []) mid y q at' z
onto_scrutinee s alts is (in_scrutinee is' moves) = to_it refl (is' ∙ sym is) refl
onto_scrutinee s alts is (in_branch {i = j} part moves) = to_right right
  where
    right : (p' q' : List ℕ) → IsLeft (suc j ∷ q') (0 ∷ p') → ⊥
    right p' q' (inl l) = omega (arith, l)
    right p' q' (inr h) = omega (arith, h.0)

module _ {o : Origins} {at mid : Spot} {c y : TermTree} where
  pub onto_let : {at' : Spot} {z : TermTree} {q : List ℕ} (g : Group) (e : TermTree) (i : ℕ)
      → part_of_group g e i ≡ Some c
      → Below o at (letrec g e) (i ∷ []) mid c
      → InLet o at (with_side g i y) (with_body g e i y) q at' z
      → Onto o at (letrec g e) (i ∷ []) mid y q at' z
  onto_let {at'} {z} g e i there b (in_let {i = j} part moves) = by (cases_eq j i)
    where
      back : (x : TermTree) → part_of_group g e j ≡ Some x → Below o at (letrec g e) (j ∷ []) at' x
      back x found = moves g e x (sym (declared_with_side g i y)) found

      by : (j ≡ i) ⊎ (j ≢ i) → Onto o at (letrec g e) (i ∷ []) mid y (j ∷ []) at' z
      by (inl is) =
          let old = back c (subst (λ n. part_of_group g e n ≡ Some c) (sym is) there) in
          let here = child_of_with_child (letrec g e) c y i there in
          let last =
          subst (λ n. part_of_group (with_side g i y) (with_body g e i y) n ≡ Some z) is part
          in
          to_it (ap (λ n. n ∷ []) is)
          (one_spot (subst (λ n. Below o at (letrec g e) (n ∷ []) at' c) is old) b)
          (same_Some z y (sym last ∙ here))
      by (inr n) = beside (back z (sym (child_apart (letrec g e) y i j (λ k. n (sym k))) ∙ part))

  pub onto_branch : {at' : Spot} {z : TermTree} {q : List ℕ} (s : TermTree) (alts : Alts) (i : ℕ)
      → branch_body alts i ≡ Some c
      → Below o at (case_of s alts) (suc i ∷ []) mid c
      → InCase o at s (with_branch alts i y) q at' z
      → Onto o at (case_of s alts) (suc i ∷ []) mid y q at' z
  onto_branch s alts i there b (in_scrutinee is moves) =
      beside (moves alts (sym (patterns_with_branch alts i y)))
  onto_branch {at'} {z} s alts i there b (in_branch {i = j} part moves) = by (cases_eq j i)
    where
      back : (x : TermTree)
          → branch_body alts j ≡ Some x → Below o at (case_of s alts) (suc j ∷ []) at' x
      back x found = moves alts x (sym (patterns_with_branch alts i y)) found

      by : (j ≡ i) ⊎ (j ≢ i) → Onto o at (case_of s alts) (suc i ∷ []) mid y (suc j ∷ []) at' z
      by (inl is) =
          let old = back c (subst (λ n. branch_body alts n ≡ Some c) (sym is) there) in
          let here = child_of_with_child (case_of s alts) c y (suc i) there in
          let last = subst (λ n. branch_body (with_branch alts i y) n ≡ Some z) is part in
          to_it (ap (λ n. suc n ∷ []) is)
          (one_spot (subst (λ n. Below o at (case_of s alts) (suc n ∷ []) at' c) is old) b)
          (same_Some z y (sym last ∙ here))
      by (inr n) =
          let apart : suc i ≢ suc j = λ k. n (omega (arith, k)) in
          beside (back z (sym (child_apart (case_of s alts) y (suc i) (suc j) apart) ∙ part))

  pub onto_element : {at' : Spot} {z : TermTree} {q : List ℕ} (t : TypeTree) (es : Terms) (i : ℕ)
      → element_at es i ≡ Some c
      → Below o at (vec_lit t es) (i ∷ []) mid c
      → InVector o at t (with_element es i y) q at' z
      → Onto o at (vec_lit t es) (i ∷ []) mid y q at' z
  onto_element {at'} {z} t es i there b (in_vector {i = j} part moves) = by (cases_eq j i)
    where
      by : (j ≡ i) ⊎ (j ≢ i) → Onto o at (vec_lit t es) (i ∷ []) mid y (j ∷ []) at' z
      by (inl is) =
          let old = moves es c (subst (λ n. element_at es n ≡ Some c) (sym is) there) in
          let here = child_of_with_child (vec_lit t es) c y i there in
          let last = subst (λ n. element_at (with_element es i y) n ≡ Some z) is part in
          to_it (ap (λ n. n ∷ []) is)
          (one_spot (subst (λ n. Below o at (vec_lit t es) (n ∷ []) at' c) is old) b)
          (same_Some z y (sym last ∙ here))
      by (inr n) =
          beside (moves es z (sym (child_apart (vec_lit t es) y i j (λ k. n (sym k))) ∙ part))
