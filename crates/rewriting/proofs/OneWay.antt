-- All steps to a path lead to one spot: paths of different steps part.
use Rattle.std.proofs.Common.{◌≡◌, ℕ, zero, suc, true, refl, sym, ap, subst, ◌∙◌, ◌-◌, List, [], ◌∷◌, ◌++◌, length, replicate}
use Rattle.chw_terms.specs.declared.term.Arg.{Arg}
use Rattle.chw_terms.specs.TermTree.{TermTree, con, prim}
use Rattle.chw_terms.specs.TermView.{applied}
use Rattle.rewriting.specs.Named.{mode_of}
use Rattle.rewriting.specs.Origins.{MadeOf, Origins}
use Rattle.rewriting.proofs.Lambdas.{one_under}
use Rattle.rewriting.specs.Active.{Below, right_side, let_body, constant_body, scrutinee, branch, of_constructor, of_words, of_element, of_vector, demanded, begins, IsActive, at_it, below, IsPlaceOf}
use Rattle.rewriting.specs.Spots.{Spot, spot}
use Rattle.rewriting.proofs.OneStep.{head_of, head_applied, one_below}

-- a path to an argument: so many functions, and the argument there
abbrev IsArgumentPath : List ℕ → Type 0
IsArgumentPath p = (k : ℕ) × (p ≡ replicate k 0 ++ 1 ∷ [])

-- the path of a step, by the head of the term
abbrev IsStep : TermTree → List ℕ → Type 0
IsStep (con c) p = IsArgumentPath p
IsStep (prim q) p = IsArgumentPath p
IsStep _ p = (i : ℕ) × (p ≡ i ∷ [])

at_spine : (args : List Arg) (h : TermTree) (i : ℕ) → head_of h ≡ h → IsStep h (replicate (length args - 1 - i) 0 ++ 1 ∷ []) → IsStep (head_of (applied h args)) (replicate (length args - 1 - i) 0 ++ 1 ∷ [])
at_spine args h i is s = subst (λ e. IsStep e (replicate (length args - 1 - i) 0 ++ 1 ∷ [])) (sym (head_applied args h ∙ is)) s

step_path : {o : Origins} {at at' : Spot} {e x : TermTree} {p : List ℕ} → Below o at e p at' x → IsStep (head_of e) p
step_path (right_side {i = i} l s n) = (i, refl)
step_path (let_body {g = g} l) = (_, refl)
step_path (constant_body {g = g} k) = (_, refl)
step_path (scrutinee d n) = (0, refl)
step_path (branch {i = i} v s n b p) = (suc i, refl)
step_path (of_constructor c i args k s l r) = at_spine args (con c) i refl (length args - 1 - i, refl)
step_path (of_words q i args k w l m r) = at_spine args (prim q) i refl (length args - 1 - i, refl)
step_path (of_element q i args k w m r) = at_spine args (prim q) i refl (length args - 1 - i, refl)
step_path (of_vector {i = i} k s) = (i, refl)
step_path (demanded {p = q} {i = i} {args = args} d) = at_spine args (prim q) i refl (length args - 1 - i, refl)
step_path (begins q i j args m b t v r) = at_spine args (prim q) i refl (length args - 1 - i, refl)

argument_paths : (k l : ℕ) (q r : List ℕ) → replicate k 0 ++ 1 ∷ q ≡ replicate l 0 ++ 1 ∷ r → (k ≡ l) × (q ≡ r)
argument_paths zero zero q r h = (refl, cc)
argument_paths zero (suc l) q r h = absurd cc
argument_paths (suc k) zero q r h = absurd cc
argument_paths (suc k) (suc l) q r h = let more = argument_paths k l q r (cc) in (ap suc more.0, more.1)

append_one : (k : ℕ) (q : List ℕ) → (replicate k 0 ++ 1 ∷ []) ++ q ≡ replicate k 0 ++ 1 ∷ q
append_one zero q = refl
append_one (suc k) q = ap (λ p. 0 ∷ p) (append_one k q)

-- two paths that begin with steps are equal only where the steps are
arguments_part : (p p' q q' : List ℕ) → IsArgumentPath p → IsArgumentPath p' → p ++ q ≡ p' ++ q' → (p ≡ p') × (q ≡ q')
arguments_part p p' q q' a b h =
    let both = argument_paths a.0 b.0 q q' (sym (append_one a.0 q) ∙ ap (λ r. r ++ q) (sym a.1) ∙ h ∙ ap (λ r. r ++ q') b.1 ∙ append_one b.0 q') in
    (a.1 ∙ ap (λ k. replicate k 0 ++ 1 ∷ []) both.0 ∙ sym b.1, both.1)

numbers_part : (p p' q q' : List ℕ) → (i : ℕ) × (p ≡ i ∷ []) → (i : ℕ) × (p' ≡ i ∷ []) → p ++ q ≡ p' ++ q' → (p ≡ p') × (q ≡ q')
numbers_part p p' q q' a b h =
    let both : (a.0 ∷ q) ≡ (b.0 ∷ q') = ap (λ r. r ++ q) (sym a.1) ∙ h ∙ ap (λ r. r ++ q') b.1 in
    let first : a.0 ≡ b.0 = cc in
    let rest : q ≡ q' = cc in
    (a.1 ∙ ap (λ i. i ∷ []) first ∙ sym b.1, rest)

steps_part : (h : TermTree) (p p' q q' : List ℕ) → IsStep h p → IsStep h p' → p ++ q ≡ p' ++ q' → (p ≡ p') × (q ≡ q')
steps_part (con c) p p' q q' a b h = arguments_part p p' q q' a b h
steps_part (prim c) p p' q q' a b h = arguments_part p p' q q' a b h
steps_part _ p p' q q' a b h = numbers_part p p' q q' a b h

some_argument : (p q : List ℕ) → IsArgumentPath p → p ++ q ≡ [] → ⊥
some_argument p q a h = none a.0 (sym (append_one a.0 q) ∙ ap (λ r. r ++ q) (sym a.1) ∙ h)
  where
    none : (k : ℕ) → replicate k 0 ++ 1 ∷ q ≡ [] → ⊥
    none zero h = absurd cc
    none (suc k) h = absurd cc

some_number : (p q : List ℕ) → (i : ℕ) × (p ≡ i ∷ []) → p ++ q ≡ [] → ⊥
some_number p q a h = let none : (a.0 ∷ q) ≡ [] = ap (λ r. r ++ q) (sym a.1) ∙ h in absurd cc

some_step : (h : TermTree) (p q : List ℕ) → IsStep h p → p ++ q ≡ [] → ⊥
some_step (con c) p q a h = some_argument p q a h
some_step (prim c) p q a h = some_argument p q a h
some_step _ p q a h = some_number p q a h

-- the place, or one below a step
data Onward (o : Origins) (at : Spot) (e : TermTree) (r : List ℕ) (at' : Spot) (x : TermTree) : Type 0 where
  stays : r ≡ [] → at ≡ at' → e ≡ x → Onward o at e r at' x
  goes : (p q : List ℕ) (mid : Spot) (c : TermTree) → r ≡ p ++ q → Below o at e p mid c → IsActive o mid c q at' x → Onward o at e r at' x

onward : {o : Origins} {at at' : Spot} {e x : TermTree} {r : List ℕ} → IsActive o at e r at' x → Onward o at e r at' x
onward at_it = stays refl refl refl
onward (below {at' = mid} {x = c} {p = p} {q = q} b r) = goes p q mid c refl b r

-- a spot and a term are another spot and term
abbrev pub AreBoth : Spot → Spot → TermTree → TermTree → Type 0
AreBoth at at' x y = (at ≡ at') × (x ≡ y)

pub one_active : {o : Origins} {at at' at'' : Spot} {e x y : TermTree} {p : List ℕ} → IsActive o at e p at' x → IsActive o at e p at'' y → AreBoth at' at'' x y
one_active {o} {at} {at'' = at''} {e} {y = y} at_it r = from (onward r)
  where
    from : Onward o at e [] at'' y → AreBoth at at'' e y
    from (stays h s t) = (s, t)
    from (goes p q mid c h b r) = absurd (some_step (head_of e) p q (step_path b) (sym h))
one_active {o} {at} {at'} {at''} {e} {x} {y} (below {at' = mid} {x = c} {p = p} {q = q} b l) r = one_active l (behind (onward r))
  where
    behind : Onward o at e (p ++ q) at'' y → IsActive o mid c q at'' y
    behind (stays h s t) = absurd (some_step (head_of e) p q (step_path b) h)
    behind (goes p' q' mid' c' h b' r') =
        let parts = steps_part (head_of e) p p' q q' (step_path b) (step_path b') h in
        let same = one_below o at mid mid' e c c' p b (subst (λ z. Below o at e z mid' c') (sym parts.0) b') in
        subst (λ z. IsActive o mid c z at'' y) (sym parts.1)
        (subst (λ s. IsActive o s c q' at'' y) (sym same.0) (subst (λ z. IsActive o mid' z q' at'' y) (sym same.1) r'))

rest_is : (p q r : List ℕ) → p ++ q ≡ p ++ r → q ≡ r
rest_is [] q r h = h
rest_is (i ∷ p) q r h = rest_is p q r cc

pub one_place : (o : Origins) (it : MadeOf) (body x y : TermTree) (path : List ℕ) (at at' : Spot) → IsPlaceOf o it body path at x → IsPlaceOf o it body path at' y → AreBoth at at' x y
one_place o it body x y path at at' l r =
    let top = one_under l.under r.under in
    let rest = rest_is l.root l.rest r.rest (sym l.is ∙ r.is ∙ ap (λ p. p ++ r.rest) (sym top.0)) in
    one_active l.active
    (subst (λ p. IsActive o (spot (mode_of it.sort) true l.vars) l.term p at' y) (sym rest)
    (subst (λ e. IsActive o (spot (mode_of it.sort) true l.vars) e r.rest at' y) (sym top.2)
    (subst (λ vs. IsActive o (spot (mode_of it.sort) true vs) r.term r.rest at' y) (sym top.1) r.active)))
