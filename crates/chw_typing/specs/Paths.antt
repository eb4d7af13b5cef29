-- Children and parts of a term, by numbers, and the order of places.
use Rattle.std.specs.Prelude.{◌≡◌, ◌≢◌, ℕ, zero, suc, ◌-◌, ◌<◌, ◌⊎◌}
use Rattle.std.specs.Prelude.{List, [], ◌∷◌, ◌++◌, replicate}
use Rattle.std.specs.Prelude.{Option, Some, None, unwrap_or, option_map, option_and_then}
use Rattle.chw_terms.specs.declared.term.Pattern.{Pattern}
use Rattle.chw_terms.specs.TermTree.{TermTree, lam, app, ty_lam, ty_app, letrec, vec_lit, case_of}
use Rattle.chw_terms.specs.TermTree.{Terms, no_terms, term_and, Group, no_bindings, bind}
use Rattle.chw_terms.specs.TermTree.{Alts, no_alts, alt}

-- the element of this number
abbrev pub element_at : Terms → ℕ → Option TermTree
element_at no_terms i = None
element_at (term_and e es) zero = Some e
element_at (term_and e es) (suc i) = element_at es i

-- the elements with another one of this number
abbrev pub with_element : Terms → ℕ → TermTree → Terms
with_element no_terms i x = no_terms
with_element (term_and e es) zero x = term_and x es
with_element (term_and e es) (suc i) x = term_and e (with_element es i x)

-- the right side of this number, and behind the right sides the body
abbrev pub part_of_group : Group → TermTree → ℕ → Option TermTree
part_of_group no_bindings b zero = Some b
part_of_group no_bindings b (suc i) = None
part_of_group (bind t e g) b zero = Some e
part_of_group (bind t e g) b (suc i) = part_of_group g b i

-- the group with another right side of this number
abbrev pub with_side : Group → ℕ → TermTree → Group
with_side no_bindings i x = no_bindings
with_side (bind t e g) zero x = bind t x g
with_side (bind t e g) (suc i) x = bind t e (with_side g i x)

-- another body, if this is the number behind those of the right sides
abbrev pub with_body : Group → TermTree → ℕ → TermTree → TermTree
with_body no_bindings b zero x = x
with_body no_bindings b (suc i) x = b
with_body (bind t e g) b zero x = b
with_body (bind t e g) b (suc i) x = with_body g b i x

-- an alternative of a case
pub record Branch : Type 0 where
  pub pattern : Pattern
  pub body : TermTree

-- the alternative of this number
abbrev pub branch_at : Alts → ℕ → Option Branch
branch_at no_alts i = None
branch_at (alt q e more) zero = Some (record { pattern = q; body = e })
branch_at (alt q e more) (suc i) = branch_at more i

-- the alternatives with another body in the one of this number
abbrev pub with_branch : Alts → ℕ → TermTree → Alts
with_branch no_alts i x = no_alts
with_branch (alt q e more) zero x = alt q x more
with_branch (alt q e more) (suc i) x = alt q e (with_branch more i x)

-- the child of this number: a function before its argument, right sides before the body, a
-- scrutinee before the alternatives
abbrev pub child : TermTree → ℕ → Option TermTree
child (lam t e) zero = Some e
child (ty_lam k e) zero = Some e
child (app f a) zero = Some f
child (app f a) (suc zero) = Some a
child (ty_app f t) zero = Some f
child (letrec g e) i = part_of_group g e i
child (vec_lit t es) i = element_at es i
child (case_of e alts) zero = Some e
child (case_of e alts) (suc i) = option_map (λ a. a.body) (branch_at alts i)
child _ _ = None

-- the term with another child in this place; as it is where there is none
abbrev pub with_child : TermTree → ℕ → TermTree → TermTree
with_child (lam t e) zero x = lam t x
with_child (ty_lam k e) zero x = ty_lam k x
with_child (app f a) zero x = app x a
with_child (app f a) (suc zero) x = app f x
with_child (ty_app f t) zero x = ty_app x t
with_child (letrec g e) i x = letrec (with_side g i x) (with_body g e i x)
with_child (vec_lit t es) i x = vec_lit t (with_element es i x)
with_child (case_of e alts) zero x = case_of x alts
with_child (case_of e alts) (suc i) x = case_of e (with_branch alts i x)
with_child e i x = e

-- the part at a path, which goes from child to child
abbrev pub part_at : TermTree → List ℕ → Option TermTree
part_at e [] = Some e
part_at e (i ∷ path) = option_and_then (λ c. part_at c path) (child e i)

-- the term with another part at a path; as it is where there is none
abbrev pub with_part : TermTree → List ℕ → TermTree → TermTree
with_part e [] x = x
with_part e (i ∷ path) x =
    unwrap_or (option_map (λ c. with_child e i (with_part c path x)) (child e i)) e

-- earlier in the order of places: a place before those below it, and else by the first number
-- that differs
abbrev pub IsEarlier : List ℕ → List ℕ → Type 0
IsEarlier [] [] = ⊥
IsEarlier [] (j ∷ q) = Unit {0}
IsEarlier (i ∷ p) [] = ⊥
IsEarlier (i ∷ p) (j ∷ q) = (i < j) ⊎ ((i ≡ j) × IsEarlier p q)

-- neither of the paths leads to a place below the other's
abbrev pub AreApart : List ℕ → List ℕ → Type 0
AreApart [] q = ⊥
AreApart (i ∷ p) [] = ⊥
AreApart (i ∷ p) (j ∷ q) = (i ≢ j) ⊎ ((i ≡ j) × AreApart p q)

-- from an application to n arguments to the one of this number
abbrev pub argument_path : ℕ → ℕ → List ℕ
argument_path i n = replicate (n - 1 - i) 0 ++ 1 ∷ []
