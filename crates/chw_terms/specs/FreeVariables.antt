-- The free variables of a term, in the order in which they occur.
use Rattle.std.specs.Prelude.{ℕ, ◌-◌, ◌==◌, not, nat_lt, if◌then◌else◌, List, [], ◌∷◌, ◌++◌, filter}
use Rattle.chw_terms.specs.TermTree.{TermTree, var, global, made, lam, app, ty_lam, ty_app, letrec, con, prim, lit, vec_lit, case_of, Terms, no_terms, term_and, Group, no_bindings, bind, Alts, no_alts, alt, binders, size_of}

-- variables under n binders, as they are called outside; those of the n binders are left out
abbrev pub outside : ℕ → List ℕ → List ℕ
outside n [] = []
outside n (x ∷ xs) = if nat_lt x n then outside n xs else (x - n) ∷ outside n xs

-- the occurrences of free variables, from left to right
unfoldable mutual
  pub occurrences : TermTree → List ℕ
  occurrences (var x) = x ∷ []
  occurrences (global d) = []
  occurrences (made m) = []
  occurrences (lam t e) = outside 1 (occurrences e)
  occurrences (app f a) = occurrences f ++ occurrences a
  occurrences (ty_lam k e) = occurrences e
  occurrences (ty_app f t) = occurrences f
  occurrences (letrec g e) = outside (size_of g) (occurrences_group g ++ occurrences e)
  occurrences (con c) = []
  occurrences (prim p) = []
  occurrences (lit s bs) = []
  occurrences (vec_lit t es) = occurrences_all es
  occurrences (case_of s alts) = occurrences s ++ occurrences_alts alts

  pub occurrences_all : Terms → List ℕ
  occurrences_all no_terms = []
  occurrences_all (term_and e es) = occurrences e ++ occurrences_all es

  -- in the right sides; the binders of the group are already passed
  pub occurrences_group : Group → List ℕ
  occurrences_group no_bindings = []
  occurrences_group (bind t e g) = occurrences e ++ occurrences_group g

  pub occurrences_alts : Alts → List ℕ
  occurrences_alts no_alts = []
  occurrences_alts (alt q e more) = outside (binders q) (occurrences e) ++ occurrences_alts more

-- each number once, where it is first
abbrev pub firsts : List ℕ → List ℕ
firsts [] = []
firsts (x ∷ xs) = x ∷ filter (λ y. not (y == x)) (firsts xs)

-- the free variables in the order of their first occurrences
abbrev pub free_in : TermTree → List ℕ
free_in e = firsts (occurrences e)
