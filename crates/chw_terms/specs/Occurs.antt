-- Where a variable occurs free in a term.
use Rattle.std.specs.Prelude.{ℕ, suc, ◌+◌, Bool, false, ◌||◌, ◌==◌}
use Rattle.chw_terms.specs.TermTree.{TermTree, var, global, made, lam, app, ty_lam, ty_app, letrec, con, prim, lit, vec_lit, case_of, Terms, no_terms, term_and, Group, no_bindings, bind, Alts, no_alts, alt, binders, size_of}

unfoldable mutual
  pub occurs : TermTree → ℕ → Bool
  occurs (var x) v = x == v
  occurs (global d) v = false
  occurs (made m) v = false
  occurs (lam t e) v = occurs e (suc v)
  occurs (app f a) v = occurs f v || occurs a v
  occurs (ty_lam k e) v = occurs e v
  occurs (ty_app f t) v = occurs f v
  occurs (letrec g e) v = occurs_group g (v + size_of g) || occurs e (v + size_of g)
  occurs (con c) v = false
  occurs (prim p) v = false
  occurs (lit s bs) v = false
  occurs (vec_lit t es) v = occurs_all es v
  occurs (case_of s alts) v = occurs s v || occurs_alts alts v

  pub occurs_all : Terms → ℕ → Bool
  occurs_all no_terms v = false
  occurs_all (term_and e es) v = occurs e v || occurs_all es v

  -- in a right side; the binders of the group are already passed
  pub occurs_group : Group → ℕ → Bool
  occurs_group no_bindings v = false
  occurs_group (bind t e g) v = occurs e v || occurs_group g v

  pub occurs_alts : Alts → ℕ → Bool
  occurs_alts no_alts v = false
  occurs_alts (alt q e more) v = occurs e (v + binders q) || occurs_alts more v
