-- Each part of a term is smaller than the term, and the head and the arguments of a spine are smaller than the spine.
use Rattle.std.specs.Prelude.{ℕ, ◌+◌, List, [], ◌∷◌}
use Rattle.chw_terms.specs.TermTree.{TermTree, var, global, made, lam, app, ty_lam, ty_app, letrec, con, prim, lit, vec_lit, case_of, Terms, no_terms, term_and, Group, no_bindings, bind, Alts, no_alts, alt}
use Rattle.chw_terms.specs.declared.term.Arg.{Arg}
use Rattle.chw_terms.specs.declared.term.Arg.TheVariants.{OfTerm, OfType}

abbrev mutual
  -- the nodes, those of types left out; one that has parts counts 2
  pub tree_size : TermTree → ℕ
  tree_size (var x) = 1
  tree_size (global d) = 1
  tree_size (made m) = 1
  tree_size (lam t e) = tree_size e + 2
  tree_size (app f a) = tree_size f + tree_size a + 2
  tree_size (ty_lam k e) = tree_size e + 2
  tree_size (ty_app f t) = tree_size f + 2
  tree_size (letrec g e) = group_size g + tree_size e + 2
  tree_size (con c) = 1
  tree_size (prim p) = 1
  tree_size (lit s b) = 1
  tree_size (vec_lit t es) = terms_size es + 2
  tree_size (case_of s alts) = tree_size s + alts_size alts + 2

  pub terms_size : Terms → ℕ
  terms_size no_terms = 0
  terms_size (term_and e es) = tree_size e + terms_size es + 1

  pub group_size : Group → ℕ
  group_size no_bindings = 0
  group_size (bind t e g) = tree_size e + group_size g + 1

  pub alts_size : Alts → ℕ
  alts_size no_alts = 0
  alts_size (alt q e more) = tree_size e + alts_size more + 1

-- what the arguments of a spine add
abbrev pub args_size : List Arg → ℕ
args_size [] = 0
args_size (OfTerm a ∷ args) = tree_size a + args_size args + 2
args_size (OfType t ∷ args) = args_size args + 2
