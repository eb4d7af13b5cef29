-- The made definitions that stand in terms, in the order of the text. One that stands at several
-- places is listed as often.
use Rattle.std.specs.Prelude.{ℕ, List, [], ◌∷◌, ◌++◌}
use Rattle.chw_terms.specs.declared.scene.Made.{Made}
use Rattle.chw_terms.specs.declared.term.Arg.{Arg}
use Rattle.chw_terms.specs.declared.term.Arg.TheVariants.{OfTerm, OfType}
use Rattle.chw_terms.specs.TermTree.{TermTree, var, global, made, lam, app, ty_lam, ty_app}
use Rattle.chw_terms.specs.TermTree.{letrec, con, prim, lit, vec_lit, case_of, Terms, no_terms}
use Rattle.chw_terms.specs.TermTree.{term_and, Group, no_bindings, bind, Alts, no_alts, alt}

unfoldable mutual
  -- in a term
  pub made_in : TermTree → List ℕ
  made_in (var x) = []
  made_in (global d) = []
  made_in (made m) = m ∷ []
  made_in (lam t e) = made_in e
  made_in (app f a) = made_in f ++ made_in a
  made_in (ty_lam k e) = made_in e
  made_in (ty_app f t) = made_in f
  made_in (letrec g e) = made_in_group g ++ made_in e
  made_in (con c) = []
  made_in (prim p) = []
  made_in (lit s bs) = []
  made_in (vec_lit t es) = made_in_all es
  made_in (case_of s alts) = made_in s ++ made_in_alts alts

  pub made_in_all : Terms → List ℕ
  made_in_all no_terms = []
  made_in_all (term_and e es) = made_in e ++ made_in_all es

  pub made_in_group : Group → List ℕ
  made_in_group no_bindings = []
  made_in_group (bind t e g) = made_in e ++ made_in_group g

  pub made_in_alts : Alts → List ℕ
  made_in_alts no_alts = []
  made_in_alts (alt q e more) = made_in e ++ made_in_alts more

-- in an argument
abbrev pub arg_made : Arg → List ℕ
arg_made (OfTerm e) = made_in e
arg_made (OfType t) = []

-- in the body of a made definition
abbrev pub body_made : Made → List ℕ
body_made it = made_in it.body
