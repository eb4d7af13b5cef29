-- What holds of all cases of a term.
use Rattle.chw_terms.specs.TermTree.{TermTree, lam, app, ty_lam, ty_app, letrec, vec_lit, case_of, Terms, no_terms, term_and}
use Rattle.chw_terms.specs.TermTree.{Group, no_bindings, bind, Alts, no_alts, alt}

abbrev mutual
  -- this holds of the alternatives of each case in the term
  pub AllCases : (Alts → Type 0) → TermTree → Type 0
  AllCases P (lam t e) = AllCases P e
  AllCases P (app f a) = AllCases P f × AllCases P a
  AllCases P (ty_lam k e) = AllCases P e
  AllCases P (ty_app f t) = AllCases P f
  AllCases P (letrec g e) = AllCasesOfGroup P g × AllCases P e
  AllCases P (vec_lit t es) = AllCasesOfTerms P es
  AllCases P (case_of e alts) = P alts × AllCases P e × AllCasesOfAlts P alts
  AllCases P _ = Unit {0}

  pub AllCasesOfTerms : (Alts → Type 0) → Terms → Type 0
  AllCasesOfTerms P no_terms = Unit {0}
  AllCasesOfTerms P (term_and e es) = AllCases P e × AllCasesOfTerms P es

  pub AllCasesOfGroup : (Alts → Type 0) → Group → Type 0
  AllCasesOfGroup P no_bindings = Unit {0}
  AllCasesOfGroup P (bind t e g) = AllCases P e × AllCasesOfGroup P g

  pub AllCasesOfAlts : (Alts → Type 0) → Alts → Type 0
  AllCasesOfAlts P no_alts = Unit {0}
  AllCasesOfAlts P (alt q e more) = AllCases P e × AllCasesOfAlts P more
