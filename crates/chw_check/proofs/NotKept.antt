-- A term whose first case leaves out what is sought doesn't keep all of it.
use Rattle.std.proofs.Common.{List}
use Rattle.chw_types.specs.declared.declarations.Data.{Data}
use Rattle.chw_terms.specs.TermTree.{TermTree, var, global, made, lam, app, ty_lam, ty_app, letrec, con, prim, lit, vec_lit, case_of, Terms, no_terms, term_and, Group, no_bindings, bind, Alts, no_alts, alt}
use Rattle.chw_check.specs.declared.cases.lacks.Lacks.{Lacks}
use Rattle.chw_check.specs.declared.cases.lacks.Sought.{Sought}
use Rattle.chw_check.specs.FirstCase.{KeepsAll, TermsKeepAll, GroupKeepsAll, AltsKeepAll, FirstIn, FirstInTerms, FirstInGroup, FirstInAlts}
use Rattle.chw_check.proofs.Covered.{either}

mutual
  pub not_kept : (datas : List Data) (sought : Sought) (e : TermTree) (l : Lacks) → FirstIn datas sought e l → KeepsAll datas sought e → ⊥
  not_kept datas sought (var x) l h k = h
  not_kept datas sought (global d) l h k = h
  not_kept datas sought (made m) l h k = h
  not_kept datas sought (lam t e) l h k = not_kept datas sought e l h k
  not_kept datas sought (app f a) l h k = either (λ x. not_kept datas sought f l x k.0) (λ x. not_kept datas sought a l x.1 k.1) h
  not_kept datas sought (ty_lam j e) l h k = not_kept datas sought e l h k
  not_kept datas sought (ty_app f t) l h k = not_kept datas sought f l h k
  not_kept datas sought (letrec g e) l h k = either (λ x. group_not_kept datas sought g l x k.0) (λ x. not_kept datas sought e l x.1 k.1) h
  not_kept datas sought (con c) l h k = h
  not_kept datas sought (prim p) l h k = h
  not_kept datas sought (lit s bs) l h k = h
  not_kept datas sought (vec_lit t es) l h k = terms_not_kept datas sought es l h k
  not_kept datas sought (case_of e alts) l h k = either (λ x. k.0 l x) (λ x. either (λ y. not_kept datas sought e l y k.1) (λ y. alts_not_kept datas sought alts l y.1 k.2) x.1) h

  terms_not_kept : (datas : List Data) (sought : Sought) (es : Terms) (l : Lacks) → FirstInTerms datas sought es l → TermsKeepAll datas sought es → ⊥
  terms_not_kept datas sought no_terms l h k = h
  terms_not_kept datas sought (term_and e es) l h k = either (λ x. not_kept datas sought e l x k.0) (λ x. terms_not_kept datas sought es l x.1 k.1) h

  group_not_kept : (datas : List Data) (sought : Sought) (g : Group) (l : Lacks) → FirstInGroup datas sought g l → GroupKeepsAll datas sought g → ⊥
  group_not_kept datas sought no_bindings l h k = h
  group_not_kept datas sought (bind t e g) l h k = either (λ x. not_kept datas sought e l x k.0) (λ x. group_not_kept datas sought g l x.1 k.1) h

  alts_not_kept : (datas : List Data) (sought : Sought) (alts : Alts) (l : Lacks) → FirstInAlts datas sought alts l → AltsKeepAll datas sought alts → ⊥
  alts_not_kept datas sought no_alts l h k = h
  alts_not_kept datas sought (alt q e more) l h k = either (λ x. not_kept datas sought e l x k.0) (λ x. alts_not_kept datas sought more l x.1 k.1) h
