-- The cases of a term: whether none leaves out what is sought, and what the first one that does
-- leaves out.
use Rattle.std.specs.Prelude.{List, ◌⊎◌}
use Rattle.chw_types.specs.declared.declarations.Data.{Data}
use Rattle.chw_terms.specs.TermTree.{TermTree, lam, app, ty_lam, ty_app, letrec, vec_lit, case_of}
use Rattle.chw_terms.specs.TermTree.{Terms, no_terms, term_and, Group, no_bindings, bind}
use Rattle.chw_terms.specs.TermTree.{Alts, no_alts, alt}
use Rattle.chw_typing.specs.AllCases.{AllCases, AllCasesOfAlts, AllCasesOfGroup, AllCasesOfTerms}
use Rattle.chw_check.specs.declared.cases.lacks.Lacks.{Lacks}
use Rattle.chw_check.specs.declared.cases.lacks.Sought.{Sought}
use Rattle.chw_check.specs.LeavesOut.{LeavesOut, LeavesNothing}

-- no case in the term leaves out what is sought
abbrev pub KeepsAll : List Data → Sought → TermTree → Type 0
KeepsAll datas sought e = AllCases (LeavesNothing datas sought) e

abbrev pub TermsKeepAll : List Data → Sought → Terms → Type 0
TermsKeepAll datas sought es = AllCasesOfTerms (LeavesNothing datas sought) es

abbrev pub GroupKeepsAll : List Data → Sought → Group → Type 0
GroupKeepsAll datas sought g = AllCasesOfGroup (LeavesNothing datas sought) g

abbrev pub AltsKeepAll : List Data → Sought → Alts → Type 0
AltsKeepAll datas sought alts = AllCasesOfAlts (LeavesNothing datas sought) alts

abbrev mutual
  -- the first case of the term that leaves out what is sought leaves this out: a case stands before
  -- those in it, and else the order is that of the text
  pub FirstIn : List Data → Sought → TermTree → Lacks → Type 0
  FirstIn datas sought (lam t e) l = FirstIn datas sought e l
  FirstIn datas sought (app f a) l =
      FirstIn datas sought f l ⊎ (KeepsAll datas sought f × FirstIn datas sought a l)
  FirstIn datas sought (ty_lam k e) l = FirstIn datas sought e l
  FirstIn datas sought (ty_app f t) l = FirstIn datas sought f l
  FirstIn datas sought (letrec g e) l =
      FirstInGroup datas sought g l ⊎ (GroupKeepsAll datas sought g × FirstIn datas sought e l)
  FirstIn datas sought (vec_lit t es) l = FirstInTerms datas sought es l
  FirstIn datas sought (case_of e alts) l =
      LeavesOut datas sought alts l ⊎ (LeavesNothing datas sought alts
      × (FirstIn datas sought e l ⊎ (KeepsAll datas sought e × FirstInAlts datas sought alts l)))
  FirstIn datas sought _ l = ⊥

  pub FirstInTerms : List Data → Sought → Terms → Lacks → Type 0
  FirstInTerms datas sought no_terms l = ⊥
  FirstInTerms datas sought (term_and e es) l =
      FirstIn datas sought e l ⊎ (KeepsAll datas sought e × FirstInTerms datas sought es l)

  pub FirstInGroup : List Data → Sought → Group → Lacks → Type 0
  FirstInGroup datas sought no_bindings l = ⊥
  FirstInGroup datas sought (bind t e g) l =
      FirstIn datas sought e l ⊎ (KeepsAll datas sought e × FirstInGroup datas sought g l)

  pub FirstInAlts : List Data → Sought → Alts → Lacks → Type 0
  FirstInAlts datas sought no_alts l = ⊥
  FirstInAlts datas sought (alt q e more) l =
      FirstIn datas sought e l ⊎ (KeepsAll datas sought e × FirstInAlts datas sought more l)
