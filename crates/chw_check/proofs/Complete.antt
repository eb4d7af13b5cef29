-- Typed terms are complete exactly where no case in them leaves out a constructor or a default.
use Rattle.std.proofs.Common.{List}
use Rattle.chw_types.specs.declared.kind.Kind.{Kind}
use Rattle.chw_types.specs.TypeTree.{TypeTree}
use Rattle.chw_terms.specs.TermTree.{TermTree, Terms, Group, Alts}
use Rattle.chw_typing.specs.Scopes.{Setting}
use Rattle.chw_typing.specs.Programs.{IsComplete, AllAreComplete, GroupIsComplete, AltsAreComplete}
use Rattle.chw_typing.specs.Typing.{HasType, h_var, h_global, h_made, h_lam, h_app, h_ty_lam, h_ty_app, h_letrec, h_con, h_prim, h_lit, h_vec, h_case, AreBound, none_bound, bound_and, AllHave, none_have, have_and, AllGive, none_give, give_and}
use Rattle.chw_check.specs.declared.cases.lacks.Sought.{Sought}
use Rattle.chw_check.specs.FirstCase.{KeepsAll, TermsKeepAll, GroupKeepsAll, AltsKeepAll}
use Rattle.chw_check.proofs.Covered.{covered, nothing_left}

mutual
  pub complete : {s : Setting} {kinds : List Kind} {vars : List TypeTree} {e : TermTree} {t : TypeTree} → HasType s kinds vars e t → ((sought : Sought) → KeepsAll s.datas sought e) → IsComplete s.datas e
  complete (h_var x) k = tt
  complete (h_global x) k = tt
  complete (h_made x) k = tt
  complete (h_lam d l) k = complete d k
  complete (h_app d a x) k = (complete d (λ q. (k q).0), complete a (λ q. (k q).1))
  complete (h_ty_lam d) k = complete d k
  complete (h_ty_app d l x m) k = complete d k
  complete (h_letrec d l bs) k = (group_complete bs (λ q. (k q).0), complete d (λ q. (k q).1))
  complete (h_con x) k = tt
  complete h_prim k = tt
  complete (h_lit l) k = tt
  complete (h_vec t d) k = all_complete d k
  complete (h_case {more = more} {f = f} d i l b g j a gives n) k = (covered f more b.pattern (λ q. (k q).0), complete d (λ q. (k q).1), (complete g (λ q. (k q).2.0), alts_complete gives (λ q. (k q).2.1)))

  group_complete : {s : Setting} {kinds : List Kind} {vars : List TypeTree} {j : Kind} {g : Group} → AreBound s kinds vars j g → ((sought : Sought) → GroupKeepsAll s.datas sought g) → GroupIsComplete s.datas g
  group_complete none_bound k = tt
  group_complete (bound_and l a d x bs) k = (complete d (λ q. (k q).0), group_complete bs (λ q. (k q).1))

  all_complete : {s : Setting} {kinds : List Kind} {vars : List TypeTree} {t : TypeTree} {es : Terms} → AllHave s kinds vars t es → ((sought : Sought) → TermsKeepAll s.datas sought es) → AllAreComplete s.datas es
  all_complete none_have k = tt
  all_complete (have_and d x more) k = (complete d (λ q. (k q).0), all_complete more (λ q. (k q).1))

  alts_complete : {s : Setting} {kinds : List Kind} {vars : List TypeTree} {u t : TypeTree} {alts : Alts} → AllGive s kinds vars u t alts → ((sought : Sought) → AltsKeepAll s.datas sought alts) → AltsAreComplete s.datas alts
  alts_complete none_give k = tt
  alts_complete (give_and b d x more) k = (complete d (λ q. (k q).0), alts_complete more (λ q. (k q).1))

mutual
  pub kept : (sought : Sought) {s : Setting} {kinds : List Kind} {vars : List TypeTree} {e : TermTree} {t : TypeTree} → HasType s kinds vars e t → IsComplete s.datas e → KeepsAll s.datas sought e
  kept sought (h_var x) k = tt
  kept sought (h_global x) k = tt
  kept sought (h_made x) k = tt
  kept sought (h_lam d l) k = kept sought d k
  kept sought (h_app d a x) k = (kept sought d k.0, kept sought a k.1)
  kept sought (h_ty_lam d) k = kept sought d k
  kept sought (h_ty_app d l x m) k = kept sought d k
  kept sought (h_letrec d l bs) k = (group_kept sought bs k.0, kept sought d k.1)
  kept sought (h_con x) k = tt
  kept sought h_prim k = tt
  kept sought (h_lit l) k = tt
  kept sought (h_vec t d) k = all_kept sought d k
  kept sought (h_case d i l b g j a gives n) k = (nothing_left sought b.pattern gives k.0, kept sought d k.1, (kept sought g k.2.0, alts_kept sought gives k.2.1))

  group_kept : (sought : Sought) {s : Setting} {kinds : List Kind} {vars : List TypeTree} {j : Kind} {g : Group} → AreBound s kinds vars j g → GroupIsComplete s.datas g → GroupKeepsAll s.datas sought g
  group_kept sought none_bound k = tt
  group_kept sought (bound_and l a d x bs) k = (kept sought d k.0, group_kept sought bs k.1)

  all_kept : (sought : Sought) {s : Setting} {kinds : List Kind} {vars : List TypeTree} {t : TypeTree} {es : Terms} → AllHave s kinds vars t es → AllAreComplete s.datas es → TermsKeepAll s.datas sought es
  all_kept sought none_have k = tt
  all_kept sought (have_and d x more) k = (kept sought d k.0, all_kept sought more k.1)

  alts_kept : (sought : Sought) {s : Setting} {kinds : List Kind} {vars : List TypeTree} {u t : TypeTree} {alts : Alts} → AllGive s kinds vars u t alts → AltsAreComplete s.datas alts → AltsKeepAll s.datas sought alts
  alts_kept sought none_give k = tt
  alts_kept sought (give_and b d x more) k = (kept sought d k.0, alts_kept sought more k.1)
