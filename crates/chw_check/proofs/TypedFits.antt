-- In what is typed each written type has a kind that it may have there.
use Rattle.std.proofs.Common.{List}
use Rattle.chw_types.specs.TypeTree.{TypeTree}
use Rattle.chw_types.specs.declared.kind.Kind.{Kind}
use Rattle.chw_terms.specs.TermTree.{TermTree, Terms, Group, Alts}
use Rattle.chw_typing.specs.Scopes.{Setting}
use Rattle.chw_typing.specs.Typing.{HasType, h_var, h_global, h_made, h_lam, h_app, h_ty_lam, h_ty_app, h_letrec, h_con, h_prim, h_lit, h_vec, h_case, AreBound, none_bound, bound_and, AllHave, none_have, have_and, AllGive, none_give, give_and}
use Rattle.chw_typing.proofs.Heads.{functions_of_terms}
use Rattle.chw_typing.proofs.Kinded.{term_type, function_takes}
use Rattle.chw_check.specs.Fits.{TypesFit, AllFit, GroupFits, AltsFit}

mutual
  pub typed_fits : {s : Setting} {kinds : List Kind} {vars : List TypeTree} {e : TermTree} {t : TypeTree} → HasType s kinds vars e t → TypesFit s kinds e
  typed_fits (h_var e) = tt
  typed_fits (h_global e) = tt
  typed_fits (h_made e) = tt
  typed_fits {s} {kinds} (h_lam {a = a} {b = b} {k = k} d l) = (function_takes s kinds a b k l, typed_fits d)
  typed_fits (h_app d e x) = (typed_fits d, typed_fits e)
  typed_fits (h_ty_lam d) = typed_fits d
  typed_fits (h_ty_app {j = j} d l x m) = (typed_fits d, record { kind = j; has = l })
  typed_fits (h_letrec d l bs) = (bound_fit bs, typed_fits d)
  typed_fits (h_con e) = tt
  typed_fits h_prim = tt
  typed_fits (h_lit l) = tt
  typed_fits (h_vec l d) = (record { kind = l.kind; has = l.has }, all_fit d)
  typed_fits (h_case d i l b f k a o n) = (typed_fits d, (typed_fits f, given_fit o))

  bound_fit : {s : Setting} {kinds : List Kind} {vars : List TypeTree} {k : Kind} {g : Group} → AreBound s kinds vars k g → GroupFits s kinds g
  bound_fit none_bound = tt
  bound_fit {s} {kinds} (bound_and {j = j} {k = k} {t = t} l h d x bs) = (term_type s kinds t j l (functions_of_terms j k h).0, typed_fits d, bound_fit bs)

  all_fit : {s : Setting} {kinds : List Kind} {vars : List TypeTree} {t : TypeTree} {es : Terms} → AllHave s kinds vars t es → AllFit s kinds es
  all_fit none_have = tt
  all_fit (have_and d x more) = (typed_fits d, all_fit more)

  given_fit : {s : Setting} {kinds : List Kind} {vars : List TypeTree} {u t : TypeTree} {alts : Alts} → AllGive s kinds vars u t alts → AltsFit s kinds alts
  given_fit none_give = tt
  given_fit (give_and b d x more) = (typed_fits d, given_fit more)
