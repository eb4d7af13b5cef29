-- The lists that a walk over a term passes: arguments, elements, bindings and alternatives.
use Rattle.std.proofs.Common.{inl, inr, ◌⊎◌, List, [], ◌∷◌}
use Rattle.chw_types.specs.declared.declarations.Data.{Data}
use Rattle.chw_terms.specs.declared.term.Alt.{Alt}
use Rattle.chw_terms.specs.declared.term.Arg.{Arg}
use Rattle.chw_terms.specs.declared.term.Binding.{Binding}
use Rattle.chw_terms.specs.TermTree.{TermTree}
use Rattle.chw_terms.specs.TermView.{terms_of, group_of, alts_of}
use Rattle.chw_check.specs.declared.cases.lacks.Lacks.{Lacks}
use Rattle.chw_check.specs.declared.cases.lacks.Sought.{Sought}
use Rattle.chw_check.specs.CasesFound.{ArgKeepsAll, FirstInArg}
use Rattle.chw_check.specs.FirstCase.{KeepsAll, TermsKeepAll, GroupKeepsAll, AltsKeepAll, FirstIn, FirstInTerms, FirstInGroup, FirstInAlts}
use Rattle.chw_check.proofs.CaseItems.{Walk}

-- no case in any of these arguments leaves out what is sought
abbrev pub ArgsKeepAll : List Data → Sought → List Arg → Type 0
ArgsKeepAll datas sought [] = Unit {0}
ArgsKeepAll datas sought (a ∷ args) = ArgKeepsAll datas sought a × ArgsKeepAll datas sought args

-- the first case in them that leaves out what is sought leaves this out
abbrev pub FirstInArgs : List Data → Sought → List Arg → Lacks → Type 0
FirstInArgs datas sought [] l = ⊥
FirstInArgs datas sought (a ∷ args) l = FirstInArg datas sought a l ⊎ (ArgKeepsAll datas sought a × FirstInArgs datas sought args l)

abbrev pub args : List Data → Sought → Walk Arg
args datas sought =
    record {
      Keeps = λ a. ArgKeepsAll datas sought a;
      First = λ a l. FirstInArg datas sought a l;
      AllKeep = λ xs. ArgsKeepAll datas sought xs;
      FirstOf = λ xs l. FirstInArgs datas sought xs l;
      none = tt;
      more = λ x xs k ks. (k, ks);
      here = λ x xs l f. inl f;
      later = λ x xs l k f. inr (k, f);
    }

abbrev pub elements : List Data → Sought → Walk TermTree
elements datas sought =
    record {
      Keeps = λ e. KeepsAll datas sought e;
      First = λ e l. FirstIn datas sought e l;
      AllKeep = λ xs. TermsKeepAll datas sought (terms_of xs);
      FirstOf = λ xs l. FirstInTerms datas sought (terms_of xs) l;
      none = tt;
      more = λ x xs k ks. (k, ks);
      here = λ x xs l f. inl f;
      later = λ x xs l k f. inr (k, f);
    }

abbrev pub bindings : List Data → Sought → Walk Binding
bindings datas sought =
    record {
      Keeps = λ b. KeepsAll datas sought b.body;
      First = λ b l. FirstIn datas sought b.body l;
      AllKeep = λ xs. GroupKeepsAll datas sought (group_of xs);
      FirstOf = λ xs l. FirstInGroup datas sought (group_of xs) l;
      none = tt;
      more = λ x xs k ks. (k, ks);
      here = λ x xs l f. inl f;
      later = λ x xs l k f. inr (k, f);
    }

abbrev pub alternatives : List Data → Sought → Walk Alt
alternatives datas sought =
    record {
      Keeps = λ a. KeepsAll datas sought a.body;
      First = λ a l. FirstIn datas sought a.body l;
      AllKeep = λ xs. AltsKeepAll datas sought (alts_of xs);
      FirstOf = λ xs l. FirstInAlts datas sought (alts_of xs) l;
      none = tt;
      more = λ x xs k ks. (k, ks);
      here = λ x xs l f. inl f;
      later = λ x xs l k f. inr (k, f);
    }
