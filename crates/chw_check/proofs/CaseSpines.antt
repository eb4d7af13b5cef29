-- The cases of a head with its arguments.
use Rattle.std.proofs.Common.{◌≡◌, ℕ, ◌<◌, ◌≤◌, inl, inr, subst, ◌∙◌, ap, List, [], ◌∷◌, length, drop, get_or}
use Rattle.std.specs.Prelude.{Option, Some, None}
use Rattle.chw_types.specs.declared.declarations.Data.{Data}
use Rattle.chw_terms.specs.declared.term.Arg.{Arg}
use Rattle.chw_terms.specs.declared.term.Arg.TheVariants.{OfTerm, OfType}
use Rattle.chw_terms.specs.TermTree.{TermTree, app, ty_app}
use Rattle.chw_terms.specs.TermView.{applied}
use Rattle.chw_check.specs.declared.cases.lacks.Lacks.{Lacks}
use Rattle.chw_check.specs.declared.cases.lacks.Sought.{Sought}
use Rattle.chw_check.specs.CasesFound.{IsFound, IsFoundInArg, FirstInArg}
use Rattle.chw_check.specs.FirstCase.{KeepsAll, FirstIn}
use Rattle.chw_check.proofs.Covered.{either}
use Rattle.chw_check.proofs.CaseItems.{Told, told_here, told_end}
use Rattle.chw_check.proofs.CaseLists.{ArgsKeepAll, FirstInArgs, args as walk}

pub spine_keeps : (datas : List Data) (sought : Sought) (e : TermTree) (args : List Arg) → KeepsAll datas sought e → ArgsKeepAll datas sought args → KeepsAll datas sought (applied e args)
spine_keeps datas sought e [] k ks = k
spine_keeps datas sought e (OfTerm a ∷ args) k ks = spine_keeps datas sought (app e a) args (k, ks.0) ks.1
spine_keeps datas sought e (OfType t ∷ args) k ks = spine_keeps datas sought (ty_app e t) args k ks.1

pub first_in_head : (datas : List Data) (sought : Sought) (e : TermTree) (args : List Arg) (l : Lacks) → FirstIn datas sought e l → FirstIn datas sought (applied e args) l
first_in_head datas sought e [] l f = f
first_in_head datas sought e (OfTerm a ∷ args) l f = first_in_head datas sought (app e a) args l (inl f)
first_in_head datas sought e (OfType t ∷ args) l f = first_in_head datas sought (ty_app e t) args l f

pub first_in_args : (datas : List Data) (sought : Sought) (e : TermTree) (args : List Arg) (l : Lacks) → KeepsAll datas sought e → FirstInArgs datas sought args l → FirstIn datas sought (applied e args) l
first_in_args datas sought e [] l k f = absurd f
first_in_args datas sought e (OfTerm a ∷ args) l k f =
    either (λ x. first_in_head datas sought (app e a) args l (inr (k, x))) (λ x. first_in_args datas sought (app e a) args l (k, x.0) x.1) f
first_in_args datas sought e (OfType t ∷ args) l k f = either (λ x. absurd x) (λ x. first_in_args datas sought (ty_app e t) args l k x.1) f

-- what was found, by cases
pub found_some : (datas : List Data) (sought : Sought) (e : TermTree) (r : Option Lacks) (l : Lacks) → r ≡ Some l → IsFound datas sought e r → FirstIn datas sought e l
found_some datas sought e r l is h = subst (IsFound datas sought e) is h

pub found_none : (datas : List Data) (sought : Sought) (e : TermTree) (r : Option Lacks) → r ≡ None → IsFound datas sought e r → KeepsAll datas sought e
found_none datas sought e r is h = subst (IsFound datas sought e) is h

-- the head of a term is found to have the first case
pub head_found : (datas : List Data) (sought : Sought) (e t : TermTree) (args : List Arg) (r : Option Lacks) (l : Lacks) → applied e args ≡ t → r ≡ Some l → IsFound datas sought e r → FirstIn datas sought t l
head_found datas sought e t args r l whole is h = subst (λ f. FirstIn datas sought f l) whole (first_in_head datas sought e args l (found_some datas sought e r l is h))

-- an argument is, where those before it keep all
pub arg_found : (datas : List Data) (sought : Sought) (e t : TermTree) (args xs : List Arg) (i : ℕ) (a d : Arg) (o r : Option Lacks) (l : Lacks) → applied e args ≡ t → xs ≡ args → o ≡ None → IsFound datas sought e o → i < length xs → a ≡ get_or xs i d → Told (walk datas sought) xs (drop i xs) → r ≡ Some l → IsFoundInArg datas sought a r → FirstIn datas sought t l
arg_found datas sought e t args xs i a d o r l whole same none head less at told is h =
    let first : FirstInArg datas sought a l = subst (IsFoundInArg datas sought a) is h in
    subst (λ f. FirstIn datas sought f l) (ap (applied e) same ∙ whole)
    (first_in_args datas sought e xs l (found_none datas sought e o none head) (told_here (walk datas sought) xs i a d l less at told first))

-- or all keep all
pub none_found : (datas : List Data) (sought : Sought) (e t : TermTree) (args xs : List Arg) (i : ℕ) (o : Option Lacks) → applied e args ≡ t → xs ≡ args → o ≡ None → IsFound datas sought e o → length xs ≤ i → Told (walk datas sought) xs (drop i xs) → KeepsAll datas sought t
none_found datas sought e t args xs i o whole same none head end told =
    subst (KeepsAll datas sought) (ap (applied e) same ∙ whole)
    (spine_keeps datas sought e xs (found_none datas sought e o none head) (told_end (walk datas sought) xs i end told))
