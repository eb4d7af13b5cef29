-- What the first case of a term leaves out is a constructor of the program, if it is one.
use Rattle.std.proofs.Common.{◌≡◌, List, inl, inr, ap, subst}
use Rattle.std.specs.Prelude.{IsSome, is_some}
use Rattle.chw_base.specs.declared.index.ConId.{ConId}
use Rattle.chw_types.specs.declared.declarations.Data.{Data}
use Rattle.chw_terms.specs.Constructors.{con_at}
use Rattle.chw_terms.specs.TermTree.{TermTree, var, global, made, lam, app, ty_lam, ty_app, letrec, con, prim, lit, vec_lit, case_of, Terms, no_terms, term_and, Group, no_bindings, bind, Alts, no_alts, alt}
use Rattle.chw_terms.specs.declared.program.Program.{Program}
use Rattle.chw_check.specs.Incomplete.{IsFirstIncomplete, of_constructors, of_defaults}
use Rattle.chw_check.specs.LeavesOut.{LeavesOut, a_constructor, a_default}
use Rattle.chw_check.specs.FirstCase.{FirstIn, FirstInTerms, FirstInGroup, FirstInAlts}
use Rattle.chw_check.specs.declared.cases.lacks.Incomplete.{Incomplete}
use Rattle.chw_check.specs.declared.cases.lacks.Lacks.{Lacks}
use Rattle.chw_check.specs.declared.cases.lacks.Lacks.TheVariants.{Constructor, Default}
use Rattle.chw_check.specs.declared.cases.lacks.Sought.{Sought}
use Rattle.chw_check.specs.declared.cases.lacks.Sought.TheVariants.{Constructors, Defaults}

-- where a constructor is lacking, it is one of the program
pub IsKnown : List Data → Lacks → Type 0
IsKnown datas (Constructor c) = IsSome (con_at datas c.number)
IsKnown datas Default = Unit {0}

left_out_known : {datas : List Data} {sought : Sought} {alts : Alts} {l : Lacks} → LeavesOut datas sought alts l → IsKnown datas l
unfolding IsKnown
left_out_known (a_constructor it lacking without is is_lacking same not earlier) = ap is_some is_lacking
left_out_known (a_default without) = tt

module _ (datas : List Data) (sought : Sought) (l : Lacks) where
  mutual
    pub lacking_known : (e : TermTree) → FirstIn datas sought e l → IsKnown datas l
    lacking_known (var x) f = absurd f
    lacking_known (global d) f = absurd f
    lacking_known (made m) f = absurd f
    lacking_known (lam t e) f = lacking_known e f
    lacking_known (app e a) (inl f) = lacking_known e f
    lacking_known (app e a) (inr f) = lacking_known a f.1
    lacking_known (ty_lam k e) f = lacking_known e f
    lacking_known (ty_app e t) f = lacking_known e f
    lacking_known (letrec g e) (inl f) = group_lacking_known g f
    lacking_known (letrec g e) (inr f) = lacking_known e f.1
    lacking_known (con c) f = absurd f
    lacking_known (prim p) f = absurd f
    lacking_known (lit s bits) f = absurd f
    lacking_known (vec_lit t es) f = terms_lacking_known es f
    lacking_known (case_of e alts) (inl f) = left_out_known f
    lacking_known (case_of e alts) (inr f) = elim f.1 [ inl h ↦ lacking_known e h | inr h ↦ alts_lacking_known alts h.1 ]

    terms_lacking_known : (es : Terms) → FirstInTerms datas sought es l → IsKnown datas l
    terms_lacking_known no_terms f = absurd f
    terms_lacking_known (term_and e es) (inl f) = lacking_known e f
    terms_lacking_known (term_and e es) (inr f) = terms_lacking_known es f.1

    group_lacking_known : (g : Group) → FirstInGroup datas sought g l → IsKnown datas l
    group_lacking_known no_bindings f = absurd f
    group_lacking_known (bind t e g) (inl f) = lacking_known e f
    group_lacking_known (bind t e g) (inr f) = group_lacking_known g f.1

    alts_lacking_known : (alts : Alts) → FirstInAlts datas sought alts l → IsKnown datas l
    alts_lacking_known no_alts f = absurd f
    alts_lacking_known (alt q e more) (inl f) = lacking_known e f
    alts_lacking_known (alt q e more) (inr f) = alts_lacking_known more f.1

-- the constructor that it leaves out is one of the program
pub lacking_constructor : (datas : List Data) (sought : Sought) (e : TermTree) (l : Lacks) (c : ConId) → FirstIn datas sought e l → l ≡ Constructor c → IsSome (con_at datas c.number)
unfolding IsKnown
lacking_constructor datas sought e l c f is = subst (IsKnown datas) is (lacking_known datas sought l e f)

-- so is the one that the first case of the program leaves out
pub first_known : (p : Program) (i : Incomplete) (c : ConId) → IsFirstIncomplete p i → i.lacks ≡ Constructor c → IsSome (con_at p.datas c.number)
first_known p i c (of_constructors first) is = lacking_constructor p.datas Constructors first.it.body i.lacks c first.first is
first_known p i c (of_defaults kept first) is = lacking_constructor p.datas Defaults first.it.body i.lacks c first.first is
