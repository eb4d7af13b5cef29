-- The parts of a term that has a type have types.
use Rattle.std.proofs.Common.{◌≡◌, sym, subst, ℕ, zero, suc, List, [], ◌∷◌, ◌++◌, Some}
use Rattle.std.specs.List.{slice_get}
use Rattle.chw_types.specs.TypeTree.{TypeTree}
use Rattle.chw_terms.specs.declared.term.Arg.{Arg}
use Rattle.chw_terms.specs.declared.term.Arg.TheVariants.{OfTerm}
use Rattle.chw_terms.specs.TermTree.{TermTree, vec_lit, case_of, Terms, Alts}
use Rattle.chw_terms.specs.TermView.{terms_of}
use Rattle.chw_typing.specs.Scopes.{Setting}
use Rattle.chw_typing.specs.Typing.{HasType, h_case, h_vec, AllHave, have_and}
use Rattle.rewriting.specs.Origins.{Origins, setting_at}
use Rattle.rewriting.specs.Spots.{Spot}
use Rattle.rule_parts.specs.Cores.{HasTypeAt}
use Rattle.call_types.specs.Arguments.{AllTyped}
use Rattle.work_operands.specs.Firsts.{AllElementsTyped}

-- the first ones of the arguments
found_in_front : (given rest : List Arg) (i : ℕ) (a : Arg) → slice_get given i ≡ Some a
    → slice_get (given ++ rest) i ≡ Some a
found_in_front [] rest i a is = absurd cc
found_in_front (b ∷ given) rest zero a is = is
found_in_front (b ∷ given) rest (suc i) a is = found_in_front given rest i a is

pub front_typed : (o : Origins) (at : Spot) (args given rest : List Arg) → args ≡ given ++ rest
    → AllTyped o at args → AllTyped o at given
front_typed o at args given rest parts typed i x is =
    typed i x
    (subst (λ args. slice_get args i ≡ Some (OfTerm x)) (sym parts)
    (found_in_front given rest i (OfTerm x) is))

-- a scrutinee
scrutinee_of : {s : Setting} {vars : List TypeTree} {t : TypeTree} {e : TermTree} {alts : Alts}
    → HasType s [] vars (case_of e alts) t → (u : TypeTree) × HasType s [] vars e u
scrutinee_of (h_case {u = u} e looked k b f l a g n) = (u, e)

pub scrutinee_typed : (o : Origins) (at : Spot) (e : TermTree) (alts : Alts)
    → HasTypeAt o at (case_of e alts) → HasTypeAt o at e
scrutinee_typed o at e alts typed = scrutinee_of typed.1

-- the elements of a vector
elements_of : {s : Setting} {vars : List TypeTree} {t u : TypeTree} {es : Terms}
    → HasType s [] vars (vec_lit t es) u → AllHave s [] vars t es
elements_of (h_vec k all) = all

element_typed : (o : Origins) (at : Spot) (t : TypeTree) (es : List TermTree)
    → AllHave (setting_at o) [] at.vars t (terms_of es) → AllElementsTyped o at es
element_typed o at t [] all i x is = absurd cc
element_typed o at t (e ∷ es) (have_and {u = u} has same all) zero x is =
    let one : e ≡ x = cc in
    subst (HasTypeAt o at) one (u, has)
element_typed o at t (e ∷ es) (have_and has same all) (suc i) x is =
    element_typed o at t es all i x is

pub elements_typed : (o : Origins) (at : Spot) (t : TypeTree) (es : List TermTree)
    → HasTypeAt o at (vec_lit t (terms_of es)) → AllElementsTyped o at es
elements_typed o at t es typed = element_typed o at t es (elements_of typed.1)
