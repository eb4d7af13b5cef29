-- A letrec that binds terms to names of their parameters' types, with a body in the scope of these names.
use Rattle.std.proofs.Common.{◌≡◌, suc, refl, sym, ap, ◌∙◌, subst, List, [], ◌∷◌, ◌++◌, map, length, reverse}
use Rattle.std.proofs.lemmas.List.{length-reverse}
use Rattle.chw_types.specs.declared.kind.Kind.{Kind}
use Rattle.chw_types.specs.TypeTree.{TypeTree}
use Rattle.chw_types.specs.TypeMoves.{raised}
use Rattle.chw_terms.specs.TermTree.{TermTree, letrec}
use Rattle.chw_terms.specs.TermMoves.{shift}
use Rattle.chw_terms.specs.Unrolled.{named}
use Rattle.chw_typing.specs.Scopes.{Setting, HasKind, with_more, declared}
use Rattle.chw_typing.specs.Typing.{HasType, h_letrec, AreBound, none_bound, bound_and}
use Rattle.chw_typing.proofs.Renamed.{type_renamed, renames_shift}
use Rattle.chw_typing.specs.Given.{AreGiven, AllAllow}

as_many_given : (s : Setting) (kinds : List Kind) (vars ts : List TypeTree) (es : List TermTree) → AreGiven s kinds vars ts es → length es ≡ length ts
as_many_given s kinds vars [] [] h = refl
as_many_given s kinds vars (t ∷ ts) (e ∷ es) h = ap suc (as_many_given s kinds vars ts es h.1)
as_many_given s kinds vars [] (e ∷ es) h = absurd h
as_many_given s kinds vars (t ∷ ts) [] h = absurd h

-- more variables in scope
given_shifted : (s : Setting) (kinds : List Kind) (new vars ts : List TypeTree) (es : List TermTree) → AreGiven s kinds vars ts es → AreGiven s kinds (new ++ vars) ts (map (λ e. shift e 0 (length new)) es)
given_shifted s kinds new vars [] [] h = tt
given_shifted s kinds new vars (t ∷ ts) (e ∷ es) h =
    (record { type = h.0.type; has = type_renamed h.0.has (raised 0 (length new)) (new ++ vars) (renames_shift [] new vars); same = h.0.same }, given_shifted s kinds new vars ts es h.1)
given_shifted s kinds new vars [] (e ∷ es) h = absurd h
given_shifted s kinds new vars (t ∷ ts) [] h = absurd h

declared_named : (s : Setting) (kinds : List Kind) (vars ts : List TypeTree) (es : List TermTree) → AreGiven s kinds vars ts es → declared (named ts es) ≡ ts
declared_named s kinds vars [] [] h = refl
declared_named s kinds vars (t ∷ ts) (e ∷ es) h = ap (λ us. t ∷ us) (declared_named s kinds vars ts es h.1)
declared_named s kinds vars [] (e ∷ es) h = absurd h
declared_named s kinds vars (t ∷ ts) [] h = absurd h

bound_named : (s : Setting) (kinds : List Kind) (k : Kind) (vars ts : List TypeTree) (es : List TermTree) → AreGiven s kinds vars ts es → AllAllow s kinds k ts → AreBound s kinds vars k (named ts es)
bound_named s kinds k vars [] [] h a = none_bound
bound_named s kinds k vars (t ∷ ts) (e ∷ es) h a = bound_and a.0.1 a.0.2 h.0.has h.0.same (bound_named s kinds k vars ts es h.1 a.1)
bound_named s kinds k vars [] (e ∷ es) h a = absurd h
bound_named s kinds k vars (t ∷ ts) [] h a = absurd h

-- the whole has the type of its body
pub let_typed : (s : Setting) (kinds : List Kind) (vars ts : List TypeTree) (es : List TermTree) (k : Kind) (e : TermTree) (u : TypeTree) → AreGiven s kinds vars ts es → AllAllow s kinds k ts → HasType s kinds (with_more ts vars) e u → HasKind s kinds u k → HasType s kinds vars (letrec (named ts (map (λ e. shift e 0 (length es)) es)) e) u
let_typed s kinds vars ts es k e u given allow d l =
    h_letrec (subst (λ us. HasType s kinds (with_more us vars) e u) same d) l (subst (λ us. AreBound s kinds (with_more us vars) k (named ts moved)) same (bound_named s kinds k (with_more ts vars) ts moved there allow))
  where
    moved : List TermTree
    moved = map (λ e. shift e 0 (length es)) es

    as_many : length (reverse ts) ≡ length es
    as_many = length-reverse ts ∙ sym (as_many_given s kinds vars ts es given)

    there : AreGiven s kinds (with_more ts vars) ts moved
    there = subst (λ n. AreGiven s kinds (with_more ts vars) ts (map (λ e. shift e 0 n) es)) as_many (given_shifted s kinds (reverse ts) vars ts es given)

    same : ts ≡ declared (named ts moved)
    same = sym (declared_named s kinds (with_more ts vars) ts moved there)
