-- A call as a closed term, under a lambda for each free variable, has its type.
use Rattle.std.proofs.Common.{◌++◌, ◌==◌, ◌∙◌, ◌∷◌, ◌≡◌, Bool, List, Some, [], ap, arith, false, if◌then◌else◌, length, map, refl, reverse, subst, suc, sym, true, zero, ℕ}
use Rattle.std.proofs.lemmas.Bool.{eq-eqb, eqb-true, true≢false}
use Rattle.std.proofs.lemmas.List.{length-map}
use Rattle.std.proofs.lemmas.Option.{slice_get-get_or}
use Rattle.std.specs.List.{AllByRecursion, slice_get}
use Rattle.chw_types.specs.Kinds.{HasFunctions, kind_fun}
use Rattle.chw_types.specs.TypeTree.{TypeTree}
use Rattle.chw_types.specs.declared.kind.Kind.{Kind}
use Rattle.chw_types.specs.declared.kind.Kind.TheVariants.{Cir, Val}
use Rattle.chw_terms.specs.FreeVariables.{free_in}
use Rattle.chw_terms.specs.TermMoves.{rename}
use Rattle.chw_terms.specs.TermTree.{TermTree}
use Rattle.chw_terms.specs.declared.scene.Mode.{Mode}
use Rattle.chw_terms.specs.declared.scene.Mode.TheVariants.{C, HC, HV, K, V}
use Rattle.chw_typing.proofs.Kinded.{type_kinded, typed_at}
use Rattle.chw_typing.proofs.Lists.{turned_onto}
use Rattle.chw_typing.specs.HeadTypes.{from_each}
use Rattle.chw_typing.specs.Programs.{IsComplete, IsSound}
use Rattle.chw_typing.specs.Scopes.{AreTermTypes, HasKind, Setting}
use Rattle.chw_typing.specs.Typing.{HasType, HasTypeUpTo}
use Rattle.chw_typing.proofs.Free.{free_occur}
use Rattle.chw_typing.proofs.Where.{renamed_where}
use Rattle.chw_typing.proofs.FoundTyped.{found_is_type}
use Rattle.rewriting.proofs.PutMade.{made_put}
use Rattle.rewriting.specs.SceneLaws.{IsKindOf, NamedIsTermKind}
use Rattle.rewriting.specs.Named.{IsNamed}
use Rattle.rewriting.specs.Origins.{MadeOf, Origins, origin_at, setting_at, under_each}
use Rattle.rewriting.specs.Spots.{Spot}
use Rattle.rewriting.specs.Calls.{IsCall, call_origin, to_lambdas}
use Rattle.rule_types.proofs.Complete.{renamed_complete}
use Rattle.rule_types.proofs.Made.{origins_put, origins_put_complete, put_complete}
use Rattle.rule_types.proofs.Projected.{reversed_at}
use Rattle.rule_types.proofs.Signals.{under_each_typed}
use Rattle.rule_types.proofs.SignalsComplete.{under_each_complete}
use Rattle.rule_types.specs.Laws.{AreTypedOrigins, IsTypedPlace}

same_many : (vars : List TypeTree) (xs : List ℕ) (ts : List TypeTree) → map (slice_get vars) xs ≡ map (λ t. Some t) ts → length xs ≡ length ts
same_many vars xs ts e = sym (length-map xs (slice_get vars)) ∙ ap length e ∙ length-map ts (λ t. Some t)

apart : (x y : ℕ) → (x == y) ≡ false → y ≡ x → ⊥
apart x y other equal = let same = eq-eqb x y (sym equal) in true≢false (sym same ∙ other)

-- each free variable comes under the lambda of its type
lambda_at : (vars : List TypeTree) (xs : List ℕ) (ts more : List TypeTree) → map (slice_get vars) xs ≡ map (λ t. Some t) ts → (k x : ℕ) (t : TypeTree) → slice_get xs k ≡ Some x → slice_get vars x ≡ Some t → slice_get (reverse ts ++ more) (to_lambdas xs x) ≡ Some t
lambda_at vars [] ts more e k x t at is = absurd cc
lambda_at vars (y ∷ ys) [] more e k x t at is = absurd cc
lambda_at vars (y ∷ ys) (u ∷ us) more e k x t at is = by (x == y) refl k at (λ j found. lambda_at vars ys us (u ∷ more) rest j x t found is)
  where
    rest : map (slice_get vars) ys ≡ map (λ t. Some t) us
    rest = cc

    first : slice_get vars y ≡ Some u
    first = cc

    by : (b : Bool) → (x == y) ≡ b → (k : ℕ) → slice_get (y ∷ ys) k ≡ Some x → ((j : ℕ) → slice_get ys j ≡ Some x → slice_get (reverse us ++ u ∷ more) (to_lambdas ys x) ≡ Some t) → slice_get (reverse (u ∷ us) ++ more) (if b then length ys else to_lambdas ys x) ≡ Some t
    by true same k at later =
        let equal : x ≡ y = eqb-true x y same in
        let of : Some t ≡ Some u = sym is ∙ ap (slice_get vars) equal ∙ first in
        let many = same_many vars ys us rest in
        reversed_at (u ∷ us) more 0 (length ys) u (omega (arith, many)) refl ∙ sym of
    by false other zero at later =
        let equal : y ≡ x = cc in
        absurd (apart x y other equal)
    by false other (suc j) at later = ap (λ scope. slice_get scope (to_lambdas ys x)) (turned_onto u us more) ∙ later j at

-- the kinds of named types at a place
abbrev kind_at : Mode → Kind
kind_at C = Cir
kind_at HC = Cir
kind_at _ = Val

kind_there : (s : Setting) (mode : Mode) (t : TypeTree) (k : Kind) → IsKindOf mode k → HasKind s [] t k → HasKind s [] t (kind_at mode)
kind_there s V t k is h = subst (HasKind s [] t) is h
kind_there s HV t k is h = subst (HasKind s [] t) is h
kind_there s C t k is h = subst (HasKind s [] t) is h
kind_there s HC t k is h = subst (HasKind s [] t) is h
kind_there s K t k is h = absurd is

functions_there : (mode : Mode) → HasFunctions (kind_at mode) (kind_at mode)
functions_there V = tt
functions_there HV = tt
functions_there C = tt
functions_there HC = tt
functions_there K = tt

-- types of variables that are named
from_named_kind : (law : NamedIsTermKind) (s : Setting) (mode : Mode) (vars : List TypeTree) (xs : List ℕ) (ts : List TypeTree) (t : TypeTree) → IsSound s → AreTermTypes s [] vars → map (slice_get vars) xs ≡ map (λ t. Some t) ts → AllByRecursion (IsNamed s.datas mode) ts → HasKind s [] t (kind_at mode) → HasKind s [] (from_each ts t) (kind_at mode)
from_named_kind law s mode vars xs [] t h g e named k = k
from_named_kind law s mode vars [] (u ∷ us) t h g e named k = absurd cc
from_named_kind law s mode vars (x ∷ xs) (u ∷ us) t h g e named k =
    let at : slice_get vars x ≡ Some u = cc in
    let rest : map (slice_get vars) xs ≡ map (λ t. Some t) us = cc in
    let of = typed_at s [] vars x u g at in
    kind_fun (kind_there s mode u of.kind (law s mode u of.kind h of.has named.0) of.has) (from_named_kind law s mode vars xs us t h g rest named.1 k) (functions_there mode)

pub call_closed : NamedIsTermKind → (o : Origins) (at : Spot) (e : TermTree) (ts : List TypeTree) (t : TypeTree) → IsTypedPlace o at → IsCall o at e ts t → HasType (setting_at o) [] [] (under_each ts (rename e (to_lambdas (free_in e)))) (from_each ts t)
call_closed law o at e ts t h call =
    under_each_typed ts t (rename e (to_lambdas (free_in e))) (kind_at at.mode) (from_named_kind law s at.mode at.vars (free_in e) ts t h.sound h.vars call.free call.free_named kind) moved
  where
    s : Setting
    s = setting_at o

    moved : HasType s [] (reverse ts ++ []) (rename e (to_lambdas (free_in e))) t
    moved = renamed_where (found_is_type call.has) (to_lambdas (free_in e)) (reverse ts ++ [])
        (λ x u occurs is. let place = (free_occur e x).1 occurs in
        lambda_at at.vars (free_in e) ts [] call.free place.0 x u (slice_get-get_or (free_in e) place.0 x place.1 ∙ ap (λ y. Some y) place.2) is)

    kind : HasKind s [] t (kind_at at.mode)
    kind =
        let of = type_kinded (found_is_type call.has) h.sound h.vars in
        kind_there s at.mode t of.kind (law s at.mode t of.kind h.sound of.has call.named) of.has

pub call_typed : NamedIsTermKind → (o : Origins) (at : Spot) (e : TermTree) (ts : List TypeTree) (t : TypeTree) → AreTypedOrigins o → IsTypedPlace o at → IsCall o at e ts t → HasTypeUpTo (setting_at o) [] [] (call_origin o ts e) (from_each ts t)
call_typed law o at e ts t w h call = made_put (call_closed law o at e ts t h call) h.sound (map (λ (m : MadeOf). m.ty) o.made) h.sound (origin_at o) (origins_put o w) tt

pub call_complete : (o : Origins) (ts : List TypeTree) (e : TermTree) → AreTypedOrigins o → IsComplete o.program.datas e → IsComplete o.program.datas (call_origin o ts e)
call_complete o ts e w h =
    let moved = rename e (to_lambdas (free_in e)) in
    put_complete o.program.datas (origin_at o) (origins_put_complete o w) (under_each ts moved) (under_each_complete o.program.datas ts moved (renamed_complete o.program.datas e (to_lambdas (free_in e)) h))
