-- The letrec that takes the place of a primitive that is called: what is left to show of its body.
use Rattle.std.proofs.Common.{ℕ, suc, zero, ◌≤◌, sym, subst, List, [], ◌∷◌, ◌++◌, map, length, reverse, arith}
use Rattle.std.specs.List.{AllByRecursion}
use Rattle.std.proofs.lemmas.List.{append-nil}
use Rattle.chw_types.specs.declared.kind.Kind.{Kind}
use Rattle.chw_types.specs.TypeTree.{TypeTree}
use Rattle.chw_types.specs.TypeView.{trees_of}
use Rattle.chw_types.specs.TypeMoves.{sub}
use Rattle.chw_types.specs.Arguments.{list_of, given, arguments}
use Rattle.chw_types.specs.Kinds.{degree, KindsOf}
use Rattle.chw_types.specs.SameTypes.{SameTypes}
use Rattle.chw_types.proofs.KindsKept.{kind_put}
use Rattle.chw_types.proofs.SameLaws.{same_turned, same_through}
use Rattle.chw_prims.specs.declared.prim.Primitive.{Primitive as Prim}
use Rattle.chw_terms.specs.TermTree.{TermTree, letrec}
use Rattle.chw_terms.specs.TermMoves.{shift}
use Rattle.chw_terms.specs.Unrolled.{named, at_types}
use Rattle.type_laws.proofs.Arguing.{kinds_of_arguments}
use Rattle.chw_typing.specs.Scopes.{Setting, HasKind, IsTermType, AreTermTypes, with_more}
use Rattle.chw_typing.specs.HeadTypes.{for_each, from_each}
use Rattle.chw_typing.specs.Laws.{PutsTypes}
use Rattle.chw_typing.specs.Programs.{IsSound}
use Rattle.chw_typing.specs.Typing.{HasType, HasTypeUpTo}
use Rattle.chw_typing.proofs.EvaluatedTypes.{same_evaluated, kind_evaluated}
use Rattle.chw_typing.proofs.Heads.{functions_of_terms}
use Rattle.chw_typing.proofs.Kinded.{term_type, function_parts, bound_part, typed_more, type_kinded}
use Rattle.chw_typing.proofs.Lists.{turned_onto}
use Rattle.chw_typing.proofs.TermsPut.{kind_same}
use Rattle.chw_typing.specs.Given.{AreGiven, AllAllow, IsSaturated}
use Rattle.chw_typing.proofs.Lets.{let_typed}
use Rattle.chw_typing.proofs.Saturated.{turned_arguments}

-- each of these types has a degree of at most 1, as a numeral, a variable, and what has no naturals at its top
abbrev pub AllSmall : List TypeTree → Type 0
AllSmall ts = AllByRecursion (λ t. degree t ≤ 1) ts

small_onto : (ts us : List TypeTree) → AllSmall ts → AllSmall us → AllSmall (reverse ts ++ us)
small_onto [] us h g = g
small_onto (t ∷ ts) us h g = subst AllSmall (sym (turned_onto t ts us)) (small_onto ts (t ∷ us) h.1 (h.0, g))

small_given : (ts : List TypeTree) (x : ℕ) → AllSmall ts → degree (given ts x) ≤ 1
small_given [] x h = omega arith
small_given (t ∷ ts) zero h = h.0
small_given (t ∷ ts) (suc x) h = small_given ts x h.1

puts_arguments : (s : Setting) (kinds ks : List Kind) (types : List TypeTree) → KindsOf s.datas s.domains kinds (trees_of types) ks → AllSmall types → PutsTypes s (arguments (trees_of types)) (reverse ks) kinds
puts_arguments s kinds ks types have small x k e = (kinds_of_arguments s.datas s.domains kinds ks (trees_of types) have x k e, small_given (reverse (list_of (trees_of types))) x here)
  where
    here : AllSmall (reverse (list_of (trees_of types)))
    here = subst AllSmall (turned_arguments types) (small_onto types [] small tt)

unbound : (s : Setting) (ks scope : List Kind) (t : TypeTree) (k : Kind) → HasKind s scope (for_each ks t) k → HasKind s (reverse ks ++ scope) t k
unbound s [] scope t k d = d
unbound s (j ∷ ks) scope t k d = subst (λ sc. HasKind s sc t k) (sym (turned_onto j ks scope)) (unbound s ks (j ∷ scope) t k (bound_part d).0)

-- the parameters' kinds allow that of the result
allowed : (s : Setting) (scope kinds : List Kind) (types : List TypeTree) (k : Kind) → PutsTypes s (arguments (trees_of types)) scope kinds → (ps : List TypeTree) (r : TypeTree) → HasKind s scope (from_each ps r) k → AllAllow s kinds k (map (at_types types) ps) × HasKind s kinds (at_types types r) k
allowed s scope kinds types k puts [] r d = (tt, kind_evaluated (kind_put d (arguments (trees_of types)) kinds puts))
allowed s scope kinds types k puts (p ∷ ps) r d =
    let at = function_parts d in
    let rest = allowed s scope kinds types k puts ps r at.2 in
    (((at.0, kind_evaluated (kind_put at.1 (arguments (trees_of types)) kinds puts), at.3), rest.0), rest.1)

typed_allowed : (s : Setting) (kinds : List Kind) (k : Kind) (ts : List TypeTree) → AllAllow s kinds k ts → AreTermTypes s kinds ts
typed_allowed s kinds k [] h = tt
typed_allowed s kinds k (t ∷ ts) h = (term_type s kinds t h.0.0 h.0.1 (functions_of_terms h.0.0 k h.0.2).0, typed_allowed s kinds k ts h.1)

given_evaluated : (s : Setting) (kinds : List Kind) (vars types ps : List TypeTree) (es : List TermTree) → AreGiven s kinds vars (map (λ p. sub p (arguments (trees_of types))) ps) es → AreGiven s kinds vars (map (at_types types) ps) es
given_evaluated s kinds vars types [] [] h = tt
given_evaluated s kinds vars types (p ∷ ps) (e ∷ es) h =
    (record { type = h.0.type; has = h.0.has; same = same_through (same_turned (same_evaluated (sub p (arguments (trees_of types))))) h.0.same }, given_evaluated s kinds vars types ps es h.1)
given_evaluated s kinds vars types [] (e ∷ es) h = absurd h
given_evaluated s kinds vars types (p ∷ ps) [] h = absurd h

-- a body that has the result's type, where the arguments have names of their parameters' types: the letrec has the type of the call
pub let_keeps : (s : Setting) (kinds : List Kind) (vars : List TypeTree) (ks : List Kind) (ps : List TypeTree) (r : TypeTree) (types : List TypeTree) (args : List TermTree) (t : TypeTree) (e : TermTree) (u : TypeTree) → IsSound s → AreTermTypes s kinds vars → IsTermType s [] (for_each ks (from_each ps r)) → AllSmall types → IsSaturated s kinds vars ks ps r types args t → HasType s kinds (with_more (map (at_types types) ps) vars) e u → SameTypes (at_types types r) u → HasTypeUpTo s kinds vars (letrec (named (map (at_types types) ps) (map (λ e. shift e 0 (length args)) args)) e) t
let_keeps s kinds vars ks ps r types args t e u h g schema small call d x =
    record {
      type = u;
      has = let_typed s kinds vars ts args schema.kind e u (given_evaluated s kinds vars types ps args call.args_given) allow.0 d (kind_same s kinds (at_types types r) u schema.kind allow.1 (type_kinded d h scope) x);
      same = same_through (same_turned call.gives) (same_through (same_evaluated (sub r (arguments (trees_of types)))) x);
    }
  where
    ts : List TypeTree
    ts = map (at_types types) ps

    inside : HasKind s (reverse ks) (from_each ps r) schema.kind
    inside = subst (λ sc. HasKind s sc (from_each ps r) schema.kind) (append-nil (reverse ks)) (unbound s ks [] (from_each ps r) schema.kind schema.has)

    allow : AllAllow s kinds schema.kind ts × HasKind s kinds (at_types types r) schema.kind
    allow = allowed s (reverse ks) kinds types schema.kind (puts_arguments s kinds ks types call.have small) ps r inside

    scope : AreTermTypes s kinds (with_more ts vars)
    scope = typed_more s kinds ts vars (typed_allowed s kinds schema.kind ts allow.0) g
