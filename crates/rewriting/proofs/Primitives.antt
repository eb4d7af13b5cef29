-- What a rule makes of a primitive, or of a name, is one term.
use Rattle.std.proofs.Common.{◌≡◌, ◌∙◌, sym, ap, refl, subst, inl, inr, ℕ, ◌<◌, Bool, List, map, set, Some, slice_get}
use Rattle.std.proofs.lemmas.Bool.{cases_order}
use Rattle.chw_types.specs.declared.kind.Scalar.{Scalar}
use Rattle.chw_types.specs.TypeTree.{TypeTree, nat_lit}
use Rattle.chw_prims.specs.declared.prim.Primitive.{Primitive as Prim}
use Rattle.chw_prims.specs.Schemas.{schema_type}
use Rattle.prim_bits.specs.Values.{value_of}
use Rattle.chw_terms.specs.declared.rule.Rule.{Rule}
use Rattle.chw_terms.specs.declared.term.Arg.{Arg}
use Rattle.chw_terms.specs.declared.term.Arg.TheVariants.{OfTerm}
use Rattle.chw_terms.specs.Evaluated.{evaluated}
use Rattle.chw_terms.specs.TermTree.{TermTree, letrec, prim, case_of, size_of}
use Rattle.chw_terms.specs.TermView.{applied}
use Rattle.chw_terms.specs.Unrolled.{unrolled}
use Rattle.chw_typing.specs.Groups.{each_body}
use Rattle.chw_typing.specs.Given.{types_then}
use Rattle.rewriting.specs.Origins.{Origins}
use Rattle.rewriting.specs.Spots.{Spot}
use Rattle.rewriting.specs.Active.{Demands}
use Rattle.rewriting.specs.Demanded.{OfDemanded, prim_let, prim_case, DemandsLet, DemandsCase}
use Rattle.rewriting.specs.Primitives.{OfPrimitives, unroll, elem, elem_at, delta, literal, word_given, HasValue}
use Rattle.rewriting.specs.Shapes.{shift_args}
use Rattle.rewriting.specs.Names.{OfNames, unfold_global, unfold_made}
use Rattle.rewriting.proofs.Lists.{words_same, numerals_same}
use Rattle.rewriting.proofs.Spines.{head_is, args_are, given_same}

pub one_name : {o : Origins} {at : Spot} {r r' : Rule} {e f a b : TermTree} → OfNames o at r e a → OfNames o at r' f b → r ≡ r' → e ≡ f → a ≡ b
one_name (unfold_global {d = d} {it = it} m i) (unfold_global {d = d'} {it = it'} m' i') k q =
    let number : d ≡ d' = cc in
    let is : it ≡ it' = cc in
    ap (λ it. it.body) is
one_name (unfold_made {m = d} {it = it} m i) (unfold_made {m = d'} {it = it'} m' i') k q =
    let number : d ≡ d' = cc in
    let is : it ≡ it' = cc in
    ap (λ it. it.origin) is
one_name (unfold_global m i) (unfold_made m' i') k q = absurd cc
one_name (unfold_made m i) (unfold_global m' i') k q = absurd cc

-- a primitive on arguments
record SameCall (p p' : Prim) (args args' : List Arg) : Type 0 where
  prims : p ≡ p'
  given : args ≡ args'

same_call : (p p' : Prim) (args args' : List Arg) → applied (prim p) args ≡ applied (prim p') args' → SameCall p p' args args'
same_call p p' args args' q =
    let head : prim p ≡ prim p' = head_is (prim p) (prim p') args args' (record { itself = refl; alone = refl }) (record { itself = refl; alone = refl }) q in
    let number : p ≡ p' = cc in
    record { prims = number; given = args_are (prim p) (prim p') args args' (record { itself = refl; alone = refl }) (record { itself = refl; alone = refl }) q }

-- what holds of a primitive and arguments holds of the same
moved : {p p' : Prim} {args args' : List Arg} (P : Prim → List Arg → Type 0) → SameCall p p' args args' → P p args → P p' args'
moved {p} {args' = args'} P s h = subst (λ q. P q args') s.prims (subst (P p) s.given h)

back : {p p' : Prim} {args args' : List Arg} → SameCall p p' args args' → SameCall p' p args' args
back s = record { prims = sym s.prims; given = sym s.given }

-- of two numbers that are each the first of a form, neither is less
one_first : (P : ℕ → Type 0) (i j : ℕ) → P i → P j → ((k : ℕ) → k < i → P k → ⊥) → ((k : ℕ) → k < j → P k → ⊥) → i ≡ j
one_first P i j h g f d = elim (cases_order i j) [
  | inl q ↦ q
  | inr l ↦ elim l [ inl l ↦ absurd (d i l h) | inr l ↦ absurd (f j l g) ]
]

pub one_demanded : {o : Origins} {at : Spot} {r r' : Rule} {e f a b : TermTree} → OfDemanded o at r e a → OfDemanded o at r' f b → r ≡ r' → e ≡ f → a ≡ b
one_demanded {o} {at} (prim_let {p = p} {args = args} {i = i} {g = g} {e = e} n d f) (prim_let {p = p'} {args = args'} {i = i'} {g = g'} {e = e'} n' d' f') k q =
    let call = same_call p p' args args' q in
    let number = one_first (DemandsLet o at p args) i i' (g, e, d) (g', e', moved (λ p args. Demands o at p args i' (letrec g' e')) (back call) d') f
    (λ j l h. f' j l (moved (λ p args. DemandsLet o at p args j) call h)) in
    let arguments : args ≡ args' = call.given in
    let prims : p ≡ p' = call.prims in
    let first : slice_get args i ≡ Some (OfTerm (letrec g e)) = d.is in
    let second : slice_get args' i' ≡ Some (OfTerm (letrec g' e')) = d'.is in
    let whole : letrec g e ≡ letrec g' e' = cc in
    let group : g ≡ g' = cc in
    let body : e ≡ e' = cc in
    λ j. letrec (group j) (applied (prim (prims j)) (set (shift_args (arguments j) 0 (size_of (group j))) (number j) (OfTerm (body j))))
one_demanded {o} {at} (prim_case {p = p} {args = args} {i = i} {e = e} {alts = alts} n d f c) (prim_case {p = p'} {args = args'} {i = i'} {e = e'} {alts = alts'} n' d' f' c') k q =
    let call = same_call p p' args args' q in
    let number = one_first (DemandsCase o at p args) i i' (e, alts, d) (e', alts', moved (λ p args. Demands o at p args i' (case_of e' alts')) (back call) d') f
    (λ j l h. f' j l (moved (λ p args. DemandsCase o at p args j) call h)) in
    let arguments : args ≡ args' = call.given in
    let prims : p ≡ p' = call.prims in
    let first : slice_get args i ≡ Some (OfTerm (case_of e alts)) = d.is in
    let second : slice_get args' i' ≡ Some (OfTerm (case_of e' alts')) = d'.is in
    let whole : case_of e alts ≡ case_of e' alts' = cc in
    let inner : e ≡ e' = cc in
    let all : alts ≡ alts' = cc in
    λ j. case_of (inner j) (each_body (λ n f. applied (prim (prims j)) (set (shift_args (arguments j) 0 n) (number j) (OfTerm f))) (all j))
one_demanded (prim_let n d f) (prim_case n' d' f' c') k q = absurd cc
one_demanded (prim_case n d f c) (prim_let n' d' f') k q = absurd cc

-- one value
one_value : (p p' : Prim) (types types' : List TypeTree) (words words' : List (Scalar × List Bool)) (b b' : List Bool) → HasValue p types words b → HasValue p' types' words' b' → p ≡ p' → types ≡ types' → words ≡ words' → b ≡ b'
one_value p p' types types' words words' b b' h g x y z =
    let nats = numerals_same h.nats g.nats (sym h.closed ∙ ap (map evaluated) y ∙ g.closed) in
    let value : Some b ≡ Some b' = sym h.gives ∙ (λ i. value_of (x i) (nats i) (map (λ w. w.1) (z i))) ∙ g.gives in
    cc

pub one_primitive : {o : Origins} {at : Spot} {r r' : Rule} {e f a b : TermTree} → OfPrimitives o at r e a → OfPrimitives o at r' f b → r ≡ r' → e ≡ f → a ≡ b
one_primitive (unroll {p = p} {types = types} {es = es} {e = e} c v u) (unroll {p = p'} {types = types'} {es = es'} {e = e'} c' v' u') k q =
    let call = same_call p p' (types_then types es) (types_then types' es') q in
    let args = given_same types types' es es' call.given in
    let is : Some e ≡ Some e' = sym u ∙ (λ i. unrolled (call.prims i) (args.on_types i) (args.on_terms i)) ∙ u' in
    cc
one_primitive (elem {j = j} w x l y) (elem {j = j'} w' x' l' y') k q = let number : nat_lit j ≡ nat_lit j' = cc in cc
one_primitive (elem w x l y) (elem_at m x' l' y') k q = absurd cc
one_primitive (elem_at m x l y) (elem w x' l' y') k q = absurd cc
one_primitive (elem_at m x l y) (elem_at m' x' l' y') k q = cc
one_primitive (delta {p = p} {types = types} {words = words} {b = b} m v) (delta {p = p'} {types = types'} {words = words'} {b = b'} m' v') k q =
    let call = same_call p p' (types_then types (map literal words)) (types_then types' (map literal words')) q in
    let args = given_same types types' (map literal words) (map literal words') call.given in
    let words_are = words_same words words' args.on_terms in
    let value = one_value p p' types types' words words' b b' v v' call.prims args.on_types words_are in
    λ i. word_given (schema_type (call.prims i)) (value i)
one_primitive (unroll c v u) (elem w' x' l' y') k q = absurd cc
one_primitive (unroll c v u) (elem_at m' x' l' y') k q = absurd cc
one_primitive (unroll c v u) (delta m' v') k q = absurd cc
one_primitive (elem w x l y) (unroll c' v' u') k q = absurd cc
one_primitive (elem_at m x l y) (unroll c' v' u') k q = absurd cc
one_primitive (elem w x l y) (delta m' v') k q = absurd cc
one_primitive (elem_at m x l y) (delta m' v') k q = absurd cc
one_primitive (delta m v) (unroll c' v' u') k q = absurd cc
one_primitive (delta m v) (elem w' x' l' y') k q = absurd cc
one_primitive (delta m v) (elem_at m' x' l' y') k q = absurd cc
