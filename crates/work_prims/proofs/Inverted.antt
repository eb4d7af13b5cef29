-- What the rules make of a primitive on these arguments, and of what they make something.
use Rattle.std.proofs.Common.{◌≡◌, ◌∙◌, sym, ap, refl, subst, inl, inr, ◌⊎◌, ◌+◌, Bool, List, [], ◌∷◌, length, map, Some}
use Rattle.std.proofs.lemmas.List.{length-map}
use Rattle.chw_types.specs.declared.kind.Scalar.{Scalar}
use Rattle.chw_types.specs.declared.kind.Scalar.TheVariants.{U}
use Rattle.chw_types.specs.TypeTree.{TypeTree}
use Rattle.chw_prims.specs.Schemas.{row_of, schema_type}
use Rattle.chw_prims.specs.declared.prim.Primitive.{Primitive as Prim}
use Rattle.chw_prims.specs.declared.prim.Primitive.TheVariants.{VGet, VGetC, VAt}
use Rattle.chw_terms.specs.declared.rule.Rule.{Rule}
use Rattle.chw_terms.specs.declared.rule.Rule.TheVariants.{Unroll, Elem, Delta}
use Rattle.chw_terms.specs.declared.scene.Mode.TheVariants.{K}
use Rattle.chw_terms.specs.declared.term.Arg.{Arg}
use Rattle.chw_terms.specs.declared.term.Head.TheVariants.{PrimOf}
use Rattle.chw_terms.specs.Evaluated.{evaluated}
use Rattle.chw_terms.specs.TermTree.{TermTree, prim, lit, vec_lit}
use Rattle.chw_terms.specs.TermView.{applied}
use Rattle.chw_terms.specs.Unrolled.{CanUnroll, unrolled}
use Rattle.chw_typing.specs.Given.{types_then}
use Rattle.rewriting.specs.Origins.{Origins}
use Rattle.rewriting.specs.Spots.{Spot, asked_for}
use Rattle.rewriting.specs.Primitives.{OfPrimitives, HasUnnamedVector, HasValue, literal, word_given, unroll, elem, elem_at, delta}
use Rattle.rewriting.proofs.Counted.{counted}
use Rattle.rewriting.proofs.Spines.{head_is, args_are}
use Rattle.rule_parts.proofs.Heads.{bare, IsPrimCore}
use Rattle.work_prims.proofs.Splits.{given_length}
use Rattle.work_prims.specs.Elements.{IsElement, IsElementAt}

-- a primitive on arguments is one on the same
same_prim : (p q : Prim) → prim p ≡ prim q → p ≡ q
same_prim p q e = cc

call_is : (p q : Prim) (args more : List Arg) → applied (prim q) more ≡ applied (prim p) args → q ≡ p
call_is p q args more s = same_prim q p (head_is (prim q) (prim p) more args (bare (PrimOf q)) (bare (PrimOf p)) s)

args_is : (p q : Prim) (args more : List Arg) → applied (prim q) more ≡ applied (prim p) args → args ≡ more
args_is p q args more s = sym (args_are (prim q) (prim p) more args (bare (PrimOf q)) (bare (PrimOf p)) s)

-- it is written out
pub record IsUnrolled (o : Origins) (at : Spot) (p : Prim) (args : List Arg) (e : TermTree) : Type 0 where
  pub types : List TypeTree
  pub es : List TermTree
  pub are : args ≡ types_then types es
  pub can : CanUnroll p types es
  pub vector : p ≡ VAt → HasUnnamedVector o at es
  pub gives : unrolled p types es ≡ Some e

pub unrolled_of : {o : Origins} {at : Spot} {r : Rule} {e e' : TermTree} (p : Prim) (args : List Arg) → OfPrimitives o at r e e' → r ≡ Unroll → e ≡ applied (prim p) args → IsUnrolled o at p args e'
unrolled_of {o} {at} p args (unroll {p = q} {types = types} {es = es} {e = e} c v u) k s =
    let is = call_is p q args (types_then types es) s in
    record {
      types = types;
      es = es;
      are = args_is p q args (types_then types es) s;
      can = subst (λ p. CanUnroll p types es) is c;
      vector = λ w. v (is ∙ w);
      gives = subst (λ p. unrolled p types es ≡ Some e) is u;
    }
unrolled_of p args (elem w i l e) k s = absurd cc
unrolled_of p args (elem_at m i l e) k s = absurd cc
unrolled_of p args (delta m v) k s = absurd cc

-- an element is taken
pub record IsTaken (at : Spot) (p : Prim) (args : List Arg) (e : TermTree) : Type 0 where
  pub way : (((p ≡ VGet) ⊎ (p ≡ VGetC)) × IsElement args e) ⊎ ((p ≡ VAt) × (at.mode ≡ K) × IsElementAt args e)

pub taken_of : {o : Origins} {at : Spot} {r : Rule} {e e' : TermTree} (p : Prim) (args : List Arg) → OfPrimitives o at r e e' → r ≡ Elem → e ≡ applied (prim p) args → IsTaken at p args e'
taken_of p args (unroll c v u) k s = absurd cc
taken_of p args (elem {p = q} {i = i} {n = n} {a = a} {t = t} {es = es} {j = j} w x l y) k s =
    let given = types_then (i ∷ n ∷ a ∷ []) (vec_lit t es ∷ []) in
    record { way = inl (subst (λ p. (p ≡ VGet) ⊎ (p ≡ VGetC)) (call_is p q args given s) w, record { i = i; n = n; a = a; t = t; es = es; j = j; are = args_is p q args given s; number = x; within = l; is = y }) }
taken_of p args (elem_at {n = n} {k = k} {a = a} {t = t} {es = es} {bits = bits} {m = m} w x l y) r s =
    let given = types_then (n ∷ k ∷ a ∷ []) (vec_lit t es ∷ lit U bits ∷ []) in
    record { way = inr (sym (call_is p VAt args given s), w, record { n = n; k = k; a = a; t = t; es = es; bits = bits; m = m; are = args_is p VAt args given s; number = x; within = l; is = y }) }
taken_of p args (delta m v) k s = absurd cc

-- a value is computed
pub record IsComputed (at : Spot) (p : Prim) (args : List Arg) (e : TermTree) : Type 0 where
  pub constant : at.mode ≡ K
  pub types : List TypeTree
  pub words : List (Scalar × List Bool)
  pub bits : List Bool
  pub are : args ≡ types_then types (map literal words)
  pub value : HasValue p types words bits
  pub is : e ≡ word_given (schema_type p) bits

pub computed_of : {o : Origins} {at : Spot} {r : Rule} {e e' : TermTree} (p : Prim) (args : List Arg) → OfPrimitives o at r e e' → r ≡ Delta → e ≡ applied (prim p) args → IsComputed at p args e'
computed_of p args (unroll c v u) k s = absurd cc
computed_of p args (elem w i l e) k s = absurd cc
computed_of p args (elem_at m i l e) k s = absurd cc
computed_of p args (delta {p = q} {types = types} {words = words} {b = b} m v) k s =
    let given = types_then types (map literal words) in
    let is = call_is p q args given s in
    record {
      constant = m;
      types = types;
      words = words;
      bits = b;
      are = args_is p q args given s;
      value = subst (λ p. HasValue p types words b) is v;
      is = ap (λ p. word_given (schema_type p) b) is;
    }

-- the rules make something of primitives on as many arguments as these ask for
pub unroll_prims : (o : Origins) (at : Spot) (e e' : TermTree) → OfPrimitives o at Unroll e e' → IsPrimCore e
unroll_prims o at _ _ (unroll {p = p} {types = types} {es = es} c v u) =
    record { which = p; args = types_then types es; is = refl; count = given_length types es ∙ ap (λ n. n + length es) (sym (length-map types evaluated)) ∙ counted (row_of p) (map evaluated types) (length es) c.on_types c.on_terms }

pub elem_prims : (o : Origins) (at : Spot) (e e' : TermTree) → OfPrimitives o at Elem e e' → IsPrimCore e
elem_prims o at _ _ (elem {p = p} {i = i} {n = n} {a = a} {t = t} {es = es} w x l y) =
    record { which = p; args = types_then (i ∷ n ∷ a ∷ []) (vec_lit t es ∷ []); is = refl; count = elim w [ inl q ↦ ap (λ p. asked_for (schema_type p)) (sym q) | inr q ↦ ap (λ p. asked_for (schema_type p)) (sym q) ] }
elem_prims o at _ _ (elem_at {n = n} {k = k} {a = a} {t = t} {es = es} {bits = bits} w x l y) =
    record { which = VAt; args = types_then (n ∷ k ∷ a ∷ []) (vec_lit t es ∷ lit U bits ∷ []); is = refl; count = refl }

pub delta_prims : (o : Origins) (at : Spot) (e e' : TermTree) → OfPrimitives o at Delta e e' → IsPrimCore e
delta_prims o at _ _ (delta {p = p} {types = types} {words = words} m v) =
    record { which = p; args = types_then types (map literal words); is = refl; count = v.whole }
