-- What rules make of a primitive on vectors, and of one on words, keeps types.
use Rattle.std.proofs.Common.{◌+◌, ◌∷◌, ◌∙◌, ◌≡◌, Bool, List, Some, [], ap, arith, inl, inr, length, map, min, refl, subst, sym, ℕ}
use Rattle.std.proofs.lemmas.List.{length-map}
use Rattle.chw_bits.specs.Bits.{number_of}
use Rattle.chw_types.proofs.SameLaws.{same_through}
use Rattle.chw_types.specs.SameTypes.{SameTypes}
use Rattle.chw_types.specs.TypeMoves.{sub}
use Rattle.chw_types.specs.TypeTree.{TypeTree, nat_lit, nat_sum, scalar, ty_var, vector}
use Rattle.chw_types.specs.declared.kind.Kind.{Kind}
use Rattle.chw_types.specs.declared.kind.Kind.TheVariants.{Cir, Nat, Val}
use Rattle.chw_types.specs.declared.kind.Scalar.{Scalar}
use Rattle.chw_types.specs.declared.kind.Scalar.TheVariants.{U}
use Rattle.type_laws.proofs.SameForms.{as_vector}
use Rattle.chw_prims.specs.Schemas.{row_of, row_type, schema_type}
use Rattle.chw_prims.specs.declared.prim.Primitive.{Primitive as Prim}
use Rattle.chw_prims.specs.declared.prim.Primitive.TheVariants.{VAt}
use Rattle.chw_prims.specs.declared.row.Row.TheVariants.{Element}
use Rattle.prim_bits.proofs.ResultWidths.{width_of_value}
use Rattle.prim_bits.proofs.Taken.{taken_from_value}
use Rattle.chw_terms.specs.TermTree.{TermTree, Terms, lit, prim, vec_lit}
use Rattle.chw_terms.specs.TermView.{applied}
use Rattle.chw_terms.specs.declared.rule.Rule.{Rule}
use Rattle.chw_terms.specs.declared.term.Arg.TheVariants.{OfTerm}
use Rattle.chw_typing.specs.Programs.{IsSound}
use Rattle.chw_typing.specs.Scopes.{AreTermTypes, Setting}
use Rattle.chw_typing.specs.Typing.{HasType, HasTypeUpTo, h_vec}
use Rattle.chw_typing.specs.Paths.{element_at}
use Rattle.chw_typing.proofs.Saturated.{prim_at_arguments}
use Rattle.chw_typing.specs.Given.{types_then}
use Rattle.unroll_laws.proofs.Unrolls.{unrolling_keeps}
use Rattle.rewriting.specs.Origins.{Origins, setting_at}
use Rattle.rewriting.specs.Spots.{Spot}
use Rattle.rewriting.specs.Primitives.{HasValue, OfPrimitives, delta, elem, elem_at, literal, unroll, word_given}
use Rattle.rule_types.proofs.Applied.{up_to_as}
use Rattle.rule_types.proofs.Operands.{element_kind}
use Rattle.rule_types.proofs.Words.{are_numbers, word_kept}
use Rattle.rule_types.specs.Laws.{IsTypedPlace, KeepsType}

-- an element of a written vector
vector_element : {s : Setting} {vars : List TypeTree} {w n a : TypeTree} {es : Terms} {v : TypeTree} (j : ℕ) (e : TermTree) → element_at es j ≡ Some e → HasType s [] vars (vec_lit w es) v → SameTypes (vector n a) v → HasTypeUpTo s [] vars e a
vector_element {w = w} j e at (h_vec l all) x =
    let it = element_kind all j e at in
    let parts = as_vector x in
    let is : parts.1 ≡ w = cc in
    record { type = it.0; has = it.1; same = same_through (subst (SameTypes _) is parts.4) it.2 }

elem_typed : {s : Setting} {vars : List TypeTree} (p : Prim) (kind : Kind) (i n a w : TypeTree) (es : Terms) (j : ℕ) (e : TermTree) (t : TypeTree) → IsSound s → AreTermTypes s [] vars → row_of p ≡ Element kind → element_at es j ≡ Some e → HasType s [] vars (applied (prim p) (types_then (i ∷ n ∷ a ∷ []) (vec_lit w es ∷ []))) t → HasTypeUpTo s [] vars e t
unfolding sub
elem_typed {s} {vars} p kind i n a w es j e t h g is at d =
    let of = prim_at_arguments s [] vars p (Nat ∷ Nat ∷ kind ∷ []) (vector (nat_sum (nat_sum (ty_var 2) (nat_lit 1)) (ty_var 1)) (ty_var 0) ∷ []) (ty_var 0) (i ∷ n ∷ a ∷ []) (vec_lit w es ∷ []) t h g (ap row_type is) refl refl d in
    up_to_as (vector_element j e at of.args_given.0.has of.args_given.0.same) of.gives

elem_at_typed : {s : Setting} {vars : List TypeTree} (n k a w : TypeTree) (es : Terms) (j : ℕ) (bits : List Bool) (e : TermTree) (t : TypeTree) → IsSound s → AreTermTypes s [] vars → element_at es j ≡ Some e → HasType s [] vars (applied (prim VAt) (types_then (n ∷ k ∷ a ∷ []) (vec_lit w es ∷ lit U bits ∷ []))) t → HasTypeUpTo s [] vars e t
unfolding sub
elem_at_typed {s} {vars} n k a w es j bits e t h g at d =
    let of = prim_at_arguments s [] vars VAt (Nat ∷ Nat ∷ Val ∷ []) (vector (nat_sum (ty_var 2) (nat_lit 1)) (ty_var 0) ∷ scalar U (ty_var 1) ∷ []) (ty_var 0) (n ∷ k ∷ a ∷ []) (vec_lit w es ∷ lit U bits ∷ []) t h g refl refl refl d in
    up_to_as (vector_element j e at of.args_given.0.has of.args_given.0.same) of.gives

arguments_many : (types : List TypeTree) (es : List TermTree) → length (types_then types es) ≡ length types + length es
arguments_many [] es = let same = length-map es (λ e. OfTerm e) in omega (arith, same)
arguments_many (t ∷ types) es = let same = arguments_many types es in omega (arith, same)

delta_typed : {s : Setting} {vars : List TypeTree} (p : Prim) (types : List TypeTree) (words : List (Scalar × List Bool)) (b : List Bool) (t : TypeTree) → IsSound s → AreTermTypes s [] vars → HasValue p types words b → HasType s [] vars (applied (prim p) (types_then types (map literal words))) t → HasTypeUpTo s [] vars (word_given (schema_type p) b) t
delta_typed {s} {vars} p types words b t h g v d =
    let es = map literal words in
    let bits = map (λ (w : Scalar × List Bool). w.1) words in
    let takes = (taken_from_value p v.nats bits b v.gives).0 in
    word_kept (row_of p) es b (map length bits) (are_numbers types v.nats v.closed) takes.0 (record {
      s = s;
      vars = vars;
      p = p;
      t = t;
      sound = h;
      typed = g;
      is = refl;
      whole = sym (arguments_many types es) ∙ v.whole;
      narrow = v.narrow;
      width = width_of_value p v.nats bits b v.gives;
      has = d;
    })

pub primitives_keep : (o : Origins) (at : Spot) → IsTypedPlace o at → {r : Rule} {e e' : TermTree} → OfPrimitives o at r e e' → KeepsType o at e e'
primitives_keep o at h (unroll {p = p} {types = types} {es = es} {e = e} can unnamed is) t d = unrolling_keeps (setting_at o) [] at.vars p types es e t h.sound h.vars can is d
primitives_keep o at h (elem {p = p} {i = i} {n = n} {a = a} {t = w} {es = es} {j = j} {e = e} (inl is) number least element) t d =
    elem_typed p Val i n a w es j e t h.sound h.vars (ap row_of is) element d
primitives_keep o at h (elem {p = p} {i = i} {n = n} {a = a} {t = w} {es = es} {j = j} {e = e} (inr is) number least element) t d =
    elem_typed p Cir i n a w es j e t h.sound h.vars (ap row_of is) element d
primitives_keep o at h (elem_at {n = n} {k = k} {a = a} {t = w} {es = es} {bits = bits} {m = m} {e = e} constant number least element) t d =
    elem_at_typed n k a w es (min (number_of bits) m) bits e t h.sound h.vars element d
primitives_keep o at h (delta {p = p} {types = types} {words = words} {b = b} constant value) t d = delta_typed p types words b t h.sound h.vars value d
