-- What the rule that computes makes of a primitive on these arguments.
use Rattle.std.proofs.Common.{◌≡◌, ◌∙◌, sym, ap, refl, subst, ℕ, ◌+◌, Bool, List, length, map, drop, Option, Some, None, MatchOption}
use Rattle.std.proofs.lemmas.List.{length-map}
use Rattle.prim_bits.proofs.Taken.{taken_from_value}
use Rattle.chw_types.specs.declared.kind.Scalar.{Scalar}
use Rattle.chw_types.specs.TypeTree.{TypeTree, nat_lit}
use Rattle.chw_prims.specs.declared.prim.Primitive.{Primitive as Prim}
use Rattle.chw_prims.specs.Schemas.{schema_type}
use Rattle.chw_terms.specs.declared.rule.Rule.TheVariants.{Delta}
use Rattle.chw_terms.specs.declared.scene.Mode.TheVariants.{K}
use Rattle.chw_terms.specs.declared.term.Arg.{Arg}
use Rattle.chw_terms.specs.declared.term.Arg.TheVariants.{OfTerm}
use Rattle.chw_terms.specs.Evaluated.{evaluated}
use Rattle.chw_terms.specs.TermTree.{TermTree, prim}
use Rattle.chw_terms.specs.TermView.{applied}
use Rattle.chw_typing.specs.Given.{types_then}
use Rattle.rewriting.specs.Origins.{Origins}
use Rattle.rewriting.specs.Spots.{Spot}
use Rattle.prim_bits.specs.Values.{value_of}
use Rattle.prim_bits.specs.Widths.{TakesNumbers}
use Rattle.rewriting.specs.Primitives.{OfPrimitives, HasValue, literal, word_given, delta}
use Rattle.rewriting.proofs.Lists.{mapped_same, numerals_same, words_same}
use Rattle.rule_parts.specs.Cores.{AnswersCore}
use Rattle.work_prims.specs.Given.{types_in, literals, AreWords}
use Rattle.work_prims.specs.Results.{IsResult, IsResultOn}
use Rattle.work_prims.proofs.Inverted.{computed_of}
use Rattle.work_prims.proofs.Narrow.{narrow_given, taken_narrow, whole_given}
use Rattle.work_prims.proofs.Splits.{given_length, split_is, types_are, rest_is}

-- arguments are literals of one list of words
literals_same : (ws vs : List (Scalar × List Bool)) → literals ws ≡ literals vs → ws ≡ vs
literals_same ws vs q = words_same ws vs (mapped_same (λ e. OfTerm e) (λ e f q. cc) (map literal ws) (map literal vs) q)

words_one : (args : List Arg) (xs ys : List (List Bool)) → AreWords args xs → AreWords args ys → xs ≡ ys
words_one args xs ys a b =
    a.2 ∙ ap (λ ws. map (λ (w : Scalar × List Bool). w.1) ws) (literals_same a.0 b.0 (sym a.1 ∙ b.1)) ∙ sym b.2

-- and types are one list of numbers
pub no_result : (p : Prim) (types : List TypeTree) (args : List Arg) (nats : List ℕ) (words : List (List Bool)) (e : TermTree) → map evaluated types ≡ map (λ n. nat_lit n) nats → AreWords args words → (TakesNumbers p nats (map length words) → ⊥) → IsResultOn p types args e → ⊥
no_result p types args nats words e q a none h =
    let numbers = numerals_same h.nats nats (sym h.closed ∙ q) in
    let bits = words_one args h.words words h.are a in
    none (subst (λ ns. TakesNumbers p ns (map length words)) numbers (subst (λ ws. TakesNumbers p h.nats (map length ws)) bits h.result.takes))

-- as many arguments as types and words
count : (types : List TypeTree) (words : List (Scalar × List Bool)) → length (types_then types (map literal words)) ≡ length types + length words
count types words = given_length types (map literal words) ∙ ap (λ n. length types + n) (length-map words literal)

has_value : (p : Prim) (types : List TypeTree) (args : List Arg) (e : TermTree) (h : IsResultOn p types args e) → HasValue p types h.are.0 h.result.bits
has_value p types args e h =
    let words = h.are.0 in
    let widths = ap (map length) h.are.2 in
    let nats = sym (length-map types evaluated) ∙ ap length h.closed ∙ length-map h.nats (λ n. nat_lit n) in
    let bits = length-map h.words length ∙ ap length h.are.2 ∙ length-map words (λ (w : Scalar × List Bool). w.1) in
    record {
      whole = count types words ∙ (λ i. nats i + sym bits i) ∙ whole_given p h.nats (map length h.words) h.result.takes.0;
      narrow = narrow_given p types h.nats (map length h.words) h.closed h.result.takes;
      nats = h.nats;
      closed = h.closed;
      gives = ap (value_of p h.nats) (sym h.are.2) ∙ h.result.gives;
    }

-- what is found is what the rule makes, and where nothing is found it makes nothing
pub delta_answer : (o : Origins) (at : Spot) (p : Prim) (args rest : List Arg) (r : Option TermTree) → at.mode ≡ K → drop (length (types_in args)) args ≡ rest → MatchOption r ((e : TermTree) → IsResultOn p (types_in args) rest e → ⊥) (λ e. IsResultOn p (types_in args) rest e) → AnswersCore o at Delta (applied (prim p) args) r
delta_answer o at p args rest (Some e) k d h =
    let are = split_is args rest (map literal h.are.0) d h.are.1 in
    let made = delta k (has_value p (types_in args) rest e h) in
    subst (λ e. OfPrimitives o at Delta (applied (prim p) args) e) (sym h.result.is)
    (subst (λ args'. OfPrimitives o at Delta (applied (prim p) args') (word_given (schema_type p) h.result.bits)) (sym are) made)
delta_answer o at p args rest None k d none = λ e m.
    let c = computed_of p args m refl refl in
    let types = types_are args c.types (map literal c.words) c.are in
    let bits = map (λ (w : Scalar × List Bool). w.1) c.words in
    let taken = taken_from_value p c.value.nats bits c.bits c.value.gives in
    none e (record {
      nats = c.value.nats;
      words = bits;
      closed = ap (map evaluated) types ∙ c.value.closed;
      are = (c.words, rest_is args rest c.types (map literal c.words) c.are d, refl);
      result =
          record {
            takes = taken_narrow p c.types c.value.nats (map length bits) c.value.closed taken.0.0 c.value.narrow;
            bits = c.bits;
            gives = c.value.gives;
            is = c.is;
          };
    })

-- outside of constants it makes nothing
pub no_delta : (o : Origins) (at : Spot) (p : Prim) (args : List Arg) → (at.mode ≡ K → ⊥) → AnswersCore o at Delta (applied (prim p) args) None
no_delta o at p args none = λ e m. none (computed_of p args m refl refl).constant

-- so where the value is asked for
pub result_more : (p : Prim) (types : List TypeTree) (args : List Arg) (nats : List ℕ) (words : List (List Bool)) (r : Option TermTree) → map evaluated types ≡ map (λ n. nat_lit n) nats → AreWords args words → MatchOption r (TakesNumbers p nats (map length words) → ⊥) (λ e. IsResult p nats words e) → MatchOption r ((e : TermTree) → IsResultOn p types args e → ⊥) (λ e. IsResultOn p types args e)
result_more p types args nats words (Some e) q a h = record { nats = nats; words = words; closed = q; are = a; result = h }
result_more p types args nats words None q a none = λ e h. no_result p types args nats words e q a none h
