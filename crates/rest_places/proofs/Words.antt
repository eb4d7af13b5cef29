-- At rest in constants no primitive on words has literals alone: it would have a value.
use Rattle.std.proofs.Common.{◌≡◌, ◌∙◌, ◌<◌, ◌≤◌, ◌+◌, refl, sym, ap, ℕ, Bool, List, [], ◌∷◌, length, map, arith, Some}
use Rattle.std.proofs.lemmas.List.{length-map}
use Rattle.std.specs.List.{AllByRecursion, slice_index}
use Rattle.chw_base.specs.declared.limits.TheConstants.{SCALAR_BITS}
use Rattle.chw_types.specs.declared.kind.Scalar.{Scalar}
use Rattle.chw_types.specs.declared.kind.Scalar.TheVariants.{U, B}
use Rattle.chw_types.specs.Arguments.{arguments}
use Rattle.chw_types.specs.Polynomials.{ended, greatest}
use Rattle.chw_types.specs.TypeMoves.{sub}
use Rattle.chw_types.specs.TypeTree.{TypeTree, nat_lit, nat_sum, scalar}
use Rattle.chw_types.specs.TypeView.{trees_of}
use Rattle.chw_types.proofs.SameLaws.{same_turned, same_through}
use Rattle.type_laws.proofs.SameForms.{as_scalar}
use Rattle.chw_prims.specs.declared.prim.Primitive.{Primitive as Prim}
use Rattle.chw_prims.specs.declared.row.Row.{Row}
use Rattle.chw_prims.specs.declared.row.Row.TheVariants.{Binary, WideSum, WideProduct, Unary, Shift, Compare, Extend, Truncate, Cut, Joined, Reduce, Packed, Unpacked, Mapping, Applying, Constant, Delay, Memory, Crossing}
use Rattle.chw_prims.specs.Schemas.{schema_type, row_of, row_type}
use Rattle.prim_bits.specs.Widths.{argument_widths, result_width, Takes}
use Rattle.prim_bits.proofs.Taken.{value_where_taken}
use Rattle.chw_terms.specs.declared.rule.Rule.TheVariants.{Delta}
use Rattle.chw_terms.specs.declared.scene.Mode.TheVariants.{K}
use Rattle.chw_terms.specs.declared.term.Arg.TheVariants.{OfTerm}
use Rattle.chw_terms.specs.Evaluated.{evaluated, added}
use Rattle.chw_terms.specs.TermTree.{TermTree, prim, lit}
use Rattle.chw_terms.specs.TermView.{applied}
use Rattle.chw_terms.specs.Unrolled.{at_types, widths_in, parameters, IsUpTo}
use Rattle.chw_typing.specs.Given.{types_then, AreGiven, IsSaturated}
use Rattle.chw_typing.specs.HeadTypes.{widest}
use Rattle.chw_typing.specs.Programs.{IsSound}
use Rattle.chw_typing.specs.Scopes.{Setting}
use Rattle.chw_typing.specs.Typing.{HasType, h_lit, HasTypeUpTo}
use Rattle.chw_typing.proofs.EvaluatedTypes.{same_evaluated}
use Rattle.chw_typing.proofs.Saturated.{prim_at_arguments}
use Rattle.normal_forms.specs.Blocked.{IsRowOnSignals}
use Rattle.rewriting.specs.Origins.{Origins, setting_at}
use Rattle.rewriting.specs.Primitives.{literal, HasValue, delta}
use Rattle.rewriting.specs.Spots.{Spot, IsRowOnWords, IsOnWords}
use Rattle.rest_places.specs.PrimLaws.{IsWithinLimits}
use Rattle.rest_places.specs.Rest.{IsRestPlace}
use Rattle.rest_places.specs.Spines.{param_kinds, result_of}
use Rattle.rest_places.proofs.Elements.{same_numerals}
use Rattle.rest_places.proofs.Numbers.{closed_is_number, Listed, listed, listed_none, listed_and}
use Rattle.rest_places.proofs.Sizes.{sizes_within}
use Rattle.rest_places.proofs.Spines.{prim_parts, prim_arity}
use Rattle.rest_places.proofs.Steps.{no_core}

-- the literals with their types
data GivenWords (s : Setting) (vars : List TypeTree) : List TypeTree → List (Scalar × List Bool) → Type 0 where
  words_none : GivenWords s vars [] []
  word_and : {t : TypeTree} {ts : List TypeTree} {w : Scalar × List Bool} {ws : List (Scalar × List Bool)} → HasTypeUpTo s [] vars (literal w) t → GivenWords s vars ts ws → GivenWords s vars (t ∷ ts) (w ∷ ws)

given_words : {s : Setting} {vars : List TypeTree} (ts : List TypeTree) (words : List (Scalar × List Bool)) → AreGiven s [] vars ts (map literal words) → GivenWords s vars ts words
given_words [] [] h = words_none
given_words [] (w ∷ words) h = absurd h
given_words (t ∷ ts) [] h = absurd h
given_words (t ∷ ts) (w ∷ words) h = word_and h.0 (given_words ts words h.1)

-- a number within a limit, and a sum
number_up : (t : TypeTree) (n : ℕ) → evaluated t ≡ nat_lit n → IsUpTo SCALAR_BITS (evaluated t) → n ≤ SCALAR_BITS
number_up t n e up =
    let is : nat_lit n ≡ nat_lit up.0 = sym e ∙ up.1 in
    let same : n ≡ up.0 = cc in
    omega (arith, same, up.2)

sum_number : (t u : TypeTree) (m n : ℕ) → evaluated t ≡ nat_lit m → evaluated u ≡ nat_lit n → IsUpTo SCALAR_BITS (evaluated (nat_sum t u)) → (evaluated (nat_sum t u) ≡ nat_lit (m + n)) × (m + n ≤ SCALAR_BITS)
unfolding evaluated
sum_number t u m n e f up =
    let sum : evaluated (nat_sum t u) ≡ nat_lit (ended (m + n)) = λ i. added (e i) (f i) in
    let is : nat_lit (ended (m + n)) ≡ nat_lit up.0 = sym sum ∙ up.1 in
    let same : ended (m + n) ≡ up.0 = cc in
    let small : SCALAR_BITS < greatest = omega arith in
    let whole : ended (m + n) ≡ m + n = omega (arith, same, up.2, small) in
    (sum ∙ ap nat_lit whole, omega (arith, same, up.2, small))

cut_number : (t u v : TypeTree) (l m n : ℕ) → evaluated t ≡ nat_lit l → evaluated u ≡ nat_lit m → evaluated v ≡ nat_lit n → IsUpTo SCALAR_BITS (evaluated (nat_sum (nat_sum t u) v)) → (evaluated (nat_sum (nat_sum t u) v) ≡ nat_lit (l + m + n)) × (l + m + n ≤ SCALAR_BITS)
unfolding evaluated
cut_number t u v l m n e f g up =
    let inner : evaluated (nat_sum t u) ≡ nat_lit (ended (l + m)) = λ i. added (e i) (f i) in
    let sum : evaluated (nat_sum (nat_sum t u) v) ≡ nat_lit (ended (ended (l + m) + n)) = λ i. added (inner i) (g i) in
    let is : nat_lit (ended (ended (l + m) + n)) ≡ nat_lit up.0 = sym sum ∙ up.1 in
    let same : ended (ended (l + m) + n) ≡ up.0 = cc in
    let small : SCALAR_BITS < greatest = omega arith in
    let whole : ended (ended (l + m) + n) ≡ l + m + n = omega (arith, same, up.2, small) in
    (sum ∙ ap nat_lit whole, omega (arith, same, up.2, small))

-- the width of a literal of a scalar type
literal_width : {s : Setting} {vars : List TypeTree} {w : Scalar × List Bool} {q : Scalar} {v : TypeTree} (k : ℕ) → HasTypeUpTo s [] vars (literal w) (scalar q v) → evaluated v ≡ nat_lit k → k ≤ SCALAR_BITS → k ≡ length w.1
literal_width {s} {vars} {w} {q} {v} k given is least =
    let of = literal_is given.has in
    let parts = as_scalar given.same in
    let one : scalar q parts.0 ≡ scalar w.0 (nat_lit (length w.1)) = sym parts.1 ∙ of.0 in
    let number : parts.0 ≡ nat_lit (length w.1) = cc in
    let same = same_numerals k (length w.1) (same_through (same_turned (same_evaluated v)) parts.2) is number in
    let narrow : length w.1 ≤ widest = of.1 in
    omega (arith, same, least, narrow)
  where
    literal_is : {u : TypeTree} → HasType s [] vars (lit w.0 w.1) u → (u ≡ scalar w.0 (nat_lit (length w.1))) × (length w.1 ≤ widest)
    literal_is (h_lit l) = (refl, l)

-- what a primitive on words needs for a value
record RowValue (row : Row) (types : List TypeTree) (words : List (Scalar × List Bool)) : Type 0 where
  pub nats : List ℕ
  pub closed : map evaluated types ≡ map (λ n. nat_lit n) nats
  pub widths : argument_widths row nats ≡ Some (map (λ (w : Scalar × List Bool). length w.1) words)
  pub result : result_width row (slice_index nats 0) (slice_index nats 1) ≤ SCALAR_BITS

module _ (s : Setting) (sound : IsSound s) (vars : List TypeTree) where
  abbrev Narrow : Row → List TypeTree → Type 0
  Narrow row types = AllByRecursion (λ k. IsUpTo SCALAR_BITS (at_types types k)) (widths_in (row_type row))

  abbrev Given : Row → List TypeTree → List (Scalar × List Bool) → Type 0
  Given row types words = GivenWords s vars (map (λ p. sub p (arguments (trees_of types))) (parameters (row_type row))) words

  -- one number, and one word or two of its width
  one_word : (row : Row) (a : TypeTree) (w : Scalar × List Bool) (q : Scalar) (n : ℕ) → evaluated a ≡ nat_lit n → n ≤ SCALAR_BITS → HasTypeUpTo s [] vars (literal w) (scalar q a) → ((m : ℕ) → argument_widths row (m ∷ []) ≡ Some (m ∷ [])) → result_width row n (slice_index (n ∷ []) 1) ≤ SCALAR_BITS → RowValue row (a ∷ []) (w ∷ [])
  one_word row a w q n e l d is result =
      let wide = literal_width n d e l in
      record { nats = n ∷ []; closed = λ i. e i ∷ []; widths = is n ∙ (λ i. Some (wide i ∷ [])); result = result }

  two_words : (row : Row) (a : TypeTree) (v w : Scalar × List Bool) (q : Scalar) (n : ℕ) → evaluated a ≡ nat_lit n → n ≤ SCALAR_BITS → HasTypeUpTo s [] vars (literal v) (scalar q a) → HasTypeUpTo s [] vars (literal w) (scalar q a) → ((m : ℕ) → argument_widths row (m ∷ []) ≡ Some (m ∷ m ∷ [])) → result_width row n (slice_index (n ∷ []) 1) ≤ SCALAR_BITS → RowValue row (a ∷ []) (v ∷ w ∷ [])
  two_words row a v w q n e l d f is result =
      let first = literal_width n d e l in
      let second = literal_width n f e l in
      record { nats = n ∷ []; closed = λ i. e i ∷ []; widths = is n ∙ (λ i. Some (first i ∷ second i ∷ [])); result = result }

  -- two numbers, and a word of each width
  each_word : (row : Row) (a b : TypeTree) (v w : Scalar × List Bool) (q r : Scalar) (m n : ℕ) → evaluated a ≡ nat_lit m → evaluated b ≡ nat_lit n → m ≤ SCALAR_BITS → n ≤ SCALAR_BITS → HasTypeUpTo s [] vars (literal v) (scalar q a) → HasTypeUpTo s [] vars (literal w) (scalar r b) → ((i j : ℕ) → argument_widths row (i ∷ j ∷ []) ≡ Some (i ∷ j ∷ [])) → result_width row m n ≤ SCALAR_BITS → RowValue row (a ∷ b ∷ []) (v ∷ w ∷ [])
  each_word row a b v w q r m n e f l k d g is result =
      let first = literal_width m d e l in
      let second = literal_width n g f k in
      record { nats = m ∷ n ∷ []; closed = λ i. e i ∷ f i ∷ []; widths = is m n ∙ (λ i. Some (first i ∷ second i ∷ [])); result = result }

  row_computes : (row : Row) → IsRowOnWords row → {types : List TypeTree} {words : List (Scalar × List Bool)} → Listed s types (param_kinds (row_type row)) → Given row types words → Narrow row types → RowValue row types words
  unfolding sub evaluated
  row_computes (Binary x) on (listed_and {t = a} d listed_none) (word_and {w = v} f (word_and {w = w} g words_none)) narrow =
      let n = closed_is_number s a sound d in
      let l = number_up a n.0 n.1 narrow.0 in
      two_words (Binary x) a v w x n.0 n.1 l f g (λ m. refl) l
  row_computes (WideSum x) on (listed_and {t = a} d listed_none) (word_and {w = v} f (word_and {w = w} g words_none)) narrow =
      let n = closed_is_number s a sound d in
      two_words (WideSum x) a v w x n.0 n.1 (number_up a n.0 n.1 narrow.0) f g (λ m. refl) (sum_number a (nat_lit 1) n.0 1 n.1 refl narrow.1.1.0).1
  row_computes (WideProduct x) on (listed_and {t = a} d (listed_and {t = b} e listed_none)) (word_and {w = v} f (word_and {w = w} g words_none)) narrow =
      let m = closed_is_number s a sound d in
      let n = closed_is_number s b sound e in
      each_word (WideProduct x) a b v w x x m.0 n.0 m.1 n.1 (number_up a m.0 m.1 narrow.0) (number_up b n.0 n.1 narrow.1.0) f g (λ i j. refl) (sum_number a b m.0 n.0 m.1 n.1 narrow.1.1.0).1
  row_computes (Unary x) on (listed_and {t = a} d listed_none) (word_and {w = w} f words_none) narrow =
      let n = closed_is_number s a sound d in
      let l = number_up a n.0 n.1 narrow.0 in
      one_word (Unary x) a w x n.0 n.1 l f (λ m. refl) l
  row_computes (Shift x) on (listed_and {t = a} d (listed_and {t = b} e listed_none)) (word_and {w = v} f (word_and {w = w} g words_none)) narrow =
      let m = closed_is_number s a sound d in
      let n = closed_is_number s b sound e in
      let l = number_up a m.0 m.1 narrow.0 in
      each_word (Shift x) a b v w x U m.0 n.0 m.1 n.1 l (number_up b n.0 n.1 narrow.1.0) f g (λ i j. refl) l
  row_computes (Compare x) on (listed_and {t = a} d listed_none) (word_and {w = v} f (word_and {w = w} g words_none)) narrow =
      let n = closed_is_number s a sound d in
      two_words (Compare x) a v w x n.0 n.1 (number_up a n.0 n.1 narrow.0) f g (λ m. refl) (omega arith)
  row_computes (Extend x) on (listed_and {t = a} d (listed_and {t = b} e listed_none)) (word_and {w = w} f words_none) narrow =
      let m = closed_is_number s a sound d in
      let n = closed_is_number s b sound e in
      let wide = literal_width m.0 f m.1 (number_up a m.0 m.1 narrow.0) in
      record { nats = m.0 ∷ n.0 ∷ []; closed = λ i. m.1 i ∷ n.1 i ∷ []; widths = λ i. Some (wide i ∷ []); result = (sum_number a b m.0 n.0 m.1 n.1 narrow.1.0).1 }
  row_computes (Truncate x) on (listed_and {t = a} d (listed_and {t = b} e listed_none)) (word_and {w = w} f words_none) narrow =
      let m = closed_is_number s a sound d in
      let n = closed_is_number s b sound e in
      let sum = sum_number a b m.0 n.0 m.1 n.1 narrow.0 in
      let wide = literal_width (m.0 + n.0) f sum.0 sum.1 in
      record { nats = m.0 ∷ n.0 ∷ []; closed = λ i. m.1 i ∷ n.1 i ∷ []; widths = λ i. Some (wide i ∷ []); result = number_up a m.0 m.1 narrow.1.0 }
  row_computes Cut on (listed_and {t = a} d (listed_and {t = b} e (listed_and {t = c} h listed_none))) (word_and {w = w} f words_none) narrow =
      let l = closed_is_number s a sound d in
      let n = closed_is_number s b sound e in
      let u = closed_is_number s c sound h in
      let sum = cut_number c b a u.0 n.0 l.0 u.1 n.1 l.1 narrow.0 in
      let wide = literal_width (u.0 + n.0 + l.0) f sum.0 sum.1 in
      record { nats = l.0 ∷ n.0 ∷ u.0 ∷ []; closed = λ i. l.1 i ∷ n.1 i ∷ u.1 i ∷ []; widths = λ i. Some (wide i ∷ []); result = number_up b n.0 n.1 narrow.1.0 }
  row_computes Joined on (listed_and {t = a} d (listed_and {t = b} e listed_none)) (word_and {w = v} f (word_and {w = w} g words_none)) narrow =
      let m = closed_is_number s a sound d in
      let n = closed_is_number s b sound e in
      each_word Joined a b v w B B m.0 n.0 m.1 n.1 (number_up a m.0 m.1 narrow.0) (number_up b n.0 n.1 narrow.1.0) f g (λ i j. refl) (sum_number a b m.0 n.0 m.1 n.1 narrow.1.1.0).1
  row_computes Reduce on (listed_and {t = a} d listed_none) (word_and {w = w} f words_none) narrow =
      let n = closed_is_number s a sound d in
      one_word Reduce a w B n.0 n.1 (number_up a n.0 n.1 narrow.0) f (λ m. refl) (omega arith)
  row_computes (Packed x) on (listed_and {t = a} d listed_none) (word_and {w = w} f words_none) narrow =
      let n = closed_is_number s a sound d in
      let l = number_up a n.0 n.1 narrow.0 in
      one_word (Packed x) a w x n.0 n.1 l f (λ m. refl) l
  row_computes (Unpacked x) on (listed_and {t = a} d listed_none) (word_and {w = w} f words_none) narrow =
      let n = closed_is_number s a sound d in
      let l = number_up a n.0 n.1 narrow.0 in
      one_word (Unpacked x) a w B n.0 n.1 l f (λ m. refl) l
  row_computes _ on types words narrow = absurd on

-- no line is on words and on signals
words_no_signals : (row : Row) → IsRowOnWords row → IsRowOnSignals row → ⊥
words_no_signals Mapping on h = on
words_no_signals Applying on h = on
words_no_signals Constant on h = on
words_no_signals Delay on h = on
words_no_signals Memory on h = on
words_no_signals Crossing on h = on
words_no_signals _ on h = h

widths_again : (words : List (Scalar × List Bool)) → map (λ (w : Scalar × List Bool). length w.1) words ≡ map length (map (λ (w : Scalar × List Bool). w.1) words)
widths_again [] = refl
widths_again (w ∷ words) = ap (λ ns. length w.1 ∷ ns) (widths_again words)

arguments_many : (types : List TypeTree) (es : List TermTree) → length (types_then types es) ≡ length types + length es
arguments_many [] es = let same = length-map es (λ e. OfTerm e) in omega (arith, same)
arguments_many (t ∷ types) es = let same = arguments_many types es in omega (arith, same)

pub no_words_on_literals : (o : Origins) (at : Spot) (p : Prim) (types : List TypeTree) (words : List (Scalar × List Bool)) (t : TypeTree) → at.mode ≡ K → IsOnWords p → length types ≡ length (param_kinds (schema_type p)) → length words ≡ length (parameters (schema_type p)) → IsRestPlace o at (applied (prim p) (types_then types (map literal words))) t → ⊥
no_words_on_literals o at p types words t constant on l m rest =
    no_core Delta (applied (prim p) (types_then types es)) _ [] (delta constant value.1) rest
  where
    es : List TermTree
    es = map literal words

    s : Setting
    s = setting_at o

    bits : List (List Bool)
    bits = map (λ (w : Scalar × List Bool). w.1) words

    many : length es ≡ length (parameters (schema_type p))
    many = length-map words literal ∙ m

    given : IsSaturated s [] at.vars (param_kinds (schema_type p)) (parameters (schema_type p)) (result_of (schema_type p)) types es t
    given = prim_at_arguments s [] at.vars p (param_kinds (schema_type p)) (parameters (schema_type p)) (result_of (schema_type p)) types es t rest.place.sound rest.place.vars (prim_parts p) l many rest.has

    within : IsWithinLimits p types
    within = sizes_within o at p types (map (λ e. OfTerm e) es) t (words_no_signals (row_of p) on, (λ w. constant)) given.have rest

    row : RowValue (row_of p) types words
    row = row_computes s rest.place.sound at.vars (row_of p) on (listed types given.have) (given_words (map (λ q. sub q (arguments (trees_of types))) (parameters (schema_type p))) words given.args_given) within.narrow

    taken : Takes p row.nats (map length bits)
    taken = (row.widths ∙ ap Some (widths_again words), (let narrow = row.result in omega (arith, narrow)))

    value : (b : List Bool) × HasValue p types words b
    value = (
      _,
      record {
        whole = arguments_many types es ∙ (let asked = prim_arity p in omega (arith, asked, l, many));
        narrow = within.narrow;
        nats = row.nats;
        closed = row.closed;
        gives = value_where_taken p row.nats bits taken;
      },
    )
