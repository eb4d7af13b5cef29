-- A line of primitives on words: what it asks for, and what it does on literals.
use Rattle.std.specs.List.{AllByRecursion}
use Rattle.std.proofs.Common.{◌≡◌, ◌≤◌, ◌<◌, ◌+◌, ◌⊎◌, inl, inr, ℕ, suc, Bool, List, [], ◌∷◌, length, Some, refl, sym, ap, ◌∙◌, arith}
use Rattle.chw_base.specs.declared.limits.TheConstants.{SCALAR_BITS}
use Rattle.chw_types.specs.declared.kind.Kind.{Kind}
use Rattle.chw_types.specs.declared.kind.Kind.TheVariants.{Nat}
use Rattle.chw_types.specs.declared.kind.Scalar.{Scalar}
use Rattle.chw_types.specs.declared.kind.Scalar.TheVariants.{U, B}
use Rattle.chw_types.specs.Arguments.{list_of}
use Rattle.chw_types.specs.Polynomials.{ended, greatest}
use Rattle.chw_types.specs.SamePromises.{natural_value}
use Rattle.chw_types.specs.TypeMoves.{sub}
use Rattle.chw_types.specs.TypeTree.{TypeTree, ty_var, nat_lit, nat_sum, scalar, TypeTrees}
use Rattle.chw_prims.specs.declared.prim.Primitive.{Primitive as Prim}
use Rattle.chw_prims.specs.declared.row.Row.{Row}
use Rattle.chw_prims.specs.declared.row.Row.TheVariants.{Binary, WideSum, WideProduct, Unary, Shift, Compare, Extend, Truncate, Cut, Joined, Reduce, Packed, Unpacked}
use Rattle.chw_prims.specs.Schemas.{bool, row_type}
use Rattle.prim_bits.specs.Widths.{argument_widths}
use Rattle.chw_terms.specs.Evaluated.{added, evaluated}
use Rattle.chw_terms.specs.Unrolled.{IsUpTo, at_types, widths_in}
use Rattle.chw_typing.specs.HeadTypes.{for_each, from_each}
use Rattle.chw_meaning.specs.Values.{bits, Thunks}
use Rattle.chw_meaning.specs.Steps.{types_asked, thunks_asked, naturals, on_words, by_row}
use Rattle.chw_meaning.specs.Eval.{truth_of, result_by}
use Rattle.rewriting.specs.Primitives.{word_given}
use Rattle.acts.proofs.Widths.{WideAt, one_type, two_types, three_types}
use Rattle.unroll_laws.proofs.Sized.{IsNumber}
use Rattle.rule_types.proofs.Words.{AreNumbers, none_numbers, number_and}

-- a line on words: its parameters, its result, which is a word or a truth value, and what it does
pub record WordRow (row : Row) (nats widths : List ℕ) : Type 0 where
  pub kinds : List Kind
  pub params : List TypeTree
  pub result : TypeTree
  pub is : row_type row ≡ for_each kinds (from_each params result)
  pub on_types : length nats ≡ length kinds
  pub on_terms : length widths ≡ length params
  pub some : 0 < length params
  pub types : types_asked (row_type row) ≡ length kinds
  pub thunks : thunks_asked (row_type row) ≡ length params
  pub given : (b : List Bool) → word_given (row_type row) b ≡ word_given result b
  pub gives : ((x : Scalar) × (w : TypeTree) × (result ≡ scalar x w) × ((ts : TypeTrees) → length (list_of ts) ≡ length kinds → WideAt row w ts) × ((b : List Bool) → result_by row b ≡ bits b)) ⊎ ((result ≡ bool) × ((b : List Bool) → result_by row b ≡ truth_of b))
  pub runs : (q : Prim) (ts : TypeTrees) (xs : Thunks) → by_row row q ts xs ≡ on_words q (naturals ts) (argument_widths row (naturals ts)) xs

asked_types : (ks : List Kind) (ps : List TypeTree) (r : TypeTree) → types_asked r ≡ 0 → types_asked (for_each ks (from_each ps r)) ≡ length ks
asked_types [] [] r e = e
asked_types [] (a ∷ ps) r e = refl
asked_types (k ∷ ks) ps r e = ap suc (asked_types ks ps r e)

asked_thunks : (ks : List Kind) (ps : List TypeTree) (r : TypeTree) → thunks_asked r ≡ 0 → thunks_asked (for_each ks (from_each ps r)) ≡ length ps
asked_thunks [] [] r e = e
asked_thunks [] (a ∷ ps) r e = ap suc (asked_thunks [] ps r e)
asked_thunks (k ∷ ks) ps r e = asked_thunks ks ps r e

given_result : (ks : List Kind) (ps : List TypeTree) (r : TypeTree) (b : List Bool) → word_given (for_each ks (from_each ps r)) b ≡ word_given r b
given_result [] [] r b = refl
given_result [] (a ∷ ps) r b = given_result [] ps r b
given_result (k ∷ ks) ps r b = given_result ks ps r b

abbrev Runs : Row → Type 0
Runs row = (q : Prim) (ts : TypeTrees) (xs : Thunks) → by_row row q ts xs ≡ on_words q (naturals ts) (argument_widths row (naturals ts)) xs

word_line : (row : Row) (nats widths : List ℕ) (ks : List Kind) (ps : List TypeTree) (x : Scalar) (w : TypeTree) → row_type row ≡ for_each ks (from_each ps (scalar x w)) → length nats ≡ length ks → length widths ≡ length ps → 0 < length ps → ((ts : TypeTrees) → length (list_of ts) ≡ length ks → WideAt row w ts) → ((b : List Bool) → result_by row b ≡ bits b) → Runs row → WordRow row nats widths
word_line row nats widths ks ps x w is types terms some wide gives runs =
    record {
      kinds = ks;
      params = ps;
      result = scalar x w;
      is = is;
      on_types = types;
      on_terms = terms;
      some = some;
      types = ap types_asked is ∙ asked_types ks ps (scalar x w) refl;
      thunks = ap thunks_asked is ∙ asked_thunks ks ps (scalar x w) refl;
      given = λ b. ap (λ t. word_given t b) is ∙ given_result ks ps (scalar x w) b;
      gives = inl (x, w, refl, wide, gives);
      runs = runs;
    }

truth_line : (row : Row) (nats widths : List ℕ) (ks : List Kind) (ps : List TypeTree) → row_type row ≡ for_each ks (from_each ps bool) → length nats ≡ length ks → length widths ≡ length ps → 0 < length ps → ((b : List Bool) → result_by row b ≡ truth_of b) → Runs row → WordRow row nats widths
truth_line row nats widths ks ps is types terms some gives runs =
    record {
      kinds = ks;
      params = ps;
      result = bool;
      is = is;
      on_types = types;
      on_terms = terms;
      some = some;
      types = ap types_asked is ∙ asked_types ks ps bool refl;
      thunks = ap thunks_asked is ∙ asked_thunks ks ps bool refl;
      given = λ b. ap (λ t. word_given t b) is ∙ given_result ks ps bool b;
      gives = inr (refl, gives);
      runs = runs;
    }

many : (xs ys : List ℕ) → Some xs ≡ Some ys → length ys ≡ length xs
many xs ys e = let is : xs ≡ ys = cc in ap length (sym is)

pub word_row : (row : Row) (nats widths : List ℕ) → argument_widths row nats ≡ Some widths → WordRow row nats widths
unfolding sub natural_value
word_row (Binary x) (n ∷ []) ws is = word_line (Binary x) (n ∷ []) ws (Nat ∷ []) (scalar x (ty_var 0) ∷ scalar x (ty_var 0) ∷ []) x (ty_var 0) refl refl (many (n ∷ n ∷ []) ws is) (omega arith) (one_type (WideAt (Binary x) (ty_var 0)) (λ a less. refl)) (λ b. refl) (λ q ts xs. refl)
word_row (WideSum x) (n ∷ []) ws is = word_line (WideSum x) (n ∷ []) ws (Nat ∷ []) (scalar x (ty_var 0) ∷ scalar x (ty_var 0) ∷ []) x (nat_sum (ty_var 0) (nat_lit 1)) refl refl (many (n ∷ n ∷ []) ws is) (omega arith) (one_type (WideAt (WideSum x) (nat_sum (ty_var 0) (nat_lit 1))) (λ a less. omega (arith, less))) (λ b. refl) (λ q ts xs. refl)
word_row (WideProduct x) (n ∷ m ∷ []) ws is = word_line (WideProduct x) (n ∷ m ∷ []) ws (Nat ∷ Nat ∷ []) (scalar x (ty_var 1) ∷ scalar x (ty_var 0) ∷ []) x (nat_sum (ty_var 1) (ty_var 0)) refl refl (many (n ∷ m ∷ []) ws is) (omega arith) (two_types (WideAt (WideProduct x) (nat_sum (ty_var 1) (ty_var 0))) (λ a b less. omega (arith, less))) (λ b. refl) (λ q ts xs. refl)
word_row (Unary x) (n ∷ []) ws is = word_line (Unary x) (n ∷ []) ws (Nat ∷ []) (scalar x (ty_var 0) ∷ []) x (ty_var 0) refl refl (many (n ∷ []) ws is) (omega arith) (one_type (WideAt (Unary x) (ty_var 0)) (λ a less. refl)) (λ b. refl) (λ q ts xs. refl)
word_row (Shift x) (n ∷ k ∷ []) ws is = word_line (Shift x) (n ∷ k ∷ []) ws (Nat ∷ Nat ∷ []) (scalar x (ty_var 1) ∷ scalar U (ty_var 0) ∷ []) x (ty_var 1) refl refl (many (n ∷ k ∷ []) ws is) (omega arith) (two_types (WideAt (Shift x) (ty_var 1)) (λ a b less. refl)) (λ b. refl) (λ q ts xs. refl)
word_row (Compare x) (n ∷ []) ws is = truth_line (Compare x) (n ∷ []) ws (Nat ∷ []) (scalar x (ty_var 0) ∷ scalar x (ty_var 0) ∷ []) refl refl (many (n ∷ n ∷ []) ws is) (omega arith) (λ b. refl) (λ q ts xs. refl)
word_row (Extend x) (n ∷ m ∷ []) ws is = word_line (Extend x) (n ∷ m ∷ []) ws (Nat ∷ Nat ∷ []) (scalar x (ty_var 1) ∷ []) x (nat_sum (ty_var 1) (ty_var 0)) refl refl (many (n ∷ []) ws is) (omega arith) (two_types (WideAt (Extend x) (nat_sum (ty_var 1) (ty_var 0))) (λ a b less. omega (arith, less))) (λ b. refl) (λ q ts xs. refl)
word_row (Truncate x) (n ∷ m ∷ []) ws is = word_line (Truncate x) (n ∷ m ∷ []) ws (Nat ∷ Nat ∷ []) (scalar x (nat_sum (ty_var 1) (ty_var 0)) ∷ []) x (ty_var 1) refl refl (many ((n + m) ∷ []) ws is) (omega arith) (two_types (WideAt (Truncate x) (ty_var 1)) (λ a b less. refl)) (λ b. refl) (λ q ts xs. refl)
word_row Cut (l ∷ n ∷ u ∷ []) ws is = word_line Cut (l ∷ n ∷ u ∷ []) ws (Nat ∷ Nat ∷ Nat ∷ []) (scalar B (nat_sum (nat_sum (ty_var 0) (ty_var 1)) (ty_var 2)) ∷ []) B (ty_var 1) refl refl (many ((u + n + l) ∷ []) ws is) (omega arith) (three_types (WideAt Cut (ty_var 1)) (λ a b c less. refl)) (λ b. refl) (λ q ts xs. refl)
word_row Joined (n ∷ m ∷ []) ws is = word_line Joined (n ∷ m ∷ []) ws (Nat ∷ Nat ∷ []) (scalar B (ty_var 1) ∷ scalar B (ty_var 0) ∷ []) B (nat_sum (ty_var 1) (ty_var 0)) refl refl (many (n ∷ m ∷ []) ws is) (omega arith) (two_types (WideAt Joined (nat_sum (ty_var 1) (ty_var 0))) (λ a b less. omega (arith, less))) (λ b. refl) (λ q ts xs. refl)
word_row Reduce (n ∷ []) ws is = truth_line Reduce (n ∷ []) ws (Nat ∷ []) (scalar B (ty_var 0) ∷ []) refl refl (many (n ∷ []) ws is) (omega arith) (λ b. refl) (λ q ts xs. refl)
word_row (Packed x) (n ∷ []) ws is = word_line (Packed x) (n ∷ []) ws (Nat ∷ []) (scalar x (ty_var 0) ∷ []) B (ty_var 0) refl refl (many (n ∷ []) ws is) (omega arith) (one_type (WideAt (Packed x) (ty_var 0)) (λ a less. refl)) (λ b. refl) (λ q ts xs. refl)
word_row (Unpacked x) (n ∷ []) ws is = word_line (Unpacked x) (n ∷ []) ws (Nat ∷ []) (scalar B (ty_var 0) ∷ []) x (ty_var 0) refl refl (many (n ∷ []) ws is) (omega arith) (one_type (WideAt (Unpacked x) (ty_var 0)) (λ a less. refl)) (λ b. refl) (λ q ts xs. refl)
word_row _ nats ws is = absurd cc

-- a number within a limit, alone or in a sum
pub number_up : (most : ℕ) (t : TypeTree) (n : ℕ) → IsNumber t n → IsUpTo most (evaluated t) → n ≤ most
number_up most t n e up =
    let same : n ≡ up.0 = let is : nat_lit n ≡ nat_lit up.0 = sym e ∙ up.1 in cc in
    omega (arith, same, up.2)

pub sum_up : (most : ℕ) (t u : TypeTree) (m n : ℕ) → IsNumber t m → IsNumber u n → most < greatest → IsUpTo most (added (evaluated t) (evaluated u)) → m + n ≤ most
sum_up most t u m n e f small up =
    let same : ended (m + n) ≡ up.0 = let is : nat_lit (ended (m + n)) ≡ nat_lit up.0 = sym (λ i. added (e i) (f i)) ∙ up.1 in cc in
    omega (arith, same, up.2, small)

abbrev pub InRange : List ℕ → Type 0
InRange ns = AllByRecursion (λ n. n ≤ greatest) ns

one_up : (t : TypeTree) (n : ℕ) → IsNumber t n → IsUpTo SCALAR_BITS (evaluated t) → n ≤ greatest
one_up t n e up = let l = number_up SCALAR_BITS t n e up in omega (arith, l)

two_up : (t u : TypeTree) (m n : ℕ) → IsNumber t m → IsNumber u n → IsUpTo SCALAR_BITS (added (evaluated t) (evaluated u)) → m + n ≤ greatest
two_up t u m n e f up = let l = sum_up SCALAR_BITS t u m n e f (omega arith) up in omega (arith, l)

-- no number of a primitive within the limits is over the greatest
pub in_range : (row : Row) {types : List TypeTree} {nats : List ℕ} (widths : List ℕ) → AreNumbers types nats → argument_widths row nats ≡ Some widths → AllByRecursion (λ k. IsUpTo SCALAR_BITS (at_types types k)) (widths_in (row_type row)) → InRange nats
unfolding sub evaluated
in_range (Binary x) ws (number_and {t = a} {n = n} e none_numbers) is narrow = (one_up a n e narrow.0, tt)
in_range (WideSum x) ws (number_and {t = a} {n = n} e none_numbers) is narrow = (one_up a n e narrow.0, tt)
in_range (WideProduct x) ws (number_and {t = a} {n = n} e (number_and {t = c} {n = m} f none_numbers)) is narrow = (one_up a n e narrow.0, (one_up c m f narrow.1.0, tt))
in_range (Unary x) ws (number_and {t = a} {n = n} e none_numbers) is narrow = (one_up a n e narrow.0, tt)
in_range (Shift x) ws (number_and {t = a} {n = n} e (number_and {t = c} {n = m} f none_numbers)) is narrow = (one_up a n e narrow.0, (one_up c m f narrow.1.0, tt))
in_range (Compare x) ws (number_and {t = a} {n = n} e none_numbers) is narrow = (one_up a n e narrow.0, tt)
in_range (Extend x) ws (number_and {t = a} {n = n} e (number_and {t = c} {n = m} f none_numbers)) is narrow = let l = two_up a c n m e f narrow.1.0 in (omega (arith, l), (omega (arith, l), tt))
in_range (Truncate x) ws (number_and {t = a} {n = n} e (number_and {t = c} {n = m} f none_numbers)) is narrow = let l = two_up a c n m e f narrow.0 in (omega (arith, l), (omega (arith, l), tt))
in_range Cut ws (number_and {t = a} {n = l} e (number_and {t = c} {n = n} f (number_and {t = d} {n = u} g none_numbers))) is narrow =
    let inner : IsNumber (nat_sum d c) (ended (u + n)) = λ i. added (g i) (f i) in
    let m = two_up (nat_sum d c) a (ended (u + n)) l inner e narrow.0 in
    let k = sum_up SCALAR_BITS (nat_sum d c) a (ended (u + n)) l inner e (omega arith) narrow.0 in
    (omega (arith, m), (omega (arith, k), (omega (arith, k), tt)))
in_range Joined ws (number_and {t = a} {n = n} e (number_and {t = c} {n = m} f none_numbers)) is narrow = (one_up a n e narrow.0, (one_up c m f narrow.1.0, tt))
in_range Reduce ws (number_and {t = a} {n = n} e none_numbers) is narrow = (one_up a n e narrow.0, tt)
in_range (Packed x) ws (number_and {t = a} {n = n} e none_numbers) is narrow = (one_up a n e narrow.0, tt)
in_range (Unpacked x) ws (number_and {t = a} {n = n} e none_numbers) is narrow = (one_up a n e narrow.0, tt)
in_range _ ws _ is narrow = absurd cc
