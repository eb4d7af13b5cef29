-- The value of a primitive on words has the type that the primitive has there.
use Rattle.std.proofs.Common.{◌++◌, ◌∙◌, false, ◌+◌, ◌∷◌, ◌≡◌, ◌≤◌, Bool, List, Some, [], arith, length, map, refl, subst, sym, true, ℕ}
use Rattle.std.specs.List.{AllByRecursion, slice_index}
use Rattle.chw_base.specs.declared.limits.TheConstants.{SCALAR_BITS}
use Rattle.chw_types.proofs.SameLaws.{same_through, same_turned}
use Rattle.chw_types.specs.Arguments.{arguments}
use Rattle.chw_types.specs.BuiltIn.{built_in}
use Rattle.chw_types.specs.Polynomials.{ended}
use Rattle.chw_types.specs.SameTypes.{SameTypes, same_scalar}
use Rattle.chw_types.specs.TypeMoves.{sub}
use Rattle.chw_types.specs.TypeTree.{TypeTree, nat_lit, nat_sum, scalar, ty_var}
use Rattle.chw_types.specs.TypeView.{trees_of}
use Rattle.chw_types.specs.declared.declarations.Data.{Data}
use Rattle.chw_types.specs.declared.kind.Kind.{Kind}
use Rattle.chw_types.specs.declared.kind.Kind.TheVariants.{Nat}
use Rattle.chw_types.specs.declared.kind.Scalar.{Scalar}
use Rattle.chw_types.specs.declared.kind.Scalar.TheVariants.{B, U}
use Rattle.chw_prims.specs.Schemas.{bool, row_of, row_type}
use Rattle.chw_prims.specs.declared.prim.Primitive.{Primitive as Prim}
use Rattle.chw_prims.specs.declared.row.Row.{Row}
use Rattle.chw_prims.specs.declared.row.Row.TheVariants.{Binary, Compare, Cut, Extend, Joined, Packed, Reduce, Shift, Truncate, Unary, Unpacked, WideProduct, WideSum}
use Rattle.prim_bits.specs.Widths.{argument_widths, result_width}
use Rattle.chw_terms.specs.Constructors.{Constructor, con_at}
use Rattle.chw_terms.specs.Evaluated.{added, evaluated}
use Rattle.chw_terms.specs.TermTree.{TermTree, con, lit, prim}
use Rattle.chw_terms.specs.TermView.{applied}
use Rattle.chw_terms.specs.Unrolled.{IsUpTo, at_types, widths_in}
use Rattle.chw_typing.proofs.EvaluatedTypes.{same_evaluated}
use Rattle.chw_typing.specs.HeadTypes.{con_type, for_each, from_each, widest}
use Rattle.chw_typing.specs.Programs.{IsSound}
use Rattle.chw_typing.specs.Scopes.{AreTermTypes, Setting}
use Rattle.chw_typing.specs.Typing.{HasType, HasTypeUpTo, h_con, h_lit}
use Rattle.chw_typing.proofs.Saturated.{prim_at_arguments}
use Rattle.chw_typing.specs.Given.{types_then}
use Rattle.unroll_laws.proofs.Sized.{IsNumber, sum_number, width_fits}
use Rattle.rewriting.specs.Spots.{asked_for}
use Rattle.rewriting.specs.Primitives.{word_given}

-- types whose values are these numbers
pub data AreNumbers : List TypeTree → List ℕ → Type 0 where
  none_numbers : AreNumbers [] []
  number_and : {t : TypeTree} {n : ℕ} {ts : List TypeTree} {ns : List ℕ} → IsNumber t n → AreNumbers ts ns → AreNumbers (t ∷ ts) (n ∷ ns)

pub are_numbers : (types : List TypeTree) (nats : List ℕ) → map evaluated types ≡ map (λ n. nat_lit n) nats → AreNumbers types nats
are_numbers [] [] e = none_numbers
are_numbers (t ∷ ts) (n ∷ ns) e = let is : evaluated t ≡ nat_lit n = cc in number_and is (are_numbers ts ns cc)
are_numbers [] (n ∷ ns) e = absurd cc
are_numbers (t ∷ ts) [] e = absurd cc

-- a typed primitive of a line of the table, with all its arguments and within the limits, and a word of its result's width
pub record WordCall (row : Row) (types : List TypeTree) (es : List TermTree) (nats : List ℕ) (b : List Bool) : Type 0 where
  pub s : Setting
  pub vars : List TypeTree
  pub p : Prim
  pub t : TypeTree
  pub sound : IsSound s
  pub typed : AreTermTypes s [] vars
  pub is : row_of p ≡ row
  pub whole : length types + length es ≡ asked_for (row_type row)
  pub narrow : AllByRecursion (λ k. IsUpTo SCALAR_BITS (at_types types k)) (widths_in (row_type row))
  pub width : length b ≡ result_width row (slice_index nats 0) (slice_index nats 1)
  pub has : HasType s [] vars (applied (prim p) (types_then types es)) t

number_is : (t : TypeTree) (n : ℕ) → IsNumber t n → SameTypes t (nat_lit n)
number_is t n e = subst (SameTypes t) e (same_evaluated t)

sum_is : (t u : TypeTree) (m n : ℕ) → IsNumber t m → IsNumber u n → SameTypes (nat_sum t u) (nat_lit (m + n))
sum_is t u m n e f = same_through (same_evaluated (nat_sum t u)) (same_turned (sum_number t u m n e f))

-- a literal of the result's type
word_scalar : {row : Row} {types : List TypeTree} {es : List TermTree} {nats : List ℕ} {b : List Bool} (c : WordCall row types es nats b) (ks : List Kind) (ps : List TypeTree) (x : Scalar) (w : TypeTree) (n : ℕ) → row_type row ≡ for_each ks (from_each ps (scalar x w)) → length types ≡ length ks → length es ≡ length ps → length b ≡ n → n ≤ widest → SameTypes (sub w (arguments (trees_of types))) (nat_lit n) → HasTypeUpTo c.s [] c.vars (lit x b) c.t
unfolding sub
word_scalar {types = types} {es = es} {b = b} c ks ps x w n is l m e fits same =
    let typed : row_type (row_of c.p) ≡ for_each ks (from_each ps (scalar x w)) = subst (λ r. row_type r ≡ for_each ks (from_each ps (scalar x w))) (sym c.is) is in
    let at = prim_at_arguments c.s [] c.vars c.p ks ps (scalar x w) types es c.t c.sound c.typed typed l m c.has in
    record {
      type = scalar x (nat_lit (length b));
      has = h_lit (subst (λ k. k ≤ widest) (sym e) fits);
      same = same_through (same_turned at.gives) (same_scalar (subst (λ k. SameTypes (sub w (arguments (trees_of types))) (nat_lit k)) (sym e) same));
    }

-- a truth value as a constructor
truth : (s : Setting) (c : ℕ) → IsSound s → ((others : List Data) → (it : Constructor) × (con_at (built_in ++ others) c ≡ Some it) × (con_type it ≡ bool)) → (vars : List TypeTree) → HasType s [] vars (con c) bool
truth s c h of vars =
    let it = of h.begins.0 in
    subst (HasType s [] vars (con c)) it.2 (h_con (subst (λ ds. con_at ds c ≡ Some it.0) (sym h.begins.1) it.1))

truth_typed : (s : Setting) (vars : List TypeTree) (b : List Bool) → IsSound s → HasType s [] vars (word_given bool b) bool
truth_typed s vars [] h = truth s 0 h (λ others. (_, refl, refl)) vars
truth_typed s vars (true ∷ []) h = truth s 1 h (λ others. (_, refl, refl)) vars
truth_typed s vars (true ∷ x ∷ b) h = truth s 0 h (λ others. (_, refl, refl)) vars
truth_typed s vars (false ∷ b) h = truth s 0 h (λ others. (_, refl, refl)) vars

word_truth : {row : Row} {types : List TypeTree} {es : List TermTree} {nats : List ℕ} {b : List Bool} (c : WordCall row types es nats b) (ks : List Kind) (ps : List TypeTree) → row_type row ≡ for_each ks (from_each ps bool) → length types ≡ length ks → length es ≡ length ps → HasTypeUpTo c.s [] c.vars (word_given bool b) c.t
unfolding sub
word_truth {types = types} {es = es} {b = b} c ks ps is l m =
    let typed : row_type (row_of c.p) ≡ for_each ks (from_each ps bool) = subst (λ r. row_type r ≡ for_each ks (from_each ps bool)) (sym c.is) is in
    let at = prim_at_arguments c.s [] c.vars c.p ks ps bool types es c.t c.sound c.typed typed l m c.has in
    record { type = bool; has = truth_typed c.s c.vars b c.sound; same = same_turned at.gives }

-- a sum within the limit is one that literals may have
sum_fits : (t u : TypeTree) (m n : ℕ) → IsNumber t m → IsNumber u n → IsUpTo SCALAR_BITS (added (evaluated t) (evaluated u)) → m + n ≤ widest
sum_fits t u m n e f up =
    let is : nat_lit (ended (m + n)) ≡ nat_lit up.0 = sym (λ i. added (e i) (f i)) ∙ up.1 in
    let same : ended (m + n) ≡ up.0 = cc in
    omega (arith, same, up.2)

-- the primitives with one number
one_number : (row : Row) (x : Scalar) (ps : List TypeTree) {a : TypeTree} {n : ℕ} (es : List TermTree) (b : List Bool) → row_type row ≡ for_each (Nat ∷ []) (from_each ps (scalar x (ty_var 0))) → IsNumber a n → n ≤ widest → length b ≡ n → length es ≡ length ps → (c : WordCall row (a ∷ []) es (n ∷ []) b) → HasTypeUpTo c.s [] c.vars (lit x b) c.t
unfolding sub
one_number row x ps {a} {n} es b is e fits l m c = word_scalar c (Nat ∷ []) ps x (ty_var 0) n is refl m l fits (number_is a n e)

pub word_kept : (row : Row) {types : List TypeTree} {nats : List ℕ} (es : List TermTree) (b : List Bool) (widths : List ℕ) → AreNumbers types nats → argument_widths row nats ≡ Some widths → (c : WordCall row types es nats b) → HasTypeUpTo c.s [] c.vars (word_given (row_type row) b) c.t
unfolding sub evaluated
word_kept (Binary x) es b ws (number_and {t = a} {n = n} e none_numbers) is c =
    one_number (Binary x) x (scalar x (ty_var 0) ∷ scalar x (ty_var 0) ∷ []) es b refl e (width_fits a n e c.narrow.1.1.0) c.width (omega (arith, c.whole)) c
word_kept (Unary x) es b ws (number_and {t = a} {n = n} e none_numbers) is c =
    one_number (Unary x) x (scalar x (ty_var 0) ∷ []) es b refl e (width_fits a n e c.narrow.1.0) c.width (omega (arith, c.whole)) c
word_kept (Packed x) es b ws (number_and {t = a} {n = n} e none_numbers) is c =
    one_number (Packed x) B (scalar x (ty_var 0) ∷ []) es b refl e (width_fits a n e c.narrow.1.0) c.width (omega (arith, c.whole)) c
word_kept (Unpacked x) es b ws (number_and {t = a} {n = n} e none_numbers) is c =
    one_number (Unpacked x) x (scalar B (ty_var 0) ∷ []) es b refl e (width_fits a n e c.narrow.1.0) c.width (omega (arith, c.whole)) c
word_kept (WideSum x) es b ws (number_and {t = a} {n = n} e none_numbers) is c =
    word_scalar c (Nat ∷ []) (scalar x (ty_var 0) ∷ scalar x (ty_var 0) ∷ []) x (nat_sum (ty_var 0) (nat_lit 1)) (n + 1) refl refl (omega (arith, c.whole)) c.width
    (sum_fits a (nat_lit 1) n 1 e refl c.narrow.1.1.0) (sum_is a (nat_lit 1) n 1 e refl)
word_kept (WideProduct x) es b ws (number_and {t = a} {n = n} e (number_and {t = d} {n = m} f none_numbers)) is c =
    word_scalar c (Nat ∷ Nat ∷ []) (scalar x (ty_var 1) ∷ scalar x (ty_var 0) ∷ []) x (nat_sum (ty_var 1) (ty_var 0)) (n + m) refl refl (omega (arith, c.whole)) c.width
    (sum_fits a d n m e f c.narrow.1.1.0) (sum_is a d n m e f)
word_kept (Shift x) es b ws (number_and {t = a} {n = n} e (number_and f none_numbers)) is c =
    word_scalar c (Nat ∷ Nat ∷ []) (scalar x (ty_var 1) ∷ scalar U (ty_var 0) ∷ []) x (ty_var 1) n refl refl (omega (arith, c.whole)) c.width (width_fits a n e c.narrow.1.1.0) (number_is a n e)
word_kept (Extend x) es b ws (number_and {t = a} {n = n} e (number_and {t = d} {n = m} f none_numbers)) is c =
    word_scalar c (Nat ∷ Nat ∷ []) (scalar x (ty_var 1) ∷ []) x (nat_sum (ty_var 1) (ty_var 0)) (n + m) refl refl (omega (arith, c.whole)) c.width
    (sum_fits a d n m e f c.narrow.1.0) (sum_is a d n m e f)
word_kept (Truncate x) es b ws (number_and {t = a} {n = n} e (number_and f none_numbers)) is c =
    word_scalar c (Nat ∷ Nat ∷ []) (scalar x (nat_sum (ty_var 1) (ty_var 0)) ∷ []) x (ty_var 1) n refl refl (omega (arith, c.whole)) c.width (width_fits a n e c.narrow.1.0) (number_is a n e)
word_kept Joined es b ws (number_and {t = a} {n = n} e (number_and {t = d} {n = m} f none_numbers)) is c =
    word_scalar c (Nat ∷ Nat ∷ []) (scalar B (ty_var 1) ∷ scalar B (ty_var 0) ∷ []) B (nat_sum (ty_var 1) (ty_var 0)) (n + m) refl refl (omega (arith, c.whole)) c.width
    (sum_fits a d n m e f c.narrow.1.1.0) (sum_is a d n m e f)
word_kept Cut es b ws (number_and e (number_and {t = d} {n = m} f (number_and g none_numbers))) is c =
    word_scalar c (Nat ∷ Nat ∷ Nat ∷ []) (scalar B (nat_sum (nat_sum (ty_var 0) (ty_var 1)) (ty_var 2)) ∷ []) B (ty_var 1) m refl refl (omega (arith, c.whole)) c.width (width_fits d m f c.narrow.1.0) (number_is d m f)
word_kept (Compare x) es b ws (number_and e none_numbers) is c =
    word_truth c (Nat ∷ []) (scalar x (ty_var 0) ∷ scalar x (ty_var 0) ∷ []) refl refl (omega (arith, c.whole))
word_kept Reduce es b ws (number_and e none_numbers) is c =
    word_truth c (Nat ∷ []) (scalar B (ty_var 0) ∷ []) refl refl (omega (arith, c.whole))
word_kept _ es b ws _ is c = absurd cc
