-- An element by an index that is a word: what the primitive is unrolled to has its type.
use Rattle.std.proofs.Common.{◌≡◌, ℕ, suc, zero, ◌+◌, ◌<◌, ◌≤◌, ◌^◌, min, refl, sym, ap, ◌∙◌, subst, List, [], ◌∷◌, ◌++◌, map, arith}
use Rattle.std.specs.Prelude.{Some}
use Rattle.std.specs.List.{range_with_len}
use Rattle.std.proofs.Math.Nat.{mod-eq_of_lt}
use Rattle.chw_bits.specs.Bits.{number_of, bits_of}
use Rattle.chw_bits.proofs.Numbers.{length-bits_of}
use Rattle.chw_bits.proofs.RoundTrips.{number_of-bits_of}
use Rattle.chw_types.specs.declared.kind.Kind.{Kind}
use Rattle.chw_types.specs.declared.kind.Kind.TheVariants.{Nat, Val}
use Rattle.chw_types.specs.declared.kind.Scalar.TheVariants.{U}
use Rattle.chw_types.specs.TypeTree.{TypeTree, ty_var, nat_lit, nat_sum, scalar, vector}
use Rattle.chw_types.specs.TypeMoves.{sub}
use Rattle.chw_types.specs.Kinds.{kind_nat, kind_scalar}
use Rattle.chw_types.specs.SameTypes.{SameTypes, same_vector}
use Rattle.chw_types.proofs.SameLaws.{same_self, same_turned}
use Rattle.chw_prims.specs.declared.row.Row.TheVariants.{ElementAt}
use Rattle.chw_terms.specs.declared.term.Alt.{Alt}
use Rattle.chw_terms.specs.declared.term.Pattern.TheVariants.{OfLit, Default}
use Rattle.chw_terms.specs.TermTree.{TermTree, var, case_of}
use Rattle.chw_terms.specs.TermView.{alts_of}
use Rattle.chw_terms.specs.Evaluated.{evaluated}
use Rattle.chw_terms.specs.Unrolled.{element, alternative, by_index, body_of}
use Rattle.chw_typing.specs.Scopes.{Setting, HasKind}
use Rattle.chw_typing.specs.HeadTypes.{widest, of_lit, of_any}
use Rattle.chw_typing.specs.Alternatives.{HidesNone, NoneHidden}
use Rattle.chw_typing.specs.Typing.{Binds, HasType, h_var, h_case, AllGive, none_give, give_and}
use Rattle.unroll_laws.proofs.Elements.{element_typed, has_itself}
use Rattle.unroll_laws.proofs.Kept.{Call, Keeps}
use Rattle.unroll_laws.proofs.Shapes.{kept_twice}
use Rattle.unroll_laws.proofs.Sized.{IsNumber, TwiceSized, is_twice_sized, twice_sized_view, number_same, sum_number, width_fits}

-- an alternative for each of these numbers, and one for the others
abbrev literals : ℕ → ℕ → ℕ → (ℕ → TermTree) → TermTree → List Alt
literals k from n e last = map (λ j. alternative (OfLit U (bits_of k j)) (e j)) (range_with_len from n) ++ alternative Default last ∷ []

-- numbers that so many bits hold have different bits
bits_apart : (k i j : ℕ) → i < j → j < 2 ^ k → bits_of k i ≡ bits_of k j → ⊥
bits_apart k i j l m e = let is = same in absurd (omega arith)
  where
    below : i < 2 ^ k
    below = omega arith

    same : i ≡ j
    same = sym (mod-eq_of_lt below) ∙ sym (number_of-bits_of k i) ∙ ap number_of e ∙ number_of-bits_of k j ∙ mod-eq_of_lt m

hides_none : (k i from n : ℕ) (e : ℕ → TermTree) (last : TermTree) → i < from → from + n ≤ 2 ^ k → HidesNone (OfLit U (bits_of k i)) (alts_of (literals k from n e last))
hides_none k i from zero e last l m = ((λ h. h), tt)
hides_none k i from (suc n) e last l m = ((λ h. bits_apart k i from l (omega arith) h.1), hides_none k i (from + 1) n e last (omega arith) (omega arith))

none_hidden : (k from n : ℕ) (e : ℕ → TermTree) (last : TermTree) → from + n ≤ 2 ^ k → NoneHidden (alts_of (literals k from n e last))
none_hidden k from zero e last m = (tt, tt)
none_hidden k from (suc n) e last m = (hides_none k from (from + 1) n e last (omega arith) (omega arith), none_hidden k (from + 1) n e last (omega arith))

binds_literal : (s : Setting) (kinds : List Kind) (w : TypeTree) (k j : ℕ) → k ≤ widest → SameTypes w (nat_lit k) → Binds s kinds (scalar U w) (OfLit U (bits_of k j)) []
binds_literal s kinds w k j l x =
    record {
      fields = [];
      pattern = of_lit (subst (λ n. n ≤ widest) (sym (length-bits_of k j)) l) (subst (λ n. SameTypes w (nat_lit n)) (sym (length-bits_of k j)) x);
      same = tt;
      typed = tt;
    }

binds_any : (s : Setting) (kinds : List Kind) (u : TypeTree) → Binds s kinds u Default []
binds_any s kinds u = record { fields = []; pattern = of_any; same = tt; typed = tt }

literals_give : (s : Setting) (kinds : List Kind) (vars : List TypeTree) (w t : TypeTree) (k from n : ℕ) (e : ℕ → TermTree) (last : TermTree) → k ≤ widest → SameTypes w (nat_lit k) → ((j : ℕ) → j < from + n → HasType s kinds vars (e j) t) → HasType s kinds vars last t → AllGive s kinds vars (scalar U w) t (alts_of (literals k from n e last))
literals_give s kinds vars w t k from zero e last l x h d = give_and (binds_any s kinds (scalar U w)) d (same_self t) none_give
literals_give s kinds vars w t k from (suc n) e last l x h d =
    give_and (binds_literal s kinds w k from l x) (h from (omega arith)) (same_self t) (literals_give s kinds vars w t k (from + 1) n e last l x (λ j i. h j (omega arith)) d)

-- a case over the first n numbers, none of which has too many bits
literals_typed : (s : Setting) (kinds : List Kind) (vars : List TypeTree) (w t : TypeTree) (k n : ℕ) (x : TermTree) (e : ℕ → TermTree) (last : TermTree) → k ≤ widest → n ≤ 2 ^ k → SameTypes w (nat_lit k) → HasKind s kinds w Nat → HasKind s kinds t Val → HasType s kinds vars x (scalar U w) → ((j : ℕ) → j < n → HasType s kinds vars (e j) t) → HasType s kinds vars last t → HasType s kinds vars (case_of x (alts_of (literals k 0 n e last))) t
literals_typed s kinds vars w t k zero x e last l m y of_w of_t on h d =
    h_case on tt (kind_scalar of_w) (binds_any s kinds (scalar U w)) d of_t tt none_give (none_hidden k 0 0 e last (omega arith))
literals_typed s kinds vars w t k (suc n) x e last l m y of_w of_t on h d =
    h_case on tt (kind_scalar of_w) (binds_literal s kinds w k 0 l y) (h 0 (omega arith)) of_t tt
    (literals_give s kinds vars w t k 1 n e last l y (λ j i. h j (omega arith)) d) (none_hidden k 0 (suc n) e last (omega arith))

-- vat v i
abbrev at_body : ℕ → ℕ → TypeTree → TermTree
at_body n k a = by_index n k (var 0) (element Val (n + 1) a (var 1))

at_typed : (s : Setting) (kinds : List Kind) (vars : List TypeTree) (n k : ℕ) (a v w : TypeTree) → HasKind s kinds a Val → HasKind s kinds w Nat → k ≤ widest → SameTypes w (nat_lit k) → SameTypes (vector (nat_lit (n + 1)) a) v → HasType s kinds (scalar U w ∷ v ∷ vars) (at_body n k a) a
at_typed s kinds vars n k a v w of_a of_w l y x =
    literals_typed s kinds (scalar U w ∷ v ∷ vars) w a k (min n (2 ^ k)) (var 0) (element Val (n + 1) a (var 1)) (element Val (n + 1) a (var 1) n) l (omega arith) y of_w of_a (h_var refl)
    (λ j i. one j (omega arith)) (one n (omega arith))
  where
    one : (j : ℕ) → j < n + 1 → HasType s kinds (scalar U w ∷ v ∷ vars) (element Val (n + 1) a (var 1) j) a
    one j i = element_typed s kinds (scalar U w ∷ v ∷ vars) Val (n + 1) j a v (var 1) tt of_a i (h_var refl) x

-- a numeral has the kind of naturals
pub number_kind : (s : Setting) (kinds : List Kind) (t : TypeTree) (n : ℕ) → IsNumber t n → HasKind s kinds (evaluated t) Nat
number_kind s kinds t n e = subst (λ u. HasKind s kinds u Nat) (sym e) kind_nat

element_at_at : {types : List TypeTree} {body : TermTree} (args : List TermTree) → TwiceSized at_body types body → (c : Call ElementAt types args) → Keeps ElementAt types args c body
unfolding sub evaluated
element_at_at args (is_twice_sized {size = size} {other = other} {a = a} n k e f) c =
    kept_twice ElementAt size other a args c n k Val (vector (nat_sum (ty_var 2) (nat_lit 1)) (ty_var 0) ∷ scalar U (ty_var 1) ∷ []) (ty_var 0) (at_body n k (evaluated a)) e f tt refl c.many
    (λ of_a. has_itself (at_typed c.s c.kinds c.vars n k (evaluated a) (vector (evaluated (nat_sum size (nat_lit 1))) (evaluated a)) (evaluated other) of_a (number_kind c.s c.kinds other k f) (width_fits other k f c.narrow.0)
    (same_turned (number_same other k f)) (same_vector (sum_number size (nat_lit 1) n 1 e refl) (same_self (evaluated a)))))

pub element_at : (types : List TypeTree) (args : List TermTree) (body : TermTree) → body_of ElementAt (map evaluated types) ≡ Some body → (c : Call ElementAt types args) → Keeps ElementAt types args c body
element_at types args body e c = element_at_at args (twice_sized_view at_body types body e) c
