-- Vectors joined: what the primitives are unrolled to has their type.
use Rattle.std.proofs.Common.{◌≡◌, ℕ, suc, zero, ◌+◌, ◌*◌, ◌<◌, refl, ◌∙◌, List, [], ◌∷◌, ◌++◌, map, length, arith}
use Rattle.std.specs.Prelude.{Some}
use Rattle.std.specs.List.{flat_map, range_with_len}
use Rattle.std.proofs.lemmas.List.{length-append}
use Rattle.chw_types.specs.declared.kind.Kind.{Kind}
use Rattle.chw_types.specs.TypeTree.{TypeTree, ty_var, nat_lit, nat_sum, nat_product, vector}
use Rattle.chw_types.specs.TypeMoves.{sub}
use Rattle.chw_types.specs.Kinds.{IsOfTerms, kind_nat, kind_vector}
use Rattle.chw_types.specs.SameTypes.{SameTypes, same_vector}
use Rattle.chw_types.proofs.SameLaws.{same_self, same_turned}
use Rattle.chw_prims.specs.declared.row.Row.TheVariants.{Appended, Concatenated}
use Rattle.chw_terms.specs.TermTree.{TermTree, var}
use Rattle.chw_terms.specs.Evaluated.{evaluated}
use Rattle.chw_terms.specs.Unrolled.{each, vec_of, element, body_of}
use Rattle.chw_typing.specs.Scopes.{Setting, HasKind}
use Rattle.chw_typing.specs.Typing.{HasType, h_var}
use Rattle.chw_typing.proofs.Kinded.{term_type}
use Rattle.unroll_laws.proofs.Elements.{element_typed, AllTyped, has_itself, typed_each, typed_both, length_each, vector_typed}
use Rattle.unroll_laws.proofs.Kept.{Call, Keeps}
use Rattle.unroll_laws.proofs.Shapes.{kept_twice}
use Rattle.unroll_laws.proofs.Sized.{TwiceSized, is_twice_sized, twice_sized_view, number_same, sum_number, product_number}

-- vappend v w
abbrev appended_body : Kind → ℕ → ℕ → TypeTree → TermTree
appended_body k n m a = vec_of a (each n (element k n a (var 1)) ++ each m (element k m a (var 0)))

appended_typed : (s : Setting) (kinds : List Kind) (vars : List TypeTree) (k : Kind) (n m : ℕ) (a v w : TypeTree) → IsOfTerms k → HasKind s kinds a k → SameTypes (vector (nat_lit n) a) v → SameTypes (vector (nat_lit m) a) w → HasType s kinds (w ∷ v ∷ vars) (appended_body k n m a) (vector (nat_lit (n + m)) a)
appended_typed s kinds vars k n m a v w o of_a x y =
    vector_typed s kinds (w ∷ v ∷ vars) a (n + m) (first ++ second) (term_type s kinds a k of_a o)
    (typed_both s kinds (w ∷ v ∷ vars) a first second
    (typed_each s kinds (w ∷ v ∷ vars) a n (element k n a (var 1)) (λ j l. has_itself (element_typed s kinds (w ∷ v ∷ vars) k n j a v (var 1) o of_a l (h_var refl) x)))
    (typed_each s kinds (w ∷ v ∷ vars) a m (element k m a (var 0)) (λ j l. has_itself (element_typed s kinds (w ∷ v ∷ vars) k m j a w (var 0) o of_a l (h_var refl) y))))
    (length-append first second ∙ (λ i. length_each n (element k n a (var 1)) i + length_each m (element k m a (var 0)) i))
  where
    first : List TermTree
    first = each n (element k n a (var 1))

    second : List TermTree
    second = each m (element k m a (var 0))

appended_at : (k : Kind) {types : List TypeTree} {body : TermTree} (args : List TermTree) → IsOfTerms k → TwiceSized (appended_body k) types body → (c : Call (Appended k) types args) → Keeps (Appended k) types args c body
unfolding sub evaluated
appended_at k args o (is_twice_sized {size = size} {other = other} {a = a} n m e f) c =
    kept_twice (Appended k) size other a args c n m k (vector (ty_var 2) (ty_var 0) ∷ vector (ty_var 1) (ty_var 0) ∷ []) (vector (nat_sum (ty_var 2) (ty_var 1)) (ty_var 0)) (appended_body k n m (evaluated a)) e f o refl c.many
    (λ of_a. record {
      type = vector (nat_lit (n + m)) (evaluated a);
      has = appended_typed c.s c.kinds c.vars k n m (evaluated a) (vector (evaluated size) (evaluated a)) (vector (evaluated other) (evaluated a)) o of_a
          (same_vector (number_same size n e) (same_self (evaluated a))) (same_vector (number_same other m f) (same_self (evaluated a)));
      same = same_vector (same_turned (sum_number size other n m e f)) (same_self (evaluated a));
    })

pub appended : (k : Kind) (types : List TypeTree) (args : List TermTree) (body : TermTree) → IsOfTerms k → body_of (Appended k) (map evaluated types) ≡ Some body → (c : Call (Appended k) types args) → Keeps (Appended k) types args c body
appended k types args body o e c = appended_at k args o (twice_sized_view (appended_body k) types body e) c

-- vconcat v
abbrev concatenated_body : Kind → ℕ → ℕ → TypeTree → TermTree
concatenated_body k n m a = vec_of a (flat_map (λ q. each m (element k m a (element k n (vector (nat_lit m) a) (var 0) q))) (range_with_len 0 n))

-- as many for each of some places
length_flat : (m : ℕ) (f : ℕ → List TermTree) → ((q : ℕ) → length (f q) ≡ m) → (from n : ℕ) → length (flat_map f (range_with_len from n)) ≡ n * m
length_flat m f h from zero = omega arith
length_flat m f h from (suc n) =
    length-append (f from) (flat_map f (range_with_len (from + 1) n)) ∙ (λ i. h from i + length_flat m f h (from + 1) n i) ∙ one_more n m
  where
    one_more : (n m : ℕ) → m + n * m ≡ suc n * m
    one_more n m = omega arith

typed_flat : (s : Setting) (kinds : List Kind) (vars : List TypeTree) (t : TypeTree) (f : ℕ → List TermTree) (from n : ℕ) → ((q : ℕ) → q < from + n → AllTyped s kinds vars t (f q)) → AllTyped s kinds vars t (flat_map f (range_with_len from n))
typed_flat s kinds vars t f from zero h = tt
typed_flat s kinds vars t f from (suc n) h =
    typed_both s kinds vars t (f from) (flat_map f (range_with_len (from + 1) n)) (h from (omega arith)) (typed_flat s kinds vars t f (from + 1) n (λ q l. h q (omega arith)))

concatenated_typed : (s : Setting) (kinds : List Kind) (vars : List TypeTree) (k : Kind) (n m : ℕ) (a v : TypeTree) → IsOfTerms k → HasKind s kinds a k → SameTypes (vector (nat_lit n) (vector (nat_lit m) a)) v → HasType s kinds (v ∷ vars) (concatenated_body k n m a) (vector (nat_lit (n * m)) a)
concatenated_typed s kinds vars k n m a v o of_a x =
    vector_typed s kinds (v ∷ vars) a (n * m) (flat_map part (range_with_len 0 n)) (term_type s kinds a k of_a o)
    (typed_flat s kinds (v ∷ vars) a part 0 n (λ q l. typed_each s kinds (v ∷ vars) a m (element k m a (row q)) (λ j i. has_itself (one q j (omega arith) i))))
    (length_flat m part (λ q. length_each m (element k m a (row q))) 0 n)
  where
    row : ℕ → TermTree
    row q = element k n (vector (nat_lit m) a) (var 0) q

    part : ℕ → List TermTree
    part q = each m (element k m a (row q))

    one : (q j : ℕ) → q < n → j < m → HasType s kinds (v ∷ vars) (element k m a (row q) j) a
    one q j l i =
        element_typed s kinds (v ∷ vars) k m j a (vector (nat_lit m) a) (row q) o of_a i
        (element_typed s kinds (v ∷ vars) k n q (vector (nat_lit m) a) v (var 0) o (kind_vector kind_nat of_a o) l (h_var refl) x)
        (same_self (vector (nat_lit m) a))

concatenated_at : (k : Kind) {types : List TypeTree} {body : TermTree} (args : List TermTree) → IsOfTerms k → TwiceSized (concatenated_body k) types body → (c : Call (Concatenated k) types args) → Keeps (Concatenated k) types args c body
unfolding sub evaluated
concatenated_at k args o (is_twice_sized {size = size} {other = other} {a = a} n m e f) c =
    kept_twice (Concatenated k) size other a args c n m k (vector (ty_var 2) (vector (ty_var 1) (ty_var 0)) ∷ []) (vector (nat_product (ty_var 2) (ty_var 1)) (ty_var 0)) (concatenated_body k n m (evaluated a)) e f o refl c.many
    (λ of_a. record {
      type = vector (nat_lit (n * m)) (evaluated a);
      has = concatenated_typed c.s c.kinds c.vars k n m (evaluated a) (vector (evaluated size) (vector (evaluated other) (evaluated a))) o of_a
          (same_vector (number_same size n e) (same_vector (number_same other m f) (same_self (evaluated a))));
      same = same_vector (same_turned (product_number size other n m e f)) (same_self (evaluated a));
    })

pub concatenated : (k : Kind) (types : List TypeTree) (args : List TermTree) (body : TermTree) → IsOfTerms k → body_of (Concatenated k) (map evaluated types) ≡ Some body → (c : Call (Concatenated k) types args) → Keeps (Concatenated k) types args c body
concatenated k types args body o e c = concatenated_at k args o (twice_sized_view (concatenated_body k) types body e) c
