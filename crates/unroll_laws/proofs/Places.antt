-- Vectors of elements of one vector, at some of its places: what the primitives are unrolled to has their type.
use Rattle.std.proofs.Common.{◌≡◌, ℕ, zero, ◌+◌, ◌-◌, ◌<◌, ◌%◌, refl, List, [], ◌∷◌, map, arith}
use Rattle.std.specs.Prelude.{Some}
use Rattle.std.proofs.Math.Nat.{mod-lt}
use Rattle.chw_types.specs.declared.kind.Kind.{Kind}
use Rattle.chw_types.specs.Polynomials.{ended}
use Rattle.chw_types.specs.TypeTree.{TypeTree, ty_var, nat_lit, nat_sum, vector}
use Rattle.chw_types.specs.TypeMoves.{sub}
use Rattle.chw_types.specs.Kinds.{IsOfTerms}
use Rattle.chw_types.specs.SameTypes.{SameTypes, same_vector}
use Rattle.chw_types.proofs.SameLaws.{same_self, same_turned}
use Rattle.chw_prims.specs.declared.row.Row.TheVariants.{Taken, Dropped, Reversed, Rotated}
use Rattle.chw_terms.specs.TermTree.{TermTree, var}
use Rattle.chw_terms.specs.Evaluated.{evaluated}
use Rattle.chw_terms.specs.Unrolled.{each, vec_of, element, body_of}
use Rattle.chw_typing.specs.Scopes.{Setting, HasKind}
use Rattle.chw_typing.specs.Typing.{HasType, h_var}
use Rattle.chw_typing.proofs.Kinded.{term_type}
use Rattle.unroll_laws.proofs.Elements.{element_typed, has_itself, each_typed}
use Rattle.unroll_laws.proofs.Kept.{Call, Keeps}
use Rattle.unroll_laws.proofs.Shapes.{kept_1, kept_twice}
use Rattle.unroll_laws.proofs.Sized.{Sized1, is_sized_1, sized_view_1, TwiceSized, is_twice_sized, twice_sized_view, number_same, sum_number}

-- n elements of a vector of that many, each from a place of it
places_typed : (s : Setting) (kinds : List Kind) (vars : List TypeTree) (k : Kind) (n all : ℕ) (a v : TypeTree) (at : ℕ → ℕ) → IsOfTerms k → HasKind s kinds a k → SameTypes (vector (nat_lit all) a) v → ((j : ℕ) → j < n → at j < all) → HasType s kinds (v ∷ vars) (vec_of a (each n (λ j. element k all a (var 0) (at j)))) (vector (nat_lit n) a)
places_typed s kinds vars k n all a v at o of_a x below =
    each_typed s kinds (v ∷ vars) a n (λ j. element k all a (var 0) (at j)) (term_type s kinds a k of_a o) (λ j l. has_itself (element_typed s kinds (v ∷ vars) k all (at j) a v (var 0) o of_a (below j l) (h_var refl) x))

-- vtake v
abbrev taken_body : Kind → ℕ → ℕ → TypeTree → TermTree
taken_body k n m a = vec_of a (each n (element k (n + m) a (var 0)))

taken_at : (k : Kind) {types : List TypeTree} {body : TermTree} (args : List TermTree) → IsOfTerms k → TwiceSized (taken_body k) types body → (c : Call (Taken k) types args) → Keeps (Taken k) types args c body
unfolding sub evaluated
taken_at k args o (is_twice_sized {size = size} {other = other} {a = a} n m e f) c =
    kept_twice (Taken k) size other a args c n m k (vector (nat_sum (ty_var 2) (ty_var 1)) (ty_var 0) ∷ []) (vector (ty_var 2) (ty_var 0)) (taken_body k n m (evaluated a)) e f o refl c.many
    (λ of_a. record {
      type = vector (nat_lit n) (evaluated a);
      has = places_typed c.s c.kinds c.vars k n (n + m) (evaluated a) (vector (evaluated (nat_sum size other)) (evaluated a)) (λ j. j) o of_a (same_vector (sum_number size other n m e f) (same_self (evaluated a))) (λ j l. omega arith);
      same = same_vector (same_turned (number_same size n e)) (same_self (evaluated a));
    })

pub taken : (k : Kind) (types : List TypeTree) (args : List TermTree) (body : TermTree) → IsOfTerms k → body_of (Taken k) (map evaluated types) ≡ Some body → (c : Call (Taken k) types args) → Keeps (Taken k) types args c body
taken k types args body o e c = taken_at k args o (twice_sized_view (taken_body k) types body e) c

-- vdrop v
abbrev dropped_body : Kind → ℕ → ℕ → TypeTree → TermTree
dropped_body k n m a = vec_of a (each m (λ j. element k (n + m) a (var 0) (n + j)))

dropped_at : (k : Kind) {types : List TypeTree} {body : TermTree} (args : List TermTree) → IsOfTerms k → TwiceSized (dropped_body k) types body → (c : Call (Dropped k) types args) → Keeps (Dropped k) types args c body
unfolding sub evaluated
dropped_at k args o (is_twice_sized {size = size} {other = other} {a = a} n m e f) c =
    kept_twice (Dropped k) size other a args c n m k (vector (nat_sum (ty_var 2) (ty_var 1)) (ty_var 0) ∷ []) (vector (ty_var 1) (ty_var 0)) (dropped_body k n m (evaluated a)) e f o refl c.many
    (λ of_a. record {
      type = vector (nat_lit m) (evaluated a);
      has = places_typed c.s c.kinds c.vars k m (n + m) (evaluated a) (vector (evaluated (nat_sum size other)) (evaluated a)) (λ j. n + j) o of_a (same_vector (sum_number size other n m e f) (same_self (evaluated a))) (λ j l. omega arith);
      same = same_vector (same_turned (number_same other m f)) (same_self (evaluated a));
    })

pub dropped : (k : Kind) (types : List TypeTree) (args : List TermTree) (body : TermTree) → IsOfTerms k → body_of (Dropped k) (map evaluated types) ≡ Some body → (c : Call (Dropped k) types args) → Keeps (Dropped k) types args c body
dropped k types args body o e c = dropped_at k args o (twice_sized_view (dropped_body k) types body e) c

-- vreverse v
abbrev reversed_body : Kind → ℕ → TypeTree → TermTree
reversed_body k n a = vec_of a (each n (λ j. element k n a (var 0) (n - 1 - j)))

reversed_at : (k : Kind) {types : List TypeTree} {body : TermTree} (args : List TermTree) → IsOfTerms k → Sized1 (reversed_body k) types body → (c : Call (Reversed k) types args) → Keeps (Reversed k) types args c body
unfolding sub evaluated
reversed_at k args o (is_sized_1 {size = size} {a = a} n e) c =
    kept_1 (Reversed k) size a args c n k (vector (ty_var 1) (ty_var 0) ∷ []) (vector (ty_var 1) (ty_var 0)) (reversed_body k n (evaluated a)) e o refl c.many
    (λ of_a. record {
      type = vector (nat_lit n) (evaluated a);
      has = places_typed c.s c.kinds c.vars k n n (evaluated a) (vector (evaluated size) (evaluated a)) (λ j. n - 1 - j) o of_a (same_vector (number_same size n e) (same_self (evaluated a))) (λ j l. omega arith);
      same = same_vector (same_turned (number_same size n e)) (same_self (evaluated a));
    })

pub reversed : (k : Kind) (types : List TypeTree) (args : List TermTree) (body : TermTree) → IsOfTerms k → body_of (Reversed k) (map evaluated types) ≡ Some body → (c : Call (Reversed k) types args) → Keeps (Reversed k) types args c body
reversed k types args body o e c = reversed_at k args o (sized_view_1 (reversed_body k) types body e) c

-- vrotl v
abbrev rotated_body : Kind → ℕ → ℕ → TypeTree → TermTree
rotated_body k n m a = vec_of a (each n (λ j. element k n a (var 0) ((j + ended m) % n)))

rotated_at : (k : Kind) {types : List TypeTree} {body : TermTree} (args : List TermTree) → IsOfTerms k → TwiceSized (rotated_body k) types body → (c : Call (Rotated k) types args) → Keeps (Rotated k) types args c body
unfolding sub evaluated
rotated_at k args o (is_twice_sized {size = size} {other = other} {a = a} n m e f) c =
    kept_twice (Rotated k) size other a args c n m k (vector (ty_var 2) (ty_var 0) ∷ []) (vector (ty_var 2) (ty_var 0)) (rotated_body k n m (evaluated a)) e f o refl c.many
    (λ of_a. record {
      type = vector (nat_lit n) (evaluated a);
      has = places_typed c.s c.kinds c.vars k n n (evaluated a) (vector (evaluated size) (evaluated a)) (λ j. (j + ended m) % n) o of_a (same_vector (number_same size n e) (same_self (evaluated a))) (λ j l. within j l);
      same = same_vector (same_turned (number_same size n e)) (same_self (evaluated a));
    })
  where
    within : (j : ℕ) → j < n → (j + ended m) % n < n
    within j l = let some : zero < n = omega arith in mod-lt (j + ended m) some

pub rotated : (k : Kind) (types : List TypeTree) (args : List TermTree) (body : TermTree) → IsOfTerms k → body_of (Rotated k) (map evaluated types) ≡ Some body → (c : Call (Rotated k) types args) → Keeps (Rotated k) types args c body
rotated k types args body o e c = rotated_at k args o (twice_sized_view (rotated_body k) types body e) c
