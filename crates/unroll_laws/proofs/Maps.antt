-- Primitives that apply a function to each element: what they are unrolled to has their type.
use Rattle.std.proofs.Common.{◌≡◌, ℕ, ◌<◌, refl, List, [], ◌∷◌, map}
use Rattle.std.specs.Prelude.{Some}
use Rattle.chw_types.specs.declared.kind.Kind.{Kind}
use Rattle.chw_types.specs.TypeTree.{TypeTree, ty_var, nat_lit, vector, fun}
use Rattle.chw_types.specs.TypeMoves.{sub}
use Rattle.chw_types.specs.Kinds.{IsOfTerms}
use Rattle.chw_types.specs.SameTypes.{SameTypes, same_vector}
use Rattle.chw_types.proofs.SameLaws.{same_self, same_turned}
use Rattle.chw_prims.specs.declared.row.Row.TheVariants.{Mapped, Zipped}
use Rattle.chw_terms.specs.TermTree.{TermTree, var, app}
use Rattle.chw_terms.specs.Evaluated.{evaluated}
use Rattle.chw_terms.specs.Unrolled.{each, vec_of, element, body_of}
use Rattle.chw_typing.specs.Scopes.{Setting, HasKind}
use Rattle.chw_typing.specs.Typing.{HasType, h_var, h_app}
use Rattle.chw_typing.proofs.Kinded.{term_type}
use Rattle.unroll_laws.proofs.Elements.{element_typed, has_itself, each_typed}
use Rattle.unroll_laws.proofs.Kept.{Call, Keeps}
use Rattle.unroll_laws.proofs.Shapes.{kept_2, kept_3}
use Rattle.unroll_laws.proofs.Sized.{Sized2, is_sized_2, sized_view_2, Sized3, is_sized_3, sized_view_3, number_same}

-- vmap f v
abbrev mapped_body : Kind → ℕ → TypeTree → TypeTree → TermTree
mapped_body k n a b = vec_of b (each n (λ j. app (var 1) (element k n a (var 0) j)))

mapped_typed : (s : Setting) (kinds : List Kind) (vars : List TypeTree) (k : Kind) (n : ℕ) (a b v : TypeTree) → IsOfTerms k → HasKind s kinds a k → HasKind s kinds b k → SameTypes (vector (nat_lit n) a) v → HasType s kinds (v ∷ fun a b ∷ vars) (mapped_body k n a b) (vector (nat_lit n) b)
mapped_typed s kinds vars k n a b v o of_a of_b x =
    each_typed s kinds (v ∷ fun a b ∷ vars) b n (λ j. app (var 1) (element k n a (var 0) j)) (term_type s kinds b k of_b o) (λ j l. has_itself (one j l))
  where
    one : (j : ℕ) → j < n → HasType s kinds (v ∷ fun a b ∷ vars) (app (var 1) (element k n a (var 0) j)) b
    one j l = h_app (h_var {t = fun a b} refl) (element_typed s kinds (v ∷ fun a b ∷ vars) k n j a v (var 0) o of_a l (h_var refl) x) (same_self a)

mapped_at : (k : Kind) {types : List TypeTree} {body : TermTree} (args : List TermTree) → IsOfTerms k → Sized2 (mapped_body k) types body → (c : Call (Mapped k) types args) → Keeps (Mapped k) types args c body
unfolding sub evaluated
mapped_at k args o (is_sized_2 {size = size} {a = a} {b = b} n e) c =
    kept_2 (Mapped k) size a b args c n k (fun (ty_var 1) (ty_var 0) ∷ vector (ty_var 2) (ty_var 1) ∷ []) (vector (ty_var 2) (ty_var 0)) (mapped_body k n (evaluated a) (evaluated b)) e o refl c.many
    (λ of_a of_b. record {
      type = vector (nat_lit n) (evaluated b);
      has = mapped_typed c.s c.kinds c.vars k n (evaluated a) (evaluated b) (vector (evaluated size) (evaluated a)) o of_a of_b (same_vector (number_same size n e) (same_self (evaluated a)));
      same = same_vector (same_turned (number_same size n e)) (same_self (evaluated b));
    })

pub mapped : (k : Kind) (types : List TypeTree) (args : List TermTree) (body : TermTree) → IsOfTerms k → body_of (Mapped k) (map evaluated types) ≡ Some body → (c : Call (Mapped k) types args) → Keeps (Mapped k) types args c body
mapped k types args body o e c = mapped_at k args o (sized_view_2 (mapped_body k) types body e) c

-- vzipWith f v w
abbrev zipped_body : Kind → ℕ → TypeTree → TypeTree → TypeTree → TermTree
zipped_body k n a b d = vec_of d (each n (λ j. app (app (var 2) (element k n a (var 1) j)) (element k n b (var 0) j)))

zipped_typed : (s : Setting) (kinds : List Kind) (vars : List TypeTree) (k : Kind) (n : ℕ) (a b d v w : TypeTree) → IsOfTerms k → HasKind s kinds a k → HasKind s kinds b k → HasKind s kinds d k → SameTypes (vector (nat_lit n) a) v → SameTypes (vector (nat_lit n) b) w → HasType s kinds (w ∷ v ∷ fun a (fun b d) ∷ vars) (zipped_body k n a b d) (vector (nat_lit n) d)
zipped_typed s kinds vars k n a b d v w o of_a of_b of_d x y =
    each_typed s kinds scope d n (λ j. app (app (var 2) (element k n a (var 1) j)) (element k n b (var 0) j)) (term_type s kinds d k of_d o) (λ j l. has_itself (one j l))
  where
    scope : List TypeTree
    scope = w ∷ v ∷ fun a (fun b d) ∷ vars

    one : (j : ℕ) → j < n → HasType s kinds scope (app (app (var 2) (element k n a (var 1) j)) (element k n b (var 0) j)) d
    one j l =
        h_app
        (h_app (h_var {t = fun a (fun b d)} refl) (element_typed s kinds scope k n j a v (var 1) o of_a l (h_var refl) x) (same_self a))
        (element_typed s kinds scope k n j b w (var 0) o of_b l (h_var refl) y)
        (same_self b)

zipped_at : (k : Kind) {types : List TypeTree} {body : TermTree} (args : List TermTree) → IsOfTerms k → Sized3 (zipped_body k) types body → (c : Call (Zipped k) types args) → Keeps (Zipped k) types args c body
unfolding sub evaluated
zipped_at k args o (is_sized_3 {size = size} {a = a} {b = b} {c = d} n e) c =
    kept_3 (Zipped k) size a b d args c n k (fun (ty_var 2) (fun (ty_var 1) (ty_var 0)) ∷ vector (ty_var 3) (ty_var 2) ∷ vector (ty_var 3) (ty_var 1) ∷ []) (vector (ty_var 3) (ty_var 0)) (zipped_body k n (evaluated a) (evaluated b) (evaluated d)) e o refl c.many
    (λ of_a of_b of_d. record {
      type = vector (nat_lit n) (evaluated d);
      has = zipped_typed c.s c.kinds c.vars k n (evaluated a) (evaluated b) (evaluated d) (vector (evaluated size) (evaluated a)) (vector (evaluated size) (evaluated b)) o of_a of_b of_d
          (same_vector (number_same size n e) (same_self (evaluated a))) (same_vector (number_same size n e) (same_self (evaluated b)));
      same = same_vector (same_turned (number_same size n e)) (same_self (evaluated d));
    })

pub zipped : (k : Kind) (types : List TypeTree) (args : List TermTree) (body : TermTree) → IsOfTerms k → body_of (Zipped k) (map evaluated types) ≡ Some body → (c : Call (Zipped k) types args) → Keeps (Zipped k) types args c body
zipped k types args body o e c = zipped_at k args o (sized_view_3 (zipped_body k) types body e) c
