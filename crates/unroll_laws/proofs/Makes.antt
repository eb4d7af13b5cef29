-- Primitives that make a vector: what they are unrolled to has their type.
use Rattle.std.proofs.Common.{◌≡◌, ℕ, ◌≤◌, refl, List, [], ◌∷◌, map}
use Rattle.std.specs.Prelude.{Some}
use Rattle.chw_types.specs.declared.kind.Kind.{Kind}
use Rattle.chw_types.specs.declared.kind.Scalar.TheVariants.{U}
use Rattle.chw_types.specs.TypeTree.{TypeTree, ty_var, nat_lit, scalar, vector, fun}
use Rattle.chw_types.specs.TypeMoves.{sub}
use Rattle.chw_types.specs.Kinds.{IsOfTerms}
use Rattle.chw_types.specs.SameTypes.{SameTypes, same_vector, same_scalar}
use Rattle.chw_types.proofs.SameLaws.{same_self, same_turned}
use Rattle.chw_prims.specs.declared.row.Row.TheVariants.{Generated, Replicated}
use Rattle.chw_terms.specs.TermTree.{TermTree, var, app}
use Rattle.chw_terms.specs.Evaluated.{evaluated}
use Rattle.chw_terms.specs.Unrolled.{each, vec_of, index, body_of}
use Rattle.chw_typing.specs.Scopes.{Setting, HasKind}
use Rattle.chw_typing.specs.HeadTypes.{widest}
use Rattle.chw_typing.specs.Typing.{HasType, h_var, h_app}
use Rattle.chw_typing.proofs.Kinded.{term_type}
use Rattle.unroll_laws.proofs.Elements.{index_typed, has_itself, each_typed}
use Rattle.unroll_laws.proofs.Kept.{Call, Keeps}
use Rattle.unroll_laws.proofs.Shapes.{kept_1, kept_twice}
use Rattle.unroll_laws.proofs.Sized.{Sized1, is_sized_1, sized_view_1, TwiceSized, is_twice_sized, twice_sized_view, number_same, width_fits}

-- vreplicate x
abbrev replicated_body : ℕ → TypeTree → TermTree
replicated_body n a = vec_of a (each n (λ j. var 0))

replicated_at : (k : Kind) {types : List TypeTree} {body : TermTree} (args : List TermTree) → IsOfTerms k → Sized1 replicated_body types body → (c : Call (Replicated k) types args) → Keeps (Replicated k) types args c body
unfolding sub evaluated
replicated_at k args o (is_sized_1 {size = size} {a = a} n e) c =
    kept_1 (Replicated k) size a args c n k (ty_var 0 ∷ []) (vector (ty_var 1) (ty_var 0)) (replicated_body n (evaluated a)) e o refl c.many
    (λ of_a. record {
      type = vector (nat_lit n) (evaluated a);
      has = each_typed c.s c.kinds (evaluated a ∷ c.vars) (evaluated a) n (λ j. var 0) (term_type c.s c.kinds (evaluated a) k of_a o) (λ j l. has_itself (h_var refl));
      same = same_vector (same_turned (number_same size n e)) (same_self (evaluated a));
    })

pub replicated : (k : Kind) (types : List TypeTree) (args : List TermTree) (body : TermTree) → IsOfTerms k → body_of (Replicated k) (map evaluated types) ≡ Some body → (c : Call (Replicated k) types args) → Keeps (Replicated k) types args c body
replicated k types args body o e c = replicated_at k args o (sized_view_1 replicated_body types body e) c

-- vgenerate f
abbrev generated_body : ℕ → ℕ → TypeTree → TermTree
generated_body n m a = vec_of a (each n (λ j. app (var 0) (index m j)))

generated_typed : (s : Setting) (kinds : List Kind) (vars : List TypeTree) (k : Kind) (n m : ℕ) (a w : TypeTree) → IsOfTerms k → HasKind s kinds a k → m ≤ widest → SameTypes (nat_lit m) w → HasType s kinds (fun (scalar U w) a ∷ vars) (generated_body n m a) (vector (nat_lit n) a)
generated_typed s kinds vars k n m a w o of_a small x =
    each_typed s kinds (fun (scalar U w) a ∷ vars) a n (λ j. app (var 0) (index m j)) (term_type s kinds a k of_a o) (λ j l. has_itself (h_app (h_var {t = fun (scalar U w) a} refl) (index_typed s kinds (fun (scalar U w) a ∷ vars) m j small) (same_scalar (same_turned x))))

generated_at : (k : Kind) {types : List TypeTree} {body : TermTree} (args : List TermTree) → IsOfTerms k → TwiceSized generated_body types body → (c : Call (Generated k) types args) → Keeps (Generated k) types args c body
unfolding sub evaluated
generated_at k args o (is_twice_sized {size = size} {other = other} {a = a} n m e f) c =
    kept_twice (Generated k) size other a args c n m k (fun (scalar U (ty_var 1)) (ty_var 0) ∷ []) (vector (ty_var 2) (ty_var 0)) (generated_body n m (evaluated a)) e f o refl c.many
    (λ of_a. record {
      type = vector (nat_lit n) (evaluated a);
      has = generated_typed c.s c.kinds c.vars k n m (evaluated a) (evaluated other) o of_a (width_fits other m f c.narrow.0) (number_same other m f);
      same = same_vector (same_turned (number_same size n e)) (same_self (evaluated a));
    })

pub generated : (k : Kind) (types : List TypeTree) (args : List TermTree) (body : TermTree) → IsOfTerms k → body_of (Generated k) (map evaluated types) ≡ Some body → (c : Call (Generated k) types args) → Keeps (Generated k) types args c body
generated k types args body o e c = generated_at k args o (twice_sized_view generated_body types body e) c
