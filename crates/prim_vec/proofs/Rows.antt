-- Bodies at types that are numbers and a type.
use Rattle.std.proofs.Common.{◌≡◌, ◌≤◌, ℕ, ◌+◌, ◌%◌, ◌^◌, List, [], ◌∷◌, ◌++◌, min, Some, sym, ap, ◌∙◌}
use Rattle.std.proofs.Math.Nat.{min-eq_left}
use Rattle.std.specs.List.{flat_map, range_with_len}
use Rattle.chw_bits.specs.Bits.{bits_of}
use Rattle.chw_types.specs.declared.kind.Kind.{Kind}
use Rattle.chw_types.specs.declared.kind.Kind.TheVariants.{Val}
use Rattle.chw_types.specs.declared.kind.Scalar.TheVariants.{U}
use Rattle.chw_types.specs.Polynomials.{greatest}
use Rattle.chw_types.specs.TypeTree.{TypeTree, nat_lit, vector}
use Rattle.chw_prims.specs.declared.row.Row.TheVariants.{ElementAt, Concatenated, Taken, Dropped, Rotated}
use Rattle.chw_terms.specs.TermTree.{TermTree, var, case_of}
use Rattle.chw_terms.specs.TermView.{alts_of}
use Rattle.chw_terms.specs.declared.term.Alt.{Alt}
use Rattle.chw_terms.specs.declared.term.Pattern.TheVariants.{OfLit, Default}
use Rattle.chw_terms.specs.Unrolled.{body_of, each, element, alternative, vec_of}
use Rattle.prim_vec.specs.Bodies.{IsBody}

pub taken_is : (kind : Kind) (n m len : ℕ) (a : TypeTree) (types : List TypeTree) (e : TermTree) → types ≡ nat_lit n ∷ nat_lit m ∷ a ∷ [] → len ≡ n + m
    → e ≡ vec_of a (each n (λ j. element kind len a (var 0) j)) → IsBody (Taken kind) types e
taken_is kind n m len a types e at sum is =
    ap (body_of (Taken kind)) at ∙ ap (λ k. Some (vec_of a (each n (λ j. element kind k a (var 0) j)))) (sym sum) ∙ ap (λ x. Some x) (sym is)

pub dropped_is : (kind : Kind) (n m len : ℕ) (a : TypeTree) (types : List TypeTree) (e : TermTree) → types ≡ nat_lit n ∷ nat_lit m ∷ a ∷ [] → len ≡ n + m
    → e ≡ vec_of a (each m (λ j. element kind len a (var 0) (n + j))) → IsBody (Dropped kind) types e
dropped_is kind n m len a types e at sum is =
    ap (body_of (Dropped kind)) at ∙ ap (λ k. Some (vec_of a (each m (λ j. element kind k a (var 0) (n + j))))) (sym sum) ∙ ap (λ x. Some x) (sym is)

-- ended, a number of places up to the greatest natural is itself
pub rotated_is : (kind : Kind) (n k : ℕ) (a : TypeTree) (types : List TypeTree) (e : TermTree) → types ≡ nat_lit n ∷ nat_lit k ∷ a ∷ [] → k ≤ greatest
    → e ≡ vec_of a (each n (λ j. element kind n a (var 0) ((j + k) % n))) → IsBody (Rotated kind) types e
rotated_is kind n k a types e at natural is =
    ap (body_of (Rotated kind)) at ∙ ap (λ i. Some (vec_of a (each n (λ j. element kind n a (var 0) ((j + i) % n))))) (min-eq_left natural) ∙ ap (λ x. Some x) (sym is)

pub concatenated_is : (kind : Kind) (n m : ℕ) (inner a : TypeTree) (types : List TypeTree) (e : TermTree) → types ≡ nat_lit n ∷ nat_lit m ∷ a ∷ [] → inner ≡ vector (nat_lit m) a
    → e ≡ vec_of a (flat_map (λ q. each m (element kind m a (element kind n inner (var 0) q))) (range_with_len 0 n)) → IsBody (Concatenated kind) types e
concatenated_is kind n m inner a types e at same is =
    ap (body_of (Concatenated kind)) at ∙ ap (λ t. Some (vec_of a (flat_map (λ q. each m (element kind m a (element kind n t (var 0) q))) (range_with_len 0 n)))) (sym same)
    ∙ ap (λ x. Some x) (sym is)

pub element_at_is : (n k len : ℕ) (a : TypeTree) (types : List TypeTree) (alts : List Alt) (on e : TermTree) → types ≡ nat_lit n ∷ nat_lit k ∷ a ∷ [] → len ≡ n + 1
    → alts ≡ each (min n (2 ^ k)) (λ j. alternative (OfLit U (bits_of k j)) (element Val len a (var 1) j)) ++ alternative Default (element Val len a (var 1) n) ∷ []
    → on ≡ var 0 → e ≡ case_of on (alts_of alts) → IsBody ElementAt types e
element_at_is n k len a types alts on e at more all index is =
    ap (body_of ElementAt) at
    ∙ ap (λ l. Some (case_of (var 0) (alts_of (each (min n (2 ^ k)) (λ j. alternative (OfLit U (bits_of k j)) (element Val l a (var 1) j)) ++ alternative Default (element Val l a (var 1) n) ∷ [])))) (sym more)
    ∙ ap (λ (xs : List Alt). Some (case_of (var 0) (alts_of xs))) (sym all) ∙ ap (λ i. Some (case_of i (alts_of alts))) (sym index) ∙ ap (λ x. Some x) (sym is)
