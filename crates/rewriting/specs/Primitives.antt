-- What rules make of a primitive on vectors, and of one on words, with what it needs.
use Rattle.std.specs.Prelude.{◌≡◌, ◌⊎◌, ℕ, ◌≤◌, min, Bool, true, List, [], ◌∷◌, map, length, Some}
use Rattle.std.specs.List.{slice_get, AllByRecursion}
use Rattle.chw_base.specs.declared.limits.TheConstants.{SCALAR_BITS}
use Rattle.chw_bits.specs.Bits.{number_of}
use Rattle.chw_types.specs.declared.kind.Scalar.{Scalar}
use Rattle.chw_types.specs.declared.kind.Scalar.TheVariants.{U}
use Rattle.chw_types.specs.Polynomials.{greatest}
use Rattle.chw_types.specs.TypeTree.{TypeTree, nat_lit, scalar, fun, for_all}
use Rattle.chw_prims.specs.declared.prim.Primitive.{Primitive as Prim}
use Rattle.chw_prims.specs.declared.prim.Primitive.TheVariants.{VGet, VGetC, VAt}
use Rattle.chw_prims.specs.Schemas.{schema_type}
use Rattle.prim_bits.specs.Values.{value_of}
use Rattle.chw_terms.specs.declared.rule.Rule.{Rule}
use Rattle.chw_terms.specs.declared.rule.Rule.TheVariants.{Unroll, Elem, Delta}
use Rattle.chw_terms.specs.declared.scene.Mode.TheVariants.{K}
use Rattle.chw_terms.specs.Evaluated.{evaluated}
use Rattle.chw_terms.specs.TermTree.{TermTree, con, prim, lit, vec_lit, Terms}
use Rattle.chw_terms.specs.TermView.{applied}
use Rattle.chw_terms.specs.Unrolled.{CanUnroll, unrolled, at_types, widths_in, IsUpTo}
use Rattle.chw_typing.specs.Typing.{HasType}
use Rattle.chw_typing.specs.Given.{types_then}
use Rattle.chw_typing.specs.Paths.{element_at}
use Rattle.rewriting.specs.Named.{IsNamed}
use Rattle.rewriting.specs.Origins.{Origins, setting_at}
use Rattle.rewriting.specs.Spots.{Spot, asked_for}

-- no constant, and the first of these, a vector, is of a type that isn't named
pub record HasUnnamedVector (o : Origins) (at : Spot) (es : List TermTree) : Type 0 where
  pub no_constant : at.mode ≡ K → ⊥
  pub vector : TermTree
  pub is_first : slice_get es 0 ≡ Some vector
  pub type : TypeTree
  pub has : HasType (setting_at o) [] at.vars vector type
  pub unnamed : IsNamed o.program.datas at.mode type → ⊥

-- a word as a literal
abbrev pub literal : Scalar × List Bool → TermTree
literal w = lit w.0 w.1

-- a word that a primitive of this type gives: a literal of its result's scalar type; where it gives
-- a Bool the constructor True, which is 1, or False, which is 0
abbrev pub word_given : TypeTree → List Bool → TermTree
word_given (for_all k t) b = word_given t b
word_given (fun a t) b = word_given t b
word_given (scalar r w) b = lit r b
word_given _ (true ∷ []) = con 1
word_given _ _ = con 0

-- a primitive on words with all its arguments, within the limits, has this value
pub record HasValue
    (p : Prim) (types : List TypeTree) (words : List (Scalar × List Bool)) (b : List Bool) : Type 0
  where
    -- as many as the primitive's type asks for
    pub whole : length (types_then types (map literal words)) ≡ asked_for (schema_type p)
    pub narrow : AllByRecursion (λ k. IsUpTo SCALAR_BITS (at_types types k))
        (widths_in (schema_type p))
    pub nats : List ℕ
    pub closed : map evaluated types ≡ map (λ n. nat_lit n) nats
    pub gives : value_of p nats (map (λ w. w.1) words) ≡ Some b

pub data OfPrimitives (o : Origins) (at : Spot) : Rule → TermTree → TermTree → Type 0 where
  -- a primitive on vectors, with all its arguments and within the limits, is written out; an
  -- element by a word only where the vector can't be named, and never in constants
  unroll : {p : Prim} {types : List TypeTree} {es : List TermTree} {e : TermTree}
      → CanUnroll p types es → (p ≡ VAt → HasUnnamedVector o at es)
      → unrolled p types es ≡ Some e
      → OfPrimitives o at Unroll (applied (prim p) (types_then types es)) e
  -- the element of a written vector, by a number that naturals have
  elem : {p : Prim} {i n a t : TypeTree} {es : Terms} {j : ℕ} {e : TermTree}
      → ((p ≡ VGet) ⊎ (p ≡ VGetC))
      → evaluated i ≡ nat_lit j → j ≤ greatest → element_at es j ≡ Some e
      → OfPrimitives o at Elem
      (applied (prim p) (types_then (i ∷ n ∷ a ∷ []) (vec_lit t es ∷ []))) e
  -- in constants also by a literal; a place behind the last one, whose number is such a one too, is
  -- the last one
  elem_at : {n k a t : TypeTree} {es : Terms} {bits : List Bool} {m : ℕ} {e : TermTree}
      → at.mode ≡ K
      → evaluated n ≡ nat_lit m → m ≤ greatest → element_at es (min (number_of bits) m) ≡ Some e
      → OfPrimitives o at Elem
      (applied (prim VAt) (types_then (n ∷ k ∷ a ∷ []) (vec_lit t es ∷ lit U bits ∷ []))) e
  -- in constants a primitive on literals becomes its value
  delta : {p : Prim} {types : List TypeTree} {words : List (Scalar × List Bool)} {b : List Bool}
      → at.mode ≡ K → HasValue p types words b
      → OfPrimitives o at Delta
      (applied (prim p) (types_then types (map literal words))) (word_given (schema_type p) b)
