-- What is promised of primitives at places at rest.
use Rattle.std.specs.Prelude.{◌≡◌, ◌⊎◌, ℕ, ◌+◌, Bool, List, [], ◌∷◌, ◌++◌, map, length}
use Rattle.std.specs.List.{AllByRecursion}
use Rattle.chw_base.specs.declared.limits.TheConstants.{SCALAR_BITS, VECTOR_LENGTH}
use Rattle.chw_types.specs.declared.kind.Scalar.{Scalar}
use Rattle.chw_types.specs.Kinds.{KindsOf}
use Rattle.chw_types.specs.TypeTree.{TypeTree}
use Rattle.chw_types.specs.TypeView.{trees_of}
use Rattle.chw_prims.specs.declared.prim.Primitive.{Primitive as Prim}
use Rattle.chw_prims.specs.declared.prim.Primitive.TheVariants.{VGet, VGetC, VAt}
use Rattle.chw_prims.specs.declared.row.Row.{Row}
use Rattle.chw_prims.specs.declared.row.Row.TheVariants.{ElementAt, Replaced, Mapped, Zipped}
use Rattle.chw_prims.specs.declared.row.Row.TheVariants.{FoldedLeft, FoldedRight, Generated}
use Rattle.chw_prims.specs.declared.row.Row.TheVariants.{Replicated, Appended, Concatenated, Taken}
use Rattle.chw_prims.specs.declared.row.Row.TheVariants.{Dropped, Reversed, Rotated}
use Rattle.chw_prims.specs.Schemas.{schema_type, row_of}
use Rattle.chw_layout.specs.declared.outcome.NoLayout.{NoLayout}
use Rattle.chw_terms.specs.Constructors.{Constructor}
use Rattle.chw_terms.specs.declared.scene.Mode.TheVariants.{K}
use Rattle.chw_terms.specs.declared.term.Arg.{Arg}
use Rattle.chw_terms.specs.declared.term.Arg.TheVariants.{OfType}
use Rattle.chw_terms.specs.TermTree.{TermTree, prim, lit, vec_lit, Terms}
use Rattle.chw_terms.specs.TermView.{applied}
use Rattle.chw_terms.specs.Unrolled.{at_types, parameters, lengths_in, widths_in, IsUpTo, CanUnroll}
use Rattle.chw_typing.specs.Given.{types_then}
use Rattle.chw_typing.specs.HeadTypes.{con_type}
use Rattle.normal_forms.specs.Blocked.{PassesAt, SizesCount}
use Rattle.rewriting.specs.Origins.{Origins, setting_at}
use Rattle.rewriting.specs.Primitives.{literal}
use Rattle.rewriting.specs.Spots.{Spot, asked_for, IsOnWords}
use Rattle.rest_places.specs.Rest.{IsRestPlace}
use Rattle.rest_places.specs.Spines.{PrimGiven, param_kinds}

-- the lengths and the widths that a primitive names are within the limits at these types
pub record IsWithinLimits (p : Prim) (types : List TypeTree) : Type 0 where
  pub short : AllByRecursion (λ n. IsUpTo VECTOR_LENGTH (at_types types n))
      (lengths_in (schema_type p))
  pub narrow : AllByRecursion (λ k. IsUpTo SCALAR_BITS (at_types types k))
      (widths_in (schema_type p))

-- so are they at rest, where they count
abbrev pub SizesAreWithin : Type 0
SizesAreWithin =
    (o : Origins) (at : Spot) (p : Prim) (types : List TypeTree) (more : List Arg) (t : TypeTree)
    → SizesCount at p
    → KindsOf o.program.datas (setting_at o).domains [] (trees_of types)
    (param_kinds (schema_type p))
    → IsRestPlace o at (applied (prim p) (map (λ t. OfType t) types ++ more)) t
    → IsWithinLimits p types

-- at rest no limit is passed
abbrev pub NoLimit : Type 0
NoLimit =
    (o : Origins) (at : Spot) (e : TermTree) (t : TypeTree) (i : ℕ) (l : NoLayout)
    → IsRestPlace o at e t → PassesAt o at e i l → ⊥

-- how many arguments a primitive and a constructor take
abbrev pub PrimArity : Type 0
PrimArity =
    (p : Prim)
    → asked_for (schema_type p)
    ≡ length (param_kinds (schema_type p)) + length (parameters (schema_type p))

abbrev pub ConArity : Type 0
ConArity =
    (it : Constructor)
    → asked_for (con_type it) ≡ length it.it.params + length it.decl.fields

-- at rest no element is taken of a written vector by a number
abbrev pub NoGetOfWritten : Type 0
NoGetOfWritten =
    (o : Origins) (at : Spot) (p : Prim) (i n a u : TypeTree) (es : Terms) (more : List Arg)
    (t : TypeTree)
    → (p ≡ VGet) ⊎ (p ≡ VGetC)
    → IsRestPlace o at
    (applied (applied (prim p) (types_then (i ∷ n ∷ a ∷ []) (vec_lit u es ∷ []))) more) t
    → ⊥

-- nor in constants by a literal
abbrev pub NoAtOfWritten : Type 0
NoAtOfWritten =
    (o : Origins) (at : Spot) (n k a u : TypeTree) (es : Terms) (r : Scalar) (bits : List Bool)
    (more : List Arg) (t : TypeTree)
    → at.mode ≡ K
    → IsRestPlace o at
    (applied
    (applied (prim VAt) (types_then (n ∷ k ∷ a ∷ []) (vec_lit u es ∷ lit r bits ∷ []))) more) t
    → ⊥

-- in constants at rest no primitive on words has literals alone
abbrev pub NoWordsOnLiterals : Type 0
NoWordsOnLiterals =
    (o : Origins) (at : Spot) (p : Prim) (types : List TypeTree)
    (words : List (Scalar × List Bool)) (t : TypeTree)
    → at.mode ≡ K → IsOnWords p
    → length types ≡ length (param_kinds (schema_type p))
    → length words ≡ length (parameters (schema_type p))
    → IsRestPlace o at (applied (prim p) (types_then types (map literal words))) t → ⊥

-- the lines of the primitives that are unrolled
abbrev pub IsRowUnrolled : Row → Type 0
IsRowUnrolled ElementAt = Unit {0}
IsRowUnrolled Replaced = Unit {0}
IsRowUnrolled (Mapped k) = Unit {0}
IsRowUnrolled (Zipped k) = Unit {0}
IsRowUnrolled (FoldedLeft k) = Unit {0}
IsRowUnrolled (FoldedRight k) = Unit {0}
IsRowUnrolled (Generated k) = Unit {0}
IsRowUnrolled (Replicated k) = Unit {0}
IsRowUnrolled (Appended k) = Unit {0}
IsRowUnrolled (Concatenated k) = Unit {0}
IsRowUnrolled (Taken k) = Unit {0}
IsRowUnrolled (Dropped k) = Unit {0}
IsRowUnrolled (Reversed k) = Unit {0}
IsRowUnrolled (Rotated k) = Unit {0}
IsRowUnrolled row = ⊥

-- at rest such a primitive with all its arguments is within the limits, at closed types
abbrev pub Unrolls : Type 0
Unrolls =
    (o : Origins) (at : Spot) (p : Prim) (types : List TypeTree) (es : List TermTree)
    (more : List Arg) (t : TypeTree)
    → IsRowUnrolled (row_of p) → PrimGiven (setting_at o) at.vars p types es more t
    → IsRestPlace o at (applied (applied (prim p) (types_then types es)) more) t
    → CanUnroll p types es
