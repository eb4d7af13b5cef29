-- The lengths and the widths that a primitive names: at rest they are within the limits.
use Rattle.std.proofs.Common.{◌≡◌, ◌∙◌, ◌⊎◌, ◌<◌, ◌+◌, inl, inr, refl, sym, ap, subst, ℕ, suc, zero, List, [], ◌∷◌, ◌++◌, length, map, reverse, arith, Some}
use Rattle.std.proofs.lemmas.Bool.{cases_order}
use Rattle.std.proofs.lemmas.List.{append-nil}
use Rattle.std.specs.List.{slice_get, AllByRecursion}
use Rattle.chw_base.specs.declared.limits.TheConstants.{SCALAR_BITS, VECTOR_LENGTH}
use Rattle.chw_types.specs.declared.declarations.Data.{Data}
use Rattle.chw_types.specs.declared.kind.Kind.{Kind}
use Rattle.chw_types.specs.Kinds.{KindOf, kind_scalar, kind_vector, KindsOf, no_kinds, kind_and}
use Rattle.chw_types.specs.TypeTree.{TypeTree, nat_lit, scalar, vector, fun, for_all}
use Rattle.chw_types.specs.TypeView.{trees_of}
use Rattle.chw_prims.specs.declared.prim.Primitive.{Primitive as Prim}
use Rattle.chw_prims.specs.declared.row.Row.{Row}
use Rattle.chw_prims.specs.declared.row.Row.TheVariants.{Binary, WideSum, WideProduct, Unary, Shift, Compare, Extend, Truncate, Cut, Joined, Reduce, Packed, Unpacked, Mapping, Applying, Constant, Delay, Memory, Crossing, Element, ElementAt, Replaced, Mapped, Zipped, FoldedLeft, FoldedRight, Generated, Replicated, Appended, Concatenated, Taken, Dropped, Reversed, Rotated}
use Rattle.chw_prims.specs.Schemas.{schema_type, row_of, row_type}
use Rattle.chw_terms.specs.declared.term.Arg.{Arg}
use Rattle.chw_terms.specs.declared.term.Arg.TheVariants.{OfType}
use Rattle.chw_terms.specs.TermTree.{TermTree, prim}
use Rattle.chw_terms.specs.TermView.{applied}
use Rattle.chw_terms.specs.Unrolled.{at_types, lengths_in, widths_in, parameters, IsUpTo}
use Rattle.chw_layout.specs.declared.outcome.NoLayout.{NoLayout}
use Rattle.chw_layout.specs.declared.outcome.NoLayout.TheVariants.{Scalar as OverScalar}
use Rattle.chw_layout.specs.declared.outcome.NoLayout.TheVariants.{Length as OverLength}
use Rattle.chw_typing.specs.HeadTypes.{for_each, from_each}
use Rattle.chw_typing.specs.Programs.{IsSound}
use Rattle.chw_typing.specs.Scopes.{Setting, HasKind, IsTermType}
use Rattle.chw_typing.proofs.Kinded.{function_parts, bound_part, schema_kind}
use Rattle.chw_typing.proofs.Lists.{turned_onto}
use Rattle.normal_forms.specs.Blocked.{limit, by_limit, PassesAt, by_size, Size, of_vector, of_word, sizes_in, IsOver, over_length, over_width, SizesCount, types_asked}
use Rattle.rewriting.specs.Origins.{Origins, setting_at}
use Rattle.rewriting.specs.Spots.{Spot}
use Rattle.rest_places.specs.PrimLaws.{IsWithinLimits}
use Rattle.rest_places.specs.Rest.{IsRestPlace}
use Rattle.rest_places.specs.Spines.{param_kinds, result_of}
use Rattle.rest_places.proofs.Numbers.{put_is_number}
use Rattle.rest_places.proofs.Spines.{prim_parts}
use Rattle.rest_places.proofs.Steps.{no_block}

-- at rest no limit is passed: there would be a first one
pub no_limit : (o : Origins) (at : Spot) (e : TermTree) (t : TypeTree) → IsRestPlace o at e t → (i : ℕ) (l : NoLayout) → PassesAt o at e i l → ⊥
no_limit o at e t p i l h = below (suc i) i l h (omega arith)
  where
    below : (n i : ℕ) (l : NoLayout) → PassesAt o at e i l → i < n → ⊥
    below zero i l h less = omega (arith, less)
    below (suc n) i l h less = no_block (limit l) (by_limit h (λ j k before other. below n j k other (omega (arith, before, less)))) p

-- no binder is in the type, as far as sizes are looked for
abbrev BindsNone : TypeTree → Type 0
BindsNone (for_all k t) = ⊥
BindsNone (fun a b) = BindsNone a × BindsNone b
BindsNone (vector n t) = BindsNone t
BindsNone _ = Unit {0}

abbrev whole_type : TypeTree → TypeTree
whole_type t = from_each (parameters t) (result_of t)

row_binds_none : (row : Row) → BindsNone (whole_type (row_type row))
row_binds_none (Binary x) = (tt, (tt, tt))
row_binds_none (WideSum x) = (tt, (tt, tt))
row_binds_none (WideProduct x) = (tt, (tt, tt))
row_binds_none (Unary x) = (tt, tt)
row_binds_none (Shift x) = (tt, (tt, tt))
row_binds_none (Compare x) = (tt, (tt, tt))
row_binds_none (Extend x) = (tt, tt)
row_binds_none (Truncate x) = (tt, tt)
row_binds_none Cut = (tt, tt)
row_binds_none Joined = (tt, (tt, tt))
row_binds_none Reduce = (tt, tt)
row_binds_none (Packed x) = (tt, tt)
row_binds_none (Unpacked x) = (tt, tt)
row_binds_none Mapping = ((tt, tt), (tt, tt))
row_binds_none Applying = (tt, (tt, tt))
row_binds_none Constant = (tt, tt)
row_binds_none Delay = (tt, (tt, tt))
row_binds_none Memory = (tt, (tt, (tt, tt)))
row_binds_none Crossing = (tt, tt)
row_binds_none (Element k) = (tt, tt)
row_binds_none ElementAt = (tt, (tt, tt))
row_binds_none Replaced = (tt, (tt, (tt, tt)))
row_binds_none (Mapped k) = ((tt, tt), (tt, tt))
row_binds_none (Zipped k) = ((tt, (tt, tt)), (tt, (tt, tt)))
row_binds_none (FoldedLeft k) = ((tt, (tt, tt)), (tt, (tt, tt)))
row_binds_none (FoldedRight k) = ((tt, (tt, tt)), (tt, (tt, tt)))
row_binds_none (Generated k) = ((tt, tt), tt)
row_binds_none (Replicated k) = (tt, tt)
row_binds_none (Appended k) = (tt, (tt, tt))
row_binds_none (Concatenated k) = (tt, tt)
row_binds_none (Taken k) = (tt, tt)
row_binds_none (Dropped k) = (tt, tt)
row_binds_none (Reversed k) = (tt, tt)
row_binds_none (Rotated k) = (tt, tt)

-- sizes of two types
among_first : (a b : TypeTree) (i : ℕ) (size : Size) → slice_get (sizes_in a) i ≡ Some size → slice_get (sizes_in (fun a b)) i ≡ Some size
among_first a b i size h = in_front (sizes_in a) (sizes_in b) i size h
  where
    in_front : (xs ys : List Size) (i : ℕ) (x : Size) → slice_get xs i ≡ Some x → slice_get (xs ++ ys) i ≡ Some x
    in_front [] ys i x h = absurd cc
    in_front (y ∷ xs) ys zero x h = h
    in_front (y ∷ xs) ys (suc i) x h = in_front xs ys i x h

among_second : (a b : TypeTree) (i : ℕ) (size : Size) → slice_get (sizes_in b) i ≡ Some size → slice_get (sizes_in (fun a b)) (length (sizes_in a) + i) ≡ Some size
among_second a b i size h = behind (sizes_in a) (length (sizes_in a) + i) refl
  where
    behind : (xs : List Size) (n : ℕ) → n ≡ length xs + i → slice_get (xs ++ sizes_in b) n ≡ Some size
    behind [] n e = subst (λ m. slice_get (sizes_in b) m ≡ Some size) (omega (arith, e)) h
    behind (x ∷ xs) zero e = absurd (omega (arith, e))
    behind (x ∷ xs) (suc n) e = behind xs n (omega (arith, e))

all_append : (P : TypeTree → Type 0) (xs ys : List TypeTree) → AllByRecursion P xs → AllByRecursion P ys → AllByRecursion P (xs ++ ys)
all_append P [] ys h g = g
all_append P (x ∷ xs) ys h g = (h.0, all_append P xs ys h.1 g)

-- a number that doesn't pass a limit is within it
within_limit : (most : ℕ) (t : TypeTree) → (k : ℕ) × (t ≡ nat_lit k) → ((k : ℕ) → t ≡ nat_lit k → most < k → ⊥) → IsUpTo most t
within_limit most t number none = by (cases_order number.0 most)
  where
    by : (number.0 ≡ most) ⊎ ((number.0 < most) ⊎ (most < number.0)) → IsUpTo most t
    by (inl q) = (number.0, number.1, omega (arith, q))
    by (inr (inl l)) = (number.0, number.1, omega (arith, l))
    by (inr (inr l)) = absurd (none number.0 number.1 l)

record Within (types : List TypeTree) (t : TypeTree) : Type 0 where
  pub short : AllByRecursion (λ n. IsUpTo VECTOR_LENGTH (at_types types n)) (lengths_in t)
  pub narrow : AllByRecursion (λ k. IsUpTo SCALAR_BITS (at_types types k)) (widths_in t)

abbrev NoneIsOver : List TypeTree → TypeTree → Type 0
NoneIsOver types t = (i : ℕ) (size : Size) (l : NoLayout) → slice_get (sizes_in t) i ≡ Some size → IsOver types size l → ⊥

module _ (s : Setting) (sound : IsSound s) (ks : List Kind) (types : List TypeTree) (kinds : KindsOf s.datas s.domains [] (trees_of types) ks) where
  within_of : (t : TypeTree) {k : Kind} → HasKind s (reverse ks) t k → BindsNone t → NoneIsOver types t → Within types t
  within_of (fun a b) d n over =
      let parts = function_parts d in
      let first = within_of a parts.1 n.0 (λ i size l h. over i size l (among_first a b i size h)) in
      let second = within_of b parts.2 n.1 (λ i size l h. over (length (sizes_in a) + i) size l (among_second a b i size h)) in
      record {
        short = all_append (λ n. IsUpTo VECTOR_LENGTH (at_types types n)) (lengths_in a) (lengths_in b) first.short second.short;
        narrow = all_append (λ k. IsUpTo SCALAR_BITS (at_types types k)) (widths_in a) (widths_in b) first.narrow second.narrow;
      }
  within_of (vector n t) (kind_vector d e o) none over =
      let rest = within_of t e none (λ i size l h. over (suc i) size l h) in
      let number = put_is_number s ks n types sound d kinds in
      record {
        short = (within_limit VECTOR_LENGTH (at_types types n) number (λ k is less. over 0 (of_vector n) (OverLength k) refl (over_length is less)), rest.short);
        narrow = tt;
      }
  within_of (scalar r w) (kind_scalar d) none over =
      let number = put_is_number s ks w types sound d kinds in
      record {
        short = tt;
        narrow = (within_limit SCALAR_BITS (at_types types w) number (λ k is less. over 0 (of_word w) (OverScalar k) refl (over_width is less)), tt);
      }
  within_of (for_all k t) d none over = absurd none
  within_of _ d none over = record { short = tt; narrow = tt }

-- what is under the binders of a type
inside_kind : {datas : List Data} {domains : ℕ} (ks scope : List Kind) (t : TypeTree) {k : Kind} → KindOf datas domains scope (for_each ks t) k → KindOf datas domains (reverse ks ++ scope) t k
inside_kind [] scope t d = d
inside_kind {datas} {domains} (j ∷ ks) scope t {k} d = subst (λ sc. KindOf datas domains sc t k) (sym (turned_onto j ks scope)) (inside_kind ks (j ∷ scope) t (bound_part d).0)

lengths_inside : (ks : List Kind) (t : TypeTree) → lengths_in (for_each ks t) ≡ lengths_in t
lengths_inside [] t = refl
lengths_inside (k ∷ ks) t = lengths_inside ks t

widths_inside : (ks : List Kind) (t : TypeTree) → widths_in (for_each ks t) ≡ widths_in t
widths_inside [] t = refl
widths_inside (k ∷ ks) t = widths_inside ks t

sizes_inside : (ks : List Kind) (t : TypeTree) → sizes_in (for_each ks t) ≡ sizes_in t
sizes_inside [] t = refl
sizes_inside (k ∷ ks) t = sizes_inside ks t

asked_inside : (ks : List Kind) (t : TypeTree) → types_asked t ≡ 0 → types_asked (for_each ks t) ≡ length ks
asked_inside [] t n = n
asked_inside (k ∷ ks) t n = ap suc (asked_inside ks t n)

binds_none_asks : (t : TypeTree) → BindsNone t → types_asked t ≡ 0
binds_none_asks (for_all k t) n = absurd n
binds_none_asks _ n = refl

pub types_of_prim : (p : Prim) → types_asked (schema_type p) ≡ length (param_kinds (schema_type p))
types_of_prim p =
    let t = schema_type p in
    ap types_asked (prim_parts p) ∙ asked_inside (param_kinds t) (whole_type t) (binds_none_asks (whole_type t) (row_binds_none (row_of p)))

-- of a primitive at types of its kinds, of which no size passes a limit, all lengths and widths are within the limits
pub within_or_over : (s : Setting) (p : Prim) (types : List TypeTree) → IsSound s → KindsOf s.datas s.domains [] (trees_of types) (param_kinds (schema_type p)) → NoneIsOver types (schema_type p) → IsWithinLimits p types
within_or_over s p types sound kinds over =
    record {
      short = subst (AllByRecursion (λ n. IsUpTo VECTOR_LENGTH (at_types types n))) (sym (ap lengths_in (prim_parts p) ∙ lengths_inside ks inner)) within.short;
      narrow = subst (AllByRecursion (λ k. IsUpTo SCALAR_BITS (at_types types k))) (sym (ap widths_in (prim_parts p) ∙ widths_inside ks inner)) within.narrow;
    }
  where
    ks : List Kind
    ks = param_kinds (schema_type p)

    inner : TypeTree
    inner = whole_type (schema_type p)

    whole : IsTermType s [] (schema_type p)
    whole = schema_kind s p sound

    kinded : HasKind s (reverse ks) inner whole.kind
    kinded = subst (λ sc. HasKind s sc inner whole.kind) (append-nil (reverse ks)) (inside_kind ks [] inner (subst (λ t. HasKind s [] t whole.kind) (prim_parts p) whole.has))

    within : Within types inner
    within = within_of s sound ks types kinds inner kinded (row_binds_none (row_of p)) (λ i size l h. over i size l (subst (λ xs. slice_get xs i ≡ Some size) (sym (ap sizes_in (prim_parts p) ∙ sizes_inside ks inner)) h))

-- as many types as kinds
types_many : {datas : List Data} {domains : ℕ} {scope ks : List Kind} (types : List TypeTree) → KindsOf datas domains scope (trees_of types) ks → length types ≡ length ks
types_many [] no_kinds = refl
types_many (t ∷ types) (kind_and d ds) = ap suc (types_many types ds)

-- so at rest
pub sizes_within : (o : Origins) (at : Spot) (p : Prim) (types : List TypeTree) (more : List Arg) (t : TypeTree) → SizesCount at p → KindsOf o.program.datas (setting_at o).domains [] (trees_of types) (param_kinds (schema_type p)) → IsRestPlace o at (applied (prim p) (map (λ t. OfType t) types ++ more)) t → IsWithinLimits p types
sizes_within o at p types more t counts kinds rest =
    within_or_over (setting_at o) p types rest.place.sound kinds
    (λ i size l h over. no_limit o at (applied (prim p) (map (λ t. OfType t) types ++ more)) t rest (suc i) l (by_size p types more counts (types_many types kinds ∙ sym (types_of_prim p)) h over))
