-- Every line of primitives on vectors that is unrolled: how its body acts.
use Rattle.std.specs.Prelude.{Some}
use Rattle.std.proofs.Common.{◌≡◌, ◌<◌, ℕ, List, [], ◌∷◌, length, map, refl, arith}
use Rattle.chw_types.specs.declared.kind.Kind.{Kind}
use Rattle.chw_types.specs.declared.kind.Kind.TheVariants.{Nat, Val}
use Rattle.chw_types.specs.declared.kind.Scalar.TheVariants.{U}
use Rattle.chw_types.specs.TypeTree.{TypeTree, ty_var, nat_lit, nat_sum, nat_product, scalar, vector, fun}
use Rattle.chw_prims.specs.declared.row.Row.{Row}
use Rattle.chw_prims.specs.declared.row.Row.TheVariants.{ElementAt, Replaced, Mapped, Zipped, FoldedLeft, FoldedRight, Generated, Replicated, Appended, Concatenated, Taken, Dropped, Reversed, Rotated}
use Rattle.chw_prims.specs.Schemas.{row_type}
use Rattle.chw_terms.specs.declared.program.Program.{Program}
use Rattle.chw_terms.specs.Evaluated.{evaluated}
use Rattle.chw_terms.specs.TermTree.{TermTree}
use Rattle.chw_terms.specs.Unrolled.{parameters, body_of}
use Rattle.chw_typing.specs.HeadTypes.{for_each, from_each}
use Rattle.chw_typing.specs.Programs.{IsSound, setting_of}
use Rattle.unroll_laws.proofs.Sized.{Sized1, is_sized_1, sized_view_1, Sized2, is_sized_2, sized_view_2, Sized3, is_sized_3, sized_view_3, TwiceSized, is_twice_sized, twice_sized_view}
use Rattle.chw_meaning.specs.Steps.{types_asked, thunks_asked}
use Rattle.act_rules.proofs.Folds.{folds_left, folds_right}
use Rattle.act_rules.proofs.PrimIndexed.{indexed}
use Rattle.act_rules.proofs.Joins.{appended, concatenates}
use Rattle.act_rules.proofs.Maps.{mapped, zipped, generated, replicated}
use Rattle.act_rules.proofs.PrimPlaces.{taken, dropped, reversed, rotated}
use Rattle.act_rules.proofs.Replaces.{replaces}
use Rattle.act_rules.proofs.Shapes.{WithinLimits, RowUnrolls}

-- a line's parameters and result, and how a body acts
pub record Line (p : Program) (row : Row) (types : List TypeTree) (body : TermTree) : Type 0 where
  pub kinds : List Kind
  pub params : List TypeTree
  pub result : TypeTree
  pub is : row_type row ≡ for_each kinds (from_each params result)
  pub asks : parameters (row_type row) ≡ params
  pub asks_types : types_asked (row_type row) ≡ length kinds
  pub asks_thunks : thunks_asked (row_type row) ≡ length params
  pub some : 0 < length params
  pub few : length params < 4
  pub on_types : length types ≡ length kinds
  pub acts : RowUnrolls p row params result types body

many_1 : {f : ℕ → TypeTree → TermTree} {types : List TypeTree} {body : TermTree} → Sized1 f types body → length types ≡ 2
many_1 (is_sized_1 n e) = refl

many_2 : {f : ℕ → TypeTree → TypeTree → TermTree} {types : List TypeTree} {body : TermTree} → Sized2 f types body → length types ≡ 3
many_2 (is_sized_2 n e) = refl

many_3 : {f : ℕ → TypeTree → TypeTree → TypeTree → TermTree} {types : List TypeTree} {body : TermTree} → Sized3 f types body → length types ≡ 4
many_3 (is_sized_3 n e) = refl

many_twice : {f : ℕ → ℕ → TypeTree → TermTree} {types : List TypeTree} {body : TermTree} → TwiceSized f types body → length types ≡ 3
many_twice (is_twice_sized n m e g) = refl

pub line : (p : Program) → IsSound (setting_of p) → (row : Row) (types : List TypeTree) (body : TermTree) → body_of row (map evaluated types) ≡ Some body → WithinLimits row types → Line p row types body
line p sound (Mapped k) types body e limits =
    record {
      kinds = Nat ∷ k ∷ k ∷ [];
      params = fun (ty_var 1) (ty_var 0) ∷ vector (ty_var 2) (ty_var 1) ∷ [];
      result = vector (ty_var 2) (ty_var 0);
      is = refl;
      asks = refl;
      asks_types = refl;
      asks_thunks = refl;
      some = omega arith;
      few = omega arith;
      on_types = many_2 (sized_view_2 _ types body e);
      acts = mapped p k types body e limits;
    }
line p sound (Zipped k) types body e limits =
    record {
      kinds = Nat ∷ k ∷ k ∷ k ∷ [];
      params = fun (ty_var 2) (fun (ty_var 1) (ty_var 0)) ∷ vector (ty_var 3) (ty_var 2) ∷ vector (ty_var 3) (ty_var 1) ∷ [];
      result = vector (ty_var 3) (ty_var 0);
      is = refl;
      asks = refl;
      asks_types = refl;
      asks_thunks = refl;
      some = omega arith;
      few = omega arith;
      on_types = many_3 (sized_view_3 _ types body e);
      acts = zipped p k types body e limits;
    }
line p sound (FoldedLeft k) types body e limits =
    record {
      kinds = Nat ∷ k ∷ k ∷ [];
      params = fun (ty_var 0) (fun (ty_var 1) (ty_var 0)) ∷ ty_var 0 ∷ vector (ty_var 2) (ty_var 1) ∷ [];
      result = ty_var 0;
      is = refl;
      asks = refl;
      asks_types = refl;
      asks_thunks = refl;
      some = omega arith;
      few = omega arith;
      on_types = many_2 (sized_view_2 _ types body e);
      acts = folds_left p k types body e limits;
    }
line p sound (FoldedRight k) types body e limits =
    record {
      kinds = Nat ∷ k ∷ k ∷ [];
      params = fun (ty_var 1) (fun (ty_var 0) (ty_var 0)) ∷ ty_var 0 ∷ vector (ty_var 2) (ty_var 1) ∷ [];
      result = ty_var 0;
      is = refl;
      asks = refl;
      asks_types = refl;
      asks_thunks = refl;
      some = omega arith;
      few = omega arith;
      on_types = many_2 (sized_view_2 _ types body e);
      acts = folds_right p k types body e limits;
    }
line p sound (Generated k) types body e limits =
    record {
      kinds = Nat ∷ Nat ∷ k ∷ [];
      params = fun (scalar U (ty_var 1)) (ty_var 0) ∷ [];
      result = vector (ty_var 2) (ty_var 0);
      is = refl;
      asks = refl;
      asks_types = refl;
      asks_thunks = refl;
      some = omega arith;
      few = omega arith;
      on_types = many_twice (twice_sized_view _ types body e);
      acts = generated p k types body e limits;
    }
line p sound (Replicated k) types body e limits =
    record {
      kinds = Nat ∷ k ∷ [];
      params = ty_var 0 ∷ [];
      result = vector (ty_var 1) (ty_var 0);
      is = refl;
      asks = refl;
      asks_types = refl;
      asks_thunks = refl;
      some = omega arith;
      few = omega arith;
      on_types = many_1 (sized_view_1 _ types body e);
      acts = replicated p k types body e limits;
    }
line p sound (Appended k) types body e limits =
    record {
      kinds = Nat ∷ Nat ∷ k ∷ [];
      params = vector (ty_var 2) (ty_var 0) ∷ vector (ty_var 1) (ty_var 0) ∷ [];
      result = vector (nat_sum (ty_var 2) (ty_var 1)) (ty_var 0);
      is = refl;
      asks = refl;
      asks_types = refl;
      asks_thunks = refl;
      some = omega arith;
      few = omega arith;
      on_types = many_twice (twice_sized_view _ types body e);
      acts = appended p k types body e limits;
    }
line p sound (Concatenated k) types body e limits =
    record {
      kinds = Nat ∷ Nat ∷ k ∷ [];
      params = vector (ty_var 2) (vector (ty_var 1) (ty_var 0)) ∷ [];
      result = vector (nat_product (ty_var 2) (ty_var 1)) (ty_var 0);
      is = refl;
      asks = refl;
      asks_types = refl;
      asks_thunks = refl;
      some = omega arith;
      few = omega arith;
      on_types = many_twice (twice_sized_view _ types body e);
      acts = concatenates p k types body e limits;
    }
line p sound (Taken k) types body e limits =
    record {
      kinds = Nat ∷ Nat ∷ k ∷ [];
      params = vector (nat_sum (ty_var 2) (ty_var 1)) (ty_var 0) ∷ [];
      result = vector (ty_var 2) (ty_var 0);
      is = refl;
      asks = refl;
      asks_types = refl;
      asks_thunks = refl;
      some = omega arith;
      few = omega arith;
      on_types = many_twice (twice_sized_view _ types body e);
      acts = taken p k types body e limits;
    }
line p sound (Dropped k) types body e limits =
    record {
      kinds = Nat ∷ Nat ∷ k ∷ [];
      params = vector (nat_sum (ty_var 2) (ty_var 1)) (ty_var 0) ∷ [];
      result = vector (ty_var 1) (ty_var 0);
      is = refl;
      asks = refl;
      asks_types = refl;
      asks_thunks = refl;
      some = omega arith;
      few = omega arith;
      on_types = many_twice (twice_sized_view _ types body e);
      acts = dropped p k types body e limits;
    }
line p sound (Reversed k) types body e limits =
    record {
      kinds = Nat ∷ k ∷ [];
      params = vector (ty_var 1) (ty_var 0) ∷ [];
      result = vector (ty_var 1) (ty_var 0);
      is = refl;
      asks = refl;
      asks_types = refl;
      asks_thunks = refl;
      some = omega arith;
      few = omega arith;
      on_types = many_1 (sized_view_1 _ types body e);
      acts = reversed p k types body e limits;
    }
line p sound (Rotated k) types body e limits =
    record {
      kinds = Nat ∷ Nat ∷ k ∷ [];
      params = vector (ty_var 2) (ty_var 0) ∷ [];
      result = vector (ty_var 2) (ty_var 0);
      is = refl;
      asks = refl;
      asks_types = refl;
      asks_thunks = refl;
      some = omega arith;
      few = omega arith;
      on_types = many_twice (twice_sized_view _ types body e);
      acts = rotated p k types body e limits;
    }
line p sound Replaced types body e limits =
    record {
      kinds = Nat ∷ Nat ∷ Val ∷ [];
      params = vector (ty_var 2) (ty_var 0) ∷ scalar U (ty_var 1) ∷ ty_var 0 ∷ [];
      result = vector (ty_var 2) (ty_var 0);
      is = refl;
      asks = refl;
      asks_types = refl;
      asks_thunks = refl;
      some = omega arith;
      few = omega arith;
      on_types = many_twice (twice_sized_view _ types body e);
      acts = replaces p sound types body e limits;
    }
line p sound ElementAt types body e limits =
    record {
      kinds = Nat ∷ Nat ∷ Val ∷ [];
      params = vector (nat_sum (ty_var 2) (nat_lit 1)) (ty_var 0) ∷ scalar U (ty_var 1) ∷ [];
      result = ty_var 0;
      is = refl;
      asks = refl;
      asks_types = refl;
      asks_thunks = refl;
      some = omega arith;
      few = omega arith;
      on_types = many_twice (twice_sized_view _ types body e);
      acts = indexed p types body e limits;
    }
line p sound _ types body e limits = absurd cc
