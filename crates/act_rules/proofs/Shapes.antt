-- What a line of primitives on vectors is unrolled to, as against what it does: the form of the
-- statements, and the thunks of the arguments one by one.
use Rattle.std.specs.List.{AllByRecursion}
use Rattle.std.proofs.Common.{ℕ, List, [], ◌∷◌, length, map, reverse}
use Rattle.chw_base.specs.declared.limits.TheConstants.{SCALAR_BITS, VECTOR_LENGTH}
use Rattle.chw_types.specs.TypeTree.{TypeTree}
use Rattle.chw_prims.specs.declared.prim.Primitive.{Primitive as Prim}
use Rattle.chw_prims.specs.declared.row.Row.{Row}
use Rattle.chw_prims.specs.Schemas.{row_type}
use Rattle.chw_terms.specs.declared.program.Program.{Program}
use Rattle.chw_terms.specs.TermTree.{TermTree}
use Rattle.chw_terms.specs.Unrolled.{IsUpTo, at_types, lengths_in, widths_in}
use Rattle.chw_meaning.specs.Values.{Thunk, Thunks, none, thunk_and, closed_type}
use Rattle.chw_meaning.specs.Steps.{by_row}
use Rattle.chw_types.specs.TypeTree.{TypeTrees}
use Rattle.rewriting.specs.Origins.{with_origins}
use Rattle.acts.specs.Levels.{Levels, ThunksAct}
use Rattle.acts.specs.Acts.{AllAct, acts_from}
use Rattle.act_rules.proofs.Given.{given_at}
use Rattle.act_rules.proofs.PrimElements.{TermSteps}
use Rattle.act_rules.proofs.Names.{names_in}

-- no vector is longer, and no word wider, than the limits
pub record WithinLimits (row : Row) (types : List TypeTree) : Type 0 where
  pub short : AllByRecursion (λ n. IsUpTo VECTOR_LENGTH (at_types types n)) (lengths_in (row_type row))
  pub narrow : AllByRecursion (λ k. IsUpTo SCALAR_BITS (at_types types k)) (widths_in (row_type row))

-- where the names act as the arguments, the body acts as what the line does with the arguments
abbrev pub RowUnrolls : Program → Row → List TypeTree → TypeTree → List TypeTree → TermTree → Type 0
RowUnrolls p row params result types body =
    (q : Prim) (o : ℕ → TermTree) (n : ℕ) (γ : Thunks) (δ : TypeTrees) (xs : Thunks)
    → AllAct p (acts_from p n) (map (λ t. closed_type t (given_at δ types)) (reverse params)) (names_in γ δ (length params)) xs
    → TermSteps p (acts_from p n) (closed_type result (given_at δ types)) (with_origins o body) γ δ (by_row row q (given_at δ types) xs)

-- one, two and three thunks that act so, by what is shown of them
pub on_one : (p : Program) (r : Levels) (t : TypeTree) (x' : Thunk) (G : Thunks → Type 0) → ((x : Thunk) → ThunksAct p r t x' x → G (thunk_and x none)) → (xs : Thunks) → AllAct p r (t ∷ []) (thunk_and x' none) xs → G xs
on_one p r t x' G f (thunk_and x none) all = f x all.0
on_one p r t x' G f none all = absurd all
on_one p r t x' G f (thunk_and x (thunk_and y xs)) all = absurd all.1

pub on_two : (p : Program) (r : Levels) (u t : TypeTree) (y' x' : Thunk) (G : Thunks → Type 0) → ((x y : Thunk) → ThunksAct p r t x' x → ThunksAct p r u y' y → G (thunk_and y (thunk_and x none))) → (xs : Thunks) → AllAct p r (u ∷ t ∷ []) (thunk_and y' (thunk_and x' none)) xs → G xs
on_two p r u t y' x' G f (thunk_and y (thunk_and x none)) all = f x y all.1.0 all.0
on_two p r u t y' x' G f none all = absurd all
on_two p r u t y' x' G f (thunk_and y none) all = absurd all.1
on_two p r u t y' x' G f (thunk_and y (thunk_and x (thunk_and z xs))) all = absurd all.1.1

pub on_three : (p : Program) (r : Levels) (w u t : TypeTree) (z' y' x' : Thunk) (G : Thunks → Type 0) → ((x y z : Thunk) → ThunksAct p r t x' x → ThunksAct p r u y' y → ThunksAct p r w z' z → G (thunk_and z (thunk_and y (thunk_and x none)))) → (xs : Thunks) → AllAct p r (w ∷ u ∷ t ∷ []) (thunk_and z' (thunk_and y' (thunk_and x' none))) xs → G xs
on_three p r w u t z' y' x' G f (thunk_and z (thunk_and y (thunk_and x none))) all = f x y z all.1.1.0 all.1.0 all.0
on_three p r w u t z' y' x' G f none all = absurd all
on_three p r w u t z' y' x' G f (thunk_and z none) all = absurd all.1
on_three p r w u t z' y' x' G f (thunk_and z (thunk_and y none)) all = absurd all.1.1
on_three p r w u t z' y' x' G f (thunk_and z (thunk_and y (thunk_and x (thunk_and q xs)))) all = absurd all.1.1.1
