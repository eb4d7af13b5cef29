-- What is promised of the bits of primitives.
use Rattle.std.specs.Prelude.{List, [], length, ℕ, ◌++◌, ◌∷◌, ◌≡◌}
use Rattle.carrying.specs.TermLaws.{each_closed, onto}
use Rattle.carrying.specs.WordLaws.{PrimitiveShows, TestShows}
use Rattle.chw_layout.specs.Measured.{HasWidth}
use Rattle.chw_meaning.specs.Eval.{Evals, Runs}
use Rattle.chw_meaning.specs.Steps.{saturated, takes_thunks, takes_types}
use Rattle.chw_meaning.specs.Values.{History, Thunks, Value, closed_type, con_head, none, prim_head}
use Rattle.chw_prims.specs.Schemas.{bool}
use Rattle.chw_prims.specs.declared.prim.Primitive.{Primitive as Prim}
use Rattle.chw_terms.specs.Evaluated.{evaluated}
use Rattle.chw_terms.specs.TermTree.{TermTree, con, prim}
use Rattle.chw_terms.specs.TermView.{applied}
use Rattle.chw_terms.specs.declared.program.Program.{Program}
use Rattle.chw_types.specs.BuiltIn.{built_in}
use Rattle.chw_types.specs.TypeTree.{TypeTree, TypeTrees, no_types, type_and}
use Rattle.chw_types.specs.declared.declarations.Data.{Data}
use Rattle.chw_typing.specs.Given.{types_then}

-- types, evaluated in an environment, before others, the last one first
abbrev pub typed : TypeTrees → List TypeTree → TypeTrees → TypeTrees
typed δ [] ts = ts
typed δ (t ∷ more) ts = typed δ more (type_and (evaluated (closed_type t δ)) ts)

-- facts on the bits of primitives
pub record PrimFacts : Type 0 where
  -- a constructor on all its operands has the value to which its head runs on them
  pub con_whole :
      (p : Program) (c : ℕ) (γ : Thunks) (δ : TypeTrees) (h : History) (types : List TypeTree)
      (es : List TermTree)
      → length types ≡ takes_types p.datas (con_head c)
      → length es ≡ takes_thunks p.datas (con_head c) → (n : ℕ) (v : Value)
      → Runs p n (saturated (con_head c) (typed δ types no_types) (onto (each_closed es γ δ) none))
      h v → (m : ℕ) × Evals p m (applied (con c) (types_then types es)) γ δ h v
  -- so does a primitive
  pub prim_whole :
      (p : Program) (q : Prim) (γ : Thunks) (δ : TypeTrees) (h : History) (types : List TypeTree)
      (es : List TermTree)
      → length types ≡ takes_types p.datas (prim_head q)
      → length es ≡ takes_thunks p.datas (prim_head q) → (n : ℕ) (v : Value)
      → Runs p n (saturated (prim_head q) (typed δ types no_types) (onto (each_closed es γ δ) none))
      h v → (m : ℕ) × Evals p m (applied (prim q) (types_then types es)) γ δ h v
  -- a primitive whose operands show words shows its value on them
  pub primitive_shows : PrimitiveShows
  -- a comparison or a reduction shows a truth value
  pub test_shows : TestShows
  -- truth values have 1 bit
  pub bool_width : (datas others : List Data) → datas ≡ built_in ++ others → HasWidth datas bool 1
