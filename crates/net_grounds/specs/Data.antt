-- What is promised of the bits of data.
use Rattle.std.specs.Prelude.{Bool, List, Some, length, map, ℕ, ◌++◌, ◌≡◌, ◌≤◌}
use Rattle.carrying.specs.Carrying.{CarryFields, Holds, tag_of}
use Rattle.carrying.specs.DataLaws.{CarryAll, ConstructorCarries, FieldShows, behind_tag, tag_in}
use Rattle.carrying.specs.TermLaws.{onto}
use Rattle.chw_base.specs.declared.limits.TheConstants.{DATA_BITS}
use Rattle.chw_layout.specs.Measured.{MeasuredFields, fits}
use Rattle.chw_meaning.specs.Values.{Thunk, Thunks, Value, con_of, count_of}
use Rattle.chw_terms.specs.Constructors.{Constructor, con_at}
use Rattle.chw_terms.specs.declared.program.Program.{Program}
use Rattle.chw_types.specs.Arguments.{arguments}
use Rattle.chw_types.specs.TypeMoves.{Substitution, sub}
use Rattle.chw_types.specs.TypeTree.{TypeTree, TypeTrees, data_of}

-- what a value that holds the bits of data is, where they begin with a constructor's tag
pub record IsBuilt
    (p : Program) (c : ℕ) (it : Constructor) (ts : TypeTrees) (v : Value) (x : List Bool) : Type 0
  where
    pub ths : Thunks
    pub is : v ≡ con_of c ths
    pub many : count_of ths ≡ length it.decl.fields
    pub bits : List Bool
    pub more : List Bool
    pub rest : bits ++ more ≡ behind_tag it x
    pub fields : CarryFields p it.decl.fields (arguments ts) ths bits

-- facts on the bits of data
pub record DataFacts : Type 0 where
  -- a constructor carries its tag, the bits of its operands, and zeros
  pub constructor_carries : ConstructorCarries
  -- a field shows the bits at its place behind the tag
  pub field_shows : FieldShows
  -- operands that carry bits of fields carry them as the last ones of more thunks
  pub fields_carried :
      {p : Program} (σ : Substitution) (fs : List TypeTree) {xs : List Thunk} {b : List Bool}
      → CarryAll p (map (λ f. sub f σ) fs) xs b → (ths : Thunks)
      → CarryFields p fs σ (onto xs ths) b
  -- a value that holds bits with a constructor's tag is built with that constructor
  pub is_built :
      (p : Program) (c d : ℕ) (it : Constructor) (ts : TypeTrees) (v : Value) (x : List Bool)
      → con_at p.datas c ≡ Some it → it.of ≡ d → Holds p (data_of d ts) v x
      → tag_in it x ≡ tag_of p.datas c it → IsBuilt p c it ts v x
  -- the bits of fields are as many as the fields are wide
  pub fields_length :
      {p : Program} {fs : List TypeTree} {σ : Substitution} {ths : Thunks} {b : List Bool} {s : ℕ}
      → CarryFields p fs σ ths b → MeasuredFields p.datas fs σ (fits s) → s ≤ DATA_BITS
      → length b ≡ s
