-- What is promised of widths of types.
use Rattle.std.specs.List.{slice_get}
use Rattle.std.specs.Prelude.{List, Some, length, ℕ, ◌*◌, ◌+◌, ◌∷◌, ◌≡◌, ◌≤◌}
use Rattle.chw_base.specs.declared.limits.TheConstants.{DATA_BITS}
use Rattle.chw_layout.specs.Measured.{HasWidth, MeasuredCons, MeasuredFields, closed_value, fits}
use Rattle.chw_layout.specs.Measured.{tag_width}
use Rattle.chw_terms.specs.Constructors.{Constructor, con_at}
use Rattle.chw_terms.specs.declared.program.Program.{Program}
use Rattle.chw_types.specs.Arguments.{arguments}
use Rattle.chw_types.specs.TypeMoves.{Substitution, sub}
use Rattle.chw_types.specs.TypeTree.{TypeTree, TypeTrees, data_of, scalar, vector}
use Rattle.chw_types.specs.declared.declarations.ConDecl.{ConDecl}
use Rattle.chw_types.specs.declared.declarations.Data.{Data}
use Rattle.chw_types.specs.declared.kind.Scalar.{Scalar}

-- how wide the fields of a constructor of a data type are together, and the whole
pub record WholeWidth (p : Program) (it : Constructor) (ts : TypeTrees) (w : ℕ) : Type 0 where
  pub s : ℕ
  pub fields : MeasuredFields p.datas it.decl.fields (arguments ts) (fits s)
  pub small : s ≤ DATA_BITS
  pub within : tag_width (length it.it.cons) + s ≤ w

-- the first field and those after it
pub record FirstWidth
    (datas : List Data) (f : TypeTree) (fs : List TypeTree) (σ : Substitution) (s : ℕ) : Type 0
  where
    pub a : ℕ
    pub b : ℕ
    pub first : HasWidth datas (sub f σ) a
    pub rest : MeasuredFields datas fs σ (fits b)
    pub is : s ≡ a + b

-- a constructor's fields have a width, at most the widest
pub record FieldsWidth (datas : List Data) (fs : List TypeTree) (σ : Substitution) (most : ℕ)
    : Type 0 where
  pub s : ℕ
  pub fields : MeasuredFields datas fs σ (fits s)
  pub within : s ≤ most

-- the widths of the fields together, the tag apart
pub record ConsWidth (datas : List Data) (it : Data) (ts : TypeTrees) (w : ℕ) : Type 0 where
  pub a : ℕ
  pub cons : MeasuredCons datas it.cons (arguments ts) (fits a)
  pub is : w ≡ tag_width (length it.cons) + a
  pub within : w ≤ DATA_BITS

-- the elements' width
pub record ElementWidth (datas : List Data) (n t : TypeTree) (w : ℕ) : Type 0 where
  pub a : ℕ
  pub element : HasWidth datas t a
  pub is : w ≡ closed_value n * a

-- facts on widths of types
pub record WidthFacts : Type 0 where
  -- a type has one width
  pub width_once :
      {datas : List Data} {t : TypeTree} {v w : ℕ}
      → HasWidth datas t v → HasWidth datas t w → v ≡ w
  -- a scalar is as wide as the number that it names
  pub scalar_width :
      {datas : List Data} {s : Scalar} {x : TypeTree} {w : ℕ}
      → HasWidth datas (scalar s x) w → w ≡ closed_value x
  -- a vector is as wide as all its elements
  pub element_width :
      {datas : List Data} {n t : TypeTree} {w : ℕ}
      → HasWidth datas (vector n t) w → ElementWidth datas n t w
  -- a data type is as wide as its tag and its constructors
  pub cons_width :
      {datas : List Data} {d : ℕ} {ts : TypeTrees} {w : ℕ} (it : Data)
      → slice_get datas d ≡ Some it → HasWidth datas (data_of d ts) w → ConsWidth datas it ts w
  -- the fields of each constructor have a width, at most that of all constructors
  pub con_width :
      {datas : List Data} {σ : Substitution} (cs : List ConDecl) (i : ℕ) (c : ConDecl) {a : ℕ}
      → slice_get cs i ≡ Some c → MeasuredCons datas cs σ (fits a) → FieldsWidth datas c.fields σ a
  -- fields are as wide as the first and the others
  pub field_width :
      {datas : List Data} {f : TypeTree} {fs : List TypeTree} {σ : Substitution} {s : ℕ}
      → s ≤ DATA_BITS → MeasuredFields datas (f ∷ fs) σ (fits s) → FirstWidth datas f fs σ s
  -- the fields of a constructor fit behind the tag of its data type
  pub whole_width :
      (p : Program) (c d : ℕ) (it : Constructor) (ts : TypeTrees) (w : ℕ)
      → con_at p.datas c ≡ Some it → it.of ≡ d → HasWidth p.datas (data_of d ts) w
      → WholeWidth p it ts w
