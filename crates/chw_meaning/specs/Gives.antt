-- What a closed term gives: on inputs, at a leaf of its result, at a history, with all its parts
-- evaluated.
use Rattle.std.specs.Prelude.{◌≡◌, ℕ, suc, zero, Bool, List, [], ◌∷◌, ◌++◌, length, Some, slice_get}
use Rattle.std.specs.List.{AllByRecursion}
use Rattle.chw_types.specs.declared.kind.Scalar.{Scalar}
use Rattle.chw_types.specs.declared.declarations.ConDecl.{ConDecl}
use Rattle.chw_types.specs.declared.declarations.Data.{Data}
use Rattle.chw_types.specs.TypeTree.{TypeTree, domain, scalar, vector, data_of, fun, signal, TypeTrees, no_types, type_and}
use Rattle.chw_types.specs.TypeMoves.{Substitution, sub}
use Rattle.chw_types.specs.Arguments.{arguments}
use Rattle.type_ports.specs.Representable.{Representable}
use Rattle.chw_terms.specs.declared.program.Program.{Program}
use Rattle.chw_terms.specs.TermTree.{TermTree, ty_app, con}
use Rattle.chw_layout.specs.Datum.{Datum, word, built, elements, Datums, no_data, datum_and}
use Rattle.chw_terms.specs.Constructors.{Constructor, con_at}
use Rattle.chw_layout.specs.Encodes.{first_constructor, IsValueOf}
use Rattle.chw_layout.specs.Measured.{HasWidth}
use Rattle.chw_meaning.specs.Zeros.{IsWide, IsZero}
use Rattle.chw_meaning.specs.Values.{History, Value, bits, con_of, vec_of, Thunk, closed, applied, field, stream, known, Thunks, none, thunk_and, thunk_at}
use Rattle.chw_meaning.specs.Eval.{plus, Forces}

mutual
  -- the thunk of the closed type, with all its parts evaluated at the history, makes the data
  -- value, in so many turns; a part of a type of width 0 is the one value of its type, without
  -- evaluation
  pub data Yields (p : Program) : ℕ → TypeTree → Thunk → History → Datum → Type 0 where
    y_empty : {t : TypeTree} {th : Thunk} {h : History} {z : Datum}
        → HasWidth p.datas t zero
        → IsZero p.datas t z
        → Yields p zero t th h z
    y_value : {m k : ℕ} {t : TypeTree} {th : Thunk} {h : History} {v : Value} {d : Datum}
        → IsWide p.datas t
        → Forces p m th h v
        → ValueYields p k t v h d
        → Yields p (suc (plus m k)) t th h d

  -- the value of the closed type, with all its parts evaluated at the history, makes the data
  -- value
  pub data ValueYields (p : Program) : ℕ → TypeTree → Value → History → Datum → Type 0 where
    v_word : {s : Scalar} {n : TypeTree} {b : List Bool} {h : History}
        → ValueYields p zero (scalar s n) (bits b) h (word b)
    v_elements : {k : ℕ} {n t : TypeTree} {ths : Thunks} {h : History} {ds : Datums}
        → YieldEach p k t ths h ds
        → ValueYields p k (vector n t) (vec_of ths) h (elements ds)
    v_built : {k d c : ℕ} {ts : TypeTrees} {it : Constructor} {ths : Thunks} {h : History}
        {ds : Datums}
        → con_at p.datas c ≡ Some it
        → it.of ≡ d
        → YieldFields p k it.decl.fields (arguments ts) ths h ds
        → ValueYields p k (data_of d ts) (con_of c ths) h (built c ds)

  -- the same of the elements of a vector
  pub data YieldEach (p : Program) : ℕ → TypeTree → Thunks → History → Datums → Type 0 where
    yield_none : {t : TypeTree} {h : History} → YieldEach p zero t none h no_data
    yield_each : {m k : ℕ} {t : TypeTree} {th : Thunk} {ths : Thunks} {h : History} {d : Datum} {ds : Datums} → Yields p m t th h d → YieldEach p k t ths h ds → YieldEach p (plus m k) t (thunk_and th ths) h (datum_and d ds)

  -- the same of the fields of a constructor that have these types, with this put in; those are
  -- its last ones
  pub data YieldFields (p : Program) : ℕ → List TypeTree → Substitution → Thunks → History → Datums → Type 0 where
    yield_no_field : {σ : Substitution} {ths : Thunks} {h : History} → YieldFields p zero [] σ ths h no_data
    yield_field : {m k : ℕ} {f : TypeTree} {fs : List TypeTree} {σ : Substitution} {th : Thunk} {ths : Thunks} {h : History} {d : Datum} {ds : Datums} → thunk_at ths (length fs) ≡ Some th → Yields p m (sub f σ) th h d → YieldFields p k fs σ ths h ds → YieldFields p (plus m k) (f ∷ fs) σ ths h (datum_and d ds)

-- what a term is applied to: a data value for each representable parameter, and a stream for each
-- leaf of a parameter that is a port; they are data values of the parameters' types
pub data Input : Type 0 where
  value_in : Datum → Input
  stream_in : List Datum → Input

-- a constructor on the arguments of its data type
abbrev pub at_types : TermTree → TypeTrees → TermTree
at_types e no_types = e
at_types e (type_and t ts) = at_types (ty_app e t) ts

mutual
  -- a parameter whose closed type is a port is this thunk, made of the first of the inputs, a
  -- stream for each leaf; these are left
  pub data PortGiven (datas : List Data) : TypeTree → List Input → Thunk → List Input → Type 0 where
    given_stream : {d : ℕ} {t : TypeTree} {ds : List Datum} {more : List Input} → Representable datas t → AllByRecursion (IsValueOf datas t) ds → PortGiven datas (signal (domain d) t) (stream_in ds ∷ more) (stream ds) more
    given_product : {d : ℕ} {it : Data} {ts : TypeTrees} {k : ConDecl} {f : TypeTree} {fs : List TypeTree} {ins more : List Input} {th : Thunk} → slice_get datas d ≡ Some it → it.cons ≡ k ∷ [] → k.fields ≡ f ∷ fs → FieldsGiven datas (f ∷ fs) (arguments ts) (closed (at_types (con (first_constructor datas d)) ts) none no_types) ins th more → PortGiven datas (data_of d ts) ins th more

  -- the thunk is another on fields of these types, with this put in
  pub data FieldsGiven (datas : List Data) : List TypeTree → Substitution → Thunk → List Input → Thunk → List Input → Type 0 where
    given_no_field : {σ : Substitution} {th : Thunk} {ins : List Input} → FieldsGiven datas [] σ th ins th ins
    given_field : {f : TypeTree} {fs : List TypeTree} {σ : Substitution} {on x th : Thunk} {ins rest more : List Input} → PortGiven datas (sub f σ) ins x rest → FieldsGiven datas fs σ (applied on x) rest th more → FieldsGiven datas (f ∷ fs) σ on ins th more

-- a parameter of the closed type is this thunk, made of the first of the inputs; these are left
pub data Given (datas : List Data) : TypeTree → List Input → Thunk → List Input → Type 0 where
  given_value : {t : TypeTree} {d : Datum} {more : List Input} → Representable datas t → IsValueOf datas t d → Given datas t (value_in d ∷ more) (known d) more
  given_port : {t : TypeTree} {th : Thunk} {ins more : List Input} → PortGiven datas t ins th more → Given datas t ins th more

-- a thunk of the closed type, applied to the inputs, is this thunk of this type
pub data OnInputs (datas : List Data) : TypeTree → Thunk → List Input → TypeTree → Thunk → Type 0 where
  on_all : {t : TypeTree} {th : Thunk} → OnInputs datas t th [] t th
  on_next : {a b r : TypeTree} {on x th : Thunk} {ins more : List Input} → Given datas a ins x more → OnInputs datas b (applied on x) more r th → OnInputs datas (fun a b) on ins r th

-- a leaf of a result: its type, and its thunk
pub record LeafOf : Type 0 where
  pub payload : TypeTree
  pub thunk : Thunk

abbrev pub leaf_of : TypeTree → Thunk → LeafOf
leaf_of t th = record { payload = t; thunk = th }

mutual
  -- a thunk whose closed type is a port has these leaves, from left to right: itself, or those of
  -- its fields
  pub data PortLeaves (datas : List Data) : TypeTree → Thunk → List LeafOf → Type 0 where
    leaf_signal : {d : ℕ} {t : TypeTree} {th : Thunk} → Representable datas t → PortLeaves datas (signal (domain d) t) th (leaf_of t th ∷ [])
    leaves_product : {d : ℕ} {it : Data} {ts : TypeTrees} {k : ConDecl} {f : TypeTree} {fs : List TypeTree} {th : Thunk} {ls : List LeafOf} → slice_get datas d ≡ Some it → it.cons ≡ k ∷ [] → k.fields ≡ f ∷ fs → FieldLeaves datas (f ∷ fs) (arguments ts) th ls → PortLeaves datas (data_of d ts) th ls

  -- the last fields of a thunk, which have these types, with this put in, have these leaves
  pub data FieldLeaves (datas : List Data) : List TypeTree → Substitution → Thunk → List LeafOf → Type 0 where
    no_field_leaves : {σ : Substitution} {th : Thunk} → FieldLeaves datas [] σ th []
    field_leaves : {f : TypeTree} {fs : List TypeTree} {σ : Substitution} {th : Thunk} {ls ms : List LeafOf} → PortLeaves datas (sub f σ) (field (length fs) th) ls → FieldLeaves datas fs σ th ms → FieldLeaves datas (f ∷ fs) σ th (ls ++ ms)

-- a thunk of the closed type has these leaves: itself where the type is representable, else those
-- of a port
pub data HasLeaves (datas : List Data) : TypeTree → Thunk → List LeafOf → Type 0 where
  leaf_value : {t : TypeTree} {th : Thunk} → Representable datas t → HasLeaves datas t th (leaf_of t th ∷ [])
  leaves_port : {t : TypeTree} {th : Thunk} {ls : List LeafOf} → PortLeaves datas t th ls → HasLeaves datas t th ls

-- the closed term of the closed type, applied to the inputs, has at the history the data value at
-- this leaf of its result
pub record Gives (p : Program) (e : TermTree) (t : TypeTree) (ins : List Input) (h : History) (k : ℕ) (d : Datum) : Type 0 where
  pub result : TypeTree
  pub thunk : Thunk
  pub on_inputs : OnInputs p.datas t (closed e none no_types) ins result thunk
  pub leaves : List LeafOf
  pub are_leaves : HasLeaves p.datas result thunk leaves
  pub leaf : LeafOf
  pub is_leaf : slice_get leaves k ≡ Some leaf
  pub turns : ℕ
  pub yields : Yields p turns leaf.payload leaf.thunk h d

-- whatever the first term gives at the type, the second gives
abbrev pub Better : Program → TypeTree → TermTree → TermTree → Type 0
Better p t e' e =
    (ins : List Input) (h : History) (k : ℕ) (d : Datum) → Gives p e' t ins h k d → Gives p e t ins h k d
