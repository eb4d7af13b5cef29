-- The instances of a built net and their blocks, each with the thunks of its variables; and what it
-- is for these to have bits.
use Rattle.std.specs.Prelude.{◌≡◌, ℕ, zero, ◌+◌, ◌-◌, ◌<◌, List, [], ◌∷◌, ◌++◌, length, map}
use Rattle.std.specs.Prelude.{reverse, Some, slice_get}
use Rattle.chw_base.specs.declared.index.WireId.{WireId}
use Rattle.chw_types.specs.declared.declarations.Data.{Data}
use Rattle.chw_types.specs.TypeTree.{TypeTree, no_types}
use Rattle.chw_terms.specs.declared.program.Program.{Program}
use Rattle.chw_terms.specs.declared.scene.Made.{Made}
use Rattle.chw_terms.specs.declared.scene.Sort.{Sort}
use Rattle.chw_terms.specs.declared.scene.Sort.TheVariants.{Value, Circuit}
use Rattle.chw_terms.specs.declared.term.Pattern.{Pattern}
use Rattle.chw_terms.specs.TermTree.{TermTree, var, made, lam, letrec, case_of}
use Rattle.chw_terms.specs.TermTree.{Group, no_bindings, Alts, alt}
use Rattle.chw_typing.specs.HeadTypes.{PatternOf}
use Rattle.chw_typing.specs.Programs.{IsSound}
use Rattle.rewriting.specs.Origins.{setting_at, with_origins, with_origins_group}
use Rattle.rewriting.specs.Steps.{origins_in}
use Rattle.normal_forms.specs.Normal.{IsNormal}
use Rattle.normal_forms.specs.Values.{on_names}
use Rattle.chw_layout.specs.Encodes.{HaveConstructors}
use Rattle.chw_layout.specs.Measured.{HasWidth}
use Rattle.chw_meaning.specs.Eval.{choice, looks}
use Rattle.chw_meaning.specs.Values.{History, Thunk, closed, Thunks, none, joined, in_group}
use Rattle.chw_meaning.specs.Values.{body_at, fields_from}
use Rattle.carrying.specs.DataLaws.{Taken}
use Rattle.carrying.specs.TermLaws.{onto, under_lambdas, each_closed}
use Rattle.netlist.specs.declared.net.Module.{Module}
use Rattle.netlist.specs.declared.net.Net.{Net}
use Rattle.net_built.specs.Bodies.{BlockBuilt, GroupBuilt, BodyBuilt}
use Rattle.net_built.specs.Built.{Built, ground_of}
use Rattle.net_built.specs.Circuits.{Ground, IsLifted, place_in}
use Rattle.net_built.specs.Data.{HasParts, HaveWidths, tested_of, field_cuts, variables_from}
use Rattle.net_built.specs.Terms.{Variable, variable, wires_of_all}
use Rattle.net_built.specs.Wires.{Piece, wire_count, new_wires}
use Rattle.cell_bits.specs.Bearing.{HasCells}
use Rattle.net_means.specs.SideBits.Cases.{IsFirst, FieldsGiven}
use Rattle.net_means.specs.SideBits.Sides.{HasBits}
use Rattle.net_means.specs.CircuitBits.Leaves.{VariableLeaf}
use Rattle.net_means.specs.CircuitBits.Memories.{HasWidths}
use Rattle.net_means.specs.CircuitBits.Uses.{UsedAt, samples}

-- a program, of which each data type has a constructor, with made definitions in normal form, the
-- net that is built of them, and a term for each as a whole
pub record Design : Type 0 where
  pub program : Program
  pub state : List Made
  pub sound : IsSound (setting_at (origins_in program state))
  pub constructors : HaveConstructors program.datas
  pub normal : IsNormal program state
  pub net : Net
  pub built : Built program state net
  pub wholes : ℕ → TermTree
  pub are_wholes : (m : ℕ) (it : Made) → slice_get state m ≡ Some it
      → wholes m ≡ with_origins wholes it.body

-- a block: what it gives, the variables outside it with their thunks, its term, and the wires of
-- its result
pub record Block : Type 0 where
  pub sort : Sort
  pub scope : List Variable
  pub outside : Thunks
  pub term : TermTree
  pub results : List WireId

-- it is built, and the instance has its cells and its wires
pub record HasBlock (d : Design) (path : List ℕ) (b : Block) : Type 0 where
  pub n : ℕ
  pub piece : Piece
  pub built :
      BlockBuilt (ground_of d.program d.built.order) b.sort b.scope n b.term piece b.results
  pub cells : HasCells d.net path piece.cells
  pub widths : HasWidths d.net path n piece.widths

-- inside it stand these bindings, of which the instance has the cells and the wires, and these
-- variables with their thunks, its own before those outside
pub data Inside (d : Design) (path : List ℕ) : Block → Group → List Variable → Thunks → Type 0 where
  inside_variable : {sort : Sort} {scope : List Variable} {γ : Thunks} {x : ℕ}
      {results : List WireId}
      → Inside d path
      (record { sort = sort; scope = scope; outside = γ; term = var x; results = results })
      no_bindings scope γ
  inside_letrec : {sort : Sort} {scope bound : List Variable} {γ : Thunks} {g : Group} {x n : ℕ}
      {p : Piece} {results : List WireId}
      → GroupBuilt (ground_of d.program d.built.order) sort (reverse bound ++ scope) n g p bound
      → HasCells d.net path p.cells → HasWidths d.net path n p.widths
      → Inside d path
      (record {
        sort = sort;
        scope = scope;
        outside = γ;
        term = letrec g (var x);
        results = results;
      })
      g (reverse bound ++ scope) (in_group (with_origins_group d.wholes g) γ no_types)

-- parameters of these types, on wires from this number on, before some variables
pub data Parameters (datas : List Data) (sort : Sort)
    : ℕ → List TypeTree → List Variable → List Variable → Type 0 where
  no_parameter : {n : ℕ} {scope : List Variable} → Parameters datas sort n [] scope scope
  parameter_and : {n : ℕ} {t : TypeTree} {ts : List TypeTree} {widths : List ℕ}
      {scope all : List Variable}
      → HasParts datas sort t widths
      → Parameters datas sort (n + wire_count widths) ts
      (variable t (new_wires n widths) ∷ scope) all
      → Parameters datas sort n (t ∷ ts) scope all

-- a term that is no lambda
abbrev pub NoLambda : TermTree → Type 0
NoLambda (lam t e) = ⊥
NoLambda _ = Unit {0}

-- the body of a function of these parameters is its block, with them in scope
abbrev pub BodiesAreBlocks : Type 0
BodiesAreBlocks =
    (ground : Ground) (sort : Sort) (scope : List Variable) (n : ℕ) (params : List TypeTree)
    (e : TermTree) (inputs : List ℕ) (p : Piece) (outputs : List WireId) → NoLambda e
    → BodyBuilt ground sort scope n (under_lambdas params e) inputs p outputs
    → (all : List Variable) × (m : ℕ) × Parameters ground.datas sort n params scope all
    × BlockBuilt ground sort all m e p outputs

mutual
  -- at the history the instance at this path is of this made definition, in this environment: the
  -- thunks of its parameters before those where it is used
  pub data InstanceAt (d : Design) (inputs : List Thunk)
      : List ℕ → History → ℕ → Thunks → Type 0 where
    the_top : {h : History} → InstanceAt d inputs [] h zero (onto inputs none)
    a_call : {path : List ℕ} {h : History} {b : Block} {g : Group} {scope : List Variable}
        {γ : Thunks} {m : ℕ} {drives : List WireId} {inner : Module}
        (i : ℕ) (xs : List ℕ)
        → BlockAt d inputs path h b → Inside d path b g scope γ
        → body_at g i ≡ Some (on_names (made m) [] xs)
        → slice_get d.net.modules (place_in d.built.order m) ≡ Some inner
        → (at : UsedAt d.net path (wires_of_all scope (map (λ x. var x) xs)) drives inner)
        → InstanceAt d inputs (at.place ∷ path) h m
        (onto (each_closed (map (λ x. var x) xs) γ no_types) γ)
    a_lift : {path : List ℕ} {h : History} {b : Block} {g : Group} {scope : List Variable}
        {γ : Thunks} {m : ℕ} {e : TermTree} {drives : List WireId}
        {inner : Module} (i : ℕ) (xs : List ℕ)
        → BlockAt d inputs path h b → Inside d path b g scope γ
        → body_at g i ≡ Some e → IsLifted m e (map (λ x. var x) xs)
        → slice_get d.net.modules (place_in d.built.order m) ≡ Some inner
        → (at : UsedAt d.net path (wires_of_all scope (map (λ x. var x) xs)) drives inner)
        → InstanceAt d inputs (at.place ∷ path) h m
        (onto (samples (each_closed (map (λ x. var x) xs) γ no_types) h) γ)

  -- at the history this block stands in the instance at this path: that of its body, or of an
  -- alternative that is taken
  pub data BlockAt (d : Design) (inputs : List Thunk)
      : List ℕ → History → Block → Type 0 where
    the_body : {path : List ℕ} {h : History} {m : ℕ} {γ : Thunks} {it : Made}
        {params : List TypeTree} {e : TermTree} {scope : List Variable} {results : List WireId}
        → InstanceAt d inputs path h m γ → slice_get d.state m ≡ Some it
        → it.body ≡ under_lambdas params e
        → Parameters d.program.datas it.sort zero params [] scope
        → HasBlock d path
        (record { sort = it.sort; scope = scope; outside = γ; term = e; results = results })
        → BlockAt d inputs path h
        (record { sort = it.sort; scope = scope; outside = γ; term = e; results = results })
    an_alternative : {path : List ℕ} {h : History} {b : Block} {g : Group}
        {scope : List Variable} {γ ths : Thunks} {x k n m : ℕ} {alts : Alts} {a : Taken}
        {fields : List TypeTree} {widths : List ℕ} {results : List WireId}
        (i : ℕ)
        → BlockAt d inputs path h b → Inside d path b g scope γ
        → body_at g i ≡ Some (case_of (var x) alts)
        → (f : FieldsGiven d.program γ d.net path h x n m a.pattern fields widths ths)
        → slice_get scope x ≡ Some f.it → IsFirst d.program.datas f.bits alts k a
        → HasBlock d path
        (record {
          sort = Value;
          scope = reverse (variables_from m fields widths) ++ scope;
          outside = joined ths γ;
          term = a.body;
          results = results;
        })
        → BlockAt d inputs path h
        (record {
          sort = Value;
          scope = reverse (variables_from m fields widths) ++ scope;
          outside = joined ths γ;
          term = a.body;
          results = results;
        })
    -- an alternative that is taken without a look at the case's variable, which needn't have bits
    unseen_alternative : {path : List ℕ} {h : History} {b : Block} {g : Group}
        {scope : List Variable} {γ : Thunks} {x whole : ℕ} {q : Pattern} {e : TermTree}
        {more : Alts} {it : Variable} {fields : List TypeTree} {results : List WireId}
        (i n m : ℕ) (widths : List ℕ)
        → BlockAt d inputs path h b → Inside d path b g scope γ
        → body_at g i ≡ Some (case_of (var x) (alt q e more))
        → ¬ (choice d.program.datas (alt q e more) ≡ looks)
        → slice_get scope x ≡ Some it → HasWidth d.program.datas it.ty whole
        → PatternOf d.program.datas it.ty q fields → HaveWidths d.program.datas fields widths
        → HasCells d.net path
        (field_cuts (whole - (tested_of d.program.datas it.ty whole n it.wires).bits) it.wires
        widths m).cells
        → HasBlock d path
        (record {
          sort = Value;
          scope = reverse (variables_from m fields widths) ++ scope;
          outside = joined (fields_from zero (length fields) (closed (var x) γ no_types) none) γ;
          term = e;
          results = results;
        })
        → BlockAt d inputs path h
        (record {
          sort = Value;
          scope = reverse (variables_from m fields widths) ++ scope;
          outside = joined (fields_from zero (length fields) (closed (var x) γ no_types) none) γ;
          term = e;
          results = results;
        })

-- each of these variables has bits at the history: of a value, on its thunk at every history; of a
-- circuit, at each of its leaves
abbrev pub HaveBits : Design → Sort → List ℕ → History → List Variable → Thunks → Type 0
HaveBits d Value path h scope γ =
    (x : ℕ) (it : Variable) → slice_get scope x ≡ Some it
    → HasBits d.program d.net path h γ x it
HaveBits d Circuit path h scope γ =
    (x k : ℕ) (it : Variable) (widths : List ℕ) → slice_get scope x ≡ Some it
    → HasParts d.program.datas Circuit it.ty widths → k < length widths
    → VariableLeaf d.program d.net path scope γ h x k
