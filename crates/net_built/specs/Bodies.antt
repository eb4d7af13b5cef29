-- The cells of blocks and of their right sides. A right side may name bindings that stand behind
-- it: so a block is built with its own variables in scope, of which all wires are given at once.
use Rattle.std.specs.Prelude.{◌≡◌, ℕ, ◌+◌, ◌-◌, Bool, List, [], ◌∷◌, ◌++◌, map, reverse, Some}
use Rattle.std.specs.Prelude.{slice_get, slice_index_or, slice_index, length}
use Rattle.chw_base.specs.declared.index.WireId.{WireId}
use Rattle.chw_types.specs.declared.kind.Scalar.{Scalar}
use Rattle.chw_types.specs.Arguments.{arguments}
use Rattle.chw_types.specs.TypeTree.{TypeTree}
use Rattle.chw_types.specs.TypeView.{trees_of}
use Rattle.chw_prims.specs.declared.prim.Primitive.{Primitive as Prim}
use Rattle.chw_prims.specs.declared.prim.Primitive.TheVariants.{VGet, VAt}
use Rattle.chw_terms.specs.declared.scene.Sort.{Sort}
use Rattle.chw_terms.specs.declared.scene.Sort.TheVariants.{Value, Circuit}
use Rattle.chw_terms.specs.declared.term.Pattern.{Pattern}
use Rattle.chw_terms.specs.Constructors.{Constructor, con_at}
use Rattle.chw_terms.specs.TermTree.{TermTree, var, made, lam, letrec, con, prim, lit, vec_lit}
use Rattle.chw_terms.specs.TermTree.{case_of, Terms, Group, no_bindings, bind, Alts, no_alts, alt}
use Rattle.chw_typing.specs.HeadTypes.{PatternOf}
use Rattle.chw_layout.specs.Encodes.{first_constructor}
use Rattle.chw_layout.specs.Measured.{closed_value, fits, tag_width, HasWidth, MeasuredFields}
use Rattle.netlist.specs.declared.net.Cell.TheVariants.{Const, Join}
use Rattle.rewriting.specs.Spots.{IsOnWords}
use Rattle.net_built.specs.Circuits.{Ground, CircuitCells, used}
use Rattle.net_built.specs.Data.{HaveWidths, HasParts, constructed, field_cuts, Tested, tested_of}
use Rattle.net_built.specs.Data.{variables_from, case_cells, case_wires}
use Rattle.net_built.specs.Terms.{head_of, types_of, operands_of, list_of, Variable, variable}
use Rattle.net_built.specs.Terms.{wires_at, wires_of, wires_of_all}
use Rattle.net_built.specs.Vectors.{element, element_at}
use Rattle.net_built.specs.Wires.{wire, new_wires, wire_count, present, Piece, nothing, one, ◌▸◌}
use Rattle.net_built.specs.Wires.{after, last_wires, copies}
use Rattle.net_built.specs.Words.{word_cells}

-- the wires of the operand of this number
abbrev pub operand_at : List Variable → List TermTree → ℕ → List WireId
operand_at scope es i = wires_of scope (slice_index_or es i (var 0))

-- with these variables in scope, from wire n on, a right side of values of so many bits, that is
-- this head on types and operands, has these cells
pub data ValueCells (ground : Ground) (scope : List Variable) (n w : ℕ)
    : TermTree → List TypeTree → List TermTree → Piece → Type 0 where
  value_variable : {x : ℕ}
      → ValueCells ground scope n w (var x) [] [] (copies n (wires_at scope x) (w ∷ []))
  value_literal : {s : Scalar} {bits : List Bool}
      → ValueCells ground scope n w (lit s bits) [] [] (one w (Const (wire n) bits))
  value_constructor : {c fields : ℕ} {types : List TypeTree} {es : List TermTree}
      {it : Constructor}
      → con_at ground.datas c ≡ Some it
      → MeasuredFields ground.datas it.decl.fields (arguments (trees_of types)) (fits fields)
      → ValueCells ground scope n w (con c) types es
      (constructed (tag_width (length it.it.cons)) (c - first_constructor ground.datas it.of)
      fields w n (wires_of_all scope es))
  value_vector : {t : TypeTree} {es : Terms}
      → ValueCells ground scope n w (vec_lit t es) [] []
      (one w (Join (wire n) (wires_of_all scope (list_of es))))
  value_primitive : {p : Prim} {types : List TypeTree} {es : List TermTree}
      → IsOnWords p
      → ValueCells ground scope n w (prim p) types es
      (word_cells p (slice_index (map closed_value types) 0)
      (slice_index (map closed_value types) 1) n (operand_at scope es 0) (operand_at scope es 1))
  value_element : {i m a : TypeTree} {v : TermTree}
      → ValueCells ground scope n w (prim VGet) (i ∷ m ∷ a ∷ []) (v ∷ [])
      (element w (closed_value m) n (wires_of scope v))
  value_element_at : {m k a : TypeTree} {v i : TermTree}
      → ValueCells ground scope n w (prim VAt) (m ∷ k ∷ a ∷ []) (v ∷ i ∷ [])
      (element_at w (closed_value m) (closed_value k) n (wires_of scope v) (wires_of scope i))
  value_call : {m : ℕ} {es : List TermTree}
      → ValueCells ground scope n w (made m) [] es
      (used ground m n (wires_of_all scope es) (w ∷ []))

mutual
  -- with these variables in scope, from wire n on, the block has these cells, and its result these
  -- wires
  pub data BlockBuilt (ground : Ground)
      : Sort → List Variable → ℕ → TermTree → Piece → List WireId → Type 0 where
    block_variable : {sort : Sort} {scope : List Variable} {n x : ℕ}
        → BlockBuilt ground sort scope n (var x) nothing (wires_at scope x)
    block_letrec : {sort : Sort} {scope : List Variable} {n x : ℕ} {g : Group} {p : Piece}
        (bound : List Variable)
        → GroupBuilt ground sort (reverse bound ++ scope) n g p bound
        → BlockBuilt ground sort scope n (letrec g (var x)) p
        (wires_at (reverse bound ++ scope) x)

  -- the bindings have these cells one after the other, and are these variables
  pub data GroupBuilt (ground : Ground)
      : Sort → List Variable → ℕ → Group → Piece → List Variable → Type 0 where
    group_none : {sort : Sort} {scope : List Variable} {n : ℕ}
        → GroupBuilt ground sort scope n no_bindings nothing []
    group_and : {sort : Sort} {scope bound : List Variable} {n : ℕ} {t : TypeTree} {e : TermTree}
        {g : Group} {p q : Piece} {wires : List WireId}
        → SideBuilt ground sort scope n t e p wires
        → GroupBuilt ground sort scope (after n p) g q bound
        → GroupBuilt ground sort scope n (bind t e g) (p ▸ q) (variable t wires ∷ bound)

  -- the right side of a binding of this type has these cells, and its result these wires
  pub data SideBuilt (ground : Ground)
      : Sort → List Variable → ℕ → TypeTree → TermTree → Piece → List WireId → Type 0 where
    side_of_value : {scope : List Variable} {n w : ℕ} {t : TypeTree} {e : TermTree} {p : Piece}
        → HasWidth ground.datas t w
        → ValueCells ground scope n w (head_of e) (types_of e) (operands_of e) p
        → SideBuilt ground Value scope n t e p (last_wires n p (w ∷ []))
    side_of_circuit : {scope : List Variable} {n : ℕ} {t : TypeTree} {e : TermTree} {p : Piece}
        {widths : List ℕ}
        → HasParts ground.datas Circuit t widths
        → CircuitCells ground scope n widths (head_of e) (types_of e) (operands_of e) p
        → SideBuilt ground Circuit scope n t e p (last_wires n p widths)
    side_of_case : {scope : List Variable} {n x whole w : ℕ} {t : TypeTree} {alts : Alts}
        {it : Variable} {p : Piece} {results : List (List WireId)} (on : Tested)
        → slice_get scope x ≡ Some it → HasWidth ground.datas it.ty whole
        → HasWidth ground.datas t w
        → on ≡ tested_of ground.datas it.ty whole n it.wires
        → AltsBuilt ground scope it (whole - on.bits) (after n on.cells) alts p results
        → SideBuilt ground Value scope n t (case_of (var x) alts)
        (case_cells on alts w n p results) (case_wires on alts w n p results)

  -- alternatives on a variable, with so many bits below what is tested: for each the fields and the
  -- block; these are the wires of the results
  pub data AltsBuilt (ground : Ground)
      : List Variable → Variable → ℕ → ℕ → Alts → Piece → List (List WireId) → Type 0 where
    alts_none : {scope : List Variable} {it : Variable} {below n : ℕ}
        → AltsBuilt ground scope it below n no_alts nothing []
    alts_and : {scope : List Variable} {it : Variable} {below n : ℕ} {q : Pattern} {e : TermTree}
        {more : Alts} {fields : List TypeTree} {p r s : Piece} {wires : List WireId}
        {results : List (List WireId)} (widths : List ℕ)
        → PatternOf ground.datas it.ty q fields → HaveWidths ground.datas fields widths
        → p ≡ field_cuts below it.wires widths n
        → BlockBuilt ground Value (reverse (variables_from n fields widths) ++ scope) (after n p)
        e r wires
        → AltsBuilt ground scope it below (after (after n p) r) more s results
        → AltsBuilt ground scope it below n (alt q e more) (p ▸ r ▸ s) (wires ∷ results)

-- with these variables in scope, from wire n on, the body has inputs of these widths, which are its
-- lambdas' variables, these cells, and outputs on these wires
pub data BodyBuilt (ground : Ground) (sort : Sort)
    : List Variable → ℕ → TermTree → List ℕ → Piece → List WireId → Type 0 where
  body_lambda : {scope : List Variable} {n : ℕ} {t : TypeTree} {e : TermTree}
      {widths inputs : List ℕ} {p : Piece} {outputs : List WireId}
      → HasParts ground.datas sort t widths
      → BodyBuilt ground sort (variable t (new_wires n widths) ∷ scope) (n + wire_count widths) e
      inputs p outputs
      → BodyBuilt ground sort scope n (lam t e) (present widths ++ inputs) p outputs
  body_block : {scope : List Variable} {n : ℕ} {e : TermTree} {p : Piece} {outputs : List WireId}
      → BlockBuilt ground sort scope n e p outputs
      → BodyBuilt ground sort scope n e [] p outputs
