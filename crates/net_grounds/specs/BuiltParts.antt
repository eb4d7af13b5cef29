-- What is promised of what is built.
use Rattle.std.specs.Prelude.{Bool, List, [], length, map, true, ℕ, ◌<◌, ◌∷◌, ◌≡◌}
use Rattle.chw_base.specs.declared.index.WireId.{WireId}
use Rattle.chw_terms.specs.TermTree.{Group, TermTree, var}
use Rattle.chw_terms.specs.declared.program.Program.{Program}
use Rattle.chw_terms.specs.declared.scene.Made.{Made}
use Rattle.chw_terms.specs.declared.scene.Sort.{Sort}
use Rattle.chw_types.specs.TypeTree.{TypeTree}
use Rattle.chw_types.specs.declared.declarations.Data.{Data}
use Rattle.chw_typing.specs.Scopes.{declared}
use Rattle.graph_order.specs.References.{HasNoCycle}
use Rattle.net_built.specs.Bodies.{GroupBuilt, ValueCells}
use Rattle.net_built.specs.Circuits.{Ground, HaveParts, IsLifted}
use Rattle.net_built.specs.Data.{HasParts, test_wires}
use Rattle.net_built.specs.InOrder.{DrivesInOrder}
use Rattle.net_built.specs.Laws.{ValuesHaveNoLoops}
use Rattle.net_built.specs.Terms.{Variable, wires_at}
use Rattle.net_built.specs.Wires.{Piece, wire_count}
use Rattle.normal_form.specs.UseOrders.{EachIsWhole}
use Rattle.normal_forms.specs.Normal.{IsNormal}
use Rattle.normal_forms.specs.Uses.{IsAcyclic}

-- facts on what is built
pub record BuiltFacts : Type 0 where
  -- a type has one list of widths of parts
  pub parts_once :
      {datas : List Data} {sort : Sort} {t : TypeTree} {a b : List ℕ}
      → HasParts datas sort t a → HasParts datas sort t b → a ≡ b
  -- so have several types
  pub all_parts_once :
      (datas : List Data) (ts : List TypeTree) (a b : List (List ℕ))
      → HaveParts datas ts a → HaveParts datas ts b → a ≡ b
  -- a body is lifted of one term on one list of operands
  pub lifted_once :
      {m n : ℕ} {u v : TermTree} {xs ys : List TermTree}
      → IsLifted m u xs → IsLifted n v ys → u ≡ v → (m ≡ n) × (xs ≡ ys)
  -- the variables of a group have the types that it declares
  pub bound_types :
      {ground : Ground} {sort : Sort} {s : List Variable} {n : ℕ} {g : Group} {p : Piece}
      {b : List Variable}
      → GroupBuilt ground sort s n g p b → map (λ (v : Variable). v.ty) b ≡ declared g
  -- there are as many wires of tests as words
  pub test_count :
      (k : ℕ) (words : List (List Bool)) (a : List WireId) (at : ℕ)
      → length (test_wires k a words at) ≡ length words
  -- where references have no cycle, items have places, each behind those to which it refers
  pub places :
      (goes : ℕ → ℕ → Bool) (n : ℕ)
      → HasNoCycle (λ i j. goes i j ≡ true)
      → (place : ℕ → ℕ) × ((i j : ℕ) → j < n → goes i j ≡ true → place j < place i)
  -- the cells of a value drive their wires in order
  pub value_ordered :
      {ground : Ground} {scope : List Variable} {n w : ℕ} {h : TermTree} {ts : List TypeTree}
      {es : List TermTree} {p : Piece}
      → ((x : ℕ) → h ≡ var x → length (wires_at scope x) ≡ wire_count (w ∷ []))
      → ValueCells ground scope n w h ts es p → DrivesInOrder n p
  -- values of a normal state have no loops
  pub normal_free : (p : Program) (state : List Made) → IsNormal p state → ValuesHaveNoLoops state
  -- each made definition of a normal state without circles of uses is a whole
  pub each_is_whole :
      (p : Program) (state : List Made)
      → IsNormal p state → IsAcyclic state → EachIsWhole state
