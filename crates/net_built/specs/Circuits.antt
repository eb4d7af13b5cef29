-- The cells of right sides of circuits, and of uses.
use Rattle.std.specs.Prelude.{◌≡◌, ℕ, zero, suc, ◌-◌, ◌==◌, Bool, List, [], ◌∷◌, ◌++◌}
use Rattle.std.specs.Prelude.{drop, take, Some, slice_get, if◌then◌else◌}
use Rattle.chw_base.specs.declared.index.ConId.{ConId}
use Rattle.chw_base.specs.declared.index.ModId.{ModId}
use Rattle.chw_base.specs.declared.index.WireId.{WireId}
use Rattle.chw_types.specs.declared.declarations.Data.{Data}
use Rattle.chw_types.specs.TypeTree.{TypeTree, domain}
use Rattle.chw_prims.specs.declared.prim.Primitive.TheVariants.{Fmap, Ap, Pure, Register, BlockRam}
use Rattle.chw_prims.specs.declared.prim.Primitive.TheVariants.{UnsafeSynchronizer}
use Rattle.chw_terms.specs.declared.scene.Sort.TheVariants.{Circuit}
use Rattle.chw_terms.specs.declared.term.Pattern.TheVariants.{OfCon}
use Rattle.chw_terms.specs.TermTree.{TermTree, var, made, app, ty_app, con, prim, case_of}
use Rattle.chw_terms.specs.TermTree.{no_alts, alt}
use Rattle.chw_typing.specs.HeadTypes.{PatternOf}
use Rattle.chw_layout.specs.Measured.{closed_value}
use Rattle.netlist.specs.declared.net.Cell.{Cell}
use Rattle.netlist.specs.declared.net.Cell.TheVariants.{Const, Reg, Use}
use Rattle.net_built.specs.Data.{HasParts}
use Rattle.net_built.specs.Memories.{HasBits, HasWords, memory}
use Rattle.net_built.specs.Terms.{Variable, wires_at, wires_of, wires_of_all}
use Rattle.net_built.specs.Wires.{wire, wire_count, new_wires, present, Piece, one, copies}
use Rattle.net_built.specs.Words.{only}

-- over what bodies are built: the data types, and the made definitions that have modules, in the
-- order of the modules
pub record Ground : Type 0 where
  pub datas : List Data
  pub order : List ℕ

-- the place at which a number first stands
abbrev pub place_in : List ℕ → ℕ → ℕ
place_in [] m = 0
place_in (k ∷ order) m = if k == m then 0 else suc (place_in order m)

-- the module of a made definition
abbrev pub module_of : Ground → ℕ → ModId
module_of ground m = record { number = place_in ground.order m }

-- a use, for parts of these widths; where none has a wire it is left out
abbrev pub use_cells : (at : ℕ) → List ℕ → (List WireId → Cell) → List Cell
use_cells at [] cell = []
use_cells at (zero ∷ widths) cell = use_cells at widths cell
use_cells at (suc w ∷ widths) cell = cell (new_wires at (suc w ∷ widths)) ∷ []

-- a use of a made definition's module on these wires
abbrev pub used : Ground → ℕ → (at : ℕ) → List WireId → List ℕ → Piece
used ground m at reads widths = record {
  widths = present widths;
  cells = use_cells at widths (λ drives. Use (module_of ground m) reads drives);
}

-- a made definition lifted on these operands: `ap (.. (fmap m x1) ..) xn`
pub data IsLifted (m : ℕ) : TermTree → List TermTree → Type 0 where
  lifted_on_one : {d a b : TypeTree} {x : TermTree}
      → IsLifted m (app (app (ty_app (ty_app (ty_app (prim Fmap) d) a) b) (made m)) x) (x ∷ [])
  lifted_on_more : {d a b : TypeTree} {u x : TermTree} {xs : List TermTree}
      → IsLifted m u xs
      → IsLifted m (app (app (ty_app (ty_app (ty_app (prim Ap) d) a) b) u) x) (xs ++ x ∷ [])

-- the fields, which are ports, have parts of these widths
abbrev pub HaveParts : List Data → List TypeTree → List (List ℕ) → Type 0
HaveParts datas [] [] = Unit {0}
HaveParts datas (t ∷ ts) (widths ∷ more) = HasParts datas Circuit t widths × HaveParts datas ts more
HaveParts datas _ _ = ⊥

-- of the wires of fields with these parts those of the field of this number
abbrev pub field_wires : ℕ → List (List ℕ) → List WireId → List WireId
field_wires i [] wires = []
field_wires zero (widths ∷ more) wires = take (wire_count widths) wires
field_wires (suc i) (widths ∷ more) wires = field_wires i more (drop (wire_count widths) wires)

-- with these variables in scope, from wire n on, a right side with parts of these widths, that is
-- this head on types and operands, has these cells
pub data CircuitCells (ground : Ground) (scope : List Variable) (n : ℕ)
    : List ℕ → TermTree → List TypeTree → List TermTree → Piece → Type 0 where
  of_variable : {widths : List ℕ} {x : ℕ}
      → CircuitCells ground scope n widths (var x) [] [] (copies n (wires_at scope x) widths)
  of_synchronizer : {widths : List ℕ} {d e a : TypeTree} {x : TermTree}
      → CircuitCells ground scope n widths (prim UnsafeSynchronizer) (d ∷ e ∷ a ∷ []) (x ∷ [])
      (copies n (wires_of scope x) widths)
  of_pure : {w : ℕ} {d a : TypeTree} {c : TermTree} {bits : List Bool}
      → HasBits ground.datas a c bits
      → CircuitCells ground scope n (w ∷ []) (prim Pure) (d ∷ a ∷ []) (c ∷ [])
      (one w (Const (wire n) bits))
  of_register : {w d : ℕ} {a : TypeTree} {c x : TermTree} {bits : List Bool}
      → HasBits ground.datas a c bits
      → CircuitCells ground scope n (w ∷ []) (prim Register) (domain d ∷ a ∷ []) (c ∷ x ∷ [])
      (one w (Reg (wire n) (record { number = d }) bits (only (wires_of scope x))))
  of_block_ram : {w d : ℕ} {m k a : TypeTree} {c x y : TermTree} {words : List (List Bool)}
      → HasWords ground.datas a c words
      → CircuitCells ground scope n (w ∷ []) (prim BlockRam) (domain d ∷ m ∷ k ∷ a ∷ [])
      (c ∷ x ∷ y ∷ [])
      (memory w (closed_value k) n (record { number = d }) words (wires_of scope x)
      (wires_of scope y))
  of_mapped : {widths : List ℕ} {m : ℕ} {types : List TypeTree} {x : TermTree}
      → CircuitCells ground scope n widths (prim Fmap) types (made m ∷ x ∷ [])
      (used ground m n (wires_of scope x) widths)
  of_lifted : {widths : List ℕ} {m : ℕ} {types : List TypeTree} {u x : TermTree}
      {xs : List TermTree}
      → IsLifted m u xs
      → CircuitCells ground scope n widths (prim Ap) types (u ∷ x ∷ [])
      (used ground m n (wires_of_all scope (xs ++ x ∷ [])) widths)
  of_call : {widths : List ℕ} {m : ℕ} {es : List TermTree}
      → CircuitCells ground scope n widths (made m) [] es
      (used ground m n (wires_of_all scope es) widths)
  -- a product: the wires of its fields
  of_product : {widths : List ℕ} {c : ℕ} {types : List TypeTree} {es : List TermTree}
      → CircuitCells ground scope n widths (con c) types es
      (copies n (wires_of_all scope es) widths)
  of_projection : {widths : List ℕ} {x count z : ℕ} {c : ConId} {it : Variable}
      {fields : List TypeTree} (parts : List (List ℕ))
      → slice_get scope x ≡ Some it → PatternOf ground.datas it.ty (OfCon c count) fields
      → HaveParts ground.datas fields parts
      → CircuitCells ground scope n widths (case_of (var x) (alt (OfCon c count) (var z) no_alts))
      [] [] (copies n (field_wires (count - 1 - z) parts it.wires) widths)
