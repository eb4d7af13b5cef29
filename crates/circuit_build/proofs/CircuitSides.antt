-- The cells of right sides of circuits.
use Rattle.std.proofs.Common.{◌≡◌, ◌∙◌, sym, ap, subst, ℕ, ◌-◌, List, [], Result, Ok, Err, IfOk}
use Rattle.chw_base.specs.declared.index.WireId.{WireId}
use Rattle.chw_types.specs.declared.declarations.Data.{Data}
use Rattle.chw_types.specs.TypeTree.{TypeTree}
use Rattle.chw_terms.specs.declared.scene.Sort.TheVariants.{Circuit}
use Rattle.chw_terms.specs.declared.term.Arg.{Arg}
use Rattle.chw_terms.specs.TermTree.{TermTree, var, con}
use Rattle.net_built.specs.Bodies.{SideBuilt, side_of_circuit}
use Rattle.net_built.specs.Circuits.{CircuitCells, of_variable, of_product, Ground}
use Rattle.net_built.specs.Data.{HasParts}
use Rattle.net_built.specs.Terms.{Variable, wires_at, wires_of_all, head_of, types_of, operands_of}
use Rattle.net_built.specs.Wires.{Piece, ◌▸◌, copies, wire_count, wires_from, after}
use Rattle.net_ready.specs.Ready.{CircuitReady}
use Rattle.net_pieces.proofs.Behind.{next_behind}
use Rattle.value_build.specs.Added.{Adds, next}
use Rattle.value_build.specs.Arguments.{terms_in, types_in}
use Rattle.value_build.proofs.Behind.{adds_one}
use Rattle.circuit_build.specs.Views.{side_args, side_head}
use Rattle.circuit_build.specs.declared.views.CircuitSide.{CircuitSide}

pub product_made : (ground : Ground) (scope : List Variable) (c : ℕ) (reads : List WireId) (args : List Arg) (widths : List ℕ) (s t : Piece)
    → reads ≡ wires_of_all scope (terms_in args) → t ≡ s ▸ copies (next s) reads widths
    → Adds (CircuitCells ground scope (next s) widths (con c) (types_in args) (terms_in args)) s t
product_made ground scope c reads args widths s t on added =
    adds_one (CircuitCells ground scope (next s) widths (con c) (types_in args) (terms_in args)) s t (copies (next s) (wires_of_all scope (terms_in args)) widths)
    (added ∙ ap (λ ws. s ▸ copies (next s) ws widths) on) of_product

pub variable_made : (ground : Ground) (scope : List Variable) (x : ℕ) (reads : List WireId) (e : TermTree) (widths : List ℕ) (s t : Piece)
    → var x ≡ e → reads ≡ wires_at scope x → t ≡ s ▸ copies (next s) reads widths
    → Adds (CircuitCells ground scope (next s) widths e [] []) s t
variable_made ground scope x reads e widths s t is on added =
    subst (λ f. Adds (CircuitCells ground scope (next s) widths f [] []) s t) is
    (adds_one (CircuitCells ground scope (next s) widths (var x) [] []) s t (copies (next s) (wires_at scope x) widths)
    (added ∙ ap (λ ws. s ▸ copies (next s) ws widths) on) of_variable)

-- what holds of a right side as it is read holds of the same side
pub ready_as : (datas : List Data) (vars : List TypeTree) (widths : List ℕ) (it read : CircuitSide) → it ≡ read
    → CircuitReady datas vars widths (side_head it) (side_args it) → CircuitReady datas vars widths (side_head read) (side_args read)
ready_as datas vars widths it read is ready = subst (λ k. CircuitReady datas vars widths (side_head k) (side_args k)) is ready

pub cells_as : (ground : Ground) (scope : List Variable) (widths : List ℕ) (it read : CircuitSide) (s t : Piece) → it ≡ read
    → Adds (CircuitCells ground scope (next s) widths (side_head read) (types_in (side_args read)) (terms_in (side_args read))) s t
    → Adds (CircuitCells ground scope (next s) widths (side_head it) (types_in (side_args it)) (terms_in (side_args it))) s t
cells_as ground scope widths it read s t is cells =
    subst (λ k. Adds (CircuitCells ground scope (next s) widths (side_head k) (types_in (side_args k)) (terms_in (side_args k))) s t) (sym is) cells

-- a right side
pub side_made : (ground : Ground) (scope : List Variable) (ty : TypeTree) (e : TermTree) (widths : List ℕ) (wires : List WireId) (s t : Piece)
    → HasParts ground.datas Circuit ty widths
    → wires ≡ wires_from (next t - wire_count widths) (wire_count widths)
    → Adds (CircuitCells ground scope (next s) widths (head_of e) (types_of e) (operands_of e)) s t
    → Adds (λ p. SideBuilt ground Circuit scope (next s) ty e p wires) s t
side_made ground scope ty e widths wires s t parts last cells =
    let p : Piece = cells.piece in
    let at : next t ≡ after (next s) p = next_behind s t p cells.is in
    record {
      piece = p;
      is = cells.is;
      holds = subst (λ ws. SideBuilt ground Circuit scope (next s) ty e p ws)
          (sym (last ∙ ap (λ n. wires_from (n - wire_count widths) (wire_count widths)) at))
          (side_of_circuit parts cells.holds);
    }

-- what holds, holds where there is an answer
pub ok_anyway : {T E : Type 0} (r : Result T E) (P : Type 0) → P → IfOk r (λ _. P)
ok_anyway (Ok x) P h = h
ok_anyway (Err e) P h = tt
