-- Right sides of circuits that copy wires.
use Rattle.std.specs.Prelude.{slice_get}
use Rattle.std.proofs.Common.{◌≡◌, ◌<◌, ℕ, zero, ◌+◌, List, [], ◌∷◌, length, map, Some, refl, sym, ap, ◌∙◌, subst}
use Rattle.chw_base.specs.declared.index.WireId.{WireId}
use Rattle.chw_types.specs.Arguments.{arguments}
use Rattle.chw_types.specs.SamePromises.{SameValues}
use Rattle.chw_types.specs.TypeMoves.{Substitution, sub}
use Rattle.chw_types.specs.TypeTree.{TypeTree, data_of, signal, no_types}
use Rattle.chw_types.specs.TypeView.{trees_of}
use Rattle.type_laws.specs.SameKept.{FieldsKeepSame}
use Rattle.chw_prims.specs.declared.prim.Primitive.TheVariants.{UnsafeSynchronizer}
use Rattle.chw_terms.specs.Constructors.{Constructor, con_at}
use Rattle.chw_terms.specs.declared.program.Program.{Program}
use Rattle.chw_terms.specs.declared.scene.Sort.TheVariants.{Circuit}
use Rattle.chw_terms.specs.TermTree.{TermTree, var, con, prim}
use Rattle.chw_typing.specs.HeadTypes.{fields_at}
use Rattle.chw_typing.specs.Programs.{setting_of}
use Rattle.chw_typing.specs.Scopes.{Setting}
use Rattle.chw_typing.specs.Alike.{AreLike}
use Rattle.rewriting.specs.Origins.{Origins, setting_at}
use Rattle.normal_forms.specs.Values.{on_names}
use Rattle.chw_meaning.specs.Values.{Thunk, closed, none}
use Rattle.netlist.specs.declared.net.Net.{Net}
use Rattle.net_built.specs.Circuits.{Ground as Built, CircuitCells, of_variable, of_synchronizer, of_product, HaveParts}
use Rattle.net_built.specs.Data.{HasParts, port_parts}
use Rattle.net_built.specs.Terms.{Variable, wires_at, wires_of, wires_of_all}
use Rattle.net_built.specs.Wires.{Piece, last_wires, copies}
use Rattle.cell_bits.specs.Bearing.{HasCells}
use Rattle.net_grounds.specs.Facts.{Facts}
use Rattle.net_means.proofs.Lists.{found_in_map}
use Rattle.net_means.specs.SideBits.Sides.{types_in}
use Rattle.net_means.proofs.SideBits.Heads.{names}
use Rattle.net_means.proofs.SideBits.Operands.{sound_alone}
use Rattle.net_means.specs.CircuitBits.Leaves.{CircuitGiven, part_wires, leaves_before}
use Rattle.net_means.proofs.CircuitBits.Delays.{CrossingTyped, crossing_typed}
use Rattle.net_means.proofs.CircuitBits.FieldLeaves.{only_con}
use Rattle.net_means.proofs.CircuitBits.FieldWires.{in_turn, parts_in_turn, field_parts}
use Rattle.net_means.proofs.CircuitBits.Heads.{circuit_built_at}
use Rattle.net_means.proofs.CircuitBits.Ports.{parts_along}
use Rattle.net_means.proofs.CircuitBits.Products.{port_asks, GivenAt, given_at, fields_wires, have_along, ProductTyped, product_typed}
use Rattle.net_means.proofs.CircuitBits.Signals.{signal_part, operand_like}
use Rattle.net_means.specs.WireOrder.Awaits.{AllSettle}
use Rattle.net_means.proofs.WireOrder.Looks.{wires_there}
use Rattle.net_means.proofs.WireOrder.Parts.{copies_settle}

-- a thunk, for laws on types that ask for one
abbrev pub some_thunk : Thunk
some_thunk = closed (var 0) none no_types

name_piece : {ground : Built} {scope : List Variable} {n x : ℕ} {widths : List ℕ} {p : Piece} → CircuitCells ground scope n widths (var x) [] [] p → p ≡ copies n (wires_at scope x) widths
name_piece of_variable = refl

crossing_piece : {ground : Built} {scope : List Variable} {n : ℕ} {widths : List ℕ} {d e a : TypeTree} {x : TermTree} {p : Piece} → CircuitCells ground scope n widths (prim UnsafeSynchronizer) (d ∷ e ∷ a ∷ []) (x ∷ []) p → p ≡ copies n (wires_of scope x) widths
crossing_piece of_synchronizer = refl

product_piece : {ground : Built} {scope : List Variable} {n c : ℕ} {widths : List ℕ} {types : List TypeTree} {es : List TermTree} {p : Piece} → CircuitCells ground scope n widths (con c) types es p → p ≡ copies n (wires_of_all scope es) widths
product_piece of_product = refl

-- a piece of copies settles part by part
pub piece_settles : (net : Net) (path : List ℕ) (k n : ℕ) (widths : List ℕ) (piece : Piece) (wires others : List WireId) → piece ≡ copies n wires widths → HasCells net path piece.cells → part_wires k widths wires ≡ others → AllSettle net path (part_wires k widths (last_wires n piece widths)) path others
piece_settles net path k n widths piece wires others is has same =
    subst (λ (p : Piece). AllSettle net path (part_wires k widths (last_wires n p widths)) path others) (sym is)
    (subst (λ ws. AllSettle net path (part_wires k widths (last_wires n (copies n wires widths) widths)) path ws) same
    (copies_settle net path k n widths wires (subst (λ (p : Piece). HasCells net path p.cells) is has)))

module _ (facts : Facts) (values : SameValues) (keep : FieldsKeepSame) (o : Origins) (order : List ℕ) (scope : List Variable) (net : Net) (path : List ℕ) (n : ℕ) (widths own : List ℕ) (t : TypeTree) (piece : Piece) where
  pub copy_settles : (x k : ℕ) (it : Variable) → CircuitGiven o order scope net path n widths t (var x) piece → slice_get scope x ≡ Some it → HasParts o.program.datas Circuit it.ty own
      → AllSettle net path (part_wires k widths (last_wires n piece widths)) path (part_wires k own it.wires)
  copy_settles x k it g known parts =
      let p : Program = o.program in
      let like = operand_like facts o scope x it t g.sound g.scoped known g.typed in
      let same : own ≡ widths = facts.built.parts_once (parts_along facts p [] (sound_alone o g.sound) values keep some_thunk parts like) g.parts in
      piece_settles net path k n widths piece (wires_at scope x) (part_wires k own it.wires) (name_piece g.built) g.cells
      (λ i. part_wires k (sym same i) (wires_there scope x it known i))

  pub crossing_settles : (d e a : TypeTree) (x : ℕ) (it : Variable) → CircuitGiven o order scope net path n widths t (on_names (prim UnsafeSynchronizer) (d ∷ e ∷ a ∷ []) (x ∷ [])) piece → slice_get scope x ≡ Some it → HasParts o.program.datas Circuit it.ty own
      → AllSettle net path (part_wires zero widths (last_wires n piece widths)) path (part_wires zero own it.wires)
  crossing_settles d e a x it g known parts =
      let p : Program = o.program in
      let s : Setting = setting_at o in
      let typed : CrossingTyped s (types_in scope) d e a x g.typed.type = crossing_typed facts s (types_in scope) d e a x g.typed.type g.sound g.scoped g.typed.has in
      let like = operand_like facts o scope x it (signal d a) g.sound g.scoped known typed.operand in
      let result : AreLike (setting_of p) t (signal e a) = record { kind = g.kind; has = g.kinded; same = facts.same.same_through g.typed.same (facts.same.same_turned typed.same) } in
      let first = signal_part (parts_along facts p [] (sound_alone o g.sound) values keep some_thunk parts like) in
      let second = signal_part (parts_along facts p [] (sound_alone o g.sound) values keep some_thunk g.parts result) in
      let width : first.0 ≡ second.0 = facts.widths.width_once first.1 second.1 in
      let same : own ≡ widths = first.2 ∙ ap (λ w. w ∷ []) width ∙ sym second.2 in
      let is = crossing_piece (circuit_built_at {f = prim UnsafeSynchronizer} (record { head = refl; types = refl; operands = refl }) (d ∷ e ∷ a ∷ []) (x ∷ []) g.built) in
      piece_settles net path zero n widths piece (wires_at scope x) (part_wires zero own it.wires) is g.cells
      (λ i. part_wires zero (sym same i) (wires_there scope x it known i))

  pub product_settles : (c : ℕ) (types : List TypeTree) (xs : List ℕ) (parts : List (List ℕ)) (i j x : ℕ) (of : Constructor) (it : Variable) → CircuitGiven o order scope net path n widths t (on_names (con c) types xs) piece → con_at o.program.datas c ≡ Some of
      → HaveParts o.program.datas (fields_at of (trees_of types)) parts → slice_get xs i ≡ Some x → slice_get scope x ≡ Some it → HasParts o.program.datas Circuit it.ty own → j < length own
      → AllSettle net path (part_wires (leaves_before i parts + j) widths (last_wires n piece widths)) path (part_wires j own it.wires)
  product_settles c types xs parts i j x of it g known_con have is known parts_own within = of_port (subst (λ t. HasParts p.datas Circuit t widths) typed.is g.parts)
    where
      p : Program
      p = o.program

      s : Setting
      s = setting_at o

      typed : ProductTyped s (types_in scope) c of types xs t
      typed = product_typed facts s (types_in scope) c of types xs t g.typed.type g.sound keep g.scoped known_con g.typed.has g.typed.same (port_asks facts g.parts g.typed.type g.typed.same)

      σ : Substitution
      σ = arguments (trees_of types)

      one : GivenAt s (types_in scope) σ (arguments typed.us) of.decl.fields i x
      one = given_at s (types_in scope) σ (arguments typed.us) of.decl.fields xs i x typed.given typed.like is

      part : (ws : List ℕ) × (slice_get parts i ≡ Some ws) × HasParts p.datas Circuit (sub one.type σ) ws
      part = field_parts p.datas (map (λ f. sub f σ) of.decl.fields) parts i (sub one.type σ) have (found_in_map (λ f. sub f σ) of.decl.fields i one.type one.is)

      same : own ≡ part.0
      same =
          let like = operand_like facts o scope x it (sub one.type σ) g.sound g.scoped known one.typed in
          facts.built.parts_once (parts_along facts p [] (sound_alone o g.sound) values keep some_thunk parts_own like) part.2

      of_port : HasParts p.datas Circuit (data_of of.of typed.us) widths → AllSettle net path (part_wires (leaves_before i parts + j) widths (last_wires n piece widths)) path (part_wires j own it.wires)
      of_port (port_parts {leaves = ls} leaves has) =
          let one_con = only_con facts p.datas c of known_con leaves in
          let turned = have_along facts o g.sound values keep [] some_thunk σ (arguments typed.us) of.decl.fields parts typed.like have in
          let turn : widths ≡ in_turn parts = parts_in_turn facts one_con.leaves widths parts has turned in
          let long : j < length part.0 = subst (λ (ws : List ℕ). j < length ws) same within in
          let these : part_wires (leaves_before i parts + j) (in_turn parts) (wires_of_all scope (names xs)) ≡ part_wires j part.0 (wires_at scope x) =
          fields_wires facts o scope [] some_thunk values keep g.sound g.scoped g.held of.decl.fields σ xs parts i j x part.0 typed.given have is part.1 long in
          let equal : part_wires (leaves_before i parts + j) widths (wires_of_all scope (names xs)) ≡ part_wires j own it.wires =
          ap (λ ws. part_wires (leaves_before i parts + j) ws (wires_of_all scope (names xs))) turn ∙ these ∙ (λ k. part_wires j (sym same k) (wires_there scope x it known k)) in
          piece_settles net path (leaves_before i parts + j) n widths piece (wires_of_all scope (names xs)) (part_wires j own it.wires)
          (product_piece (circuit_built_at {f = con c} (record { head = refl; types = refl; operands = refl }) types xs g.built)) g.cells equal
