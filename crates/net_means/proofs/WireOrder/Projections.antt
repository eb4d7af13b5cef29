-- Projections: their parts are those of the field, and their wires copy the field's.
use Rattle.std.specs.Prelude.{slice_get, ◌-◌}
use Rattle.std.proofs.Common.{◌≡◌, ◌<◌, ℕ, suc, ◌+◌, List, [], length, Some, refl, sym, ap, ◌∙◌, subst, arith}
use Rattle.std.proofs.lemmas.List.{length-map}
use Rattle.chw_base.specs.declared.index.ConId.{ConId}
use Rattle.chw_types.specs.Arguments.{arguments}
use Rattle.chw_types.specs.declared.kind.Kind.{Kind}
use Rattle.chw_types.specs.SamePromises.{SameValues}
use Rattle.chw_types.specs.SameTypes.{SameTypes}
use Rattle.chw_types.specs.TypeMoves.{sub}
use Rattle.chw_types.specs.TypeTree.{TypeTree, data_of}
use Rattle.type_laws.specs.SameKept.{FieldsKeepSame}
use Rattle.chw_terms.specs.declared.program.Program.{Program}
use Rattle.chw_terms.specs.declared.scene.Sort.TheVariants.{Circuit}
use Rattle.chw_terms.specs.declared.term.Pattern.TheVariants.{OfCon}
use Rattle.chw_typing.specs.HeadTypes.{PatternOf, fields_at}
use Rattle.chw_typing.specs.Programs.{setting_of}
use Rattle.chw_typing.specs.Scopes.{Setting, HasKind, AreSame}
use Rattle.chw_typing.specs.Alike.{AreLike}
use Rattle.rewriting.specs.Origins.{Origins, setting_at}
use Rattle.netlist.specs.declared.net.Net.{Net}
use Rattle.net_built.specs.Circuits.{Ground as Built, CircuitCells, of_projection, HaveParts, field_wires}
use Rattle.net_built.specs.Data.{HasParts, port_parts}
use Rattle.net_built.specs.Terms.{Variable}
use Rattle.net_built.specs.Wires.{Piece, wire_count, last_wires, copies}
use Rattle.net_grounds.specs.Facts.{Facts}
use Rattle.net_means.proofs.Lists.{found_before_map, same_some}
use Rattle.net_means.specs.SideBits.Sides.{ground_of, types_in}
use Rattle.net_means.proofs.SideBits.Operands.{sound_alone}
use Rattle.net_means.specs.CircuitBits.Leaves.{CircuitGiven, part_wires, leaves_before}
use Rattle.net_means.proofs.CircuitBits.FieldLeaves.{only_con}
use Rattle.net_means.proofs.CircuitBits.FieldWires.{in_turn, parts_in_turn, field_parts}
use Rattle.net_means.proofs.CircuitBits.Ports.{parts_along}
use Rattle.net_means.proofs.CircuitBits.Projections.{projected, ConPattern, con_pattern, OneCase, one_case, as_many_same, named_field, name_at, projected_wires, data_kinds}
use Rattle.net_means.specs.WireOrder.Awaits.{AllSettle}
use Rattle.net_means.proofs.WireOrder.Circuits.{some_thunk, piece_settles}

-- the cells of a projection
record ProjectionPiece (ground : Built) (scope : List Variable) (n : ℕ) (widths : List ℕ) (c : ConId) (count x z : ℕ) (p : Piece) : Type 0 where
  it : Variable
  known : slice_get scope x ≡ Some it
  fields : List TypeTree
  pattern : PatternOf ground.datas it.ty (OfCon c count) fields
  parts : List (List ℕ)
  have : HaveParts ground.datas fields parts
  is : p ≡ copies n (field_wires (count - 1 - z) parts it.wires) widths

projection_piece : {ground : Built} {scope : List Variable} {n : ℕ} {widths : List ℕ} {c : ConId} {count x z : ℕ} {p : Piece} → CircuitCells ground scope n widths (projected c count x z) [] [] p → ProjectionPiece ground scope n widths c count x z p
projection_piece (of_projection {it = it} {fields = fields} parts known pattern have) = record { it = it; known = known; fields = fields; pattern = pattern; parts = parts; have = have; is = refl }

module _ (facts : Facts) (values : SameValues) (keep : FieldsKeepSame) (o : Origins) (order : List ℕ) (scope : List Variable) (net : Net) (path : List ℕ) (n : ℕ) (widths : List ℕ) (t : TypeTree) (piece : Piece) (c : ConId) (count x z i : ℕ) (fields : List TypeTree) (parts : List (List ℕ)) (it : Variable)
    (place : z + suc i ≡ count) (g : CircuitGiven o order scope net path n widths t (projected c count x z) piece) (known : slice_get scope x ≡ Some it) (pattern_of : PatternOf o.program.datas it.ty (OfCon c count) fields) (have_fields : HaveParts o.program.datas fields parts) where
  abbrev p : Program
  p = o.program

  abbrev s : Setting
  s = setting_at o

  pattern : ConPattern p.datas it.ty c count fields
  pattern = con_pattern pattern_of

  one : OneCase s (types_in scope) x c count z g.typed.type
  one = one_case g.typed.has

  own : it.ty ≡ one.of
  own = let v = found_before_map (λ (v : Variable). v.ty) scope x one.of one.is in let same : v.0 ≡ it = same_some v.1 known in ap (λ (v : Variable). v.ty) (sym same) ∙ v.2

  fields_are : one.fields ≡ fields_at pattern.it pattern.ts
  fields_are = facts.patterns.pattern_once one.pattern (subst (λ u. PatternOf p.datas u (OfCon c count) fields) own pattern_of) ∙ pattern.are

  many : length (fields_at pattern.it pattern.ts) ≡ count
  many = length-map pattern.it.decl.fields (λ f. sub f (arguments pattern.ts)) ∙ pattern.many

  named : (u : TypeTree) × (slice_get (fields_at pattern.it pattern.ts) i ≡ Some u) × SameTypes u g.typed.type
  named =
      let same : AreSame (fields_at pattern.it pattern.ts) one.names = subst (λ fs. AreSame fs one.names) fields_are one.same in
      let counted = as_many_same (fields_at pattern.it pattern.ts) one.names same in
      named_field (fields_at pattern.it pattern.ts) one.names i g.typed.type same (name_at one.names (types_in scope) z i g.typed.type (omega (arith, place, counted, many)) one.named)

  field_type : (u : TypeTree) × (slice_get pattern.it.decl.fields i ≡ Some u) × (sub u (arguments pattern.ts) ≡ named.0)
  field_type = found_before_map (λ f. sub f (arguments pattern.ts)) pattern.it.decl.fields i named.0 named.1

  kinded : (k : Kind) × HasKind s [] (sub field_type.0 (arguments pattern.ts)) k
  kinded =
      let at = facts.constructors.is_constructor p.datas c.number pattern.it pattern.known in
      let whole : HasKind s [] (data_of pattern.it.of pattern.ts) one.kind = subst (λ t. HasKind s [] t one.kind) (sym own ∙ pattern.is) one.has in
      let k = facts.kinds.field_kind s g.sound pattern.it.of pattern.it.it pattern.ts field_type.0 at.data_type (record { con = at.place; of = pattern.it.decl; is_con = at.decl; at = i; is_field = field_type.1 }) (data_kinds s at.data_type whole) in
      (k.0, k.2)

  like : AreLike (setting_of p) named.0 t
  like = record { kind = kinded.0; has = subst (λ u. HasKind s [] u kinded.0) field_type.2 kinded.1; same = facts.same.same_through named.2 (facts.same.same_turned g.typed.same) }

  have : HaveParts p.datas (fields_at pattern.it pattern.ts) parts
  have = subst (λ fs. HaveParts p.datas fs parts) pattern.are have_fields

  -- the parts of a projection are those of the field
  pub projection_parts : slice_get parts i ≡ Some widths
  projection_parts =
      let part = field_parts p.datas (fields_at pattern.it pattern.ts) parts i named.0 have named.1 in
      let same : part.0 ≡ widths = facts.built.parts_once (parts_along facts p [] (sound_alone o g.sound) values keep some_thunk part.2 like) g.parts in
      part.1 ∙ ap (λ ws. Some ws) same

  pub projection_settles : (whole one_part : List ℕ) (j : ℕ) → HasParts p.datas Circuit it.ty whole → slice_get parts i ≡ Some one_part → j < length one_part
      → AllSettle net path (part_wires j widths (last_wires n piece widths)) path (part_wires (leaves_before i parts + j) whole it.wires)
  projection_settles whole one_part j has_whole at within = of_port (subst (λ t. HasParts p.datas Circuit t whole) pattern.is has_whole)
    where
      of_port : HasParts p.datas Circuit (data_of pattern.it.of pattern.ts) whole → AllSettle net path (part_wires j widths (last_wires n piece widths)) path (part_wires (leaves_before i parts + j) whole it.wires)
      of_port (port_parts {leaves = ls} leaves has) =
          let one_con = only_con facts p.datas c.number pattern.it pattern.known leaves in
          let turn : whole ≡ in_turn parts = parts_in_turn facts one_con.leaves whole parts has have in
          let held = g.held x it known in
          let same_held : held.0 ≡ in_turn parts = facts.built.parts_once held.1 has_whole ∙ turn in
          let counted : length it.wires ≡ wire_count (in_turn parts) = held.2 ∙ ap (λ ws. wire_count ws) same_held in
          let width : one_part ≡ widths = same_some at projection_parts in
          let long : j < length widths = subst (λ (ws : List ℕ). j < length ws) width within in
          let these : part_wires (leaves_before i parts + j) (in_turn parts) it.wires ≡ part_wires j widths (field_wires i parts it.wires) = projected_wires parts i j widths it.wires projection_parts long counted in
          let q : ProjectionPiece (ground_of p order) scope n widths c count x z piece = projection_piece g.built in
          let same : q.it ≡ it = same_some q.known known in
          let types : q.fields ≡ fields = facts.patterns.pattern_once (subst (λ (v : Variable). PatternOf p.datas v.ty (OfCon c count) q.fields) same q.pattern) pattern_of in
          let all : q.parts ≡ parts = facts.built.all_parts_once p.datas fields q.parts parts (subst (λ fs. HaveParts p.datas fs q.parts) types q.have) have_fields in
          let number : count - 1 - z ≡ i = omega (arith, place) in
          let wires_are : field_wires (count - 1 - z) q.parts q.it.wires ≡ field_wires i parts it.wires = λ k. field_wires (number k) (all k) ((same k).wires) in
          let is : piece ≡ copies n (field_wires i parts it.wires) widths = q.is ∙ ap (λ ws. copies n ws widths) wires_are in
          piece_settles net path j n widths piece (field_wires i parts it.wires) (part_wires (leaves_before i parts + j) whole it.wires) is g.cells
          (sym these ∙ ap (λ ws. part_wires (leaves_before i parts + j) ws it.wires) (sym turn))
