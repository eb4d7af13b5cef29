-- Products and projections in circuits have bits at their leaves.
use Rattle.std.proofs.Common.{List, Some, [], ap, arith, length, length-append, refl, subst, suc, sym, zero, ℕ, ◌+◌, ◌-◌, ◌<◌, ◌∙◌, ◌∷◌, ◌≡◌}
use Rattle.std.specs.Prelude.{slice_get}
use Rattle.chw_typing.specs.HeadTypes.{PatternOf, of_con, fields_at}
use Rattle.net_grounds.specs.Facts.{Facts}
use Rattle.net_means.proofs.Lists.{found_in_map, same_some}
use Rattle.net_means.proofs.CircuitBits.FieldWires.{in_turn, parts_in_turn}
use Rattle.net_means.proofs.CircuitBits.Products.{port_asks, product_typed}
use Rattle.net_means.proofs.CircuitBits.Projections.{name_at}
use Rattle.net_means.proofs.NetFits.Ports.{con_leaves, parts_at}
use Rattle.net_built.specs.Circuits.{Ground, CircuitCells, HaveParts, of_projection}
use Rattle.net_means.specs.WireOrder.Awaits.{AllSettle}
use Rattle.chw_typing.specs.Given.{AreGiven}
use Rattle.chw_typing.specs.Typing.{Binds, HasType, HasTypeUpTo, h_case}
use Rattle.net_means.specs.CircuitBits.Instances.{Block}
use Rattle.chw_terms.specs.declared.scene.Sort.TheVariants.{Circuit}
use Rattle.net_means.proofs.NetBits.CircuitBase.{CircuitIn, circuit_side_of, given_of, names_spine_whole}
use Rattle.chw_base.specs.declared.index.ConId.{ConId}
use Rattle.chw_terms.specs.Constructors.{Constructor, con_at}
use Rattle.chw_types.specs.declared.declarations.Data.{Data}
use Rattle.chw_terms.specs.TermTree.{Group, TermTree, alt, case_of, con, no_alts, var}
use Rattle.chw_typing.specs.Scopes.{HasKind, Setting, with_more}
use Rattle.net_built.specs.Data.{HasParts, port_parts}
use Rattle.chw_types.specs.declared.kind.Kind.{Kind}
use Rattle.net_means.proofs.NetBits.Context.{Known, Situation}
use Rattle.net_means.specs.CircuitBits.Leaves.{LeafHas, leaves_before, part_wires}
use Rattle.chw_terms.specs.declared.term.Pattern.TheVariants.{OfCon}
use Rattle.chw_terms.specs.declared.term.Pattern.{Pattern}
use Rattle.net_built.specs.Wires.{Piece, last_wires}
use Rattle.net_means.proofs.NetBits.Below.{Ranks, settled_ranks}
use Rattle.chw_types.specs.SameTypes.{SameTypes}
use Rattle.chw_meaning.specs.Values.{Thunks, closed}
use Rattle.chw_types.specs.TypeTree.{TypeTree, data_of, no_types}
use Rattle.net_built.specs.Terms.{Variable}
use Rattle.chw_base.specs.declared.index.WireId.{WireId}
use Rattle.net_means.proofs.NetFits.Calls.{any_kept}
use Rattle.net_means.proofs.NetFits.Scopes.{bound_fields, var_at}
use Rattle.net_means.proofs.NetBits.Operands.{call_parts, typed_name}
use Rattle.net_means.proofs.WireOrder.Looks.{looked}
use Rattle.net_means.proofs.SideBits.Heads.{names}
use Rattle.normal_forms.specs.Values.{on_names}
use Rattle.net_means.proofs.NetBits.Forms.{origins, setting}
use Rattle.chw_types.specs.TypeView.{trees_of}
use Rattle.net_means.specs.SideBits.Sides.{types_in}
use Rattle.rewriting.specs.Origins.{with_origins}

-- the field of these parts
field_at : (datas : List Data) (ts : List TypeTree) (parts : List (List ℕ)) (i : ℕ) (own : List ℕ) → HaveParts datas ts parts → slice_get parts i ≡ Some own → (f : TypeTree) × (slice_get ts i ≡ Some f) × HasParts datas Circuit f own
field_at datas [] [] i own have e = absurd cc
field_at datas [] (ws ∷ parts) i own have e = absurd have
field_at datas (t ∷ ts) [] i own have e = absurd have
field_at datas (t ∷ ts) (ws ∷ parts) zero own have e = let is : ws ≡ own = cc in (t, refl, subst (λ ws. HasParts datas Circuit t ws) is have.0)
field_at datas (t ∷ ts) (ws ∷ parts) (suc i) own have e = field_at datas ts parts i own have.1 e

-- and the operand that is given for it
operand_given : (s : Setting) (vars ts : List TypeTree) (xs : List ℕ) (i : ℕ) (f : TypeTree) → AreGiven s [] vars ts (names xs) → slice_get ts i ≡ Some f → (x : ℕ) × (slice_get xs i ≡ Some x) × HasTypeUpTo s [] vars (var x) f
operand_given s vars [] xs i f given e = absurd cc
operand_given s vars (t ∷ ts) [] i f given e = absurd given
operand_given s vars (t ∷ ts) (x ∷ xs) zero f given e = let is : t ≡ f = cc in (x, refl, subst (λ f. HasTypeUpTo s [] vars (var x) f) is given.0)
operand_given s vars (t ∷ ts) (x ∷ xs) (suc i) f given e = operand_given s vars ts xs i f given.1 e

-- the parts of a variable are those of its fields in turn
whole_turn : Facts → {datas : List Data} {u : TypeTree} {c : ConId} {n : ℕ} {fields : List TypeTree} (ws : List ℕ) (parts : List (List ℕ)) → PatternOf datas u (OfCon c n) fields → HasParts datas Circuit u ws → HaveParts datas fields parts → ws ≡ in_turn parts
whole_turn facts {datas} ws parts (of_con {d = d} {c = c} {ts = ts} it known of count) (port_parts leaves have) fields = parts_in_turn facts (con_leaves facts datas c.number d it known of leaves) ws parts have fields

turn_within : (parts : List (List ℕ)) (i j : ℕ) (own : List ℕ) → slice_get parts i ≡ Some own → j < length own → leaves_before i parts + j < length (in_turn parts)
turn_within [] i j own e l = absurd cc
turn_within (ws ∷ parts) zero j own e l =
    let size : length ws ≡ length own = ap (λ (ws : List ℕ). length ws) (same_some refl e) in
    let long = length-append ws (in_turn parts) in
    omega (arith, size, long, l)
turn_within (ws ∷ parts) (suc i) j own e l = let rest = turn_within parts i j own e l in let long = length-append ws (in_turn parts) in omega (arith, rest, long)

-- a typed case with one alternative
record OneCase (s : Setting) (vars : List TypeTree) (x : ℕ) (q : Pattern) (e : TermTree) (t : TypeTree) : Type 0 where
  of : TypeTree
  is : slice_get vars x ≡ Some of
  kind : Kind
  has : HasKind s [] of kind
  bnd : List TypeTree
  binding : Binds s [] of q bnd
  typed : HasType s [] (with_more bnd vars) e t

one_case : {s : Setting} {vars : List TypeTree} {x : ℕ} {q : Pattern} {e : TermTree} {t : TypeTree} → HasType s [] vars (case_of (var x) (alt q e no_alts)) t → OneCase s vars x q e t
one_case (h_case {bound = bnd} {u = u} {j = j} of looked kind b typed of_kind functions more hidden) = record { of = u; is = var_at of; kind = j; has = kind; bnd = bnd; binding = b; typed = typed }

-- what the cells of a projection are of
record Projected (datas : List Data) (scope : List Variable) (x count : ℕ) (c : ConId) : Type 0 where
  it : Variable
  fields : List TypeTree
  parts : List (List ℕ)
  place : slice_get scope x ≡ Some it
  pattern : PatternOf datas it.ty (OfCon c count) fields
  have : HaveParts datas fields parts

projected_of : {ground : Ground} {scope : List Variable} {n x count z : ℕ} {widths : List ℕ} {c : ConId} {p : Piece} → CircuitCells ground scope n widths (case_of (var x) (alt (OfCon c count) (var z) no_alts)) [] [] p → Projected ground.datas scope x count c
projected_of (of_projection {it = it} {fields = fields} parts place pattern have) = record { it = it; fields = fields; parts = parts; place = place; pattern = pattern; have = have }

module _ (facts : Facts) (s : Situation) (r : ℕ) (known : Known s r) where
  pub product_leaf : (path : List ℕ) (b : Block) (g : Group) (scope : List Variable) (γ : Thunks) (i n c0 : ℕ) (types : List TypeTree) (xs : List ℕ) (con_of : Constructor) (t : TypeTree) (p : Piece) (widths : List ℕ) (k : ℕ) (start : WireId) → con_at s.d.program.datas c0 ≡ Some con_of → CircuitIn s path b g scope γ i n t (on_names (con c0) types xs) p widths → k < length widths
      → slice_get (part_wires k widths (last_wires n p widths)) 0 ≡ Some start → Ranks s.order path (part_wires k widths (last_wires n p widths)) (suc r) → LeafHas s.d.program s.d.net path s.h t (closed (with_origins s.d.wholes (on_names (con c0) types xs)) γ no_types) (last_wires n p widths) k
  unfolding with_origins
  product_leaf path b g scope γ i n c0 types xs con_of t p widths k start con_known c l first ranks =
      let d = s.d in
      let e : TermTree = on_names (con c0) types xs in
      let side = circuit_side_of s c in
      let asks = port_asks facts c.parts side.typed.type side.typed.same in
      let typed = product_typed facts (setting d) (types_in scope) c0 con_of types xs t side.typed.type d.sound s.laws.keep c.group.scoped con_known side.typed.has side.typed.same asks in
      let at_types = facts.terms.con_at_arguments (setting d) [] (types_in scope) c0 con_of types (names xs) side.typed.type d.sound c.group.scoped con_known typed.on_types typed.on_terms side.typed.has in
      let whole : HasParts d.program.datas Circuit (data_of con_of.of (trees_of types)) widths = any_kept facts s.laws.keep s.laws.measure (setting d) d.sound t (data_of con_of.of (trees_of types)) widths (record { kind = side.kind; has = side.kinded; same = facts.same.same_through side.typed.same (facts.same.same_turned at_types.2) }) c.parts in
      let f = s.laws.parts d.program.datas c0 con_of (trees_of types) widths k con_known whole l in
      let field = field_at d.program.datas (fields_at con_of (trees_of types)) f.parts f.field f.own f.have f.one in
      let operand = operand_given (setting d) (types_in scope) (fields_at con_of (trees_of types)) xs f.field field.0 at_types.1 field.1 in
      let name = typed_name facts d c.group operand.0 field.0 operand.2 in
      let own = call_parts facts s.laws d c.group operand.0 field.0 f.own name field.2 in
      let given = given_of s c in
      let settle = s.laws.products_order (origins d) d.built.order scope d.net path n widths f.own t p c0 types xs f.parts f.field f.leaf operand.0 con_of name.it given con_known f.have operand.1 name.known own.0 f.within in
      let all : AllSettle d.net path (part_wires k widths (last_wires n p widths)) path (part_wires f.leaf f.own name.it.wires) = subst (λ k. AllSettle d.net path (part_wires k widths (last_wires n p widths)) path (part_wires f.leaf f.own name.it.wires)) (sym f.is) settle in
      let leaf = known.leaves path b g scope γ operand.0 f.leaf name.it f.own c.stands c.inside c.circuit name.known own.0 f.within (settled_ranks s.order path path (part_wires k widths (last_wires n p widths)) (part_wires f.leaf f.own name.it.wires) start r all first ranks) in
      let has = s.laws.products c0 types xs f.parts f.field f.leaf (origins d) d.built.order scope γ no_types d.net path s.h n widths t p given
      (record { it = con_of; known = con_known; have = f.have; x = operand.0; is = operand.1; leaf = leaf }) in
      let back : LeafHas d.program d.net path s.h t (closed e γ no_types) (last_wires n p widths) k = subst (λ k. LeafHas d.program d.net path s.h t (closed e γ no_types) (last_wires n p widths) k) (sym f.is) has in
      subst (λ e. LeafHas d.program d.net path s.h t (closed e γ no_types) (last_wires n p widths) k) (sym (names_spine_whole d.wholes (con c0) types xs refl)) back

  pub projection_leaf : (path : List ℕ) (b : Block) (g : Group) (scope : List Variable) (γ : Thunks) (i n x count z : ℕ) (c0 : ConId) (t : TypeTree) (p : Piece) (widths : List ℕ) (k : ℕ) (start : WireId) → z < count → CircuitIn s path b g scope γ i n t (case_of (var x) (alt (OfCon c0 count) (var z) no_alts)) p widths → k < length widths
      → slice_get (part_wires k widths (last_wires n p widths)) 0 ≡ Some start → Ranks s.order path (part_wires k widths (last_wires n p widths)) (suc r) → LeafHas s.d.program s.d.net path s.h t (closed (with_origins s.d.wholes (case_of (var x) (alt (OfCon c0 count) (var z) no_alts))) γ no_types) (last_wires n p widths) k
  unfolding with_origins
  projection_leaf path b g scope γ i n x count z c0 t p widths k start below c l first ranks = of_cells (projected_of c.built)
    where
      of_cells : Projected s.d.program.datas scope x count c0 → LeafHas s.d.program s.d.net path s.h t (closed (case_of (var x) (alt (OfCon c0 count) (var z) no_alts)) γ no_types) (last_wires n p widths) k
      of_cells cut =
          let d = s.d in
          let it : Variable = cut.it in
          let fields : List TypeTree = cut.fields in
          let parts : List (List ℕ) = cut.parts in
          let place = cut.place in
          let pattern = cut.pattern in
          let have = cut.have in
          let side = circuit_side_of s c in
          let one = one_case side.typed.has in
          let j : ℕ = count - 1 - z in
          let number : z + suc j ≡ count = omega (arith, below) in
          let own_type : one.of ≡ it.ty = same_some one.is (found_in_map (λ (v : Variable). v.ty) scope x it place) in
          let fields_same = bound_fields facts (setting d) one.of it.ty (OfCon c0 count) fields one.bnd one.kind d.sound one.has (subst (SameTypes one.of) own_type (facts.same.same_self one.of)) one.binding pattern in
          let names_count : length one.bnd ≡ count = facts.patterns.binds one.binding in
          let named = name_at one.bnd (types_in scope) z j side.typed.type (omega (arith, number, names_count)) (var_at one.typed) in
          let field = facts.scopes.same_at one.bnd fields j side.typed.type fields_same named in
          let part = parts_at d.program.datas fields parts j field.0 have field.1 in
          let kept = any_kept facts s.laws.keep s.laws.measure (setting d) d.sound t field.0 widths (record { kind = side.kind; has = side.kinded; same = facts.same.same_through side.typed.same field.2 }) c.parts in
          let width : part.0 ≡ widths = facts.built.parts_once part.2 kept in
          let own_there : slice_get parts j ≡ Some widths = part.1 ∙ ap (λ ws. Some ws) width in
          let held = c.group.held x it place in
          let turn = whole_turn facts held.0 parts pattern held.1 have in
          let within : leaves_before j parts + k < length held.0 = subst (λ (ws : List ℕ). leaves_before j parts + k < length ws) (sym turn) (turn_within parts j k widths own_there l) in
          let given = given_of s c in
          let settle = s.laws.projections_order (origins d) d.built.order scope d.net path n widths held.0 widths t p c0 count x z j k fields parts it number given place held.1 pattern have own_there l in
          let leaf = known.leaves path b g scope γ x (leaves_before j parts + k) it held.0 c.stands c.inside c.circuit place held.1 within (settled_ranks s.order path path (part_wires k widths (last_wires n p widths)) (part_wires (leaves_before j parts + k) held.0 it.wires) start r settle first ranks) in
          let same_it : it ≡ leaf.it = same_some place leaf.known in
          s.laws.projections c0 count x z j k parts number (origins d) d.built.order scope γ no_types d.net path s.h n widths t p given
          (record { leaf = leaf; fields = fields; pattern = subst (λ (v : Variable). PatternOf d.program.datas v.ty (OfCon c0 count) fields) same_it pattern; have = have; widths = widths; one = own_there; within = l })
