-- The cells of typed circuits drive their wires in order.
use Rattle.std.proofs.Common.{◌≡◌, ℕ, zero, suc, ◌+◌, ◌-◌, arith, List, [], ◌∷◌, ◌++◌, length, reverse, Some, refl, sym, ap, ◌∙◌, subst, length-append}
use Rattle.std.specs.List.{slice_get}
use Rattle.chw_base.specs.declared.index.WireId.{WireId}
use Rattle.chw_base.specs.declared.index.ConId.{ConId}
use Rattle.chw_types.specs.declared.kind.Kind.{Kind}
use Rattle.chw_types.specs.SameTypes.{SameTypes}
use Rattle.chw_types.specs.TypeTree.{TypeTree}
use Rattle.chw_prims.specs.declared.prim.Primitive.TheVariants.{UnsafeSynchronizer}
use Rattle.type_laws.specs.SameKept.{FieldsKeepSame}
use Rattle.chw_terms.specs.declared.scene.Sort.TheVariants.{Circuit}
use Rattle.chw_terms.specs.declared.term.Pattern.TheVariants.{OfCon}
use Rattle.chw_terms.specs.TermTree.{TermTree, var, con, prim, case_of, no_alts, alt, Group}
use Rattle.chw_typing.specs.HeadTypes.{PatternOf}
use Rattle.chw_typing.specs.Programs.{IsSound}
use Rattle.chw_typing.specs.Scopes.{Setting, HasKind, AreTermTypes, AreSame, with_more, declared}
use Rattle.chw_typing.specs.Typing.{HasType, h_lam, h_letrec, AreBound, none_bound, bound_and}
use Rattle.chw_layout.specs.Measured.{closed_value}
use Rattle.layout_laws.specs.SameLayout.{SameKeepsMeasure}
use Rattle.rewriting.specs.Named.{UnderLambdas, under_none, under_one}
use Rattle.rewriting.specs.Origins.{Origins, setting_at}
use Rattle.chw_typing.specs.SpineLaws.{ConAtArguments, ConIsSaturated, PrimAtArguments}
use Rattle.normal_forms.specs.Circuits.{IsCircuitSide, AreCircuitSides, no_circuit_sides, circuit_side_and, IsCircuitBody, circuit_letrec}
use Rattle.net_built.specs.Bodies.{BlockBuilt, block_variable, block_letrec, GroupBuilt, group_none, group_and, SideBuilt, side_of_circuit, BodyBuilt, body_lambda, body_block}
use Rattle.net_built.specs.Circuits.{CircuitCells, of_variable, of_synchronizer, of_pure, of_register, of_block_ram, of_mapped, of_lifted, of_call, of_product, of_projection, HaveParts, field_wires}
use Rattle.net_built.specs.Data.{HasParts}
use Rattle.net_built.specs.InOrder.{DrivesInOrder}
use Rattle.net_built.specs.Terms.{head_of, types_of, operands_of, Variable, wires_at, wires_of, wires_of_all}
use Rattle.net_built.specs.Wires.{wire_count, present, Piece}
use Rattle.net_grounds.specs.Facts.{Facts}
use Rattle.net_means.proofs.Lists.{turned_onto}
use Rattle.net_means.specs.NetFits.Laws.{ground_over}
use Rattle.net_means.proofs.NetFits.CircuitCells.{used_ordered, memory_ordered}
use Rattle.net_means.proofs.NetFits.CircuitDrivers.{PortHeld, PortsHeld, port_count, operands_then, product_count, projection_count, crossing_count}
use Rattle.net_means.proofs.NetFits.Pieces.{Ordered, none_ordered, then_ordered, one_ordered, copies_ordered, count_from}
use Rattle.net_means.proofs.NetFits.Scopes.{Fits, fits_more}
use Rattle.net_means.proofs.NetFits.Shapes.{alone, product_of, crossing_of, projection_of, names}

-- how many wires a right side copies, if it is of a form that copies
record Copies (s : Setting) (scope : List Variable) (widths : List ℕ) (h : TermTree) (ts : List TypeTree) (es : List TermTree) : Type 0 where
  pub of_name : (x : ℕ) → h ≡ var x → ts ≡ [] → es ≡ [] → length (wires_at scope x) ≡ wire_count widths
  pub crossing : (x : TermTree) → h ≡ prim UnsafeSynchronizer → es ≡ x ∷ [] → length (wires_of scope x) ≡ wire_count widths
  pub product : (c : ℕ) → h ≡ con c → length (wires_of_all scope es) ≡ wire_count widths
  pub projection : (x count z : ℕ) (c : ConId) (it : Variable) (fields : List TypeTree) (parts : List (List ℕ)) → h ≡ case_of (var x) (alt (OfCon c count) (var z) no_alts) → ts ≡ [] → es ≡ [] → slice_get scope x ≡ Some it → PatternOf s.datas it.ty (OfCon c count) fields → HaveParts s.datas fields parts
      → length (field_wires (count - 1 - z) parts it.wires) ≡ wire_count widths

cells_ordered : {s : Setting} {order : List ℕ} {scope : List Variable} {n : ℕ} {widths : List ℕ} {h : TermTree} {ts : List TypeTree} {es : List TermTree} {p : Piece} → Copies s scope widths h ts es → CircuitCells (ground_over s order) scope n widths h ts es p → Ordered n p
cells_ordered {n = n} {widths = widths} copies (of_variable {x = x}) = copies_ordered n _ widths (copies.of_name x refl refl refl)
cells_ordered {n = n} {widths = widths} copies (of_synchronizer {x = x}) = copies_ordered n _ widths (copies.crossing x refl refl)
cells_ordered {n = n} copies (of_pure {w = w} b) = one_ordered n w _ refl
cells_ordered {n = n} copies (of_register {w = w} b) = one_ordered n w _ refl
cells_ordered {n = n} copies (of_block_ram {w = w} {k = k} b) = memory_ordered w (closed_value k) n _ _ _ _
cells_ordered {s} {order} {n = n} copies (of_mapped {widths = widths} {m = m}) = used_ordered (ground_over s order) m n _ widths
cells_ordered {s} {order} {n = n} copies (of_lifted {widths = widths} {m = m} a) = used_ordered (ground_over s order) m n _ widths
cells_ordered {s} {order} {n = n} copies (of_call {widths = widths} {m = m}) = used_ordered (ground_over s order) m n _ widths
cells_ordered {n = n} {widths = widths} copies (of_product {c = c}) = copies_ordered n _ widths (copies.product c refl)
cells_ordered {n = n} {widths = widths} copies (of_projection {x = x} {count = count} {z = z} {c = c} {it = it} {fields = fields} parts i pattern have) =
    copies_ordered n _ widths (copies.projection x count z c it fields parts refl refl refl i pattern have)

-- variables that come in turn before others
pub held_and : (s : Setting) (v : Variable) (scope : List Variable) → PortHeld s v → PortsHeld s scope → PortsHeld s (v ∷ scope)
held_and s v scope h k zero w e = let is : v ≡ w = cc in subst (λ v. PortHeld s v) is h
held_and s v scope h k (suc x) w e = k x w e

pub held_onto : (s : Setting) (b scope : List Variable) → PortsHeld s b → PortsHeld s scope → PortsHeld s (reverse b ++ scope)
held_onto s [] scope h k = k
held_onto s (v ∷ b) scope h k =
    subst (λ l. PortsHeld s l) (sym (turned_onto v b scope)) (held_onto s b (v ∷ scope) (λ x w e. h (suc x) w e) (held_and s v scope (h 0 v refl) k))

pub none_held : (s : Setting) → PortsHeld s []
none_held s x v e = absurd cc

pub bound_held : {s : Setting} {order : List ℕ} {scope : List Variable} {n : ℕ} {g : Group} {p : Piece} {b : List Variable} → GroupBuilt (ground_over s order) Circuit scope n g p b → PortsHeld s b
bound_held {s} group_none = none_held s
bound_held {s} (group_and {bound = bound} {t = t} (side_of_circuit {widths = widths} parts cells) more) =
    held_and s _ bound (record { parts = widths; have = parts; count = count_from _ (wire_count widths) }) (bound_held more)

-- what the law is built on
record Laws : Type 0 where
  pub keep : FieldsKeepSame
  pub measure : SameKeepsMeasure
  pub con_args : ConAtArguments
  pub saturated : ConIsSaturated
  pub prim_args : PrimAtArguments

-- a right side of a typed circuit copies as many wires as it has
module _ (facts : Facts) (laws : Laws) (o : Origins) (sound : IsSound (setting_at o)) where
  side_copies : (vars : List TypeTree) (scope : List Variable) (widths : List ℕ) (t u : TypeTree) (e : TermTree) (k : Kind) → IsCircuitSide o e → Fits vars scope → PortsHeld (setting_at o) scope → AreTermTypes (setting_at o) [] vars → HasType (setting_at o) [] vars e u → HasKind (setting_at o) [] t k → SameTypes t u → HasParts o.program.datas Circuit t widths
      → Copies (setting_at o) scope widths (head_of e) (types_of e) (operands_of e)
  side_copies vars scope widths t u e k side fit held scoped typed kind same has =
      let s : Setting = setting_at o in
      record {
        of_name = λ x h ts es.
            port_count facts laws.keep laws.measure s sound vars scope x t u k widths fit held (subst (λ e. HasType s [] vars e u) (alone e ts es ∙ h) typed) kind same has;
        crossing = λ y h es.
            let c = crossing_of side h in
            let is : var c.x ∷ [] ≡ y ∷ [] = sym (ap (λ e. operands_of e) c.is) ∙ es in
            let operand : var c.x ≡ y = cc in
            ap (λ y. length (wires_of scope y)) (sym operand)
            ∙ crossing_count facts laws.keep laws.measure laws.prim_args s sound vars scope c.d c.b c.a c.x t u k widths fit held scoped (subst (λ e. HasType s [] vars e u) c.is typed) kind same has;
        product = λ c h.
            let p = product_of side c h in
            let operands : operands_of e ≡ names p.xs = ap (λ e. operands_of e) p.is ∙ operands_then (con p.c) p.types (names p.xs) in
            ap (λ es. length (wires_of_all scope es)) operands
            ∙ product_count facts laws.keep laws.measure laws.con_args laws.saturated s sound vars scope p.c p.it p.types p.xs t u k widths fit held scoped p.known (subst (λ e. HasType s [] vars e u) p.is typed) kind same has;
        projection = λ x count z c it fields parts h ts es i pattern have.
            let is = alone e ts es ∙ h in
            projection_count facts laws.keep laws.measure s sound vars scope x count z c it fields parts t u k widths fit held (projection_of side x count z c is) i pattern have (subst (λ e. HasType s [] vars e u) is typed) kind same has;
      }

  side_ordered : {order : List ℕ} {scope : List Variable} {vars : List TypeTree} {n : ℕ} {t u : TypeTree} {e : TermTree} {p : Piece} {r : List WireId} {j : Kind} → SideBuilt (ground_over (setting_at o) order) Circuit scope n t e p r → IsCircuitSide o e → HasKind (setting_at o) [] t j → HasType (setting_at o) [] vars e u → SameTypes t u → Fits vars scope → PortsHeld (setting_at o) scope → AreTermTypes (setting_at o) [] vars → Ordered n p
  side_ordered {scope = scope} {vars = vars} {t = t} {u = u} {e = e} {j = j} (side_of_circuit {widths = widths} parts cells) side kind typed same fit held scoped =
      cells_ordered (side_copies vars scope widths t u e j side fit held scoped typed kind same parts) cells

  group_ordered : {order : List ℕ} {scope : List Variable} {vars : List TypeTree} {n : ℕ} {g : Group} {p : Piece} {b : List Variable} {k : Kind} → GroupBuilt (ground_over (setting_at o) order) Circuit scope n g p b → AreCircuitSides o g → AreBound (setting_at o) [] vars k g → Fits vars scope → PortsHeld (setting_at o) scope → AreTermTypes (setting_at o) [] vars → Ordered n p
  group_ordered group_none no_circuit_sides none_bound fit held scoped = none_ordered
  group_ordered {n = n} (group_and {p = p} {q = q} side more) (circuit_side_and port form forms) (bound_and kind functions typed same rest) fit held scoped =
      then_ordered n p q (side_ordered side form kind typed same fit held scoped) (group_ordered more forms rest fit held scoped)

  block_ordered : {order : List ℕ} {scope : List Variable} {vars : List TypeTree} {n : ℕ} {e : TermTree} {p : Piece} {r : List WireId} {u : TypeTree} → BlockBuilt (ground_over (setting_at o) order) Circuit scope n e p r → IsCircuitBody o e → HasType (setting_at o) [] vars e u → Fits vars scope → PortsHeld (setting_at o) scope → AreTermTypes (setting_at o) [] vars → Ordered n p
  block_ordered block_variable form typed fit held scoped = none_ordered
  block_ordered {scope = scope} {vars = vars} (block_letrec {g = g} b more) (circuit_letrec forms) (h_letrec typed of_kind bound) fit held scoped =
      let inside : Fits (with_more (declared g) vars) (reverse b ++ scope) = fits_more facts (declared g) vars b scope (subst (AreSame (declared g)) (sym (facts.built.bound_types more)) (facts.scopes.are_same_self (declared g))) fit in
      group_ordered more forms bound inside (held_onto (setting_at o) b scope (bound_held more) held) (facts.scopes.typed_more (setting_at o) [] (declared g) vars (facts.scopes.bound_typed bound) scoped)

  body_ordered : {order : List ℕ} {scope : List Variable} {vars names : List TypeTree} {n : ℕ} {e inner : TermTree} {ty u : TypeTree} {path inputs : List ℕ} {p : Piece} {outputs : List WireId} → BodyBuilt (ground_over (setting_at o) order) Circuit scope n e inputs p outputs → UnderLambdas vars e ty path names inner → IsCircuitBody o inner → HasType (setting_at o) [] vars e u → Fits vars scope → PortsHeld (setting_at o) scope → AreTermTypes (setting_at o) [] vars
      → Ordered (n + length inputs) p
  body_ordered {scope = scope} {n = n} {p = p} (body_lambda {t = t} {widths = widths} {inputs = ins} parts more) (under_one same under) form (h_lam {a = a} {b = b} {k = k} typed kind) fit held scoped =
      let s : Setting = setting_at o in
      let count : length (present widths ++ ins) ≡ wire_count widths + length ins = length-append (present widths) ins in
      let place : n + wire_count widths + length ins ≡ n + length (present widths ++ ins) = omega (arith, count) in
      let at = facts.kinds.function_parts kind in
      let input = facts.kinds.term_type s [] t at.0 at.1 (facts.kinds.functions_of_terms at.0 k at.3).0 in
      subst (λ k. Ordered k p) place
      (body_ordered more under form typed (record { same = (facts.same.same_self t, fit.same) }) (held_and s _ scope (record { parts = widths; have = parts; count = count_from n (wire_count widths) }) held) (input, scoped))
  body_ordered (body_lambda parts more) (under_none asks) form typed fit held scoped = elim form [ ]
  body_ordered (body_block block) (under_one same under) form typed fit held scoped = elim block [ ]
  body_ordered {n = n} {p = p} (body_block block) (under_none asks) form typed fit held scoped =
      let place : n ≡ n + 0 = omega arith in subst (λ k. Ordered k p) place (block_ordered block form typed fit held scoped)

pub circuit_body_ordered : Facts → FieldsKeepSame → SameKeepsMeasure → ConAtArguments → ConIsSaturated → PrimAtArguments → (o : Origins) (order : List ℕ) (e inner : TermTree) (ty t : TypeTree) (path : List ℕ) (names : List TypeTree) (inputs : List ℕ) (p : Piece) (outputs : List WireId) → IsSound (setting_at o)
    → HasType (setting_at o) [] [] e t → UnderLambdas [] e ty path names inner → IsCircuitBody o inner → BodyBuilt (ground_over (setting_at o) order) Circuit [] 0 e inputs p outputs → DrivesInOrder (length inputs) p
circuit_body_ordered facts keep measure con_args saturated prim_args o order e inner ty t path names inputs p outputs sound typed under form built =
    let laws : Laws = record { keep = keep; measure = measure; con_args = con_args; saturated = saturated; prim_args = prim_args } in
    let all = body_ordered facts laws o sound built under form typed (record { same = tt }) (none_held (setting_at o)) tt in
    let place : 0 + length inputs ≡ length inputs = omega arith in
    (subst (λ k. Ordered k p) place all).drives
