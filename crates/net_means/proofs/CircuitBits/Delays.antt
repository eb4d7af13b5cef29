-- Signals from other domains, constant signals, and registers.
use Rattle.std.specs.Prelude.{slice_get, Option, None}
use Rattle.std.proofs.Common.{◌≡◌, ◌<◌, ℕ, zero, suc, Bool, List, [], ◌∷◌, length, Some, refl, sym, ap, ◌∙◌, subst, arith}
use Rattle.chw_clock.specs.Histories.{taken}
use Rattle.chw_clock.specs.declared.event.Event.{Event}
use Rattle.chw_types.specs.declared.kind.Kind.{Kind}
use Rattle.chw_types.specs.declared.kind.Kind.TheVariants.{Val, Dom}
use Rattle.chw_types.specs.Kinds.{KindsOf, kind_and}
use Rattle.chw_types.specs.SamePromises.{SameValues}
use Rattle.chw_types.specs.SameTypes.{SameTypes}
use Rattle.chw_types.specs.TypeMoves.{sub}
use Rattle.chw_types.specs.TypeTree.{TypeTree, TypeTrees, ty_var, domain, signal, type_and}
use Rattle.type_laws.specs.SameKept.{FieldsKeepSame}
use Rattle.chw_prims.specs.declared.prim.Primitive.TheVariants.{Pure, Register, UnsafeSynchronizer}
use Rattle.chw_terms.specs.declared.program.Program.{Program}
use Rattle.chw_terms.specs.declared.scene.Sort.TheVariants.{Circuit}
use Rattle.chw_terms.specs.TermTree.{TermTree, var, prim}
use Rattle.chw_typing.specs.Programs.{IsSound, setting_of}
use Rattle.chw_typing.specs.Scopes.{Setting, HasKind, AreTermTypes}
use Rattle.chw_typing.specs.Typing.{HasType, HasTypeUpTo}
use Rattle.chw_typing.specs.Alike.{AreLike}
use Rattle.rewriting.specs.Origins.{Origins, setting_at}
use Rattle.rewriting.specs.Shapes.{pure_of}
use Rattle.normal_forms.specs.Circuits.{IsConstant, beginning_with}
use Rattle.normal_forms.specs.Values.{on_names}
use Rattle.chw_layout.specs.Measured.{HasWidth}
use Rattle.chw_meaning.specs.Values.{History, closed, Thunks, closed_type}
use Rattle.chw_meaning.specs.Eval.{dom}
use Rattle.carrying.specs.Carrying.{Shows}
use Rattle.netlist.specs.declared.net.Cell.{Cell}
use Rattle.netlist.specs.declared.net.Cell.TheVariants.{Const, Reg}
use Rattle.netlist.specs.declared.net.Net.{Net}
use Rattle.use_laws.specs.ValueIn.{ValueIn, HasCellAt, operated, first, later, read_none}
use Rattle.net_built.specs.Circuits.{Ground as Built, CircuitCells, of_synchronizer, of_pure, of_register}
use Rattle.net_built.specs.Data.{HasParts}
use Rattle.net_built.specs.Memories.{HasBits}
use Rattle.net_built.specs.Terms.{Variable, wires_at, wires_of}
use Rattle.net_built.specs.Wires.{wire, Piece, one, last_wires, copies, copy_cells}
use Rattle.net_built.specs.Words.{only}
use Rattle.cell_bits.specs.Bearing.{HasCells, Bears}
use Rattle.net_grounds.specs.Facts.{Facts}
use Rattle.net_means.specs.SideBits.Sides.{ground_of, types_in}
use Rattle.net_means.proofs.SideBits.Heads.{names}
use Rattle.net_means.proofs.SideBits.Operands.{sound_alone}
use Rattle.net_means.specs.CircuitBits.Leaves.{part_wires, LeafHas, VariableLeaf, CircuitGiven}
use Rattle.net_means.proofs.CircuitBits.Constants.{constant_shows}
use Rattle.net_means.proofs.CircuitBits.PartWires.{copies_part}
use Rattle.net_means.proofs.CircuitBits.Ports.{payload_like}
use Rattle.net_means.proofs.CircuitBits.Signals.{signal_part, SignalHas, from_signal, operand_signal, one_part, first_value}

-- what the cells are
crossing_piece : {ground : Built} {scope : List Variable} {n : ℕ} {widths : List ℕ} {d e a : TypeTree} {x : TermTree} {p : Piece} → CircuitCells ground scope n widths (prim UnsafeSynchronizer) (d ∷ e ∷ a ∷ []) (x ∷ []) p → p ≡ copies n (wires_of scope x) widths
crossing_piece of_synchronizer = refl

record OnePiece (ground : Built) (n : ℕ) (widths : List ℕ) (a : TypeTree) (c : TermTree) (cell : List Bool → Cell) (p : Piece) : Type 0 where
  width : ℕ
  are : widths ≡ width ∷ []
  bits : List Bool
  has : HasBits ground.datas a c bits
  is : p ≡ one width (cell bits)

pure_piece : {ground : Built} {scope : List Variable} {n : ℕ} {widths : List ℕ} {d a : TypeTree} {c : TermTree} {p : Piece} → CircuitCells ground scope n widths (prim Pure) (d ∷ a ∷ []) (c ∷ []) p → OnePiece ground n widths a c (λ bits. Const (wire n) bits) p
pure_piece (of_pure {w = w} {bits = bits} has) = record { width = w; are = refl; bits = bits; has = has; is = refl }

register_piece : {ground : Built} {scope : List Variable} {n d : ℕ} {widths : List ℕ} {a : TypeTree} {c x : TermTree} {p : Piece} → CircuitCells ground scope n widths (prim Register) (domain d ∷ a ∷ []) (c ∷ x ∷ []) p → OnePiece ground n widths a c (λ bits. Reg (wire n) (dom d) bits (only (wires_of scope x))) p
register_piece (of_register {w = w} {bits = bits} has) = record { width = w; are = refl; bits = bits; has = has; is = refl }

second_kind : (s : Setting) {t u : TypeTree} {ts : TypeTrees} {j k : Kind} {ks : List Kind} → KindsOf s.datas s.domains [] (type_and t (type_and u ts)) (j ∷ k ∷ ks) → HasKind s [] u k
second_kind s (kind_and j (kind_and k more)) = k

-- the types of these primitives on their operands
pub record CrossingTyped (s : Setting) (vars : List TypeTree) (d e a : TypeTree) (x : ℕ) (t : TypeTree) : Type 0 where
  pub operand : HasTypeUpTo s [] vars (var x) (signal d a)
  pub same : SameTypes (signal e a) t

pub crossing_typed : Facts → (s : Setting) (vars : List TypeTree) (d e a : TypeTree) (x : ℕ) (t : TypeTree) → IsSound s → AreTermTypes s [] vars → HasType s [] vars (on_names (prim UnsafeSynchronizer) (d ∷ e ∷ a ∷ []) (x ∷ [])) t → CrossingTyped s vars d e a x t
unfolding sub
crossing_typed facts s vars d e a x t sound scoped typed =
    let at = facts.terms.prim_at_arguments s [] vars UnsafeSynchronizer (Dom ∷ Dom ∷ Val ∷ []) (signal (ty_var 2) (ty_var 0) ∷ []) (signal (ty_var 1) (ty_var 0)) (d ∷ e ∷ a ∷ []) (names (x ∷ [])) t sound scoped refl refl refl typed in
    record { operand = at.args_given.0; same = at.gives }

record PureTyped (s : Setting) (vars : List TypeTree) (d a : TypeTree) (c : TermTree) (t : TypeTree) : Type 0 where
  constant : HasTypeUpTo s [] vars c a
  same : SameTypes (signal d a) t
  kind : HasKind s [] a Val

pure_typed : Facts → (s : Setting) (vars : List TypeTree) (d a : TypeTree) (c : TermTree) (t : TypeTree) → IsSound s → AreTermTypes s [] vars → HasType s [] vars (pure_of d a c) t → PureTyped s vars d a c t
unfolding sub
pure_typed facts s vars d a c t sound scoped typed =
    let at = facts.terms.prim_at_arguments s [] vars Pure (Dom ∷ Val ∷ []) (ty_var 0 ∷ []) (signal (ty_var 1) (ty_var 0)) (d ∷ a ∷ []) (c ∷ []) t sound scoped refl refl refl typed in
    record { constant = at.args_given.0; same = at.gives; kind = second_kind s at.have }

record RegisterTyped (s : Setting) (vars : List TypeTree) (d a : TypeTree) (c : TermTree) (x : ℕ) (t : TypeTree) : Type 0 where
  constant : HasTypeUpTo s [] vars c a
  operand : HasTypeUpTo s [] vars (var x) (signal d a)
  same : SameTypes (signal d a) t
  kind : HasKind s [] a Val

register_typed : Facts → (s : Setting) (vars : List TypeTree) (d a : TypeTree) (c : TermTree) (x : ℕ) (t : TypeTree) → IsSound s → AreTermTypes s [] vars → HasType s [] vars (beginning_with Register (d ∷ a ∷ []) c (x ∷ [])) t → RegisterTyped s vars d a c x t
unfolding sub
register_typed facts s vars d a c x t sound scoped typed =
    let at = facts.terms.prim_at_arguments s [] vars Register (Dom ∷ Val ∷ []) (ty_var 0 ∷ signal (ty_var 1) (ty_var 0) ∷ []) (signal (ty_var 1) (ty_var 0)) (d ∷ a ∷ []) (c ∷ var x ∷ []) t sound scoped refl refl refl typed in
    record { constant = at.args_given.0; operand = at.args_given.1.0; same = at.gives; kind = second_kind s at.have }

-- a domain has no type variables
domain_closed : (d : ℕ) (δ : TypeTrees) → closed_type (domain d) δ ≡ domain d
unfolding sub
domain_closed d δ = refl

first_of : {i j : ℕ} → i ∷ [] ≡ j ∷ [] → i ≡ j
first_of e = cc

-- the cell of a piece of one cell
cell_there : {net : Net} {path : List ℕ} (w : ℕ) (cell : Cell) → 0 < w → HasCells net path (one w cell).cells → HasCellAt net path cell
cell_there zero cell some has = absurd (omega (arith, some))
cell_there (suc w) cell some has = has 0 cell refl

module _ (facts : Facts) (o : Origins) (order : List ℕ) (scope : List Variable) (γ : Thunks) (δ : TypeTrees) (net : Net) (path : List ℕ) (h : History) (n : ℕ) (widths : List ℕ) (t : TypeTree) (piece : Piece) (values : SameValues) (keep : FieldsKeepSame) where
  pub crossing_has : (d e a : TypeTree) (x : ℕ) → CircuitGiven o order scope net path n widths t (on_names (prim UnsafeSynchronizer) (d ∷ e ∷ a ∷ []) (x ∷ [])) piece → VariableLeaf o.program net path scope γ h x zero
      → LeafHas o.program net path h t (closed (on_names (prim UnsafeSynchronizer) (d ∷ e ∷ a ∷ []) (x ∷ [])) γ δ) (last_wires n piece widths) zero
  crossing_has d e a x g has =
      let p : Program = o.program in
      let of : TermTree = on_names (prim UnsafeSynchronizer) (d ∷ e ∷ a ∷ []) (x ∷ []) in
      let typed = crossing_typed facts (setting_at o) (types_in scope) d e a x g.typed.type g.sound g.scoped g.typed.has in
      let at = facts.same.as_signal (facts.same.same_through typed.same (facts.same.same_turned g.typed.same)) in
      let v : TypeTree = at.1 in
      let s : SignalHas p net path h v (closed (var x) γ δ) (wires_at scope x) = operand_signal facts o scope γ δ net path values keep g.sound g.scoped x d a v h typed.operand at.4 has in
      let parts : HasParts p.datas Circuit (signal at.0 v) widths = subst (λ t. HasParts p.datas Circuit t widths) at.2 g.parts in
      let part = signal_part parts in
      let width : s.width ∷ [] ≡ widths = ap (λ w. w ∷ []) (facts.widths.width_once s.wide part.1) ∙ sym part.2 in
      let is : piece ≡ copies n (wires_at scope x) widths = crossing_piece g.built in
      let cells : HasCells net path (copy_cells n (wires_at scope x)) = subst (λ (q : Piece). HasCells net path q.cells) is g.cells in
      let bears : Bears net path h (part_wires zero widths (wires_at scope x)) s.bits = subst (λ ws. Bears net path h (part_wires zero ws (wires_at scope x)) s.bits) width s.bears in
      let long : slice_get widths zero ≡ Some (length s.bits) = ap (λ (ws : List ℕ). slice_get ws zero) (sym width) ∙ ap (λ w. Some w) (sym (facts.shows.shown_length s.shows s.wide)) in
      subst (λ t. LeafHas p net path h t (closed of γ δ) (last_wires n piece widths) zero) (sym at.2)
      (from_signal parts (facts.signals.crossing_shows p v d e a (var x) γ δ h s.bits s.shows)
      (subst (λ (q : Piece). Bears net path h (part_wires zero widths (last_wires n q widths)) s.bits) (sym is) (copies_part zero n widths (wires_at scope x) s.bits bears long cells)))

  -- a constant of the values of a signal shows its bits at the signal's payload
  constant_at : (d a v : TypeTree) (w : ℕ) (c : TermTree) (bits : List Bool) → IsConstant o.program.datas c → IsSound (setting_at o) → AreTermTypes (setting_at o) [] (types_in scope) → HasTypeUpTo (setting_at o) [] (types_in scope) c a → HasKind (setting_at o) [] a Val → SameTypes a v → HasWidth o.program.datas v w → {k : Kind} → HasKind (setting_at o) [] (signal d v) k → HasBits o.program.datas a c bits
      → Shows o.program v (closed c γ δ) h bits
  constant_at d a v w c bits form sound scoped typed kind same wide kinded has =
      let p : Program = o.program in
      let alone = sound_alone o sound in
      let back : AreLike (setting_of p) v a = payload_like {d = d} kinded (facts.same.same_turned same) in
      let width : HasWidth p.datas a w = facts.same_layout.measured_same (setting_of p) alone values keep wide back in
      let like : AreLike (setting_of p) a v = record { kind = Val; has = kind; same = same } in
      facts.shows.shown_same p alone values keep (constant_shows facts o (types_in scope) γ δ values keep sound scoped form a w has.value bits has.denotes has.encodes width typed h) like

  -- a piece of one cell, where the signal shows the bits that the wire has
  one_has : (e : TermTree) (a v : TypeTree) (k : ℕ) (cell : Cell) (bits : List Bool) → t ≡ signal a v → HasParts o.program.datas Circuit t widths → widths ≡ k ∷ [] → piece ≡ one k cell → Shows o.program v (closed e γ δ) h bits → (0 < k → ValueIn net path h n bits)
      → LeafHas o.program net path h t (closed e γ δ) (last_wires n piece widths) zero
  one_has e a v k cell bits type parts single is shows value =
      let p : Program = o.program in
      let whole : HasParts p.datas Circuit (signal a v) (k ∷ []) = subst (λ ws. HasParts p.datas Circuit (signal a v) ws) single (subst (λ t. HasParts p.datas Circuit t widths) type parts) in
      let part = signal_part whole in
      let same : part.0 ≡ k = first_of (sym part.2) in
      let size : length bits ≡ k = facts.shows.shown_length shows part.1 ∙ same in
      let bears : Bears net path h (part_wires zero (k ∷ []) (last_wires n (one k cell) (k ∷ []))) bits = one_part k n cell bits size value in
      let there : LeafHas p net path h (signal a v) (closed e γ δ) (last_wires n (one k cell) (k ∷ [])) zero = from_signal whole shows bears in
      subst (λ t. LeafHas p net path h t (closed e γ δ) (last_wires n piece widths) zero) (sym type)
      (subst (λ ws. LeafHas p net path h (signal a v) (closed e γ δ) (last_wires n piece ws) zero) (sym single)
      (subst (λ (q : Piece). LeafHas p net path h (signal a v) (closed e γ δ) (last_wires n q (k ∷ [])) zero) (sym is) there))

  pub pure_has : (d a : TypeTree) (c : TermTree) → CircuitGiven o order scope net path n widths t (pure_of d a c) piece → IsConstant o.program.datas c → LeafHas o.program net path h t (closed (pure_of d a c) γ δ) (last_wires n piece widths) zero
  pure_has d a c g form =
      let p : Program = o.program in
      let typed = pure_typed facts (setting_at o) (types_in scope) d a c g.typed.type g.sound g.scoped g.typed.has in
      let at = facts.same.as_signal (facts.same.same_through typed.same (facts.same.same_turned g.typed.same)) in
      let v : TypeTree = at.1 in
      let parts : HasParts p.datas Circuit (signal at.0 v) widths = subst (λ t. HasParts p.datas Circuit t widths) at.2 g.parts in
      let kinded : HasKind (setting_at o) [] (signal at.0 v) g.kind = subst (λ t. HasKind (setting_at o) [] t g.kind) at.2 g.kinded in
      let q = pure_piece g.built in
      let shows : Shows p v (closed c γ δ) h q.bits = constant_at at.0 a v (signal_part parts).0 c q.bits form g.sound g.scoped typed.constant typed.kind at.4 (signal_part parts).1 kinded q.has in
      let cells : HasCells net path (one q.width (Const (wire n) q.bits)).cells = subst (λ (r : Piece). HasCells net path r.cells) q.is g.cells in
      one_has (pure_of d a c) at.0 v q.width (Const (wire n) q.bits) q.bits at.2 g.parts q.are q.is (facts.signals.pure_shows p v d a c γ δ h q.bits shows)
      (λ some. operated path (Const (wire n) q.bits) n h [] (cell_there q.width (Const (wire n) q.bits) some cells) tt refl (read_none path h))

  pub register_has : (d : ℕ) (a : TypeTree) (c : TermTree) (x : ℕ) → CircuitGiven o order scope net path n widths t (beginning_with Register (domain d ∷ a ∷ []) c (x ∷ [])) piece → IsConstant o.program.datas c → ((g : History) → taken h (dom d) ≡ Some g → VariableLeaf o.program net path scope γ g x zero)
      → LeafHas o.program net path h t (closed (beginning_with Register (domain d ∷ a ∷ []) c (x ∷ [])) γ δ) (last_wires n piece widths) zero
  register_has d a c x g form has = by (taken h (dom d)) refl
    where
      p : Program
      p = o.program

      of : TermTree
      of = beginning_with Register (domain d ∷ a ∷ []) c (x ∷ [])

      typed : RegisterTyped (setting_at o) (types_in scope) (domain d) a c x g.typed.type
      typed = register_typed facts (setting_at o) (types_in scope) (domain d) a c x g.typed.type g.sound g.scoped g.typed.has

      at : (e : TypeTree) × (v : TypeTree) × (t ≡ signal e v) × SameTypes (domain d) e × SameTypes a v
      at = facts.same.as_signal (facts.same.same_through typed.same (facts.same.same_turned g.typed.same))

      parts : HasParts p.datas Circuit (signal at.0 at.1) widths
      parts = subst (λ t. HasParts p.datas Circuit t widths) at.2 g.parts

      kinded : HasKind (setting_at o) [] (signal at.0 at.1) g.kind
      kinded = subst (λ t. HasKind (setting_at o) [] t g.kind) at.2 g.kinded

      q : OnePiece (ground_of p order) n widths a c (λ bits. Reg (wire n) (dom d) bits (only (wires_at scope x))) piece
      q = register_piece g.built

      cell : 0 < q.width → HasCellAt net path (Reg (wire n) (dom d) q.bits (only (wires_at scope x)))
      cell some = cell_there q.width (Reg (wire n) (dom d) q.bits (only (wires_at scope x))) some (subst (λ (r : Piece). HasCells net path r.cells) q.is g.cells)

      by : (b : Option (List Event)) → taken h (dom d) ≡ b → LeafHas p net path h t (closed of γ δ) (last_wires n piece widths) zero
      by None e =
          let shows : Shows p at.1 (closed c γ δ) h q.bits = constant_at at.0 a at.1 (signal_part parts).0 c q.bits form g.sound g.scoped typed.constant typed.kind at.4 (signal_part parts).1 kinded q.has in
          one_has of at.0 at.1 q.width (Reg (wire n) (dom d) q.bits (only (wires_at scope x))) q.bits at.2 g.parts q.are q.is (facts.signals.register_first p at.1 (domain d) a d c (var x) γ δ h q.bits (domain_closed d δ) e shows)
          (λ some. first path (wire n) (only (wires_at scope x)) (dom d) q.bits h (cell some) e)
      by (Some k) e =
          let s : SignalHas p net path k at.1 (closed (var x) γ δ) (wires_at scope x) = operand_signal facts o scope γ δ net path values keep g.sound g.scoped x (domain d) a at.1 k typed.operand at.4 (has k e) in
          let part = signal_part parts in
          let size : length s.bits ≡ part.0 = facts.shows.shown_length s.shows part.1 in
          let wide : part.0 ≡ q.width = first_of (sym part.2 ∙ q.are) in
          one_has of at.0 at.1 q.width (Reg (wire n) (dom d) q.bits (only (wires_at scope x))) s.bits at.2 g.parts q.are q.is (facts.signals.register_later p at.1 (domain d) a d c (var x) γ δ k h s.bits (domain_closed d δ) e s.shows)
          (λ some. later path (wire n) (only (wires_at scope x)) (dom d) q.bits s.bits h k (cell some) e (first_value s.width (wires_at scope x) s.bits s.bears (omega (arith, some, size, wide))))
