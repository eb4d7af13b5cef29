-- Right sides of circuits that copy, delay or remember have bits at their leaves.
use Rattle.std.proofs.Common.{List, Some, [], ap, arith, length, refl, subst, suc, sym, zero, ℕ, ◌<◌, ◌∙◌, ◌∷◌, ◌≡◌}
use Rattle.std.specs.Prelude.{slice_get}
use Rattle.chw_prims.specs.declared.prim.Primitive.{Primitive as Prim}
use Rattle.normal_forms.specs.Circuits.{IsConstant, beginning_with, content_type}
use Rattle.net_built.specs.Circuits.{Ground, CircuitCells, of_register, of_block_ram, of_pure}
use Rattle.net_grounds.specs.Facts.{Facts}
use Rattle.net_means.specs.CircuitBits.Instances.{Block}
use Rattle.chw_prims.specs.declared.prim.Primitive.TheVariants.{BlockRam, Pure, Register, UnsafeSynchronizer}
use Rattle.chw_terms.specs.declared.scene.Sort.TheVariants.{Circuit}
use Rattle.net_means.specs.CircuitBits.Leaves.{CircuitGiven, LeafHas, part_wires}
use Rattle.net_means.proofs.NetBits.CircuitBase.{CircuitIn, beginning_whole, circuit_side_of, earlier_leaf, function_typed, given_of, names_spine_whole, operand_typed, parts_some, taken_earlier, tick_earlier}
use Rattle.chw_types.specs.declared.kind.Kind.TheVariants.{Dom, Val}
use Rattle.chw_terms.specs.TermTree.{Group, TermTree, prim, var}
use Rattle.net_built.specs.Data.{HasParts}
use Rattle.chw_typing.specs.Typing.{HasTypeUpTo}
use Rattle.chw_layout.specs.Measured.{HasWidth}
use Rattle.net_means.proofs.NetBits.Context.{Known, Situation}
use Rattle.net_built.specs.Wires.{Piece, last_wires}
use Rattle.net_means.proofs.NetBits.Below.{Ranks, settled_ranks}
use Rattle.chw_types.specs.SameTypes.{SameTypes}
use Rattle.chw_meaning.specs.Values.{Thunks, closed}
use Rattle.chw_types.specs.TypeTree.{TypeTree, domain, no_types, signal, ty_var}
use Rattle.net_built.specs.Terms.{Variable}
use Rattle.chw_base.specs.declared.index.WireId.{WireId}
use Rattle.net_means.proofs.NetFits.Calls.{any_kept}
use Rattle.net_means.proofs.NetBits.Operands.{call_parts, typed_name}
use Rattle.chw_meaning.specs.Eval.{dom}
use Rattle.normal_forms.specs.Values.{on_names}
use Rattle.net_means.proofs.NetBits.Forms.{origins, setting}
use Rattle.rewriting.specs.Shapes.{pure_of}
use Rattle.net_means.proofs.NetFits.Ports.{signal_part}
use Rattle.chw_types.specs.TypeMoves.{sub}
use Rattle.net_means.specs.SideBits.Sides.{types_in}
use Rattle.rewriting.specs.Origins.{with_origins}

-- the domain and the only width of a register, a block RAM and a constant
record InDomain (ts : List TypeTree) (widths : List ℕ) : Type 0 where
  number : ℕ
  width : ℕ
  rest : List TypeTree
  is : ts ≡ domain number ∷ rest
  single : widths ≡ width ∷ []

register_domain : {ground : Ground} {scope : List Variable} {n : ℕ} {widths : List ℕ} {ts : List TypeTree} {es : List TermTree} {p : Piece} → CircuitCells ground scope n widths (prim Register) ts es p → InDomain ts widths
register_domain (of_register {w = w} {d = d} {a = a} has) = record { number = d; width = w; rest = a ∷ []; is = refl; single = refl }

memory_domain : {ground : Ground} {scope : List Variable} {n : ℕ} {widths : List ℕ} {ts : List TypeTree} {es : List TermTree} {p : Piece} → CircuitCells ground scope n widths (prim BlockRam) ts es p → InDomain ts widths
memory_domain (of_block_ram {w = w} {d = d} {m = m} {k = k} {a = a} has) = record { number = d; width = w; rest = m ∷ k ∷ a ∷ []; is = refl; single = refl }

pure_single : {ground : Ground} {scope : List Variable} {n : ℕ} {widths : List ℕ} {ts : List TypeTree} {es : List TermTree} {p : Piece} → CircuitCells ground scope n widths (prim Pure) ts es p → (w : ℕ) × (widths ≡ w ∷ [])
pure_single (of_pure {w = w} has) = (w, refl)

only_leaf : {widths : List ℕ} {w : ℕ} (k : ℕ) → widths ≡ w ∷ [] → k < length widths → k ≡ 0
only_leaf k single l = let long = ap (λ (ws : List ℕ). length ws) single in omega (arith, l, long)

module _ (facts : Facts) (s : Situation) (r : ℕ) (known : Known s r) (path : List ℕ) (b : Block) (g : Group) (scope : List Variable) (γ : Thunks) (i n : ℕ) (t : TypeTree) (p : Piece) (widths : List ℕ) (k : ℕ) (l : k < length widths) where
  -- what a right side has at this leaf
  abbrev pub HasLeaf : TermTree → Type 0
  HasLeaf e = LeafHas s.d.program s.d.net path s.h t (closed (with_origins s.d.wholes e) γ no_types) (last_wires n p widths) k

  unchanged : (e : TermTree) → with_origins s.d.wholes e ≡ e → LeafHas s.d.program s.d.net path s.h t (closed e γ no_types) (last_wires n p widths) k → HasLeaf e
  unchanged e same has = subst (λ e. LeafHas s.d.program s.d.net path s.h t (closed e γ no_types) (last_wires n p widths) k) (sym same) has

  at_zero : (e : TermTree) → k ≡ 0 → LeafHas s.d.program s.d.net path s.h t (closed e γ no_types) (last_wires n p widths) zero → LeafHas s.d.program s.d.net path s.h t (closed e γ no_types) (last_wires n p widths) k
  at_zero e is has = subst (λ k. LeafHas s.d.program s.d.net path s.h t (closed e γ no_types) (last_wires n p widths) k) (sym is) has

  pub name_leaf : (x : ℕ) (start : WireId) → CircuitIn s path b g scope γ i n t (var x) p widths → slice_get (part_wires k widths (last_wires n p widths)) 0 ≡ Some start → Ranks s.order path (part_wires k widths (last_wires n p widths)) (suc r) → HasLeaf (var x)
  unfolding with_origins
  name_leaf x start c first ranks =
      let side = circuit_side_of s c in
      let name = typed_name facts s.d c.group x t side.typed in
      let own = call_parts facts s.laws s.d c.group x t widths name c.parts in
      let given = given_of s c in
      let settle = s.laws.copies_order (origins s.d) s.d.built.order scope s.d.net path n widths widths t p x k name.it given name.known own.0 in
      let leaf = known.leaves path b g scope γ x k name.it widths c.stands c.inside c.circuit name.known own.0 l (settled_ranks s.order path path (part_wires k widths (last_wires n p widths)) (part_wires k widths name.it.wires) start r settle first ranks) in
      s.laws.names x k (origins s.d) s.d.built.order scope γ no_types s.d.net path s.h n widths t p given leaf

  pub register_leaf : (d a : TypeTree) (v : TermTree) (x : ℕ) → IsConstant s.d.program.datas v → CircuitIn s path b g scope γ i n t (beginning_with Register (d ∷ a ∷ []) v (x ∷ [])) p widths → HasLeaf (beginning_with Register (d ∷ a ∷ []) v (x ∷ []))
  register_leaf d a v x constant c = by (register_domain c.built)
    where
      by : InDomain (d ∷ a ∷ []) widths → HasLeaf (beginning_with Register (d ∷ a ∷ []) v (x ∷ []))
      by at =
          let domain_is : d ≡ domain at.number = first_of at.is in
          let e : TermTree = beginning_with Register (d ∷ a ∷ []) v (x ∷ []) in
          let operand = operand_typed (circuit_side_of s c).typed.has in
          let given : CircuitGiven (origins s.d) s.d.built.order scope s.d.net path n widths t (beginning_with Register (domain at.number ∷ a ∷ []) v (x ∷ [])) p =
          subst (λ d. CircuitGiven (origins s.d) s.d.built.order scope s.d.net path n widths t (beginning_with Register (d ∷ a ∷ []) v (x ∷ [])) p) domain_is (given_of s c) in
          let has = s.laws.registers at.number a v x (origins s.d) s.d.built.order scope γ no_types s.d.net path s.h n widths t p given
          (constant, λ h e. earlier_leaf facts s r known c.stands c.inside c.circuit c.group x operand.0 operand.1 h (taken_earlier facts s (dom at.number) h e)) in
          let back = subst (λ d. LeafHas s.d.program s.d.net path s.h t (closed (beginning_with Register (d ∷ a ∷ []) v (x ∷ [])) γ no_types) (last_wires n p widths) zero) (sym domain_is) has in
          unchanged e (beginning_whole s.d.wholes Register (d ∷ a ∷ []) v (x ∷ []) constant) (at_zero e (only_leaf k at.single l) back)
        where
          first_of : {u v : TypeTree} {us vs : List TypeTree} → u ∷ us ≡ v ∷ vs → u ≡ v
          first_of e = cc

  pub memory_leaf : (d m z a : TypeTree) (v : TermTree) (x y w : ℕ) → IsConstant s.d.program.datas v → HasWidth s.d.program.datas (content_type m a) w → CircuitIn s path b g scope γ i n t (beginning_with BlockRam (d ∷ m ∷ z ∷ a ∷ []) v (x ∷ y ∷ [])) p widths → HasLeaf (beginning_with BlockRam (d ∷ m ∷ z ∷ a ∷ []) v (x ∷ y ∷ []))
  memory_leaf d m z a v x y w constant wide c = by (memory_domain c.built)
    where
      by : InDomain (d ∷ m ∷ z ∷ a ∷ []) widths → HasLeaf (beginning_with BlockRam (d ∷ m ∷ z ∷ a ∷ []) v (x ∷ y ∷ []))
      by at =
          let domain_is : d ≡ domain at.number = first_of at.is in
          let e : TermTree = beginning_with BlockRam (d ∷ m ∷ z ∷ a ∷ []) v (x ∷ y ∷ []) in
          let typed = (circuit_side_of s c).typed.has in
          let write = operand_typed typed in
          let read = operand_typed (function_typed typed).1 in
          let given : CircuitGiven (origins s.d) s.d.built.order scope s.d.net path n widths t (beginning_with BlockRam (domain at.number ∷ m ∷ z ∷ a ∷ []) v (x ∷ y ∷ [])) p =
          subst (λ d. CircuitGiven (origins s.d) s.d.built.order scope s.d.net path n widths t (beginning_with BlockRam (d ∷ m ∷ z ∷ a ∷ []) v (x ∷ y ∷ [])) p) domain_is (given_of s c) in
          let has = s.laws.memories at.number m z a v x y (origins s.d) s.d.built.order scope γ no_types s.d.net path s.h n widths t p given
          (record {
            constant = constant;
            size = w;
            wide = wide;
            constructors = s.d.constructors;
            widths = c.wide;
            read = λ h e. earlier_leaf facts s r known c.stands c.inside c.circuit c.group x read.0 read.1 h (tick_earlier facts s at.number h e);
            write = λ h e. earlier_leaf facts s r known c.stands c.inside c.circuit c.group y write.0 write.1 h (tick_earlier facts s at.number h e);
          }) in
          let back = subst (λ d. LeafHas s.d.program s.d.net path s.h t (closed (beginning_with BlockRam (d ∷ m ∷ z ∷ a ∷ []) v (x ∷ y ∷ [])) γ no_types) (last_wires n p widths) zero) (sym domain_is) has in
          unchanged e (beginning_whole s.d.wholes BlockRam (d ∷ m ∷ z ∷ a ∷ []) v (x ∷ y ∷ []) constant) (at_zero e (only_leaf k at.single l) back)
        where
          first_of : {u v : TypeTree} {us vs : List TypeTree} → u ∷ us ≡ v ∷ vs → u ≡ v
          first_of e = cc

  pub pure_leaf : (d a : TypeTree) (v : TermTree) → IsConstant s.d.program.datas v → CircuitIn s path b g scope γ i n t (pure_of d a v) p widths → HasLeaf (pure_of d a v)
  pure_leaf d a v constant c =
      let single = pure_single c.built in
      let has = s.laws.constants d a v (origins s.d) s.d.built.order scope γ no_types s.d.net path s.h n widths t p (given_of s c) constant in
      unchanged (pure_of d a v) (beginning_whole s.d.wholes Pure (d ∷ a ∷ []) v [] constant) (at_zero (pure_of d a v) (only_leaf k single.1 l) has)

  pub crossing_leaf : (d u a : TypeTree) (x : ℕ) (start : WireId) → CircuitIn s path b g scope γ i n t (on_names (prim UnsafeSynchronizer) (d ∷ u ∷ a ∷ []) (x ∷ [])) p widths → slice_get (part_wires k widths (last_wires n p widths)) 0 ≡ Some start → Ranks s.order path (part_wires k widths (last_wires n p widths)) (suc r)
      → HasLeaf (on_names (prim UnsafeSynchronizer) (d ∷ u ∷ a ∷ []) (x ∷ []))
  unfolding sub with_origins
  crossing_leaf d u a x start c first ranks =
      let e : TermTree = on_names (prim UnsafeSynchronizer) (d ∷ u ∷ a ∷ []) (x ∷ []) in
      let side = circuit_side_of s c in
      let all = s.laws.prims (setting s.d) [] (types_in scope) UnsafeSynchronizer (Dom ∷ Dom ∷ Val ∷ []) (signal (ty_var 2) (ty_var 0) ∷ []) (signal (ty_var 1) (ty_var 0)) (d ∷ u ∷ a ∷ []) (var x ∷ []) side.typed.type s.d.sound c.group.scoped refl refl refl side.typed.has in
      let gives : SameTypes (signal u a) side.typed.type = all.gives in
      let operand : HasTypeUpTo (setting s.d) [] (types_in scope) (var x) (signal d a) = all.args_given.0 in
      let name = typed_name facts s.d c.group x (signal d a) operand in
      let whole : HasParts s.d.program.datas Circuit (signal u a) widths = any_kept facts s.laws.keep s.laws.measure (setting s.d) s.d.sound t (signal u a) widths (record { kind = side.kind; has = side.kinded; same = facts.same.same_through side.typed.same (facts.same.same_turned gives) }) c.parts in
      let single = signal_part whole in
      let leaf_is : k ≡ 0 = only_leaf k single.2 l in
      let held = c.group.held x name.it name.known in
      let given = given_of s c in
      let settle = s.laws.crossings_order (origins s.d) s.d.built.order scope s.d.net path n widths held.0 d u a t p x name.it given name.known held.1 in
      let first_zero : slice_get (part_wires 0 widths (last_wires n p widths)) 0 ≡ Some start = ap (λ k. slice_get (part_wires k widths (last_wires n p widths)) 0) (sym leaf_is) ∙ first in
      let ranks_zero = subst (λ k. Ranks s.order path (part_wires k widths (last_wires n p widths)) (suc r)) leaf_is ranks in
      let leaf = known.leaves path b g scope γ x 0 name.it held.0 c.stands c.inside c.circuit name.known held.1 (parts_some held.1)
      (settled_ranks s.order path path (part_wires 0 widths (last_wires n p widths)) (part_wires 0 held.0 name.it.wires) start r settle first_zero ranks_zero) in
      let has = s.laws.crossings d u a x (origins s.d) s.d.built.order scope γ no_types s.d.net path s.h n widths t p given leaf in
      unchanged e (names_spine_whole s.d.wholes (prim UnsafeSynchronizer) (d ∷ u ∷ a ∷ []) (x ∷ []) refl) (at_zero e leaf_is has)
