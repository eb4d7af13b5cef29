-- All leaves of variables inside circuits' blocks of instances have bits at one rank more.
use Rattle.std.proofs.Common.{List, Some, [], ap, length, refl, subst, suc, sym, ℕ, ◌++◌, ◌<◌, ◌∙◌, ◌∷◌, ◌≡◌}
use Rattle.std.proofs.lemmas.List.{map-append}
use Rattle.std.specs.Prelude.{slice_get}
use Rattle.normal_forms.specs.Circuits.{IsCircuitSide, of_variable, of_register, of_block_ram, of_synchronizer, of_pure, of_lifted, of_call, of_constructor, of_projection, IsLiftedCall, lifted_on_one as one_lifted, lifted_on_more as more_lifted}
use Rattle.net_built.specs.Circuits.{IsLifted, lifted_on_one, lifted_on_more}
use Rattle.net_grounds.specs.Facts.{Facts}
use Rattle.net_means.proofs.NetBits.Insides.{Within, of_binding, from_outside, within, body_whole}
use Rattle.net_means.specs.CircuitBits.Instances.{Block, Inside, an_alternative, the_body, unseen_alternative}
use Rattle.chw_terms.specs.declared.scene.Sort.TheVariants.{Circuit}
use Rattle.net_means.proofs.NetBits.CircuitBase.{CircuitIn}
use Rattle.chw_terms.specs.TermTree.{Group, TermTree, var}
use Rattle.net_means.proofs.NetBits.Forms.{GroupFormed, form_at, inside_formed, origins}
use Rattle.net_means.specs.CircuitBits.Leaves.{HasAllOf, LeafHas, VariableLeaf, part_wires}
use Rattle.cell_bits.specs.Bearing.{HasCells}
use Rattle.net_built.specs.Data.{HasParts}
use Rattle.net_means.specs.CircuitBits.Memories.{HasWidths}
use Rattle.net_means.proofs.NetBits.Context.{Known, Situation, Stands, alone, variable_typed}
use Rattle.net_built.specs.Wires.{Piece, last_wires}
use Rattle.net_means.proofs.NetBits.Below.{Ranks, empty_leaf}
use Rattle.net_built.specs.Bodies.{SideBuilt, side_of_circuit}
use Rattle.chw_meaning.specs.Values.{Thunk, Thunks, body_at, closed, in_group, member}
use Rattle.chw_types.specs.TypeTree.{TypeTree, no_types}
use Rattle.net_built.specs.Terms.{Variable}
use Rattle.chw_base.specs.declared.index.WireId.{WireId}
use Rattle.rewriting.specs.Shapes.{ap_of}
use Rattle.net_means.proofs.NetBits.Standing.{block_plain, formed}
use Rattle.net_means.proofs.NetBits.CircuitUses.{call_leaf, lift_leaf}
use Rattle.net_means.proofs.NetBits.ParamItems.{circuit_parameters}
use Rattle.net_means.proofs.NetBits.CircuitSides.{crossing_leaf, memory_leaf, name_leaf, pure_leaf, register_leaf}
use Rattle.chw_typing.specs.Scopes.{declared}
use Rattle.net_built.specs.Built.{ground_of}
use Rattle.net_means.proofs.CircuitBits.Follow.{member_follows}
use Rattle.net_means.proofs.SideBits.Heads.{names}
use Rattle.net_means.proofs.NetBits.CircuitData.{product_leaf, projection_leaf}
use Rattle.rewriting.specs.Origins.{with_origins, with_origins_group}

-- the operands of a lifted call are variables
lifted_names : {m k : ℕ} {e : TermTree} → IsLiftedCall m e k → (xs : List ℕ) × IsLifted m e (names xs)
lifted_names (one_lifted {x = x}) = (x ∷ [], lifted_on_one)
lifted_names {m} {k} {e} (more_lifted {d = d} {a = a} {b = b} {u = u} {x = x} before) =
    let rest = lifted_names before in
    (rest.0 ++ x ∷ [], subst (λ es. IsLifted m (ap_of d a b u (var x)) es) (sym (map-append (λ x. var x) rest.0 (x ∷ []))) (lifted_on_more rest.1))

module _ (facts : Facts) (s : Situation) (r : ℕ) (known : Known s r) where
  -- a right side
  side_leaf : (path : List ℕ) (b : Block) (g : Group) (scope : List Variable) (γ : Thunks) (i n : ℕ) (t : TypeTree) (e : TermTree) (p : Piece) (widths : List ℕ) (k : ℕ) (start : WireId) → IsCircuitSide (origins s.d) e → CircuitIn s path b g scope γ i n t e p widths → k < length widths
      → slice_get (part_wires k widths (last_wires n p widths)) 0 ≡ Some start → Ranks s.order path (part_wires k widths (last_wires n p widths)) (suc r) → LeafHas s.d.program s.d.net path s.h t (closed (with_origins s.d.wholes e) γ no_types) (last_wires n p widths) k
  side_leaf path b g scope γ i n t e p widths k start (of_variable {x = x}) c l first ranks = name_leaf facts s r known path b g scope γ i n t p widths k l x start c first ranks
  side_leaf path b g scope γ i n t e p widths k start (of_register {d = d} {a = a} {c = v} {x = x} constant) c l first ranks = register_leaf facts s r known path b g scope γ i n t p widths k l d a v x constant c
  side_leaf path b g scope γ i n t e p widths k start (of_block_ram {d = d} {n = m} {k = z} {a = a} {c = v} {x = x} {y = y} {w = w} constant wide) c l first ranks = memory_leaf facts s r known path b g scope γ i n t p widths k l d m z a v x y w constant wide c
  side_leaf path b g scope γ i n t e p widths k start (of_synchronizer {d = d} {e = u} {a = a} {x = x}) c l first ranks = crossing_leaf facts s r known path b g scope γ i n t p widths k l d u a x start c first ranks
  side_leaf path b g scope γ i n t e p widths k start (of_pure {d = d} {a = a} {c = v} constant) c l first ranks = pure_leaf facts s r known path b g scope γ i n t p widths k l d a v constant c
  side_leaf path b g scope γ i n t e p widths k start (of_lifted m there value lifted) c l first ranks = let all = lifted_names lifted in lift_leaf facts s r known path b g scope γ i n m e all.0 t p widths k start c all.1 l first ranks
  side_leaf path b g scope γ i n t e p widths k start (of_call m xs there circuit many) c l first ranks = call_leaf facts s r known path b g scope γ i n m xs t p widths k start c l first ranks
  side_leaf path b g scope γ i n t e p widths k start (of_constructor c0 types xs {it = it} there many) c l first ranks = product_leaf facts s r known path b g scope γ i n c0 types xs it t p widths k start there c l first ranks
  side_leaf path b g scope γ i n t e p widths k start (of_projection {x = x} {n = count} {z = z} {c = c0} below) c l first ranks = projection_leaf facts s r known path b g scope γ i n x count z c0 t p widths k start below c l first ranks

  -- a right side as it is built
  built_leaf : (path : List ℕ) (b : Block) (g : Group) (scope : List Variable) (γ : Thunks) (i n : ℕ) (t : TypeTree) (e : TermTree) (p : Piece) (wires : List WireId) (widths : List ℕ) (k : ℕ) (start : WireId) → Stands s path b → Inside s.d path b g scope γ → b.sort ≡ Circuit → GroupFormed s.d Circuit g scope → body_at g i ≡ Some e → slice_get (declared g) i ≡ Some t
      → SideBuilt (ground_of s.d.program s.d.built.order) Circuit scope n t e p wires → HasCells s.d.net path p.cells → HasWidths s.d.net path n p.widths → HasParts s.d.program.datas Circuit t widths → k < length widths → slice_get (part_wires k widths wires) 0 ≡ Some start → Ranks s.order path (part_wires k widths wires) (suc r)
      → LeafHas s.d.program s.d.net path s.h t (closed (with_origins s.d.wholes e) γ no_types) wires k
  built_leaf path b g scope γ i n t e p wires widths k start at inside circuit group body declares (side_of_circuit {widths = own} parts cells) has wide its l first ranks =
      let same : widths ≡ own = facts.built.parts_once its parts in
      let less = subst (λ (ws : List ℕ). k < length ws) same l in
      let start_there = subst (λ ws. slice_get (part_wires k ws (last_wires n p own)) 0 ≡ Some start) same first in
      let lower = subst (λ ws. Ranks s.order path (part_wires k ws (last_wires n p own)) (suc r)) same ranks in
      side_leaf path b g scope γ i n t e p own k start (form_at s.d Circuit g i e group.form body)
      (record { stands = at; inside = inside; circuit = circuit; group = group; at = body; declares = declares; parts = parts; built = cells; cells = has; wide = wide }) less start_there lower

  -- the variables around a circuit's block are parameters
  circuit_outer : (path : List ℕ) (b : Block) → Stands s path b → b.sort ≡ Circuit → (z k : ℕ) (v : Variable) (widths : List ℕ) → slice_get b.scope z ≡ Some v → HasParts s.d.program.datas Circuit v.ty widths → k < length widths → Ranks s.order path (part_wires k widths v.wires) (suc r) → VariableLeaf s.d.program s.d.net path b.scope b.outside s.h z k
  circuit_outer path b (the_body {m = m} {γ = γ} {it = it} {params = params} {e = e} {scope = scope} at known_it is parameters block) circuit z k v widths there parts l ranks =
      circuit_parameters facts s r known path m γ it params e scope at known_it is (block_plain facts s.laws.measure s.d block.built) parameters circuit z k v widths there parts l ranks
  circuit_outer path b (an_alternative i at inside body f known_it first block) circuit z k v widths there parts l ranks = absurd cc
  circuit_outer path b (unseen_alternative i n m ws at inside body unseen known_it wide pattern have cells block) circuit z k v widths there parts l ranks = absurd cc

  pub leaves_next : (path : List ℕ) (b : Block) (g : Group) (scope : List Variable) (γ : Thunks) (x k : ℕ) (it : Variable) (widths : List ℕ) → Stands s path b → Inside s.d path b g scope γ → b.sort ≡ Circuit → slice_get scope x ≡ Some it
      → HasParts s.d.program.datas Circuit it.ty widths → k < length widths → Ranks s.order path (part_wires k widths it.wires) (suc r) → VariableLeaf s.d.program s.d.net path scope γ s.h x k
  leaves_next path b g scope γ x k it widths at inside circuit place parts l ranks = by (part_wires k widths it.wires) refl
    where
      group : GroupFormed s.d Circuit g scope
      group = subst (λ sort. GroupFormed s.d sort g scope) circuit (inside_formed facts s.laws.measure s.d inside (formed facts s.laws.measure s.d at))

      of_place : (a : WireId) → slice_get (part_wires k widths it.wires) 0 ≡ Some a → Within s.d path b g scope γ x it → VariableLeaf s.d.program s.d.net path scope γ s.h x k
      of_place a first (from_outside z number is same) =
          let leaf = circuit_outer path b at circuit z k it widths is parts l ranks in
          record { it = leaf.it; known = place ∙ sym is ∙ leaf.known; thunk = leaf.thunk; there = same ∙ leaf.there; has = leaf.has }
      of_place a first (of_binding i number binding env thunk) =
          let side : SideBuilt (ground_of s.d.program s.d.built.order) Circuit scope binding.n it.ty binding.term binding.piece it.wires = subst (λ sort. SideBuilt (ground_of s.d.program s.d.built.order) sort scope binding.n it.ty binding.term binding.piece it.wires) circuit binding.built in
          let whole : Group = with_origins_group s.d.wholes g in
          let th : Thunk = member whole i b.outside no_types in
          let has = built_leaf path b g scope γ i binding.n it.ty binding.term binding.piece it.wires widths k a at inside circuit group binding.at binding.declares side binding.cells binding.widths parts l first ranks in
          let inner : Thunk = closed (with_origins s.d.wholes binding.term) γ no_types in
          let inner_is : closed (with_origins s.d.wholes binding.term) (in_group whole b.outside no_types) no_types ≡ inner = ap (λ η. closed (with_origins s.d.wholes binding.term) η no_types) (sym env) in
          let follows : HasAllOf s.d.program s.h th inner = subst (λ on. HasAllOf s.d.program s.h th on) inner_is (member_follows facts s.d.program s.h whole i (with_origins s.d.wholes binding.term) b.outside no_types (body_whole s.d.wholes g i binding.term binding.at)) in
          let typed = variable_typed facts s.d group x it place in
          record {
            it = it;
            known = place;
            thunk = th;
            there = thunk;
            has = s.laws.followers s.d.program s.d.net path s.h it.ty it.ty inner th it.wires k (alone s.d) (record { kind = typed.kind; has = typed.has; same = facts.same.same_self it.ty }) follows has;
          }

      by : (ws : List WireId) → part_wires k widths it.wires ≡ ws → VariableLeaf s.d.program s.d.net path scope γ s.h x k
      by [] nope = empty_leaf facts s.laws.measure s.laws.prims s.d s.inputs s.top s.laws.empty x k it widths at inside circuit place parts l nope
      by (a ∷ ws) some = of_place a (ap (λ ws. slice_get ws 0) some) (within facts s.d path inside x it place)
