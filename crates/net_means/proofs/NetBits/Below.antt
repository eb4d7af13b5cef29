-- What the induction over wires takes as known, and variables without wires.
use Rattle.std.proofs.Common.{List, Some, [], ap, arith, length, refl, subst, suc, sym, zero, ℕ, ◌<◌, ◌∙◌, ◌∷◌, ◌≡◌}
use Rattle.std.specs.Prelude.{slice_get}
use Rattle.net_grounds.specs.Facts.{Facts}
use Rattle.net_means.specs.WireOrder.Awaits.{AllSettle, Ranked}
use Rattle.cell_bits.specs.Bearing.{Bears, bears_nothing}
use Rattle.net_means.specs.CircuitBits.Instances.{Block, BlockAt, Design, HaveBits, Inside}
use Rattle.chw_terms.specs.declared.scene.Sort.TheVariants.{Circuit, Value}
use Rattle.net_means.specs.CircuitBits.Laws.{EmptyLeavesHave}
use Rattle.chw_clock.specs.Histories.{FitsPorts}
use Rattle.chw_terms.specs.TermTree.{Group}
use Rattle.net_means.proofs.NetBits.Forms.{GroupFormed, ScopeHeld, inside_formed, value_parts}
use Rattle.net_means.specs.SideBits.Sides.{HasBits}
use Rattle.net_built.specs.Data.{HasParts}
use Rattle.net_means.proofs.NetBits.There.{HasThunk, TopThere, found_at, inside_there}
use Rattle.chw_layout.specs.Measured.{HasWidth}
use Rattle.chw_meaning.specs.Values.{History, Thunk, Thunks}
use Rattle.net_means.specs.NetBits.Whole.{IsPast}
use Rattle.netlist.specs.declared.net.Net.{Net}
use Rattle.chw_typing.specs.SpineLaws.{PrimAtArguments}
use Rattle.layout_laws.specs.SameLayout.{SameKeepsMeasure}
use Rattle.net_built.specs.Terms.{Variable}
use Rattle.net_means.specs.CircuitBits.Leaves.{VariableLeaf, part_wires}
use Rattle.chw_base.specs.declared.index.WireId.{WireId}
use Rattle.net_means.proofs.NetBits.Standing.{formed}
use Rattle.carrying.specs.Carrying.{shows_nothing}
use Rattle.net_built.specs.Wires.{wire_count}

-- each of these wires of an instance has a lesser rank
abbrev pub Ranks : {net : Net} → Ranked net → List ℕ → List WireId → ℕ → Type 0
Ranks order path wires r = (i : ℕ) (w : WireId) → slice_get wires i ≡ Some w → order.rank path w.number < r

-- the variables of all blocks have bits at shorter histories, and at this one where their wires have lesser ranks
pub record Below (d : Design) (inputs : List Thunk) (order : Ranked d.net) (last h : History) (r : ℕ) : Type 0 where
  pub earlier : (path : List ℕ) (k : History) (b : Block) (g : Group) (scope : List Variable) (γ : Thunks) → length k < length h → IsPast last k → FitsPorts d.net.ports k → BlockAt d inputs path k b → Inside d path b g scope γ → HaveBits d b.sort path k scope γ
  pub values : (path : List ℕ) (b : Block) (g : Group) (scope : List Variable) (γ : Thunks) (x : ℕ) (it : Variable) → BlockAt d inputs path h b → Inside d path b g scope γ → b.sort ≡ Value → slice_get scope x ≡ Some it
      → Ranks order path it.wires r → HasBits d.program d.net path h γ x it
  pub leaves : (path : List ℕ) (b : Block) (g : Group) (scope : List Variable) (γ : Thunks) (x k : ℕ) (it : Variable) (widths : List ℕ) → BlockAt d inputs path h b → Inside d path b g scope γ → b.sort ≡ Circuit → slice_get scope x ≡ Some it
      → HasParts d.program.datas Circuit it.ty widths → k < length widths → Ranks order path (part_wires k widths it.wires) r → VariableLeaf d.program d.net path scope γ h x k

-- wires by which one wire of a lesser rank settles have ranks less by one
pub settled_ranks : {net : Net} (order : Ranked net) (p q : List ℕ) (wires others : List WireId) (w : WireId) (r : ℕ) → AllSettle net p wires q others → slice_get wires 0 ≡ Some w → Ranks order p wires (suc r) → Ranks order q others r
settled_ranks order p q wires others w r all first ranks i v e =
    let less = order.falls p q w.number v.number (all 0 i w v first e) in
    let bound = ranks 0 w first in
    omega (arith, less, bound)

pub no_wires : {net : Net} (order : Ranked net) (path : List ℕ) (wires : List WireId) → Ranks order path wires 0 → wires ≡ []
no_wires order path [] ranks = refl
no_wires order path (w ∷ wires) ranks = let l = ranks 0 w refl in absurd (omega (arith, l))

-- of the wires of parts those of one part
pub part_length : (k : ℕ) (widths : List ℕ) (wires : List WireId) (w : ℕ) → slice_get widths k ≡ Some w → length wires ≡ wire_count widths → length (part_wires k widths wires) ≡ wire_count (w ∷ [])
part_length k [] wires w e many = absurd cc
part_length zero (zero ∷ widths) wires w e many = let is : 0 ≡ w = cc in ap (λ w. wire_count (w ∷ [])) is
part_length zero (suc v ∷ widths) [] w e many = absurd (omega (arith, many))
part_length zero (suc v ∷ widths) (a ∷ wires) w e many = let is : suc v ≡ w = cc in ap (λ w. wire_count (w ∷ [])) is
part_length (suc k) (zero ∷ widths) wires w e many = part_length k widths wires w e many
part_length (suc k) (suc v ∷ widths) [] w e many = absurd (omega (arith, many))
part_length (suc k) (suc v ∷ widths) (a ∷ wires) w e many = part_length k widths wires w e (omega (arith, many))

pub no_width : (w : ℕ) (wires : List WireId) → length wires ≡ wire_count (w ∷ []) → wires ≡ [] → w ≡ 0
no_width zero wires many nope = refl
no_width (suc w) wires many nope = let zero_long = ap (λ (l : List WireId). length l) nope in absurd (omega (arith, many, zero_long))

pub one_part : (w : ℕ) (wires : List WireId) → length wires ≡ wire_count (w ∷ []) → part_wires 0 (w ∷ []) wires ≡ wires
one_part zero [] many = refl
one_part zero (a ∷ wires) many = absurd (omega (arith, many))
one_part (suc w) [] many = absurd (omega (arith, many))
one_part (suc w) (a ∷ []) many = refl
one_part (suc w) (a ∷ b ∷ wires) many = absurd (omega (arith, many))

-- a variable of a value without wires has its bits, which are none
pub empty_in : (d : Design) (path : List ℕ) (h : History) (scope : List Variable) {γ : Thunks} (x : ℕ) (it : Variable) → HasThunk γ x → ScopeHeld d.program.datas Value scope → slice_get scope x ≡ Some it → it.wires ≡ [] → HasBits d.program d.net path h γ x it
empty_in d path h scope x it th held_all known nope =
    let held = held_all x it known in
    let part = value_parts held.1 in
    let zero_wide : part.0 ≡ 0 = no_width part.0 it.wires (held.2 ∙ ap (λ ws. wire_count ws) part.2) nope in (
      [],
      record {
        thunk = th.0;
        there = th.1;
        carries = λ k. shows_nothing (subst (HasWidth d.program.datas it.ty) zero_wide part.1);
        bears = subst (λ ws. Bears d.net path h ws []) (sym nope) bears_nothing;
      },
    )

module _ (facts : Facts) (law : SameKeepsMeasure) (prims : PrimAtArguments) (d : Design) (inputs : List Thunk) (top : TopThere d inputs) where
  pub empty_value : {path : List ℕ} {h : History} {b : Block} {g : Group} {scope : List Variable} {γ : Thunks} (x : ℕ) (it : Variable) → BlockAt d inputs path h b → Inside d path b g scope γ → b.sort ≡ Value → slice_get scope x ≡ Some it → it.wires ≡ [] → HasBits d.program d.net path h γ x it
  empty_value {path} {h} {b} {g} {scope} x it at inside value known nope =
      let th = inside_there facts law prims d inputs top at inside x it known in
      let formed = subst (λ sort. GroupFormed d sort g scope) value (inside_formed facts law d inside (formed facts law d at)) in
      empty_in d path h scope x it th formed.held known nope

  pub empty_leaf : EmptyLeavesHave → {path : List ℕ} {h : History} {b : Block} {g : Group} {scope : List Variable} {γ : Thunks} (x k : ℕ) (it : Variable) (widths : List ℕ) → BlockAt d inputs path h b → Inside d path b g scope γ → b.sort ≡ Circuit → slice_get scope x ≡ Some it
      → HasParts d.program.datas Circuit it.ty widths → k < length widths → part_wires k widths it.wires ≡ [] → VariableLeaf d.program d.net path scope γ h x k
  empty_leaf empty {path} {h} {b} {g} {scope} x k it widths at inside circuit known parts l nope =
      let th = inside_there facts law prims d inputs top at inside x it known in
      let formed = subst (λ sort. GroupFormed d sort g scope) circuit (inside_formed facts law d inside (formed facts law d at)) in
      let held = formed.held x it known in
      let same : held.0 ≡ widths = facts.built.parts_once held.1 parts in
      let own = found_at widths k l in
      let many = part_length k widths it.wires own.0 own.1 (held.2 ∙ ap (λ ws. wire_count ws) same) in
      let zero_wide : own.0 ≡ 0 = no_width own.0 (part_wires k widths it.wires) many nope in
      record {
        it = it;
        known = known;
        thunk = th.0;
        there = th.1;
        has = empty d.program d.net path h it.ty th.0 it.wires widths k parts (own.1 ∙ ap (λ w. Some w) zero_wide);
      }
