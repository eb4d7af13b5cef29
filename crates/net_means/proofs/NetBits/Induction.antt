-- The induction over the length of the history and the ranks of wires.
use Rattle.std.proofs.Common.{List, [], ap, arith, length, refl, subst, suc, sym, zero, ℕ, ◌+◌, ◌<◌, ◌∷◌, ◌≡◌, ◌≤◌}
use Rattle.net_grounds.specs.Facts.{Facts}
use Rattle.net_means.specs.CircuitBits.Instances.{Block, BlockAt, Design, HaveBits, Inside, Parameters}
use Rattle.chw_terms.specs.declared.scene.Sort.TheVariants.{Circuit, Value}
use Rattle.chw_clock.specs.Histories.{FitsPorts}
use Rattle.chw_terms.specs.TermTree.{Group}
use Rattle.net_means.proofs.NetBits.There.{HasThunk, TopThere}
use Rattle.chw_meaning.specs.Values.{History, Thunk, Thunks, none}
use Rattle.net_means.specs.NetBits.Whole.{InputsHaveBits, IsPast}
use Rattle.net_means.proofs.NetBits.Context.{Known, Laws, Situation}
use Rattle.net_means.specs.WireOrder.Awaits.{Ranked}
use Rattle.net_means.proofs.NetBits.Below.{Ranks, empty_leaf, empty_value, no_wires}
use Rattle.net_means.proofs.NetBits.Forms.{ScopeHeld, none_held}
use Rattle.chw_terms.specs.declared.scene.Sort.{Sort}
use Rattle.net_built.specs.Terms.{Variable}
use Rattle.net_rules.specs.WellFormed.{WellFormed}
use Rattle.chw_base.specs.declared.index.WireId.{WireId}
use Rattle.net_means.proofs.NetBits.SomeBits.{WiresHave, WiresOnce}
use Rattle.net_means.proofs.NetBits.CircuitItems.{leaves_next}
use Rattle.carrying.specs.TermLaws.{onto}
use Rattle.net_means.proofs.NetBits.Standing.{parameters_in}
use Rattle.net_means.specs.CircuitBits.Leaves.{part_wires}
use Rattle.net_means.proofs.NetBits.CircuitBase.{parts_some}
use Rattle.net_means.proofs.NetBits.ValueItems.{values_next}

-- what stays the same at all histories
pub record Whole : Type 0 where
  pub laws : Laws
  pub d : Design
  pub inputs : List Thunk
  pub order : Ranked d.net
  pub good : WellFormed d.net
  pub last : History
  pub given : InputsHaveBits d inputs last
  pub top : TopThere d inputs
  pub have : (h : History) → FitsPorts d.net.ports h → WiresHave d.net h
  pub once : (h : History) → FitsPorts d.net.ports h → WiresOnce d.net h

abbrev pub situation : (w : Whole) (h : History) → IsPast w.last h → FitsPorts w.d.net.ports h → Situation
situation w h past fits = record {
  laws = w.laws;
  d = w.d;
  inputs = w.inputs;
  order = w.order;
  good = w.good;
  last = w.last;
  h = h;
  past = past;
  fits = fits;
  given = w.given;
  top = w.top;
  have = w.have h fits;
  once = w.once h fits;
}

-- all variables of all blocks have bits at a history
abbrev pub AllAt : Whole → History → Type 0
AllAt w h = (path : List ℕ) (b : Block) (g : Group) (scope : List Variable) (γ : Thunks) → BlockAt w.d w.inputs path h b → Inside w.d path b g scope γ → HaveBits w.d b.sort path h scope γ

module _ (facts : Facts) (w : Whole) (h : History) (past : IsPast w.last h) (fits : FitsPorts w.d.net.ports h) (earlier : (k : History) → length k < length h → IsPast w.last k → FitsPorts w.d.net.ports k → AllAt w k) where
  abbrev S : Situation
  S = situation w h past fits

  -- below rank 0 there are no wires
  start : Known S 0
  start = record {
    earlier = λ path k b g scope γ less is of at inside. earlier k less is of path b g scope γ at inside;
    values = λ path b g scope γ x it at inside value place ranks.
        empty_value facts w.laws.measure w.laws.prims w.d w.inputs w.top x it at inside value place (no_wires w.order path it.wires ranks);
    leaves = λ path b g scope γ x k it widths at inside circuit place parts l ranks.
        empty_leaf facts w.laws.measure w.laws.prims w.d w.inputs w.top w.laws.empty x k it widths at inside circuit place parts l (no_wires w.order path (part_wires k widths it.wires) ranks);
  }

  next : (r : ℕ) → Known S r → Known S (suc r)
  next r known = record { earlier = known.earlier; values = values_next facts S r known; leaves = leaves_next facts S r known }

  below : (r : ℕ) → Known S r
  below zero = start
  below (suc r) = next r (below r)

  -- so it is at each rank
  bound_of : (path : List ℕ) (wires : List WireId) → (r : ℕ) × Ranks w.order path wires r
  bound_of path [] = (0, λ i a e. absurd cc)
  bound_of path (a ∷ wires) =
      let rest = bound_of path wires in
      (suc (w.order.rank path a.number) + rest.0, by rest.0 rest.1)
    where
      by : (r : ℕ) → Ranks w.order path wires r → Ranks w.order path (a ∷ wires) (suc (w.order.rank path a.number) + r)
      by r ranks zero v e = let is : a ≡ v = cc in let same : w.order.rank path a.number ≡ w.order.rank path v.number = ap (λ (v : WireId). w.order.rank path v.number) is in omega (arith, same)
      by r ranks (suc i) v e = let l = ranks i v e in omega (arith, l)

  pub all_here : AllAt w h
  all_here path b g scope γ at inside = by b.sort refl
    where
      by : (sort : Sort) → b.sort ≡ sort → HaveBits w.d b.sort path h scope γ
      by Value value =
          subst (λ sort. HaveBits w.d sort path h scope γ) (sym value)
          (λ x it place. let r = bound_of path it.wires in (below r.0).values path b g scope γ x it at inside value place r.1)
      by Circuit circuit =
          subst (λ sort. HaveBits w.d sort path h scope γ) (sym circuit)
          (λ x k it widths place parts l. let r = bound_of path (part_wires k widths it.wires) in (below r.0).leaves path b g scope γ x k it widths at inside circuit place parts l r.1)

-- and at each history
all_up_to : Facts → (w : Whole) (limit : ℕ) (h : History) → length h ≤ limit → IsPast w.last h → FitsPorts w.d.net.ports h → AllAt w h
all_up_to facts w zero h le past fits = all_here facts w h past fits (λ k less is of. absurd (omega (arith, less, le)))
all_up_to facts w (suc limit) h le past fits = all_here facts w h past fits (λ k less is of. all_up_to facts w limit k (omega (arith, less, le)) is of)

pub all_have : Facts → (w : Whole) (h : History) → IsPast w.last h → FitsPorts w.d.net.ports h → AllAt w h
all_have facts w h past fits = all_up_to facts w (length h) h (omega arith) past fits

-- the inputs of the top have thunks
pub inputs_there : (d : Design) (inputs : List Thunk) (last h : History) → IsPast last h → FitsPorts d.net.ports h → InputsHaveBits d inputs last → TopThere d inputs
inputs_there d inputs last h past fits given it params e scope known is plain parameters z v place = by it.sort refl
  where
    all : HaveBits d it.sort [] h scope (onto inputs none)
    all = given h it params e scope past fits known is plain parameters

    held_in : (sort : Sort) → Parameters d.program.datas sort zero params [] scope → ScopeHeld d.program.datas sort scope
    held_in sort parameters = parameters_in parameters (none_held d.program.datas sort)

    by : (sort : Sort) → it.sort ≡ sort → HasThunk (onto inputs none) z
    by Value value = let has = (subst (λ sort. HaveBits d sort [] h scope (onto inputs none)) value all) z v place in (has.1.thunk, has.1.there)
    by Circuit circuit =
        let held = held_in Circuit (subst (λ sort. Parameters d.program.datas sort zero params [] scope) circuit parameters) z v place in
        let leaf = (subst (λ sort. HaveBits d sort [] h scope (onto inputs none)) circuit all) z 0 v held.0 place held.1 (parts_some held.1) in
        (leaf.thunk, leaf.there)
