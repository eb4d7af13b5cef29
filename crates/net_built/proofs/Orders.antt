-- There is one order of modules.
use Rattle.std.proofs.Common.{◌≡◌, ℕ, suc, Bool, true, false, List, [], ◌∷◌, ◌++◌, refl, sym, ap, ◌∙◌, subst}
use Rattle.chw_types.specs.declared.declarations.Data.{Data}
use Rattle.chw_terms.specs.declared.scene.Made.{Made}
use Rattle.net_built.specs.Modules.{made_in, HasOutputs, Visited, already, without_outputs, behind_its_uses, AllVisited, none_visited, visited_and, IsOrderOfModules}
use Rattle.net_built.specs.Wires.{wire_count}
use Rattle.net_built.proofs.Parts.{same_some, parts_once}

outputs_once : {datas : List Data} {it jt : Made} {c d : ℕ} → it ≡ jt → HasOutputs datas it c → HasOutputs datas jt d → c ≡ d
outputs_once {datas} {it} {d = d} e h k =
    let along : HasOutputs datas it d = subst (λ (it : Made). HasOutputs datas it d) (sym e) k in
    sym h.are ∙ ap wire_count (parts_once h.parts along.parts) ∙ along.are

both_ways : {b : Bool} → b ≡ true → b ≡ false → ⊥
both_ways e f = cc

some_and_none : {c : ℕ} → 0 ≡ suc c → ⊥
some_and_none e = absurd cc

mutual
  visited_once : {datas : List Data} {state : List Made} {order a b : List ℕ} {m : ℕ} → Visited datas state order m a → Visited datas state order m b → a ≡ b
  visited_once (already h) (already k) = refl
  visited_once (already h) (without_outputs k i o) = absurd (both_ways h k)
  visited_once (already h) (behind_its_uses k i o more) = absurd (both_ways h k)
  visited_once (without_outputs h i o) (already k) = absurd (both_ways k h)
  visited_once (without_outputs h i o) (without_outputs k j q) = refl
  visited_once (without_outputs h i o) (behind_its_uses k j q more) = absurd (some_and_none (outputs_once (same_some i j) o q))
  visited_once (behind_its_uses h i o more) (already k) = absurd (both_ways k h)
  visited_once (behind_its_uses h i o more) (without_outputs k j q) = absurd (some_and_none (outputs_once (same_some j i) q o))
  visited_once {datas} {state} {order} {m = m} (behind_its_uses h i o more) (behind_its_uses {longer = longer} k j q others) =
      ap (λ ms. ms ++ m ∷ []) (all_visited_once more (subst (λ (it : Made). AllVisited datas state order (made_in it.body) longer) (same_some j i) others))

  pub all_visited_once : {datas : List Data} {state : List Made} {order ms a b : List ℕ} → AllVisited datas state order ms a → AllVisited datas state order ms b → a ≡ b
  all_visited_once none_visited none_visited = refl
  all_visited_once {datas} {state} {b = b} (visited_and {ms = ms} v more) (visited_and w others) =
      all_visited_once more (subst (λ longer. AllVisited datas state longer ms b) (sym (visited_once v w)) others)

pub order_once : {datas : List Data} {state : List Made} {a b : List ℕ} → IsOrderOfModules datas state a → IsOrderOfModules datas state b → a ≡ b
order_once {datas} {state} h k =
    let below = k.below in
    let same : h.below ≡ k.below = all_visited_once h.visited (subst (λ (it : Made). AllVisited datas state [] (made_in it.body) below) (same_some k.is_top h.is_top) k.visited) in
    h.whole ∙ ap (λ ms. ms ++ 0 ∷ []) same ∙ sym k.whole
