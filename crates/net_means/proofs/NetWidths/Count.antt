-- There are at most as many modules as made definitions.
use Rattle.std.proofs.Common.{◌≡◌, ◌⊎◌, inl, inr, ℕ, suc, ◌<◌, ◌≤◌, ◌==◌, Bool, true, false, ◌||◌, arith, List, [], ◌∷◌, ◌++◌, length, Some, refl, sym, ap, subst, eq-eqb}
use Rattle.std.specs.Prelude.{if◌then◌else◌}
use Rattle.std.specs.List.{slice_get}
use Rattle.std.proofs.lemmas.Bool.{eqb-true, or_right}
use Rattle.std.proofs.lemmas.Option.{slice_get_within}
use Rattle.chw_types.specs.declared.declarations.Data.{Data}
use Rattle.chw_terms.specs.declared.program.Program.{Program}
use Rattle.chw_terms.specs.declared.scene.Made.{Made}
use Rattle.netlist.specs.declared.net.Module.{Module}
use Rattle.netlist.specs.declared.net.Net.{Net}
use Rattle.net_built.specs.Built.{Built, ground_of}
use Rattle.net_built.specs.Circuits.{Ground, place_in}
use Rattle.net_built.specs.Modules.{AreModules, HasOutputs, holds, made_in, Visited, already, without_outputs, behind_its_uses, AllVisited, none_visited, visited_and}
use Rattle.net_built.specs.Wires.{wire_count}
use Rattle.net_grounds.specs.Facts.{Facts}
use Rattle.net_means.proofs.Lists.{same_some}
use Rattle.net_means.proofs.NetFits.Drivers.{as_many}
use Rattle.net_means.proofs.NetFits.Uses.{NoOutputs, BeforePlace, AllBefore, Behind, order_behind}
use Rattle.net_means.proofs.NetWidths.Distinct.{Distinct, AllBelow, distinct_end, distinct_few}

held_choice : (b c : Bool) (n k : ℕ) → (b || c) ≡ true → (c ≡ true → n < k) → (if b then 0 else suc n) < suc k
held_choice true c n k h l = omega arith
held_choice false c n k h l = let here = l h in omega (arith, here)

holds_place : (order : List ℕ) (m : ℕ) → holds order m ≡ true → place_in order m < length order
holds_place [] m h = absurd cc
holds_place (k ∷ order) m h = held_choice (k == m) (holds order m) (place_in order m) (length order) h (λ h. holds_place order m h)

there_choice : (b : Bool) (order : List ℕ) (k m : ℕ) → (b ≡ true → k ≡ m) → (if b then 0 else suc (place_in order m)) < suc (length order) → (place_in order m < length order → slice_get order (place_in order m) ≡ Some m) → slice_get (k ∷ order) (if b then 0 else suc (place_in order m)) ≡ Some m
there_choice true order k m e l h = ap Some (e refl)
there_choice false order k m e l h = h (omega (arith, l))

-- at its place it stands
place_there : (order : List ℕ) (m : ℕ) → place_in order m < length order → slice_get order (place_in order m) ≡ Some m
place_there [] m l = absurd (omega (arith, l))
place_there (k ∷ order) m l = there_choice (k == m) order k m (λ h. eqb-true k m h) l (λ l. place_there order m l)

held_more : (b c d : Bool) → (b || c) ≡ true → (c ≡ true → d ≡ true) → (b || d) ≡ true
held_more true c d h l = refl
held_more false c d h l = l h

-- what stands in a list stands in a longer one
holds_longer : (order more : List ℕ) (x : ℕ) → holds order x ≡ true → holds (order ++ more) x ≡ true
holds_longer [] more x h = absurd cc
holds_longer (k ∷ order) more x h = held_more (k == x) (holds order x) (holds (order ++ more) x) h (λ h. holds_longer order more x h)

last_held : (b : Bool) → (b || false) ≡ true → b ≡ true
last_held true h = refl
last_held false h = h

split_choice : (b c : Bool) (m x : ℕ) (d : Bool) → (b || c) ≡ true → (c ≡ true → (d ≡ true) ⊎ (m ≡ x)) → ((b || d) ≡ true) ⊎ (m ≡ x)
split_choice true c m x d h l = inl refl
split_choice false c m x d h l = l h

-- what stands in a list with one more stands in the list or is that one
holds_end : (order : List ℕ) (m x : ℕ) → holds (order ++ m ∷ []) x ≡ true → (holds order x ≡ true) ⊎ (m ≡ x)
holds_end [] m x h = inr (eqb-true m x (last_held (m == x) h))
holds_end (k ∷ order) m x h = split_choice (k == x) (holds (order ++ m ∷ []) x) m x (holds order x) h (λ h. holds_end order m x h)

both_ways : (b : Bool) → b ≡ true → b ≡ false → ⊥
both_ways true h e = cc
both_ways false h e = cc

not_true : (b : Bool) → (b ≡ true → ⊥) → b ≡ false
not_true true h = absurd (h refl)
not_true false h = refl

mutual
  visited_more : {datas : List Data} {state : List Made} {order longer : List ℕ} {m : ℕ} → Visited datas state order m longer → (x : ℕ) → holds order x ≡ true → holds longer x ≡ true
  visited_more (already h) x e = e
  visited_more (without_outputs h is none) x e = e
  visited_more (behind_its_uses {longer = longer} {m = m} h is some uses) x e = holds_longer longer (m ∷ []) x (all_more uses x e)

  all_more : {datas : List Data} {state : List Made} {order longer ms : List ℕ} → AllVisited datas state order ms longer → (x : ℕ) → holds order x ≡ true → holds longer x ≡ true
  all_more none_visited x e = e
  all_more (visited_and first rest) x e = all_more rest x (visited_more first x e)

holds_last : (ks : List ℕ) (m : ℕ) → holds (ks ++ m ∷ []) m ≡ true
holds_last [] m = ap (λ b. b || false) (eq-eqb m m refl)
holds_last (k ∷ ks) m = or_right (k == m) (holds (ks ++ m ∷ []) m) (holds_last ks m)

-- one with outputs isn't one without
outputs_differ : Facts → (datas : List Data) (state : List Made) (m count : ℕ) (it : Made) → slice_get state m ≡ Some it → HasOutputs datas it (suc count) → NoOutputs datas state m → ⊥
outputs_differ facts datas state m count it is some none =
    let same : none.0 ≡ it = same_some none.1 is in
    let other : HasOutputs datas it 0 = subst (λ it. HasOutputs datas it 0) same none.2 in
    let widths : other.widths ≡ some.widths = facts.built.parts_once other.parts some.parts in
    let many : wire_count other.widths ≡ wire_count some.widths = ap (λ ws. wire_count ws) widths in
    let are = some.are in
    let none_are = other.are in
    omega (arith, many, are, none_are)

module _ (facts : Facts) (datas : List Data) (state : List Made) (whole : List ℕ) (behind : Behind datas state whole) where
  -- those that a made definition of the order uses stand before it
  uses_before : (m : ℕ) (it : Made) → holds whole m ≡ true → slice_get state m ≡ Some it → AllBefore datas state whole (place_in whole m) (made_in it.body)
  uses_before m it h is = behind.each (place_in whole m) m it (place_there whole m (holds_place whole m h)) is

  -- an order that is part of the whole, without repetitions, and in which what is new stands before this place
  record Grown (order longer : List ℕ) (place : ℕ) : Type 0 where
    pub distinct : Distinct order → Distinct longer
    pub new : (x : ℕ) → holds longer x ≡ true → (holds order x ≡ true) ⊎ (place_in whole x < place)

  unchanged : (order : List ℕ) (place : ℕ) → Grown order order place
  unchanged order place = record { distinct = λ d. d; new = λ x h. inl h }

  then_grown : {a b c : List ℕ} {place : ℕ} → Grown a b place → Grown b c place → Grown a c place
  then_grown {a} {b} {c} {place} g h = record { distinct = λ d. h.distinct (g.distinct d); new = λ x e. by x (h.new x e) }
    where
      by : (x : ℕ) → (holds b x ≡ true) ⊎ (place_in whole x < place) → (holds a x ≡ true) ⊎ (place_in whole x < place)
      by x (inl e) = g.new x e
      by x (inr l) = inr l

  -- one more comes behind those that stand before it
  one_grown : (order longer : List ℕ) (m place : ℕ) → holds order m ≡ false → place_in whole m < place → Grown order longer (place_in whole m) → Grown order (longer ++ m ∷ []) place
  one_grown order longer m place none l g =
      let fresh : holds longer m ≡ false = not_true (holds longer m) (λ e. again (g.new m e)) in
      record { distinct = λ d. distinct_end longer m (g.distinct d) fresh; new = λ x e. by x (holds_end longer m x e) }
    where
      again : (holds order m ≡ true) ⊎ (place_in whole m < place_in whole m) → ⊥
      again (inl e) = both_ways (holds order m) e none
      again (inr l) = omega (arith, l)

      sooner : (x : ℕ) → (holds order x ≡ true) ⊎ (place_in whole x < place_in whole m) → (holds order x ≡ true) ⊎ (place_in whole x < place)
      sooner x (inl e) = inl e
      sooner x (inr k) = inr (omega (arith, k, l))

      by : (x : ℕ) → (holds longer x ≡ true) ⊎ (m ≡ x) → (holds order x ≡ true) ⊎ (place_in whole x < place)
      by x (inl e) = sooner x (g.new x e)
      by x (inr is) = inr (subst (λ x. place_in whole x < place) is l)

  mutual
    visited_grown : {order longer : List ℕ} {m : ℕ} → Visited datas state order m longer → ((x : ℕ) → holds longer x ≡ true → holds whole x ≡ true) → (place : ℕ) → BeforePlace datas state whole place m → Grown order longer place
    visited_grown {order} (already h) within place before = unchanged order place
    visited_grown {order} (without_outputs h is none) within place before = unchanged order place
    visited_grown (behind_its_uses {m = m} {count = count} {it = it} h is some uses) within place (inl none) = absurd (outputs_differ facts datas state m count it is some none)
    visited_grown {order} (behind_its_uses {longer = longer} {m = m} {it = it} h is some uses) within place (inr l) =
        one_grown order longer m place h l
        (all_grown uses (λ x e. within x (holds_longer longer (m ∷ []) x e)) (place_in whole m) (uses_before m it (within m (holds_last longer m)) is))

    all_grown : {order longer ms : List ℕ} → AllVisited datas state order ms longer → ((x : ℕ) → holds longer x ≡ true → holds whole x ≡ true) → (place : ℕ) → AllBefore datas state whole place ms → Grown order longer place
    all_grown {order} none_visited within place before = unchanged order place
    all_grown (visited_and first rest) within place before =
        then_grown (visited_grown first (λ x e. within x (all_more rest x e)) place before.0) (all_grown rest within place before.1)

order_below : (ground : Ground) (state : List Made) (ms : List ℕ) (modules : List Module) → AreModules ground state ms modules → AllBelow (length state) ms
order_below ground state [] modules all = tt
order_below ground state (m ∷ ms) [] all = absurd all
order_below ground state (m ∷ ms) (built ∷ more) all = (slice_get_within state m all.0.0 all.0.1, order_below ground state ms more all.1)

pub modules_few : Facts → (p : Program) (state : List Made) (net : Net) → Built p state net → length net.modules ≤ length state
modules_few facts p state net of =
    let below : List ℕ = of.is_order.below in
    let whole : List ℕ = below ++ 0 ∷ [] in
    let behind : Behind p.datas state whole = subst (λ order. Behind p.datas state order) of.is_order.whole (order_behind p state net of) in
    let before = uses_before facts p.datas state whole behind 0 of.is_order.top (holds_last below 0) of.is_order.is_top in
    let grown = all_grown facts p.datas state whole behind of.is_order.visited (λ x e. holds_longer below (0 ∷ []) x e) (place_in whole 0) before in
    let fresh : holds below 0 ≡ false = not_true (holds below 0) (λ e. again below (grown.new 0 e)) in
    let distinct : Distinct of.order = subst Distinct (sym of.is_order.whole) (distinct_end below 0 (grown.distinct tt) fresh) in
    let few = distinct_few (length state) of.order distinct (order_below (ground_of p of.order) state of.order net.modules of.modules) in
    let many = as_many (ground_of p of.order) state of.order net.modules of.modules in
    omega (arith, few, many)
  where
    again : (below : List ℕ) → (holds [] 0 ≡ true) ⊎ (place_in (below ++ 0 ∷ []) 0 < place_in (below ++ 0 ∷ []) 0) → ⊥
    again below (inl e) = absurd cc
    again below (inr l) = omega (arith, l)
