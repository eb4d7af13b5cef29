-- Where each of some wires is fed by another one of them, there is a loop.
use Rattle.std.proofs.Common.{◌≡◌, ℕ, zero, suc, ◌+◌, ◌-◌, ◌<◌, ◌≤◌, Bool, true, List, [], ◌∷◌, length, get_or, ◌⊎◌, inl, inr, refl, ap, sym, subst, ◌∙◌, arith}
use Rattle.std.specs.Prelude.{map}
use Rattle.std.proofs.lemmas.Bool.{cases_lt}
use Rattle.chw_base.specs.declared.index.WireId.{WireId}
use Rattle.netlist.specs.Feeds.{Feeds}
use Rattle.netlist.specs.Orders.{IsCycle, IsLoop, LeastFirst, wire_numbers}
use Rattle.netlist.specs.declared.net.Flat.{Flat}
use Rattle.netlist.proofs.Periods.{Period, after, after_sum}

abbrev as_wires : List ℕ → List WireId
as_wires numbers = map (λ n. record { number = n }) numbers

numbers_of_wires : (numbers : List ℕ) → wire_numbers (as_wires numbers) ≡ numbers
numbers_of_wires [] = refl
numbers_of_wires (n ∷ numbers) = ap (λ ns. n ∷ ns) (numbers_of_wires numbers)

-- the steps from a number, the last one first
abbrev backwards : (ℕ → ℕ) → ℕ → ℕ → List ℕ
backwards f w zero = []
backwards f w (suc k) = after f (suc k) w ∷ backwards f w k

count : (f : ℕ → ℕ) (w k : ℕ) → length (backwards f w k) ≡ k
count f w zero = refl
count f w (suc k) = ap suc (count f w k)

item : (f : ℕ → ℕ) (w k i : ℕ) → i < k → get_or (backwards f w k) i 0 ≡ after f (k - i) w
item f w zero i lt = absurd (omega (arith, lt))
item f w (suc k) zero lt = let e : suc k ≡ suc k - 0 = omega arith in ap (λ n. after f n w) e
item f w (suc k) (suc i) lt =
    let e : k - i ≡ suc k - suc i = omega arith in item f w k i (omega (arith, lt)) ∙ ap (λ n. after f n w) e

module _ (flat : Flat) (f : ℕ → ℕ) (marked : ℕ → Bool) (keeps : (w : ℕ) → marked w ≡ true → marked (f w) ≡ true)
    (feeds : (w : ℕ) → marked w ≡ true → Feeds flat.cells (f w) w) (p : Period f marked) where
  along : (k : ℕ) → marked (after f k p.start) ≡ true
  along zero = p.is_marked
  along (suc k) = keeps (after f k p.start) (along k)

  wires : List ℕ
  wires = backwards f p.start p.steps

  wires_count : length wires ≡ p.steps
  unfolding wires
  wires_count = count f p.start p.steps

  wire_at : (i : ℕ) → i < length wires → get_or wires i 0 ≡ after f (p.steps - i) p.start
  unfolding wires
  wire_at i lt = item f p.start p.steps i (omega (arith, lt, count f p.start p.steps))

  first_wire : get_or wires 0 0 ≡ p.start
  first_wire =
      let e : p.steps - 0 ≡ p.steps = omega arith in
      wire_at 0 (omega (arith, wires_count, p.some)) ∙ ap (λ n. after f n p.start) e ∙ p.back

  -- two of the steps round lead to different wires
  differ : (a b : ℕ) → a < b → b ≤ p.steps → 1 ≤ a → after f a p.start ≡ after f b p.start → ⊥
  differ a b lt le some e =
      let rest = p.steps - b in
      let whole : rest + b ≡ p.steps = omega (arith, le) in
      let round : after f (rest + a) p.start ≡ p.start =
      after_sum f rest a p.start ∙ ap (after f rest) e ∙ sym (after_sum f rest b p.start) ∙ ap (λ n. after f n p.start) whole ∙ p.back in
      p.first (rest + a) (omega (arith, some)) (omega (arith, lt, le)) round

  once : (i j : ℕ) → i < length wires → j < length wires → get_or wires i 0 ≡ get_or wires j 0 → i ≡ j
  once i j lt lt' e = by_order (cases_lt i j) (cases_lt j i)
    where
      same : after f (p.steps - i) p.start ≡ after f (p.steps - j) p.start
      same = sym (wire_at i lt) ∙ e ∙ wire_at j lt'

      by_order : (i < j) ⊎ (j ≤ i) → (j < i) ⊎ (i ≤ j) → i ≡ j
      by_order (inl less) o =
          absurd (differ (p.steps - j) (p.steps - i) (omega (arith, less, lt', wires_count)) (omega arith) (omega (arith, lt', wires_count)) (sym same))
      by_order (inr le) (inl less) =
          absurd (differ (p.steps - i) (p.steps - j) (omega (arith, less, lt, wires_count)) (omega arith) (omega (arith, lt, wires_count)) same)
      by_order (inr le) (inr le') = omega (arith, le, le')

  fed : (i : ℕ) → i + 1 < length wires → Feeds flat.cells (get_or wires i 0) (get_or wires (i + 1) 0)
  fed i lt =
      let k = p.steps - (i + 1) in
      let e : suc k ≡ p.steps - i = omega (arith, lt, wires_count) in
      let from : f (after f k p.start) ≡ get_or wires i 0 = ap (λ n. after f n p.start) e ∙ sym (wire_at i (omega (arith, lt))) in
      subst (λ v. Feeds flat.cells v (get_or wires (i + 1) 0)) from
      (subst (λ w. Feeds flat.cells (f (after f k p.start)) w) (sym (wire_at (i + 1) lt)) (feeds (after f k p.start) (along k)))

  closed : (i : ℕ) → i + 1 ≡ length wires → Feeds flat.cells (get_or wires i 0) (get_or wires 0 0)
  closed i e =
      let one : p.steps - i ≡ 1 = omega (arith, e, wires_count) in
      let from : f p.start ≡ get_or wires i 0 = sym (wire_at i (omega (arith, e)) ∙ ap (λ n. after f n p.start) one) in
      subst (λ v. Feeds flat.cells v (get_or wires 0 0)) from
      (subst (λ w. Feeds flat.cells (f p.start) w) (sym first_wire) (feeds p.start p.is_marked))

  is_cycle : IsCycle flat.cells wires
  is_cycle = record { some = omega (arith, wires_count, p.some); once = once; feeds = fed; closes = closed }

  is_least : LeastFirst wires
  is_least i lt = let least = p.least (p.steps - i) in omega (arith, least, first_wire, wire_at i lt)

  pub a_loop : (cycle : List WireId) × IsLoop flat cycle
  a_loop = (as_wires wires, (subst (λ ws. IsCycle flat.cells ws × LeastFirst ws) (sym (numbers_of_wires wires)) (is_cycle, is_least)))
