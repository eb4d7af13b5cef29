-- The cells that take elements, that test and that choose agree in width.
use Rattle.std.specs.Prelude.{zip}
use Rattle.std.proofs.Common.{◌≡◌, ℕ, zero, suc, ◌+◌, ◌-◌, ◌*◌, ◌^◌, ◌<◌, ◌≤◌, min, arith, Bool, true, List, [], ◌∷◌, length, map, reverse, Some, refl, ap, ◌∙◌, subst}
use Rattle.std.specs.List.{AllByRecursion}
use Rattle.chw_base.specs.declared.index.WireId.{WireId}
use Rattle.netlist.specs.Sound.{HasWidth}
use Rattle.netlist.specs.declared.net.Cell.TheVariants.{Const, Cut, Bin, Mux}
use Rattle.netlist.specs.declared.net.Module.{Module}
use Rattle.netlist.specs.declared.net.Op2.TheVariants.{Eq}
use Rattle.net_built.specs.Data.{test, tests, test_wires, choices, chosen, last_of}
use Rattle.net_built.specs.Vectors.{element, elements, element_wires, words_from, element_at}
use Rattle.net_built.specs.Wires.{wire, new_wires, wire_count, present, Piece, ◌▸◌, one, after}
use Rattle.net_built.specs.Words.{only}
use Rattle.net_means.proofs.Lists.{length-bits_of}
use Rattle.net_means.specs.NetFits.Widths.{AreWide, StandFrom}
use Rattle.net_means.proofs.NetFits.Reading.{all_reverse}
use Rattle.net_means.proofs.NetFits.ValueWidths.{EachWide}
use Rattle.net_means.proofs.NetFits.Wide.{Ends, ends_alone, ends_then, last_wide, stand_parts, wide_from}
use Rattle.net_means.proofs.NetFits.WordWidths.{Agree, const_agrees, given_wide, last_has, none_agree, one_agrees, only_wide, then_agree}

-- these words have so many bits
abbrev pub EachLong : ℕ → List (List Bool) → Type 0
EachLong k words = AllByRecursion (λ (bits : List Bool). length bits ≡ k) words

pub words_long : (k j count : ℕ) → EachLong k (words_from k j count)
words_long k j zero = tt
words_long k j (suc count) = (length-bits_of k j, words_long k (j + 1) count)

module _ (earlier : List Module) (all : List ℕ) where
  test_ends : (k : ℕ) (a : List WireId) (bits : List Bool) (at : ℕ) → Ends (test k a bits at) 1
  test_ends zero a bits at = ends_alone (test zero a bits at) 1 refl
  test_ends (suc k) a bits at = ends_then (one (suc k) (Const (wire at) bits)) (one 1 (Bin (wire (at + 1)) Eq (only a) (wire at))) 1 (ends_alone (one 1 (Bin (wire (at + 1)) Eq (only a) (wire at))) 1 refl)

  test_agrees : (k : ℕ) (a : List WireId) (bits : List Bool) (at : ℕ) → length bits ≡ k → AreWide all a (present (k ∷ [])) → StandFrom all at (test k a bits at).widths → Agree earlier all (test k a bits at)
  test_agrees zero a bits at size h stand = const_agrees earlier all at 1 (true ∷ []) refl stand
  test_agrees (suc k) a bits at size h stand =
      then_agree earlier all at (one (suc k) (Const (wire at) bits)) (one 1 (Bin (wire (at + 1)) Eq (only a) (wire at))) stand
      (λ s. const_agrees earlier all at (suc k) bits size s)
      (λ s. one_agrees earlier all (at + 1) 1 (Bin (wire (at + 1)) Eq (only a) (wire at)) s (λ v e has. (s.0, (suc k, only_wide all a k h, stand.0))))

  pub tests_agree : (k : ℕ) (a : List WireId) (words : List (List Bool)) (at : ℕ) → EachLong k words → AreWide all a (present (k ∷ [])) → StandFrom all at (tests k a words at).widths → Agree earlier all (tests k a words at)
  tests_agree k a [] at long h stand = none_agree earlier all (tests k a [] at) refl
  tests_agree k a (bits ∷ more) at long h stand =
      then_agree earlier all at (test k a bits at) (tests k a more (after at (test k a bits at))) stand (λ s. test_agrees k a bits at long.0 h s) (λ s. tests_agree k a more (after at (test k a bits at)) long.1 h s)

  -- wires of one bit
  abbrev pub EachBit : List WireId → Type 0
  EachBit ws = AllByRecursion (λ (w : WireId). HasWidth all w 1) ws

  pub tests_wide : (k : ℕ) (a : List WireId) (words : List (List Bool)) (at : ℕ) → StandFrom all at (tests k a words at).widths → EachBit (test_wires k a words at)
  tests_wide k a [] at stand = tt
  tests_wide k a (bits ∷ more) at stand =
      let parts = stand_parts all at (test k a bits at).widths (tests k a more (after at (test k a bits at))).widths stand in
      (last_has earlier all at 0 (test k a bits at) parts.0 (test_ends k a bits at), tests_wide k a more (after at (test k a bits at)) parts.1)

  -- a test with what it chooses, of so many bits
  abbrev PairWide : ℕ → WireId × WireId → Type 0
  PairWide w x = HasWidth all x.0 1 × HasWidth all x.1 w

  nothing_agrees : (xs : List (WireId × WireId)) (other : WireId) (at : ℕ) → Agree earlier all (choices zero xs other at)
  nothing_agrees [] other at = none_agree earlier all (choices zero [] other at) refl
  nothing_agrees (x ∷ xs) other at = record { cells = (nothing_agrees xs (wire at) (at + 1)).cells }

  choices_agree : (w : ℕ) (xs : List (WireId × WireId)) (other : WireId) (at : ℕ) → AllByRecursion (PairWide (suc w)) xs → HasWidth all other (suc w) → StandFrom all at (choices (suc w) xs other at).widths → Agree earlier all (choices (suc w) xs other at)
  choices_agree w [] other at pairs h stand = none_agree earlier all (choices (suc w) [] other at) refl
  choices_agree w (x ∷ xs) other at pairs h stand =
      then_agree earlier all at (one (suc w) (Mux (wire at) x.0 x.1 other)) (choices (suc w) xs (wire at) (at + 1)) stand
      (λ s. one_agrees earlier all at (suc w) (Mux (wire at) x.0 x.1 other) s (λ v e has. (pairs.0.0, (suc w, s.0, pairs.0.1, h))))
      (λ s. choices_agree w xs (wire at) (at + 1) pairs.1 stand.0 s)

  onlies_wide : (w : ℕ) (rs : List (List WireId)) → EachWide all (suc w) rs → AllByRecursion (λ (x : WireId). HasWidth all x (suc w)) (map only rs)
  onlies_wide w [] h = tt
  onlies_wide w (r ∷ rs) h = (only_wide all r w h.0, onlies_wide w rs h.1)

  pairs_wide : (w : ℕ) (ts us : List WireId) → EachBit ts → AllByRecursion (λ (x : WireId). HasWidth all x w) us → AllByRecursion (PairWide w) (zip ts us)
  pairs_wide w [] us h g = tt
  pairs_wide w (t ∷ ts) [] h g = tt
  pairs_wide w (t ∷ ts) (u ∷ us) h g = ((h.0, g.0), pairs_wide w ts us h.1 g.1)

  pub chosen_agrees : (w : ℕ) (ts : List WireId) (r : List WireId) (rs : List (List WireId)) (at : ℕ) → EachBit ts → EachWide all w (r ∷ rs) → StandFrom all at (chosen w ts (r ∷ rs) at).widths → Agree earlier all (chosen w ts (r ∷ rs) at)
  chosen_agrees zero ts r rs at h g stand = nothing_agrees (reverse (zip ts (map only (r ∷ rs)))) (only (last_of (r ∷ rs))) at
  chosen_agrees (suc w) ts r rs at h g stand =
      choices_agree w (reverse (zip ts (map only (r ∷ rs)))) (only (last_of (r ∷ rs))) at
      (all_reverse (PairWide (suc w)) (zip ts (map only (r ∷ rs))) (pairs_wide (suc w) ts (map only (r ∷ rs)) h (onlies_wide w (r ∷ rs) g)))
      (only_wide all (last_of (r ∷ rs)) w (last_wide all (suc w ∷ []) r rs g)) stand

  -- the element behind which stand so many, and before it so many
  pub element_agrees : (w before behind at : ℕ) (v : List WireId) → AreWide all v (present ((before + suc behind) * w ∷ [])) → StandFrom all at (present (w ∷ [])) → Agree earlier all (element w behind at v)
  element_agrees w before behind at v h stand =
      one_agrees earlier all at w (Cut (wire at) (only v) ((behind + 1) * w - 1) (behind * w)) stand
      (λ x e has.
      let whole : (before + suc behind) * w ≡ before * w + (behind * w + w) = omega arith in
      let upper : (behind + 1) * w ≡ behind * w + w = omega arith in
      let some : (before + suc behind) * w ≡ suc (before * w + behind * w + x) = omega (arith, whole, e) in
      let order : behind * w ≤ (behind + 1) * w - 1 = omega (arith, upper, e) in
      let size : suc x ≡ (behind + 1) * w - 1 - behind * w + 1 = omega (arith, upper, e) in
      let less : (behind + 1) * w - 1 < suc (before * w + behind * w + x) = omega (arith, upper, e) in
      (order, has ∙ ap (λ n. Some n) size, (suc (before * w + behind * w + x), less, given_wide earlier all v ((before + suc behind) * w) (before * w + behind * w + x) some h)))

  elements_agree : (w before count at : ℕ) (v : List WireId) → AreWide all v (present ((before + count) * w ∷ [])) → StandFrom all at (elements w count at v).widths → Agree earlier all (elements w count at v)
  elements_agree w before zero at v h stand = none_agree earlier all (elements w zero at v) refl
  elements_agree w before (suc behind) at v h stand =
      let same : before + suc behind ≡ (before + 1) + behind = omega arith in
      then_agree earlier all at (element w behind at v) (elements w behind (after at (element w behind at v)) v) stand
      (λ s. element_agrees w before behind at v h s)
      (λ s. elements_agree w (before + 1) behind (after at (element w behind at v)) v (subst (λ c. AreWide all v (present (c * w ∷ []))) same h) s)

  elements_wide : (w count at : ℕ) (v : List WireId) → StandFrom all at (elements w count at v).widths → EachWide all w (element_wires w count at)
  elements_wide w zero at v stand = tt
  elements_wide w (suc behind) at v stand =
      let parts = stand_parts all at (present (w ∷ [])) (elements w behind (after at (element w behind at v)) v).widths stand in
      (wide_from all at (present (w ∷ [])) parts.0, elements_wide w behind (at + wire_count (w ∷ [])) v parts.1)

  indexed_agrees : (w n c k at : ℕ) (v i : List WireId) → c ≡ suc n → AreWide all v (present (c * w ∷ [])) → AreWide all i (present (k ∷ [])) → (words : List (List Bool)) → EachLong k words
      → StandFrom all at (elements w c at v ▸ tests k i words (after at (elements w c at v)) ▸ chosen w (test_wires k i words (after at (elements w c at v))) (element_wires w c at) (after (after at (elements w c at v)) (tests k i words (after at (elements w c at v))))).widths
      → Agree earlier all (elements w c at v ▸ tests k i words (after at (elements w c at v)) ▸ chosen w (test_wires k i words (after at (elements w c at v))) (element_wires w c at) (after (after at (elements w c at v)) (tests k i words (after at (elements w c at v)))))
  indexed_agrees w n zero k at v i e h g words long stand = absurd (omega (arith, e))
  indexed_agrees w n (suc c) k at v i e h g words long stand =
      let p : Piece = elements w (suc c) at v in
      let q : Piece = tests k i words (after at p) in
      let d : Piece = chosen w (test_wires k i words (after at p)) (element_wires w (suc c) at) (after (after at p) q) in
      let first = stand_parts all at p.widths (q ▸ d).widths stand in
      let second = stand_parts all (after at p) q.widths d.widths first.1 in
      let none : suc c ≡ 0 + suc c = omega arith in
      then_agree earlier all at p (q ▸ d) stand (λ s. elements_agree w 0 (suc c) at v (subst (λ c. AreWide all v (present (c * w ∷ []))) none h) s)
      (λ s. then_agree earlier all (after at p) q d s (λ s. tests_agree k i words (after at p) long g s)
      (λ s. chosen_agrees w (test_wires k i words (after at p)) (new_wires at (w ∷ [])) (element_wires w c (at + wire_count (w ∷ []))) (after (after at p) q) (tests_wide k i words (after at p) second.0) (elements_wide w (suc c) at v first.0) s))

  pub element_at_agrees : (w n k at : ℕ) (v i : List WireId) → AreWide all v (present ((n + 1) * w ∷ [])) → AreWide all i (present (k ∷ [])) → StandFrom all at (element_at w n k at v i).widths → Agree earlier all (element_at w n k at v i)
  element_at_agrees w n k at v i h g stand = indexed_agrees w n (n + 1) k at v i (omega arith) h g (words_from k 0 (min n (2 ^ k))) (words_long k 0 (min n (2 ^ k))) stand
