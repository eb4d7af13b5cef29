-- Wires of pieces and their widths: where the widths of a piece stand among all, its last wires have
-- the widths that it ends with.
use Rattle.std.proofs.Common.{◌≡◌, ℕ, zero, suc, ◌+◌, ◌-◌, ◌≤◌, ◌^◌, min, arith, Bool, List, [], ◌∷◌, ◌++◌, length, map, reverse, Some, refl, sym, ap, ◌∙◌, subst, length-append, append-nil, append_assoc}
use Rattle.std.specs.Prelude.{zip}
use Rattle.std.specs.List.{slice_get, AllByRecursion}
use Rattle.std.proofs.lemmas.List.{length-reverse}
use Rattle.chw_base.specs.declared.index.WireId.{WireId}
use Rattle.net_built.specs.Data.{tests, test_wires, choices, chosen, chosen_wires, last_of}
use Rattle.net_built.specs.Vectors.{elements, element_wires, words_from, element_at}
use Rattle.net_built.specs.Wires.{wire, wires_from, new_wires, present, wire_count, Piece, ◌▸◌, after, last_wires}
use Rattle.net_built.specs.Words.{only}
use Rattle.net_means.specs.NetFits.Widths.{AreWide, StandFrom}

pub stand_parts : (all : List ℕ) (n : ℕ) (xs ys : List ℕ) → StandFrom all n (xs ++ ys) → StandFrom all n xs × StandFrom all (n + length xs) ys
stand_parts all n [] ys h = let place : n ≡ n + 0 = omega arith in (tt, subst (λ n. StandFrom all n ys) place h)
stand_parts all n (x ∷ xs) ys h =
    let rest = stand_parts all (n + 1) xs ys h.1 in
    let place : n + 1 + length xs ≡ n + suc (length xs) = omega arith in
    ((h.0, rest.0), subst (λ n. StandFrom all n ys) place rest.1)

pub stand_one : (front : List ℕ) (w : ℕ) (back : List ℕ) → slice_get (front ++ w ∷ back) (length front) ≡ Some w
stand_one [] w back = refl
stand_one (x ∷ front) w back = stand_one front w back

-- what comes behind others stands behind them
stand_behind : (all front ws : List ℕ) (n : ℕ) → all ≡ front ++ ws → n ≡ length front → StandFrom all n ws
stand_behind all front [] n e l = tt
stand_behind all front (w ∷ ws) n e l =
    let longer : length (front ++ w ∷ []) ≡ length front + 1 = length-append front (w ∷ []) in
    let next : n + 1 ≡ length (front ++ w ∷ []) = omega (arith, l, longer) in (
      ap (λ n. slice_get all n) l ∙ ap (λ all. slice_get all (length front)) e ∙ stand_one front w ws,
      stand_behind all (front ++ w ∷ []) ws (n + 1) (e ∙ sym (append_assoc front (w ∷ []) ws)) next,
    )

pub all_stand : (all : List ℕ) → StandFrom all 0 all
all_stand all = stand_behind all [] all 0 refl refl

pub wide_from : (all : List ℕ) (n : ℕ) (ws : List ℕ) → StandFrom all n ws → AreWide all (wires_from n (length ws)) ws
wide_from all n [] h = tt
wide_from all n (w ∷ ws) h = (h.0, wide_from all (n + 1) ws h.1)

pub wide_length : (all : List ℕ) (wires : List WireId) (ws : List ℕ) → AreWide all wires ws → length wires ≡ length ws
wide_length all [] [] h = refl
wide_length all [] (w ∷ ws) h = absurd h
wide_length all (a ∷ wires) [] h = absurd h
wide_length all (a ∷ wires) (w ∷ ws) h = ap suc (wide_length all wires ws h.1)

-- where there is a wire with a width, there are wires
some_width : (all : List ℕ) (n w : ℕ) → slice_get all n ≡ Some w → 1 ≤ length all
some_width [] n w e = absurd cc
some_width (x ∷ all) n w e = omega arith

pub wide_some : (all : List ℕ) (wires : List WireId) (ws : List ℕ) → AreWide all wires ws → 1 ≤ length wires → 1 ≤ length all
wide_some all [] ws h l = absurd (omega (arith, l))
wide_some all (a ∷ wires) [] h l = absurd h
wide_some all (a ∷ wires) (w ∷ ws) h l = some_width all a.number w h.0

-- the piece ends with a part of this width
pub record Ends (p : Piece) (w : ℕ) : Type 0 where
  pub front : List ℕ
  pub is : p.widths ≡ front ++ present (w ∷ [])

pub ends_alone : (p : Piece) (w : ℕ) → p.widths ≡ present (w ∷ []) → Ends p w
ends_alone p w e = record { front = []; is = e }

pub ends_then : (p q : Piece) (w : ℕ) → Ends q w → Ends (p ▸ q) w
ends_then p q w e = record { front = p.widths ++ e.front; is = ap (λ ws. p.widths ++ ws) e.is ∙ sym (append_assoc p.widths e.front (present (w ∷ []))) }

-- nothing comes behind
pub ends_before : (p q : Piece) (w : ℕ) → q.widths ≡ [] → Ends p w → Ends (p ▸ q) w
ends_before p q w none e = record { front = e.front; is = ap (λ ws. p.widths ++ ws) none ∙ append-nil p.widths ∙ e.is }

pub ends_wide : (all : List ℕ) (n w : ℕ) (p : Piece) → StandFrom all n p.widths → Ends p w → AreWide all (last_wires n p (w ∷ [])) (present (w ∷ []))
ends_wide all n w p h e =
    let last : List ℕ = present (w ∷ []) in
    let count : length p.widths ≡ length e.front + length last = ap (λ (ws : List ℕ). length ws) e.is ∙ length-append e.front last in
    let place : n + length e.front ≡ n + length p.widths - length last = omega (arith, count) in
    let there : StandFrom all (n + length e.front) last = (stand_parts all n e.front last (subst (StandFrom all n) e.is h)).1 in
    wide_from all (n + length p.widths - length last) last (subst (λ n. StandFrom all n last) place there)

pub choices_end : (w : ℕ) (xs : List (WireId × WireId)) (other : WireId) (at : ℕ) → 1 ≤ length xs → Ends (choices w xs other at) w
choices_end w [] other at l = absurd (omega (arith, l))
choices_end w (x ∷ []) other at l = record { front = []; is = append-nil (present (w ∷ [])) }
choices_end w (x ∷ y ∷ more) other at l =
    let rest : Ends (choices w (y ∷ more) (wire at) (at + 1)) w = choices_end w (y ∷ more) (wire at) (at + 1) (omega arith) in
    record { front = present (w ∷ []) ++ rest.front; is = ap (λ ws. present (w ∷ []) ++ ws) rest.is ∙ sym (append_assoc (present (w ∷ [])) rest.front (present (w ∷ []))) }

pub chosen_end : (w : ℕ) (t : WireId) (ts : List WireId) (r : List WireId) (rs : List (List WireId)) (at : ℕ) → Ends (chosen w (t ∷ ts) (r ∷ rs) at) w
chosen_end w t ts r rs at =
    let count = length-reverse (zip (t ∷ ts) (map only (r ∷ rs))) in
    let some : 1 ≤ length (reverse (zip (t ∷ ts) (map only (r ∷ rs)))) = omega (arith, count) in
    choices_end w (reverse (zip (t ∷ ts) (map only (r ∷ rs)))) _ at some

elements_end : (w behind at : ℕ) (v : List WireId) → Ends (elements w (suc behind) at v) w
elements_end w zero at v = record { front = []; is = append-nil (present (w ∷ [])) }
elements_end w (suc behind) at v =
    let rest = elements_end w behind (at + length (present (w ∷ []))) v in
    record { front = present (w ∷ []) ++ rest.front; is = ap (λ ws. present (w ∷ []) ++ ws) rest.is ∙ sym (append_assoc (present (w ∷ [])) rest.front (present (w ∷ []))) }

tested_end : (w k n m : ℕ) (i : List WireId) (words : List (List Bool)) (p : Piece) (r : List WireId) (rs : List (List WireId)) → Ends p w → Ends (p ▸ tests k i words m ▸ chosen w (test_wires k i words m) (r ∷ rs) n) w
tested_end w k n m i [] p r rs e = ends_before p _ w refl e
tested_end w k n m i (bits ∷ more) p r rs e =
    ends_then p _ w (ends_then (tests k i (bits ∷ more) m) _ w (chosen_end w _ _ r rs n))

indexed_end : (w n c k at : ℕ) (v i : List WireId) → c ≡ suc n
    → Ends (elements w c at v ▸ tests k i (words_from k 0 (min n (2 ^ k))) (after at (elements w c at v)) ▸ chosen w (test_wires k i (words_from k 0 (min n (2 ^ k))) (after at (elements w c at v))) (element_wires w c at) (after (after at (elements w c at v)) (tests k i (words_from k 0 (min n (2 ^ k))) (after at (elements w c at v))))) w
indexed_end w n zero k at v i e = absurd (omega (arith, e))
indexed_end w n (suc c) k at v i e =
    let p : Piece = elements w (suc c) at v in
    let words : List (List Bool) = words_from k 0 (min n (2 ^ k)) in
    tested_end w k (after (after at p) (tests k i words (after at p))) (after at p) i words p (new_wires at (w ∷ [])) (element_wires w c (at + wire_count (w ∷ []))) (elements_end w c at v)

pub element_at_ends : (w n k at : ℕ) (v i : List WireId) → Ends (element_at w n k at v i) w
element_at_ends w n k at v i = indexed_end w n (n + 1) k at v i (omega arith)

-- the wires of a choice, if what is chosen of has the width
pub last_wide : (all ws : List ℕ) (r : List WireId) (rs : List (List WireId)) → AllByRecursion (λ (r : List WireId). AreWide all r ws) (r ∷ rs) → AreWide all (last_of (r ∷ rs)) ws
last_wide all ws r [] h = h.0
last_wide all ws r (x ∷ rs) h = last_wide all ws x rs h.1

pub choice_wide : (all : List ℕ) (w : ℕ) (ts : List WireId) (r : List WireId) (rs : List (List WireId)) (at : ℕ) → AllByRecursion (λ (r : List WireId). AreWide all r (present (w ∷ []))) (r ∷ rs) → StandFrom all at (chosen w ts (r ∷ rs) at).widths → AreWide all (chosen_wires w ts (r ∷ rs) at) (present (w ∷ []))
choice_wide all w [] r rs at h stand = last_wide all (present (w ∷ [])) r rs h
choice_wide all w (t ∷ ts) r rs at h stand = ends_wide all at w (chosen w (t ∷ ts) (r ∷ rs) at) stand (chosen_end w t ts r rs at)
