-- Choices and tests: the last wire settles by each test and by each result.
use Rattle.std.specs.Prelude.{reverse, zip}
use Rattle.std.proofs.Common.{◌≡◌, ◌<◌, ℕ, zero, suc, ◌+◌, ◌-◌, Bool, List, [], ◌∷◌, length, map, Some, slice_get, refl, sym, ap, ◌∙◌, subst, arith}
use Rattle.std.proofs.lemmas.Grind.{reverse_onto}
use Rattle.std.proofs.lemmas.List.{length-reverse}
use Rattle.chw_base.specs.declared.index.WireId.{WireId}
use Rattle.netlist.specs.declared.net.Cell.TheVariants.{Const, Bin, Mux}
use Rattle.netlist.specs.declared.net.Net.{Net}
use Rattle.netlist.specs.declared.net.Op2.TheVariants.{Eq}
use Rattle.net_built.specs.Data.{test, last_of, choices, chosen}
use Rattle.net_built.specs.Wires.{wire, last_wire}
use Rattle.net_built.specs.Words.{only}
use Rattle.cell_bits.specs.Bearing.{HasCells}
use Rattle.net_means.specs.WireOrder.Awaits.{by_more}
use Rattle.net_means.proofs.WireOrder.Reached.{Held, read_only, in_front, behind, Meets, Ends, cell_meets}

-- what stands in a list stands in it from behind
in_reverse : {A : Type 0} (xs : List A) (i : ℕ) (x : A) → slice_get xs i ≡ Some x → (j : ℕ) × (slice_get (reverse xs) j ≡ Some x)
in_reverse [] i x e = absurd cc
in_reverse (y ∷ xs) zero x e =
    (length (reverse xs) + 0, ap (λ ys. slice_get ys (length (reverse xs) + 0)) (reverse_onto xs y []) ∙ behind (reverse xs) (y ∷ []) 0 (length (reverse xs) + 0) x refl e)
in_reverse (y ∷ xs) (suc i) x e =
    let rest = in_reverse xs i x e in
    (rest.0, ap (λ ys. slice_get ys rest.0) (reverse_onto xs y []) ∙ in_front (reverse xs) (y ∷ []) rest.0 x rest.1)

-- what stands at one place of two lists stands there side by side
beside : {A B : Type 0} (xs : List A) (ys : List B) (i : ℕ) (x : A) (y : B) → slice_get xs i ≡ Some x → slice_get ys i ≡ Some y → slice_get (zip xs ys) i ≡ Some (x, y)
beside [] ys i x y e f = absurd cc
beside (a ∷ xs) [] i x y e f = absurd cc
beside (a ∷ xs) (b ∷ ys) zero x y e f =
    let first : a ≡ x = cc in
    let second : b ≡ y = cc in
    λ i. Some (first i, second i)
beside (a ∷ xs) (b ∷ ys) (suc i) x y e f = beside xs ys i x y e f

pub result_there : (results : List (List WireId)) (k : ℕ) (r : List WireId) → slice_get results k ≡ Some r → slice_get (map only results) k ≡ Some (only r)
result_there [] k r e = absurd cc
result_there (s ∷ results) zero r e = let is : s ≡ r = cc in ap (λ ws. Some (only ws)) is
result_there (s ∷ results) (suc k) r e = result_there results k r e

pub last_there : (results : List (List WireId)) (k : ℕ) (r : List WireId) → slice_get results k ≡ Some r → suc k ≡ length results → last_of results ≡ r
last_there [] k r e l = absurd cc
last_there (s ∷ []) zero r e l = cc
last_there (s ∷ []) (suc k) r e l = absurd cc
last_there (s ∷ u ∷ more) zero r e l = absurd (omega (arith, l))
last_there (s ∷ u ∷ more) (suc k) r e l = last_there (u ∷ more) k r e (omega (arith, l))

choice_count : (w : ℕ) (xs : List (WireId × WireId)) (other : WireId) (at : ℕ) → length (choices (suc w) xs other at).widths ≡ length xs
choice_count w [] other at = refl
choice_count w (x ∷ xs) other at = ap (λ k. suc k) (choice_count w xs (wire at) (at + 1))

module _ (net : Net) (path : List ℕ) (w : ℕ) where
  -- the last choice settles by what the first has where its test fails
  choices_other : (x : WireId × WireId) (xs : List (WireId × WireId)) (other : WireId) (at : ℕ) → HasCells net path (choices (suc w) (x ∷ xs) other at).cells → Meets net path (at + suc (length xs) - 1) other.number
  choices_other x [] other at has =
      let number : at ≡ at + 1 - 1 = omega arith in
      subst (λ n. Meets net path n other.number) number (cell_meets net path (choices (suc w) (x ∷ []) other at).cells 0 2 at (Mux (wire at) x.0 x.1 other) other has refl tt refl refl)
  choices_other x (y ∷ xs) other at has =
      let own : Meets net path at other.number = cell_meets net path (choices (suc w) (x ∷ y ∷ xs) other at).cells 0 2 at (Mux (wire at) x.0 x.1 other) other has refl tt refl refl in
      let rest : Meets net path (at + 1 + suc (length xs) - 1) at = choices_other y xs (wire at) (at + 1) (λ i c e. has (suc i) c e) in
      let number : at + 1 + suc (length xs) - 1 ≡ at + suc (suc (length xs)) - 1 = omega arith in
      subst (λ n. Meets net path n other.number) number (by_more rest own)

  -- and by each pair of a test and a result
  choices_pair : (xs : List (WireId × WireId)) (i : ℕ) (x : WireId × WireId) (other : WireId) (at : ℕ) → slice_get xs i ≡ Some x → HasCells net path (choices (suc w) xs other at).cells
      → Meets net path (at + length xs - 1) x.0.number × Meets net path (at + length xs - 1) x.1.number
  choices_pair [] i x other at e has = absurd cc
  choices_pair (y ∷ []) zero x other at e has =
      let is : y ≡ x = cc in
      let number : at ≡ at + 1 - 1 = omega arith in
      subst (λ (z : WireId × WireId). Meets net path (at + 1 - 1) z.0.number × Meets net path (at + 1 - 1) z.1.number) is
      (subst (λ n. Meets net path n y.0.number × Meets net path n y.1.number) number (
        cell_meets net path (choices (suc w) (y ∷ []) other at).cells 0 0 at (Mux (wire at) y.0 y.1 other) y.0 has refl tt refl refl,
        cell_meets net path (choices (suc w) (y ∷ []) other at).cells 0 1 at (Mux (wire at) y.0 y.1 other) y.1 has refl tt refl refl,
      ))
  choices_pair (y ∷ []) (suc i) x other at e has = absurd cc
  choices_pair (y ∷ z ∷ xs) zero x other at e has =
      let is : y ≡ x = cc in
      let cells = (choices (suc w) (y ∷ z ∷ xs) other at).cells in
      let rest : Meets net path (at + 1 + suc (length xs) - 1) at = choices_other z xs (wire at) (at + 1) (λ i c e. has (suc i) c e) in
      let number : at + 1 + suc (length xs) - 1 ≡ at + suc (suc (length xs)) - 1 = omega arith in
      let last : Meets net path (at + suc (suc (length xs)) - 1) at = subst (λ n. Meets net path n at) number rest in
      subst (λ (u : WireId × WireId). Meets net path (at + suc (suc (length xs)) - 1) u.0.number × Meets net path (at + suc (suc (length xs)) - 1) u.1.number) is (
        by_more last (cell_meets net path cells 0 0 at (Mux (wire at) y.0 y.1 other) y.0 has refl tt refl refl),
        by_more last (cell_meets net path cells 0 1 at (Mux (wire at) y.0 y.1 other) y.1 has refl tt refl refl),
      )
  choices_pair (y ∷ z ∷ xs) (suc i) x other at e has =
      let rest = choices_pair (z ∷ xs) i x (wire at) (at + 1) e (λ i c e. has (suc i) c e) in
      let number : at + 1 + suc (length xs) - 1 ≡ at + suc (suc (length xs)) - 1 = omega arith in
      subst (λ n. Meets net path n x.0.number × Meets net path n x.1.number) number rest

  -- of tests and results those at one place
  pub chosen_pair : (tested : List WireId) (results : List (List WireId)) (k at : ℕ) (t : WireId) (r : List WireId) → slice_get tested k ≡ Some t → slice_get results k ≡ Some r → HasCells net path (chosen (suc w) tested results at).cells
      → Ends net path at (chosen (suc w) tested results at) t × Ends net path at (chosen (suc w) tested results at) (only r)
  chosen_pair tested results k at t r e f has =
      let pairs : List (WireId × WireId) = reverse (zip tested (map only results)) in
      let there = in_reverse (zip tested (map only results)) k (t, only r) (beside tested (map only results) k t (only r) e (result_there results k r f)) in
      let meets = choices_pair pairs there.0 (t, only r) (only (last_of results)) at there.1 has in
      let count : length pairs ≡ length (chosen (suc w) tested results at).widths = sym (choice_count w pairs (only (last_of results)) at) in
      subst (λ n. Meets net path (at + n - 1) t.number × Meets net path (at + n - 1) (only r).number) count meets

  some_other : (xs : List (WireId × WireId)) (other : WireId) (at : ℕ) → 0 < length xs → HasCells net path (choices (suc w) xs other at).cells → Meets net path (at + length xs - 1) other.number
  some_other [] other at l has = absurd (omega (arith, l))
  some_other (x ∷ xs) other at l has = choices_other x xs other at has

  -- and the last result, where there is a test
  pub chosen_last : (t : WireId) (tested : List WireId) (r : List WireId) (results : List (List WireId)) (at : ℕ) → HasCells net path (chosen (suc w) (t ∷ tested) (r ∷ results) at).cells
      → Ends net path at (chosen (suc w) (t ∷ tested) (r ∷ results) at) (only (last_of (r ∷ results)))
  chosen_last t tested r results at has =
      let pairs : List (WireId × WireId) = reverse (zip (t ∷ tested) (map only (r ∷ results))) in
      let long : length pairs ≡ suc (length (zip tested (map only results))) = length-reverse (zip (t ∷ tested) (map only (r ∷ results))) in
      let other : WireId = only (last_of (r ∷ results)) in
      let count : length pairs ≡ length (chosen (suc w) (t ∷ tested) (r ∷ results) at).widths = sym (choice_count w pairs other at) in
      subst (λ n. Meets net path (at + n - 1) other.number) count (some_other pairs other at (omega (arith, long)) has)

module _ (net : Net) (path : List ℕ) where
  -- a test of bits settles by the wire that has them
  pub test_ends : (k u i at : ℕ) (a : List WireId) (bits : List Bool) (v : WireId) → 0 < k → Held a u → slice_get a i ≡ Some v → HasCells net path (test k a bits at).cells → Meets net path (last_wire at (test k a bits at)).number v.number
  test_ends zero u i at a bits v some h e has = absurd (omega (arith, some))
  test_ends (suc k) u i at a bits v some h e has =
      let number : at + 1 ≡ at + 2 - 1 = omega arith in
      subst (λ n. Meets net path n v.number) number
      (cell_meets net path (Const (wire at) bits ∷ Bin (wire (at + 1)) Eq (only a) (wire at) ∷ []) 1 0 (at + 1) (Bin (wire (at + 1)) Eq (only a) (wire at)) v has refl tt refl (read_only a u i v h e))
