-- The cell that drives a wire, where each wire is driven once.
use Rattle.std.proofs.Common.{◌≡◌, ℕ, zero, suc, ◌≤◌, Bool, true, false, cond, eqb, List, [], ◌∷◌, ◌++◌, Some, inl, inr, sym, refl, ap, ◌∙◌, arith}
use Rattle.std.specs.Prelude.{slice_get}
use Rattle.std.specs.List.{flat_map, list_any}
use Rattle.std.proofs.lemmas.Bool.{false≢true, eqb-true, or_cases, or_left, or_right}
use Rattle.chw_base.specs.declared.index.WireId.{WireId}
use Rattle.net_rules.specs.WellFormed.{wire_driven_at}
use Rattle.netlist.specs.Sound.{EachOnce}
use Rattle.netlist.specs.Wires.{driven, driver, drives}
use Rattle.netlist.specs.declared.net.Cell.{Cell}

-- the wire of a number is among some
abbrev pub has_wire : ℕ → List WireId → Bool
has_wire n ws = list_any (λ (w : WireId). eqb w.number n) ws

any_append : (n : ℕ) (xs ys : List WireId) → has_wire n ys ≡ true → has_wire n (xs ++ ys) ≡ true
any_append n [] ys has = has
any_append n (x ∷ xs) ys has = or_right (eqb x.number n) (has_wire n (xs ++ ys)) (any_append n xs ys has)

any_front : (n : ℕ) (xs ys : List WireId) → has_wire n xs ≡ true → has_wire n (xs ++ ys) ≡ true
any_front n [] ys has = absurd (false≢true has)
any_front n (x ∷ xs) ys has =
    elim (or_cases (eqb x.number n) (has_wire n xs) has) [
      | inl here ↦ or_left (eqb x.number n) (has_wire n (xs ++ ys)) here
      | inr later ↦ or_right (eqb x.number n) (has_wire n (xs ++ ys)) (any_front n xs ys later)
    ]

-- what stands among wires stands at a place
place_of_wire : (n : ℕ) (ws : List WireId) → has_wire n ws ≡ true → (q : ℕ) × (wire_driven_at ws q ≡ Some n)
place_of_wire n [] has = absurd (false≢true has)
place_of_wire n (w ∷ ws) has =
    elim (or_cases (eqb w.number n) (has_wire n ws) has) [
      | inl here ↦ (0, ap Some (eqb-true w.number n here))
      | inr later ↦ let found = place_of_wire n ws later in (suc found.0, found.1)
    ]

abbrev StandOnce : List WireId → Type 0
StandOnce ws = (p q w : ℕ) → wire_driven_at ws p ≡ Some w → wire_driven_at ws q ≡ Some w → p ≡ q

once_behind : (x : WireId) (ws : List WireId) → StandOnce (x ∷ ws) → StandOnce ws
once_behind x ws once p q w first second = let same = once (suc p) (suc q) w first second in omega (arith, same)

once_later : (xs ys : List WireId) → StandOnce (xs ++ ys) → StandOnce ys
once_later [] ys once = once
once_later (x ∷ xs) ys once = once_later xs ys (once_behind x (xs ++ ys) once)

-- no wire stands in two parts
once_apart : (n : ℕ) (xs ys : List WireId) → StandOnce (xs ++ ys) → has_wire n xs ≡ true → has_wire n ys ≡ true → ⊥
once_apart n [] ys once first second = false≢true first
once_apart n (x ∷ xs) ys once first second =
    elim (or_cases (eqb x.number n) (has_wire n xs) first) [
      | inl here ↦
          let found = place_of_wire n (xs ++ ys) (any_append n xs ys second) in
          let same = once 0 (suc found.0) n (ap Some (eqb-true x.number n here)) found.1 in
          omega (arith, same)
      | inr later ↦ once_apart n xs ys (once_behind x (xs ++ ys) once) later second
    ]

driven_among : (n k : ℕ) (cells : List Cell) (cell : Cell) → slice_get cells k ≡ Some cell → drives n cell ≡ true → has_wire n (flat_map driven cells) ≡ true
driven_among n k [] cell found has = absurd (cc)
driven_among n zero (c ∷ cells) cell found has =
    let same : cell ≡ c = cc in any_front n (driven c) (flat_map driven cells) (ap (drives n) (sym same) ∙ has)
driven_among n (suc k) (c ∷ cells) cell found has = any_append n (driven c) (flat_map driven cells) (driven_among n k cells cell found has)

-- the cell that drives a wire is its driver
driver_found : (n k : ℕ) (cells : List Cell) (cell : Cell) → StandOnce (flat_map driven cells) → slice_get cells k ≡ Some cell → drives n cell ≡ true → driver cells n ≡ Some cell
driver_found n k [] cell once found has = absurd (cc)
driver_found n zero (c ∷ cells) cell once found has =
    let same : c ≡ cell = cc in
    ap (λ (b : Bool). cond b (Some c) (driver cells n)) (ap (drives n) same ∙ has) ∙ ap Some same
driver_found n (suc k) (c ∷ cells) cell once found has =
    by_case (drives n c) refl (driver_found n k cells cell (once_later (driven c) (flat_map driven cells) once) found has)
  where
    by_case : (b : Bool) → drives n c ≡ b → driver cells n ≡ Some cell → cond (drives n c) (Some c) (driver cells n) ≡ Some cell
    by_case true is later = absurd (once_apart n (driven c) (flat_map driven cells) once is (driven_among n k cells cell found has))
    by_case false is later = ap (λ (b : Bool). cond b (Some c) (driver cells n)) is ∙ later

-- what a cell drives is no input, and has this cell as its driver
pub drives_it : (inputs wires : ℕ) (cells : List Cell) → EachOnce inputs wires (wire_driven_at (flat_map driven cells)) → (k : ℕ) (cell : Cell) → slice_get cells k ≡ Some cell
    → (n : ℕ) → drives n cell ≡ true → (driver cells n ≡ Some cell) × (inputs ≤ n)
drives_it inputs wires cells once k cell found n has =
    let place = place_of_wire n (flat_map driven cells) (driven_among n k cells cell found has) in
    (driver_found n k cells cell once.once found has, once.free place.0 n place.1)
