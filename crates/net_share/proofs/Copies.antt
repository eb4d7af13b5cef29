-- By the classes a cell copies a wire exactly where it does.
use Rattle.std.proofs.Common.{◌≡◌, ℕ, suc, ◌+◌, ◌<◌, ◌==◌, ◌⊎◌, inl, inr, Bool, true, false, List, [], ◌∷◌, length, Some, slice_get, refl, sym, ap, subst, ◌∙◌, arith, if◌then◌else◌}
use Rattle.std.specs.Prelude.{slice_index}
use Rattle.std.proofs.lemmas.Bool.{and_parts, cases_lt, eq-eqb, eqb-true, false≢true, or_cases, or_left, or_right}
use Rattle.std.proofs.lemmas.List.{get_or_past}
use Rattle.std.proofs.lemmas.Option.{get_or_from_slice_get, slice_get-get_or, slice_get_within}
use Rattle.chw_base.specs.declared.index.WireId.{WireId}
use Rattle.chw_bits.specs.Bits.{number_of}
use Rattle.netlist.specs.Feeds.{awaited_wire}
use Rattle.netlist.specs.Sound.{FitsCell}
use Rattle.netlist.specs.declared.net.Cell.{Cell}
use Rattle.netlist.specs.declared.net.Cell.TheVariants.{Const, Copy, Join, Cut, Un, Bin, Mux, Reg, Ram, Use}
use Rattle.netlist.specs.declared.net.Flat.{Flat}
use Rattle.share_laws.specs.Same.{Copies, IsKnown, IsOpen, Same}
use Rattle.share_laws.specs.Same.Copies.{chosen, copy, either, single, whole}
use Rattle.wire_classes.specs.Classes.{AreClasses}
use Rattle.wire_classes.specs.declared.classes.Classes.{Classes}
use Rattle.net_share.specs.Copying.{IsCutWithin, are_one, has_bits, is_copy}

-- a cell copies a wire that it waits for
pub record Copied (flat : Flat) (cell : Cell) : Type 0 where
  pub from : ℕ
  pub copies : Copies flat cell from
  pub k : ℕ
  pub awaits : awaited_wire cell k ≡ Some from

module _ (flat : Flat) (c : Classes) (are : AreClasses flat c) where
  known_there : (w : ℕ) → has_bits c w ≡ true → slice_get c.known w ≡ Some true
  known_there w e = elim (cases_lt w (length c.known)) [
    | inl l ↦ slice_get-get_or c.known w false l ∙ ap Some e
    | inr l ↦ absurd (false≢true (sym (get_or_past c.known w false l) ∙ e))
  ]

  pub known_of : (w : ℕ) → has_bits c w ≡ true → (bits : List Bool) × IsKnown flat w bits
  known_of w e = are.are_known w (known_there w e)

  pub has_of : (w : ℕ) (bits : List Bool) → IsKnown flat w bits → has_bits c w ≡ true
  has_of w bits k = get_or_from_slice_get c.known w true false (are.each_known w bits k)

  pub open_of : (w : ℕ) → has_bits c w ≡ false → IsOpen flat w
  open_of w e = λ bits k. false≢true (sym e ∙ has_of w bits k)

  pub class_there : (w : ℕ) → w < length flat.widths → slice_get c.of w ≡ Some (slice_index c.of w)
  class_there w l = slice_get-get_or c.of w 0 (omega (arith, l, are.of_each))

  same_of : (v w : ℕ) → v < length flat.widths → w < length flat.widths → are_one c v w ≡ true → Same flat v w
  same_of v w l m e =
      let one : slice_index c.of v ≡ slice_index c.of w = eqb-true (slice_index c.of v) (slice_index c.of w) e in
      are.same v w (slice_index c.of v) (class_there v l) (class_there w m ∙ ap Some (sym one))

  one_of : (v w : ℕ) → v < length flat.widths → w < length flat.widths → Same flat v w → are_one c v w ≡ true
  one_of v w l m s =
      eq-eqb (slice_index c.of v) (slice_index c.of w)
      (are.one v w (slice_index c.of v) (slice_index c.of w) s (class_there v l) (class_there w m))

  by_bits : (w on a b : WireId) (bits : List Bool) → IsKnown flat on.number bits → (t : Bool) → (number_of bits == 1) ≡ t → Copied flat (Mux w on a b)
  by_bits w on a b bits k true e = record {
    from = a.number;
    copies = subst (λ x. Copies flat (Mux w on a b) (if x then a.number else b.number)) e (chosen w on a b bits k);
    k = 1;
    awaits = refl;
  }
  by_bits w on a b bits k false e = record {
    from = b.number;
    copies = subst (λ x. Copies flat (Mux w on a b) (if x then a.number else b.number)) e (chosen w on a b bits k);
    k = 2;
    awaits = refl;
  }

  by_choice : (w on a b : WireId) → a.number < length flat.widths → b.number < length flat.widths
      → (has_bits c on.number ≡ true) ⊎ (are_one c a.number b.number ≡ true) → Copied flat (Mux w on a b)
  by_choice w on a b la lb (inl e) = let k = known_of on.number e in by_bits w on a b k.0 k.1 (number_of k.0 == 1) refl
  by_choice w on a b la lb (inr e) =
      record { from = a.number; copies = either w on a b (same_of a.number b.number la lb e); k = 1; awaits = refl }

  by_cut : (w a : WireId) (high low n : ℕ) → slice_get flat.widths a.number ≡ Some n → is_copy flat.widths c (Cut w a high low) ≡ true
      → Copied flat (Cut w a high low)
  by_cut w a high low n there e =
      let parts = and_parts (low == 0) (slice_index flat.widths a.number == high + 1) e in
      let bottom : low ≡ 0 = eqb-true low 0 parts.0 in
      let top : slice_index flat.widths a.number ≡ high + 1 = eqb-true (slice_index flat.widths a.number) (high + 1) parts.1 in
      let wide : slice_index flat.widths a.number ≡ n = get_or_from_slice_get flat.widths a.number n 0 there in
      let all : n ≡ suc high = omega (arith, top, wide) in
      record {
        from = a.number;
        copies = subst (λ l. Copies flat (Cut w a high l) a.number) (sym bottom) (whole w a high (there ∙ ap Some all));
        k = 0;
        awaits = refl;
      }

  -- what is found to copy copies
  pub copied_if : (cell : Cell) → FitsCell (length flat.ports.domains) flat.widths cell → is_copy flat.widths c cell ≡ true → Copied flat cell
  copied_if (Copy w a) f e = record { from = a.number; copies = copy w a; k = 0; awaits = refl }
  copied_if (Join w []) f e = absurd (let same = eqb-true 0 1 e in omega (arith, same))
  copied_if (Join w (a ∷ [])) f e = record { from = a.number; copies = single w a; k = 0; awaits = refl }
  copied_if (Join w (a ∷ b ∷ more)) f e = absurd (let same = eqb-true (length (a ∷ b ∷ more)) 1 e in omega (arith, same))
  copied_if (Cut w a high low) f e = by_cut w a high low f.2.0 f.2.2 e
  copied_if (Mux w on a b) f e =
      by_choice w on a b (slice_get_within flat.widths a.number f.1.0 f.1.2) (slice_get_within flat.widths b.number f.1.0 f.1.3)
      (or_cases (has_bits c on.number) (are_one c a.number b.number) e)
  copied_if (Const w bits) f e = absurd (false≢true e)
  copied_if (Un w op a) f e = absurd (false≢true e)
  copied_if (Bin w op a b) f e = absurd (false≢true e)
  copied_if (Reg w domain initial a) f e = absurd (false≢true e)
  copied_if (Ram w domain words inputs) f e = absurd (false≢true e)
  copied_if (Use m reads drives) f e = absurd f

  -- what copies is found to
  found_copy : (cell : Cell) (n : ℕ) → Copies flat cell n → FitsCell (length flat.ports.domains) flat.widths cell → is_copy flat.widths c cell ≡ true
  found_copy _ _ (copy w a) f = refl
  found_copy _ _ (whole w a high wide) f =
      let top : slice_index flat.widths a.number ≡ suc high = get_or_from_slice_get flat.widths a.number (suc high) 0 wide in
      let next : slice_index flat.widths a.number ≡ high + 1 = omega (arith, top) in
      eq-eqb (slice_index flat.widths a.number) (high + 1) next
  found_copy _ _ (single w a) f = eq-eqb (length (a ∷ [])) 1 refl
  found_copy _ _ (either w on a b s) f =
      or_right (has_bits c on.number) (are_one c a.number b.number)
      (one_of a.number b.number (slice_get_within flat.widths a.number f.1.0 f.1.2) (slice_get_within flat.widths b.number f.1.0 f.1.3) s)
  found_copy _ _ (chosen w on a b bits k) f = or_left (has_bits c on.number) (are_one c a.number b.number) (has_of on.number bits k)

  pub no_copy_if : (cell : Cell) → FitsCell (length flat.ports.domains) flat.widths cell → is_copy flat.widths c cell ≡ false
      → (n : ℕ) → Copies flat cell n → ⊥
  no_copy_if cell f e n copies = false≢true (sym e ∙ found_copy cell n copies f)

-- the highest bit of a cut that fits is one of the wire's
pub cut_within : (domains : ℕ) (widths : List ℕ) (cell : Cell) → FitsCell domains widths cell → IsCutWithin widths cell
cut_within domains widths (Cut w a high low) f =
    let wide : slice_index widths a.number ≡ f.2.0 = get_or_from_slice_get widths a.number f.2.0 0 f.2.2 in omega (arith, wide, f.2.1)
cut_within domains widths _ f = tt
