-- What a cell copies, one wire at most, where it is decided which bits are known and which wires are equal.
use Rattle.std.proofs.Common.{◌≡◌, ℕ, zero, suc, ◌<◌, ◌==◌, ◌⊎◌, inl, inr, Bool, true, false, List, [], ◌∷◌, length, Some, slice_get, refl, sym, ap, subst, ◌∙◌, arith, if◌then◌else◌}
use Rattle.std.proofs.lemmas.Bool.Decides.{leb_tells}
use Rattle.std.proofs.lemmas.Option.{same_Some, slice_get_within}
use Rattle.chw_base.specs.declared.index.WireId.{WireId}
use Rattle.chw_bits.specs.Bits.{number_of}
use Rattle.netlist.specs.Feeds.{awaited_wire}
use Rattle.netlist.specs.Sound.{FitsCell}
use Rattle.netlist.specs.declared.net.Cell.{Cell}
use Rattle.netlist.specs.declared.net.Cell.TheVariants.{Const, Copy, Join, Cut, Un, Bin, Mux, Reg, Ram, Use}
use Rattle.netlist.specs.declared.net.Flat.{Flat}
use Rattle.share_laws.specs.Same.{Copies, IsKnown, IsOpen, Same}
use Rattle.share_laws.specs.Same.Copies.{chosen, copy, either, single, whole}

-- it is decided which bits are known, and which wires are equal
pub record Decided (flat : Flat) : Type 0 where
  pub known : (w : ℕ) → w < length flat.widths → ((bits : List Bool) × IsKnown flat w bits) ⊎ IsOpen flat w
  pub same : (v : ℕ) → v < length flat.widths → (w : ℕ) → w < length flat.widths → Same flat v w ⊎ (Same flat v w → ⊥)

-- what a cell copies, by the cell
abbrev CopiesOf : Flat → Cell → ℕ → Type 0
CopiesOf flat (Copy w a) n = n ≡ a.number
CopiesOf flat (Join w (a ∷ [])) n = n ≡ a.number
CopiesOf flat (Cut w a high low) n = (low ≡ 0) × (slice_get flat.widths a.number ≡ Some (suc high)) × (n ≡ a.number)
CopiesOf flat (Mux w c a b) n =
    (Same flat a.number b.number × (n ≡ a.number))
    ⊎ ((on : List Bool) × IsKnown flat c.number on × (n ≡ (if number_of on == 1 then a.number else b.number)))
CopiesOf flat _ n = ⊥

copies_of : (flat : Flat) (cell : Cell) (n : ℕ) → Copies flat cell n → CopiesOf flat cell n
copies_of flat _ _ (copy w a) = refl
copies_of flat _ _ (whole w a high e) = (refl, e, refl)
copies_of flat _ _ (single w a) = refl
copies_of flat _ _ (either w c a b s) = inl (s, refl)
copies_of flat _ _ (chosen w c a b on k) = inr (on, k, refl)

-- of what a cell copies one wire: of a choice by known bits what they choose
abbrev pub ChoosesOf : Flat → Cell → ℕ → Type 0
ChoosesOf flat (Copy w a) n = n ≡ a.number
ChoosesOf flat (Join w (a ∷ [])) n = n ≡ a.number
ChoosesOf flat (Cut w a high low) n = (low ≡ 0) × (slice_get flat.widths a.number ≡ Some (suc high)) × (n ≡ a.number)
ChoosesOf flat (Mux w c a b) n =
    ((on : List Bool) × IsKnown flat c.number on × (n ≡ (if number_of on == 1 then a.number else b.number)))
    ⊎ (IsOpen flat c.number × Same flat a.number b.number × (n ≡ a.number))
ChoosesOf flat _ n = ⊥

pub chooses_copies : (flat : Flat) (cell : Cell) (n : ℕ) → ChoosesOf flat cell n → Copies flat cell n
chooses_copies flat (Copy w a) n e = subst (λ m. Copies flat (Copy w a) m) (sym e) (copy w a)
chooses_copies flat (Join w []) n e = absurd e
chooses_copies flat (Join w (a ∷ [])) n e = subst (λ m. Copies flat (Join w (a ∷ [])) m) (sym e) (single w a)
chooses_copies flat (Join w (a ∷ b ∷ more)) n e = absurd e
chooses_copies flat (Cut w a high low) n e =
    subst (λ m. Copies flat (Cut w a high low) m) (sym e.2) (subst (λ l. Copies flat (Cut w a high l) a.number) (sym e.0) (whole w a high e.1))
chooses_copies flat (Mux w c a b) n (inl e) = subst (λ m. Copies flat (Mux w c a b) m) (sym e.2) (chosen w c a b e.0 e.1)
chooses_copies flat (Mux w c a b) n (inr e) = subst (λ m. Copies flat (Mux w c a b) m) (sym e.2) (either w c a b e.1)
chooses_copies flat (Const w bits) n e = absurd e
chooses_copies flat (Un w op a) n e = absurd e
chooses_copies flat (Bin w op a b) n e = absurd e
chooses_copies flat (Reg w domain initial a) n e = absurd e
chooses_copies flat (Ram w domain words inputs) n e = absurd e
chooses_copies flat (Use m reads drives) n e = absurd e

-- known bits are determined
abbrev pub KnownOnce : Flat → Type 0
KnownOnce flat = (w : ℕ) (a b : List Bool) → IsKnown flat w a → IsKnown flat w b → a ≡ b

pub chooses_once : (flat : Flat) → KnownOnce flat → (cell : Cell) (n m : ℕ) → ChoosesOf flat cell n → ChoosesOf flat cell m → n ≡ m
chooses_once flat once (Copy w a) n m e f = e ∙ sym f
chooses_once flat once (Join w []) n m e f = absurd e
chooses_once flat once (Join w (a ∷ [])) n m e f = e ∙ sym f
chooses_once flat once (Join w (a ∷ b ∷ more)) n m e f = absurd e
chooses_once flat once (Cut w a high low) n m e f = e.2 ∙ sym f.2
chooses_once flat once (Mux w c a b) n m (inl e) (inl f) =
    e.2 ∙ ap (λ on. if number_of on == 1 then a.number else b.number) (once c.number e.0 f.0 e.1 f.1) ∙ sym f.2
chooses_once flat once (Mux w c a b) n m (inl e) (inr f) = absurd (f.0 e.0 e.1)
chooses_once flat once (Mux w c a b) n m (inr e) (inl f) = absurd (e.0 f.0 f.1)
chooses_once flat once (Mux w c a b) n m (inr e) (inr f) = e.2 ∙ sym f.2
chooses_once flat once (Const w bits) n m e f = absurd e
chooses_once flat once (Un w op a) n m e f = absurd e
chooses_once flat once (Bin w op a b) n m e f = absurd e
chooses_once flat once (Reg w domain initial a) n m e f = absurd e
chooses_once flat once (Ram w domain words inputs) n m e f = absurd e
chooses_once flat once (Use k reads drives) n m e f = absurd e

-- a cell copies a wire that it waits for
pub record Chosen (flat : Flat) (cell : Cell) : Type 0 where
  pub from : ℕ
  pub chooses : ChoosesOf flat cell from
  pub within : from < length flat.widths
  pub k : ℕ
  pub awaits : awaited_wire cell k ≡ Some from

abbrev ChosenOrNone : Flat → Cell → Type 0
ChosenOrNone flat cell = Chosen flat cell ⊎ ((a : ℕ) → Copies flat cell a → ⊥)

-- a choice between wires that aren't equal, by bits that aren't known, copies nothing
no_copy : (flat : Flat) (w c a b : WireId) (n : ℕ) → IsOpen flat c.number → (Same flat a.number b.number → ⊥) → CopiesOf flat (Mux w c a b) n → ⊥
no_copy flat w c a b n unknown apart (inl e) = apart e.0
no_copy flat w c a b n unknown apart (inr e) = unknown e.0 e.1

module _ (flat : Flat) (decided : Decided flat) where
  by_bits : (w c a b : WireId) (on : List Bool) → IsKnown flat c.number on → a.number < length flat.widths → b.number < length flat.widths
      → (t : Bool) → (number_of on == 1) ≡ t → Chosen flat (Mux w c a b)
  by_bits w c a b on k la lb true e = record {
    from = a.number;
    chooses = inl (on, k, ap (λ x. if x then a.number else b.number) (sym e));
    within = la;
    k = 1;
    awaits = refl;
  }
  by_bits w c a b on k la lb false e = record {
    from = b.number;
    chooses = inl (on, k, ap (λ x. if x then a.number else b.number) (sym e));
    within = lb;
    k = 2;
    awaits = refl;
  }

  by_mux : (w c a b : WireId) → c.number < length flat.widths → a.number < length flat.widths → b.number < length flat.widths
      → ChosenOrNone flat (Mux w c a b)
  by_mux w c a b lc la lb = from (decided.known c.number lc) (decided.same a.number la b.number lb)
    where
      from : ((bits : List Bool) × IsKnown flat c.number bits) ⊎ IsOpen flat c.number
          → Same flat a.number b.number ⊎ (Same flat a.number b.number → ⊥) → ChosenOrNone flat (Mux w c a b)
      from (inl k) s = inl (by_bits w c a b k.0 k.1 la lb (number_of k.0 == 1) refl)
      from (inr unknown) (inl s) =
          inl (record { from = a.number; chooses = inr (unknown, s, refl); within = la; k = 1; awaits = refl })
      from (inr unknown) (inr apart) = inr (λ n x. no_copy flat w c a b n unknown apart (copies_of flat (Mux w c a b) n x))

  by_cut : (w a : WireId) (high low n : ℕ) → high < n → slice_get flat.widths a.number ≡ Some n → ChosenOrNone flat (Cut w a high low)
  by_cut w a high (suc low) n l e = inr (λ m x. absurd (let c = copies_of flat (Cut w a high (suc low)) m x in omega (arith, c.0)))
  by_cut w a high zero n l e = elim (leb_tells n (suc high)) [
    | inl le ↦
        let same : n ≡ suc high = omega (arith, le.1) in
        inl (record {
          from = a.number;
          chooses = (refl, e ∙ ap Some same, refl);
          within = slice_get_within flat.widths a.number n e;
          k = 0;
          awaits = refl;
        })
    | inr more ↦
        inr (λ m x. absurd (
        let c = copies_of flat (Cut w a high zero) m x in
        let same = same_Some n (suc high) (sym e ∙ c.1) in
        omega (arith, more.1, same)))
  ]

  -- what a cell copies is found, or there is nothing
  pub decide_copy : (cell : Cell) → FitsCell (length flat.ports.domains) flat.widths cell → ChosenOrNone flat cell
  decide_copy (Copy w a) f =
      inl (record { from = a.number; chooses = refl; within = slice_get_within flat.widths a.number f.0 f.2; k = 0; awaits = refl })
  decide_copy (Join w []) f = inr (λ n x. copies_of flat (Join w []) n x)
  decide_copy (Join w (a ∷ [])) f = inl (record { from = a.number; chooses = refl; within = f.0.0; k = 0; awaits = refl })
  decide_copy (Join w (a ∷ b ∷ more)) f = inr (λ n x. copies_of flat (Join w (a ∷ b ∷ more)) n x)
  decide_copy (Cut w a high low) f = by_cut w a high low f.2.0 f.2.1 f.2.2
  decide_copy (Mux w c a b) f =
      by_mux w c a b (slice_get_within flat.widths c.number 1 f.0) (slice_get_within flat.widths a.number f.1.0 f.1.2)
      (slice_get_within flat.widths b.number f.1.0 f.1.3)
  decide_copy (Const w bits) f = inr (λ n x. copies_of flat (Const w bits) n x)
  decide_copy (Un w op a) f = inr (λ n x. copies_of flat (Un w op a) n x)
  decide_copy (Bin w op a b) f = inr (λ n x. copies_of flat (Bin w op a b) n x)
  decide_copy (Reg w domain initial a) f = inr (λ n x. copies_of flat (Reg w domain initial a) n x)
  decide_copy (Ram w domain words inputs) f = inr (λ n x. copies_of flat (Ram w domain words inputs) n x)
  decide_copy (Use m reads drives) f = absurd f

-- what holds of each of finitely many, if not falsely, holds of all of them, if not falsely
pub not_not_all : (n : ℕ) (P : ℕ → Type 0) → ((i : ℕ) → i < n → (P i → ⊥) → ⊥) → (((i : ℕ) → i < n → P i) → ⊥) → ⊥
not_not_all zero P each refuted = refuted (λ i l. absurd (omega (arith, l)))
not_not_all (suc n) P each refuted =
    not_not_all n P (λ i l. each i (omega (arith, l)))
    (λ all. each n (omega arith) (λ here. refuted (λ i l. last i l all here)))
  where
    last : (i : ℕ) → i < suc n → ((i : ℕ) → i < n → P i) → P n → P i
    last i l all here = elim (leb_tells n i) [
      | inl le ↦ (let same : n ≡ i = omega (arith, le.1, l) in subst P same here)
      | inr less ↦ all i less.1
    ]

abbrev KnownOrOpen : Flat → ℕ → Type 0
KnownOrOpen flat w = ((bits : List Bool) × IsKnown flat w bits) ⊎ IsOpen flat w

abbrev SameOrApart : Flat → ℕ → ℕ → Type 0
SameOrApart flat v w = Same flat v w ⊎ (Same flat v w → ⊥)

abbrev AllSameOrApart : Flat → ℕ → Type 0
AllSameOrApart flat v = (w : ℕ) → w < length flat.widths → SameOrApart flat v w

-- so it isn't false that everything is decided
pub not_undecided : (flat : Flat) → (Decided flat → ⊥) → ⊥
not_undecided flat refuted =
    not_not_all (length flat.widths) (KnownOrOpen flat) (λ w l none. none (inr (λ bits k. none (inl (bits, k)))))
    (λ known. not_not_all (length flat.widths) (AllSameOrApart flat)
    (λ v l none. not_not_all (length flat.widths) (SameOrApart flat v) (λ w m nor. nor (inr (λ s. nor (inl s)))) (λ all. none all))
    (λ same. refuted (record { known = known; same = same })))
