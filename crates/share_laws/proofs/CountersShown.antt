-- The example of two counters holds: nothing of them is left to share.
use Rattle.std.proofs.Common.{◌≡◌, ℕ, zero, suc, ◌+◌, ◌-◌, List, [], ◌∷◌, Some, None, slice_get, refl, sym, ap, subst, ◌∙◌, arith}
use Rattle.std.specs.List.{AllByRecursion}
use Rattle.std.proofs.lemmas.Option.{same_Some}
use Rattle.chw_base.specs.declared.index.WireId.{WireId}
use Rattle.netlist.specs.Examples.{byte, wire}
use Rattle.netlist.specs.Feeds.{target}
use Rattle.netlist.specs.NetValue.{HasCell}
use Rattle.netlist.specs.Sound.{Sound}
use Rattle.netlist.specs.Wires.{read_by}
use Rattle.netlist.specs.declared.net.Cell.{Cell}
use Rattle.netlist.specs.declared.net.Cell.TheVariants.{Const, Copy, Join, Cut, Bin, Mux}
use Rattle.netlist.specs.declared.net.Op2.TheVariants.{Add}
use Rattle.share_laws.specs.Examples.{CountersDiffer, CountersStay, register, two_counters}
use Rattle.share_laws.specs.Left.{IsConstant, NothingToShare, ReachesOutput}
use Rattle.share_laws.specs.Left.ReachesOutput.{is_output, is_read}
use Rattle.share_laws.specs.Same.{IsFolded}
use Rattle.share_laws.proofs.ExamplesShown.{byte_width}
use Rattle.share_laws.proofs.NothingLeft.{left_apart, left_live}
use Rattle.share_laws.proofs.OwnShares.{own_shares}

counters_sound : Sound two_counters
counters_sound = record {
  few = omega arith;
  widths = (byte_width, (byte_width, (byte_width, (byte_width, (byte_width, tt)))));
  inputs = refl;
  outputs = refl;
  cells = (
    (omega arith, refl, refl),
    ((omega arith, refl, refl), ((8, omega arith, refl, refl, refl), ((8, omega arith, refl, refl, refl), (refl, tt)))),
  );
  in_order = (refl, (refl, (refl, (refl, (refl, tt)))));
  all = refl;
}

-- the sum of a counter
abbrev sum : (w a : ℕ) → Cell
sum w a = Bin (wire w) Add (wire a) (wire 4)

-- what holds of the five cells at their places holds of each
each_cell : (P : ℕ → Cell → Type 0) → P 0 (register 0 0 2) → P 1 (register 1 0 3) → P 2 (sum 2 0) → P 3 (sum 3 1) → P 4 (Const (wire 4) (byte 1))
    → (p : ℕ) (cell : Cell) → slice_get two_counters.cells p ≡ Some cell → P p cell
each_cell P a b c d e zero cell at = let is : register 0 0 2 ≡ cell = cc in subst (λ x. P 0 x) is a
each_cell P a b c d e (suc zero) cell at = let is : register 1 0 3 ≡ cell = cc in subst (λ x. P 1 x) is b
each_cell P a b c d e (suc (suc zero)) cell at = let is : sum 2 0 ≡ cell = cc in subst (λ x. P 2 x) is c
each_cell P a b c d e (suc (suc (suc zero))) cell at = let is : sum 3 1 ≡ cell = cc in subst (λ x. P 3 x) is d
each_cell P a b c d e (suc (suc (suc (suc zero)))) cell at = let is : Const (wire 4) (byte 1) ≡ cell = cc in subst (λ x. P 4 x) is e
each_cell P a b c d e (suc (suc (suc (suc (suc p))))) cell at = absurd (let no : None ≡ Some cell = at in cc)

-- the cell is no copy, join, cut or choice
abbrev CopiesNever : Cell → Type 0
CopiesNever (Copy w a) = ⊥
CopiesNever (Join w parts) = ⊥
CopiesNever (Cut w a high low) = ⊥
CopiesNever (Mux w c a b) = ⊥
CopiesNever _ = Unit {0}

copies_never : (cell : Cell) → HasCell two_counters cell → CopiesNever cell
copies_never cell has = each_cell (λ p c. CopiesNever c) tt tt tt tt tt has.0 cell has.1

-- the only constant drives wire 4
abbrev IsFour : Cell → Type 0
IsFour (Const w bits) = w.number ≡ 4
IsFour _ = Unit {0}

constant_is_four : (w : WireId) → IsConstant two_counters w → w.number ≡ 4
constant_is_four w k = each_cell (λ p c. IsFour c) tt tt tt tt refl k.1.0 (Const w k.0) k.1.1

sums_stay : (n : ℕ) → (n ≡ 4 → ⊥) → AllByRecursion (IsConstant two_counters) (wire n ∷ wire 4 ∷ []) → ⊥
sums_stay n never all = never (constant_is_four (wire n) all.0)

no_known_fold : (cell : Cell) → HasCell two_counters cell → IsFolded cell → AllByRecursion (IsConstant two_counters) (read_by cell) → ⊥
no_known_fold cell has =
    each_cell (λ p c. IsFolded c → AllByRecursion (IsConstant two_counters) (read_by c) → ⊥)
    (λ f all. f) (λ f all. f) (λ f all. sums_stay 0 (λ e. omega (arith, e)) all) (λ f all. sums_stay 1 (λ e. omega (arith, e)) all) (λ f all. f)
    has.0 cell has.1

-- the place of a cell, by what it reads
abbrev place_of : List WireId → ℕ
place_of [] = 4
place_of (a ∷ []) = a.number - 2
place_of (a ∷ b ∷ more) = a.number + 2

place_is : (p : ℕ) (cell : Cell) → slice_get two_counters.cells p ≡ Some cell → place_of (read_by cell) ≡ p
place_is p cell at = each_cell (λ p c. place_of (read_by c) ≡ p) refl refl refl refl refl p cell at

-- each wire reaches an output
first_reaches : ReachesOutput two_counters 0
first_reaches = is_output 0 (wire 0) refl

second_reaches : ReachesOutput two_counters 1
second_reaches = is_output 1 (wire 1) refl

first_sum_reaches : ReachesOutput two_counters 2
first_sum_reaches = is_read 0 (register 0 0 2) 0 (wire 2) first_reaches (0, refl) refl refl

second_sum_reaches : ReachesOutput two_counters 3
second_sum_reaches = is_read 1 (register 1 0 3) 0 (wire 3) second_reaches (1, refl) refl refl

one_reaches : ReachesOutput two_counters 4
one_reaches = is_read 2 (sum 2 0) 1 (wire 4) first_sum_reaches (2, refl) refl refl

reaches_as : (n w : ℕ) → ReachesOutput two_counters n → Some n ≡ Some w → ReachesOutput two_counters w
reaches_as n w r e = subst (λ x. ReachesOutput two_counters x) (same_Some n w e) r

each_reaches : (cell : Cell) (w : ℕ) → HasCell two_counters cell → target cell ≡ Some w → ReachesOutput two_counters w
each_reaches cell w has t =
    each_cell (λ p c. target c ≡ Some w → ReachesOutput two_counters w)
    (λ e. reaches_as 0 w first_reaches e) (λ e. reaches_as 1 w second_reaches e) (λ e. reaches_as 2 w first_sum_reaches e)
    (λ e. reaches_as 3 w second_sum_reaches e) (λ e. reaches_as 4 w one_reaches e)
    has.0 cell has.1 t

nothing_left : NothingToShare two_counters
nothing_left = record {
  no_copy = λ w a has. copies_never (Copy w a) has;
  no_whole_cut = λ w a high has e. copies_never (Cut w a high 0) has;
  no_single_join = λ w a has. copies_never (Join w (a ∷ [])) has;
  no_even_choice = λ w c a has. copies_never (Mux w c a a) has;
  no_known_choice = λ w c a b has k. copies_never (Mux w c a b) has;
  no_known_fold = λ cell has f all. no_known_fold cell has f all;
  no_equal_cells = λ p q c d e f same reads. sym (place_is p c e) ∙ ap place_of reads ∙ place_is q d f;
  needed = λ cell w has t. each_reaches cell w has t;
}

pub counters_differ : CountersDiffer
counters_differ s = let is : 0 ≡ 1 = (left_apart two_counters nothing_left).wires 0 1 s in omega (arith, is)

pub counters_stay : CountersStay
counters_stay = own_shares two_counters counters_sound (left_apart two_counters nothing_left) (left_live two_counters counters_sound nothing_left)
