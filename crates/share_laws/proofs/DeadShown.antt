-- The example of a copy before the cell that it copies, and of a cell that no output needs, holds.
use Rattle.std.proofs.Common.{◌≡◌, ℕ, zero, suc, ◌≤◌, ◌⊎◌, inl, inr, Bool, List, [], ◌∷◌, Some, None, slice_get, refl, sym, ap, subst, ◌∙◌, arith}
use Rattle.std.proofs.lemmas.Option.{same_Some}
use Rattle.chw_base.specs.declared.index.WireId.{WireId}
use Rattle.netlist.specs.Examples.{wire}
use Rattle.netlist.specs.Feeds.{target}
use Rattle.netlist.specs.Sound.{IsWireWidth, Sound}
use Rattle.netlist.specs.Wires.{read_by}
use Rattle.netlist.specs.declared.net.Cell.{Cell}
use Rattle.netlist.specs.declared.net.Cell.TheVariants.{Const, Copy, Un}
use Rattle.netlist.specs.declared.net.Op1.TheVariants.{RedAnd, RedOr}
use Rattle.share_laws.specs.Examples.{CopiedCellStays, early_copy}
use Rattle.share_laws.specs.Same.{AllKnown, Copies, IsFolded, IsKnown, Same}
use Rattle.share_laws.specs.Same.AllKnown.{known_and, known_none}
use Rattle.share_laws.specs.Same.Copies.{copy}
use Rattle.share_laws.specs.Same.IsKnown.{carried, constant, folded}
use Rattle.share_laws.specs.Same.Same.{copied, itself, turned}
use Rattle.share_laws.specs.Shares.{IsAmong, IsLive, IsProper, Serves, Stands}
use Rattle.share_laws.specs.Shares.IsLive.{for_cell, for_output}
use Rattle.share_laws.specs.Shares.IsNumbered.{as_input, as_kept}
use Rattle.share_laws.specs.Shares.IsProper.{of_cell, of_input}
use Rattle.share_laws.specs.Shares.IsSharedCell.{as_own}
use Rattle.share_laws.proofs.ExamplesShown.{byte_width}
use Rattle.share_laws.proofs.OneShared.{one_serves}
use Rattle.share_laws.proofs.Widths.{same_width}

bit_width : IsWireWidth 1
bit_width = (omega arith, omega arith)

early_sound : Sound early_copy
early_sound = record {
  few = omega arith;
  widths = (byte_width, (bit_width, (bit_width, (bit_width, tt))));
  inputs = refl;
  outputs = refl;
  cells = ((1, refl, refl), ((refl, omega arith), ((refl, omega arith), tt)));
  in_order = (refl, (refl, (refl, tt)));
  all = refl;
}

-- the cells
abbrev early : Cell
early = Copy (wire 1) (wire 2)

abbrev reduction : Cell
reduction = Un (wire 2) RedOr (wire 0)

abbrev dead : Cell
dead = Un (wire 3) RedAnd (wire 0)

no_copies : (a : ℕ) → Copies early_copy reduction a → ⊥
no_copies a c = elim c [ ]

reduction_proper : IsProper early_copy 2
reduction_proper = of_cell reduction (1, refl) refl (λ a c. no_copies a c)

-- the input and the reduction are the only proper wires before the dead one
proper_are : (w : ℕ) → IsProper early_copy w → (w ≡ 0) ⊎ (2 ≤ w)
proper_are w (of_input l) = inl (omega (arith, l))
proper_are w (of_cell cell has t none) = from has.0 has.1
  where
    from : (place : ℕ) → slice_get early_copy.cells place ≡ Some cell → (w ≡ 0) ⊎ (2 ≤ w)
    from zero e =
        let is : early ≡ cell = cc in
        absurd (none 2 (subst (λ c. Copies early_copy c 2) is (copy (wire 1) (wire 2))))
    from (suc zero) e =
        let is : reduction ≡ cell = cc in
        let number : 2 ≡ w = same_Some 2 w (ap target is ∙ t) in
        inr (omega (arith, number))
    from (suc (suc zero)) e =
        let is : dead ≡ cell = cc in
        let number : 3 ≡ w = same_Some 3 w (ap target is ∙ t) in
        inr (omega (arith, number))
    from (suc (suc (suc place))) e = absurd (let no : None ≡ Some cell = e in cc)

input_stands : Stands early_copy 0
input_stands = record { proper = of_input (omega arith); least = λ v p s. omega arith }

reduction_stands : Stands early_copy 2
reduction_stands = record { proper = reduction_proper; least = λ v p s. from v (proper_are v p) s }
  where
    from : (v : ℕ) → (v ≡ 0) ⊎ (2 ≤ v) → Same early_copy v 2 → 2 ≤ v
    from v (inl e) s =
        let wide : slice_get early_copy.widths 0 ≡ slice_get early_copy.widths 2 =
        ap (λ n. slice_get early_copy.widths n) (sym e) ∙ same_width early_copy early_sound v 2 s in
        absurd (let is = same_Some 8 1 wide in omega arith)
    from v (inr le) s = le

input_serves : Serves early_copy 0 0
input_serves = record { stands = input_stands; same = itself 0 (omega arith) }

copy_same : Same early_copy 1 2
copy_same = copied early 1 2 (0, refl) refl (copy (wire 1) (wire 2))

reduction_serves : Serves early_copy 2 1
reduction_serves = record { stands = reduction_stands; same = turned 1 2 copy_same }

-- the live wires are the input and the reduction
by_output : (k : ℕ) (o : WireId) (v : ℕ) → slice_get early_copy.outputs k ≡ Some o → Serves early_copy v o.number → v ≡ 2
by_output zero o v e serves =
    let is : wire 1 ≡ o = cc in
    one_serves early_copy v 2 1 (subst (λ (x : WireId). Serves early_copy v x.number) (sym is) serves) reduction_serves
by_output (suc k) o v e serves = absurd (let no : None ≡ Some o = e in cc)

by_read : (k : ℕ) (r : WireId) (v : ℕ) → slice_get (wire 0 ∷ []) k ≡ Some r → Serves early_copy v r.number → v ≡ 0
by_read zero r v e serves =
    let is : wire 0 ≡ r = cc in
    one_serves early_copy v 0 0 (subst (λ (x : WireId). Serves early_copy v x.number) (sym is) serves) input_serves
by_read (suc k) r v e serves = absurd (let no : None ≡ Some r = e in cc)

neither : (n w : ℕ) → n ≡ w → (n ≡ 0 → ⊥) → (n ≡ 2 → ⊥) → (w ≡ 0) ⊎ (w ≡ 2) → ⊥
neither n w e first second (inl f) = first (e ∙ f)
neither n w e first second (inr f) = second (e ∙ f)

by_cell : (w : ℕ) (cell : Cell) (k : ℕ) (r : WireId) (v : ℕ) → (w ≡ 0) ⊎ (w ≡ 2) → (place : ℕ) → slice_get early_copy.cells place ≡ Some cell
    → target cell ≡ Some w → slice_get (read_by cell) k ≡ Some r → Serves early_copy v r.number → v ≡ 0
by_cell w cell k r v live zero f t e serves =
    let is : early ≡ cell = cc in
    let number : 1 ≡ w = same_Some 1 w (ap target is ∙ t) in
    absurd (neither 1 w number (λ g. omega (arith, g)) (λ g. omega (arith, g)) live)
by_cell w cell k r v live (suc zero) f t e serves =
    let is : reduction ≡ cell = cc in
    by_read k r v (ap (λ c. slice_get (read_by c) k) is ∙ e) serves
by_cell w cell k r v live (suc (suc zero)) f t e serves =
    let is : dead ≡ cell = cc in
    let number : 3 ≡ w = same_Some 3 w (ap target is ∙ t) in
    absurd (neither 3 w number (λ g. omega (arith, g)) (λ g. omega (arith, g)) live)
by_cell w cell k r v live (suc (suc (suc place))) f t e serves = absurd (let no : None ≡ Some cell = f in cc)

live_are : (w : ℕ) → IsLive early_copy w → (w ≡ 0) ⊎ (w ≡ 2)
live_are _ (for_output k o v e serves) = inr (by_output k o v e serves)
live_are _ (for_cell w cell k r v live unknown has t e serves) = inl (by_cell w cell k r v (live_are w live) has.0 has.1 t e serves)

kept_live : (w : ℕ) → IsAmong (2 ∷ []) w → IsLive early_copy w × (1 ≤ w)
kept_live w (zero, e) =
    let is : 2 ≡ w = cc in
    subst (λ n. IsLive early_copy n × (1 ≤ n)) is (for_output 0 (wire 1) 2 refl reduction_serves, omega arith)
kept_live w (suc k, e) = absurd (let no : None ≡ Some w = e in cc)

live_kept : (w : ℕ) → IsLive early_copy w × (1 ≤ w) → IsAmong (2 ∷ []) w
live_kept w (live, l) = from (live_are w live)
  where
    from : (w ≡ 0) ⊎ (w ≡ 2) → IsAmong (2 ∷ []) w
    from (inl e) = absurd (omega (arith, e, l))
    from (inr e) = (0, ap Some (sym e))

-- no bits are known, since there is no constant
no_constant : (place : ℕ) (w : WireId) (bits : List Bool) → slice_get early_copy.cells place ≡ Some (Const w bits) → ⊥
no_constant zero w bits e = absurd (cc)
no_constant (suc zero) w bits e = absurd (cc)
no_constant (suc (suc zero)) w bits e = absurd (cc)
no_constant (suc (suc (suc place))) w bits e = absurd (let no : None ≡ Some (Const w bits) = e in cc)

folded_reads : (place : ℕ) (cell : Cell) → slice_get early_copy.cells place ≡ Some cell → IsFolded cell → read_by cell ≡ wire 0 ∷ []
folded_reads zero cell e f = let is : early ≡ cell = cc in absurd (subst (λ c. IsFolded c) (sym is) f)
folded_reads (suc zero) cell e f = let is : reduction ≡ cell = cc in ap read_by (sym is)
folded_reads (suc (suc zero)) cell e f = let is : dead ≡ cell = cc in ap read_by (sym is)
folded_reads (suc (suc (suc place))) cell e f = absurd (let no : None ≡ Some cell = e in cc)

mutual
  known_nowhere : (w : ℕ) (bits : List Bool) → IsKnown early_copy w bits → ⊥
  known_nowhere _ _ (constant w bits has) = no_constant has.0 w bits has.1
  known_nowhere _ _ (folded cell w values has f t all) = read_nowhere (read_by cell) values all (wire 0) [] (folded_reads has.0 cell has.1 f)
  known_nowhere _ _ (carried v w bits s k) = known_nowhere v bits k

  read_nowhere : (wires : List WireId) (values : List (List Bool)) → AllKnown early_copy wires values → (w : WireId) (rest : List WireId)
      → wires ≡ w ∷ rest → ⊥
  read_nowhere _ _ known_none w rest e = absurd (cc)
  read_nowhere _ _ (known_and v wires bits values k all) w rest e = known_nowhere v.number bits k

pub copied_cell_stays : CopiedCellStays
copied_cell_stays = record {
  ports = refl;
  kept = 2 ∷ [];
  rises = (omega arith, tt);
  live = λ w. (kept_live w, live_kept w);
  widths = refl;
  outputs = (record { by = 2; serves = reduction_serves; numbered = as_kept 0 refl refl }, tt);
  cells = (
    as_own reduction (λ bits k. known_nowhere 2 bits k) (1, refl) refl refl refl
        (record { by = 0; serves = input_serves; numbered = as_input (omega arith) refl }, tt),
    tt,
  );
}
