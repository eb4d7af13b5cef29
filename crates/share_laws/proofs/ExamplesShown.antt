-- The examples hold.
use Rattle.std.proofs.Common.{◌≡◌, ℕ, zero, suc, ◌-◌, ◌≤◌, ◌⊎◌, inl, inr, Bool, List, [], ◌∷◌, length, Some, None, slice_get, refl, sym, ap, subst, ◌∙◌, arith}
use Rattle.std.specs.Prelude.{slice_index}
use Rattle.std.proofs.lemmas.Option.{same_Some}
use Rattle.chw_base.specs.declared.index.WireId.{WireId}
use Rattle.chw_bits.specs.Bits.{number_of}
use Rattle.chw_clock.specs.Histories.{FitsPorts}
use Rattle.chw_clock.specs.declared.event.Event.{Event}
use Rattle.netlist.specs.Examples.{byte, bit, dom, wire}
use Rattle.netlist.specs.Feeds.{Feeds, awaited_at, target}
use Rattle.netlist.specs.NetValue.NetValue.{first}
use Rattle.netlist.specs.Orders.{HasNoLoop, wire_numbers}
use Rattle.netlist.specs.Sound.{IsWireWidth, Sound}
use Rattle.netlist.specs.Wires.{read_by}
use Rattle.netlist.specs.declared.net.Cell.{Cell}
use Rattle.netlist.specs.declared.net.Cell.TheVariants.{Const, Copy, Cut, Un, Bin, Mux}
use Rattle.netlist.specs.declared.net.Op1.TheVariants.{Not}
use Rattle.netlist.specs.declared.net.Op2.TheVariants.{Add}
use Rattle.share_laws.specs.Examples.{ChoiceIsFirst, CopyGoes, InitialsDiffer, PipelinesAreSame, SumIsKnown, bit_of_copy, register, sum_of_constants, two_initials, two_pipelines}
use Rattle.share_laws.specs.Same.{AllKnown, Copies, IsFolded, IsKnown, Same}
use Rattle.share_laws.specs.Same.AllKnown.{known_and, known_none}
use Rattle.share_laws.specs.Same.AllSame.{same_and, same_none}
use Rattle.share_laws.specs.Same.Copies.{chosen, copy, whole}
use Rattle.share_laws.specs.Same.IsKnown.{carried, constant, folded}
use Rattle.share_laws.specs.Same.Same.{copied, equal_bits, equal_cells, itself, turned}
use Rattle.share_laws.specs.Shares.{IsAmong, IsLive, IsProper, Serves, Stands}
use Rattle.share_laws.specs.Shares.IsLive.{for_cell, for_output}
use Rattle.share_laws.specs.Shares.IsNumbered.{as_input, as_kept}
use Rattle.share_laws.specs.Shares.IsProper.{of_cell, of_input}
use Rattle.share_laws.specs.Shares.IsSharedCell.{as_own}
use Rattle.share_laws.proofs.Values.{one_of_same}
use Rattle.share_laws.proofs.Widths.{same_width}

first_registers : Same two_pipelines 1 2
first_registers =
    equal_cells (register 1 0 0) (register 2 0 0) 1 2 (0, refl) (1, refl) refl refl refl
    (same_and (wire 0) (wire 0) [] [] (itself 0 (omega arith)) same_none)

inverters : Same two_pipelines 3 4
inverters =
    equal_cells (Un (wire 3) Not (wire 1)) (Un (wire 4) Not (wire 2)) 3 4 (2, refl) (3, refl) refl refl refl
    (same_and (wire 1) (wire 2) [] [] first_registers same_none)

pub pipelines_are_same : PipelinesAreSame
pipelines_are_same =
    equal_cells (register 5 7 3) (register 6 7 4) 5 6 (4, refl) (5, refl) refl refl refl
    (same_and (wire 3) (wire 4) [] [] inverters same_none)

one_known : IsKnown sum_of_constants 0 (byte 1)
one_known = constant (wire 0) (byte 1) (0, refl)

sum_known : IsKnown sum_of_constants 1 (byte 2)
sum_known =
    folded (Bin (wire 1) Add (wire 0) (wire 0)) 1 (byte 1 ∷ byte 1 ∷ []) (1, refl) tt refl
    (known_and (wire 0) (wire 0 ∷ []) (byte 1) (byte 1 ∷ []) one_known (known_and (wire 0) [] (byte 1) [] one_known known_none))

pub sum_is_known : SumIsKnown
sum_is_known = (sum_known, equal_bits 1 2 (byte 2) sum_known (constant (wire 2) (byte 2) (2, refl)))

pub choice_is_first : ChoiceIsFirst
choice_is_first =
    copied (Mux (wire 3) (wire 2) (wire 0) (wire 1)) 3 0 (1, refl) refl
    (chosen (wire 3) (wire 2) (wire 0) (wire 1) (bit 1) (constant (wire 2) (bit 1) (0, refl)))

-- registers of two initial values
pub byte_width : IsWireWidth 8
byte_width = (omega arith, omega arith)

initials_sound : Sound two_initials
initials_sound = record {
  few = omega arith;
  widths = (byte_width, (byte_width, (byte_width, tt)));
  inputs = refl;
  outputs = refl;
  cells = ((omega arith, refl, refl), ((omega arith, refl, refl), tt));
  in_order = (refl, (refl, tt));
  all = refl;
}

fed_by_none : (v w : ℕ) → Feeds two_initials.cells v w → ⊥
fed_by_none v w f = from f.0 f.1 f.3
  where
    from : (place k : ℕ) → awaited_at two_initials.cells place k ≡ Some v → ⊥
    from zero k e = absurd (cc)
    from (suc zero) k e = absurd (cc)
    from (suc (suc place)) k e = absurd (cc)

initials_loop : HasNoLoop two_initials
initials_loop cycle loop_ =
    let round = loop_.0 in
    let last = length (wire_numbers cycle) - 1 in
    fed_by_none (slice_index (wire_numbers cycle) last) (slice_index (wire_numbers cycle) 0) (round.closes last (omega (arith, round.some)))

abbrev an_event : Event
an_event = record { ticks = dom 0 ∷ []; resets = []; inputs = byte 0 ∷ [] }

event_fits : FitsPorts two_initials.ports (an_event ∷ [])
event_fits = (record { some_tick = omega arith; known = (omega arith, tt); resets = tt; inputs = (refl, tt) }, tt)

pub initials_differ : InitialsDiffer
initials_differ s =
    let e : byte 0 ≡ byte 1 =
    one_of_same two_initials initials_sound initials_loop (an_event ∷ []) 1 2 (byte 0) (byte 1) event_fits s
    (first (wire 1) (wire 0) (dom 0) (byte 0) (an_event ∷ []) (0, refl) refl)
    (first (wire 2) (wire 0) (dom 0) (byte 1) (an_event ∷ []) (1, refl) refl) in
    let n : number_of (byte 0) ≡ number_of (byte 1) = ap number_of e in
    absurd (omega arith)

-- a bit of a copy
copy_sound : Sound bit_of_copy
copy_sound = record {
  few = omega arith;
  widths = (byte_width, (byte_width, ((omega arith, omega arith), tt)));
  inputs = refl;
  outputs = refl;
  cells = ((8, refl, refl), ((omega arith, refl, (8, omega arith, refl)), tt));
  in_order = (refl, (refl, tt));
  all = refl;
}

input_proper : IsProper bit_of_copy 0
input_proper = of_input (omega arith)

no_whole : (a : ℕ) → Copies bit_of_copy (Cut (wire 2) (wire 1) 0 0) a → ⊥
no_whole _ (whole w a high e) = absurd (let is = same_Some 8 1 e in omega arith)

bit_proper : IsProper bit_of_copy 2
bit_proper = of_cell (Cut (wire 2) (wire 1) 0 0) (1, refl) refl no_whole

copy_same : Same bit_of_copy 1 0
copy_same = copied (Copy (wire 1) (wire 0)) 1 0 (0, refl) refl (copy (wire 1) (wire 0))

-- the proper wires
proper_are : (w : ℕ) → IsProper bit_of_copy w → (w ≡ 0) ⊎ (w ≡ 2)
proper_are w (of_input l) = inl (omega (arith, l))
proper_are w (of_cell cell has t none) = from has.0 has.1
  where
    from : (place : ℕ) → slice_get bit_of_copy.cells place ≡ Some cell → (w ≡ 0) ⊎ (w ≡ 2)
    from zero e =
        let is : Copy (wire 1) (wire 0) ≡ cell = cc in
        absurd (none 0 (subst (λ c. Copies bit_of_copy c 0) is (copy (wire 1) (wire 0))))
    from (suc zero) e =
        let is : Cut (wire 2) (wire 1) 0 0 ≡ cell = cc in
        let number : Some 2 ≡ Some w = ap target is ∙ t in
        inr (cc)
    from (suc (suc place)) e = absurd (let no : None ≡ Some cell = e in cc)

input_stands : Stands bit_of_copy 0
input_stands = record { proper = input_proper; least = λ v p s. omega arith }

bit_stands : Stands bit_of_copy 2
bit_stands = record { proper = bit_proper; least = λ v p s. from v (proper_are v p) s }
  where
    from : (v : ℕ) → (v ≡ 0) ⊎ (v ≡ 2) → Same bit_of_copy v 2 → 2 ≤ v
    from v (inl e) s =
        let wide : slice_get bit_of_copy.widths 0 ≡ slice_get bit_of_copy.widths 2 =
        ap (λ n. slice_get bit_of_copy.widths n) (sym e) ∙ same_width bit_of_copy copy_sound v 2 s in
        absurd (let is = same_Some 8 1 wide in omega arith)
    from v (inr e) s = omega (arith, e)

input_serves : Serves bit_of_copy 0 1
input_serves = record { stands = input_stands; same = turned 1 0 copy_same }

bit_serves : Serves bit_of_copy 2 2
bit_serves = record { stands = bit_stands; same = itself 2 (omega arith) }

live_stands : (w : ℕ) → IsLive bit_of_copy w → Stands bit_of_copy w
live_stands _ (for_output k o v e serves) = serves.stands
live_stands _ (for_cell w cell k r v live unknown has t e serves) = serves.stands

kept_live : (w : ℕ) → IsAmong (2 ∷ []) w → IsLive bit_of_copy w × (1 ≤ w)
kept_live w (zero, e) =
    let is : 2 ≡ w = cc in
    subst (λ n. IsLive bit_of_copy n × (1 ≤ n)) is (for_output 1 (wire 2) 2 refl bit_serves, omega arith)
kept_live w (suc k, e) = absurd (let no : None ≡ Some w = e in cc)

live_kept : (w : ℕ) → IsLive bit_of_copy w × (1 ≤ w) → IsAmong (2 ∷ []) w
live_kept w (live, l) = from (proper_are w (live_stands w live).proper)
  where
    from : (w ≡ 0) ⊎ (w ≡ 2) → IsAmong (2 ∷ []) w
    from (inl e) = absurd (omega (arith, e, l))
    from (inr e) = (0, ap Some (sym e))

-- no bits are known, since there is no constant
no_constant : (place : ℕ) (w : WireId) (bits : List Bool) → slice_get bit_of_copy.cells place ≡ Some (Const w bits) → ⊥
no_constant zero w bits e = absurd (cc)
no_constant (suc zero) w bits e = absurd (cc)
no_constant (suc (suc place)) w bits e = absurd (let no : None ≡ Some (Const w bits) = e in cc)

folded_reads : (place : ℕ) (cell : Cell) → slice_get bit_of_copy.cells place ≡ Some cell → IsFolded cell → read_by cell ≡ wire 1 ∷ []
folded_reads zero cell e f =
    let is : Copy (wire 1) (wire 0) ≡ cell = cc in absurd (subst (λ c. IsFolded c) (sym is) f)
folded_reads (suc zero) cell e f = let is : Cut (wire 2) (wire 1) 0 0 ≡ cell = cc in ap read_by (sym is)
folded_reads (suc (suc place)) cell e f = absurd (let no : None ≡ Some cell = e in cc)

mutual
  known_nowhere : (w : ℕ) (bits : List Bool) → IsKnown bit_of_copy w bits → ⊥
  known_nowhere _ _ (constant w bits has) = no_constant has.0 w bits has.1
  known_nowhere _ _ (folded cell w values has f t all) = read_nowhere (read_by cell) values all (wire 1) [] (folded_reads has.0 cell has.1 f)
  known_nowhere _ _ (carried v w bits s k) = known_nowhere v bits k

  read_nowhere : (wires : List WireId) (values : List (List Bool)) → AllKnown bit_of_copy wires values → (w : WireId) (rest : List WireId)
      → wires ≡ w ∷ rest → ⊥
  read_nowhere _ _ known_none w rest e = absurd (cc)
  read_nowhere _ _ (known_and v wires bits values k all) w rest e = known_nowhere v.number bits k

pub copy_goes : CopyGoes
copy_goes = record {
  ports = refl;
  kept = 2 ∷ [];
  rises = (omega arith, tt);
  live = λ w. (kept_live w, live_kept w);
  widths = refl;
  outputs = (
    record { by = 0; serves = input_serves; numbered = as_input (omega arith) refl },
    (record { by = 2; serves = bit_serves; numbered = as_kept 0 refl refl }, tt),
  );
  cells = (
    as_own (Cut (wire 2) (wire 1) 0 0) (λ bits k. known_nowhere 2 bits k) (1, refl) refl refl refl
        (record { by = 0; serves = input_serves; numbered = as_input (omega arith) refl }, tt),
    tt,
  );
}
