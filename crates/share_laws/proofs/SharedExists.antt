-- A sound flat net without a loop has a shared net, where it is decided which wires are equal, known and needed.
use Rattle.std.proofs.Common.{◌≡◌, ℕ, suc, ◌+◌, ◌<◌, ◌≤◌, ◌⊎◌, inl, inr, Bool, List, [], ◌∷◌, ◌++◌, length, map, take, Some, slice_get, refl, sym, ap, subst, arith}
use Rattle.std.specs.Prelude.{slice_index}
use Rattle.std.proofs.lemmas.Bool.{cases_lt}
use Rattle.chw_base.specs.declared.index.WireId.{WireId}
use Rattle.netlist.specs.Feeds.{target}
use Rattle.netlist.specs.NetValue.{HasCell}
use Rattle.netlist.specs.Orders.{HasNoLoop, OrdersCells}
use Rattle.netlist.specs.Sound.{IsWire, Sound}
use Rattle.netlist.specs.Wires.{read_by}
use Rattle.netlist.specs.declared.net.Cell.{Cell}
use Rattle.netlist.specs.declared.net.Cell.TheVariants.{Const, Copy, Join, Cut, Un, Bin, Mux, Reg, Ram, Use}
use Rattle.netlist.specs.declared.net.Flat.{Flat}
use Rattle.netlist.proofs.Lengths.{fits_cell}
use Rattle.netlist.proofs.Ordered.{an_order}
use Rattle.netlist.proofs.Places.{all_at}
use Rattle.share_laws.specs.Same.{Copies, IsKnown, IsOpen, Same, bare, wire_0, zero_wires}
use Rattle.share_laws.specs.Same.Same.{chained, turned}
use Rattle.share_laws.specs.Shares.{AllBecome, AreSharedCells, Becomes, IsAmong, IsLive, IsNumbered, IsProper, IsSharedCell, Serves, Shares, Stands}
use Rattle.share_laws.specs.Shares.IsLive.{for_cell, for_output}
use Rattle.share_laws.specs.Shares.IsNumbered.{as_input, as_kept}
use Rattle.share_laws.specs.Shares.IsProper.{of_cell, of_input}
use Rattle.share_laws.specs.Shares.IsSharedCell.{as_constant, as_own}
use Rattle.share_laws.proofs.Apart.{driver_of}
use Rattle.share_laws.proofs.AsNet.{outputs_exist, reads_exist}
use Rattle.share_laws.proofs.Chosen.{Chosen, Decided, chooses_copies, decide_copy, not_not_all, not_undecided}
use Rattle.share_laws.proofs.Leading.{leads_proper, leads_same, proper_copies, some_led}
use Rattle.share_laws.proofs.LeastNumber.{DecidedBelow, Least, Those, least_of, those_from}
use Rattle.share_laws.proofs.Renamed.{live_within, proper_within}

-- a cell with other wires
record Remade (cell : Cell) (n : ℕ) (ns : List WireId) : Type 0 where
  made : Cell
  like : bare cell ≡ bare made
  drives : target made ≡ Some n
  reads : read_by made ≡ ns

zeros_alike : (ws ns : List WireId) → length ns ≡ length ws → zero_wires ws ≡ zero_wires ns
zeros_alike [] [] e = refl
zeros_alike [] (n ∷ ns) e = absurd (omega (arith, e))
zeros_alike (w ∷ ws) [] e = absurd (omega (arith, e))
zeros_alike (w ∷ ws) (n ∷ ns) e = ap (λ zs. wire_0 ∷ zs) (zeros_alike ws ns (omega (arith, e)))

abbrev wire_of : ℕ → WireId
wire_of n = record { number = n }

remade : (cell : Cell) (w n : ℕ) (ns : List WireId) → target cell ≡ Some w → length ns ≡ length (read_by cell) → Remade cell n ns
remade (Const x bits) w n [] t e = record { made = Const (wire_of n) bits; like = refl; drives = refl; reads = refl }
remade (Copy x a) w n (b ∷ []) t e = record { made = Copy (wire_of n) b; like = refl; drives = refl; reads = refl }
remade (Join x parts) w n ns t e =
    record { made = Join (wire_of n) ns; like = ap (λ zs. Join wire_0 zs) (zeros_alike parts ns e); drives = refl; reads = refl }
remade (Cut x a high low) w n (b ∷ []) t e = record { made = Cut (wire_of n) b high low; like = refl; drives = refl; reads = refl }
remade (Un x op a) w n (b ∷ []) t e = record { made = Un (wire_of n) op b; like = refl; drives = refl; reads = refl }
remade (Bin x op a b) w n (c ∷ d ∷ []) t e = record { made = Bin (wire_of n) op c d; like = refl; drives = refl; reads = refl }
remade (Mux x c a b) w n (d ∷ y ∷ z ∷ []) t e = record { made = Mux (wire_of n) d y z; like = refl; drives = refl; reads = refl }
remade (Reg x domain initial a) w n (b ∷ []) t e = record { made = Reg (wire_of n) domain initial b; like = refl; drives = refl; reads = refl }
remade (Ram x domain words inputs) w n (a ∷ b ∷ c ∷ d ∷ []) t e = record {
  made = Ram (wire_of n) domain words (record { read = a; enable = b; place = c; value = d });
  like = refl;
  drives = refl;
  reads = refl;
}
remade (Use m reads drives) w n ns t e = absurd (cc)
remade _ w n ns t e = absurd (omega (arith, e))

module _ (flat : Flat) (kept : List ℕ) where
  -- what all of these wires become
  all_become : (ws : List WireId) → ((k : ℕ) (w : WireId) → slice_get ws k ≡ Some w → (n : WireId) × Becomes flat kept w.number n.number)
      → (ns : List WireId) × AllBecome flat kept ws ns
  all_become [] each = ([], tt)
  all_become (w ∷ ws) each =
      let here = each 0 w refl in
      let rest = all_become ws (λ k v e. each (suc k) v e) in
      (here.0 ∷ rest.0, (here.1, rest.1))

  become_long : (ws ns : List WireId) → AllBecome flat kept ws ns → length ns ≡ length ws
  become_long [] [] all = refl
  become_long [] (n ∷ ns) all = absurd all
  become_long (w ∷ ws) [] all = absurd all
  become_long (w ∷ ws) (n ∷ ns) all = ap suc (become_long ws ns all.1)

  -- the cells of these wires
  all_cells : (n : ℕ) (ws : List ℕ) → ((w n : ℕ) → IsAmong ws w → (cell : Cell) × IsSharedCell flat kept w n cell)
      → (cells : List Cell) × AreSharedCells flat kept n ws cells
  all_cells n [] each = ([], tt)
  all_cells n (w ∷ ws) each =
      let here = each w n (0, refl) in
      let rest = all_cells (n + 1) ws (λ v m i. each v m (suc i.0, i.1)) in
      (here.0 ∷ rest.0, (here.1, rest.1))

module _ (flat : Flat) (sound : Sound flat) (places : List ℕ) (order : OrdersCells flat.cells places) (decided : Decided flat) where
  proper_decided : DecidedBelow (length flat.widths) (IsProper flat)
  proper_decided w l = from (cases_lt w (length flat.ports.inputs))
    where
      by_cell : (cell : Cell) → HasCell flat cell → target cell ≡ Some w → Chosen flat cell ⊎ ((a : ℕ) → Copies flat cell a → ⊥)
          → IsProper flat w ⊎ (IsProper flat w → ⊥)
      by_cell cell has t (inl c) = inr (λ p. proper_copies flat sound w c.from cell p has t (chooses_copies flat cell c.from c.chooses))
      by_cell cell has t (inr none) = inl (of_cell cell has t none)

      from : (w < length flat.ports.inputs) ⊎ (length flat.ports.inputs ≤ w) → IsProper flat w ⊎ (IsProper flat w → ⊥)
      from (inl m) = inl (of_input m)
      from (inr m) =
          let own = driver_of flat sound w m l in
          by_cell own.0 own.1 own.2 (decide_copy flat decided own.0 (fits_cell flat own.0 sound own.1))

  -- a proper wire that is equal to this one
  abbrev ProperSame : ℕ → ℕ → Type 0
  ProperSame w v = IsProper flat v × Same flat v w

  both_decided : {A B : Type 0} → A ⊎ (A → ⊥) → B ⊎ (B → ⊥) → (A × B) ⊎ ((A × B) → ⊥)
  both_decided (inl a) (inl b) = inl (a, b)
  both_decided (inl a) (inr never) = inr (λ ab. never ab.1)
  both_decided (inr never) o = inr (λ ab. never ab.0)

  standing : (w : ℕ) (found : Least (ProperSame w) (length flat.widths)) → Stands flat found.number
  standing w found = record { proper = found.holds.0; least = λ u p s. at_least u p s (cases_lt u found.number) }
    where
      at_least : (u : ℕ) → IsProper flat u → Same flat u found.number → (u < found.number) ⊎ (found.number ≤ u) → found.number ≤ u
      at_least u p s (inl less) = absurd (found.least u less (p, chained u found.number w s found.holds.1))
      at_least u p s (inr le) = le

  -- one wire stands for a wire
  server : (w : ℕ) → w < length flat.widths → (v : ℕ) × Serves flat v w
  server w l = from (least_of (ProperSame w) (length flat.widths) (λ v m. both_decided (proper_decided v m) (decided.same v m w l)))
    where
      from : Least (ProperSame w) (length flat.widths) ⊎ ((v : ℕ) → v < length flat.widths → ProperSame w v → ⊥) → (v : ℕ) × Serves flat v w
      from (inl found) = (found.number, record { stands = standing w found; same = found.holds.1 })
      from (inr none) =
          let end = some_led flat sound places order decided w l in
          let proper = leads_proper flat sound w end.0 end.1 in
          absurd (none end.0 (proper_within flat sound end.0 proper) (proper, turned w end.0 (leads_same flat sound w end.0 end.1)))

  module _ (lives : DecidedBelow (length flat.widths) (IsLive flat)) where
    -- the needed wires that are no inputs
    needed_wires : Those (IsLive flat) (length flat.ports.inputs) (length flat.cells)
    needed_wires = those_from (IsLive flat) (length flat.cells) (length flat.ports.inputs) (length flat.widths) (omega (arith, sound.all)) lives

    new_number : (v : ℕ) → IsLive flat v → (n : ℕ) × IsNumbered (length flat.ports.inputs) needed_wires.list v n
    new_number v live = from (cases_lt v (length flat.ports.inputs))
      where
        from : (v < length flat.ports.inputs) ⊎ (length flat.ports.inputs ≤ v) → (n : ℕ) × IsNumbered (length flat.ports.inputs) needed_wires.list v n
        from (inl m) = (v, as_input m refl)
        from (inr m) =
            let within = live_within flat sound v live in
            let among = needed_wires.all v m (omega (arith, within, sound.all)) live in
            (length flat.ports.inputs + among.0, as_kept among.0 among.1 refl)

    -- a wire becomes another, if what stands for it is needed
    becomes : (w : ℕ) → w < length flat.widths → ((v : ℕ) → Serves flat v w → IsLive flat v) → (n : WireId) × Becomes flat needed_wires.list w n.number
    becomes w l live =
        let by = server w l in
        let next = new_number by.0 (live by.0 by.1) in
        (wire_of next.0, record { by = by.0; serves = by.1; numbered = next.1 })

    new_outputs : (ns : List WireId) × AllBecome flat needed_wires.list flat.outputs ns
    new_outputs =
        all_become flat needed_wires.list flat.outputs
        (λ k o e. becomes o.number (all_at (IsWire flat.widths) flat.outputs k o (outputs_exist flat sound) e) (λ v serves. for_output k o v e serves))

    own_cell : (w n : ℕ) → IsLive flat w → IsOpen flat w → (cell : Cell) → HasCell flat cell → target cell ≡ Some w
        → (made : Cell) × IsSharedCell flat needed_wires.list w n made
    own_cell w n live unknown cell has t =
        let exist = reads_exist (length flat.ports.domains) flat.widths cell (fits_cell flat cell sound has) in
        let reads = all_become flat needed_wires.list (read_by cell)
        (λ k r e. becomes r.number (all_at (IsWire flat.widths) (read_by cell) k r exist e) (λ v serves. for_cell w cell k r v live unknown has t e serves)) in
        let next = remade cell w n reads.0 t (become_long flat needed_wires.list (read_by cell) reads.0 reads.1) in
        let all = subst (λ ns. AllBecome flat needed_wires.list (read_by cell) ns) (sym next.reads) reads.1 in
        (next.made, as_own cell unknown has t next.like next.drives all)

    new_cell : (w n : ℕ) → IsLive flat w → length flat.ports.inputs ≤ w → (made : Cell) × IsSharedCell flat needed_wires.list w n made
    new_cell w n live l = from (decided.known w within)
      where
        within : w < length flat.widths
        within = live_within flat sound w live

        from : ((bits : List Bool) × IsKnown flat w bits) ⊎ IsOpen flat w → (made : Cell) × IsSharedCell flat needed_wires.list w n made
        from (inl k) = (Const (wire_of n) k.0, as_constant k.0 k.1 refl)
        from (inr unknown) = let own = driver_of flat sound w l within in own_cell w n live unknown own.0 own.1 own.2

    new_cells : (cells : List Cell) × AreSharedCells flat needed_wires.list (length flat.ports.inputs) needed_wires.list cells
    new_cells =
        all_cells flat needed_wires.list (length flat.ports.inputs) needed_wires.list
        (λ w n i. (let needed = needed_wires.each w i in new_cell w n needed.0 needed.1))

    among_needed : (w : ℕ) → IsLive flat w × (length flat.ports.inputs ≤ w) → IsAmong needed_wires.list w
    among_needed w both =
        let within = live_within flat sound w both.0 in
        needed_wires.all w both.1 (omega (arith, within, sound.all)) both.0

    -- the shared net
    shared : (net : Flat) × Shares flat net
    shared = (
      record {
        ports = flat.ports;
        widths = take (length flat.ports.inputs) flat.widths ++ map (λ w. slice_index flat.widths w) needed_wires.list;
        outputs = new_outputs.0;
        cells = new_cells.0;
      },
      record {
        ports = refl;
        kept = needed_wires.list;
        rises = needed_wires.rises;
        live = λ w. (λ i. needed_wires.each w i, λ both. among_needed w both);
        widths = refl;
        outputs = new_outputs.1;
        cells = new_cells.1;
      },
    )

-- so it isn't false that there is one
pub some_shared : (flat : Flat) → Sound flat → HasNoLoop flat → ((shared : Flat) → Shares flat shared → ⊥) → ⊥
some_shared flat sound none refuted =
    let order = an_order flat sound none in
    not_undecided flat (λ decided. not_not_all (length flat.widths) (λ w. IsLive flat w ⊎ (IsLive flat w → ⊥))
    (λ w l never. never (inr (λ live. never (inl live))))
    (λ lives. (let net = shared flat sound order.0 order.1 decided lives in refuted net.0 net.1)))
