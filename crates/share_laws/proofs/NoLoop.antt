-- The shared net of a flat net without a loop has no loop.
use Rattle.std.proofs.Common.{◌≡◌, ℕ, zero, suc, ◌+◌, ◌-◌, ◌<◌, ◌≤◌, ◌⊎◌, inl, inr, Bool, List, [], ◌∷◌, length, Some, slice_get, refl, sym, ap, subst, ◌∙◌, arith, add-one}
use Rattle.std.specs.Prelude.{option_and_then, option_map, slice_index}
use Rattle.std.specs.List.{AllByRecursion}
use Rattle.std.proofs.lemmas.Bool.{cases_lt}
use Rattle.std.proofs.lemmas.Option.{same_Some}
use Rattle.chw_base.specs.declared.index.WireId.{WireId}
use Rattle.netlist.specs.Feeds.{Feeds, awaited_at, awaited_wire, target, target_at}
use Rattle.netlist.specs.NetValue.{HasCell}
use Rattle.netlist.specs.Orders.{HasNoLoop, IsCycle, OrdersCells, wire_numbers}
use Rattle.netlist.specs.Sound.{IsWire, Sound}
use Rattle.netlist.specs.Wires.{read_by}
use Rattle.netlist.specs.declared.net.Cell.{Cell}
use Rattle.netlist.specs.declared.net.Cell.TheVariants.{Const, Ram, Reg}
use Rattle.netlist.specs.declared.net.Flat.{Flat}
use Rattle.netlist.proofs.Driven.{each_driven_once}
use Rattle.netlist.proofs.Lengths.{fits_cell}
use Rattle.netlist.proofs.Lists.{target_within}
use Rattle.netlist.proofs.Ordered.{an_order}
use Rattle.netlist.proofs.Places.{cell_there}
use Rattle.share_laws.specs.Same.{AllSame, IsKnown, Same, bare}
use Rattle.share_laws.specs.Same.AllSame.{same_and, same_none}
use Rattle.share_laws.specs.Same.Same.{chained, itself, turned}
use Rattle.share_laws.specs.Shares.{AllBecome, Becomes, IsNumbered, IsProper, IsSharedCell, Shares, Stands}
use Rattle.share_laws.specs.Shares.IsNumbered.{as_input, as_kept}
use Rattle.share_laws.specs.Shares.IsProper.{of_input}
use Rattle.share_laws.specs.Shares.IsSharedCell.{as_constant, as_own}
use Rattle.share_laws.proofs.Agreeing.{Agree, agree, first_exists}
use Rattle.share_laws.proofs.Agreeing.Agree.{both_known, like_cells, one_wire}
use Rattle.share_laws.proofs.Alike.{Alike, alike}
use Rattle.share_laws.proofs.Alike.Alike.{rams, regs}
use Rattle.share_laws.proofs.AsNet.{reads_exist}
use Rattle.share_laws.proofs.Chosen.{Decided, KnownOnce, not_undecided}
use Rattle.share_laws.proofs.Leading.{Led, StandsAt, leads_proper, leads_same, led}
use Rattle.share_laws.proofs.Leading.Leads.{rests}
use Rattle.share_laws.proofs.OneShared.{one_driver}
use Rattle.share_laws.proofs.Renamed.{cell_of, live_stands, proper_within, shared_at, shared_target}
use Rattle.share_laws.proofs.Rising.{rises_at}
use Rattle.share_laws.proofs.Soundness.{shared_sound}

numbered_at : (ws : List WireId) (k n : ℕ) → option_map (λ (w : WireId). w.number) (slice_get ws k) ≡ Some n
    → (w : WireId) × (slice_get ws k ≡ Some w) × (w.number ≡ n)
numbered_at [] k n e = absurd (cc)
numbered_at (w ∷ ws) zero n e = (w, refl, cc)
numbered_at (w ∷ ws) (suc k) n e = numbered_at ws k n e

-- what a cell waits for it reads
awaited_read : (cell : Cell) (k n : ℕ) → awaited_wire cell k ≡ Some n → (w : WireId) × (slice_get (read_by cell) k ≡ Some w) × (w.number ≡ n)
awaited_read (Reg w domain initial a) k n e = absurd (cc)
awaited_read (Ram w domain words inputs) k n e = absurd (cc)
awaited_read cell k n e = numbered_at (read_by cell) k n e

-- where one of two cells that are alike waits for a wire, so does the other
alike_awaits : (c d : Cell) (k n : ℕ) (r : WireId) → Alike c d → awaited_wire c k ≡ Some n → slice_get (read_by d) k ≡ Some r
    → awaited_wire d k ≡ Some r.number
alike_awaits _ _ k n r (regs v w a b domain initial) e at = absurd (cc)
alike_awaits _ _ k n r (rams v w domain words inputs others) e at = absurd (cc)
alike_awaits c d k n r _ e at = ap (λ o. option_map (λ (w : WireId). w.number) o) at

-- wires at one place of two lists
became_at : (flat : Flat) (kept : List ℕ) (ws ns : List WireId) (k : ℕ) (n : WireId) → AllBecome flat kept ws ns → slice_get ns k ≡ Some n
    → (w : WireId) × (slice_get ws k ≡ Some w) × Becomes flat kept w.number n.number
became_at flat kept [] [] k n all e = absurd (cc)
became_at flat kept [] (x ∷ ns) k n all e = absurd all
became_at flat kept (w ∷ ws) [] k n all e = absurd (cc)
became_at flat kept (w ∷ ws) (x ∷ ns) zero n all e =
    let is : x ≡ n = cc in (w, refl, subst (λ (y : WireId). Becomes flat kept w.number y.number) is all.0)
became_at flat kept (w ∷ ws) (x ∷ ns) (suc k) n all e = became_at flat kept ws ns k n all.1 e

same_at : (flat : Flat) (vs ws : List WireId) → AllSame flat vs ws → (k : ℕ) (w : WireId) → slice_get ws k ≡ Some w
    → (v : WireId) × (slice_get vs k ≡ Some v) × Same flat v.number w.number
same_at flat _ _ same_none k w e = absurd (cc)
same_at flat _ _ (same_and v x vs ws s all) zero w e =
    let is : x ≡ w = cc in (v, refl, subst (λ (y : WireId). Same flat v.number y.number) is s)
same_at flat _ _ (same_and v x vs ws s all) (suc k) w e = same_at flat vs ws all k w e

pub all_themselves : (flat : Flat) (ws : List WireId) → AllByRecursion (IsWire flat.widths) ws → AllSame flat ws ws
all_themselves flat [] all = same_none
all_themselves flat (w ∷ ws) all = same_and w w ws ws (itself w.number all.0) (all_themselves flat ws all.1)

module _ (flat shared : Flat) (sound : Sound flat) (once : KnownOnce flat) (s : Shares flat shared)
    (places : List ℕ) (order : OrdersCells flat.cells places) (decided : Decided flat) where
  abbrev Numbered : ℕ → ℕ → Type 0
  Numbered v n = IsNumbered (length flat.ports.inputs) s.kept v n

  abbrev Here : ℕ → ℕ → Type 0
  Here w i = StandsAt flat sound places order decided w i

  stands_there : (w place i : ℕ) → i < length places → slice_index places i ≡ place → target_at flat.cells place ≡ Some w → Here w i
  stands_there w place i l e t = (l, ap (λ p. target_at flat.cells p) e ∙ t)

  numbered_proper : (w n : ℕ) → Numbered w n → IsProper flat w
  numbered_proper w n (as_input l e) = of_input l
  numbered_proper w n (as_kept k at e) = (live_stands flat w ((s.live w).0 (k, at)).0).proper

  -- a proper wire that is equal to the one of a new number stands at this place of the order
  record Near (n i : ℕ) : Type 0 where
    w : ℕ
    numbered : Numbered w n
    p : ℕ
    proper : IsProper flat p
    same : Same flat p w
    stands : Here p i

  -- no input is equal to the wire of a new number that is no input
  no_input : (v n p : ℕ) → Numbered v n → length flat.ports.inputs ≤ n → Stands flat v → Same flat p v → p < length flat.ports.inputs → ⊥
  no_input v n p num after stands same l =
      let least = stands.least p (of_input l) same in from num least
    where
      from : Numbered v n → v ≤ p → ⊥
      from (as_input m e) least = omega (arith, m, e, after)
      from (as_kept k at e) least = let behind = rises_at (length flat.ports.inputs) s.kept k v s.rises at in omega (arith, behind, least, l)

  -- a cell of one kind with the own one, which reads equal wires
  record Stood (p : ℕ) (own : Cell) : Type 0 where
    cell : Cell
    has : HasCell flat cell
    drives : target cell ≡ Some p
    like : bare cell ≡ bare own
    reads : AllSame flat (read_by cell) (read_by own)

  stood : (p w : ℕ) (own : Cell) → HasCell flat own → target own ≡ Some w → ((bits : List Bool) → IsKnown flat w bits → ⊥) → Agree flat p w → Stood p own
  stood p w own has t unknown (both_known bits k l) = absurd (unknown bits l)
  stood p w own has t unknown (one_wire e) = record {
    cell = own;
    has = has;
    drives = t ∙ ap Some (sym e);
    like = refl;
    reads = all_themselves flat (read_by own) (reads_exist (length flat.ports.domains) flat.widths own (fits_cell flat own sound has));
  }
  stood p w own has t unknown (like_cells c d there here u v e all) =
      let is : d ≡ own = one_driver flat d own w sound here has v t in
      record {
        cell = c;
        has = there;
        drives = u;
        like = e ∙ ap bare is;
        reads = subst (λ x. AllSame flat (read_by c) (read_by x)) is all;
      }

  record Earlier (n j : ℕ) : Type 0 where
    i : ℕ
    less : i < j
    near : Near n i

  -- what feeds a new number is near an earlier place
  module _ (n m j : ℕ) (after : length flat.ports.inputs ≤ n) (near : Near m j) where
    by_read : (own : Cell) → Stood near.p own → (k : ℕ) (r : WireId) (c : Cell) → awaited_wire c k ≡ Some n → bare c ≡ bare own → target c ≡ Some m
        → slice_get (read_by own) k ≡ Some r → Becomes flat s.kept r.number n → Earlier n j
    by_read own st k r c awaits like t at becomes = from (cases_lt found.0.number (length flat.ports.inputs))
      where
        found : (v : WireId) × (slice_get (read_by st.cell) k ≡ Some v) × Same flat v.number r.number
        found = same_at flat (read_by st.cell) (read_by own) st.reads k r at

        equal : Same flat found.0.number becomes.by
        equal = chained found.0.number r.number becomes.by found.2 (turned becomes.by r.number becomes.serves.same)

        waits : awaited_wire st.cell k ≡ Some found.0.number
        waits = alike_awaits c st.cell k n found.0 (alike c st.cell m (like ∙ sym st.like) t) awaits found.1

        waits_here : awaited_at flat.cells (slice_index places j) k ≡ Some found.0.number
        waits_here =
            let there = cell_there flat.cells (slice_index places j) near.p near.stands.1 in
            let is : there.0 ≡ st.cell = one_driver flat there.0 st.cell near.p sound (slice_index places j, there.1) st.has there.2 st.drives in
            ap (λ o. option_and_then (λ x. awaited_wire x k) o) there.1 ∙ ap (λ x. awaited_wire x k) is ∙ waits

        finish : (i : ℕ) → i < j → (end : Led flat sound places order decided found.0.number i)
            → (end.to < length flat.ports.inputs) ⊎ ((h : ℕ) × (h ≤ i) × Here end.to h) → Earlier n j
        finish i l end (inl input) =
            let equal_end : Same flat end.to becomes.by =
            chained end.to found.0.number becomes.by (turned found.0.number end.to (leads_same flat sound found.0.number end.to end.leads)) equal in
            absurd (no_input becomes.by n end.to becomes.numbered after becomes.serves.stands equal_end input)
        finish i l end (inr there) = record {
          i = there.0;
          less = omega (arith, l, there.1);
          near = record {
            w = becomes.by;
            numbered = becomes.numbered;
            p = end.to;
            proper = leads_proper flat sound found.0.number end.to end.leads;
            same = chained end.to found.0.number becomes.by (turned found.0.number end.to (leads_same flat sound found.0.number end.to end.leads)) equal;
            stands = there.2;
          };
        }

        from : (found.0.number < length flat.ports.inputs) ⊎ (length flat.ports.inputs ≤ found.0.number) → Earlier n j
        from (inl input) = absurd (no_input becomes.by n found.0.number becomes.numbered after becomes.serves.stands equal input)
        from (inr far) =
            let driven = (each_driven_once flat sound).driven found.0.number far (first_exists flat sound found.0.number becomes.by equal) in
            let before = order.after j k found.0.number driven.0 near.stands.0 waits_here driven.1 in
            let there : Here found.0.number before.0 =
            stands_there found.0.number driven.0 before.0 (omega (arith, before.1, near.stands.0)) before.2 driven.1 in
            let end = led flat sound places order decided (suc before.0) before.0 found.0.number (omega arith) there in
            finish before.0 before.1 end end.early

    by_cell : (c : Cell) (k : ℕ) → target c ≡ Some m → awaited_wire c k ≡ Some n → IsSharedCell flat s.kept near.w m c → Earlier n j
    by_cell c k t awaits (as_constant bits known e) =
        absurd (let none : awaited_wire (Const (record { number = m }) bits) k ≡ Some n = ap (λ x. awaited_wire x k) (sym e) ∙ awaits in cc)
    by_cell c k t awaits (as_own own unknown has u like t' reads) =
        let proper = numbered_proper near.w m near.numbered in
        let agrees = agree flat sound once places order decided near.p near.w near.same near.p near.w (rests near.p near.proper) (rests near.w proper) in
        let read = awaited_read c k n awaits in
        let became = became_at flat s.kept (read_by own) (read_by c) k read.0 reads read.1 in
        by_read own (stood near.p near.w own has u unknown agrees) k became.0 c awaits (sym like) t became.1
        (subst (λ x. Becomes flat s.kept became.0.number x) read.2 became.2)

    earlier : Feeds shared.cells n m → Earlier n j
    earlier f =
        let there = cell_there shared.cells f.0 m f.2 in
        let awaits : awaited_wire there.0 f.1 ≡ Some n = sym (ap (λ o. option_and_then (λ x. awaited_wire x f.1) o) there.1) ∙ f.3 in
        by_cell there.0 f.1 there.2 awaits (cell_of flat sound shared s there.0 near.w m (f.0, there.1) there.2 near.numbered)

  -- so there is no cycle
  module _ (wires : List ℕ) (c : IsCycle shared.cells wires) where
    record Before (i : ℕ) : Type 0 where
      j : ℕ
      within : j < length wires
      feeds : Feeds shared.cells (slice_index wires j) (slice_index wires i)

    before : (i : ℕ) → i < length wires → Before i
    before zero l = record { j = length wires - 1; within = omega (arith, l); feeds = c.closes (length wires - 1) (omega (arith, l)) }
    before (suc i) l = record {
      j = i;
      within = omega (arith, l);
      feeds = (let f = c.feeds i (omega (arith, l)) in rw add-one at f);
    }

    driven : (i : ℕ) → i < length wires → length flat.ports.inputs ≤ slice_index wires i
    driven i l =
        let b = before i l in
        let free = (each_driven_once shared (shared_sound flat shared sound s)).free b.feeds.0 (slice_index wires i) b.feeds.2 in
        let same = ap (λ p. length p.inputs) s.ports in
        omega (arith, free, same)

    never : (bound i : ℕ) → i < length wires → (j : ℕ) → j < bound → Near (slice_index wires i) j → ⊥
    never zero i l j m near = omega (arith, m)
    never (suc bound) i l j m near =
        let b = before i l in
        let e = earlier (slice_index wires b.j) (slice_index wires i) j (driven b.j b.within) near b.feeds in
        never bound b.j b.within e.i (omega (arith, e.less, m)) e.near

    -- the first wire of the cycle is near some place
    pub no_cycle : ⊥
    no_cycle =
        let b = before 0 c.some in
        let there = cell_there shared.cells b.feeds.0 (slice_index wires 0) b.feeds.2 in
        let at = shared_at flat s.kept (length flat.ports.inputs) s.kept shared.cells b.feeds.0 there.0 s.cells there.1 in
        let place : slice_index wires 0 ≡ length flat.ports.inputs + b.feeds.0 =
        same_Some (slice_index wires 0) (length flat.ports.inputs + b.feeds.0) (sym there.2 ∙ shared_target flat s.kept at.w (length flat.ports.inputs + b.feeds.0) there.0 at.is_shared) in
        let proper = (live_stands flat at.w ((s.live at.w).0 (b.feeds.0, at.there)).0).proper in
        let within = proper_within flat sound at.w proper in
        let own = (each_driven_once flat sound).driven at.w (rises_at (length flat.ports.inputs) s.kept b.feeds.0 at.w s.rises at.there) within in
        let here = order.all own.0 (target_within flat.cells own.0 at.w own.1) in
        let stands : Here at.w here.0 = stands_there at.w own.0 here.0 here.1 here.2 own.1 in
        never (suc here.0) 0 c.some here.0 (omega arith) (record {
          w = at.w;
          numbered = as_kept b.feeds.0 at.there place;
          p = at.w;
          proper = proper;
          same = itself at.w within;
          stands = stands;
        })

pub shared_no_loop : (flat shared : Flat) → Sound flat → HasNoLoop flat → KnownOnce flat → Shares flat shared → HasNoLoop shared
shared_no_loop flat shared sound none once s cycle loop_ =
    let order = an_order flat sound none in
    not_undecided flat (λ decided. no_cycle flat shared sound once s order.0 order.1 decided (wire_numbers cycle) loop_.0)
