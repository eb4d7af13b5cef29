-- A flat net has one shared net.
use Rattle.std.proofs.Common.{◌≡◌, ℕ, ◌+◌, Bool, List, [], ◌∷◌, ◌++◌, length, map, take, Some, slice_get, refl, sym, ap, subst, ◌∙◌, arith}
use Rattle.std.specs.Prelude.{option_and_then, slice_index}
use Rattle.chw_base.specs.declared.index.WireId.{WireId}
use Rattle.chw_clock.specs.Histories.{FitsEvent, FitsPorts, HaveWidths}
use Rattle.chw_clock.specs.declared.event.Event.{Event}
use Rattle.chw_clock.specs.declared.event.Port.{Port}
use Rattle.chw_clock.specs.declared.event.Ports.{Ports}
use Rattle.net_rules.specs.PortsHold.{PortsHold}
use Rattle.netlist.specs.Feeds.{target}
use Rattle.netlist.specs.NetValue.{HasCell, zeros}
use Rattle.netlist.specs.Orders.{HasNoLoop}
use Rattle.netlist.specs.Sound.{Sound}
use Rattle.netlist.specs.Wires.{read_by}
use Rattle.netlist.specs.declared.net.Cell.{Cell}
use Rattle.netlist.specs.declared.net.Cell.TheVariants.{Const}
use Rattle.netlist.specs.declared.net.Flat.{Flat}
use Rattle.netlist.proofs.Driven.{each_driven_once}
use Rattle.netlist.proofs.OneValue.{one_value}
use Rattle.netlist.proofs.Widths.{made_length}
use Rattle.share_laws.specs.Same.{IsKnown, bare}
use Rattle.share_laws.specs.Same.Same.{chained, turned}
use Rattle.share_laws.specs.Shares.{AllBecome, AreSharedCells, Becomes, IsNumbered, IsSharedCell, RisesFrom, Serves, Shares}
use Rattle.share_laws.specs.Shares.IsSharedCell.{as_constant, as_own}
use Rattle.share_laws.proofs.Alike.{alike, equal_cells, same_wire}
use Rattle.share_laws.proofs.Rising.{one_number, same_rising}
use Rattle.share_laws.proofs.Values.{known_value}

-- an event of the ports: the first domain ticks, without its reset, and zeros come in
abbrev first_event : Ports → Event
first_event ports = record {
  ticks = record { number = 0 } ∷ [];
  resets = [];
  inputs = map (λ (port : Port). zeros port.width) ports.inputs;
}

zeros_come : (ports : List Port) → HaveWidths ports (map (λ (port : Port). zeros port.width) ports)
zeros_come [] = tt
zeros_come (port ∷ ports) = (made_length port.width 0, zeros_come ports)

-- where the rules on ports hold, there is a history
pub a_history : (ports : Ports) → PortsHold ports → FitsPorts ports (first_event ports ∷ [])
a_history ports hold =
    let event : FitsEvent ports (first_event ports) = record {
      some_tick = omega arith;
      known = (omega (arith, hold.domains.some), tt);
      resets = tt;
      inputs = zeros_come ports.inputs;
    } in (event, tt)

-- two cells of a sound net that drive one wire are one
pub one_driver : (flat : Flat) (c d : Cell) (w : ℕ) → Sound flat → HasCell flat c → HasCell flat d → target c ≡ Some w → target d ≡ Some w → c ≡ d
one_driver flat c d w sound has there t u =
    let place : has.0 ≡ there.0 =
    (each_driven_once flat sound).once has.0 there.0 w (ap (λ o. option_and_then target o) has.1 ∙ t) (ap (λ o. option_and_then target o) there.1 ∙ u) in
    let both : Some c ≡ Some d = sym has.1 ∙ ap (λ k. slice_get flat.cells k) place ∙ there.1 in cc

-- one wire stands for a wire
pub one_serves : (flat : Flat) (u v w : ℕ) → Serves flat u w → Serves flat v w → u ≡ v
one_serves flat u v w s t =
    let there = t.stands.least u s.stands.proper (chained u w v s.same (turned v w t.same)) in
    let back = s.stands.least v t.stands.proper (chained v w u t.same (turned u w s.same)) in
    omega (arith, there, back)

pub one_becomes : (flat : Flat) (kept : List ℕ) (w n m : ℕ) → RisesFrom (length flat.ports.inputs) kept → Becomes flat kept w n → Becomes flat kept w m → n ≡ m
one_becomes flat kept w n m r b c =
    let is = one_serves flat b.by c.by w b.serves c.serves in
    one_number (length flat.ports.inputs) kept c.by n m r (subst (λ v. IsNumbered (length flat.ports.inputs) kept v n) is b.numbered) c.numbered

all_become_once : (flat : Flat) (kept : List ℕ) (wires ns ms : List WireId) → RisesFrom (length flat.ports.inputs) kept
    → AllBecome flat kept wires ns → AllBecome flat kept wires ms → ns ≡ ms
all_become_once flat kept [] [] [] r a b = refl
all_become_once flat kept [] [] (m ∷ ms) r a b = absurd b
all_become_once flat kept [] (n ∷ ns) ms r a b = absurd a
all_become_once flat kept (w ∷ wires) [] ms r a b = absurd a
all_become_once flat kept (w ∷ wires) (n ∷ ns) [] r a b = absurd b
all_become_once flat kept (w ∷ wires) (n ∷ ns) (m ∷ ms) r a b =
    let here : n ≡ m = same_wire n m (ap Some (one_becomes flat kept w.number n.number m.number r a.0 b.0)) in
    let rest : ns ≡ ms = all_become_once flat kept wires ns ms r a.1 b.1 in
    ap (λ x. x ∷ ns) here ∙ ap (λ xs. m ∷ xs) rest

module _ (flat : Flat) (sound : Sound flat) (no_loop : HasNoLoop flat) (hold : PortsHold flat.ports) where
  -- the bits that are known of a wire are determined
  pub one_known : (w : ℕ) (a b : List Bool) → IsKnown flat w a → IsKnown flat w b → a ≡ b
  one_known w a b k l =
      let h = first_event flat.ports ∷ [] in
      let fits = a_history flat.ports hold in
      one_value flat sound h w a b (known_value flat sound no_loop w a k h fits) (known_value flat sound no_loop w b l h fits)

  -- a kept wire has one cell after sharing
  one_cell : (kept : List ℕ) (w n : ℕ) (c d : Cell) → RisesFrom (length flat.ports.inputs) kept → IsSharedCell flat kept w n c
      → IsSharedCell flat kept w n d → c ≡ d
  one_cell kept w n c d r (as_constant bits k e) (as_constant others l f) =
      e ∙ ap (λ x. Const (record { number = n }) x) (one_known w bits others k l) ∙ sym f
  one_cell kept w n c d r (as_constant bits k e) (as_own cell unknown has t same u reads) = absurd (unknown bits k)
  one_cell kept w n c d r (as_own cell unknown has t same u reads) (as_constant bits k e) = absurd (unknown bits k)
  one_cell kept w n c d r (as_own cell unknown has t same u reads) (as_own other unknown' there t' same' u' reads') =
      let is : cell ≡ other = one_driver flat cell other w sound has there t t' in
      let here : AllBecome flat kept (read_by other) (read_by c) = subst (λ x. AllBecome flat kept (read_by x) (read_by c)) is reads in
      let bares : bare c ≡ bare d = sym same ∙ ap bare is ∙ same' in
      equal_cells c d (alike c d n bares u) (u ∙ sym u') (all_become_once flat kept (read_by other) (read_by c) (read_by d) r here reads')

  one_list : (kept : List ℕ) (n : ℕ) (ws : List ℕ) (cs ds : List Cell) → RisesFrom (length flat.ports.inputs) kept
      → AreSharedCells flat kept n ws cs → AreSharedCells flat kept n ws ds → cs ≡ ds
  one_list kept n [] [] [] r a b = refl
  one_list kept n [] [] (d ∷ ds) r a b = absurd b
  one_list kept n [] (c ∷ cs) ds r a b = absurd a
  one_list kept n (w ∷ ws) [] ds r a b = absurd a
  one_list kept n (w ∷ ws) (c ∷ cs) [] r a b = absurd b
  one_list kept n (w ∷ ws) (c ∷ cs) (d ∷ ds) r a b =
      ap (λ x. x ∷ cs) (one_cell kept w n c d r a.0 b.0) ∙ ap (λ xs. d ∷ xs) (one_list kept (n + 1) ws cs ds r a.1 b.1)

  same_flats : (a b : Flat) → a.ports ≡ b.ports → a.widths ≡ b.widths → a.outputs ≡ b.outputs → a.cells ≡ b.cells → a ≡ b
  same_flats a b ports widths outputs cells =
      let first : a ≡ record { ports = a.ports; widths = a.widths; outputs = a.outputs; cells = a.cells } = refl in
      let second : b ≡ record { ports = b.ports; widths = b.widths; outputs = b.outputs; cells = b.cells } = refl in
      cc

  pub one_shared : (a b : Flat) → Shares flat a → Shares flat b → a ≡ b
  one_shared a b s t =
      let inputs = length flat.ports.inputs in
      let kept : s.kept ≡ t.kept =
      same_rising inputs s.kept t.kept s.rises t.rises (λ w i. (t.live w).1 ((s.live w).0 i)) (λ w i. (s.live w).1 ((t.live w).0 i)) in
      let outputs : AllBecome flat t.kept flat.outputs a.outputs = subst (λ ws. AllBecome flat ws flat.outputs a.outputs) kept s.outputs in
      let cells : AreSharedCells flat t.kept inputs t.kept a.cells = subst (λ ws. AreSharedCells flat ws inputs ws a.cells) kept s.cells in
      same_flats a b (s.ports ∙ sym t.ports)
      (s.widths ∙ ap (λ ws. take inputs flat.widths ++ map (λ w. slice_index flat.widths w) ws) kept ∙ sym t.widths)
      (all_become_once flat t.kept flat.outputs a.outputs b.outputs t.rises outputs t.outputs)
      (one_list t.kept inputs t.kept a.cells b.cells t.rises cells t.cells)
