-- In a shared net no two wires are equal, a constant drives each wire of which bits are known, no cell copies, and each wire is needed.
use Rattle.std.proofs.Common.{◌≡◌, ℕ, zero, suc, ◌+◌, ◌<◌, ◌≤◌, Bool, List, [], ◌∷◌, length, Some, slice_get, refl, sym, ap, subst, ◌∙◌, arith}
use Rattle.std.specs.Prelude.{option_and_then}
use Rattle.std.proofs.lemmas.Option.{slice_get_within}
use Rattle.chw_base.specs.declared.index.WireId.{WireId}
use Rattle.net_rules.specs.PortsHold.{PortsHold}
use Rattle.netlist.specs.Feeds.{target}
use Rattle.netlist.specs.NetValue.{HasCell}
use Rattle.netlist.specs.Orders.{HasNoLoop}
use Rattle.netlist.specs.Sound.{Sound}
use Rattle.netlist.specs.Wires.{read_by}
use Rattle.netlist.specs.declared.net.Cell.{Cell}
use Rattle.netlist.specs.declared.net.Cell.TheVariants.{Const}
use Rattle.netlist.specs.declared.net.Flat.{Flat}
use Rattle.netlist.proofs.Driven.{each_driven_once}
use Rattle.share_laws.specs.Same.{Copies, IsKnown, IsOpen, Same}
use Rattle.share_laws.specs.Same.Same.{turned}
use Rattle.share_laws.specs.Shares.{AllBecome, AreSharedCells, Becomes, IsLive, IsNumbered, IsSharedCell, Serves, Shares, Stands}
use Rattle.share_laws.specs.Shares.IsLive.{for_cell, for_output}
use Rattle.share_laws.specs.Shares.IsNumbered.{as_input, as_kept}
use Rattle.share_laws.specs.Shares.IsProper.{of_input}
use Rattle.share_laws.specs.Shares.IsSharedCell.{as_constant, as_own}
use Rattle.share_laws.proofs.Agreeing.{first_exists}
use Rattle.share_laws.proofs.Apart.{AllLive, Apart, serves_itself}
use Rattle.share_laws.proofs.BackSame.{copy_back, has_origin, known_back, same_back}
use Rattle.share_laws.proofs.FreeInputs.{input_open, inputs_apart}
use Rattle.share_laws.proofs.Leading.{proper_copies}
use Rattle.share_laws.proofs.OneShared.{one_becomes, one_driver, one_known}
use Rattle.share_laws.proofs.Renamed.{live_stands, shared_at}
use Rattle.share_laws.proofs.Rising.{one_number, rises_at}
use Rattle.share_laws.proofs.Soundness.{count_wires, shared_sound}
use Rattle.share_laws.proofs.Widths.{known_width}

-- the cell of a kept wire
record CellOf (flat : Flat) (kept : List ℕ) (n : ℕ) (cells : List Cell) (k w : ℕ) : Type 0 where
  cell : Cell
  there : slice_get cells k ≡ Some cell
  is_shared : IsSharedCell flat kept w (n + k) cell

cell_of_kept : (flat : Flat) (kept : List ℕ) (n : ℕ) (ws : List ℕ) (cells : List Cell) (k w : ℕ) → AreSharedCells flat kept n ws cells
    → slice_get ws k ≡ Some w → CellOf flat kept n cells k w
cell_of_kept flat kept n [] [] k w all e = absurd (cc)
cell_of_kept flat kept n [] (c ∷ cells) k w all e = absurd all
cell_of_kept flat kept n (v ∷ ws) [] k w all e = absurd all
cell_of_kept flat kept n (v ∷ ws) (c ∷ cells) zero w all e =
    let is : v ≡ w = cc in
    let same : n ≡ n + zero = omega arith in
    record {
      cell = c;
      there = refl;
      is_shared = subst (λ m. IsSharedCell flat kept w m c) same (subst (λ x. IsSharedCell flat kept x n c) is all.0);
    }
cell_of_kept flat kept n (v ∷ ws) (c ∷ cells) (suc k) w all e =
    let rest = cell_of_kept flat kept (n + 1) ws cells k w all.1 e in
    let same : n + 1 + k ≡ n + suc k = omega arith in
    record { cell = rest.cell; there = rest.there; is_shared = subst (λ m. IsSharedCell flat kept w m rest.cell) same rest.is_shared }

-- what the wire at a place becomes
becomes_at : (flat : Flat) (kept : List ℕ) (ws ns : List WireId) (k : ℕ) (w : WireId) → AllBecome flat kept ws ns → slice_get ws k ≡ Some w
    → (n : WireId) × (slice_get ns k ≡ Some n) × Becomes flat kept w.number n.number
becomes_at flat kept [] ns k w all e = absurd (cc)
becomes_at flat kept (x ∷ ws) [] k w all e = absurd all
becomes_at flat kept (x ∷ ws) (n ∷ ns) zero w all e =
    let is : x ≡ w = cc in (n, refl, subst (λ (y : WireId). Becomes flat kept y.number n.number) is all.0)
becomes_at flat kept (x ∷ ws) (n ∷ ns) (suc k) w all e = becomes_at flat kept ws ns k w all.1 e

module _ (flat shared : Flat) (sound : Sound flat) (no_loop : HasNoLoop flat) (hold : PortsHold flat.ports) (s : Shares flat shared) where
  abbrev Numbered : ℕ → ℕ → Type 0
  Numbered v n = IsNumbered (length flat.ports.inputs) s.kept v n

  shared_is : Sound shared
  shared_is = shared_sound flat shared sound s

  kept_stands : (k v : ℕ) → slice_get s.kept k ≡ Some v → Stands flat v
  kept_stands k v at = live_stands flat v ((s.live v).0 (k, at)).0

  kept_past : (k v : ℕ) → slice_get s.kept k ≡ Some v → length flat.ports.inputs ≤ v
  kept_past k v at = rises_at (length flat.ports.inputs) s.kept k v s.rises at

  number_within : (v n : ℕ) → Numbered v n → n < length shared.widths
  number_within v n (as_input l e) = omega (arith, l, e, count_wires flat shared sound s)
  number_within v n (as_kept k at e) = omega (arith, e, slice_get_within s.kept k v at, count_wires flat shared sound s)

  -- equal wires that have new numbers are one
  one_of_equal : (v w m n : ℕ) → Numbered v m → Numbered w n → Same flat v w → v ≡ w
  one_of_equal v w m n (as_input l e) (as_input k f) same = inputs_apart flat sound no_loop hold v w l k same
  one_of_equal v w m n (as_input l e) (as_kept k at f) same =
      let least = (kept_stands k w at).least v (of_input l) same in absurd (omega (arith, l, least, kept_past k w at))
  one_of_equal v w m n (as_kept k at e) (as_input l f) same =
      let least = (kept_stands k v at).least w (of_input l) (turned v w same) in absurd (omega (arith, l, least, kept_past k v at))
  one_of_equal v w m n (as_kept j here e) (as_kept k at f) same =
      let one = kept_stands j v here in
      let other = kept_stands k w at in
      let le = one.least w other.proper (turned v w same) in
      let ge = other.least v one.proper same in
      omega (arith, le, ge)

  wires_apart : (m n : ℕ) → Same shared m n → m ≡ n
  wires_apart m n e =
      let v = has_origin flat shared sound s m (first_exists shared shared_is m n e) in
      let w = has_origin flat shared sound s n (first_exists shared shared_is n m (turned m n e)) in
      let same = same_back flat shared sound s m n e v.0 w.0 v.1 w.1 in
      let is : v.0 ≡ w.0 = one_of_equal v.0 w.0 m n v.1 w.1 same in
      one_number (length flat.ports.inputs) s.kept w.0 m n s.rises (subst (λ x. Numbered x m) is v.1) w.1

  -- the cell of a kept wire of which bits are known is the constant
  constant_cell : (v n j : ℕ) (bits : List Bool) (cell : Cell) → n ≡ length flat.ports.inputs + j → slice_get shared.cells j ≡ Some cell
      → IsSharedCell flat s.kept v (length flat.ports.inputs + j) cell → IsKnown flat v bits → HasCell shared (Const (record { number = n }) bits)
  constant_cell v n j bits cell e there (as_constant others l g) k =
      let is : others ≡ bits = one_known flat sound no_loop hold v others bits l k in (
        j,
        there ∙ ap Some (g ∙ ap (λ x. Const (record { number = length flat.ports.inputs + j }) x) is ∙ ap (λ m. Const (record { number = m }) bits) (sym e)),
      )
  constant_cell v n j bits cell e there (as_own own unknown has t same u reads) k = absurd (unknown bits k)

  constant_there : (v n : ℕ) (bits : List Bool) → Numbered v n → IsKnown flat v bits → HasCell shared (Const (record { number = n }) bits)
  constant_there v n bits (as_input l e) k = absurd (input_open flat sound no_loop hold v l bits k)
  constant_there v n bits (as_kept j at e) k =
      let own = cell_of_kept flat s.kept (length flat.ports.inputs) s.kept shared.cells j v s.cells at in
      constant_cell v n j bits own.cell e own.there own.is_shared k

  known_apart : (n : ℕ) (bits : List Bool) → IsKnown shared n bits → HasCell shared (Const (record { number = n }) bits)
  known_apart n bits k =
      let within = slice_get_within shared.widths n (length bits) (known_width shared shared_is n bits k) in
      let v = has_origin flat shared sound s n within in
      constant_there v.0 n bits v.1 (known_back flat shared sound s n bits k v.0 v.1)

  copies_apart : (cell : Cell) (a : ℕ) → HasCell shared cell → Copies shared cell a → ⊥
  copies_apart cell a has c =
      let at = shared_at flat s.kept (length flat.ports.inputs) s.kept shared.cells has.0 cell s.cells has.1 in
      let own = copy_back flat shared sound s cell a c at.w (length flat.ports.inputs + has.0) at.is_shared in
      proper_copies flat sound at.w own.from own.own (kept_stands has.0 at.w at.there).proper own.has own.drives own.copying

  pub shared_apart : Apart shared
  shared_apart = record {
    wires = λ m n e. wires_apart m n e;
    known = λ n bits k. known_apart n bits k;
    copies_none = λ cell a has c. copies_apart cell a has c;
  }

  -- each new number stands for itself, and for a wire that has this number
  serves_number : (v n m : ℕ) → Numbered v n → m ≡ n → Serves shared n m
  serves_number v n m num is =
      subst (λ x. Serves shared n x) (sym is) (serves_itself shared shared_is shared_apart n (number_within v n num))

  -- what a live cell reads is live after sharing
  read_there : (w j k v n : ℕ) (r : WireId) (cell c : Cell) → slice_get s.kept j ≡ Some w → slice_get shared.cells j ≡ Some c
      → IsSharedCell flat s.kept w (length flat.ports.inputs + j) c → IsLive shared (length flat.ports.inputs + j) → IsOpen flat w
      → HasCell flat cell → target cell ≡ Some w → slice_get (read_by cell) k ≡ Some r → Serves flat v r.number → Numbered v n → IsLive shared n
  read_there w j k v n r cell c at there (as_constant bits l g) live unknown has t e serves num = absurd (unknown bits l)
  read_there w j k v n r cell c at there (as_own own unknown' here t' same u reads) live unknown has t e serves num =
      let is : own ≡ cell = one_driver flat own cell w sound here has t' t in
      let become : AllBecome flat s.kept (read_by cell) (read_by c) = subst (λ x. AllBecome flat s.kept (read_by x) (read_by c)) is reads in
      let other = becomes_at flat s.kept (read_by cell) (read_by c) k r become e in
      let number : other.0.number ≡ n =
      one_becomes flat s.kept r.number other.0.number n s.rises other.2 (record { by = v; serves = serves; numbered = num }) in
      for_cell (length flat.ports.inputs + j) c k other.0 n live
      (λ bits l. unknown bits (known_back flat shared sound s (length flat.ports.inputs + j) bits l w (as_kept j at refl)))
      (j, there) u other.1 (serves_number v n other.0.number num number)

  live_there : (v : ℕ) → IsLive flat v → (n : ℕ) → Numbered v n → IsLive shared n
  live_there _ (for_output k o v e serves) n num =
      let other = becomes_at flat s.kept flat.outputs shared.outputs k o s.outputs e in
      let number : other.0.number ≡ n =
      one_becomes flat s.kept o.number other.0.number n s.rises other.2 (record { by = v; serves = serves; numbered = num }) in
      for_output k other.0 n other.1 (serves_number v n other.0.number num number)
  live_there _ (for_cell w cell k r v live unknown has t e serves) n num =
      let past = (each_driven_once flat sound).free has.0 w (ap (λ o. option_and_then target o) has.1 ∙ t) in
      let among = (s.live w).1 (live, past) in
      let own = cell_of_kept flat s.kept (length flat.ports.inputs) s.kept shared.cells among.0 w s.cells among.1 in
      read_there w among.0 k v n r cell own.cell among.1 own.there own.is_shared
      (live_there w live (length flat.ports.inputs + among.0) (as_kept among.0 among.1 refl)) unknown has t e serves num

  pub shared_live : AllLive shared
  shared_live w l m = from (has_origin flat shared sound s w m).0 (has_origin flat shared sound s w m).1
    where
      from : (v : ℕ) → Numbered v w → IsLive shared w
      from v (as_input k e) = absurd (let same = ap (λ p. length p.inputs) s.ports in omega (arith, k, e, l, same))
      from v (as_kept k at e) = live_there v ((s.live v).0 (k, at)).0 w (as_kept k at e)
