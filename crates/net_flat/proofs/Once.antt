-- A wire of an instance has one flat cell.
use Rattle.std.proofs.Common.{◌≡◌, ℕ, zero, suc, ◌+◌, ◌<◌, ◌≤◌, ◌⊎◌, inl, inr, List, [], ◌∷◌, ◌++◌, length, take, drop, Some, None, slice_get, refl, sym, ap, subst, ◌∙◌, arith, length-append}
use Rattle.std.specs.Prelude.{Option, flat_map, slice_index_or, option_map}
use Rattle.std.proofs.lemmas.Bool.{cases_order}
use Rattle.std.proofs.lemmas.Grind.{flat_map-append}
use Rattle.std.proofs.lemmas.List.{append-nil, take-append-drop, take-take, take_at}
use Rattle.std.proofs.lemmas.Option.{get_or_from_slice_get, slice_get_within}
use Rattle.chw_base.specs.declared.index.WireId.{WireId}
use Rattle.net_rules.specs.WellFormed.{DriversHold, NamesExist, NamesHold, WellFormed, wire_driven_at}
use Rattle.net_rules.specs.declared.well_formed.NetCode.TheVariants.{Name, Driver as DriverCode}
use Rattle.netlist.specs.Sound.{IsWire}
use Rattle.netlist.specs.Wires.{driven}
use Rattle.netlist.specs.declared.net.Cell.{Cell}
use Rattle.netlist.specs.declared.net.Cell.TheVariants.{Copy, Use}
use Rattle.netlist.specs.declared.net.Module.{Module}
use Rattle.netlist.specs.declared.net.Net.{Net}
use Rattle.net_flat.specs.Drivers.{outputs_of}
use Rattle.net_flat.specs.Flattened.{NoUse, moved, wire_from, wires_before}
use Rattle.net_flat.specs.Instances.{IsOwn, cell, output}
use Rattle.net_flat.proofs.Filled.{one_target}
use Rattle.net_flat.proofs.Lists.{all_at, get_left, get_right, take_next}
use Rattle.net_flat.proofs.Placed.{use_there}
use Rattle.net_flat.proofs.Within.{outputs_there}

-- the flat cell of a wire that the cell at this place drives, by its place among those that it drives
abbrev pub flat_cell : Net → ℕ → Module → ℕ → Cell → ℕ → WireId → Cell
flat_cell net base m place (Use k reads drives) j v = Copy (wire_from base v)
    (wire_from (base + wires_before net m (take place m.cells)) (slice_index_or (outputs_of net.modules k.number) j (record { number = 0 })))
flat_cell net base m place c j v = moved base c

-- where the wire of a flat cell is driven
pub record DrivenAt (net : Net) (base : ℕ) (m : Module) (w : ℕ) (flat : Cell) : Type 0 where
  pub place : ℕ
  pub c : Cell
  pub here : slice_get m.cells place ≡ Some c
  pub j : ℕ
  pub v : WireId
  pub drives : slice_get (driven c) j ≡ Some v
  pub number : v.number ≡ w
  pub «is» : flat ≡ flat_cell net base m place c j v

own_flat : (net : Net) (base : ℕ) (m : Module) (place : ℕ) (c : Cell) (j : ℕ) (v : WireId) → NoUse c → moved base c ≡ flat_cell net base m place c j v
own_flat net base m place (Use k reads drives) j v n = absurd n
own_flat net base m place _ j v n = refl

pub driven_at : (net : Net) (base : ℕ) (m : Module) (w : ℕ) (flat : Cell) → IsOwn net base m w flat → DrivenAt net base m w flat
driven_at net base m _ _ (cell place w c here own t) =
    let o = one_target [] 0 0 c [] own in
    let both : Some o.0.number ≡ Some w = sym o.1 ∙ t in
    let number : o.0.number ≡ w = cc in
    record {
      place = place;
      c = c;
      here = here;
      j = zero;
      v = o.0;
      drives = ap (λ (ws : List WireId). slice_get ws zero) o.2;
      number = number;
      «is» = own_flat net base m place c zero o.0 own;
    }
driven_at net base m _ _ (output before k reads drives u used found j w o d g) =
    let first : take (length before) m.cells ≡ before =
    ap (λ (cs : List Cell). take (length before) cs) u.stands ∙ take_at before (Use k reads drives ∷ u.after) (length before) refl in
    let outputs = outputs_there net.modules k.number used found in
    let got : slice_index_or (outputs_of net.modules k.number) j (record { number = 0 }) ≡ o =
    ap (λ (os : List WireId). slice_index_or os j (record { number = 0 })) outputs ∙ get_or_from_slice_get used.outputs j o (record { number = 0 }) g in
    record {
      place = length before;
      c = Use k reads drives;
      here = use_there m before k reads drives u;
      j = j;
      v = w;
      drives = d;
      number = refl;
      «is» = sym (ap (λ (cs : List Cell). Copy (wire_from base w) (wire_from (base + wires_before net m cs) (slice_index_or (outputs_of net.modules k.number) j (record { number = 0 })))) first
          ∙ ap (λ (x : WireId). Copy (wire_from base w) (wire_from (base + wires_before net m before) x)) got);
    }

-- how many wires the cells before a place drive
abbrev wires_to : List Cell → ℕ → ℕ
wires_to cells place = length (flat_map driven (take place cells))

more_wires : (cells : List Cell) (place : ℕ) (c : Cell) → slice_get cells place ≡ Some c → wires_to cells (place + 1) ≡ wires_to cells place + length (driven c)
more_wires cells place c e =
    let taken = ap (λ (cs : List Cell). length (flat_map driven cs)) (take_next cells place c e) in
    let parts = ap length (flat_map-append driven (take place cells) (c ∷ [])) in
    let both = length-append (flat_map driven (take place cells)) (flat_map driven (c ∷ [])) in
    let one = ap length (append-nil (driven c)) in
    omega arith

wires_rise : (cells : List Cell) (i k : ℕ) → i ≤ k → wires_to cells i ≤ wires_to cells k
wires_rise cells i k l =
    let first = take-take i k cells l in
    let split = ap (λ (cs : List Cell). length (flat_map driven cs)) (take-append-drop i (take k cells)) in
    let parts = ap length (flat_map-append driven (take i (take k cells)) (drop i (take k cells))) in
    let both = length-append (flat_map driven (take i (take k cells))) (flat_map driven (drop i (take k cells))) in
    let same = ap (λ (cs : List Cell). length (flat_map driven cs)) first in
    omega arith

-- a driven wire stands among those that all cells drive
pub driven_there : (cells : List Cell) (place : ℕ) (c : Cell) (j : ℕ) (v : WireId) → slice_get cells place ≡ Some c → slice_get (driven c) j ≡ Some v
    → slice_get (flat_map driven cells) (wires_to cells place + j) ≡ Some v
driven_there [] place c j v e d = absurd (let n : None ≡ Some c = e in cc)
driven_there (x ∷ cells) zero c j v e d =
    let same : x ≡ c = cc in
    let here = subst (λ (y : Cell). slice_get (driven y) j ≡ Some v) (sym same) d in
    let n : 0 + j ≡ j = omega arith in
    rw n (get_left (driven x) (flat_map driven cells) j v here)
driven_there (x ∷ cells) (suc place) c j v e d =
    let rest = driven_there cells place c j v e d in
    let n : length (driven x ++ flat_map driven (take place cells)) + j ≡ length (driven x) + (wires_to cells place + j) =
    omega (arith, length-append (driven x) (flat_map driven (take place cells))) in
    rw n (get_right (driven x) (flat_map driven cells) (wires_to cells place + j) ∙ rest)

-- two places at one position are the same
same_place : (cells : List Cell) (p q : ℕ) (a b : Cell) (i j : ℕ) (u v : WireId) → slice_get cells p ≡ Some a → slice_get cells q ≡ Some b
    → slice_get (driven a) i ≡ Some u → slice_get (driven b) j ≡ Some v → wires_to cells p + i ≡ wires_to cells q + j → p ≡ q
same_place cells p q a b i j u v ea eb da db at = by (cases_order p q)
  where
    by : (p ≡ q) ⊎ ((p < q) ⊎ (q < p)) → p ≡ q
    by (inl e) = e
    by (inr (inl l)) = absurd (omega (arith, wires_rise cells (p + 1) q (omega arith), more_wires cells p a ea, slice_get_within (driven a) i u da))
    by (inr (inr l)) = absurd (omega (arith, wires_rise cells (q + 1) p (omega arith), more_wires cells q b eb, slice_get_within (driven b) j v db))

-- a wire of a module of a well formed net has one flat cell
pub own_once : (net : Net) (base i : ℕ) (m : Module) (w : ℕ) (a b : Cell) → WellFormed net → slice_get net.modules i ≡ Some m
    → IsOwn net base m w a → IsOwn net base m w b → a ≡ b
own_once net base i m w a b wf found u v =
    let p = driven_at net base m w a u in
    let q = driven_at net base m w b v in
    let hold : DriversHold net i m = wf.rules i m found DriverCode in
    let first : wire_driven_at (flat_map driven m.cells) (wires_to m.cells p.place + p.j) ≡ Some w =
    ap (λ (o : Option WireId). option_map (λ x. x.number) o) (driven_there m.cells p.place p.c p.j p.v p.here p.drives) ∙ ap (λ (n : ℕ). Some n) p.number in
    let second : wire_driven_at (flat_map driven m.cells) (wires_to m.cells q.place + q.j) ≡ Some w =
    ap (λ (o : Option WireId). option_map (λ x. x.number) o) (driven_there m.cells q.place q.c q.j q.v q.here q.drives) ∙ ap (λ (n : ℕ). Some n) q.number in
    let at = hold.drivers.once (wires_to m.cells p.place + p.j) (wires_to m.cells q.place + q.j) w first second in
    let place : p.place ≡ q.place = same_place m.cells p.place q.place p.c q.c p.j q.j p.v q.v p.here q.here p.drives q.drives at in
    let there : slice_get m.cells p.place ≡ Some q.c = subst (λ (n : ℕ). slice_get m.cells n ≡ Some q.c) (sym place) q.here in
    let cells : Some p.c ≡ Some q.c = sym p.here ∙ there in
    let c : p.c ≡ q.c = cc in
    let to = ap (λ (n : ℕ). wires_to m.cells n) place in
    let j : p.j ≡ q.j = omega arith in
    let d : slice_get (driven p.c) p.j ≡ Some q.v =
    subst (λ (x : Cell). slice_get (driven x) p.j ≡ Some q.v) (sym c) (subst (λ (n : ℕ). slice_get (driven q.c) n ≡ Some q.v) (sym j) q.drives) in
    let wires : Some p.v ≡ Some q.v = sym p.drives ∙ d in
    let v : p.v ≡ q.v = cc in
    p.«is»
    ∙ ap (λ (n : ℕ). flat_cell net base m n p.c p.j p.v) place
    ∙ ap (λ (x : Cell). flat_cell net base m q.place x p.j p.v) c
    ∙ ap (λ (n : ℕ). flat_cell net base m q.place q.c n p.v) j
    ∙ ap (λ (x : WireId). flat_cell net base m q.place q.c q.j x) v
    ∙ sym q.«is»

-- it is a wire of the module, and no input
pub own_from : (net : Net) (base i : ℕ) (m : Module) (w : ℕ) (a : Cell) → WellFormed net → slice_get net.modules i ≡ Some m
    → IsOwn net base m w a → m.inputs ≤ w
own_from net base i m w a wf found u =
    let p = driven_at net base m w a u in
    let hold : DriversHold net i m = wf.rules i m found DriverCode in
    let first : wire_driven_at (flat_map driven m.cells) (wires_to m.cells p.place + p.j) ≡ Some w =
    ap (λ (o : Option WireId). option_map (λ x. x.number) o) (driven_there m.cells p.place p.c p.j p.v p.here p.drives) ∙ ap (λ (n : ℕ). Some n) p.number in
    hold.drivers.free (wires_to m.cells p.place + p.j) w first

pub own_to : (net : Net) (base i : ℕ) (m : Module) (w : ℕ) (a : Cell) → WellFormed net → slice_get net.modules i ≡ Some m
    → IsOwn net base m w a → w < length m.widths
own_to net base i m w a wf found u =
    let p = driven_at net base m w a u in
    let names : NamesHold net i m = wf.rules i m found Name in
    let exist = all_at (NamesExist (length net.ports.domains) (take i net.modules) m.widths) m.cells p.place p.c names.cells p.here in
    let wire = all_at (IsWire m.widths) (driven p.c) p.j p.v exist.driven p.drives in
    omega (arith, wire, p.number)
