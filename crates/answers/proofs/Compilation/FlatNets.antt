-- A well formed net of which the flat wires are within the limit has a flat net.
use Rattle.std.proofs.Common.{◌≡◌, ℕ, zero, suc, ◌+◌, ◌-◌, ◌<◌, ◌≤◌, ◌⊎◌, inl, inr, List, [], ◌∷◌, ◌++◌, length, take, Some, None, slice_get, refl, sym, ap, subst, ◌∙◌, arith, length-append}
use Rattle.std.specs.Prelude.{flat_map, sum_by}
use Rattle.std.proofs.lemmas.List.{append-nil, length_push}
use Rattle.std.proofs.lemmas.Option.{slice_get_within}
use Rattle.chw_base.specs.declared.index.ModId.{ModId}
use Rattle.chw_base.specs.declared.index.WireId.{WireId}
use Rattle.chw_base.specs.declared.limits.TheConstants.{FLAT_WIRES}
use Rattle.net_rules.specs.WellFormed.{DriversHold, NamesHold, WellFormed, wire_driven_at}
use Rattle.net_rules.specs.declared.well_formed.NetCode.TheVariants.{Name, Driver as DriverCode}
use Rattle.netlist.specs.Feeds.{target}
use Rattle.netlist.specs.Sound.{IsWire}
use Rattle.netlist.specs.Wires.{driven}
use Rattle.netlist.specs.declared.net.Cell.{Cell}
use Rattle.netlist.specs.declared.net.Cell.TheVariants.{Copy, Use}
use Rattle.netlist.specs.declared.net.Flat.{Flat}
use Rattle.netlist.specs.declared.net.Module.{Module}
use Rattle.netlist.specs.declared.net.Net.{Net}
use Rattle.net_flat.specs.Entering.{Enters, FitsWhole, Sized}
use Rattle.net_flat.specs.Flattened.{IsFlatOf, IsTop, NoUse, moved, widths_in, wire_from, wires_before}
use Rattle.net_flat.specs.Instances.{AreOwn, IsOwn, IsPlaced, cell, input_copies, output, top, uses_along}
use Rattle.net_flat.specs.Sizes.{AreSizes, capped, size_in}
use Rattle.net_flat.proofs.Below.{widths_at}
use Rattle.net_flat.proofs.Cells.{flat_at}
use Rattle.net_flat.proofs.Filled.{one_target}
use Rattle.net_flat.proofs.Lists.{all_at, get_either}
use Rattle.net_flat.proofs.Placed.{placed_below}
use Rattle.net_flat.proofs.Progress.{Driving, HasAll, Progress, Waits, driving_first, driving_next, progress_first, progress_next}
use Rattle.net_flat.proofs.Widths.{one_more}
use Rattle.net_flat.proofs.Within.{stands_at, use_at}

-- a list has an item at each place below its length
item_there : {X : Type 0} (xs : List X) (n : ℕ) → n < length xs → (x : X) × (slice_get xs n ≡ Some x)
item_there [] n l = absurd (omega (arith, l))
item_there (x ∷ xs) zero l = (x, refl)
item_there (x ∷ xs) (suc n) l = item_there xs n (omega (arith, l))

-- a list of one item has no other
only_item : (x y : WireId) (j : ℕ) → slice_get (x ∷ []) j ≡ Some y → x ≡ y
only_item x y zero e = cc
only_item x y (suc j) e = absurd (let no : None ≡ Some y = e in cc)

-- the sizes of the first modules of the net
record FirstSizes (net : Net) (n : ℕ) : Type 0 where
  pub sizes : List ℕ
  pub known : AreSizes net sizes
  pub all : length sizes ≡ n

first_sizes : (net : Net) (n : ℕ) → WellFormed net → n ≤ length net.modules → FirstSizes net n
first_sizes net zero wf l = record { sizes = []; known = λ k below. absurd (omega (arith, below)); all = refl }
first_sizes net (suc n) wf l =
    let before = first_sizes net n wf (omega (arith, l)) in
    let m = item_there net.modules n (omega (arith, l)) in
    let size = capped (length m.0.widths + sum_by (size_in before.sizes) m.0.cells) in
    record {
      sizes = before.sizes ++ size ∷ [];
      known = one_more net before.sizes (before.sizes ++ size ∷ []) n m.0 size wf before.known (sym before.all) m.1 refl refl;
      all = omega (arith, length_push before.sizes size, before.all);
    }

-- a wire that cells drive, with the one that drives it
record DrivenBy (cells : List Cell) (v : WireId) : Type 0 where
  pub place : ℕ
  pub c : Cell
  pub stands : slice_get cells place ≡ Some c
  pub j : ℕ
  pub drives : slice_get (driven c) j ≡ Some v

driven_by : (cells : List Cell) (p : ℕ) (v : WireId) → slice_get (flat_map driven cells) p ≡ Some v → DrivenBy cells v
driven_by [] p v e = absurd (let no : None ≡ Some v = e in cc)
driven_by (c ∷ cells) p v e = by (λ j h. driven_by cells j v h) (get_either (driven c) (flat_map driven cells) p v e)
  where
    by : ((j : ℕ) → slice_get (flat_map driven cells) j ≡ Some v → DrivenBy cells v)
        → (slice_get (driven c) p ≡ Some v) ⊎ ((j : ℕ) × (p ≡ length (driven c) + j) × (slice_get (flat_map driven cells) j ≡ Some v))
        → DrivenBy (c ∷ cells) v
    by later (inl h) = record { place = zero; c = c; stands = refl; j = p; drives = h }
    by later (inr h) =
        let rest = later h.0 h.2 in
        record { place = suc rest.place; c = rest.c; stands = rest.stands; j = rest.j; drives = rest.drives }

-- a wire by its number
wire_there : (ws : List WireId) (p w : ℕ) → wire_driven_at ws p ≡ Some w → (v : WireId) × (slice_get ws p ≡ Some v) × (v.number ≡ w)
wire_there [] p w e = absurd (let no : None ≡ Some w = e in cc)
wire_there (v ∷ ws) zero w e = let n : v.number ≡ w = cc in (v, refl, n)
wire_there (v ∷ ws) (suc p) w e = wire_there ws p w e

-- a wire that a cell drives has a flat cell
flat_cell_of : (net : Net) (base : ℕ) (m : Module) (place : ℕ) (c : Cell) (j : ℕ) (v : WireId) → NoUse c
    → slice_get m.cells place ≡ Some c → slice_get (driven c) j ≡ Some v → (flat : Cell) × IsOwn net base m v.number flat
flat_cell_of net base m place c j v none here d =
    let t = one_target [] 0 0 c [] none in
    let only : slice_get (t.0 ∷ []) j ≡ Some v = subst (λ (ws : List WireId). slice_get ws j ≡ Some v) t.2 d in
    let same = only_item t.0 v j only in
    (moved base c, cell place v.number c here none (subst (λ (x : WireId). target c ≡ Some x.number) same t.1))

-- so has one that a use drives
flat_cell_there : (net : Net) (base i : ℕ) (m : Module) (place : ℕ) (c : Cell) (j : ℕ) (v : WireId) → WellFormed net
    → slice_get net.modules i ≡ Some m → slice_get m.cells place ≡ Some c → slice_get (driven c) j ≡ Some v
    → (flat : Cell) × IsOwn net base m v.number flat
flat_cell_there net base i m place (Use k reads drives) j v wf found here d =
    let u = use_at net i m place k reads drives wf found here in
    let within = slice_get_within drives j v d in
    let o = item_there u.used.outputs j (omega (arith, within, u.outputs)) in (
      Copy (wire_from base v) (wire_from (base + wires_before net m (take place m.cells)) o.0),
      output (take place m.cells) k reads drives (stands_at m place k reads drives here) u.used u.found j v o.0 d o.1,
    )
flat_cell_there net base i m place c j v wf found here d = flat_cell_of net base m place c j v tt here d

-- each wire of a module that is no input has one
own_there : (net : Net) (base i : ℕ) (m : Module) (w : ℕ) → WellFormed net → slice_get net.modules i ≡ Some m
    → m.inputs ≤ w → w < length m.widths → (flat : Cell) × IsOwn net base m w flat
own_there net base i m w wf found from to =
    let hold : DriversHold net i m = wf.rules i m found DriverCode in
    let d = hold.drivers.driven w from to in
    let v = wire_there (flat_map driven m.cells) d.0 w d.1 in
    let by = driven_by m.cells d.0 v.0 v.1 in
    let own = flat_cell_there net base i m by.place by.c by.j v.0 wf found by.stands by.drives in
    (own.0, subst (λ (n : ℕ). IsOwn net base m n own.0) v.2 own.1)

-- the flat cells of so many wires, from the first that is no input on
record FirstOwn (net : Net) (base : ℕ) (m : Module) (n : ℕ) : Type 0 where
  pub own : List Cell
  pub all : length own ≡ n
  pub each : (j : ℕ) (c : Cell) → slice_get own j ≡ Some c → IsOwn net base m (m.inputs + j) c

own_pushed : (net : Net) (base : ℕ) (m : Module) (n : ℕ) (flat : Cell) → FirstOwn net base m n
    → IsOwn net base m (m.inputs + n) flat → FirstOwn net base m (suc n)
own_pushed net base m n flat before next = record {
  own = before.own ++ flat ∷ [];
  all = omega (arith, length_push before.own flat, before.all);
  each = λ j c e. by j c (get_either before.own (flat ∷ []) j c e);
}
  where
    by : (j : ℕ) (c : Cell) → (slice_get before.own j ≡ Some c) ⊎ ((k : ℕ) × (j ≡ length before.own + k) × (slice_get (flat ∷ []) k ≡ Some c))
        → IsOwn net base m (m.inputs + j) c
    by j c (inl h) = before.each j c h
    by j c (inr (zero, at, h)) =
        let same : flat ≡ c = cc in
        let place : m.inputs + n ≡ m.inputs + j = omega (arith, at, before.all) in
        subst (λ (k : ℕ). IsOwn net base m k c) place (subst (λ (x : Cell). IsOwn net base m (m.inputs + n) x) same next)
    by j c (inr (suc k, at, h)) = absurd (let no : None ≡ Some c = h in cc)

first_own : (net : Net) (base i : ℕ) (m : Module) (n : ℕ) → WellFormed net → slice_get net.modules i ≡ Some m
    → m.inputs + n ≤ length m.widths → FirstOwn net base m n
first_own net base i m zero wf found l = record { own = []; all = refl; each = λ j c e. absurd (let no : None ≡ Some c = e in cc) }
first_own net base i m (suc n) wf found l =
    let next = own_there net base i m (m.inputs + n) wf found (omega arith) (omega (arith, l)) in
    own_pushed net base m n next.0 (first_own net base i m n wf found (omega (arith, l))) next.1

-- the flat cells of all wires of an instance that are no inputs
all_own : (net : Net) (base i : ℕ) (m : Module) → WellFormed net → slice_get net.modules i ≡ Some m
    → (own : List Cell) × AreOwn net base m own
all_own net base i m wf found =
    let hold : DriversHold net i m = wf.rules i m found DriverCode in
    let inputs = hold.inputs in
    let first = first_own net base i m (length m.widths - m.inputs) wf found (omega (arith, inputs)) in
    (first.own, record { all = omega (arith, inputs, first.all); each = first.each })

-- an instance whose wires are within the limit can be entered
can_enter : (net : Net) (sizes : List ℕ) (x : _) → Sized net sizes → IsPlaced net x
    → x.base + length (widths_in net x.module.number) ≤ FLAT_WIRES → (m : Module) × Enters net sizes x m
can_enter net sizes x s placed within =
    let m = item_there net.modules x.module.number (placed_below net x s.well_formed placed) in
    (m.0, record { sized = s; placed = placed; found = m.1; within = within })

-- a module that is used has a wire
some_wires : (net : Net) (i : ℕ) (m : Module) → WellFormed net → slice_get net.modules i ≡ Some m → i + 1 < length net.modules
    → 1 ≤ length m.widths
some_wires net i m wf found l =
    let hold : DriversHold net i m = wf.rules i m found DriverCode in
    let names : NamesHold net i m = wf.rules i m found Name in
    let w = item_there m.outputs 0 (omega (arith, hold.outputs l)) in
    omega (arith, all_at (IsWire m.widths) m.outputs 0 w.0 names.outputs w.1)

-- the wires and cells of a flat net, where no instance waits
record AllEntered (net : Net) (last inputs : ℕ) : Type 0 where
  pub widths : List ℕ
  pub cells : List Cell
  pub progress : Progress net last widths cells []
  pub driving : Driving net inputs widths cells []

module _ (net : Net) (sizes : List ℕ) (last inputs : ℕ) (sized : Sized net sizes) (fits : FitsWhole net) (end : last + 1 ≡ length net.modules) where
  -- the wires so far are within the limit
  wires_within : (widths : List ℕ) (cells : List Cell) (todo : List _) → Progress net last widths cells todo → length widths ≤ FLAT_WIRES
  wires_within widths cells todo p =
      let all = ap length p.joined in
      let both = length-append widths (flat_map (widths_at net) todo) in
      let few = fits last end in
      omega (arith, all, both, few)

  -- and so are those of the next instance
  next_within : (widths : List ℕ) (cells : List Cell) (x : _) (todo : List _) → Progress net last widths cells (x ∷ todo)
      → x.base + length (widths_in net x.module.number) ≤ FLAT_WIRES
  next_within widths cells x todo p =
      let all = ap length p.joined in
      let outer = length-append widths (widths_in net x.module.number ++ flat_map (widths_at net) todo) in
      let inner = length-append (widths_in net x.module.number) (flat_map (widths_at net) todo) in
      let few = fits last end in
      let at : x.base ≡ length widths = p.tiles.0 in
      omega (arith, all, outer, inner, few, at)

  -- each instance that waits is entered: each gives a wire, and there are no more than the limit
  enter_all : (fuel : ℕ) (widths : List ℕ) (cells : List Cell) (todo : List _) → Progress net last widths cells todo
      → Driving net inputs widths cells todo → FLAT_WIRES < length widths + fuel → AllEntered net last inputs
  enter_all fuel widths cells [] p d l = record { widths = widths; cells = cells; progress = p; driving = d }
  enter_all zero widths cells (x ∷ todo) p d l = absurd (omega (arith, l, wires_within widths cells (x ∷ todo) p))
  enter_all (suc fuel) widths cells (x ∷ todo) p d l =
      let e = can_enter net sizes x sized p.placed.0 (next_within widths cells x todo p) in
      let m = e.0 in
      let own = all_own net x.base x.module.number m sized.well_formed e.1.found in
      let some = some_wires net x.module.number m sized.well_formed e.1.found d.inner.0 in
      let long = length-append widths m.widths in
      enter_all fuel (widths ++ m.widths) (cells ++ (input_copies x.base x.reads ++ own.0))
      (uses_along sizes x.base (x.base + length m.widths) m.cells ++ todo)
      (progress_next net sizes last widths cells x todo m own.0 p e.1 own.1)
      (driving_next net sizes inputs widths cells x todo m own.0 d p.tiles.0 e.1 own.1)
      (omega (arith, l, some, long))

-- the wires and cells of all instances, from the top on
whole : (net : Net) (sizes : List ℕ) (t : ModId) (m : Module) → Sized net sizes → FitsWhole net → t.number + 1 ≡ length net.modules
    → Enters net sizes (record { «module» = t; base = 0; reads = [] }) m → AllEntered net t.number m.inputs
whole net sizes t m sized fits end e =
    let own = all_own net 0 t.number m sized.well_formed e.found in
    enter_all net sizes t.number m.inputs sized fits end (FLAT_WIRES + 1) ([] ++ m.widths) ([] ++ (input_copies 0 [] ++ own.0))
    (uses_along sizes 0 (0 + length m.widths) m.cells ++ [])
    (progress_next net sizes t.number [] [] (record { «module» = t; base = 0; reads = [] }) [] m own.0 (progress_first net t end) e own.1)
    (driving_first net sizes (record { «module» = t; base = 0; reads = [] }) m own.0 refl refl e own.1)
    (omega arith)

-- no instance waits, so all cells of all instances are there
has_all : (net : Net) (cells : List Cell) (x : _) → HasAll net cells x ⊎ Waits net [] x → HasAll net cells x
has_all net cells x (inl h) = h
has_all net cells x (inr (y, n, at, b)) = absurd (let no : None ≡ Some y = at in cc)

-- they are those of a flat net
flat_of_all : (net : Net) (place : ℕ) (m : Module) → IsTop net place m → AllEntered net place m.inputs → (flat : Flat) × IsFlatOf net flat
flat_of_all net place m t w = (
  record { ports = net.ports; widths = w.widths; outputs = m.outputs; cells = w.cells },
  record {
    place = place;
    m = m;
    top = t;
    ports = refl;
    widths = sym (append-nil w.widths) ∙ w.progress.joined;
    outputs = refl;
    in_order = w.driving.order;
    cells = λ c. (
      w.progress.sound c,
      λ f. let at = flat_at net c f in has_all net w.cells at.x (w.progress.complete at.x at.placed) c at.at,
    );
  },
)

pub flat_net_there : (net : Net) → WellFormed net → FitsWhole net → (flat : Flat) × IsFlatOf net flat
flat_net_there net wf fits =
    let s = first_sizes net (length net.modules) wf (omega arith) in
    let sized : Sized net s.sizes = record { well_formed = wf; known = s.known; all = s.all } in
    let t : ModId = record { number = length net.modules - 1 } in
    let some = wf.some in
    let end : t.number + 1 ≡ length net.modules = omega (arith, some) in
    let e = can_enter net s.sizes (record { «module» = t; base = 0; reads = [] }) sized (top t end) (omega (arith, fits t.number end)) in
    flat_of_all net t.number e.0 (record { last = end; stands = e.1.found }) (whole net s.sizes t e.0 sized fits end e.1)
