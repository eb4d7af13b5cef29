-- The wires of the instances that an instance uses are among its own.
use Rattle.std.proofs.Common.{◌≡◌, ℕ, ◌+◌, ◌<◌, ◌≤◌, List, [], ◌∷◌, ◌++◌, length, take, drop, Some, None, slice_get, sym, ap, subst, ◌∙◌, arith, length-append}
use Rattle.std.specs.Prelude.{flat_map, sum_by}
use Rattle.std.specs.List.{AllByRecursion}
use Rattle.std.proofs.lemmas.Grind.{flat_map-append}
use Rattle.std.proofs.lemmas.List.{append_assoc, take-append-drop}
use Rattle.std.proofs.lemmas.Option.{slice_get_within}
use Rattle.chw_base.specs.declared.index.ModId.{ModId}
use Rattle.chw_base.specs.declared.index.WireId.{WireId}
use Rattle.chw_base.specs.declared.limits.TheConstants.{FLAT_WIRES}
use Rattle.net_rules.specs.WellFormed.{NamesExist, NamesHold, UseExists, WellFormed}
use Rattle.net_rules.specs.declared.well_formed.NetCode.TheVariants.{Name}
use Rattle.netlist.specs.Sound.{IsWire}
use Rattle.netlist.specs.Wires.{driven, read_by}
use Rattle.netlist.specs.declared.net.Cell.{Cell}
use Rattle.netlist.specs.declared.net.Cell.TheVariants.{Use}
use Rattle.netlist.specs.declared.net.Module.{Module}
use Rattle.netlist.specs.declared.net.Net.{Net}
use Rattle.net_flat.specs.Drivers.{CellMoves, UseGives, outputs_of}
use Rattle.net_flat.specs.Entering.{Enters}
use Rattle.net_flat.specs.Flattened.{IsUse, widths_in, widths_of_use, wires_before}
use Rattle.net_flat.specs.Instances.{Moves, UseMoves}
use Rattle.net_flat.specs.Sizes.{AreSizes, size_in}
use Rattle.net_flat.specs.declared.instances.Instance.{Instance}
use Rattle.net_flat.proofs.Lists.{all_at, all_left, all_then, get_taken, split_at}
use Rattle.net_flat.proofs.Uses.{sum_next}
use Rattle.net_flat.proofs.Widths.{UsesBelow, capped_uses, uses_below, widths_step}

-- the flat wires of these uses
abbrev pub wires_of_uses : Net → List Cell → List ℕ
wires_of_uses net cells = flat_map (widths_of_use (widths_in net)) cells

-- the widths of an instance, those of one of its uses in the middle
pub use_split : (net : Net) (i : ℕ) (m : Module) (before : List Cell) (k : ModId) (reads drives : List WireId) → WellFormed net
    → slice_get net.modules i ≡ Some m → (u : IsUse m.cells before k reads drives)
    → widths_in net i ≡ (m.widths ++ wires_of_uses net before) ++ (widths_in net k.number ++ wires_of_uses net u.after)
use_split net i m before k reads drives wf found u =
    let step = widths_step net i m wf found in
    let cells = ap (λ (cs : List Cell). m.widths ++ wires_of_uses net cs) u.stands in
    let parts = ap (λ (ws : List ℕ). m.widths ++ ws) (flat_map-append (widths_of_use (widths_in net)) before (Use k reads drives ∷ u.after)) in
    let joined = append_assoc m.widths (wires_of_uses net before) (widths_in net k.number ++ wires_of_uses net u.after) in
    step ∙ cells ∙ parts ∙ sym joined

pub long_before : (net : Net) (m : Module) (before : List Cell) → length (m.widths ++ wires_of_uses net before) ≡ wires_before net m before
long_before net m before = length-append m.widths (wires_of_uses net before)

pub use_within : (net : Net) (i : ℕ) (m : Module) (before : List Cell) (k : ModId) (reads drives : List WireId) → WellFormed net
    → slice_get net.modules i ≡ Some m → IsUse m.cells before k reads drives
    → wires_before net m before + length (widths_in net k.number) ≤ length (widths_in net i)
use_within net i m before k reads drives wf found u =
    let long = ap length (use_split net i m before k reads drives wf found u) in
    let outer = length-append (m.widths ++ wires_of_uses net before) (widths_in net k.number ++ wires_of_uses net u.after) in
    let inner = length-append (widths_in net k.number) (wires_of_uses net u.after) in
    omega (arith, long_before net m before)

-- sizes count the wires of uses, where these are within the limit
pub sum_is : (net : Net) (sizes : List ℕ) (cells : List Cell) → AreSizes net sizes → AllByRecursion (UsesBelow (length sizes)) cells
    → length (wires_of_uses net cells) ≤ FLAT_WIRES → sum_by (size_in sizes) cells ≡ length (wires_of_uses net cells)
sum_is net sizes cells s below l =
    let e = capped_uses net sizes 0 cells s below in
    omega arith

-- what an instance that is entered has
pub record Facts (net : Net) (sizes : List ℕ) (x : Instance) (m : Module) : Type 0 where
  pub names : NamesHold net x.module.number m
  pub below : AllByRecursion (UsesBelow (length sizes)) m.cells
  pub long : length (widths_in net x.module.number) ≡ length m.widths + length (wires_of_uses net m.cells)

pub facts_of : (net : Net) (sizes : List ℕ) (x : Instance) (m : Module) → Enters net sizes x m → Facts net sizes x m
facts_of net sizes x m e =
    let wf = e.sized.well_formed in
    let i = x.module.number in
    let some = slice_get_within net.modules i m e.found in
    record {
      names = wf.rules i m e.found Name;
      below = all_then (UsesBelow i) (UsesBelow (length sizes)) m.cells (fewer i (length sizes) (omega (arith, e.sized.all)))
          (uses_below net i m wf e.found);
      long = ap length (widths_step net i m wf e.found) ∙ length-append m.widths (wires_of_uses net m.cells);
    }
  where
    fewer : (n k : ℕ) → n ≤ k → (cell : Cell) → UsesBelow n cell → UsesBelow k cell
    fewer n k l (Use j reads drives) h = omega arith
    fewer n k l _ h = tt

-- the first cells' uses have no more wires than all
fewer_wires : (net : Net) (cells : List Cell) (i : ℕ) → length (wires_of_uses net (take i cells)) ≤ length (wires_of_uses net cells)
fewer_wires net cells i =
    let parts = ap (λ (cs : List Cell). length (wires_of_uses net cs)) (take-append-drop i cells) in
    let both = ap length (flat_map-append (widths_of_use (widths_in net)) (take i cells) (drop i cells)) in
    omega (arith, length-append (wires_of_uses net (take i cells)) (wires_of_uses net (drop i cells)))

-- where the wires of the next use begin
pub sum_so_far : (net : Net) (sizes : List ℕ) (x : Instance) (m : Module) (i : ℕ) → Enters net sizes x m
    → length m.widths + sum_by (size_in sizes) (take i m.cells) ≡ wires_before net m (take i m.cells)
sum_so_far net sizes x m i e =
    let f = facts_of net sizes x m e in
    let cells = subst (λ (cs : List Cell). AllByRecursion (UsesBelow (length sizes)) cs) (sym (take-append-drop i m.cells)) f.below in
    let first = all_left (UsesBelow (length sizes)) (take i m.cells) (drop i m.cells) cells in
    let s = sum_is net sizes (take i m.cells) e.sized.known first (omega (arith, fewer_wires net m.cells i, f.long, e.within)) in
    omega arith

pub sum_of_all : (net : Net) (sizes : List ℕ) (x : Instance) (m : Module) → Enters net sizes x m
    → x.base + length m.widths + sum_by (size_in sizes) m.cells ≡ x.base + length (widths_in net x.module.number)
sum_of_all net sizes x m e =
    let f = facts_of net sizes x m e in
    let s = sum_is net sizes m.cells e.sized.known f.below (omega (arith, f.long, e.within)) in
    omega (arith, f.long)

-- flat wires of a module's wires fit
moves_there : (base n : ℕ) (widths : List ℕ) (wires : List WireId) → base + length widths ≤ n → n ≤ FLAT_WIRES
    → AllByRecursion (IsWire widths) wires → AllByRecursion (Moves base) wires
moves_there base n widths wires l few h = all_then (IsWire widths) (Moves base) wires (λ w i. omega (arith, i)) h

pub cells_move : (net : Net) (sizes : List ℕ) (x : Instance) (m : Module) → Enters net sizes x m → AllByRecursion (CellMoves x.base) m.cells
cells_move net sizes x m e =
    let f = facts_of net sizes x m e in
    let l : x.base + length m.widths ≤ FLAT_WIRES = omega (arith, f.long, e.within) in
    let of_names = NamesExist (length net.ports.domains) (take x.module.number net.modules) m.widths in
    all_then of_names (CellMoves x.base) m.cells
    (λ cell h. (moves_there x.base FLAT_WIRES m.widths (driven cell) l (omega arith) h.driven, moves_there x.base FLAT_WIRES m.widths (read_by cell) l (omega arith) h.read))
    f.names.cells

use_moves : (base : ℕ) (cell : Cell) → CellMoves base cell → UseMoves base cell
use_moves base (Use k reads drives) h = h.1
use_moves base _ h = tt

pub uses_move : (net : Net) (sizes : List ℕ) (x : Instance) (m : Module) → Enters net sizes x m → AllByRecursion (UseMoves x.base) m.cells
uses_move net sizes x m e = all_then (CellMoves x.base) (UseMoves x.base) m.cells (use_moves x.base) (cells_move net sizes x m e)

-- the outputs of the module of a number
pub outputs_there : (modules : List Module) (k : ℕ) (m : Module) → slice_get modules k ≡ Some m → outputs_of modules k ≡ m.outputs
outputs_there modules k m e = ap (λ o. elim o [ Some u ↦ u.outputs | None ↦ [] ]) e

-- what a use at a place of a module of a well formed net is
pub record UseAt (net : Net) (i : ℕ) (m : Module) (k : ModId) (reads drives : List WireId) : Type 0 where
  pub used : Module
  pub found : slice_get net.modules k.number ≡ Some used
  pub earlier : k.number < i
  pub inputs : length reads ≡ used.inputs
  pub outputs : length drives ≡ length used.outputs

pub use_at : (net : Net) (i : ℕ) (m : Module) (place : ℕ) (k : ModId) (reads drives : List WireId) → WellFormed net
    → slice_get net.modules i ≡ Some m → slice_get m.cells place ≡ Some (Use k reads drives) → UseAt net i m k reads drives
use_at net i m place k reads drives wf found here =
    let names = (wf.rules i m found Name).cells in
    let exist = all_at (NamesExist (length net.ports.domains) (take i net.modules) m.widths) m.cells place (Use k reads drives) names here in
    let part : UseExists (take i net.modules) k.number reads drives = exist.part in
    let below = all_at (UsesBelow i) m.cells place (Use k reads drives) (uses_below net i m wf found) here in
    record {
      used = part.used;
      found = get_taken i net.modules k.number part.used part.found;
      earlier = below;
      inputs = part.inputs;
      outputs = part.outputs;
    }

-- the use at a place, with the cells before it
pub stands_at : (m : Module) (place : ℕ) (k : ModId) (reads drives : List WireId) → slice_get m.cells place ≡ Some (Use k reads drives)
    → IsUse m.cells (take place m.cells) k reads drives
stands_at m place k reads drives here =
    let s = split_at m.cells place (Use k reads drives) here in
    record { after = s.0; stands = s.1 }

-- the flat wires of what a use gives fit
pub use_gives : (net : Net) (sizes : List ℕ) (x : Instance) (m : Module) (place next : ℕ) (cell : Cell) → Enters net sizes x m
    → slice_get m.cells place ≡ Some cell → next ≡ x.base + wires_before net m (take place m.cells) → UseGives net.modules next cell
use_gives net sizes x m place next (Use k reads drives) e here at =
    let wf = e.sized.well_formed in
    let i = x.module.number in
    let u = use_at net i m place k reads drives wf e.found here in
    let within = use_within net i m (take place m.cells) k reads drives wf e.found (stands_at m place k reads drives here) in
    let names = wf.rules k.number u.used u.found Name in
    let long = ap length (widths_step net k.number u.used wf u.found) ∙ length-append u.used.widths (wires_of_uses net u.used.cells) in
    subst (λ (os : List WireId). AllByRecursion (Moves next) os) (sym (outputs_there net.modules k.number u.used u.found))
    (moves_there next (next + length u.used.widths) u.used.widths u.used.outputs (omega arith) (omega (arith, e.within)) names.outputs)
use_gives net sizes x m place next _ e here at = tt

-- the wires that a cell drives are the module's
pub cells_drive : (net : Net) (sizes : List ℕ) (x : Instance) (m : Module) (place : ℕ) (cell : Cell) (n : ℕ) → Enters net sizes x m
    → slice_get m.cells place ≡ Some cell → length m.widths ≡ n → AllByRecursion (λ w. w.number < n) (driven cell)
cells_drive net sizes x m place cell n e here size =
    let names = (facts_of net sizes x m e).names.cells in
    let exist = all_at (NamesExist (length net.ports.domains) (take x.module.number net.modules) m.widths) m.cells place cell names here in
    subst (λ (k : ℕ). AllByRecursion (λ w. w.number < k) (driven cell)) size exist.driven

-- where the wires of the next use begin, behind those of a cell's
pub next_after : (net : Net) (sizes : List ℕ) (x : Instance) (m : Module) (place next : ℕ) (cell : Cell) → Enters net sizes x m
    → slice_get m.cells place ≡ Some cell → next ≡ x.base + wires_before net m (take place m.cells)
    → next + size_in sizes cell ≡ x.base + wires_before net m (take (place + 1) m.cells)
next_after net sizes x m place next cell e here at =
    let so_far = sum_so_far net sizes x m place e in
    let more = sum_so_far net sizes x m (place + 1) e in
    let sum = sum_next sizes (x.base + length m.widths) next m.cells place cell here (omega arith) in
    omega arith

pub next_within : (net : Net) (sizes : List ℕ) (x : Instance) (m : Module) (place next : ℕ) (cell : Cell) → Enters net sizes x m
    → slice_get m.cells place ≡ Some cell → next ≡ x.base + wires_before net m (take place m.cells)
    → next + size_in sizes cell ≤ FLAT_WIRES
next_within net sizes x m place next cell e here at =
    let after = next_after net sizes x m place next cell e here at in
    let f = facts_of net sizes x m e in
    omega (arith, f.long, e.within, fewer_wires net m.cells (place + 1))
