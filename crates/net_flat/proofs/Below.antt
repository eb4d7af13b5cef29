-- The instances below an instance, and those that an instance uses.
use Rattle.std.proofs.Common.{◌≡◌, ℕ, ◌+◌, ◌<◌, List, [], ◌∷◌, ◌++◌, length, map, Some, slice_get, refl, sym, ap, subst, ◌∙◌, arith, length-append}
use Rattle.std.specs.Prelude.{flat_map, slice_index, sum_by}
use Rattle.std.specs.List.{AllByRecursion}
use Rattle.std.proofs.lemmas.Grind.{flat_map-append}
use Rattle.std.proofs.lemmas.List.{append-nil, append_assoc}
use Rattle.std.proofs.lemmas.List.Sums.{sum_by-cons}
use Rattle.chw_base.specs.declared.index.ModId.{ModId}
use Rattle.chw_base.specs.declared.index.WireId.{WireId}
use Rattle.netlist.specs.declared.net.Cell.{Cell}
use Rattle.netlist.specs.declared.net.Cell.TheVariants.{Use}
use Rattle.netlist.specs.declared.net.Module.{Module}
use Rattle.netlist.specs.declared.net.Net.{Net}
use Rattle.net_flat.specs.Entering.{Enters}
use Rattle.net_flat.specs.Flattened.{IsUse, widths_in, widths_of_use, wire_from, wires_before}
use Rattle.net_flat.specs.Instances.{IsPlaced, top, used, uses_along}
use Rattle.net_flat.specs.Sizes.{size_in}
use Rattle.net_flat.specs.declared.instances.Instance.{Instance}
use Rattle.net_flat.proofs.Lists.{all_at, all_left, all_of_each, get_middle}
use Rattle.net_flat.proofs.Uses.{uses_append}
use Rattle.net_flat.proofs.Widths.{UsesBelow}
use Rattle.net_flat.proofs.Within.{facts_of, stands_at, use_within, wires_of_uses}

-- an instance is itself, or below one that another uses
pub data IsBelow (net : Net) : Instance → Instance → Type 0 where
  itself : (y : Instance) → IsBelow net y y
  below : (y : Instance) (m : Module) (before : List Cell) (k : ModId) (reads drives : List WireId) (z : Instance)
      → slice_get net.modules y.module.number ≡ Some m → IsUse m.cells before k reads drives
      → IsBelow net (record { «module» = k; base = y.base + wires_before net m before; reads = map (wire_from y.base) reads }) z → IsBelow net y z

-- one that an instance below uses is below
below_use : (net : Net) (y z : Instance) (m : Module) (before : List Cell) (k : ModId) (reads drives : List WireId) → IsBelow net y z
    → slice_get net.modules z.module.number ≡ Some m → IsUse m.cells before k reads drives
    → IsBelow net y (record { «module» = k; base = z.base + wires_before net m before; reads = map (wire_from z.base) reads })
below_use net _ _ m before k reads drives (itself z) found u =
    below z m before k reads drives _ found u (itself _)
below_use net _ _ m before k reads drives (below y n first j rs ds z there v b) found u =
    below y n first j rs ds _ there v (below_use net _ z m before k reads drives b found u)

-- each instance is below the top
pub below_top : (net : Net) (t : ModId) (x : Instance) → t.number + 1 ≡ length net.modules → IsPlaced net x
    → IsBelow net (record { «module» = t; base = 0; reads = [] }) x
below_top net t _ last (top k end) =
    let number : t.number ≡ k.number = omega arith in
    let same : t ≡ k = ap (λ (n : ℕ). record { number = n }) number in
    subst (λ (j : ModId). IsBelow net (record { «module» = t; base = 0; reads = [] }) (record { «module» = j; base = 0; reads = [] })) same (itself _)
below_top net t _ last (used x m before k reads drives p found u) =
    below_use net _ x m before k reads drives (below_top net t x last p) found u

-- the size of the module that a cell uses is known exactly
abbrev pub SizeExact : Net → List ℕ → Cell → Type 0
SizeExact net sizes (Use k reads drives) = slice_index sizes k.number ≡ length (widths_in net k.number)
SizeExact net sizes _ = Unit {0}

exact_at : (net : Net) (sizes : List ℕ) (x : Instance) (m : Module) (place : ℕ) (cell : Cell) → Enters net sizes x m
    → slice_get m.cells place ≡ Some cell → SizeExact net sizes cell
exact_at net sizes x m place (Use k reads drives) e here =
    let f = facts_of net sizes x m e in
    let l = all_at (UsesBelow (length sizes)) m.cells place (Use k reads drives) f.below here in
    let known = e.sized.known k.number l in
    let within = use_within net x.module.number m _ k reads drives e.sized.well_formed e.found (stands_at m place k reads drives here) in
    omega (arith, known, within, e.within)
exact_at net sizes x m place _ e here = tt

pub exact_sizes : (net : Net) (sizes : List ℕ) (x : Instance) (m : Module) → Enters net sizes x m → AllByRecursion (SizeExact net sizes) m.cells
exact_sizes net sizes x m e = all_of_each (SizeExact net sizes) m.cells (λ place cell here. exact_at net sizes x m place cell e here)

sum_exact : (net : Net) (sizes : List ℕ) (cells : List Cell) → AllByRecursion (SizeExact net sizes) cells
    → sum_by (size_in sizes) cells ≡ length (wires_of_uses net cells)
sum_exact net sizes [] h = refl
sum_exact net sizes (Use k reads drives ∷ cells) h =
    let rest = sum_exact net sizes cells h.1 in
    let sum = sum_by-cons (size_in sizes) (Use k reads drives) cells in
    let first : slice_index sizes k.number ≡ length (widths_in net k.number) = h.0 in
    omega (arith, length-append (widths_in net k.number) (wires_of_uses net cells))
sum_exact net sizes (cell ∷ cells) h =
    let rest = sum_exact net sizes cells h.1 in
    let sum = sum_by-cons (size_in sizes) cell cells in
    omega arith

-- the wires of an instance
abbrev pub widths_at : Net → Instance → List ℕ
widths_at net x = widths_in net x.module.number

-- the wires of each instance begin where those of the one before end
abbrev pub Tiles : Net → ℕ → List Instance → Type 0
Tiles net n [] = Unit {0}
Tiles net n (x ∷ xs) = (x.base ≡ n) × Tiles net (n + length (widths_at net x)) xs

pub tiles_append : (net : Net) (n : ℕ) (xs ys : List Instance) → Tiles net n xs → Tiles net (n + length (flat_map (widths_at net) xs)) ys
    → Tiles net n (xs ++ ys)
tiles_append net n [] ys t u = let e : n + 0 ≡ n = omega arith in subst (λ (k : ℕ). Tiles net k ys) e u
tiles_append net n (x ∷ xs) ys t u =
    let e : n + length (widths_at net x ++ flat_map (widths_at net) xs) ≡ (n + length (widths_at net x)) + length (flat_map (widths_at net) xs) =
    omega (arith, length-append (widths_at net x) (flat_map (widths_at net) xs)) in
    (t.0, tiles_append net (n + length (widths_at net x)) xs ys t.1 (subst (λ (k : ℕ). Tiles net k ys) e u))

pub uses_tile : (net : Net) (sizes : List ℕ) (base next : ℕ) (cells : List Cell) → AllByRecursion (SizeExact net sizes) cells
    → Tiles net next (uses_along sizes base next cells)
uses_tile net sizes base next [] h = tt
uses_tile net sizes base next (Use k reads drives ∷ cells) h =
    let size : slice_index sizes k.number ≡ length (widths_in net k.number) = h.0 in
    let rest = uses_tile net sizes base (next + slice_index sizes k.number) cells h.1 in
    (refl, subst (λ (n : ℕ). Tiles net (next + n) (uses_along sizes base (next + slice_index sizes k.number) cells)) size rest)
uses_tile net sizes base next (cell ∷ cells) h = uses_tile net sizes base next cells h.1

pub uses_widths : (net : Net) (sizes : List ℕ) (base next : ℕ) (cells : List Cell)
    → flat_map (widths_at net) (uses_along sizes base next cells) ≡ wires_of_uses net cells
uses_widths net sizes base next [] = refl
uses_widths net sizes base next (Use k reads drives ∷ cells) =
    ap (λ (ws : List ℕ). widths_in net k.number ++ ws) (uses_widths net sizes base (next + slice_index sizes k.number) cells)
uses_widths net sizes base next (cell ∷ cells) = uses_widths net sizes base next cells

-- how many wires stand before those of the cells behind one more
before_more : (net : Net) (m : Module) (before : List Cell) (cell : Cell)
    → wires_before net m (before ++ cell ∷ []) ≡ wires_before net m before + length (widths_of_use (widths_in net) cell)
before_more net m before cell =
    let parts = ap length (flat_map-append (widths_of_use (widths_in net)) before (cell ∷ [])) in
    let both = length-append (wires_of_uses net before) (wires_of_uses net (cell ∷ [])) in
    let one = ap length (append-nil (widths_of_use (widths_in net) cell)) in
    omega arith

pub uses_placed : (net : Net) (sizes : List ℕ) (x : Instance) (m : Module) (next : ℕ) (before cells : List Cell) → IsPlaced net x
    → slice_get net.modules x.module.number ≡ Some m → m.cells ≡ before ++ cells → next ≡ x.base + wires_before net m before
    → AllByRecursion (SizeExact net sizes) cells → AllByRecursion (IsPlaced net) (uses_along sizes x.base next cells)
uses_placed net sizes x m next before [] p found e at h = tt
uses_placed net sizes x m next before (Use k reads drives ∷ cells) p found e at h =
    let u : IsUse m.cells before k reads drives = record { after = cells; stands = e } in
    let first = used x m before k reads drives p found u in
    let more = before_more net m before (Use k reads drives) in
    let size : slice_index sizes k.number ≡ length (widths_in net k.number) = h.0 in
    let rest = uses_placed net sizes x m (next + slice_index sizes k.number) (before ++ Use k reads drives ∷ []) cells p found
    (e ∙ sym (append_assoc before (Use k reads drives ∷ []) cells)) (omega arith) h.1 in
    (subst (λ (n : ℕ). IsPlaced net (record { «module» = k; base = n; reads = map (wire_from x.base) reads })) (sym at) first, rest)
uses_placed net sizes x m next before (cell ∷ cells) p found e at h =
    let more = before_more net m before cell in
    uses_placed net sizes x m next (before ++ cell ∷ []) cells p found (e ∙ sym (append_assoc before (cell ∷ []) cells)) (omega arith) h.1

-- the instance of a use is among those that an instance uses
pub use_item : (net : Net) (sizes : List ℕ) (x : Instance) (m : Module) (before : List Cell) (k : ModId) (reads drives : List WireId)
    → AllByRecursion (SizeExact net sizes) m.cells → IsUse m.cells before k reads drives
    → (n : ℕ) × (slice_get (uses_along sizes x.base (x.base + length m.widths) m.cells) n
    ≡ Some (record { «module» = k; base = x.base + wires_before net m before; reads = map (wire_from x.base) reads }))
use_item net sizes x m before k reads drives h u =
    let exact = all_left (SizeExact net sizes) before (Use k reads drives ∷ u.after) (subst (λ (cs : List Cell). AllByRecursion (SizeExact net sizes) cs) u.stands h) in
    let sum = sum_exact net sizes before exact in
    let at : x.base + length m.widths + sum_by (size_in sizes) before ≡ x.base + wires_before net m before = omega arith in
    let split : uses_along sizes x.base (x.base + length m.widths) m.cells
    ≡ uses_along sizes x.base (x.base + length m.widths) before
    ++ uses_along sizes x.base (x.base + length m.widths + sum_by (size_in sizes) before) (Use k reads drives ∷ u.after) =
    ap (λ (cs : List Cell). uses_along sizes x.base (x.base + length m.widths) cs) u.stands
    ∙ uses_append sizes x.base (x.base + length m.widths) before (Use k reads drives ∷ u.after) in
    let middle = get_middle (uses_along sizes x.base (x.base + length m.widths) before)
    (record { «module» = k; base = x.base + length m.widths + sum_by (size_in sizes) before; reads = map (wire_from x.base) reads })
    (uses_along sizes x.base (x.base + length m.widths + sum_by (size_in sizes) before + slice_index sizes k.number) u.after) in (
      length (uses_along sizes x.base (x.base + length m.widths) before),
      ap (λ (is : List Instance). slice_get is (length (uses_along sizes x.base (x.base + length m.widths) before))) split ∙ middle
          ∙ ap (λ (n : ℕ). Some (record { «module» = k; base = n; reads = map (wire_from x.base) reads })) at,
    )

-- the instances that an instance uses are of earlier modules
pub uses_inner : (n next : ℕ) (sizes : List ℕ) (base : ℕ) (cells : List Cell) (modules : ℕ) → AllByRecursion (UsesBelow n) cells → n < modules
    → AllByRecursion (λ y. y.module.number + 1 < modules) (uses_along sizes base next cells)
uses_inner n next sizes base [] modules h l = tt
uses_inner n next sizes base (Use k reads drives ∷ cells) modules h l =
    let first : k.number < n = h.0 in
    (omega arith, uses_inner n (next + slice_index sizes k.number) sizes base cells modules h.1 l)
uses_inner n next sizes base (cell ∷ cells) modules h l = uses_inner n next sizes base cells modules h.1 l
