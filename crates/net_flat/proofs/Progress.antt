-- What is so far of a flat net, and that it goes on with each instance that is entered.
use Rattle.std.proofs.Common.{◌≡◌, ℕ, zero, suc, ◌+◌, ◌-◌, ◌<◌, ◌⊎◌, inl, inr, List, [], ◌∷◌, ◌++◌, length, map, Some, None, slice_get, get_or, refl, sym, ap, subst, ◌∙◌, arith, length-append}
use Rattle.std.specs.Prelude.{flat_map}
use Rattle.std.specs.List.{AllByRecursion}
use Rattle.std.proofs.lemmas.Grind.{flat_map-append}
use Rattle.std.proofs.lemmas.List.{append-nil, append_assoc}
use Rattle.std.proofs.lemmas.Option.{slice_get-get_or, slice_get_within}
use Rattle.chw_base.specs.declared.index.ModId.{ModId}
use Rattle.chw_base.specs.declared.index.WireId.{WireId}
use Rattle.netlist.specs.Feeds.{target}
use Rattle.netlist.specs.Sound.{DrivesFrom}
use Rattle.netlist.specs.declared.net.Cell.{Cell}
use Rattle.netlist.specs.declared.net.Cell.TheVariants.{Const, Copy, Join, Cut, Un, Bin, Mux, Reg, Ram, Use}
use Rattle.netlist.specs.declared.net.Module.{Module}
use Rattle.netlist.specs.declared.net.Net.{Net}
use Rattle.net_flat.specs.Entering.{Enters}
use Rattle.net_flat.specs.Flattened.{IsFlatCell, IsUse, NoUse, moved, widths_in, wire_from, wires_before}
use Rattle.net_flat.specs.Instances.{AreOwn, IsOwn, IsPlaced, cell, input_copies, output, top, uses_along}
use Rattle.net_flat.specs.declared.instances.Instance.{Instance}
use Rattle.net_flat.proofs.Below.{IsBelow, Tiles, below, below_top, exact_sizes, itself, tiles_append, use_item, uses_inner, uses_placed, uses_tile, uses_widths, widths_at}
use Rattle.net_flat.proofs.Cells.{IsCellAt, copied, driven, flat_of_instance}
use Rattle.net_flat.proofs.Lists.{all_append, get_either, get_left, get_right}
use Rattle.net_flat.proofs.OneFlat.{IsIn}
use Rattle.net_flat.proofs.Once.{own_from, own_once, own_to}
use Rattle.net_flat.proofs.Placed.{placed_reads}
use Rattle.net_flat.proofs.Widths.{uses_below, widths_step}
use Rattle.net_flat.proofs.Within.{facts_of, wires_of_uses}

-- an instance is below one that waits
abbrev pub Waits : Net → List Instance → Instance → Type 0
Waits net todo x = (y : Instance) × (n : ℕ) × (slice_get todo n ≡ Some y) × IsBelow net y x

-- the flat cells of the instance are among these
abbrev pub HasAll : Net → List Cell → Instance → Type 0
HasAll net cells x = (c : Cell) → IsCellAt net x c → IsIn cells c

-- the wires and cells so far are flat ones, in order, and the others are those of the instances that
-- wait and of those below them
pub record Progress (net : Net) (last : ℕ) (widths : List ℕ) (cells : List Cell) (todo : List Instance) : Type 0 where
  pub placed : AllByRecursion (IsPlaced net) todo
  pub tiles : Tiles net (length widths) todo
  pub joined : widths ++ flat_map (widths_at net) todo ≡ widths_in net last
  pub sound : (c : Cell) → IsIn cells c → IsFlatCell net c
  pub complete : (x : Instance) → IsPlaced net x → HasAll net cells x ⊎ Waits net todo x

-- items of lists side by side
in_left : (xs ys : List Cell) (c : Cell) → IsIn xs c → IsIn (xs ++ ys) c
in_left xs ys c i = (i.0, get_left xs ys i.0 c i.1)

in_right : (xs ys : List Cell) (c : Cell) → IsIn ys c → IsIn (xs ++ ys) c
in_right xs ys c i = (length xs + i.0, get_right xs ys i.0 ∙ i.1)

-- the copies of the inputs
copy_there : (w : ℕ) (reads : List WireId) (j : ℕ) (r : WireId) → slice_get reads j ≡ Some r
    → slice_get (input_copies w reads) j ≡ Some (Copy (record { number = w + j }) r)
copy_there w [] j r e = absurd (let n : None ≡ Some r = e in cc)
copy_there w (x ∷ reads) zero r e =
    let same : x ≡ r = cc in
    let n : w ≡ w + 0 = omega arith in
    ap (λ (y : WireId). Some (Copy (record { number = w }) y)) same ∙ ap (λ (k : ℕ). Some (Copy (record { number = k }) r)) n
copy_there w (x ∷ reads) (suc j) r e =
    let n : (w + 1) + j ≡ w + suc j = omega arith in
    copy_there (w + 1) reads j r e ∙ ap (λ (k : ℕ). Some (Copy (record { number = k }) r)) n

copy_is : (w : ℕ) (reads : List WireId) (j : ℕ) (c : Cell) → slice_get (input_copies w reads) j ≡ Some c
    → (r : WireId) × (slice_get reads j ≡ Some r) × (c ≡ Copy (record { number = w + j }) r)
copy_is w [] j c e = absurd (let n : None ≡ Some c = e in cc)
copy_is w (x ∷ reads) zero c e =
    let same : Copy (record { number = w }) x ≡ c = cc in
    let n : w ≡ w + 0 = omega arith in
    (x, refl, sym same ∙ ap (λ (k : ℕ). Copy (record { number = k }) x) n)
copy_is w (x ∷ reads) (suc j) c e =
    let rest = copy_is (w + 1) reads j c e in
    let n : (w + 1) + j ≡ w + suc j = omega arith in
    (rest.0, rest.1, rest.2 ∙ ap (λ (k : ℕ). Copy (record { number = k }) rest.0) n)

-- a flat cell of an instance is among those that are pushed for it
pushed_has : (net : Net) (sizes : List ℕ) (x : Instance) (m : Module) (own : List Cell) → Enters net sizes x m → AreOwn net x.base m own
    → HasAll net (input_copies x.base x.reads ++ own) x
pushed_has net sizes x m own e a _ (copied j r at) =
    in_left (input_copies x.base x.reads) own _ (j, copy_there x.base x.reads j r at)
pushed_has net sizes x m own e a _ (driven n w c found o) =
    let both : Some n ≡ Some m = sym found ∙ e.found in
    let same : n ≡ m = cc in
    let mine : IsOwn net x.base m w c = subst (λ (y : Module). IsOwn net x.base y w c) same o in
    let wf = e.sized.well_formed in
    let from = own_from net x.base x.module.number m w c wf e.found mine in
    let to = own_to net x.base x.module.number m w c wf e.found mine in
    let l : w - m.inputs < length own = omega (arith, a.all) in
    let at = slice_get-get_or own (w - m.inputs) c l in
    let there = a.each (w - m.inputs) (get_or own (w - m.inputs) c) at in
    let place : m.inputs + (w - m.inputs) ≡ w = omega arith in
    let there' : IsOwn net x.base m w (get_or own (w - m.inputs) c) = subst (λ (k : ℕ). IsOwn net x.base m k (get_or own (w - m.inputs) c)) place there in
    let one = own_once net x.base x.module.number m w (get_or own (w - m.inputs) c) c wf e.found there' mine in
    in_right (input_copies x.base x.reads) own c (w - m.inputs, at ∙ ap (λ (y : Cell). Some y) one)

-- what is pushed for an instance are flat cells
pushed_sound : (net : Net) (sizes : List ℕ) (x : Instance) (m : Module) (own : List Cell) (c : Cell) → Enters net sizes x m → AreOwn net x.base m own
    → IsIn (input_copies x.base x.reads ++ own) c → IsFlatCell net c
pushed_sound net sizes x m own c e a i = by (get_either (input_copies x.base x.reads) own i.0 c i.1)
  where
    by : (slice_get (input_copies x.base x.reads) i.0 ≡ Some c) ⊎ ((j : ℕ) × (i.0 ≡ length (input_copies x.base x.reads) + j) × (slice_get own j ≡ Some c)) → IsFlatCell net c
    by (inl h) =
        let r = copy_is x.base x.reads i.0 c h in
        subst (λ (y : Cell). IsFlatCell net y) (sym r.2) (flat_of_instance net x _ e.placed (copied i.0 r.0 r.1))
    by (inr h) = flat_of_instance net x c e.placed (driven m (m.inputs + h.0) c e.found (a.each h.0 c h.2))

-- what is below an instance is itself, or waits once the instance is entered
entered_waits : (net : Net) (sizes : List ℕ) (x z : Instance) (m : Module) (own cells : List Cell) (rest : List Instance) → Enters net sizes x m
    → AreOwn net x.base m own → IsBelow net x z
    → HasAll net (cells ++ (input_copies x.base x.reads ++ own)) z
    ⊎ Waits net (uses_along sizes x.base (x.base + length m.widths) m.cells ++ rest) z
entered_waits net sizes _ _ m own cells rest e a (itself y) =
    inl (λ c at. in_right cells (input_copies y.base y.reads ++ own) c (pushed_has net sizes y m own e a c at))
entered_waits net sizes _ _ m own cells rest e a (below y n before k reads drives z found u b) =
    let both : Some n ≡ Some m = sym found ∙ e.found in
    let same : n ≡ m = cc in
    let v : IsUse m.cells before k reads drives = subst (λ (o : Module). IsUse o.cells before k reads drives) same u in
    let i = use_item net sizes y m before k reads drives (exact_sizes net sizes y m e) v in
    let b' = subst (λ (o : Module). IsBelow net (record { «module» = k; base = y.base + wires_before net o before; reads = map (wire_from y.base) reads }) z) same b in
    inr (
      record { «module» = k; base = y.base + wires_before net m before; reads = map (wire_from y.base) reads },
      i.0,
      get_left (uses_along sizes y.base (y.base + length m.widths) m.cells) rest i.0 _ i.1,
      b',
    )

joined_next : (net : Net) (sizes : List ℕ) (last : ℕ) (widths : List ℕ) (x : Instance) (rest : List Instance) (m : Module)
    → widths ++ flat_map (widths_at net) (x ∷ rest) ≡ widths_in net last → Enters net sizes x m
    → (widths ++ m.widths) ++ flat_map (widths_at net) (uses_along sizes x.base (x.base + length m.widths) m.cells ++ rest) ≡ widths_in net last
joined_next net sizes last widths x rest m joined e =
    let wires = uses_widths net sizes x.base (x.base + length m.widths) m.cells in
    let parts = flat_map-append (widths_at net) (uses_along sizes x.base (x.base + length m.widths) m.cells) rest in
    let all : flat_map (widths_at net) (uses_along sizes x.base (x.base + length m.widths) m.cells ++ rest) ≡ wires_of_uses net m.cells ++ flat_map (widths_at net) rest =
    parts ∙ ap (λ (ws : List ℕ). ws ++ flat_map (widths_at net) rest) wires in
    let step = widths_step net x.module.number m e.sized.well_formed e.found in
    ap (λ (ws : List ℕ). (widths ++ m.widths) ++ ws) all
    ∙ append_assoc widths m.widths (wires_of_uses net m.cells ++ flat_map (widths_at net) rest)
    ∙ ap (λ (ws : List ℕ). widths ++ ws) (sym (append_assoc m.widths (wires_of_uses net m.cells) (flat_map (widths_at net) rest)))
    ∙ ap (λ (ws : List ℕ). widths ++ (ws ++ flat_map (widths_at net) rest)) (sym step)
    ∙ joined

-- one more instance is entered
pub progress_next : (net : Net) (sizes : List ℕ) (last : ℕ) (widths : List ℕ) (cells : List Cell) (x : Instance) (rest : List Instance) (m : Module) (own : List Cell)
    → Progress net last widths cells (x ∷ rest) → Enters net sizes x m → AreOwn net x.base m own
    → Progress net last (widths ++ m.widths) (cells ++ (input_copies x.base x.reads ++ own))
    (uses_along sizes x.base (x.base + length m.widths) m.cells ++ rest)
progress_next net sizes last widths cells x rest m own p e a =
    let exact = exact_sizes net sizes x m e in
    let f = facts_of net sizes x m e in
    let tile : x.base ≡ length widths = p.tiles.0 in
    let at : x.base + length m.widths ≡ length (widths ++ m.widths) = omega (arith, length-append widths m.widths) in
    let wires = uses_widths net sizes x.base (x.base + length m.widths) m.cells in
    let end : length widths + length (widths_in net x.module.number)
    ≡ length (widths ++ m.widths) + length (flat_map (widths_at net) (uses_along sizes x.base (x.base + length m.widths) m.cells)) =
    omega (arith, length-append widths m.widths, f.long, ap length wires) in
    record {
      placed = all_append (IsPlaced net) (uses_along sizes x.base (x.base + length m.widths) m.cells) rest
          (uses_placed net sizes x m (x.base + length m.widths) [] m.cells e.placed e.found refl (omega arith) exact) p.placed.1;
      tiles = tiles_append net (length (widths ++ m.widths)) (uses_along sizes x.base (x.base + length m.widths) m.cells) rest
          (subst (λ (n : ℕ). Tiles net n (uses_along sizes x.base (x.base + length m.widths) m.cells)) at
          (uses_tile net sizes x.base (x.base + length m.widths) m.cells exact))
          (subst (λ (n : ℕ). Tiles net n rest) end p.tiles.1);
      joined = joined_next net sizes last widths x rest m p.joined e;
      sound = λ c i. by_cell c i (get_either cells (input_copies x.base x.reads ++ own) i.0 c i.1);
      complete = λ z q. by_instance z (p.complete z q);
    }
  where
    by_cell : (c : Cell) (i : IsIn (cells ++ (input_copies x.base x.reads ++ own)) c)
        → (slice_get cells i.0 ≡ Some c) ⊎ ((j : ℕ) × (i.0 ≡ length cells + j) × (slice_get (input_copies x.base x.reads ++ own) j ≡ Some c)) → IsFlatCell net c
    by_cell c i (inl h) = p.sound c (i.0, h)
    by_cell c i (inr h) = pushed_sound net sizes x m own c e a (h.0, h.2)

    by_instance : (z : Instance) → HasAll net cells z ⊎ Waits net (x ∷ rest) z
        → HasAll net (cells ++ (input_copies x.base x.reads ++ own)) z ⊎ Waits net (uses_along sizes x.base (x.base + length m.widths) m.cells ++ rest) z
    by_instance z (inl h) = inl (λ c at. in_left cells (input_copies x.base x.reads ++ own) c (h c at))
    by_instance z (inr (y, zero, at, b)) =
        let same : x ≡ y = cc in
        entered_waits net sizes x z m own cells rest e a (subst (λ (i : Instance). IsBelow net i z) (sym same) b)
    by_instance z (inr (y, suc n, at, b)) =
        inr (
          y,
          length (uses_along sizes x.base (x.base + length m.widths) m.cells) + n,
          get_right (uses_along sizes x.base (x.base + length m.widths) m.cells) rest n ∙ at,
          b,
        )

-- at first the top waits
pub progress_first : (net : Net) (t : ModId) → t.number + 1 ≡ length net.modules
    → Progress net t.number [] [] (record { «module» = t; base = 0; reads = [] } ∷ [])
progress_first net t end = record {
  placed = (top t end, tt);
  tiles = (refl, tt);
  joined = append-nil (widths_in net t.number);
  sound = λ c i. absurd (let n : None ≡ Some c = i.1 in cc);
  complete = λ x p. inr (record { «module» = t; base = 0; reads = [] }, zero, refl, below_top net t x end p);
}

-- cells that drive wires in order
drives_append : (w : ℕ) (xs ys : List Cell) → DrivesFrom w xs → DrivesFrom (w + length xs) ys → DrivesFrom w (xs ++ ys)
drives_append w [] ys d e = let n : w + 0 ≡ w = omega arith in subst (λ (k : ℕ). DrivesFrom k ys) n e
drives_append w (x ∷ xs) ys d e =
    let n : w + suc (length xs) ≡ (w + 1) + length xs = omega arith in
    (d.0, drives_append (w + 1) xs ys d.1 (subst (λ (k : ℕ). DrivesFrom k ys) n e))

drives_each : (w : ℕ) (xs : List Cell) → ((j : ℕ) (c : Cell) → slice_get xs j ≡ Some c → target c ≡ Some (w + j)) → DrivesFrom w xs
drives_each w [] each = tt
drives_each w (x ∷ xs) each =
    let n : w + 0 ≡ w = omega arith in (
      each zero x refl ∙ ap (λ (k : ℕ). Some k) n,
      drives_each (w + 1) xs (λ j c e. let k : w + suc j ≡ (w + 1) + j = omega arith in each (suc j) c e ∙ ap (λ (i : ℕ). Some i) k),
    )

copies_drive : (w : ℕ) (reads : List WireId) → DrivesFrom w (input_copies w reads)
copies_drive w [] = tt
copies_drive w (r ∷ reads) = (refl, copies_drive (w + 1) reads)

long_copies : (w : ℕ) (reads : List WireId) → length (input_copies w reads) ≡ length reads
long_copies w [] = refl
long_copies w (r ∷ reads) = ap (λ (n : ℕ). suc n) (long_copies (w + 1) reads)

moved_target : (base w : ℕ) (c : Cell) → NoUse c → target c ≡ Some w → target (moved base c) ≡ Some (base + w)
moved_target base w (Use k reads drives) n t = absurd n
moved_target base w (Const v bits) n t = let e : v.number ≡ w = cc in ap (λ (i : ℕ). Some (base + i)) e
moved_target base w (Copy v a) n t = let e : v.number ≡ w = cc in ap (λ (i : ℕ). Some (base + i)) e
moved_target base w (Join v parts) n t = let e : v.number ≡ w = cc in ap (λ (i : ℕ). Some (base + i)) e
moved_target base w (Cut v a high low) n t = let e : v.number ≡ w = cc in ap (λ (i : ℕ). Some (base + i)) e
moved_target base w (Un v op a) n t = let e : v.number ≡ w = cc in ap (λ (i : ℕ). Some (base + i)) e
moved_target base w (Bin v op a b) n t = let e : v.number ≡ w = cc in ap (λ (i : ℕ). Some (base + i)) e
moved_target base w (Mux v c a b) n t = let e : v.number ≡ w = cc in ap (λ (i : ℕ). Some (base + i)) e
moved_target base w (Reg v domain initial a) n t = let e : v.number ≡ w = cc in ap (λ (i : ℕ). Some (base + i)) e
moved_target base w (Ram v domain words inputs) n t = let e : v.number ≡ w = cc in ap (λ (i : ℕ). Some (base + i)) e

own_target : (net : Net) (base : ℕ) (m : Module) (w : ℕ) (c : Cell) → IsOwn net base m w c → target c ≡ Some (base + w)
own_target net base m _ _ (cell place w c at none t) = moved_target base w c none t
own_target net base m _ _ (output before k reads drives u used found j w o d g) = refl

own_drive : (net : Net) (base : ℕ) (m : Module) (own : List Cell) → AreOwn net base m own → DrivesFrom (base + m.inputs) own
own_drive net base m own a = drives_each (base + m.inputs) own
    (λ j c e. let n : base + (m.inputs + j) ≡ base + m.inputs + j = omega arith in own_target net base m (m.inputs + j) c (a.each j c e) ∙ ap (λ (i : ℕ). Some i) n)

-- the cells so far drive in order the wires so far that are no inputs of the top, and what waits isn't
-- the top
pub record Driving (net : Net) (inputs : ℕ) (widths : List ℕ) (cells : List Cell) (todo : List Instance) : Type 0 where
  pub order : DrivesFrom inputs cells
  pub count : inputs + length cells ≡ length widths
  pub inner : AllByRecursion (λ y. y.module.number + 1 < length net.modules) todo

uses_are_inner : (net : Net) (sizes : List ℕ) (x : Instance) (m : Module) → Enters net sizes x m
    → AllByRecursion (λ y. y.module.number + 1 < length net.modules) (uses_along sizes x.base (x.base + length m.widths) m.cells)
uses_are_inner net sizes x m e =
    uses_inner x.module.number (x.base + length m.widths) sizes x.base m.cells (length net.modules)
    (uses_below net x.module.number m e.sized.well_formed e.found) (slice_get_within net.modules x.module.number m e.found)

pub driving_next : (net : Net) (sizes : List ℕ) (inputs : ℕ) (widths : List ℕ) (cells : List Cell) (x : Instance) (rest : List Instance) (m : Module) (own : List Cell)
    → Driving net inputs widths cells (x ∷ rest) → x.base ≡ length widths → Enters net sizes x m → AreOwn net x.base m own
    → Driving net inputs (widths ++ m.widths) (cells ++ (input_copies x.base x.reads ++ own))
    (uses_along sizes x.base (x.base + length m.widths) m.cells ++ rest)
driving_next net sizes inputs widths cells x rest m own d at e a =
    let reads = placed_reads net x m e.sized.well_formed e.placed e.found d.inner.0 in
    let copies = long_copies x.base x.reads in
    let k : x.base + m.inputs ≡ x.base + length (input_copies x.base x.reads) = omega arith in
    let n : x.base ≡ inputs + length cells = omega (arith, d.count) in
    let mine = drives_append x.base (input_copies x.base x.reads) own (copies_drive x.base x.reads)
    (subst (λ (i : ℕ). DrivesFrom i own) k (own_drive net x.base m own a)) in
    let pushed : DrivesFrom (inputs + length cells) (input_copies x.base x.reads ++ own) =
    subst (λ (i : ℕ). DrivesFrom i (input_copies x.base x.reads ++ own)) n mine in
    record {
      order = drives_append inputs cells (input_copies x.base x.reads ++ own) d.order pushed;
      count = omega (
        arith,
        d.count,
        a.all,
        length-append cells (input_copies x.base x.reads ++ own),
        length-append (input_copies x.base x.reads) own,
        length-append widths m.widths,
      );
      inner = all_append (λ y. y.module.number + 1 < length net.modules) (uses_along sizes x.base (x.base + length m.widths) m.cells) rest
          (uses_are_inner net sizes x m e) d.inner.1;
    }

-- the top's cells, before any other
pub driving_first : (net : Net) (sizes : List ℕ) (x : Instance) (m : Module) (own : List Cell) → x.base ≡ 0 → x.reads ≡ [] → Enters net sizes x m → AreOwn net x.base m own
    → Driving net m.inputs ([] ++ m.widths) ([] ++ (input_copies x.base x.reads ++ own))
    (uses_along sizes x.base (x.base + length m.widths) m.cells ++ [])
driving_first net sizes x m own at none e a =
    let copies : input_copies x.base x.reads ≡ [] = ap (λ (rs : List WireId). input_copies x.base rs) none in
    let n : x.base + m.inputs ≡ m.inputs = omega arith in
    let drive : DrivesFrom m.inputs own = subst (λ (i : ℕ). DrivesFrom i own) n (own_drive net x.base m own a) in
    let long = ap length copies in
    record {
      order = subst (λ (cs : List Cell). DrivesFrom m.inputs (cs ++ own)) (sym copies) drive;
      count = omega (arith, a.all, length-append (input_copies x.base x.reads) own);
      inner = all_append (λ y. y.module.number + 1 < length net.modules) (uses_along sizes x.base (x.base + length m.widths) m.cells) []
          (uses_are_inner net sizes x m e) tt;
    }
