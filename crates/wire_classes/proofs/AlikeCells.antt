-- What equal keys say of cells and of marked wires.
use Rattle.std.proofs.Common.{◌≡◌, ℕ, zero, suc, ◌+◌, ◌<◌, inl, inr, Bool, true, false, List, [], ◌∷◌, length, map, drop, Some, slice_get, refl, sym, ap, subst, ◌∙◌, arith}
use Rattle.std.specs.List.{AllByRecursion}
use Rattle.std.specs.Option.{option_map}
use Rattle.std.specs.Prelude.{option_and_then}
use Rattle.std.proofs.lemmas.Bool.{cases_lt, false≢true}
use Rattle.std.proofs.lemmas.List.{get_or-drop, get_or_past, length-map}
use Rattle.std.proofs.lemmas.Option.{get_or_from_slice_get, none-some, same_Some, slice_get-map, slice_get_within}
use Rattle.chw_base.specs.declared.index.WireId.{WireId}
use Rattle.netlist.specs.Feeds.{target, target_at}
use Rattle.netlist.specs.Sound.{IsWire}
use Rattle.netlist.specs.Wires.{read_by}
use Rattle.netlist.specs.declared.net.Cell.{Cell}
use Rattle.netlist.specs.declared.net.Flat.{Flat}
use Rattle.netlist.proofs.Driven.{driven_wire}
use Rattle.netlist.proofs.Lengths.{fits_cell}
use Rattle.share_laws.specs.Same.{AllSame, IsKnown, Same}
use Rattle.share_laws.specs.Same.AllSame.{same_and, same_none}
use Rattle.share_laws.specs.Same.Same.{equal_bits, equal_cells}
use Rattle.wire_classes.specs.Closed.{AreFound, AreLabels, BitsHold, CellsHold, bits_in, label_of, labels_of, mark_of}
use Rattle.wire_classes.specs.Keys.{AreMarked, KeysAgree, KeysClash, cell_key, known_key}
use Rattle.wire_classes.specs.Steps.{IsStep}
use Rattle.wire_classes.specs.declared.steps.Step.TheVariants.{Merge}
use Rattle.wire_classes.proofs.Copying.{same_by_label, target_there}
use Rattle.wire_classes.proofs.Exist.{reads_exist, shown_count}
use Rattle.wire_classes.proofs.KeyBytes.{bits_apart, cell_apart, cell_meet, first_of, rest_of}

-- an item of a mapped list is made of one of the list
mapped_at : {X Y : Type 0} (f : X → Y) (xs : List X) (k : ℕ) (y : Y) → slice_get (map f xs) k ≡ Some y → (x : X) × (slice_get xs k ≡ Some x) × (f x ≡ y)
mapped_at f [] k y e = absurd (none-some y e)
mapped_at f (x ∷ xs) zero y e = (x, refl, same_Some (f x) y e)
mapped_at f (x ∷ xs) (suc k) y e = mapped_at f xs k y e

module _ (flat : Flat) (of : List ℕ) (labels : AreLabels flat of) where
  abbrev inputs : ℕ
  inputs = length flat.ports.inputs

  -- the label of the wire of a cell
  label_there : (p : ℕ) → label_of (drop inputs of) p ≡ label_of of (inputs + p)
  label_there p = get_or-drop inputs of p 0

  wire_there : (p w : ℕ) (cell : Cell) → slice_get flat.cells p ≡ Some cell → target cell ≡ Some w → w ≡ inputs + p
  wire_there p w cell at t =
      driven_wire inputs flat.cells labels.sound.in_order p w (ap (λ o. option_and_then target o) at ∙ t)

  key_there : (p : ℕ) (cell : Cell) → slice_get flat.cells p ≡ Some cell → slice_get (map (cell_key of) flat.cells) p ≡ Some (cell_key of cell)
  key_there p cell at = slice_get-map (cell_key of) flat.cells p ∙ ap (option_map (cell_key of)) at

  pub cells_hold : KeysAgree (map (cell_key of) flat.cells) (drop inputs of) → CellsHold flat of
  cells_hold agree = λ c d v w has there t u e same.
      let one = wire_there has.0 v c has.1 t in
      let other = wire_there there.0 w d there.1 u in
      let here = key_there has.0 c has.1 in
      let meets : slice_get (map (cell_key of) flat.cells) there.0 ≡ Some (cell_key of c) =
      key_there there.0 d there.1 ∙ ap Some (sym (cell_meet of c d e same)) in
      let is = agree has.0 there.0 (cell_key of c) here meets in
      ap (label_of of) one ∙ sym (label_there has.0) ∙ is ∙ label_there there.0 ∙ ap (label_of of) (sym other)

  all_same : (vs ws : List WireId) → AllByRecursion (IsWire flat.widths) vs → AllByRecursion (IsWire flat.widths) ws
      → labels_of of vs ≡ labels_of of ws → AllSame flat vs ws
  all_same [] [] l m e = same_none
  all_same [] (w ∷ ws) l m e = absurd (cc)
  all_same (v ∷ vs) [] l m e = absurd (cc)
  all_same (v ∷ vs) (w ∷ ws) l m e =
      same_and v w vs ws (same_by_label flat of labels v.number w.number l.0 m.0 (ap first_of e)) (all_same vs ws l.1 m.1 (ap rest_of e))

  -- cells with equal keys stand among the cells
  pub clash_within : (p q : ℕ) (others : List ℕ) → KeysClash (map (cell_key of) flat.cells) others p q
      → (p < length flat.cells) × (q < length flat.cells)
  clash_within p q others clash =
      let count = length-map flat.cells (cell_key of) in
      let one = slice_get_within (map (cell_key of) flat.cells) p clash.key clash.one in
      let other = slice_get_within (map (cell_key of) flat.cells) q clash.key clash.other in
      (omega (arith, count, one), omega (arith, count, other))

  -- they drive equal wires
  pub cells_equal : (p q v w : ℕ) (c d : Cell) → slice_get flat.cells p ≡ Some c → slice_get flat.cells q ≡ Some d
      → target_at flat.cells p ≡ Some v → target_at flat.cells q ≡ Some w → cell_key of c ≡ cell_key of d → Same flat v w
  cells_equal p q v w c d here there at to keys =
      let t = target_there flat p v c here at in
      let u = target_there flat q w d there to in
      let meet = cell_apart of c d v t keys in
      let reads = reads_exist (length flat.ports.domains) flat.widths c (fits_cell flat c labels.sound (p, here)) in
      let others = reads_exist (length flat.ports.domains) flat.widths d (fits_cell flat d labels.sound (q, there)) in
      equal_cells c d v w (p, here) (q, there) t u meet.bares (all_same (read_by c) (read_by d) reads others meet.labels)

  pub keys_equal : (p q v w : ℕ) (key : List ℕ) → target_at flat.cells p ≡ Some v → target_at flat.cells q ≡ Some w
      → slice_get (map (cell_key of) flat.cells) p ≡ Some key → slice_get (map (cell_key of) flat.cells) q ≡ Some key → Same flat v w
  keys_equal p q v w key at to here there =
      let one = mapped_at (cell_key of) flat.cells p key here in
      let other = mapped_at (cell_key of) flat.cells q key there in
      cells_equal p q v w one.0 other.0 one.1 other.1 at to (one.2 ∙ sym other.2)

  pub cells_merged : (known : List Bool) (p q v w : ℕ) → target_at flat.cells p ≡ Some v → target_at flat.cells q ≡ Some w
      → KeysClash (map (cell_key of) flat.cells) (drop inputs of) p q → IsStep flat of known (Merge v w)
  cells_merged known p q v w at to clash =
      let one = driven_wire inputs flat.cells labels.sound.in_order p v at in
      let other = driven_wire inputs flat.cells labels.sound.in_order q w to in (
        keys_equal p q v w clash.key at to clash.one clash.other,
        λ e. clash.apart (label_there p ∙ ap (label_of of) (sym one) ∙ e ∙ ap (label_of of) other ∙ sym (label_there q)),
      )

-- a marked wire is within the marks
marked_within : (known : List Bool) (w : ℕ) → mark_of known w ≡ true → w < length known
marked_within known w m = elim (cases_lt w (length known)) [
  | inl l ↦ l
  | inr l ↦ absurd (false≢true (sym (get_or_past known w false l) ∙ m))
]

-- marked wires with the same bits are equal
pub marked_equal : (flat : Flat) (of : List ℕ) (known : List Bool) (values : List (List Bool)) → AreFound flat of known values
    → (v w : ℕ) → mark_of known v ≡ true → mark_of known w ≡ true → bits_in values v ≡ bits_in values w → Same flat v w
marked_equal flat of known values found v w m k e =
    equal_bits v w (bits_in values v) (found.bits v m) (subst (λ bits. IsKnown flat w bits) (sym e) (found.bits w k))

module _ (flat : Flat) (of : List ℕ) (known : List Bool) (values : List (List Bool)) (found : AreFound flat of known values)
    (wires : List ℕ) (are : AreMarked known (length flat.widths) wires) where
  abbrev key : ℕ → List ℕ
  key w = known_key (bits_in values w)

  known_there : (i w : ℕ) → slice_get wires i ≡ Some w → slice_get (map key wires) i ≡ Some (key w)
  known_there i w at = slice_get-map key wires i ∙ ap (option_map key) at

  -- the label of a marked wire
  label_at : (i w : ℕ) → slice_get wires i ≡ Some w → label_of (map (label_of of) wires) i ≡ label_of of w
  label_at i w at =
      get_or_from_slice_get (map (label_of of) wires) i (label_of of w) 0 (slice_get-map (label_of of) wires i ∙ ap (option_map (label_of of)) at)

  -- a marked wire has bits
  pub marked_shown : (i w : ℕ) → slice_get wires i ≡ Some w → w < length values
  marked_shown i w at =
      let count = shown_count flat values found.shown in
      let l = are.below i w at in
      omega (arith, l, count)

  pub bits_hold : KeysAgree (map key wires) (map (label_of of) wires) → BitsHold of known values
  bits_hold agree = λ v w m k e.
      let size = found.count in
      let first : v < length flat.widths = let l = marked_within known v m in omega (arith, l, size) in
      let second : w < length flat.widths = let l = marked_within known w k in omega (arith, l, size) in
      let one = are.each v first m in
      let other = are.each w second k in
      let meets : slice_get (map key wires) other.0 ≡ Some (key v) = known_there other.0 w other.1 ∙ ap Some (ap known_key (sym e)) in
      sym (label_at one.0 v one.1) ∙ agree one.0 other.0 (key v) (known_there one.0 v one.1) meets ∙ label_at other.0 w other.1

  -- a place of a key is one of a wire
  pub place_within : (i : ℕ) (name : List ℕ) → slice_get (map key wires) i ≡ Some name → i < length wires
  place_within i name at =
      let count = length-map wires key in
      let l = slice_get_within (map key wires) i name at in
      omega (arith, count, l)

  -- a clash of what was written as these keys and labels
  pub clash_there : (names : List (List ℕ)) (others : List ℕ) (i j : ℕ) → names ≡ map key wires → others ≡ map (label_of of) wires
      → KeysClash names others i j → KeysClash (map key wires) (map (label_of of) wires) i j
  clash_there names others i j e f clash =
      subst (λ l. KeysClash (map key wires) l i j) f (subst (λ k. KeysClash k others i j) e clash)

  pub agree_there : (names : List (List ℕ)) (others : List ℕ) → names ≡ map key wires → others ≡ map (label_of of) wires
      → KeysAgree names others → KeysAgree (map key wires) (map (label_of of) wires)
  agree_there names others e f agree = subst (KeysAgree (map key wires)) f (subst (λ k. KeysAgree k others) e agree)

  pub bits_merged : (i j v w : ℕ) → slice_get wires i ≡ Some v → slice_get wires j ≡ Some w
      → KeysClash (map key wires) (map (label_of of) wires) i j → IsStep flat of known (Merge v w)
  bits_merged i j v w at to clash =
      let one : key v ≡ clash.key = same_Some (key v) clash.key (sym (known_there i v at) ∙ clash.one) in
      let other : key w ≡ clash.key = same_Some (key w) clash.key (sym (known_there j w to) ∙ clash.other) in
      let same : bits_in values v ≡ bits_in values w = bits_apart (bits_in values v) (bits_in values w) (ap rest_of (one ∙ sym other)) in (
        marked_equal flat of known values found v w (are.marked i v at) (are.marked j w to) same,
        λ e. clash.apart (label_at i v at ∙ e ∙ sym (label_at j w to)),
      )
