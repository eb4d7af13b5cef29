-- In a flat net without a loop each wire has a value at each history.
use Rattle.std.proofs.Common.{◌≡◌, ℕ, zero, suc, ◌<◌, ◌≤◌, Bool, true, false, List, [], ◌∷◌, length, Option, Some, None, slice_get, ◌⊎◌, inl, inr, refl, ap, sym, subst, ◌∙◌, arith}
use Rattle.std.specs.Prelude.{option_and_then, option_map, slice_index}
use Rattle.std.specs.List.{AllByRecursion}
use Rattle.std.proofs.lemmas.Option.{slice_get_within}
use Rattle.std.proofs.lemmas.Bool.Decides.{leb_tells}
use Rattle.chw_base.specs.declared.index.DomId.{DomId}
use Rattle.chw_base.specs.declared.index.WireId.{WireId}
use Rattle.chw_bits.specs.Bits.{number_of}
use Rattle.chw_clock.specs.Histories.{FitsPorts, HaveWidths, before, taken}
use Rattle.chw_clock.specs.declared.event.Event.{Event}
use Rattle.chw_clock.specs.declared.event.Port.{Port}
use Rattle.netlist.specs.Feeds.{target, target_at, awaited, awaited_wire, awaited_at}
use Rattle.netlist.specs.NetValue.{HasCell, HasRam, HasValue, Memory, NetValue, ReadValues, WordAt, writes, zeros}
use Rattle.netlist.specs.NetValue.NetValue.{input, operated, first, later, unread, outside, shown}
use Rattle.netlist.specs.NetValue.ReadValues.{read_none, read_and}
use Rattle.netlist.specs.NetValue.WordAt.{unwritten, written, kept}
use Rattle.netlist.specs.Operators.{KeepsNothing, operator}
use Rattle.netlist.specs.Orders.{OrdersCells}
use Rattle.netlist.specs.Sound.{Sound, FitsCell, FitsRam, Fits1, Fits2, HasWidth, IsWire}
use Rattle.netlist.specs.Wires.{read_by}
use Rattle.netlist.specs.declared.net.Cell.{Cell}
use Rattle.netlist.specs.declared.net.Cell.TheVariants.{Const, Copy, Join, Cut, Un, Bin, Mux, Reg, Ram, Use}
use Rattle.netlist.specs.declared.net.Flat.{Flat}
use Rattle.netlist.specs.declared.net.Op1.{Op1}
use Rattle.netlist.specs.declared.net.Op1.TheVariants.{Not}
use Rattle.netlist.specs.declared.net.Op2.{Op2}
use Rattle.netlist.specs.declared.net.Op2.TheVariants.{Add, Sub, Mul, And, Or, Xor, Eq, LtU, LtS}
use Rattle.netlist.proofs.Before.{before_fits, before_shorter, taken_fits, taken_shorter}
use Rattle.netlist.proofs.Driven.{each_driven_once}
use Rattle.netlist.proofs.Lengths.{fits_cell, value_width}
use Rattle.netlist.proofs.Places.{cell_there}

-- every wire has a value at every shorter history of the ports
abbrev ShorterHave : Flat → ℕ → Type 0
ShorterHave flat n = (past : List Event) → length past < n → FitsPorts flat.ports past → (w : ℕ) → w < length flat.widths → HasValue flat past w

-- the wire has bits
abbrev Has : Flat → List Event → ℕ → Type 0
Has flat h w = (bits : List Bool) × NetValue flat h w bits

-- so have wires that each have a value
read_all : (flat : Flat) (h : List Event) (wires : List WireId) → ((k v : ℕ) → option_map (λ w. w.number) (slice_get wires k) ≡ Some v → HasValue flat h v)
    → (values : List (List Bool)) × ReadValues flat h wires values
read_all flat h [] waits = ([], read_none h)
read_all flat h (w ∷ wires) waits =
    let v = waits 0 w.number refl in
    let rest = read_all flat h wires (λ k v e. waits (suc k) v e) in
    (v.bits ∷ rest.0, read_and h w wires v.bits rest.0 v.value rest.1)

operated_value : (flat : Flat) (h : List Event) (cell : Cell) (w : ℕ) → HasCell flat cell → KeepsNothing cell → target cell ≡ Some w
    → ((k v : ℕ) → option_map (λ w. w.number) (slice_get (read_by cell) k) ≡ Some v → HasValue flat h v) → Has flat h w
operated_value flat h cell w has keeps t waits =
    let reads = read_all flat h (read_by cell) waits in (operator cell reads.0, operated cell w h reads.0 has keeps t reads.1)

-- a register has a value
register_value : (flat : Flat) (w a : WireId) (domain : DomId) (initial : List Bool) (h : List Event) → HasCell flat (Reg w domain initial a)
    → FitsPorts flat.ports h → ShorterHave flat (length h) → a.number < length flat.widths → (past : Option (List Event)) → taken h domain ≡ past
    → Has flat h w.number
register_value flat w a domain initial h has fits shorter within None e = (initial, first w a domain initial h has e)
register_value flat w a domain initial h has fits shorter within (Some past) e =
    let v = shorter past (taken_shorter flat.ports h past domain fits e) (taken_fits flat.ports h past domain fits e) a.number within in
    (v.bits, later w a domain initial v.bits h past has e v.value)

item_at : {X : Type 0} (xs : List X) (k : ℕ) → k < length xs → (x : X) × (slice_get xs k ≡ Some x)
item_at [] k lt = absurd (omega arith)
item_at (x ∷ xs) zero lt = (x, refl)
item_at (x ∷ xs) (suc k) lt = item_at xs k (omega arith)

module _ (flat : Flat) (ram : Memory) (limit : ℕ) (shorter : ShorterHave flat limit) (on_wire : ram.inputs.enable.number < length flat.widths)
    (at_wire : ram.inputs.place.number < length flat.widths) (value_wire : ram.inputs.value.number < length flat.widths) where
  -- the word at an address, by what the RAM did at the tick before
  changed_word : (h past : List Event) (address : ℕ) → before h ram.domain ≡ Some past → HasValue flat past ram.inputs.enable.number
      → HasValue flat past ram.inputs.place.number → HasValue flat past ram.inputs.value.number
      → ((bits : List Bool) × WordAt flat ram past address bits) → (bits : List Bool) × WordAt flat ram h address bits
  changed_word h past address e on at value word = by_write (writes on.bits at.bits address) refl
    where
      by_write : (b : Bool) → writes on.bits at.bits address ≡ b → (bits : List Bool) × WordAt flat ram h address bits
      by_write true t = (value.bits, written ram h past address on.bits at.bits value.bits e on.value at.value t value.value)
      by_write false t = (word.0, kept ram h past address on.bits at.bits word.0 e on.value at.value t word.1)

  -- each address of the words has one
  word_value : (n : ℕ) (h : List Event) (address : ℕ) → length h ≤ n → length h < limit → FitsPorts flat.ports h → address < length ram.words
      → (past : Option (List Event)) → before h ram.domain ≡ past → (bits : List Bool) × WordAt flat ram h address bits
  word_value n h address le lt fits within None e =
      let word = item_at ram.words address within in (word.0, unwritten ram h address word.0 e word.1)
  word_value zero h address le lt fits within (Some past) e =
      absurd (let less = before_shorter flat.ports h past ram.domain fits e in omega (arith, less))
  word_value (suc n) h address le lt fits within (Some past) e =
      let less = before_shorter flat.ports h past ram.domain fits e in
      let past_fits = before_fits flat.ports h past ram.domain fits e in
      let has = shorter past (omega (arith, less)) past_fits in
      changed_word h past address e (has ram.inputs.enable.number on_wire) (has ram.inputs.place.number at_wire) (has ram.inputs.value.number value_wire)
      (word_value n past address (omega (arith, less)) (omega (arith, less)) past_fits within (before past ram.domain) refl)

le_or_less : (a b : ℕ) → (a ≤ b) ⊎ (b < a)
le_or_less a b = elim (leb_tells a b) [ inl le ↦ inl le.1 | inr less ↦ inr less.1 ]

-- a RAM has a value
ram_value : (flat : Flat) (w : WireId) (ram : Memory) (h : List Event) → HasRam flat w ram
    → FitsRam flat.widths w ram.words ram.inputs.read ram.inputs.enable ram.inputs.place ram.inputs.value → FitsPorts flat.ports h
    → ShorterHave flat (length h) → (past : Option (List Event)) → before h ram.domain ≡ past → Has flat h w.number
ram_value flat w ram h has cell fits shorter None e = (zeros cell.5.0, unread w ram cell.5.0 h has cell.5.1 e)
ram_value flat w ram h has cell fits shorter (Some past) e = by_address (le_or_less (length ram.words) (number_of read.bits))
  where
    less : length past < length h
    less = before_shorter flat.ports h past ram.domain fits e

    past_fits : FitsPorts flat.ports past
    past_fits = before_fits flat.ports h past ram.domain fits e

    is_wire : (v : WireId) (n : ℕ) → HasWidth flat.widths v n → v.number < length flat.widths
    is_wire v n wide = slice_get_within flat.widths v.number n wide

    read : HasValue flat past ram.inputs.read.number
    read = shorter past less past_fits ram.inputs.read.number (is_wire ram.inputs.read _ cell.2)

    by_address : (length ram.words ≤ number_of read.bits) ⊎ (number_of read.bits < length ram.words) → Has flat h w.number
    by_address (inl le) = (zeros cell.5.0, outside w ram cell.5.0 h past read.bits has cell.5.1 e read.value le)
    by_address (inr lt) =
        let word = word_value flat ram (length h) shorter (is_wire ram.inputs.enable 1 cell.3) (is_wire ram.inputs.place _ cell.4) (is_wire ram.inputs.value cell.5.0 cell.5.2) (length past) past (number_of read.bits) (omega arith) less past_fits lt (before past ram.domain) refl in
        (word.0, shown w ram h past read.bits word.0 has e read.value lt word.1)

-- the wire that a cell drives has a value, where every wire that it waits for has
cell_value : (flat : Flat) (h : List Event) (cell : Cell) (w : ℕ) → HasCell flat cell → FitsCell (length flat.ports.domains) flat.widths cell
    → target cell ≡ Some w → FitsPorts flat.ports h → ShorterHave flat (length h) → ((k v : ℕ) → awaited_wire cell k ≡ Some v → HasValue flat h v)
    → Has flat h w
cell_value flat h (Reg x domain initial a) w has cell t fits shorter waits =
    let is : x.number ≡ w = cc in
    subst (λ w. Has flat h w) is
    (register_value flat x a domain initial h has fits shorter (slice_get_within flat.widths a.number (length initial) cell.2) (taken h domain) refl)
cell_value flat h (Ram x domain words inputs) w has cell t fits shorter waits =
    let is : x.number ≡ w = cc in
    subst (λ w. Has flat h w) is
    (ram_value flat x (record { domain = domain; words = words; inputs = inputs }) h has cell.1 fits shorter (before h domain) refl)
cell_value flat h (Use m reads drives) w has cell t fits shorter waits = absurd cell
cell_value flat h cell w has fits_cell t fits shorter waits = operated_value flat h cell w has tt t waits

-- the wires that an operator reads exist
fits1_wires : (widths : List ℕ) (op : Op1) (w a : WireId) → Fits1 widths op w a → IsWire widths a
fits1_wires widths Not w a fits = slice_get_within widths a.number fits.0 fits.2
fits1_wires widths _ w a fits = fits.1

both : (widths : List ℕ) (a b : WireId) (n : ℕ) → HasWidth widths a n → HasWidth widths b n → IsWire widths a × IsWire widths b
both widths a b n x y = (slice_get_within widths a.number n x, slice_get_within widths b.number n y)

fits2_wires : (widths : List ℕ) (op : Op2) (w a b : WireId) → Fits2 widths op w a b → IsWire widths a × IsWire widths b
fits2_wires widths Add w a b fits = both widths a b fits.0 fits.3 fits.4
fits2_wires widths Sub w a b fits = both widths a b fits.0 fits.3 fits.4
fits2_wires widths Mul w a b fits = both widths a b fits.0 fits.3 fits.4
fits2_wires widths And w a b fits = both widths a b fits.0 fits.2 fits.3
fits2_wires widths Or w a b fits = both widths a b fits.0 fits.2 fits.3
fits2_wires widths Xor w a b fits = both widths a b fits.0 fits.2 fits.3
fits2_wires widths Eq w a b fits = both widths a b fits.1.0 fits.1.1 fits.1.2
fits2_wires widths LtU w a b fits = both widths a b fits.1.0 fits.1.1 fits.1.2
fits2_wires widths LtS w a b fits = both widths a b fits.1.0 fits.1.1 fits.1.2
fits2_wires widths _ w a b fits = (slice_get_within widths a.number fits.1.0 fits.1.2, fits.0)

-- what a cell waits for are wires
awaited_wires : (domains : ℕ) (widths : List ℕ) (cell : Cell) → FitsCell domains widths cell → AllByRecursion (IsWire widths) (awaited cell)
awaited_wires domains widths (Const w bits) fits = tt
awaited_wires domains widths (Copy w a) fits = (slice_get_within widths a.number fits.0 fits.2, tt)
awaited_wires domains widths (Join w parts) fits = fits.0
awaited_wires domains widths (Cut w a high low) fits = (slice_get_within widths a.number fits.2.0 fits.2.2, tt)
awaited_wires domains widths (Un w op a) fits = (fits1_wires widths op w a fits, tt)
awaited_wires domains widths (Bin w op a b) fits = let is = fits2_wires widths op w a b fits in (is.0, (is.1, tt))
awaited_wires domains widths (Mux w c a b) fits =
    let is = both widths a b fits.1.0 fits.1.2 fits.1.3 in (slice_get_within widths c.number 1 fits.0, (is.0, (is.1, tt)))
awaited_wires domains widths (Reg w domain initial a) fits = tt
awaited_wires domains widths (Ram w domain words inputs) fits = tt
awaited_wires domains widths (Use m reads drives) fits = absurd fits

wire_at : (widths : List ℕ) (wires : List WireId) (k v : ℕ) → AllByRecursion (IsWire widths) wires → option_map (λ w. w.number) (slice_get wires k) ≡ Some v
    → v < length widths
wire_at widths [] k v all e = absurd (cc)
wire_at widths (w ∷ wires) zero v all e = let is : w.number ≡ v = cc in subst (λ v. v < length widths) is all.0
wire_at widths (w ∷ wires) (suc k) v all e = wire_at widths wires k v all.1 e

input_at : (ports : List Port) (inputs : List (List Bool)) (w : ℕ) → HaveWidths ports inputs → w < length ports → (bits : List Bool) × (slice_get inputs w ≡ Some bits)
input_at [] inputs w h lt = absurd (omega arith)
input_at (p ∷ ports) [] w h lt = absurd h
input_at (p ∷ ports) (bits ∷ inputs) zero h lt = (bits, refl)
input_at (p ∷ ports) (bits ∷ inputs) (suc w) h lt = input_at ports inputs w h.1 (omega arith)

-- a value of a wire has its width
has_value : (flat : Flat) (h : List Event) (w : ℕ) → Sound flat → FitsPorts flat.ports h → Has flat h w → HasValue flat h w
has_value flat h w sound fits v = record { bits = v.0; value = v.1; width = value_width flat sound h w v.0 fits v.1 }

module _ (flat : Flat) (places : List ℕ) (sound : Sound flat) (order : OrdersCells flat.cells places)
    (present : Event) (events : List Event) (fits : FitsPorts flat.ports (present ∷ events)) (shorter : ShorterHave flat (length (present ∷ events))) where
  abbrev h : List Event
  h = present ∷ events

  input_value : (w : ℕ) → w < length flat.ports.inputs → HasValue flat h w
  input_value w lt =
      let i = input_at flat.ports.inputs present.inputs w fits.0.inputs lt in
      has_value flat h w sound fits (i.0, input w present events i.0 lt i.1)

  -- a wire has a value, where the one of a cell that drives it has
  wire_value : (v : ℕ) → v < length flat.widths → ((place : ℕ) → target_at flat.cells place ≡ Some v → HasValue flat h v) → HasValue flat h v
  wire_value v lt driven = elim (leb_tells (length flat.ports.inputs) v) [
    | inl le ↦ (let d = (each_driven_once flat sound).driven v le.1 lt in driven d.0 d.1)
    | inr less ↦ input_value v less.1
  ]

  -- the wire of each of the first cells of the order has a value
  ordered_value : (n j w : ℕ) → j < n → j < length places → target_at flat.cells (slice_index places j) ≡ Some w → HasValue flat h w
  ordered_value zero j w lt within t = absurd (omega arith)
  ordered_value (suc n) j w lt within t =
      let there = cell_there flat.cells (slice_index places j) w t in
      let cell = fits_cell flat there.0 sound (slice_index places j, there.1) in
      has_value flat h w sound fits
      (cell_value flat h there.0 w (slice_index places j, there.1) cell there.2 fits shorter
      (λ k v e. wire_value v (wire_at flat.widths (awaited there.0) k v (awaited_wires (length flat.ports.domains) flat.widths there.0 cell) e)
      (λ place drives.
      let awaits : awaited_at flat.cells (slice_index places j) k ≡ Some v = ap (λ c. option_and_then (λ cell. awaited_wire cell k) c) there.1 ∙ e in
      let earlier = order.after j k v place within awaits drives in
      ordered_value n earlier.0 v (omega (arith, earlier.1)) (omega (arith, earlier.1))
      (subst (λ p. target_at flat.cells p ≡ Some v) (sym earlier.2) drives))))

  present_value : (w : ℕ) → w < length flat.widths → HasValue flat h w
  present_value w lt =
      wire_value w lt (λ place drives.
      let there = cell_there flat.cells place w drives in
      let at = order.all place (slice_get_within flat.cells place there.0 there.1) in
      ordered_value (suc at.0) at.0 w (omega arith) at.1 (subst (λ p. target_at flat.cells p ≡ Some w) (sym at.2) drives))

values_to : (flat : Flat) (places : List ℕ) → Sound flat → OrdersCells flat.cells places → (n : ℕ) (h : List Event) → length h ≤ n
    → FitsPorts flat.ports h → (w : ℕ) → w < length flat.widths → HasValue flat h w
values_to flat places sound order n [] le fits w lt = absurd fits
values_to flat places sound order zero (present ∷ events) le fits w lt = absurd (omega arith)
values_to flat places sound order (suc n) (present ∷ events) le fits w lt =
    present_value flat places sound order present events fits
    (λ past less f v within. values_to flat places sound order n past (omega arith) f v within) w lt

-- in a net with an order each wire has a value of its width at each history of the ports
pub every_value : (flat : Flat) (places : List ℕ) → Sound flat → OrdersCells flat.cells places → (h : List Event) → FitsPorts flat.ports h
    → (w : ℕ) → w < length flat.widths → HasValue flat h w
every_value flat places sound order h fits w lt = values_to flat places sound order (length h) h (omega arith) fits w lt
