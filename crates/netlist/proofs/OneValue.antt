-- A wire of a sound net has at most one value at a history.
use Rattle.std.proofs.Common.{◌≡◌, ℕ, ◌<◌, ◌≤◌, Bool, true, false, List, [], ◌∷◌, length, Some, None, slice_get, ◌⊎◌, inl, inr, refl, ap, sym, subst, ◌∙◌, arith}
use Rattle.std.specs.Prelude.{option_and_then}
use Rattle.chw_base.specs.declared.index.DomId.{DomId}
use Rattle.chw_base.specs.declared.index.WireId.{WireId}
use Rattle.chw_bits.specs.Bits.{number_of}
use Rattle.chw_clock.specs.Histories.{before, taken}
use Rattle.chw_clock.specs.declared.event.Event.{Event}
use Rattle.netlist.specs.Feeds.{target}
use Rattle.netlist.specs.NetValue.{Memory, NetValue, ReadValues, WordAt, writes, zeros}
use Rattle.netlist.specs.NetValue.NetValue.{input, operated, first, later, unread, outside, shown}
use Rattle.netlist.specs.NetValue.ReadValues.{read_none, read_and}
use Rattle.netlist.specs.NetValue.WordAt.{unwritten, written, kept}
use Rattle.netlist.specs.Operators.{KeepsNothing, operator}
use Rattle.netlist.specs.Sound.{Sound}
use Rattle.netlist.specs.Wires.{read_by}
use Rattle.netlist.specs.declared.net.Cell.{Cell}
use Rattle.netlist.specs.declared.net.Cell.TheVariants.{Reg, Ram, Use}
use Rattle.netlist.specs.declared.net.Flat.{Flat}
use Rattle.netlist.proofs.Driven.{each_driven_once}

-- the input has these bits in the present event
abbrev InputOf : List Event → ℕ → List Bool → Type 0
InputOf [] w bits = ⊥
InputOf (present ∷ past) w bits = slice_get present.inputs w ≡ Some bits

-- what a cell that keeps nothing gives
abbrev OperatedOf : Flat → List Event → Cell → List Bool → Type 0
OperatedOf flat h cell bits = (values : List (List Bool)) × ReadValues flat h (read_by cell) values × (bits ≡ operator cell values)

-- what a register shows
abbrev RegisterOf : Flat → List Event → WireId → DomId → List Bool → List Bool → Type 0
RegisterOf flat h a domain initial bits =
    ((taken h domain ≡ None) × (bits ≡ initial))
    ⊎ ((past : List Event) × (taken h domain ≡ Some past) × NetValue flat past a.number bits)

-- what a RAM shows, by the address that it read at the last tick
abbrev AddressedOf : Flat → ℕ → Memory → List Event → List Bool → List Bool → Type 0
AddressedOf flat w ram past address bits =
    ((length ram.words ≤ number_of address) × ((width : ℕ) × (slice_get flat.widths w ≡ Some width) × (bits ≡ zeros width)))
    ⊎ ((number_of address < length ram.words) × WordAt flat ram past (number_of address) bits)

abbrev RamOf : Flat → List Event → ℕ → Memory → List Bool → Type 0
RamOf flat h w ram bits =
    ((before h ram.domain ≡ None) × ((width : ℕ) × (slice_get flat.widths w ≡ Some width) × (bits ≡ zeros width)))
    ⊎ ((past : List Event) × (address : List Bool) × (before h ram.domain ≡ Some past) × NetValue flat past ram.inputs.read.number address × AddressedOf flat w ram past address bits)

-- what a wire's bits come from, by the cell that drives it
abbrev ValueOf : Flat → List Event → Cell → List Bool → Type 0
ValueOf flat h (Reg w domain initial a) bits = RegisterOf flat h a domain initial bits
ValueOf flat h (Ram w domain words inputs) bits = RamOf flat h w.number (record { domain = domain; words = words; inputs = inputs }) bits
ValueOf flat h (Use m reads drives) bits = ⊥
ValueOf flat h cell bits = OperatedOf flat h cell bits

-- the wire is an input with these bits, or a cell drives it that gives them
abbrev Comes : Flat → List Event → ℕ → List Bool → Type 0
Comes flat h w bits =
    ((w < length flat.ports.inputs) × InputOf h w bits)
    ⊎ ((place : ℕ) × (cell : Cell) × (slice_get flat.cells place ≡ Some cell) × (target cell ≡ Some w) × ValueOf flat h cell bits)

value_operated : (flat : Flat) (h : List Event) (cell : Cell) (bits : List Bool) → KeepsNothing cell → OperatedOf flat h cell bits → ValueOf flat h cell bits
value_operated flat h (Reg w domain initial a) bits keeps v = absurd keeps
value_operated flat h (Ram w domain words inputs) bits keeps v = absurd keeps
value_operated flat h (Use m reads drives) bits keeps v = absurd keeps
value_operated flat h _ bits keeps v = v

operated_value : (flat : Flat) (h : List Event) (cell : Cell) (bits : List Bool) → KeepsNothing cell → ValueOf flat h cell bits → OperatedOf flat h cell bits
operated_value flat h (Reg w domain initial a) bits keeps v = absurd keeps
operated_value flat h (Ram w domain words inputs) bits keeps v = absurd keeps
operated_value flat h (Use m reads drives) bits keeps v = absurd keeps
operated_value flat h _ bits keeps v = v

comes : (flat : Flat) (h : List Event) (w : ℕ) (bits : List Bool) → NetValue flat h w bits → Comes flat h w bits
comes flat _ _ _ (input w present past bits lt e) = inl (lt, e)
comes flat _ _ _ (operated cell w h values has keeps t reads) =
    inr (has.0, cell, has.1, t, value_operated flat h cell (operator cell values) keeps (values, reads, refl))
comes flat _ _ _ (first w a domain initial h has e) = inr (has.0, Reg w domain initial a, has.1, refl, inl (e, refl))
comes flat _ _ _ (later w a domain initial bits h past has e v) =
    inr (has.0, Reg w domain initial a, has.1, refl, inr (past, e, v))
comes flat _ _ _ (unread w ram width h has wide e) =
    inr (has.0, Ram w ram.domain ram.words ram.inputs, has.1, refl, inl (e, (width, wide, refl)))
comes flat _ _ _ (outside w ram width h past address has wide e v le) =
    inr (has.0, Ram w ram.domain ram.words ram.inputs, has.1, refl, inr (past, address, e, v, inl (le, (width, wide, refl))))
comes flat _ _ _ (shown w ram h past address bits has e v lt word) =
    inr (has.0, Ram w ram.domain ram.words ram.inputs, has.1, refl, inr (past, address, e, v, inr (lt, word)))

-- a cell of a sound net drives no input
drives_no_input : (flat : Flat) (place w : ℕ) (cell : Cell) → Sound flat → slice_get flat.cells place ≡ Some cell → target cell ≡ Some w → w < length flat.ports.inputs → ⊥
drives_no_input flat place w cell sound at t lt =
    let free = (each_driven_once flat sound).free place w (ap (λ c. option_and_then target c) at ∙ t) in omega arith

-- two cells of a sound net that drive one wire are one
same_cell : (flat : Flat) (p q w : ℕ) (c d : Cell) → Sound flat → slice_get flat.cells p ≡ Some c → target c ≡ Some w → slice_get flat.cells q ≡ Some d
    → target d ≡ Some w → c ≡ d
same_cell flat p q w c d sound at t at' t' =
    let e : p ≡ q = (each_driven_once flat sound).once p q w (ap (λ c. option_and_then target c) at ∙ t) (ap (λ c. option_and_then target c) at' ∙ t') in
    let f : slice_get flat.cells p ≡ slice_get flat.cells q = ap (slice_get flat.cells) e in cc

-- what another reading of the wire that this cell drives comes from
by_cell : (flat : Flat) (h : List Event) (place w : ℕ) (cell : Cell) (bits : List Bool) → Sound flat → slice_get flat.cells place ≡ Some cell
    → target cell ≡ Some w → NetValue flat h w bits → ValueOf flat h cell bits
by_cell flat h place w cell bits sound at t v = from (comes flat h w bits v)
  where
    from : Comes flat h w bits → ValueOf flat h cell bits
    from (inl i) = absurd (drives_no_input flat place w cell sound at t i.0)
    from (inr d) = subst (λ c. ValueOf flat h c bits) (same_cell flat d.0 place w d.1 cell sound d.2 d.3 at t) d.4

-- where one reading of a register's or RAM's input is known to be the only one, so is what it shows
register_once : (flat : Flat) (h past : List Event) (a : WireId) (domain : DomId) (initial bits b : List Bool) → taken h domain ≡ Some past
    → ((b : List Bool) → NetValue flat past a.number b → bits ≡ b) → RegisterOf flat h a domain initial b → bits ≡ b
register_once flat h past a domain initial bits b e rest (inl f) = absurd (cc)
register_once flat h past a domain initial bits b e rest (inr f) =
    let is : f.0 ≡ past = cc in rest b (subst (λ p. NetValue flat p a.number b) is f.2)

first_once : (flat : Flat) (h : List Event) (a : WireId) (domain : DomId) (initial b : List Bool) → taken h domain ≡ None
    → RegisterOf flat h a domain initial b → initial ≡ b
first_once flat h a domain initial b e (inl f) = sym f.1
first_once flat h a domain initial b e (inr f) = absurd (cc)

same_zeros : (flat : Flat) (w width : ℕ) (b : List Bool) → slice_get flat.widths w ≡ Some width
    → (n : ℕ) × (slice_get flat.widths w ≡ Some n) × (b ≡ zeros n) → zeros width ≡ b
same_zeros flat w width b wide z = let is : width ≡ z.0 = cc in ap zeros is ∙ sym z.2

unread_once : (flat : Flat) (h : List Event) (w width : ℕ) (ram : Memory) (b : List Bool)
    → slice_get flat.widths w ≡ Some width → before h ram.domain ≡ None → RamOf flat h w ram b → zeros width ≡ b
unread_once flat h w width ram b wide e (inl f) = same_zeros flat w width b wide f.1
unread_once flat h w width ram b wide e (inr f) = absurd (cc)

outside_once : (flat : Flat) (w width : ℕ) (ram : Memory) (past : List Event) (address b : List Bool)
    → slice_get flat.widths w ≡ Some width → length ram.words ≤ number_of address → AddressedOf flat w ram past address b → zeros width ≡ b
outside_once flat w width ram past address b wide le (inl f) = same_zeros flat w width b wide f.1
outside_once flat w width ram past address b wide le (inr f) = absurd (omega (arith, f.0))

shown_once : (flat : Flat) (w : ℕ) (ram : Memory) (past : List Event) (address bits b : List Bool)
    → number_of address < length ram.words → ((b : List Bool) → WordAt flat ram past (number_of address) b → bits ≡ b)
    → AddressedOf flat w ram past address b → bits ≡ b
shown_once flat w ram past address bits b lt rest (inl f) = absurd (omega (arith, f.0))
shown_once flat w ram past address bits b lt rest (inr f) = rest b f.1

-- a RAM's address at the last tick is known to be the only one
addressed : (flat : Flat) (h past : List Event) (w : ℕ) (ram : Memory) (address b : List Bool)
    → before h ram.domain ≡ Some past → ((b : List Bool) → NetValue flat past ram.inputs.read.number b → address ≡ b)
    → RamOf flat h w ram b → AddressedOf flat w ram past address b
addressed flat h past w ram address b e rest (inl f) = absurd (cc)
addressed flat h past w ram address b e rest (inr f) =
    let is : f.0 ≡ past = cc in
    let same : f.1 ≡ address = sym (rest f.1 (subst (λ p. NetValue flat p ram.inputs.read.number f.1) is f.3)) in
    subst (λ a. AddressedOf flat w ram past a b) same
    (subst (λ p. AddressedOf flat w ram p f.1 b) is f.4)

mutual
  pub one_value : (flat : Flat) → Sound flat → (h : List Event) (w : ℕ) (a b : List Bool) → NetValue flat h w a → NetValue flat h w b → a ≡ b
  one_value flat sound _ _ _ b (input w present past bits lt e) v = from (comes flat (present ∷ past) w b v)
    where
      from : Comes flat (present ∷ past) w b → bits ≡ b
      from (inl i) = cc
      from (inr d) = absurd (drives_no_input flat d.0 w d.1 sound d.2 d.3 lt)
  one_value flat sound _ _ _ b (operated cell w h values has keeps t reads) v =
      let other = operated_value flat h cell b keeps (by_cell flat h has.0 w cell b sound has.1 t v) in
      ap (operator cell) (one_reading flat sound h (read_by cell) values other.0 reads other.1) ∙ sym other.2
  one_value flat sound _ _ _ b (first w a domain initial h has e) v =
      first_once flat h a domain initial b e (by_cell flat h has.0 w.number (Reg w domain initial a) b sound has.1 refl v)
  one_value flat sound _ _ _ b (later w a domain initial bits h past has e u) v =
      register_once flat h past a domain initial bits b e (λ b v. one_value flat sound past a.number bits b u v)
      (by_cell flat h has.0 w.number (Reg w domain initial a) b sound has.1 refl v)
  one_value flat sound _ _ _ b (unread w ram width h has wide e) v =
      unread_once flat h w.number width ram b wide e (by_cell flat h has.0 w.number (Ram w ram.domain ram.words ram.inputs) b sound has.1 refl v)
  one_value flat sound _ _ _ b (outside w ram width h past address has wide e u le) v =
      outside_once flat w.number width ram past address b wide le
      (addressed flat h past w.number ram address b e (λ b v. one_value flat sound past ram.inputs.read.number address b u v)
      (by_cell flat h has.0 w.number (Ram w ram.domain ram.words ram.inputs) b sound has.1 refl v))
  one_value flat sound _ _ _ b (shown w ram h past address bits has e u lt word) v =
      shown_once flat w.number ram past address bits b lt
      (λ b v. one_word flat sound ram past (number_of address) bits b word v)
      (addressed flat h past w.number ram address b e (λ b v. one_value flat sound past ram.inputs.read.number address b u v)
      (by_cell flat h has.0 w.number (Ram w ram.domain ram.words ram.inputs) b sound has.1 refl v))

  one_reading : (flat : Flat) → Sound flat → (h : List Event) (wires : List WireId) (xs ys : List (List Bool)) → ReadValues flat h wires xs → ReadValues flat h wires ys → xs ≡ ys
  one_reading flat sound _ _ _ ys (read_none h) v = none ys v
    where
      none : (ys : List (List Bool)) → ReadValues flat h [] ys → [] ≡ ys
      none _ (read_none h) = refl
  one_reading flat sound _ _ _ ys (read_and h w wires bits values u us) v =
      each ys v (λ b v. one_value flat sound h w.number bits b u v) (λ ys v. one_reading flat sound h wires values ys us v)
    where
      each : (ys : List (List Bool)) → ReadValues flat h (w ∷ wires) ys → ((b : List Bool) → NetValue flat h w.number b → bits ≡ b)
          → ((ys : List (List Bool)) → ReadValues flat h wires ys → values ≡ ys) → bits ∷ values ≡ ys
      each _ (read_and _ _ _ b ys v vs) head tail = ap (λ x. x ∷ values) (head b v) ∙ ap (λ xs. b ∷ xs) (tail ys vs)

  one_word : (flat : Flat) → Sound flat → (ram : Memory) (h : List Event) (address : ℕ) (a b : List Bool)
      → WordAt flat ram h address a → WordAt flat ram h address b → a ≡ b
  one_word flat sound _ _ _ _ b (unwritten ram h address bits e at) v = from v
    where
      from : WordAt flat ram h address b → bits ≡ b
      from (unwritten _ _ _ _ e' at') = cc
      from (written _ _ past _ _ _ _ e' on p t x) = absurd (cc)
      from (kept _ _ past _ _ _ _ e' on p t x) = absurd (cc)
  one_word flat sound _ _ _ _ b (written ram h past address enable place bits e on at t value) v =
      from b v (λ b v. one_value flat sound past ram.inputs.enable.number enable b on v) (λ b v. one_value flat sound past ram.inputs.place.number place b at v)
      (λ b v. one_value flat sound past ram.inputs.value.number bits b value v)
    where
      from : (b : List Bool) → WordAt flat ram h address b → ((b : List Bool) → NetValue flat past ram.inputs.enable.number b → enable ≡ b)
          → ((b : List Bool) → NetValue flat past ram.inputs.place.number b → place ≡ b) → ((b : List Bool) → NetValue flat past ram.inputs.value.number b → bits ≡ b) → bits ≡ b
      from _ (unwritten _ _ _ _ e' at') o p w = absurd (cc)
      from b (written _ _ past' _ _ _ _ e' on' at' t' x) o p w = let is : past' ≡ past = cc in w b (subst (λ p. NetValue flat p ram.inputs.value.number b) is x)
      from _ (kept _ _ past' _ enable' place' _ e' on' at' t' x) o p w =
          let is : past' ≡ past = cc in
          let same_on : enable ≡ enable' = o enable' (subst (λ p. NetValue flat p ram.inputs.enable.number enable') is on') in
          let same_at : place ≡ place' = p place' (subst (λ p. NetValue flat p ram.inputs.place.number place') is at') in
          absurd (let no : writes enable place address ≡ false = ap (λ o. writes o place address) same_on ∙ ap (λ p. writes enable' p address) same_at ∙ t' in cc)
  one_word flat sound _ _ _ _ b (kept ram h past address enable place bits e on at t word) v =
      from b v (λ b v. one_value flat sound past ram.inputs.enable.number enable b on v) (λ b v. one_value flat sound past ram.inputs.place.number place b at v)
      (λ b v. one_word flat sound ram past address bits b word v)
    where
      from : (b : List Bool) → WordAt flat ram h address b → ((b : List Bool) → NetValue flat past ram.inputs.enable.number b → enable ≡ b)
          → ((b : List Bool) → NetValue flat past ram.inputs.place.number b → place ≡ b) → ((b : List Bool) → WordAt flat ram past address b → bits ≡ b) → bits ≡ b
      from _ (unwritten _ _ _ _ e' at') o p w = absurd (cc)
      from b (kept _ _ past' _ _ _ _ e' on' at' t' x) o p w = let is : past' ≡ past = cc in w b (subst (λ p. WordAt flat ram p address b) is x)
      from _ (written _ _ past' _ enable' place' _ e' on' at' t' x) o p w =
          let is : past' ≡ past = cc in
          let same_on : enable ≡ enable' = o enable' (subst (λ p. NetValue flat p ram.inputs.enable.number enable') is on') in
          let same_at : place ≡ place' = p place' (subst (λ p. NetValue flat p ram.inputs.place.number place') is at') in
          absurd (let yes : writes enable place address ≡ true = ap (λ o. writes o place address) same_on ∙ ap (λ p. writes enable' p address) same_at ∙ t' in cc)
