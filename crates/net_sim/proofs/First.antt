-- A table before any event stands for no past.
use Rattle.std.proofs.Common.{◌≡◌, ℕ, zero, suc, ◌<◌, ◌≤◌, Bool, List, [], ◌∷◌, length, map, get_or, replicate, Some, slice_get, ◌⊎◌, inl, inr, refl, sym, ap, subst, ◌∙◌, arith}
use Rattle.std.specs.Prelude.{slice_index_or}
use Rattle.std.proofs.lemmas.Bool.{cases_lt}
use Rattle.std.proofs.lemmas.List.{get_or-map, length-map}
use Rattle.std.proofs.lemmas.Option.{get_or_from_slice_get, slice_get-get_or, slice_get_within}
use Rattle.chw_base.specs.declared.index.WireId.{WireId}
use Rattle.chw_bits.specs.Bits.{bits_of}
use Rattle.chw_bits.proofs.Numbers.{length-bits_of}
use Rattle.netlist.proofs.Places.{all_at, cell_there}
use Rattle.netlist.specs.Feeds.{target}
use Rattle.netlist.specs.NetValue.{HasCell, HasRam, Memory, NetValue, WordAt, zeros}
use Rattle.netlist.specs.NetValue.NetValue.{first, unread}
use Rattle.netlist.specs.NetValue.WordAt.{unwritten}
use Rattle.netlist.specs.Sound.{FitsCell, HasWidth, Sound}
use Rattle.netlist.specs.declared.net.Cell.{Cell}
use Rattle.netlist.specs.declared.net.Cell.TheVariants.{Const, Reg, Ram}
use Rattle.netlist.specs.declared.net.Flat.{Flat}
use Rattle.net_sim.specs.Opening.{IsRam, IsStarted, initial_bits, initial_words}
use Rattle.net_sim.specs.Stepping.{StandsFor}
use Rattle.net_sim.specs.Steps.{HaveConstants}
use Rattle.net_sim.specs.Tables.{value_in}
use Rattle.net_sim.specs.Ticking.{HaveSizes, MemoriesFit, WrittenBefore}
use Rattle.net_sim.proofs.Cells.{cell_fits, driven_once, drives_no_input, same_cell}
use Rattle.net_sim.proofs.Wiring.{is_wire, wire_width}

pub started_cases : (cell : Cell) → IsStarted cell ⊎ (IsStarted cell → ⊥)
started_cases (Const w bits) = inl tt
started_cases (Reg w domain initial a) = inl tt
started_cases _ = inr (λ is. is)

pub ram_cases : (cell : Cell) → IsRam cell ⊎ (IsRam cell → ⊥)
ram_cases (Ram w domain words inputs) = inl tt
ram_cases _ = inr (λ is. is)

pub started_there : (domains size : ℕ) (widths : List ℕ) (cell : Cell) → FitsCell domains widths cell → length widths ≡ size
    → IsStarted cell → (w : ℕ) × (target cell ≡ Some w) × (w < size)
started_there domains size widths (Const w bits) fits count is =
    let there = is_wire widths w _ fits in (w.number, refl, omega (arith, there))
started_there domains size widths (Reg w domain initial a) fits count is =
    let there = is_wire widths w _ fits.1 in (w.number, refl, omega (arith, there))
started_there domains size widths _ fits count is = absurd is

pub ram_there : (domains size : ℕ) (widths : List ℕ) (cell : Cell) → FitsCell domains widths cell → length widths ≡ size
    → IsRam cell → (w : ℕ) × (target cell ≡ Some w) × (w < size)
ram_there domains size widths (Ram w domain words inputs) fits count is =
    let there = is_wire widths w _ fits.1.5.1 in (w.number, refl, omega (arith, there))
ram_there domains size widths _ fits count is = absurd is

-- before any event nothing is in the memories but what was loaded
nothing_there : (n w : ℕ) → get_or (replicate n (let none : List (List Bool) = [] in none)) w [] ≡ []
nothing_there zero w = refl
nothing_there (suc n) zero = refl
nothing_there (suc n) (suc w) = nothing_there n w

not_both : (w : WireId) (ram : Memory) (cell : Cell) → cell ≡ Ram w ram.domain ram.words ram.inputs → IsStarted cell → ⊥
not_both w ram cell is started = subst IsStarted is started

-- the words of a memory that was loaded for a wire
loaded : (flat : Flat) (memories : List (List (List Bool))) → Sound flat
    → WrittenBefore (List (List Bool)) [] IsRam (λ w cell old. initial_words cell) flat (replicate (length flat.widths) []) memories (length flat.cells)
    → HaveSizes flat memories
loaded flat memories sound load = λ w ram has.
    ap length (load.items has.0 w.number (Ram w ram.domain ram.words ram.inputs) (slice_get_within flat.cells has.0 _ has.1) has.1 tt refl)

pub stands_first : (flat : Flat) (table : List (List Bool)) (memories : List (List (List Bool))) → Sound flat
    → WrittenBefore (List Bool) [] IsStarted (λ w cell old. initial_bits cell) flat (map (λ n. bits_of n 0) flat.widths) table (length flat.cells)
    → WrittenBefore (List (List Bool)) [] IsRam (λ w cell old. initial_words cell) flat (replicate (length flat.widths) []) memories (length flat.cells)
    → StandsFor flat table memories []
stands_first flat table memories sound started load = record {
  registers = λ present w a domain initial has.
      subst (NetValue flat (present ∷ []) w.number)
      (sym (started.items has.0 w.number (Reg w domain initial a) (slice_get_within flat.cells has.0 _ has.1) has.1 tt refl))
      (first w a domain initial (present ∷ []) has refl);
  rams = λ present w ram has.
      let wide = (cell_fits flat (Ram w ram.domain ram.words ram.inputs) sound has).1.5 in
      let there = is_wire flat.widths w wide.0 wide.1 in
      let shown : value_in table w.number ≡ zeros wide.0 =
      started.others w.number
      (λ j cell lt at is t. not_both w ram cell (same_cell flat w.number cell (Ram w ram.domain ram.words ram.inputs) sound (j, at) t has refl) is)
      ∙ get_or-map (λ n. bits_of n 0) flat.widths w.number 0 [] there
      ∙ ap zeros (get_or_from_slice_get flat.widths w.number wide.0 0 wide.1) in
      subst (NetValue flat (present ∷ []) w.number) (sym shown) (unread w ram wide.0 (present ∷ []) has wide.1 refl);
  words = λ present w ram address has lt.
      let is = load.items has.0 w.number (Ram w ram.domain ram.words ram.inputs) (slice_get_within flat.cells has.0 _ has.1) has.1 tt refl in
      subst (WordAt flat ram (present ∷ []) address) (sym (ap (λ m. value_in m address) is))
      (unwritten ram (present ∷ []) address (value_in ram.words address) refl (slice_get-get_or ram.words address [] lt));
}

-- the wires of constants have their bits
pub constants_first : (flat : Flat) (table : List (List Bool))
    → WrittenBefore (List Bool) [] IsStarted (λ w cell old. initial_bits cell) flat (map (λ n. bits_of n 0) flat.widths) table (length flat.cells)
    → HaveConstants flat table
constants_first flat table started = λ w bits has.
    started.items has.0 w.number (Const w bits) (slice_get_within flat.cells has.0 _ has.1) has.1 tt refl

pub sizes_first : (flat : Flat) (memories : List (List (List Bool))) → Sound flat
    → WrittenBefore (List (List Bool)) [] IsRam (λ w cell old. initial_words cell) flat (replicate (length flat.widths) []) memories (length flat.cells)
    → HaveSizes flat memories
sizes_first flat memories sound load = loaded flat memories sound load

-- a RAM drives the wire, or none does
ram_drives : (flat : Flat) (w : ℕ) → Sound flat
    → ((v : WireId) × (ram : Memory) × HasRam flat v ram × (v.number ≡ w))
    ⊎ ((j : ℕ) (cell : Cell) → j < length flat.cells → slice_get flat.cells j ≡ Some cell → IsRam cell → target cell ≡ Some w → ⊥)
ram_drives flat w sound = from (cases_lt w (length flat.ports.inputs)) (cases_lt w (length flat.widths))
  where
    by_cell : (cell : Cell) → HasCell flat cell → target cell ≡ Some w
        → ((v : WireId) × (ram : Memory) × HasRam flat v ram × (v.number ≡ w))
        ⊎ ((j : ℕ) (cell : Cell) → j < length flat.cells → slice_get flat.cells j ≡ Some cell → IsRam cell → target cell ≡ Some w → ⊥)
    by_cell (Ram v domain words inputs) has t = inl (v, (record { domain = domain; words = words; inputs = inputs }), has, cc)
    by_cell cell has t = inr (λ j other lt at is t'. subst IsRam (same_cell flat w other cell sound (j, at) t' has t) is)

    from : (w < length flat.ports.inputs) ⊎ (length flat.ports.inputs ≤ w) → (w < length flat.widths) ⊎ (length flat.widths ≤ w)
        → ((v : WireId) × (ram : Memory) × HasRam flat v ram × (v.number ≡ w))
        ⊎ ((j : ℕ) (cell : Cell) → j < length flat.cells → slice_get flat.cells j ≡ Some cell → IsRam cell → target cell ≡ Some w → ⊥)
    from (inl below) size = inr (λ j cell lt at is t. drives_no_input flat w cell sound (j, at) t below)
    from (inr above) (inl within) =
        let driver = (driven_once flat sound).driven w above within in
        let there = cell_there flat.cells driver.0 w driver.1 in
        by_cell there.0 (driver.0, there.1) there.2
    from (inr above) (inr beyond) = inr (λ j cell lt at is t.
        let fits = cell_fits flat cell sound (j, at) in
        let to = ram_there (length flat.ports.domains) (length flat.widths) flat.widths cell fits refl is in
        let same : Some to.0 ≡ Some w = sym to.1 ∙ t in
        let is_w : to.0 ≡ w = cc in
        omega (arith, to.2))

pub fit_first : (flat : Flat) (table : List (List Bool)) (memories : List (List (List Bool))) → Sound flat → map length table ≡ flat.widths
    → length memories ≡ length flat.widths
    → WrittenBefore (List (List Bool)) [] IsRam (λ w cell old. initial_words cell) flat (replicate (length flat.widths) []) memories (length flat.cells)
    → MemoriesFit table memories
fit_first flat table memories sound widths count load = record {
  count = count ∙ ap length (sym widths) ∙ length-map table length;
  widths = λ w address lt. from w address lt (ram_drives flat w sound);
}
  where
    from : (w address : ℕ) → address < length (slice_index_or memories w [])
        → ((v : WireId) × (ram : Memory) × HasRam flat v ram × (v.number ≡ w))
        ⊎ ((j : ℕ) (cell : Cell) → j < length flat.cells → slice_get flat.cells j ≡ Some cell → IsRam cell → target cell ≡ Some w → ⊥)
        → length (value_in (slice_index_or memories w []) address) ≡ length (value_in table w)
    from w address lt (inr none) =
        let empty = load.others w none ∙ nothing_there (length flat.widths) w in
        absurd (omega (arith, ap length empty, lt))
    from w address lt (inl found) =
        let v = found.0 in
        let ram = found.1 in
        let has = found.2 in
        let is : slice_index_or memories w [] ≡ ram.words =
        ap (λ n. slice_index_or memories n []) (sym found.3)
        ∙ load.items has.0 v.number (Ram v ram.domain ram.words ram.inputs) (slice_get_within flat.cells has.0 _ has.1) has.1 tt refl in
        let wide = (cell_fits flat (Ram v ram.domain ram.words ram.inputs) sound has).1.5 in
        let within : address < length ram.words = subst (λ m. address < length m) is lt in
        let word = all_at (λ (word : List Bool). length word ≡ wide.0) ram.words address (value_in ram.words address) wide.3
        (slice_get-get_or ram.words address [] within) in
        ap (λ m. length (value_in m address)) is ∙ word
        ∙ sym (wire_width table v wide.0 (subst (λ ws. HasWidth ws v wide.0) (sym widths) wide.1))
        ∙ ap (λ n. length (value_in table n)) found.3

-- words of zeros have their widths
pub zero_widths : (widths : List ℕ) → map length (map (λ n. bits_of n 0) widths) ≡ widths
zero_widths [] = refl
zero_widths (n ∷ widths) = ap (λ k. k ∷ map length (map (λ n. bits_of n 0) widths)) (length-bits_of n 0) ∙ ap (λ ns. n ∷ ns) (zero_widths widths)
