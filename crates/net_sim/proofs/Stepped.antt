-- After an event in which it is settled, a table stands for the past with that event.
use Rattle.std.proofs.Common.{◌≡◌, ◌≢◌, ℕ, ◌<◌, ◌≤◌, ◌==◌, ◌&&◌, Bool, true, false, List, [], ◌∷◌, length, map, set, ◌⊎◌, inl, inr, refl, sym, ap, subst, ◌∙◌, arith, if◌then◌else◌}
use Rattle.std.specs.Prelude.{nat_lt, slice_index_or}
use Rattle.std.proofs.lemmas.Bool.{and_parts, cases_lt}
use Rattle.std.proofs.lemmas.Bool.Decides.{Decides-eqb, nat_tests}
use Rattle.std.proofs.lemmas.List.{get_or-set_other, get_or-set_same, length-set}
use Rattle.std.proofs.lemmas.Option.{slice_get_within}
use Rattle.chw_base.specs.declared.index.DomId.{DomId}
use Rattle.chw_base.specs.declared.index.WireId.{WireId}
use Rattle.chw_bits.specs.Bits.{number_of}
use Rattle.chw_clock.specs.Histories.{resets, ticks, unless_reset}
use Rattle.chw_clock.specs.declared.event.Event.{Event}
use Rattle.netlist.specs.NetValue.{HasCell, HasRam, Memory, NetValue, WordAt, writes, zeros}
use Rattle.netlist.specs.NetValue.NetValue.{first, later, outside, shown}
use Rattle.netlist.specs.NetValue.WordAt.{kept, written}
use Rattle.netlist.specs.Sound.{HasWidth, IsWire, Sound}
use Rattle.netlist.specs.declared.net.Cell.TheVariants.{Reg, Ram}
use Rattle.netlist.specs.declared.net.Flat.{Flat}
use Rattle.net_sim.specs.Stepping.{ShowsValues, StandsFor, word_in}
use Rattle.net_sim.specs.Tables.{value_in}
use Rattle.net_sim.specs.Ticking.{HaveSizes, Stepped, Moves, MovesWords, WrittenBefore, moved_bits, moved_words, written_words}
use Rattle.net_sim.proofs.Cells.{cell_fits, same_cell}
use Rattle.net_sim.proofs.Histories.{before_other, before_tick, ram_elsewhere, register_elsewhere, taken_reset, taken_tick, word_elsewhere}
use Rattle.net_sim.proofs.Wiring.{is_wire, wire_width}

-- the three rounds of an event make a step
pub stepped : (flat : Flat) (event : Event) (table next next' table' : List (List Bool)) (memories memories' : List (List (List Bool))) → Sound flat
    → WrittenBefore (List Bool) [] (Moves event) (λ w cell old. moved_bits event table memories cell) flat next next' (length flat.cells)
    → WrittenBefore (List (List Bool)) [] (MovesWords event) (λ w cell old. moved_words table cell old) flat memories memories' (length flat.cells)
    → WrittenBefore (List Bool) [] (Moves event) (λ w cell old. value_in next' w) flat table table' (length flat.cells)
    → Stepped flat event table memories table' memories'
stepped flat event table next next' table' memories memories' sound taken words put = record {
  moved = λ cell w has moves t.
      let lt = slice_get_within flat.cells has.0 cell has.1 in
      put.items has.0 w cell lt has.1 moves t ∙ taken.items has.0 w cell lt has.1 moves t;
  stays = λ cell w has still t. put.others w (λ j other lt at moves t'. still (subst (Moves event) (same_cell flat w other cell sound (j, at) t' has t) moves));
  words = λ cell w has moves t. words.items has.0 w cell (slice_get_within flat.cells has.0 cell has.1) has.1 moves t;
  words_stay = λ cell w has still t.
      words.others w (λ j other lt at moves t'. still (subst (MovesWords event) (same_cell flat w other cell sound (j, at) t' has t) moves));
}

bool_cases : (b : Bool) → (b ≡ true) ⊎ (b ≡ false)
bool_cases true = inl refl
bool_cases false = inr refl

not_true : {b : Bool} → b ≡ false → b ≡ true → ⊥
not_true e f = cc

lt_test : (a b : ℕ) → a < b → nat_lt a b ≡ true
lt_test a b lt = grind (arith, nat_tests)

ge_test : (a b : ℕ) → b ≤ a → nat_lt a b ≡ false
ge_test a b le = grind (arith, nat_tests)

register_after : (flat : Flat) (table table' : List (List Bool)) (memories memories' : List (List (List Bool))) (present event : Event) (past : List Event)
    (w a : WireId) (domain : DomId) (initial : List Bool) → Sound flat → ShowsValues flat table (event ∷ past) → StandsFor flat table memories past
    → Stepped flat event table memories table' memories' → HasCell flat (Reg w domain initial a)
    → NetValue flat (present ∷ event ∷ past) w.number (value_in table' w.number)
register_after flat table table' memories memories' present event past w a domain initial sound shows stands step has =
    by (bool_cases (ticks event domain))
  where
    moved : ticks event domain ≡ true → (resets event domain ≡ true) ⊎ (resets event domain ≡ false)
        → NetValue flat (present ∷ event ∷ past) w.number (value_in table' w.number)
    moved moves (inl reset) =
        let is = step.moved (Reg w domain initial a) w.number has moves refl ∙ ap (λ r. if r then initial else value_in table a.number) reset in
        subst (NetValue flat (present ∷ event ∷ past) w.number) (sym is)
        (first w a domain initial (present ∷ event ∷ past) has (taken_reset present event past domain moves reset))
    moved moves (inr free) =
        let is = step.moved (Reg w domain initial a) w.number has moves refl ∙ ap (λ r. if r then initial else value_in table a.number) free in
        let there : IsWire flat.widths a = is_wire flat.widths a _ (cell_fits flat (Reg w domain initial a) sound has).2 in
        subst (NetValue flat (present ∷ event ∷ past) w.number) (sym is)
        (later w a domain initial (value_in table a.number) (present ∷ event ∷ past) (event ∷ past) has (taken_tick present event past domain moves free)
        (shows a.number there))

    by : (ticks event domain ≡ true) ⊎ (ticks event domain ≡ false) → NetValue flat (present ∷ event ∷ past) w.number (value_in table' w.number)
    by (inl moves) = moved moves (bool_cases (resets event domain))
    by (inr still) =
        let is = step.stays (Reg w domain initial a) w.number has (not_true still) refl in
        subst (NetValue flat (present ∷ event ∷ past) w.number) (sym is)
        (register_elsewhere flat (event ∷ past) (present ∷ event ∷ past) w a domain initial w.number (value_in table w.number) sound has
        (ap (λ b. unless_reset b domain) (before_other present event past domain still)) refl (stands.registers event w a domain initial has))

ram_after : (flat : Flat) (table table' : List (List Bool)) (memories memories' : List (List (List Bool))) (present event : Event) (past : List Event)
    (w : WireId) (ram : Memory) → Sound flat → map length table ≡ flat.widths → HaveSizes flat memories → ShowsValues flat table (event ∷ past)
    → StandsFor flat table memories past → Stepped flat event table memories table' memories' → HasRam flat w ram
    → NetValue flat (present ∷ event ∷ past) w.number (value_in table' w.number)
ram_after flat table table' memories memories' present event past w ram sound widths sizes shows stands step has =
    by (bool_cases (ticks event ram.domain))
  where
    moved : ticks event ram.domain ≡ true
        → (number_of (value_in table ram.inputs.read.number) < length ram.words) ⊎ (length ram.words ≤ number_of (value_in table ram.inputs.read.number))
        → NetValue flat (present ∷ event ∷ past) w.number (value_in table' w.number)
    moved moves (inl inside) =
        let fits = cell_fits flat (Ram w ram.domain ram.words ram.inputs) sound has in
        let read = shows ram.inputs.read.number (is_wire flat.widths ram.inputs.read _ fits.1.2) in
        let at = number_of (value_in table ram.inputs.read.number) in
        let all = slice_index_or memories w.number [] in
        let within : at < length all = omega (arith, sizes w ram has) in
        let is : value_in table' w.number ≡ word_in memories w.number at =
        step.moved (Ram w ram.domain ram.words ram.inputs) w.number has moves refl
        ∙ ap (λ t. if t then value_in all at else zeros (length (value_in table w.number))) (lt_test at (length all) within) in
        subst (NetValue flat (present ∷ event ∷ past) w.number) (sym is)
        (shown w ram (present ∷ event ∷ past) (event ∷ past) (value_in table ram.inputs.read.number) (word_in memories w.number at) has
        (before_tick present event past ram.domain moves) read inside (stands.words event w ram at has inside))
    moved moves (inr past_end) =
        let fits = cell_fits flat (Ram w ram.domain ram.words ram.inputs) sound has in
        let read = shows ram.inputs.read.number (is_wire flat.widths ram.inputs.read _ fits.1.2) in
        let at = number_of (value_in table ram.inputs.read.number) in
        let all = slice_index_or memories w.number [] in
        let outer : length all ≤ at = omega (arith, sizes w ram has) in
        let wide : length (value_in table w.number) ≡ fits.1.5.0 =
        wire_width table w fits.1.5.0 (subst (λ ws. HasWidth ws w fits.1.5.0) (sym widths) fits.1.5.1) in
        let is : value_in table' w.number ≡ zeros fits.1.5.0 =
        step.moved (Ram w ram.domain ram.words ram.inputs) w.number has moves refl
        ∙ ap (λ t. if t then value_in all at else zeros (length (value_in table w.number))) (ge_test at (length all) outer) ∙ ap zeros wide in
        subst (NetValue flat (present ∷ event ∷ past) w.number) (sym is)
        (outside w ram fits.1.5.0 (present ∷ event ∷ past) (event ∷ past) (value_in table ram.inputs.read.number) has fits.1.5.1
        (before_tick present event past ram.domain moves) read past_end)

    by : (ticks event ram.domain ≡ true) ⊎ (ticks event ram.domain ≡ false) → NetValue flat (present ∷ event ∷ past) w.number (value_in table' w.number)
    by (inl moves) = moved moves (cases_lt (number_of (value_in table ram.inputs.read.number)) (length ram.words))
    by (inr still) =
        let is = step.stays (Ram w ram.domain ram.words ram.inputs) w.number has (not_true still) refl in
        subst (NetValue flat (present ∷ event ∷ past) w.number) (sym is)
        (ram_elsewhere flat (event ∷ past) (present ∷ event ∷ past) w ram w.number (value_in table w.number) sound has
        (before_other present event past ram.domain still) refl (stands.rams event w ram has))

-- the word that was written
written_at : (enable place value : List Bool) (memory : List (List Bool)) (address : ℕ) → address < length memory
    → writes enable place address ≡ true → value_in (written_words enable place value memory) address ≡ value
written_at enable place value memory address lt on =
    let parts = and_parts (number_of enable == 1) (number_of place == address) on in
    let is : number_of place ≡ address = (Decides-eqb (number_of place) address).0 parts.1 in
    let within : number_of place < length memory = omega arith in
    let test : (number_of enable == 1 && nat_lt (number_of place) (length memory)) ≡ true =
    ap (λ o. o && nat_lt (number_of place) (length memory)) parts.0 ∙ lt_test (number_of place) (length memory) within in
    ap (λ t. value_in (if t then set memory (number_of place) value else memory) address) test
    ∙ ap (λ n. value_in (set memory n value) address) is ∙ get_or-set_same memory address value [] lt

-- the other words
written_beside : (enable place value : List Bool) (memory : List (List Bool)) (address : ℕ) → writes enable place address ≡ false
    → value_in (written_words enable place value memory) address ≡ value_in memory address
written_beside enable place value memory address off = by (bool_cases (number_of enable == 1 && nat_lt (number_of place) (length memory)))
  where
    by : ((number_of enable == 1 && nat_lt (number_of place) (length memory)) ≡ true)
        ⊎ ((number_of enable == 1 && nat_lt (number_of place) (length memory)) ≡ false)
        → value_in (written_words enable place value memory) address ≡ value_in memory address
    by (inr f) = ap (λ t. value_in (if t then set memory (number_of place) value else memory) address) f
    by (inl t) =
        let parts = and_parts (number_of enable == 1) (nat_lt (number_of place) (length memory)) t in
        let differs : (number_of place == address) ≡ false = ap (λ o. o && (number_of place == address)) (sym parts.0) ∙ off in
        let apart : address ≢ number_of place = λ e. not_true differs ((Decides-eqb (number_of place) address).1 (sym e)) in
        ap (λ u. value_in (if u then set memory (number_of place) value else memory) address) t
        ∙ get_or-set_other memory (number_of place) address value [] apart

length_written_by : (test : Bool) (place : ℕ) (value : List Bool) (memory : List (List Bool))
    → length (if test then set memory place value else memory) ≡ length memory
length_written_by true place value memory = length-set memory place value
length_written_by false place value memory = refl

length-written_words : (enable place value : List Bool) (memory : List (List Bool)) → length (written_words enable place value memory) ≡ length memory
length-written_words enable place value memory =
    length_written_by (number_of enable == 1 && nat_lt (number_of place) (length memory)) (number_of place) value memory

word_after : (flat : Flat) (table table' : List (List Bool)) (memories memories' : List (List (List Bool))) (present event : Event) (past : List Event)
    (w : WireId) (ram : Memory) (address : ℕ) → Sound flat → HaveSizes flat memories → ShowsValues flat table (event ∷ past)
    → StandsFor flat table memories past → Stepped flat event table memories table' memories' → HasRam flat w ram → address < length ram.words
    → WordAt flat ram (present ∷ event ∷ past) address (word_in memories' w.number address)
word_after flat table table' memories memories' present event past w ram address sound sizes shows stands step has lt =
    by (bool_cases (ticks event ram.domain))
  where
    moved : ticks event ram.domain ≡ true
        → (writes (value_in table ram.inputs.enable.number) (value_in table ram.inputs.place.number) address ≡ true)
        ⊎ (writes (value_in table ram.inputs.enable.number) (value_in table ram.inputs.place.number) address ≡ false)
        → WordAt flat ram (present ∷ event ∷ past) address (word_in memories' w.number address)
    moved moves (inl on) =
        let fits = cell_fits flat (Ram w ram.domain ram.words ram.inputs) sound has in
        let all = slice_index_or memories w.number [] in
        let within : address < length all = omega (arith, sizes w ram has) in
        let value = value_in table ram.inputs.value.number in
        let is : word_in memories' w.number address ≡ value =
        ap (λ m. value_in m address) (step.words (Ram w ram.domain ram.words ram.inputs) w.number has moves refl)
        ∙ written_at (value_in table ram.inputs.enable.number) (value_in table ram.inputs.place.number) value all address within on in
        subst (WordAt flat ram (present ∷ event ∷ past) address) (sym is)
        (written ram (present ∷ event ∷ past) (event ∷ past) address (value_in table ram.inputs.enable.number) (value_in table ram.inputs.place.number) value
        (before_tick present event past ram.domain moves) (shows ram.inputs.enable.number (is_wire flat.widths ram.inputs.enable _ fits.1.3))
        (shows ram.inputs.place.number (is_wire flat.widths ram.inputs.place _ fits.1.4)) on
        (shows ram.inputs.value.number (is_wire flat.widths ram.inputs.value _ fits.1.5.2)))
    moved moves (inr off) =
        let fits = cell_fits flat (Ram w ram.domain ram.words ram.inputs) sound has in
        let all = slice_index_or memories w.number [] in
        let is : word_in memories' w.number address ≡ word_in memories w.number address =
        ap (λ m. value_in m address) (step.words (Ram w ram.domain ram.words ram.inputs) w.number has moves refl)
        ∙ written_beside (value_in table ram.inputs.enable.number) (value_in table ram.inputs.place.number)
        (value_in table ram.inputs.value.number) all address off in
        subst (WordAt flat ram (present ∷ event ∷ past) address) (sym is)
        (kept ram (present ∷ event ∷ past) (event ∷ past) address (value_in table ram.inputs.enable.number) (value_in table ram.inputs.place.number)
        (word_in memories w.number address)
        (before_tick present event past ram.domain moves) (shows ram.inputs.enable.number (is_wire flat.widths ram.inputs.enable _ fits.1.3))
        (shows ram.inputs.place.number (is_wire flat.widths ram.inputs.place _ fits.1.4)) off (stands.words event w ram address has lt))

    by : (ticks event ram.domain ≡ true) ⊎ (ticks event ram.domain ≡ false)
        → WordAt flat ram (present ∷ event ∷ past) address (word_in memories' w.number address)
    by (inl moves) = moved moves (bool_cases (writes (value_in table ram.inputs.enable.number) (value_in table ram.inputs.place.number) address))
    by (inr still) =
        let is = step.words_stay (Ram w ram.domain ram.words ram.inputs) w.number has (not_true still) refl in
        subst (WordAt flat ram (present ∷ event ∷ past) address) (sym (ap (λ m. value_in m address) is))
        (word_elsewhere flat (event ∷ past) (present ∷ event ∷ past) ram address (word_in memories w.number address)
        (before_other present event past ram.domain still) (stands.words event w ram address has lt))

-- the table stands for the past with the event
pub stands_after : (flat : Flat) (table table' : List (List Bool)) (memories memories' : List (List (List Bool))) (event : Event) (past : List Event)
    → Sound flat → map length table ≡ flat.widths → HaveSizes flat memories → ShowsValues flat table (event ∷ past)
    → StandsFor flat table memories past → Stepped flat event table memories table' memories' → StandsFor flat table' memories' (event ∷ past)
stands_after flat table table' memories memories' event past sound widths sizes shows stands step = record {
  registers = λ present w a domain initial has.
      register_after flat table table' memories memories' present event past w a domain initial sound shows stands step has;
  rams = λ present w ram has.
      ram_after flat table table' memories memories' present event past w ram sound widths sizes shows stands step has;
  words = λ present w ram address has lt.
      word_after flat table table' memories memories' present event past w ram address sound sizes shows stands step has lt;
}

-- memories keep their sizes
pub sizes_after : (flat : Flat) (event : Event) (table table' : List (List Bool)) (memories memories' : List (List (List Bool)))
    → HaveSizes flat memories → Stepped flat event table memories table' memories' → HaveSizes flat memories'
sizes_after flat event table table' memories memories' sizes step = λ w ram has. by w ram has (bool_cases (ticks event ram.domain))
  where
    by : (w : WireId) (ram : Memory) → HasRam flat w ram → (ticks event ram.domain ≡ true) ⊎ (ticks event ram.domain ≡ false)
        → length (slice_index_or memories' w.number []) ≡ length ram.words
    by w ram has (inl moves) =
        ap length (step.words (Ram w ram.domain ram.words ram.inputs) w.number has moves refl)
        ∙ length-written_words (value_in table ram.inputs.enable.number) (value_in table ram.inputs.place.number)
        (value_in table ram.inputs.value.number) (slice_index_or memories w.number [])
        ∙ sizes w ram has
    by w ram has (inr still) =
        ap length (step.words_stay (Ram w ram.domain ram.words ram.inputs) w.number has (not_true still) refl) ∙ sizes w ram has
