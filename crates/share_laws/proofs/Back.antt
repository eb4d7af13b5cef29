-- The bits that a wire of a shared net has, the wires that become it have too.
use Rattle.std.proofs.Common.{◌≡◌, ℕ, ◌<◌, Bool, List, [], ◌∷◌, length, Some, slice_get, refl, sym, ap, subst, ◌∙◌, arith}
use Rattle.chw_base.specs.declared.index.DomId.{DomId}
use Rattle.chw_base.specs.declared.index.WireId.{WireId}
use Rattle.chw_bits.specs.Bits.{number_of}
use Rattle.chw_clock.specs.Histories.{FitsPorts}
use Rattle.chw_clock.specs.declared.event.Event.{Event}
use Rattle.netlist.specs.Feeds.{target}
use Rattle.netlist.specs.NetValue.{HasCell, Memory, NetValue, ReadValues, WordAt, zeros}
use Rattle.netlist.specs.NetValue.NetValue.{first, input, later, operated, outside, shown, unread}
use Rattle.netlist.specs.NetValue.ReadValues.{read_and, read_none}
use Rattle.netlist.specs.NetValue.WordAt.{kept, unwritten, written}
use Rattle.netlist.specs.Operators.{KeepsNothing, operator}
use Rattle.netlist.specs.Orders.{HasNoLoop}
use Rattle.netlist.specs.Sound.{Sound}
use Rattle.netlist.specs.Wires.{read_by}
use Rattle.netlist.specs.declared.net.Cell.{Cell}
use Rattle.netlist.specs.declared.net.Cell.TheVariants.{Ram, Reg}
use Rattle.netlist.specs.declared.net.Flat.{Flat}
use Rattle.netlist.specs.declared.net.RamIn.{RamIn}
use Rattle.netlist.proofs.Before.{before_fits, taken_fits}
use Rattle.netlist.proofs.OneValue.{one_value}
use Rattle.share_laws.specs.Same.{bare}
use Rattle.share_laws.specs.Shares.{AllBecome, Becomes, IsNumbered, IsSharedCell, Shares}
use Rattle.share_laws.specs.Shares.IsNumbered.{as_input, as_kept}
use Rattle.share_laws.specs.Shares.IsSharedCell.{as_constant, as_own}
use Rattle.share_laws.proofs.Alike.{Alike, alike}
use Rattle.share_laws.proofs.Alike.Alike.{rams, regs}
use Rattle.share_laws.proofs.Renamed.{cell_of, new_width}
use Rattle.share_laws.proofs.Values.{inputs_of, known_value, memory_of, same_value}

-- of cells that are alike, where the second keeps nothing, neither does the first, and it gives the same
record GivesSame (c d : Cell) : Type 0 where
  keeps : KeepsNothing c
  gives : (values : List (List Bool)) → operator c values ≡ operator d values

gives_same : (c d : Cell) → Alike c d → KeepsNothing d → GivesSame c d
gives_same _ _ (regs v w a b domain initial) keeps = absurd keeps
gives_same _ _ (rams v w domain words inputs others) keeps = absurd keeps
gives_same c d _ keeps = record { keeps = tt; gives = λ values. refl }

module _ (flat : Flat) (kept_wires : List ℕ) where
  -- the register that a register of the shared net is made of
  record OwnRegister (v : ℕ) (a : WireId) (domain : DomId) (initial : List Bool) : Type 0 where
    driven : WireId
    read : WireId
    has : HasCell flat (Reg driven domain initial read)
    drives : driven.number ≡ v
    becomes : Becomes flat kept_wires read.number a.number

  register_of : (own : Cell) (v : ℕ) (w a : WireId) (domain : DomId) (initial : List Bool) → HasCell flat own → target own ≡ Some v
      → bare own ≡ bare (Reg w domain initial a) → AllBecome flat kept_wires (read_by own) (a ∷ []) → OwnRegister v a domain initial
  register_of (Reg x other bits b) v w a domain initial has t e all =
      let same_domain : other ≡ domain = cc in
      let same_initial : bits ≡ initial = cc in
      record {
        driven = x;
        read = b;
        has = subst (λ y. HasCell flat (Reg x domain y b)) same_initial (subst (λ y. HasCell flat (Reg x y bits b)) same_domain has);
        drives = cc;
        becomes = all.0;
      }
  register_of _ v w a domain initial has t e all = absurd (cc)

  own_register : (v n : ℕ) (w a : WireId) (domain : DomId) (initial : List Bool) → IsSharedCell flat kept_wires v n (Reg w domain initial a)
      → OwnRegister v a domain initial
  own_register v n w a domain initial (as_constant bits k e) = absurd (cc)
  own_register v n w a domain initial (as_own own unknown has t same u reads) = register_of own v w a domain initial has t same reads

  -- the RAM that a RAM of the shared net is made of
  record OwnMemory (v : ℕ) (domain : DomId) (words : List (List Bool)) (inputs : RamIn) : Type 0 where
    driven : WireId
    others : RamIn
    has : HasCell flat (Ram driven domain words others)
    drives : driven.number ≡ v
    become : AllBecome flat kept_wires (inputs_of others) (inputs_of inputs)

  ram_of : (own : Cell) (v : ℕ) (w : WireId) (domain : DomId) (words : List (List Bool)) (inputs : RamIn) → HasCell flat own → target own ≡ Some v
      → bare own ≡ bare (Ram w domain words inputs) → AllBecome flat kept_wires (read_by own) (inputs_of inputs) → OwnMemory v domain words inputs
  ram_of (Ram x other values others) v w domain words inputs has t e all =
      let same_domain : other ≡ domain = cc in
      let same_words : values ≡ words = cc in
      record {
        driven = x;
        others = others;
        has = subst (λ y. HasCell flat (Ram x domain y others)) same_words (subst (λ y. HasCell flat (Ram x y values others)) same_domain has);
        drives = cc;
        become = all;
      }
  ram_of _ v w domain words inputs has t e all = absurd (cc)

  own_memory : (v n : ℕ) (w : WireId) (domain : DomId) (words : List (List Bool)) (inputs : RamIn)
      → IsSharedCell flat kept_wires v n (Ram w domain words inputs) → OwnMemory v domain words inputs
  own_memory v n w domain words inputs (as_constant bits k e) = absurd (cc)
  own_memory v n w domain words inputs (as_own own unknown has t same u reads) = ram_of own v w domain words inputs has t same reads

module _ (flat shared : Flat) (sound : Sound flat) (no_loop : HasNoLoop flat) (s : Shares flat shared) where
  abbrev Numbered : ℕ → ℕ → Type 0
  Numbered v n = IsNumbered (length flat.ports.inputs) s.kept v n

  input_back : (n : ℕ) (present : Event) (past : List Event) (bits : List Bool) (v : ℕ) → n < length shared.ports.inputs
      → slice_get present.inputs n ≡ Some bits → Numbered v n → NetValue flat (present ∷ past) v bits
  input_back n present past bits v l e (as_input m is) =
      input v present past bits m (ap (λ k. slice_get present.inputs k) (sym is) ∙ e)
  input_back n present past bits v l e (as_kept k at is) =
      absurd (let same = ap (λ p. length p.inputs) s.ports in omega (arith, l, is, same))

  -- what a new number has, each wire has that becomes it
  pub becoming : (h : List Event) (w m : ℕ) (bits : List Bool) → FitsPorts flat.ports h → Becomes flat s.kept w m
      → ((v : ℕ) → Numbered v m → NetValue flat h v bits) → NetValue flat h w bits
  becoming h w m bits fits b rest =
      let both = same_value flat sound no_loop b.by w b.serves.same h fits in
      let is : both.bits ≡ bits = one_value flat sound h b.by both.bits bits both.one (rest b.by b.numbered) in
      subst (λ x. NetValue flat h w x) is both.other

  operated_back : (cell : Cell) (v n : ℕ) (h : List Event) (values : List (List Bool)) → KeepsNothing cell → IsSharedCell flat s.kept v n cell
      → target cell ≡ Some n → FitsPorts flat.ports h
      → ((ws : List WireId) → AllBecome flat s.kept ws (read_by cell) → ReadValues flat h ws values) → NetValue flat h v (operator cell values)
  operated_back cell v n h values keeps (as_constant bits k e) t fits reads =
      subst (λ x. NetValue flat h v (operator x values)) (sym e) (known_value flat sound no_loop v bits k h fits)
  operated_back cell v n h values keeps (as_own own unknown has t same u become) t' fits reads =
      let gives = gives_same own cell (alike own cell v same t) keeps in
      subst (λ bits. NetValue flat h v bits) (gives.gives values) (operated own v h values has gives.keeps t (reads (read_by own) become))

  none_back : (h : List Event) (ws : List WireId) → AllBecome flat s.kept ws [] → ReadValues flat h ws []
  none_back h [] all = read_none h
  none_back h (w ∷ ws) all = absurd all

  more_back : (h : List Event) (ws : List WireId) (n : WireId) (ns : List WireId) (bits : List Bool) (values : List (List Bool))
      → AllBecome flat s.kept ws (n ∷ ns) → ((w : ℕ) → Becomes flat s.kept w n.number → NetValue flat h w bits)
      → ((ws : List WireId) → AllBecome flat s.kept ws ns → ReadValues flat h ws values) → ReadValues flat h ws (bits ∷ values)
  more_back h [] n ns bits values all one rest = absurd all
  more_back h (w ∷ ws) n ns bits values all one rest = read_and h w ws bits values (one w.number all.0) (rest ws all.1)

  mutual
    pub value_back : (h : List Event) (n : ℕ) (bits : List Bool) → NetValue shared h n bits → FitsPorts flat.ports h → (v : ℕ) → Numbered v n
        → NetValue flat h v bits
    value_back _ _ _ (input n present past bits l e) fits v num = input_back n present past bits v l e num
    value_back _ _ _ (operated cell n h values has keeps t reads) fits v num =
        operated_back cell v n h values keeps (cell_of flat sound shared s cell v n has t num) t fits
        (λ ws all. reading_back h (read_by cell) values reads fits ws all)
    value_back _ _ _ (first w a domain initial h has e) fits v num =
        let own = own_register flat s.kept v w.number w a domain initial
        (cell_of flat sound shared s (Reg w domain initial a) v w.number has refl num) in
        subst (λ x. NetValue flat h x initial) own.drives (first own.driven own.read domain initial h own.has e)
    value_back _ _ _ (later w a domain initial bits h past has e x) fits v num =
        let own = own_register flat s.kept v w.number w a domain initial
        (cell_of flat sound shared s (Reg w domain initial a) v w.number has refl num) in
        let fits_past = taken_fits flat.ports h past domain fits e in
        subst (λ x. NetValue flat h x bits) own.drives
        (later own.driven own.read domain initial bits h past own.has e
        (becoming past own.read.number a.number bits fits_past own.becomes (λ v num. value_back past a.number bits x fits_past v num)))
    value_back _ _ _ (unread w ram width h has wide e) fits v num =
        let own = own_memory flat s.kept v w.number w ram.domain ram.words ram.inputs
        (cell_of flat sound shared s (Ram w ram.domain ram.words ram.inputs) v w.number has refl num) in
        let broad : slice_get flat.widths own.driven.number ≡ Some width =
        ap (λ k. slice_get flat.widths k) own.drives ∙ sym (new_width flat sound shared s v w.number num) ∙ wide in
        subst (λ x. NetValue flat h x (zeros width)) own.drives
        (unread own.driven (memory_of ram.domain ram.words own.others) width h own.has broad e)
    value_back _ _ _ (outside w ram width h past address has wide e x le) fits v num =
        let own = own_memory flat s.kept v w.number w ram.domain ram.words ram.inputs
        (cell_of flat sound shared s (Ram w ram.domain ram.words ram.inputs) v w.number has refl num) in
        let broad : slice_get flat.widths own.driven.number ≡ Some width =
        ap (λ k. slice_get flat.widths k) own.drives ∙ sym (new_width flat sound shared s v w.number num) ∙ wide in
        let fits_past = before_fits flat.ports h past ram.domain fits e in
        subst (λ x. NetValue flat h x (zeros width)) own.drives
        (outside own.driven (memory_of ram.domain ram.words own.others) width h past address own.has broad e
        (becoming past own.others.read.number ram.inputs.read.number address fits_past own.become.0
        (λ v num. value_back past ram.inputs.read.number address x fits_past v num)) le)
    value_back _ _ _ (shown w ram h past address bits has e x less word) fits v num =
        let own = own_memory flat s.kept v w.number w ram.domain ram.words ram.inputs
        (cell_of flat sound shared s (Ram w ram.domain ram.words ram.inputs) v w.number has refl num) in
        let fits_past = before_fits flat.ports h past ram.domain fits e in
        subst (λ x. NetValue flat h x bits) own.drives
        (shown own.driven (memory_of ram.domain ram.words own.others) h past address bits own.has e
        (becoming past own.others.read.number ram.inputs.read.number address fits_past own.become.0
        (λ v num. value_back past ram.inputs.read.number address x fits_past v num)) less
        (word_back ram past (number_of address) bits word fits_past own.others own.become))

    reading_back : (h : List Event) (ns : List WireId) (values : List (List Bool)) → ReadValues shared h ns values → FitsPorts flat.ports h
        → (ws : List WireId) → AllBecome flat s.kept ws ns → ReadValues flat h ws values
    reading_back _ _ _ (read_none h) fits ws all = none_back h ws all
    reading_back _ _ _ (read_and h n ns bits values x xs) fits ws all =
        more_back h ws n ns bits values all
        (λ w b. becoming h w n.number bits fits b (λ v num. value_back h n.number bits x fits v num))
        (λ ws all. reading_back h ns values xs fits ws all)

    word_back : (ram : Memory) (h : List Event) (address : ℕ) (bits : List Bool) → WordAt shared ram h address bits → FitsPorts flat.ports h
        → (others : RamIn) → AllBecome flat s.kept (inputs_of others) (inputs_of ram.inputs)
        → WordAt flat (memory_of ram.domain ram.words others) h address bits
    word_back _ _ _ _ (unwritten ram h address bits e at) fits others all = unwritten (memory_of ram.domain ram.words others) h address bits e at
    word_back _ _ _ _ (written ram h past address enable place bits e on at t x) fits others all =
        let fits_past = before_fits flat.ports h past ram.domain fits e in
        written (memory_of ram.domain ram.words others) h past address enable place bits e
        (becoming past others.enable.number ram.inputs.enable.number enable fits_past all.1.0 (λ v num. value_back past ram.inputs.enable.number enable on fits_past v num))
        (becoming past others.place.number ram.inputs.place.number place fits_past all.1.1.0 (λ v num. value_back past ram.inputs.place.number place at fits_past v num))
        t
        (becoming past others.value.number ram.inputs.value.number bits fits_past all.1.1.1.0 (λ v num. value_back past ram.inputs.value.number bits x fits_past v num))
    word_back _ _ _ _ (kept ram h past address enable place bits e on at t word) fits others all =
        let fits_past = before_fits flat.ports h past ram.domain fits e in
        kept (memory_of ram.domain ram.words others) h past address enable place bits e
        (becoming past others.enable.number ram.inputs.enable.number enable fits_past all.1.0 (λ v num. value_back past ram.inputs.enable.number enable on fits_past v num))
        (becoming past others.place.number ram.inputs.place.number place fits_past all.1.1.0 (λ v num. value_back past ram.inputs.place.number place at fits_past v num))
        t
        (word_back ram past address bits word fits_past others all)
