-- A RAM keeps its bits, where all wires did before.
use Rattle.std.proofs.Common.{◌≡◌, ℕ, zero, suc, ◌+◌, ◌*◌, ◌^◌, ◌<◌, ◌≤◌, Bool, true, false, List, [], ◌∷◌, ◌++◌, length, replicate, Option, Some, None, slice_get, refl, sym, ap, subst, ◌∙◌, arith, if◌then◌else◌, inl, inr, ◌⊎◌, eqb}
use Rattle.std.specs.List.{AllByRecursion}
use Rattle.std.specs.Prelude.{slice_index}
use Rattle.std.proofs.lemmas.Bool.{cases_eq, eq-eqb, ne_eqb}
use Rattle.std.proofs.lemmas.List.{length-replicate}
use Rattle.std.proofs.lemmas.Option.{get_or_from_slice_get}
use Rattle.chw_base.specs.declared.index.DomId.{DomId}
use Rattle.chw_base.specs.declared.index.WireId.{WireId}
use Rattle.chw_base.specs.declared.limits.TheConstants.{ADDRESS_BITS, RAM_WORDS}
use Rattle.chw_bits.specs.Bits.{bits_of, number_of}
use Rattle.chw_clock.specs.Histories.{FitsPorts, before}
use Rattle.chw_clock.specs.declared.event.Event.{Event}
use Rattle.netlist.specs.NetValue.{HasCell, Memory, NetValue, WordAt, writes, zeros}
use Rattle.netlist.specs.NetValue.NetValue.{shown}
use Rattle.netlist.specs.NetValue.WordAt.{kept, unwritten, written}
use Rattle.netlist.specs.Orders.{HasNoLoop}
use Rattle.netlist.specs.Sound.{FitsCell, Sound}
use Rattle.netlist.specs.declared.net.Cell.TheVariants.{Ram}
use Rattle.netlist.specs.declared.net.Flat.{Flat}
use Rattle.netlist.specs.declared.net.RamIn.{RamIn}
use Rattle.netlist.proofs.Before.{before_fits, before_shorter}
use Rattle.netlist.proofs.Lengths.{fits_cell}
use Rattle.netlist.proofs.OneValue.{one_value}
use Rattle.bit_laws.specs.BitNames.{further, furthers}
use Rattle.bit_laws.specs.Bitnet.{BitValue, HaveBits, clock_of}
use Rattle.bit_laws.specs.Blast.{RamNames, all_zeros, blast, constants, ram_shown, ram_words, register_nodes, shown_names, word, word_nodes}
use Rattle.bit_laws.specs.CellLaws.{HasWord}
use Rattle.bit_laws.specs.Gates.Gate.{address}
use Rattle.bit_laws.specs.Keeping.{KeepsWord}
use Rattle.bit_laws.proofs.Latches.{first_have, later_have}
use Rattle.bit_laws.proofs.Nodes.{nodes_there, word_length}
use Rattle.bit_laws.proofs.Products.{length-furthers}
use Rattle.bit_laws.proofs.RamWords.{length-ram_shown, length-shown_names, added_bits, added_none, added_to_zeros, address_is, latch_names, word_first, word_later, word_shown, writes_is, zeros_are}
use Rattle.bit_laws.proofs.Registers.{value_at}
use Rattle.bit_laws.proofs.Words.{HasNodes, constants_have, gate_bit, have_joined, have_length, parted}

-- what is read of a wire at a history: its value, and the bits of its names
record Reads (flat : Flat) (g : List Event) (v : ℕ) : Type 0 where
  bits : List Bool
  value : NetValue flat g v bits
  have : HasWord flat g v bits

module _ (flat : Flat) (sound : Sound flat) (no_loop : HasNoLoop flat) (w : WireId) (domain : DomId) (words : List (List Bool)) (inputs : RamIn)
    (has : HasCell flat (Ram w domain words inputs)) where
  abbrev ram : Memory
  ram = record { domain = domain; words = words; inputs = inputs }

  cell : FitsCell (length flat.ports.domains) flat.widths (Ram w domain words inputs)
  cell = fits_cell flat (Ram w domain words inputs) sound has

  abbrev names : RamNames
  names = record {
    read = word flat inputs.read.number;
    enable = word flat inputs.enable.number;
    place = word flat inputs.place.number;
    value = word flat inputs.value.number;
  }

  abbrev width : ℕ
  width = slice_index flat.widths w.number

  -- as wide as its wire
  width_is : width ≡ cell.1.5.0
  width_is = get_or_from_slice_get flat.widths w.number cell.1.5.0 0 cell.1.5.1

  value_long : length (word flat inputs.value.number) ≡ width
  value_long = word_length flat inputs.value.number cell.1.5.0 cell.1.5.2 ∙ sym width_is

  outs_long : length (word flat w.number) ≡ width
  outs_long = word_length flat w.number cell.1.5.0 cell.1.5.1 ∙ sym width_is

  abbrev AllWide : List (List Bool) → Type 0
  AllWide more = AllByRecursion (λ (bits : List Bool). length bits ≡ width) more

  words_wide : (more : List (List Bool)) → AllByRecursion (λ (bits : List Bool). length bits ≡ cell.1.5.0) more → AllWide more
  words_wide [] all = tt
  words_wide (bits ∷ more) all = (all.0 ∙ sym width_is, words_wide more all.1)

  -- the address of a word fits the words that are read
  below_read : (at : ℕ) → at < length words → at < 2 ^ length (word flat inputs.read.number)
  below_read at less =
      subst (λ n. at < 2 ^ n) (sym (word_length flat inputs.read.number ADDRESS_BITS cell.1.2))
      (let few : length words ≤ RAM_WORDS = cell.1.1 in let l : at < 4096 = omega (arith, few, less) in l)

  below_place : (at : ℕ) → at < length words → at < 2 ^ length (word flat inputs.place.number)
  below_place at less =
      subst (λ n. at < 2 ^ n) (sym (word_length flat inputs.place.number ADDRESS_BITS cell.1.4))
      (let few : length words ≤ RAM_WORDS = cell.1.1 in let l : at < 4096 = omega (arith, few, less) in l)

  -- a word at a history, and its latches
  record Holds (h : List Event) (x at : ℕ) : Type 0 where
    value : List Bool
    word_is : WordAt flat ram h at value
    latches : HaveBits flat.ports (blast flat) h (latch_names w.number x width) value

  abbrev Held : List Event → (x at : ℕ) → List (List Bool) → Type 0
  Held h x at [] = Unit {0}
  Held h x at (bits ∷ more) = Holds h x at × Held h (x + (2 + 3 * width)) (at + 1) more

  latches_long : (h : List Event) (x : ℕ) (value : List Bool) → HaveBits flat.ports (blast flat) h (latch_names w.number x width) value → length value ≡ width
  latches_long h x value v = sym (have_length flat.ports (blast flat) h (latch_names w.number x width) value v) ∙ long width
    where
      long : (n : ℕ) → length (latch_names w.number x n) ≡ n
      long zero = refl
      long (suc n) = ap suc (long n)

  -- the nodes of the words from one address on
  abbrev WordsThere : (x at : ℕ) → List (List ℕ) → List (List Bool) → Type 0
  WordsThere x at cs more = HasNodes (blast flat) (ram_words w.number width x at (clock_of flat.ports domain) names cs more)

  record Parts (x at : ℕ) (cs : List (List ℕ)) (bits : List Bool) (more : List (List Bool)) : Type 0 where
    own : HasNodes (blast flat) (word_nodes w.number x (clock_of flat.ports domain) cs names.value bits)
    rest : WordsThere (x + (2 + 3 * width)) (at + 1) (shown_names w.number x width) more

  parts : (x at : ℕ) (cs : List (List ℕ)) (bits : List Bool) (more : List (List Bool)) → WordsThere x at cs (bits ∷ more) → Parts x at cs bits more
  parts x at cs bits more all =
      let s = parted (blast flat) (word_nodes w.number x (clock_of flat.ports domain) cs names.value bits)
      (ram_words w.number width (x + (2 + 3 * width)) (at + 1) (clock_of flat.ports domain) names (shown_names w.number x width) more) all.1.1 in
      record { own = s.0; rest = s.1 }

  -- the words from this address on are the RAM's
  abbrev From : ℕ → List (List Bool) → Type 0
  From at more = (i : ℕ) → slice_get more i ≡ slice_get words (at + i)

  from_next : (at : ℕ) (bits : List Bool) (more : List (List Bool)) → From at (bits ∷ more) → From (at + 1) more
  from_next at bits more from i =
      let e : at + suc i ≡ at + 1 + i = omega arith in
      from (suc i) ∙ ap (λ n. slice_get words n) e

  held_first : (h : List Event) → before h domain ≡ None → (x at : ℕ) (cs : List (List ℕ)) (more : List (List Bool)) → length cs ≡ width → AllWide more
      → From at more → WordsThere x at cs more → Held h x at more
  held_first h none x at cs [] e wide from all = tt
  held_first h none x at cs (bits ∷ more) e wide from all =
      let s = parts x at cs bits more all in
      let here : at ≡ at + 0 = omega arith in (
        record {
          value = bits;
          word_is = unwritten ram h at bits none (ap (λ n. slice_get words n) here ∙ sym (from 0));
          latches = subst (λ n. HaveBits flat.ports (blast flat) h (latch_names w.number x n) bits) e
              (word_first flat.ports (blast flat) domain cell.0 w.number x h cs names.value bits none (e ∙ sym value_long) (e ∙ sym wide.0) s.own);
        },
        held_first h none (x + (2 + 3 * width)) (at + 1) (shown_names w.number x width) more (length-shown_names w.number x width) wide.1
            (from_next at bits more from) s.rest,
      )

  held_later : (h past : List Event) → before h domain ≡ Some past → Reads flat past inputs.enable.number → Reads flat past inputs.place.number
      → Reads flat past inputs.value.number → (x at : ℕ) (cs : List (List ℕ)) (more : List (List Bool)) → length cs ≡ width → AllWide more
      → at + length more ≤ length words → WordsThere x at cs more → Held past x at more → Held h x at more
  held_later h past tick on place value x at cs [] e wide less all held = tt
  held_later h past tick on place value x at cs (bits ∷ more) e wide less all held = (
    by_write (writes on.bits place.bits at) refl,
    held_later h past tick on place value (x + (2 + 3 * width)) (at + 1) (shown_names w.number x width) more (length-shown_names w.number x width) wide.1
        (omega arith) s.rest held.1,
  )
    where
      s : Parts x at cs bits more
      s = parts x at cs bits more all

      less_at : at < length words
      less_at = omega arith

      selected : BitValue flat.ports (blast flat) past (further w.number x) (writes on.bits place.bits at)
      selected =
          subst (λ t. BitValue flat.ports (blast flat) past (further w.number x) t)
          (writes_is at (length (word flat inputs.place.number)) on.bits place.bits (below_place at less_at)
          (sym (have_length flat.ports (blast flat) past (word flat inputs.enable.number) on.bits on.have) ∙ word_length flat inputs.enable.number 1 cell.1.3)
          (sym (have_length flat.ports (blast flat) past (word flat inputs.place.number) place.bits place.have)))
          (gate_bit flat.ports (blast flat) past (address (true ∷ bits_of (length names.place) at)) (names.enable ++ names.place) (further w.number x)
          (on.bits ++ place.bits) all.0
          (have_joined flat.ports (blast flat) past (word flat inputs.enable.number) (word flat inputs.place.number) on.bits place.bits on.have place.have))

      old : HaveBits flat.ports (blast flat) past (latch_names w.number x (length cs)) held.0.value
      old = subst (λ n. HaveBits flat.ports (blast flat) past (latch_names w.number x n) held.0.value) (sym e) held.0.latches

      same_length : length value.bits ≡ length held.0.value
      same_length =
          sym (have_length flat.ports (blast flat) past (word flat inputs.value.number) value.bits value.have) ∙ value_long
          ∙ sym (latches_long past x held.0.value held.0.latches)

      new : HaveBits flat.ports (blast flat) h (latch_names w.number x width) (if writes on.bits place.bits at then value.bits else held.0.value)
      new =
          subst (λ n. HaveBits flat.ports (blast flat) h (latch_names w.number x n) (if writes on.bits place.bits at then value.bits else held.0.value)) e
          (word_later flat.ports (blast flat) domain cell.0 w.number x h past (writes on.bits place.bits at) cs names.value bits value.bits held.0.value tick
          (e ∙ sym value_long) (e ∙ sym wide.0) same_length s.own selected value.have old)

      by_write : (t : Bool) → writes on.bits place.bits at ≡ t → Holds h x at
      by_write true t = record {
        value = value.bits;
        word_is = written ram h past at on.bits place.bits value.bits tick on.value place.value t value.value;
        latches = subst (λ z. HaveBits flat.ports (blast flat) h (latch_names w.number x width) (if z then value.bits else held.0.value)) t new;
      }
      by_write false t = record {
        value = held.0.value;
        word_is = kept ram h past at on.bits place.bits held.0.value tick on.value place.value t held.0.word_is;
        latches = subst (λ z. HaveBits flat.ports (blast flat) h (latch_names w.number x width) (if z then value.bits else held.0.value)) t new;
      }

  -- whether a word is read
  reads_at : (g : List Event) (x at : ℕ) (cs : List (List ℕ)) (bits : List Bool) (more : List (List Bool)) (address_read : Reads flat g inputs.read.number)
      → at < length words → WordsThere x at cs (bits ∷ more) → BitValue flat.ports (blast flat) g (further w.number (x + 1)) (eqb at (number_of address_read.bits))
  reads_at g x at cs bits more a less all =
      subst (λ t. BitValue flat.ports (blast flat) g (further w.number (x + 1)) t)
      (address_is at (length (word flat inputs.read.number)) a.bits (below_read at less)
      (sym (have_length flat.ports (blast flat) g (word flat inputs.read.number) a.bits a.have)))
      (gate_bit flat.ports (blast flat) g (address (bits_of (length names.read) at)) names.read (further w.number (x + 1)) a.bits all.1.0 a.have)

  -- what is shown behind a word
  behind : (g : List Event) (x at : ℕ) (cs : List (List ℕ)) (bits : List Bool) (more : List (List Bool)) (r : Bool) (zs : List Bool) (held : Holds g x at)
      → length cs ≡ width → length bits ≡ width → WordsThere x at cs (bits ∷ more) → BitValue flat.ports (blast flat) g (further w.number (x + 1)) r
      → HaveBits flat.ports (blast flat) g cs zs
      → HaveBits flat.ports (blast flat) g (shown_names w.number x width) (added_bits r zs held.value)
  behind g x at cs bits more r zs held e wide all t v =
      let s = parts x at cs bits more all in
      let old : HaveBits flat.ports (blast flat) g (latch_names w.number x (length cs)) held.value =
      subst (λ n. HaveBits flat.ports (blast flat) g (latch_names w.number x n) held.value) (sym e) held.latches in
      subst (λ n. HaveBits flat.ports (blast flat) g (shown_names w.number x n) (added_bits r zs held.value)) e
      (word_shown flat.ports (blast flat) domain cell.0 w.number x g r cs names.value bits zs held.value (e ∙ sym value_long) (e ∙ sym wide) s.own t v old)

  -- words that aren't read leave what is shown
  passed : (g : List Event) (a : Reads flat g inputs.read.number) (x at : ℕ) (cs : List (List ℕ)) (more : List (List Bool)) (zs : List Bool) → length cs ≡ width
      → AllWide more → at + length more ≤ length words → (number_of a.bits < at) ⊎ (at + length more ≤ number_of a.bits)
      → WordsThere x at cs more → Held g x at more → HaveBits flat.ports (blast flat) g cs zs
      → HaveBits flat.ports (blast flat) g (ram_shown w.number width x cs more) zs
  passed g a x at cs [] zs e wide less out all held v = v
  passed g a x at cs (bits ∷ more) zs e wide less out all held v =
      passed g a (x + (2 + 3 * width)) (at + 1) (shown_names w.number x width) more zs (length-shown_names w.number x width) wide.1 (omega arith)
      (next out) (parts x at cs bits more all).rest held.1 here
    where
      next : (number_of a.bits < at) ⊎ (at + length (bits ∷ more) ≤ number_of a.bits) → (number_of a.bits < at + 1) ⊎ (at + 1 + length more ≤ number_of a.bits)
      next (inl l) = inl (omega arith)
      next (inr l) = inr (omega arith)

      other : (number_of a.bits < at) ⊎ (at + length (bits ∷ more) ≤ number_of a.bits) → at ≡ number_of a.bits → ⊥
      other (inl l) same = omega arith
      other (inr l) same = omega arith

      unread_bit : BitValue flat.ports (blast flat) g (further w.number (x + 1)) false
      unread_bit =
          subst (λ t. BitValue flat.ports (blast flat) g (further w.number (x + 1)) t) (ne_eqb at (number_of a.bits) (other out))
          (reads_at g x at cs bits more a (omega arith) all)

      as_long : length zs ≡ length held.0.value
      as_long = sym (have_length flat.ports (blast flat) g cs zs v) ∙ e ∙ sym (latches_long g x held.0.value held.0.latches)

      here : HaveBits flat.ports (blast flat) g (shown_names w.number x width) zs
      here =
          subst (λ z. HaveBits flat.ports (blast flat) g (shown_names w.number x width) z) (added_none zs held.0.value as_long)
          (behind g x at cs bits more false zs held.0 e wide.0 all unread_bit v)

  -- the word that is read is shown
  record Found (g : List Event) (address_read : ℕ) (shown_there : List (List ℕ)) : Type 0 where
    value : List Bool
    word_is : WordAt flat ram g address_read value
    have : HaveBits flat.ports (blast flat) g shown_there value

  found : (g : List Event) (a : Reads flat g inputs.read.number) (x at : ℕ) (cs : List (List ℕ)) (more : List (List Bool)) → length cs ≡ width
      → AllWide more → at + length more ≤ length words → at ≤ number_of a.bits → number_of a.bits < at + length more
      → WordsThere x at cs more → Held g x at more → HaveBits flat.ports (blast flat) g cs (replicate width false)
      → Found g (number_of a.bits) (ram_shown w.number width x cs more)
  found g a x at cs [] e wide less from to all held v = absurd (omega arith)
  found g a x at cs (bits ∷ more) e wide less from to all held v =
      by_place (cases_eq at (number_of a.bits))
      (λ apart there. found g a (x + (2 + 3 * width)) (at + 1) (shown_names w.number x width) more (length-shown_names w.number x width) wide.1
      (omega arith) (omega (arith, from, apart)) (omega arith) (parts x at cs bits more all).rest held.1 there)
    where
      rest : WordsThere (x + (2 + 3 * width)) (at + 1) (shown_names w.number x width) more
      rest = (parts x at cs bits more all).rest

      tested : BitValue flat.ports (blast flat) g (further w.number (x + 1)) (eqb at (number_of a.bits))
      tested = reads_at g x at cs bits more a (omega arith) all

      long : length held.0.value ≡ width
      long = latches_long g x held.0.value held.0.latches

      by_place : (at ≡ number_of a.bits) ⊎ (at ≡ number_of a.bits → ⊥)
          → ((at ≡ number_of a.bits → ⊥) → HaveBits flat.ports (blast flat) g (shown_names w.number x width) (replicate width false)
          → Found g (number_of a.bits) (ram_shown w.number width (x + (2 + 3 * width)) (shown_names w.number x width) more))
          → Found g (number_of a.bits) (ram_shown w.number width x cs (bits ∷ more))
      by_place (inl is) later =
          let read_bit : BitValue flat.ports (blast flat) g (further w.number (x + 1)) true =
          subst (λ t. BitValue flat.ports (blast flat) g (further w.number (x + 1)) t) (eq-eqb at (number_of a.bits) is) tested in
          let there : HaveBits flat.ports (blast flat) g (shown_names w.number x width) (added_bits true (replicate width false) held.0.value) =
          behind g x at cs bits more true (replicate width false) held.0 e wide.0 all read_bit v in
          let here : HaveBits flat.ports (blast flat) g (shown_names w.number x width) held.0.value =
          subst (λ z. HaveBits flat.ports (blast flat) g (shown_names w.number x width) z)
          (ap (λ n. added_bits true (replicate n false) held.0.value) (sym long) ∙ added_to_zeros held.0.value) there in
          record {
            value = held.0.value;
            word_is = subst (λ n. WordAt flat ram g n held.0.value) is held.0.word_is;
            have = passed g a (x + (2 + 3 * width)) (at + 1) (shown_names w.number x width) more held.0.value (length-shown_names w.number x width) wide.1
                (omega arith) (inl (omega arith)) rest held.1 here;
          }
      by_place (inr apart) later =
          let unread_bit : BitValue flat.ports (blast flat) g (further w.number (x + 1)) false =
          subst (λ t. BitValue flat.ports (blast flat) g (further w.number (x + 1)) t) (ne_eqb at (number_of a.bits) apart) tested in
          let as_long : length (replicate width false) ≡ length held.0.value = length-replicate width false ∙ sym long in
          let here : HaveBits flat.ports (blast flat) g (shown_names w.number x width) (replicate width false) =
          subst (λ z. HaveBits flat.ports (blast flat) g (shown_names w.number x width) z) (added_none (replicate width false) held.0.value as_long)
          (behind g x at cs bits more false (replicate width false) held.0 e wide.0 all unread_bit v) in
          later apart here

  -- the nodes of the RAM: first zeros, then the words, and latches behind them
  record Nodes : Type 0 where
    first : HasNodes (blast flat) (constants (furthers w.number 0 width) (all_zeros width))
    words_there : WordsThere width 0 (furthers w.number 0 width) words
    last : HasNodes (blast flat) (register_nodes (clock_of flat.ports domain) (word flat w.number)
        (ram_shown w.number width width (furthers w.number 0 width) words) (all_zeros width))

  nodes : Nodes
  nodes =
      let all = nodes_there flat (Ram w domain words inputs) has in
      let latches = register_nodes (clock_of flat.ports domain) (word flat w.number)
      (ram_shown w.number width width (furthers w.number 0 width) words) (all_zeros width) in
      let middle = ram_words w.number width width 0 (clock_of flat.ports domain) names (furthers w.number 0 width) words in
      let s = parted (blast flat) (constants (furthers w.number 0 width) (all_zeros width)) (middle ++ latches) all in
      let t = parted (blast flat) middle latches s.1 in
      record { first = s.0; words_there = t.0; last = t.1 }

  zeros_have : (g : List Event) → HaveBits flat.ports (blast flat) g (furthers w.number 0 width) (replicate width false)
  zeros_have g =
      constants_have flat.ports (blast flat) g (furthers w.number 0 width) (all_zeros width)
      (length-furthers w.number 0 width ∙ sym (length-replicate width false)) nodes.first

  shown_long : length (word flat w.number) ≡ length (ram_shown w.number width width (furthers w.number 0 width) words)
  shown_long = outs_long ∙ sym (length-ram_shown w.number width width (furthers w.number 0 width) words (length-furthers w.number 0 width))

  zeros_long : length (word flat w.number) ≡ length (all_zeros width)
  zeros_long = outs_long ∙ sym (length-replicate width false)

  from_all : From 0 words
  from_all i = let e : i ≡ 0 + i = omega arith in ap (λ n. slice_get words n) e

  all_wide : AllWide words
  all_wide = words_wide words cell.1.5.3

  -- where all wires kept their bits at the histories that are shorter than a limit
  module _ (limit : ℕ) (before_kept : (past : List Event) (v : ℕ) → length past < limit → FitsPorts flat.ports past → KeepsWord flat past v) where
    reads : (g : List Event) → length g < limit → FitsPorts flat.ports g → (v n : ℕ) → slice_get flat.widths v ≡ Some n → Reads flat g v
    reads g less fits v n e =
        let x = value_at flat g v n sound no_loop fits e in
        record { bits = x.bits; value = x.value; have = before_kept g v less fits x.bits x.value }

    held : (m : ℕ) (g : List Event) → length g ≤ m → length g ≤ limit → FitsPorts flat.ports g → (tick : Option (List Event)) → before g domain ≡ tick
        → Held g width 0 words
    held m g le less fits None none =
        held_first g none width 0 (furthers w.number 0 width) words (length-furthers w.number 0 width) all_wide from_all nodes.words_there
    held zero g le less fits (Some past) tick = absurd (let l = before_shorter flat.ports g past domain fits tick in omega (arith, l))
    held (suc m) g le less fits (Some past) tick =
        let l = before_shorter flat.ports g past domain fits tick in
        let past_fits = before_fits flat.ports g past domain fits tick in
        let small : length past < limit = omega (arith, l) in
        held_later g past tick (reads past small past_fits inputs.enable.number 1 cell.1.3)
        (reads past small past_fits inputs.place.number ADDRESS_BITS cell.1.4)
        (reads past small past_fits inputs.value.number cell.1.5.0 cell.1.5.2)
        width 0 (furthers w.number 0 width) words (length-furthers w.number 0 width) all_wide (omega arith) nodes.words_there
        (held m past (omega (arith, l)) (omega (arith, l)) past_fits (before past domain) refl)

    -- a RAM of which nothing was read shows zeros
    pub ram_unread : (h : List Event) → before h domain ≡ None → HasWord flat h w.number (zeros width)
    ram_unread h none =
        subst (λ z. HaveBits flat.ports (blast flat) h (word flat w.number) z) (zeros_are width)
        (first_have flat.ports (blast flat) h domain cell.0 (word flat w.number) (ram_shown w.number width width (furthers w.number 0 width) words)
        (all_zeros width) none shown_long zeros_long nodes.last)

    -- what was shown at the last tick behind all words
    latest : (h past : List Event) (bits : List Bool) → before h domain ≡ Some past
        → HaveBits flat.ports (blast flat) past (ram_shown w.number width width (furthers w.number 0 width) words) bits → HasWord flat h w.number bits
    latest h past bits tick v =
        later_have flat.ports (blast flat) h domain cell.0 past (word flat w.number) (ram_shown w.number width width (furthers w.number 0 width) words)
        (all_zeros width) bits tick shown_long zeros_long nodes.last v

    held_at : (past : List Event) → length past < limit → FitsPorts flat.ports past → Held past width 0 words
    held_at past less fits = held (length past) past (omega arith) (omega arith) fits (before past domain) refl

    pub ram_outside : (h past : List Event) (a : List Bool) → before h domain ≡ Some past → length past < limit → FitsPorts flat.ports past
        → NetValue flat past inputs.read.number a → length words ≤ number_of a → HasWord flat h w.number (zeros width)
    ram_outside h past a tick less fits value le =
        let read : Reads flat past inputs.read.number = record {
          bits = a;
          value = value;
          have = before_kept past inputs.read.number less fits a value;
        } in
        let all : 0 + length words ≤ number_of a = omega (arith, le) in
        subst (λ z. HasWord flat h w.number z) (zeros_are width)
        (latest h past (replicate width false) tick
        (passed past read width 0 (furthers w.number 0 width) words (replicate width false) (length-furthers w.number 0 width) all_wide (omega arith)
        (inr all) nodes.words_there (held_at past less fits) (zeros_have past)))

    -- the word that was read
    pub ram_shows : (h past : List Event) (a bits : List Bool) → before h domain ≡ Some past → length past < limit → FitsPorts flat.ports past
        → NetValue flat past inputs.read.number a → number_of a < length words → NetValue flat h w.number bits → HasWord flat h w.number bits
    ram_shows h past a bits tick less fits value lt shown_bits =
        let read : Reads flat past inputs.read.number = record {
          bits = a;
          value = value;
          have = before_kept past inputs.read.number less fits a value;
        } in
        let there = found past read width 0 (furthers w.number 0 width) words (length-furthers w.number 0 width) all_wide (omega arith) (omega arith)
        (let l : number_of a < 0 + length words = omega (arith, lt) in l) nodes.words_there (held_at past less fits) (zeros_have past) in
        let same : there.value ≡ bits =
        one_value flat sound h w.number there.value bits (shown w ram h past a there.value has tick value lt there.word_is) shown_bits in
        subst (λ z. HasWord flat h w.number z) same (latest h past there.value tick there.have)
