-- The words of a block RAM by the chain of its ticks.
use Rattle.std.specs.Prelude.{slice_get, Option, None, replicate, false, ◌%◌, ◌^◌, ◌==◌, if◌then◌else◌}
use Rattle.std.proofs.Common.{◌≡◌, ◌<◌, ◌≤◌, ℕ, zero, suc, Bool, true, List, [], ◌∷◌, length, Some, refl, sym, ap, ◌∙◌, subst, arith, ◌⊎◌, inl, inr}
use Rattle.std.proofs.Math.Nat.{zero-div}
use Rattle.std.proofs.lemmas.Bool.{cases_lt}
use Rattle.std.proofs.lemmas.Bool.Decides.{Decides-eqb}
use Rattle.chw_base.specs.declared.index.DomId.{DomId}
use Rattle.chw_base.specs.declared.limits.TheConstants.{VECTOR_LENGTH}
use Rattle.chw_bits.specs.Bits.{number_of}
use Rattle.chw_clock.specs.Histories.{before, up_to_tick, ticks}
use Rattle.chw_clock.specs.declared.event.Event.{Event}
use Rattle.chw_types.specs.TypeTree.{TypeTree}
use Rattle.chw_terms.specs.declared.program.Program.{Program}
use Rattle.chw_layout.specs.Datum.{Datum}
use Rattle.chw_meaning.specs.Values.{History, Value, con_of, Thunk, field, element, none, thunk_and, value_of}
use Rattle.chw_meaning.specs.Steps.{Ram, remembers}
use Rattle.chw_meaning.specs.Eval.{plus, dom, last_tick, Forces, Looks, Runs, r_zero_first, r_zero_outside, r_word, Word, w_content, w_kept, w_elsewhere, w_written}
use Rattle.chw_meaning.specs.Zeros.{IsZero, IsWide}
use Rattle.carrying.specs.Carrying.{Holds, Shows, shows_nothing, shows_bits}
use Rattle.netlist.specs.NetValue.{Memory, zeros}
use Rattle.netlist.specs.declared.net.Net.{Net}
use Rattle.net_built.specs.Memories.{past_all}
use Rattle.net_built.specs.Wires.{wire}
use Rattle.use_laws.specs.ValueIn.{ValueIn, HasRamAt, HasWidthAt, unread, outside, shown, WordIn, unwritten, written, kept}
use Rattle.cell_bits.specs.AddressLaws.{narrow}
use Rattle.net_grounds.specs.Facts.{Facts}
use Rattle.net_means.specs.CircuitBits.Memories.{IsEarlier, last_before, further_before}
use Rattle.net_means.proofs.CircuitBits.MemoryCells.{idle, written_here, written_elsewhere}

zeros_of_zero : (n : ℕ) → zeros n ≡ replicate n false
zeros_of_zero zero = refl
zeros_of_zero (suc n) = let bit = ap (λ q. (q % 2) == 1) (zero-div (2 ^ n)) in λ i. bit i ∷ zeros_of_zero n i

-- the history at an earlier tick is shorter
up_to : (h g : List Event) (d : DomId) → up_to_tick h d ≡ Some g → length g ≤ length h
up_to [] g d e = absurd cc
up_to (event ∷ past) g d e = by (ticks event d) (λ f. up_to past g d f) e
  where
    by : (b : Bool) → (up_to_tick past d ≡ Some g → length g ≤ length past) → (if b then Some (event ∷ past) else up_to_tick past d) ≡ Some g → length g ≤ length (event ∷ past)
    by true rest e = let is : event ∷ past ≡ g = cc in omega (arith, ap length is)
    by false rest e = let less = rest e in omega (arith, less)

shorter : (h g : List Event) (d : DomId) → before h d ≡ Some g → length g < length h
shorter [] g d e = absurd cc
shorter (event ∷ past) g d e = let less = up_to past g d e in omega (arith, less)

-- a thunk that shows bits of a type with some has a value that holds them
record Forced (p : Program) (a : TypeTree) (th : Thunk) (h : History) (b : List Bool) : Type 0 where
  turns : ℕ
  value : Value
  forces : Forces p turns th h value
  holds : Holds p a value b

forced : Facts → {p : Program} {a : TypeTree} {th : Thunk} {h : History} {b : List Bool} → IsWide p.datas a → Shows p a th h b → Forced p a th h b
forced facts wide (shows_nothing z) = let bad : 0 ≡ suc wide.0 = facts.widths.width_once z wide.1 in absurd (omega (arith, bad))
forced facts wide (shows_bits {n = n} {v = v} some f held) = record { turns = n; value = v; forces = f; holds = held }

-- what is known of the write at a tick, as it is meant and on the wires
pub data WriteHas (p : Program) (net : Net) (path : List ℕ) (ram : Ram) (mem : Memory) (a : TypeTree) (g : History) : Type 0 where
  no_write : {n : ℕ} (place : List Bool) → Forces p n ram.write g (con_of 2 none)
      → ValueIn net path g mem.inputs.enable.number (false ∷ []) → ValueIn net path g mem.inputs.place.number (narrow place)
      → WriteHas p net path ram mem a g
  a_write : {m n : ℕ} {couple : Thunk} {place value : List Bool} → Forces p m ram.write g (con_of 3 (thunk_and couple none))
      → Looks p n ram.address (field 1 couple) g place → Shows p a (field 0 couple) g value
      → ValueIn net path g mem.inputs.enable.number (true ∷ []) → ValueIn net path g mem.inputs.place.number (narrow place) → ValueIn net path g mem.inputs.value.number value
      → WriteHas p net path ram mem a g

-- and of the address that is read
pub record ReadHas (p : Program) (net : Net) (path : List ℕ) (ram : Ram) (mem : Memory) (g : History) : Type 0 where
  pub bits : List Bool
  pub turns : ℕ
  pub looks : Looks p turns ram.address ram.read g bits
  pub value : ValueIn net path g mem.inputs.read.number (narrow bits)

-- a word of the content
pub record ContentHas (p : Program) (ram : Ram) (mem : Memory) (a : TypeTree) (i : ℕ) : Type 0 where
  pub bits : List Bool
  pub word : slice_get mem.words i ≡ Some bits
  pub shows : (h : History) → Shows p a (element i ram.content) h bits

-- a zero of the values
pub record ZeroHas (p : Program) (ram : Ram) (a : TypeTree) (width : ℕ) : Type 0 where
  pub zero_value : Datum
  pub is : IsZero p.datas ram.payload zero_value
  pub holds : Holds p a (value_of zero_value) (replicate width false)

-- what the RAM has at the history, as it is meant and on its wire
pub record RamHas (p : Program) (net : Net) (path : List ℕ) (ram : Ram) (a : TypeTree) (h : History) (w : ℕ) : Type 0 where
  pub bits : List Bool
  pub turns : ℕ
  pub value : Value
  pub runs : Runs p turns (remembers ram) h value
  pub holds : Holds p a value bits
  pub on_wire : ValueIn net path h w bits

module _ (facts : Facts) (p : Program) (net : Net) (path : List ℕ) (ram : Ram) (mem : Memory) (a : TypeTree) (wide : IsWide p.datas a) (clock : mem.domain ≡ dom ram.dom) (size : length mem.words ≡ ram.size) (small : ram.size ≤ VECTOR_LENGTH) (content : (i : ℕ) → i < ram.size → ContentHas p ram mem a i) where
  -- the word at an address
  record WordHas (h : History) (i : ℕ) : Type 0 where
    bits : List Bool
    turns : ℕ
    value : Value
    word : Word p turns ram h i value
    holds : Holds p a value bits
    on_wires : WordIn net path mem h i bits

  abbrev pub Writes : History → Type 0
  Writes h = (g : History) → IsEarlier ram.dom h g → WriteHas p net path ram mem a g

  -- by the write of the last tick, and the word before it
  after_write : (h g : History) (i : ℕ) → i < ram.size → last_tick ram h ≡ Some g → WriteHas p net path ram mem a g → WordHas g i → WordHas h i
  after_write h g i l e (no_write place f enable at) w =
      let tick : before h mem.domain ≡ Some g = ap (before h) clock ∙ e in
      record {
        bits = w.bits;
        turns = suc (plus _ w.turns);
        value = w.value;
        word = w_kept e f w.word;
        holds = w.holds;
        on_wires = kept path mem h g i (false ∷ []) (narrow place) w.bits tick enable at (idle (narrow place) i) w.on_wires;
      }
  after_write h g i l e (a_write {place = place} {value = bits} f looks shows enable at stands) w = by (number_of place == i) refl
    where
      tick : before h mem.domain ≡ Some g
      tick = ap (before h) clock ∙ e

      below : i < past_all
      below = omega (arith, l, small)

      by : (b : Bool) → (number_of place == i) ≡ b → WordHas h i
      by true is =
          let number : number_of place ≡ i = (Decides-eqb (number_of place) i).0 is in
          let x = forced facts wide shows in
          record {
            bits = bits;
            turns = suc (plus _ (plus _ x.turns));
            value = x.value;
            word = w_written e f looks number x.forces;
            holds = x.holds;
            on_wires = written path mem h g i (true ∷ []) (narrow place) bits tick enable at (written_here facts place i below number) stands;
          }
      by false is =
          let other : ¬ (number_of place ≡ i) = λ same. let t : (number_of place == i) ≡ true = (Decides-eqb (number_of place) i).1 same in absurd cc in
          record {
            bits = w.bits;
            turns = suc (plus _ (plus _ w.turns));
            value = w.value;
            word = w_elsewhere e f looks other w.word;
            holds = w.holds;
            on_wires = kept path mem h g i (true ∷ []) (narrow place) w.bits tick enable at (written_elsewhere facts place i below other) w.on_wires;
          }

  word_by : (h : History) → Writes h → (i : ℕ) → i < ram.size → ((g : History) → last_tick ram h ≡ Some g → Writes g → WordHas g i) → (tick : Option (List Event)) → last_tick ram h ≡ tick → WordHas h i
  word_by h all i l rest None e =
      let c = content i l in
      let x = forced facts wide (c.shows h) in
      record {
        bits = c.bits;
        turns = x.turns;
        value = x.value;
        word = w_content e x.forces;
        holds = x.holds;
        on_wires = unwritten path mem h i c.bits (ap (before h) clock ∙ e) c.word;
      }
  word_by h all i l rest (Some g) e = after_write h g i l e (all g (last_before e)) (rest g e (λ k f. all k (further_before e f)))

  word_has : (limit : ℕ) (h : History) → length h ≤ limit → Writes h → (i : ℕ) → i < ram.size → WordHas h i
  word_has zero h le all i l = word_by h all i l (λ g e. let less = shorter h g (dom ram.dom) e in absurd (omega (arith, le, less))) (last_tick ram h) refl
  word_has (suc limit) h le all i l =
      word_by h all i l (λ g e writes. let less = shorter h g (dom ram.dom) e in word_has limit g (omega (arith, le, less)) writes i l) (last_tick ram h) refl

  pub ram_has : (w : ℕ) (h : History) (width : ℕ) → ZeroHas p ram a width → HasRamAt net path (wire w) mem → HasWidthAt net path (wire w) width → Writes h → ((g : History) → IsEarlier ram.dom h g → ReadHas p net path ram mem g)
      → RamHas p net path ram a h w
  ram_has w h width z has wires all reads = by (last_tick ram h) refl
    where
      zero_bits : ValueIn net path h w (zeros width) → ValueIn net path h w (replicate width false)
      zero_bits v = subst (λ bits. ValueIn net path h w bits) (zeros_of_zero width) v

      at_read : (g : History) → last_tick ram h ≡ Some g → (r : ReadHas p net path ram mem g) → (number_of r.bits < ram.size) ⊎ (ram.size ≤ number_of r.bits) → RamHas p net path ram a h w
      at_read g e r (inl less) =
          let x = word_has (length g) g (omega arith) (λ k f. all k (further_before e f)) (number_of r.bits) less in
          let number : number_of (narrow r.bits) ≡ number_of r.bits = omega (arith, facts.data_cells.narrow_number r.bits, less, small) in
          record {
            bits = x.bits;
            turns = plus r.turns x.turns;
            value = x.value;
            runs = r_word e r.looks less x.word;
            holds = x.holds;
            on_wire = shown path (wire w) mem h g (narrow r.bits) x.bits has (ap (before h) clock ∙ e) r.value (omega (arith, number, less, size)) (subst (λ i. WordIn net path mem g i x.bits) (sym number) x.on_wires);
          }
      at_read g e r (inr more) = record {
        bits = replicate width false;
        turns = r.turns;
        value = value_of z.zero_value;
        runs = r_zero_outside e r.looks more z.is;
        holds = z.holds;
        on_wire = zero_bits (outside path (wire w) mem width h g (narrow r.bits) has wires (ap (before h) clock ∙ e) r.value (omega (arith, facts.data_cells.narrow_number r.bits, more, size, small)));
      }

      by : (tick : Option (List Event)) → last_tick ram h ≡ tick → RamHas p net path ram a h w
      by None e = record {
        bits = replicate width false;
        turns = zero;
        value = value_of z.zero_value;
        runs = r_zero_first e z.is;
        holds = z.holds;
        on_wire = zero_bits (unread path (wire w) mem width h has wires (ap (before h) clock ∙ e));
      }
      by (Some g) e = let r = reads g (last_before e) in at_read g e r (cases_lt (number_of r.bits) ram.size)
