-- What the streams of a program show at a history, and which input wires have it.
use Rattle.std.specs.Prelude.{slice_get}
use Rattle.std.proofs.Common.{◌≡◌, ◌<◌, ℕ, zero, suc, ◌+◌, Bool, List, [], ◌∷◌, ◌++◌, length, Some, refl, ap, ◌∙◌, subst, arith, length-append}
use Rattle.chw_clock.specs.Histories.{HaveWidths, FitsPorts}
use Rattle.chw_clock.specs.declared.event.Event.{Event}
use Rattle.chw_clock.specs.declared.event.Port.{Port}
use Rattle.chw_types.specs.declared.declarations.Data.{Data}
use Rattle.type_ports.specs.declared.ports.Leaf.{Leaf}
use Rattle.chw_types.specs.TypeTree.{TypeTree}
use Rattle.chw_terms.specs.declared.program.Program.{Program}
use Rattle.chw_layout.specs.Datum.{Datum}
use Rattle.chw_layout.specs.EncodingPromises.{EncodingHasWidth}
use Rattle.chw_layout.specs.Encodes.{Encodes}
use Rattle.chw_layout.specs.Measured.{HasWidth}
use Rattle.chw_meaning.specs.Gives.{Input, stream_in}
use Rattle.chw_meaning.specs.Means.{Decoded, decoded_none, decoded_and, Streams, no_streams, stream_and, stream_of_one}
use Rattle.chw_meaning.specs.Values.{History, stream, item_at}
use Rattle.carrying.specs.Carrying.{Shows}
use Rattle.netlist.specs.declared.net.Net.{Net}
use Rattle.use_laws.specs.ValueIn.{ValueIn, input}
use Rattle.net_grounds.specs.Facts.{Facts}

-- a list and one more
in_front : {A : Type 0} (xs : List A) (y : A) (j : ℕ) (x : A) → slice_get xs j ≡ Some x → slice_get (xs ++ y ∷ []) j ≡ Some x
in_front [] y j x e = absurd cc
in_front (z ∷ xs) y zero x e = e
in_front (z ∷ xs) y (suc j) x e = in_front xs y j x e

last_one : {A : Type 0} (xs : List A) (y : A) (n : ℕ) → length xs ≡ n → slice_get (xs ++ y ∷ []) n ≡ Some y
last_one [] y zero e = refl
last_one [] y (suc n) e = absurd (omega (arith, e))
last_one (x ∷ xs) y zero e = absurd (omega (arith, e))
last_one (x ∷ xs) y (suc n) e = last_one xs y n (omega (arith, e))

decoded_many : {datas : List Data} {t : TypeTree} {i : ℕ} {h : History} {ds : List Datum} → Decoded datas t i h ds → length ds ≡ length h
decoded_many decoded_none = refl
decoded_many (decoded_and {d = d} {ds = ds} e x more) =
    let one = length-append ds (d ∷ []) in let rest = decoded_many more in omega (arith, one, rest)

-- the bits of an input in the present event, and the item that they decode to
record Item (datas : List Data) (t : TypeTree) (i : ℕ) (present : Event) (past : History) (ds : List Datum) : Type 0 where
  bits : List Bool
  there : slice_get present.inputs i ≡ Some bits
  datum : Datum
  encodes : Encodes datas t datum bits
  item : item_at ds (present ∷ past) ≡ Some datum

item_of : {datas : List Data} {t : TypeTree} {i : ℕ} {last : History} {ds : List Datum} → Decoded datas t i last ds → (later : History) (present : Event) (past : History) → last ≡ later ++ present ∷ past → Item datas t i present past ds
item_of decoded_none [] present past e = absurd cc
item_of decoded_none (x ∷ later) present past e = absurd cc
item_of {i = i} (decoded_and {present = event} {past = before} {b = b} {d = d} {ds = ds} at x more) [] present past e =
    let now : event ≡ present = cc in
    let then : before ≡ past = cc in
    let many : length ds ≡ length past = decoded_many more ∙ ap (λ (h : History). length h) then in
    record {
      bits = b;
      there = subst (λ (event : Event). slice_get event.inputs i ≡ Some b) now at;
      datum = d;
      encodes = x;
      item = last_one ds d (length past) many;
    }
item_of (decoded_and {past = before} {d = d} {ds = ds} at x more) (event ∷ later) present past e =
    let then : before ≡ later ++ present ∷ past = cc in
    let it = item_of more later present past then in
    record { bits = it.bits; there = it.there; datum = it.datum; encodes = it.encodes; item = in_front ds d (length past) it.datum it.item }

-- what streams of these leaves show at the history; the input wires from this number on have it, one for each leaf that has bits
pub data Shown (p : Program) (net : Net) (h : History) : ℕ → List Leaf → List Input → Type 0 where
  nothing_shown : {n : ℕ} {ins : List Input} → Shown p net h n [] ins
  no_bits_shown : {n : ℕ} {leaf : Leaf} {leaves : List Leaf} {ds : List Datum} {ins : List Input} → HasWidth p.datas leaf.payload zero → Shown p net h n leaves ins → Shown p net h n (leaf ∷ leaves) (stream_in ds ∷ ins)
  bits_shown : {n w : ℕ} {leaf : Leaf} {leaves : List Leaf} {ds : List Datum} {ins : List Input} {bits : List Bool} → HasWidth p.datas leaf.payload (suc w) → Shows p leaf.payload (stream ds) h bits → ValueIn net [] h n bits → length bits ≡ suc w → Shown p net h (n + 1) leaves ins
      → Shown p net h n (leaf ∷ leaves) (stream_in ds ∷ ins)

input_within : (ports : List Port) (inputs : List (List Bool)) (i : ℕ) (bits : List Bool) → HaveWidths ports inputs → slice_get inputs i ≡ Some bits → i < length ports
input_within [] [] i bits h e = absurd cc
input_within [] (x ∷ inputs) i bits h e = absurd h
input_within (port ∷ ports) [] i bits h e = absurd h
input_within (port ∷ ports) (x ∷ inputs) zero bits h e = omega arith
input_within (port ∷ ports) (x ∷ inputs) (suc i) bits h e = let l = input_within ports inputs i bits h.1 e in omega (arith, l)

pub streams_show : Facts → EncodingHasWidth → {p : Program} (net : Net) {i : ℕ} {leaves : List Leaf} {last : History} {ins : List Input} → Streams p.datas leaves i last ins → (later : History) (present : Event) (past : History) → last ≡ later ++ present ∷ past → FitsPorts net.ports (present ∷ past) → Shown p net (present ∷ past) i leaves ins
streams_show facts wide net no_streams later present past e fits = nothing_shown
streams_show facts wide {p} net (stream_and {leaf = leaf} {leaves = leaves} {w = w} {i = i} {ins = ins} has decoded more) later present past e fits =
    let it = item_of decoded later present past e in
    let next : suc i ≡ i + 1 = omega arith in
    bits_shown has (facts.shows.stream_shows (suc w) has it.item it.encodes) (input i present past it.bits (input_within net.ports.inputs present.inputs i it.bits fits.0.inputs it.there) it.there)
    (wide p.datas leaf.payload it.datum (suc w) it.bits has it.encodes)
    (subst (λ n. Shown p net (present ∷ past) n leaves ins) next (streams_show facts wide net more later present past e fits))
streams_show facts wide net (stream_of_one has z more) later present past e fits = no_bits_shown has (streams_show facts wide net more later present past e fits)
