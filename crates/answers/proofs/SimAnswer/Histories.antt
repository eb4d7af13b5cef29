-- Events whose inputs encode values are a history of the program.
use Rattle.std.proofs.Common.{◌≡◌, ℕ, suc, zero, ◌<◌, Bool, List, [], ◌∷◌, ◌++◌, length, drop, replicate, Some, refl, sym, subst, arith}
use Rattle.std.specs.List.{AllByRecursion}
use Rattle.std.specs.Prelude.{reverse, slice_get}
use Rattle.std.proofs.lemmas.List.{length-reverse, reverse-append}
use Rattle.chw_clock.specs.Histories.{FitsEvent}
use Rattle.chw_clock.specs.declared.event.Event.{Event}
use Rattle.chw_clock.specs.declared.event.Ports.{Ports}
use Rattle.chw_types.specs.TypeTree.{TypeTree}
use Rattle.chw_types.specs.declared.declarations.Data.{Data}
use Rattle.type_ports.specs.declared.ports.Leaf.{Leaf}
use Rattle.chw_terms.specs.declared.program.Program.{Program}
use Rattle.chw_layout.specs.Datum.{Datum}
use Rattle.chw_layout.specs.Encodes.{HaveConstructors}
use Rattle.chw_meaning.specs.Gives.{Input, stream_in}
use Rattle.chw_meaning.specs.Means.{Decoded, decoded_none, decoded_and, Fit, Streams, no_streams, stream_and, stream_of_one}
use Rattle.chw_meaning.specs.Values.{History}
use Rattle.layout_laws.specs.ZeroThere.{ZeroExists}
use Rattle.stimulus.specs.Stimulus.{Stim}
use Rattle.stimulus.specs.Texts.{lines_of}
use Rattle.stimulus.proofs.Fits.{events_fit}
use Rattle.answers.specs.SimAnswer.Laws.{HistoriesFit}
use Rattle.data_forms.specs.Forms.{IsEncoding}
use Rattle.answers.specs.SimAnswer.Simulation.{AllPairs, HasInputs, HasValues, TypesOf, no_type, type_of, no_type_of}
use Rattle.answers.proofs.SimAnswer.Pairs.{all_before, all_push}

-- from this input on an event's inputs encode values of these types
abbrev HasFrom : List Data → List TypeTree → ℕ → Event → Type 0
HasFrom datas types i e = AllPairs (IsEncoding datas) types (drop i e.inputs)

record InputAt (datas : List Data) (t : TypeTree) (types : List TypeTree) (inputs : List (List Bool)) (i : ℕ) : Type 0 where
  pub bits : List Bool
  pub is_input : slice_get inputs i ≡ Some bits
  pub value : IsEncoding datas t bits
  pub rest : AllPairs (IsEncoding datas) types (drop (suc i) inputs)

input_at : (datas : List Data) (t : TypeTree) (types : List TypeTree) (inputs : List (List Bool)) (i : ℕ) → AllPairs (IsEncoding datas) (t ∷ types) (drop i inputs) → InputAt datas t types inputs i
input_at datas t types [] zero all = absurd all
input_at datas t types [] (suc i) all = absurd all
input_at datas t types (b ∷ inputs) zero all = record { bits = b; is_input = refl; value = all.0; rest = all.1 }
input_at datas t types (b ∷ inputs) (suc i) all =
    let at = input_at datas t types inputs i all in
    record { bits = at.bits; is_input = at.is_input; value = at.value; rest = at.rest }

-- ---- what an input decodes to

record DecodedAt (datas : List Data) (t : TypeTree) (types : List TypeTree) (i : ℕ) (h : History) : Type 0 where
  pub values : List Datum
  pub decoded : Decoded datas t i h values
  pub rest : AllByRecursion (HasFrom datas types (suc i)) h

decoded_at : (datas : List Data) (t : TypeTree) (types : List TypeTree) (i : ℕ) (h : History) → AllByRecursion (HasFrom datas (t ∷ types) i) h → DecodedAt datas t types i h
decoded_at datas t types i [] all = record { values = []; decoded = decoded_none; rest = tt }
decoded_at datas t types i (e ∷ h) all =
    let at = input_at datas t types e.inputs i all.0 in
    let more = decoded_at datas t types i h all.1 in
    record { values = more.values ++ at.value.0 ∷ []; decoded = decoded_and at.is_input at.value.1 more.decoded; rest = (at.rest, more.rest) }

-- ---- the streams

record StreamsAt (datas : List Data) (leaves : List Leaf) (i : ℕ) (h : History) : Type 0 where
  pub streams : List Input
  pub are : Streams datas leaves i h streams

streams_at : {datas : List Data} {leaves : List Leaf} {types : List TypeTree} → ZeroExists → HaveConstructors datas → TypesOf datas leaves types → (i : ℕ) (h : History)
    → AllByRecursion (HasFrom datas types i) h → StreamsAt datas leaves i h
streams_at zeros cons no_type i h all = record { streams = []; are = no_streams }
streams_at {datas} zeros cons (type_of {leaf = leaf} {types = types} w more) i h all =
    let d = decoded_at datas leaf.payload types i h all in
    let rest = streams_at zeros cons more (suc i) h d.rest in
    record { streams = stream_in d.values ∷ rest.streams; are = stream_and w d.decoded rest.are }
streams_at {datas} zeros cons (no_type_of {leaf = leaf} w more) i h all =
    let z = zeros datas leaf.payload zero cons w in
    let rest = streams_at zeros cons more i h all in
    record { streams = stream_in (replicate (length h) z.0) ∷ rest.streams; are = stream_of_one w z.1 rest.are }

-- ---- the history

pub history_fits : ZeroExists → (p : Program) (ports : Ports) (types : List TypeTree) (e : Event) (past : List Event) → HaveConstructors p.datas → HasInputs p ports types
    → AllByRecursion (FitsEvent ports) (e ∷ past) → AllByRecursion (HasValues p.datas types) (e ∷ past) → Fit p (e ∷ past)
history_fits zeros p ports types e past cons has fit values =
    let s = streams_at zeros cons has.are_types zero (e ∷ past) values in
    record { ports = ports; are_ports = has.are_ports; fits = fit; streams = s.streams; decode = s.are }

-- the events of a stimulus fit its ports
pub stimulus_fits : (text : List ℕ) (ports : Ports) (events : List Event) → Stim text ports events → AllByRecursion (FitsEvent ports) events
stimulus_fits text ports events read = subst (AllByRecursion (FitsEvent ports)) (sym read.events_are) (events_fit ports (lines_of text) read.right)

all_reverse : {A : Type 0} (P : A → Type 0) (xs : List A) → AllByRecursion P xs → AllByRecursion P (reverse xs)
all_reverse P [] all = tt
all_reverse P (x ∷ xs) all = subst (AllByRecursion P) (sym (reverse-append (x ∷ []) xs)) (all_push P (reverse xs) x (all_reverse P xs all.1) all.0)

any_fits : ZeroExists → (p : Program) (ports : Ports) (types : List TypeTree) (h : List Event) → HaveConstructors p.datas → HasInputs p ports types → 0 < length h
    → AllByRecursion (FitsEvent ports) h → AllByRecursion (HasValues p.datas types) h → Fit p h
any_fits zeros p ports types [] cons has some fit values = absurd (omega (arith, some))
any_fits zeros p ports types (e ∷ past) cons has some fit values = history_fits zeros p ports types e past cons has fit values

pub histories_fit : ZeroExists → HistoriesFit
histories_fit zeros p text ports events earlier later tidy s e some =
    let fit = all_before (FitsEvent ports) earlier later (subst (AllByRecursion (FitsEvent ports)) e (stimulus_fits text ports events s.read)) in
    let values = all_before (HasValues p.datas s.types) earlier later (subst (AllByRecursion (HasValues p.datas s.types)) e s.values) in
    any_fits zeros p ports s.types (reverse earlier) tidy.inhabited s.has (let n = length-reverse earlier in omega (arith, n, some))
    (all_reverse (FitsEvent ports) earlier fit) (all_reverse (HasValues p.datas s.types) earlier values)
