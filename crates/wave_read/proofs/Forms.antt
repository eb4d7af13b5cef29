-- The productions of the grammar, as rows of words before words of a language.
use Rattle.std.proofs.Common.{◌≡◌, ℕ, List, [], ◌∷◌, ◌++◌, length, codes, refl, sym, subst}
use Rattle.chw_base.specs.Outcome.{OfFault}
use Rattle.chw_base.specs.declared.outcome.Or.{Or}
use Rattle.chw_base.specs.declared.outcome.Or.TheVariants.{Fault, Memory}
use Rattle.wave_text.specs.Faults.{FailsAt, HasSource}
use Rattle.wave_read.specs.Reading.{FailsBehind, HasChanges, HasDeclarations, HasTimes, first_slots, last_slots, variable_slots}
use Rattle.wave_read.specs.Slots.{FailsRow, Fits, FitsRow}
use Rattle.wave_text.specs.VcdText.{AreChanges, AreDeclarations, Behind, Declared, IsSource, Moment, Source, first_words}
use Rattle.wave_text.specs.VcdText.AreChanges.{none as no_changes}
use Rattle.wave_text.specs.VcdText.AreDeclarations.{last as no_declarations, next as variable}
use Rattle.wave_text.specs.Words.{Word, word, words_of}
use Rattle.wave_read.specs.declared.slots.Slot.{Slot}
use Rattle.wave_text.proofs.Heads.{apart}
use Rattle.wave_read.proofs.Failing.{RowThen, alike, ends_here, later, leaves_here, row_down, row_fails, row_up}

-- each language has a text
some_changes : (more : List Word) × HasChanges more
some_changes = ([], ([], [], no_changes))

some_times : (more : List Word) × HasTimes more
some_times = ([], ([], no_changes))

abbrev plain : List ℕ → Word
plain bytes = word 0 bytes

some_declarations : (more : List Word) × HasDeclarations more
some_declarations = (
  plain (codes "$upscope") ∷ plain (codes "$end") ∷ plain (codes "$enddefinitions") ∷ plain (codes "$end") ∷ [],
  (
    [],
    [],
    no_declarations (plain (codes "$upscope")) (plain (codes "$end") ∷ plain (codes "$enddefinitions") ∷ plain (codes "$end") ∷ []) [] refl
        (refl, (refl, (refl, no_changes))),
  ),
)

-- the places are for just these words
Exact : List Slot → List (List ℕ) → Type 0
Exact [] [] = Unit {0}
Exact (slot ∷ slots) (bytes ∷ others) = (((x : List ℕ) → Fits slot x → x ≡ bytes) × ((x : List ℕ) → x ≡ bytes → Fits slot x)) × Exact slots others
Exact _ _ = ⊥

exact_row : (slots : List Slot) (texts : List (List ℕ)) (Language : List Word → Type 0) (words : List Word) → Exact slots texts
    → Behind texts Language words → RowThen slots Language words
unfolding Exact
exact_row [] [] Language words exact is = is
exact_row [] (bytes ∷ texts) Language words exact is = absurd exact
exact_row (slot ∷ slots) [] Language words exact is = absurd exact
exact_row (slot ∷ slots) (bytes ∷ texts) Language [] exact is = is
exact_row (slot ∷ slots) (bytes ∷ texts) Language (w ∷ words) exact is = (exact.0.1 w.bytes is.0, exact_row slots texts Language words exact.1 is.1)

row_exact : (slots : List Slot) (texts : List (List ℕ)) (Language : List Word → Type 0) (words : List Word) → Exact slots texts
    → RowThen slots Language words → Behind texts Language words
unfolding Exact
row_exact [] [] Language words exact is = is
row_exact [] (bytes ∷ texts) Language words exact is = absurd exact
row_exact (slot ∷ slots) [] Language words exact is = absurd exact
row_exact (slot ∷ slots) (bytes ∷ texts) Language [] exact is = is
row_exact (slot ∷ slots) (bytes ∷ texts) Language (w ∷ words) exact is = (exact.0.0 w.bytes is.0, row_exact slots texts Language words exact.1 is.1)

-- a row before words of another language
row_map : (slots : List Slot) (A B : List Word → Type 0) (words : List Word) → ((more : List Word) → A more → B more)
    → RowThen slots A words → RowThen slots B words
row_map [] A B words f row = f words row
row_map (slot ∷ slots) A B [] f row = row
row_map (slot ∷ slots) A B (w ∷ words) f row = (row.0, row_map slots A B words f row.1)

-- a row before words of some language
row_some_of : {X : Type 0} (slots : List Slot) (Each : X → List Word → Type 0) (words : List Word) → RowThen slots (λ more. (x : X) × Each x more) words
    → (x : X) × RowThen slots (Each x) words
row_some_of [] Each words row = row
row_some_of (slot ∷ slots) Each [] row = absurd row
row_some_of (slot ∷ slots) Each (w ∷ words) row =
    let others = row_some_of slots Each words row.1 in
    (others.0, (row.0, others.1))

exact_last : Exact last_slots (codes "$end" ∷ codes "$enddefinitions" ∷ codes "$end" ∷ [])
unfolding Exact
exact_last = ((λ x is. is, λ x is. is), ((λ x is. is, λ x is. is), ((λ x is. is, λ x is. is), tt)))

exact_first : Exact first_slots first_words
unfolding Exact
exact_first = (
  (λ x is. is, λ x is. is),
  (
    (λ x is. is, λ x is. is),
    (
      (λ x is. is, λ x is. is),
      (
        (λ x is. is, λ x is. is),
        ((λ x is. is, λ x is. is), ((λ x is. is, λ x is. is), ((λ x is. is, λ x is. is), ((λ x is. is, λ x is. is), tt)))),
      ),
    ),
  ),
)

-- behind `$upscope`
last_of : (w : Word) (words : List Word) (declared : List Declared) (moments : List Moment) → w.bytes ≡ codes "$upscope"
    → AreDeclarations (w ∷ words) declared moments → RowThen last_slots HasTimes words
last_of w words _ moments is (no_declarations _ _ _ there rest) =
    row_map last_slots (λ more. AreChanges more [] moments) HasTimes words (λ more it. (moments, it))
    (exact_row last_slots (codes "$end" ∷ codes "$enddefinitions" ∷ codes "$end" ∷ []) (λ more. AreChanges more [] moments) words exact_last rest)
last_of w _ _ moments is (variable _ v n c name e words width others _ there second third fourth fifth sixth rest) = absurd (apart w.bytes there is)

last_down : (w : Word) (words : List Word) → w.bytes ≡ codes "$upscope" → HasDeclarations (w ∷ words) → RowThen last_slots HasTimes words
last_down w words is it = last_of w words it.0 it.1 is it.2

pub last_form : (w : Word) (words : List Word) (moments : List Moment) → w.bytes ≡ codes "$upscope"
    → RowThen last_slots (λ more. AreChanges more [] moments) words → AreDeclarations (w ∷ words) [] moments
last_form w words moments is row =
    no_declarations w words moments is
    (row_exact last_slots (codes "$end" ∷ codes "$enddefinitions" ∷ codes "$end" ∷ []) (λ more. AreChanges more [] moments) words exact_last row)

last_up : (w : Word) (words : List Word) → w.bytes ≡ codes "$upscope" → RowThen last_slots HasTimes words → HasDeclarations (w ∷ words)
last_up w words is row =
    let some = row_some_of last_slots (λ (moments : List Moment) (more : List Word). AreChanges more [] moments) words row in
    ([], some.0, last_form w words some.0 is some.1)

-- behind `$var`
variable_of_words : (w : Word) (words : List Word) (declared : List Declared) (moments : List Moment) → w.bytes ≡ codes "$var"
    → AreDeclarations (w ∷ words) declared moments → RowThen variable_slots HasDeclarations words
variable_of_words w words _ moments is (no_declarations _ _ _ there rest) = absurd (apart w.bytes is there)
variable_of_words w _ _ moments is (variable _ v n c name e words width others _ there second third fourth fifth sixth rest) =
    (second, ((width, third), (fourth, (fifth, (sixth, (others, moments, rest))))))

variable_down : (w : Word) (words : List Word) → w.bytes ≡ codes "$var" → HasDeclarations (w ∷ words) → RowThen variable_slots HasDeclarations words
variable_down w words is it = variable_of_words w words it.0 it.1 is it.2

variable_up : (w : Word) (words : List Word) → w.bytes ≡ codes "$var" → RowThen variable_slots HasDeclarations words → HasDeclarations (w ∷ words)
variable_up w [] is row = absurd row
variable_up w (v ∷ []) is row = absurd row.1
variable_up w (v ∷ n ∷ []) is row = absurd row.1.1
variable_up w (v ∷ n ∷ c ∷ []) is row = absurd row.1.1.1
variable_up w (v ∷ n ∷ c ∷ name ∷ []) is row = absurd row.1.1.1.1
variable_up w (v ∷ n ∷ c ∷ name ∷ e ∷ words) is row =
    let rest = row.1.1.1.1.1 in
    let width = row.1.0.0 in (
      (record { at = c.at; width = width; code = c.bytes; name = name.bytes }) ∷ rest.0,
      rest.1,
      variable w v n c name e words width rest.0 rest.1 is row.0 row.1.0.1 row.1.1.0 row.1.1.1.0 row.1.1.1.1.0 rest.2,
    )

-- one word, and behind it a row
one_before : (Outer Inner : List Word → Type 0) (slots : List Slot) (w : Word) (end : ℕ) (p words : List Word) (at : ℕ) → FitsRow slots p
    → ((more : List Word) → Outer (w ∷ more) → RowThen slots Inner more) → ((more : List Word) → RowThen slots Inner more → Outer (w ∷ more))
    → FailsAt Inner end words at → FailsAt Outer end (w ∷ (p ++ words)) at
one_before Outer Inner slots w end p words at fits down up fails =
    later Outer Inner (w ∷ p) end words at (λ more is. row_down slots Inner p more fits (down (p ++ more) is)) (λ more is. up (p ++ more) (row_up slots Inner p more fits is)) fails

-- a row that fails behind a word
row_behind : (Outer Inner : List Word → Type 0) (slots : List Slot) (w : Word) (end : ℕ) (words : List Word) (at : ℕ) → ((more : List Word) × Inner more)
    → ((more : List Word) → Outer (w ∷ more) → RowThen slots Inner more) → ((more : List Word) → RowThen slots Inner more → Outer (w ∷ more))
    → FailsRow slots end words at → FailsAt Outer end (w ∷ words) at
row_behind Outer Inner slots w end words at some down up fails =
    later Outer (RowThen slots Inner) (w ∷ []) end words at down up (row_fails slots Inner end words at some fails)

pub variable_fails : (w : Word) (end : ℕ) (words : List Word) (at : ℕ) → w.bytes ≡ codes "$var" → FailsRow variable_slots end words at
    → FailsAt HasDeclarations end (w ∷ words) at
variable_fails w end words at is fails =
    row_behind HasDeclarations HasDeclarations variable_slots w end words at some_declarations (λ more. variable_down w more is) (λ more. variable_up w more is) fails

pub variable_behind : (w : Word) (end : ℕ) (p words : List Word) → w.bytes ≡ codes "$var" → FitsRow variable_slots p
    → FailsBehind HasDeclarations HasDeclarations end words (w ∷ (p ++ words))
variable_behind w end p words is fits at fails =
    one_before HasDeclarations HasDeclarations variable_slots w end p words at fits (λ more. variable_down w more is) (λ more. variable_up w more is) fails

pub last_fails : (w : Word) (end : ℕ) (words : List Word) (at : ℕ) → w.bytes ≡ codes "$upscope" → FailsRow last_slots end words at
    → FailsAt HasDeclarations end (w ∷ words) at
last_fails w end words at is fails =
    row_behind HasDeclarations HasTimes last_slots w end words at some_times (λ more. last_down w more is) (λ more. last_up w more is) fails

pub last_behind : (w : Word) (end : ℕ) (p words : List Word) → w.bytes ≡ codes "$upscope" → FitsRow last_slots p
    → FailsBehind HasTimes HasDeclarations end words (w ∷ (p ++ words))
last_behind w end p words is fits at fails =
    one_before HasDeclarations HasTimes last_slots w end p words at fits (λ more. last_down w more is) (λ more. last_up w more is) fails

-- neither `$var` nor `$upscope`
other_of : (w : Word) (words : List Word) (declared : List Declared) (moments : List Moment) → (w.bytes ≡ codes "$var" → ⊥) → (w.bytes ≡ codes "$upscope" → ⊥)
    → AreDeclarations (w ∷ words) declared moments → ⊥
other_of w words _ moments no_var no_upscope (no_declarations _ _ _ there rest) = no_upscope there
other_of w _ _ moments no_var no_upscope (variable _ v n c name e words width others _ there second third fourth fifth sixth rest) = no_var there

pub other_fails : (w : Word) (end : ℕ) (words : List Word) → (w.bytes ≡ codes "$var" → ⊥) → (w.bytes ≡ codes "$upscope" → ⊥)
    → FailsAt HasDeclarations end (w ∷ words) w.at
other_fails w end words no_var no_upscope =
    leaves_here HasDeclarations end w words some_declarations (λ more it. other_of w more it.0 it.1 no_var no_upscope it.2)

no_words : (declared : List Declared) (moments : List Moment) (words : List Word) → words ≡ [] → AreDeclarations words declared moments → ⊥
no_words _ moments _ none (no_declarations w words _ there rest) = cc
no_words _ moments _ none (variable w v n c name e words width others _ there second third fourth fifth sixth rest) = cc

pub definitions_end : (end : ℕ) → FailsAt HasDeclarations end [] end
definitions_end end = ends_here HasDeclarations end some_declarations (λ it. no_words it.0 it.1 [] refl it.2)

-- the first words
source_down : (words : List Word) → HasSource words → RowThen first_slots HasDeclarations words
source_down words it =
    let source = it.0 in
    row_map first_slots (λ more. AreDeclarations more source.declared source.moments) HasDeclarations words (λ more is. (source.declared, source.moments, is))
    (exact_row first_slots first_words (λ more. AreDeclarations more source.declared source.moments) words exact_first it.1)

pub source_form : (words : List Word) (source : Source) → RowThen first_slots (λ more. AreDeclarations more source.declared source.moments) words → IsSource words source
source_form words source row = row_exact first_slots first_words (λ more. AreDeclarations more source.declared source.moments) words exact_first row

pub source_behind : (end : ℕ) (p words : List Word) → FitsRow first_slots p → FailsBehind HasDeclarations HasSource end words (p ++ words)
source_behind end p words fits at fails =
    later HasSource HasDeclarations p end words at (λ more is. row_down first_slots HasDeclarations p more fits (source_down (p ++ more) is))
    (λ more is. (
      record { declared = is.0; moments = is.1 },
      source_form (p ++ more) (record { declared = is.0; moments = is.1 }) (row_up first_slots (λ rest. AreDeclarations rest is.0 is.1) p more fits is.2),
    )) fails

source_up : (words : List Word) → RowThen first_slots HasDeclarations words → HasSource words
source_up words row =
    let one = row_some_of first_slots (λ (declared : List Declared) (more : List Word). (moments : List Moment) × AreDeclarations more declared moments) words (row_map first_slots HasDeclarations (λ (more : List Word). (declared : List Declared) × ((moments : List Moment) × AreDeclarations more declared moments)) words (λ more it. (it.0, (it.1, it.2))) row) in
    let two = row_some_of first_slots (λ (moments : List Moment) (more : List Word). AreDeclarations more one.0 moments) words one.1 in
    (record { declared = one.0; moments = two.0 }, source_form words (record { declared = one.0; moments = two.0 }) two.1)

pub source_fails : (end : ℕ) (words : List Word) (at : ℕ) → FailsRow first_slots end words at → FailsAt HasSource end words at
source_fails end words at fails =
    alike HasSource (RowThen first_slots HasDeclarations) end words at source_down source_up (row_fails first_slots HasDeclarations end words at some_declarations fails)

pub first_behind : (p words rest : List Word) (end : ℕ) → FitsRow first_slots p → words ≡ p ++ rest → FailsBehind HasDeclarations HasSource end rest words
first_behind p words rest end fits there at fails =
    subst (λ (ws : List Word). FailsAt HasSource end ws at) (sym there) (source_behind end p rest fits at fails)

pub first_fails : (text : List ℕ) (end : ℕ) (e : Or ℕ) → end ≡ length text → OfFault e (FailsRow first_slots end (words_of text))
    → OfFault e (FailsAt HasSource (length text) (words_of text))
first_fails text end Memory same fails = tt
first_fails text end (Fault at) same fails = source_fails (length text) (words_of text) at (subst (λ (n : ℕ). FailsRow first_slots n (words_of text) at) same fails)

-- the times fail
pub times_fail : (words first rest : List Word) (end inner innermost : ℕ) (e : Or ℕ) → FailsBehind HasDeclarations HasSource end first words → inner ≡ end
    → FailsBehind HasTimes HasDeclarations inner rest first → innermost ≡ inner → OfFault e (FailsAt HasTimes innermost rest) → OfFault e (FailsAt HasSource end words)
times_fail words first rest end inner innermost Memory outer same behind same_inner fails = tt
times_fail words first rest end inner innermost (Fault at) outer same behind same_inner fails =
    outer at (subst (λ (n : ℕ). FailsAt HasDeclarations n first at) same (behind at (subst (λ (n : ℕ). FailsAt HasTimes n rest at) same_inner fails)))
