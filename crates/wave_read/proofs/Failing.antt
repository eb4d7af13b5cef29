-- Where words leave a language, and where the words of a language behind others do.
use Rattle.std.proofs.Common.{◌≡◌, ℕ, List, [], ◌∷◌, ◌++◌, inl, inr, refl, sym, ap, ◌∙◌, subst, append_assoc, codes, lit<, lit≤}
use Rattle.wave_text.specs.Faults.{FailsAt}
use Rattle.wave_read.specs.Slots.{FailsRow, Fits, FitsRow}
use Rattle.wave_text.specs.Words.{Word, word}
use Rattle.wave_read.specs.declared.slots.Slot.{Slot}
use Rattle.wave_read.specs.declared.slots.Slot.TheVariants.{Code, End, EndDefinitions, Module, Name, Ns, One, Scope, Timescale, Top, Width, Wire}

-- three lists and more, regrouped
regroup : (p front last more : List Word) → ((p ++ front) ++ last) ++ more ≡ p ++ ((front ++ last) ++ more)
regroup p front last more = simp append_assoc

-- the words behind others, where the others may stand before just the words of the language
pub later : (Outer Inner : List Word → Type 0) (p : List Word) (end : ℕ) (words : List Word) (at : ℕ)
    → ((more : List Word) → Outer (p ++ more) → Inner more) → ((more : List Word) → Inner more → Outer (p ++ more))
    → FailsAt Inner end words at → FailsAt Outer end (p ++ words) at
later Outer Inner p end words at down up (inl leaves) =
    let more = leaves.before.0 in
    inl (record {
      front = p ++ leaves.front;
      w = leaves.w;
      rest = leaves.rest;
      words_are = ap (λ t. p ++ t) leaves.words_are ∙ sym (append_assoc p leaves.front (leaves.w ∷ leaves.rest));
      here = leaves.here;
      before = (more, subst Outer (sym (append_assoc p leaves.front more)) (up (leaves.front ++ more) leaves.before.1));
      none = λ begins. leaves.none (
        begins.0,
        down ((leaves.front ++ leaves.w ∷ []) ++ begins.0) (subst Outer (regroup p leaves.front (leaves.w ∷ []) begins.0) begins.1),
      );
    })
later Outer Inner p end words at down up (inr ends) =
    let more = ends.before.0 in
    inr (record {
      before = (more, subst Outer (sym (append_assoc p words more)) (up (words ++ more) ends.before.1));
      none = λ is. ends.none (down words is);
      here = ends.here;
    })

-- the first word doesn't fit
pub leaves_here : (Language : List Word → Type 0) (end : ℕ) (w : Word) (rest : List Word) → ((more : List Word) × Language more)
    → ((more : List Word) → Language (w ∷ more) → ⊥) → FailsAt Language end (w ∷ rest) w.at
leaves_here Language end w rest some never = inl (record {
  front = [];
  w = w;
  rest = rest;
  words_are = refl;
  here = refl;
  before = some;
  none = λ begins. never begins.0 begins.1;
})

-- no word is there
pub ends_here : (Language : List Word → Type 0) (end : ℕ) → ((more : List Word) × Language more) → (Language [] → ⊥) → FailsAt Language end [] end
ends_here Language end some never = inr (record { before = some; none = never; here = refl })

-- the places, one by one, and behind them words of a language
abbrev pub RowThen : List Slot → (List Word → Type 0) → List Word → Type 0
RowThen [] Language words = Language words
RowThen (slot ∷ slots) Language [] = ⊥
RowThen (slot ∷ slots) Language (w ∷ words) = Fits slot w.bytes × RowThen slots Language words

-- bytes that may stand in a place
sample : (slot : Slot) → (bytes : List ℕ) × Fits slot bytes
sample Timescale = (codes "$timescale", refl)
sample One = (codes "1", refl)
sample Ns = (codes "ns", refl)
sample End = (codes "$end", refl)
sample Scope = (codes "$scope", refl)
sample Module = (codes "module", refl)
sample Top = (codes "chw_top", refl)
sample Wire = (codes "wire", refl)
sample EndDefinitions = (codes "$enddefinitions", refl)
sample Width = (49 ∷ [], (1, record { digits = (lit< tt, (lit< tt, tt)); value = refl; some = lit≤ tt; fits = lit< tt }))
sample Code = (33 ∷ [], (refl, tt))
sample Name = (97 ∷ [], (refl, tt))

row_some : (slots : List Slot) (Language : List Word → Type 0) → ((more : List Word) × Language more) → (more : List Word) × RowThen slots Language more
row_some [] Language some = some
row_some (slot ∷ slots) Language some =
    let it = sample slot in
    let others = row_some slots Language some in
    (word 0 it.0 ∷ others.0, (it.1, others.1))

-- a row that fails, before words of a language that has some
pub row_fails : (slots : List Slot) (Language : List Word → Type 0) (end : ℕ) (words : List Word) (at : ℕ)
    → ((more : List Word) × Language more) → FailsRow slots end words at → FailsAt (RowThen slots Language) end words at
row_fails [] Language end words at some fails = absurd fails
row_fails (slot ∷ slots) Language end [] at some fails =
    let All : List Word → Type 0 = RowThen (slot ∷ slots) Language in
    subst (FailsAt All end []) (sym fails) (ends_here All end (row_some (slot ∷ slots) Language some) (λ never. never))
row_fails (slot ∷ slots) Language end (w ∷ words) at some (inl (never, here)) =
    let All : List Word → Type 0 = RowThen (slot ∷ slots) Language in
    subst (FailsAt All end (w ∷ words)) (sym here) (leaves_here All end w words (row_some (slot ∷ slots) Language some) (λ more row. never row.0))
row_fails (slot ∷ slots) Language end (w ∷ words) at some (inr (fit, fails)) =
    later (RowThen (slot ∷ slots) Language) (RowThen slots Language) (w ∷ []) end words at (λ more row. row.1) (λ more row. (fit, row))
    (row_fails slots Language end words at some fails)

pub row_down : (slots : List Slot) (Language : List Word → Type 0) (p more : List Word) → FitsRow slots p → RowThen slots Language (p ++ more) → Language more
row_down [] Language [] more fits row = row
row_down [] Language (w ∷ p) more fits row = absurd fits
row_down (slot ∷ slots) Language [] more fits row = absurd fits
row_down (slot ∷ slots) Language (w ∷ p) more fits row = row_down slots Language p more fits.1 row.1

pub row_up : (slots : List Slot) (Language : List Word → Type 0) (p more : List Word) → FitsRow slots p → Language more → RowThen slots Language (p ++ more)
row_up [] Language [] more fits is = is
row_up [] Language (w ∷ p) more fits is = absurd fits
row_up (slot ∷ slots) Language [] more fits is = absurd fits
row_up (slot ∷ slots) Language (w ∷ p) more fits is = (fits.0, row_up slots Language p more fits.1 is)

-- two languages of the same words
pub alike : (Outer Inner : List Word → Type 0) (end : ℕ) (words : List Word) (at : ℕ) → ((more : List Word) → Outer more → Inner more)
    → ((more : List Word) → Inner more → Outer more) → FailsAt Inner end words at → FailsAt Outer end words at
alike Outer Inner end words at down up fails = later Outer Inner [] end words at down up fails
