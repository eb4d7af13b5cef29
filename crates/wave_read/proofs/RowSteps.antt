-- One word of a row more.
use Rattle.std.proofs.Common.{◌≡◌, ℕ, ◌+◌, ◌<◌, List, [], ◌∷◌, ◌++◌, length, map, take, drop, get_or, inl, inr, refl, sym, ap, ◌∙◌, subst, append_assoc, arith}
use Rattle.std.proofs.lemmas.List.{drop_more, map-append, take_more}
use Rattle.wave_read.specs.Reading.{variable_slots}
use Rattle.wave_read.specs.Shown.{shown}
use Rattle.wave_read.specs.Slots.{FailsRow, Fits, FitsRow}
use Rattle.wave_text.specs.Words.{Word}
use Rattle.wave_read.specs.declared.slots.Slot.{Slot}
use Rattle.wave_read.specs.declared.words.Word.{Word as ReadWord}

fits_push : (slots : List Slot) (words : List Word) (slot : Slot) (w : Word) → FitsRow slots words → Fits slot w.bytes → FitsRow (slots ++ slot ∷ []) (words ++ w ∷ [])
fits_push [] [] slot w fits fit = (fit, tt)
fits_push [] (v ∷ words) slot w fits fit = absurd fits
fits_push (s ∷ slots) [] slot w fits fit = absurd fits
fits_push (s ∷ slots) (v ∷ words) slot w fits fit = (fits.0, fits_push slots words slot w fits.1 fit)

-- the words so far, with one more
pub fits_more : (slots : List Slot) (i : ℕ) (slot d : Slot) (words pushed : List ReadWord) (w : ReadWord) → i < length slots → slot ≡ get_or slots i d
    → pushed ≡ words ++ w ∷ [] → FitsRow (take i slots) (map shown words) → Fits slot w.bytes.now → FitsRow (take (i + 1) slots) (map shown pushed)
fits_more slots i slot d words pushed w within is new fits fit =
    let more : take (i + 1) slots ≡ take i slots ++ slot ∷ [] = take_more slots i d within ∙ ap (λ (s : Slot). take i slots ++ s ∷ []) (sym is) in
    let all : map shown pushed ≡ map shown words ++ shown w ∷ [] = ap (map shown) new ∙ map-append shown words (w ∷ []) in
    subst (λ (ss : List Slot). FitsRow ss (map shown pushed)) (sym more)
    (subst (FitsRow (take i slots ++ slot ∷ [])) (sym all) (fits_push (take i slots) (map shown words) slot (shown w) fits fit))

-- the words before what is left, with one more
pub words_more : (words pushed : List ReadWord) (w : ReadWord) (all rest behind : List Word) → pushed ≡ words ++ w ∷ [] → all ≡ map shown words ++ rest → rest ≡ shown w ∷ behind
    → all ≡ map shown pushed ++ behind
words_more words pushed w all rest behind new is first =
    is ∙ ap (λ (t : List Word). map shown words ++ t) first ∙ sym (append_assoc (map shown words) (shown w ∷ []) behind)
    ∙ ap (λ (t : List Word). t ++ behind) (sym (map-append shown words (w ∷ []))) ∙ ap (λ (ws : List ReadWord). map shown ws ++ behind) (sym new)

-- a first word that doesn't fit, before other places
fails_first : (slot : Slot) (slots : List Slot) (end : ℕ) (words : List Word) (at : ℕ) → FailsRow (slot ∷ []) end words at → FailsRow (slot ∷ slots) end words at
fails_first slot slots end [] at fails = fails
fails_first slot slots end (w ∷ words) at (inl never) = inl never
fails_first slot slots end (w ∷ words) at (inr more) = absurd more.1

pub fails_at : (slots : List Slot) (i : ℕ) (slot d : Slot) (inner end : ℕ) (words : List Word) (at : ℕ) → i < length slots → slot ≡ get_or slots i d → inner ≡ end
    → FailsRow (slot ∷ []) inner words at → FailsRow (drop i slots) end words at
fails_at slots i slot d inner end words at within is same fails =
    let here : drop i slots ≡ slot ∷ drop (i + 1) slots = drop_more slots i d within ∙ ap (λ (s : Slot). s ∷ drop (i + 1) slots) (sym is) in
    subst (λ (ss : List Slot). FailsRow ss end words at) (sym here)
    (fails_first slot (drop (i + 1) slots) end words at (subst (λ (n : ℕ). FailsRow (slot ∷ []) n words at) same fails))

pub fails_behind : (slots : List Slot) (i : ℕ) (slot d : Slot) (end : ℕ) (w : Word) (rest behind : List Word) (at : ℕ) → i < length slots → slot ≡ get_or slots i d
    → rest ≡ w ∷ behind → Fits slot w.bytes → FailsRow (drop (i + 1) slots) end behind at → FailsRow (drop i slots) end rest at
fails_behind slots i slot d end w rest behind at within is first fit fails =
    let here : drop i slots ≡ slot ∷ drop (i + 1) slots = drop_more slots i d within ∙ ap (λ (s : Slot). s ∷ drop (i + 1) slots) (sym is) in
    subst (λ (ss : List Slot). FailsRow ss end rest at) (sym here)
    (subst (λ (ws : List Word). FailsRow (slot ∷ drop (i + 1) slots) end ws at) (sym first) (inr (fit, fails)))

-- as many words as places
pub row_length : (slots : List Slot) (words : List ReadWord) → FitsRow slots (map shown words) → length words ≡ length slots
row_length [] [] fits = refl
row_length [] (w ∷ words) fits = absurd fits
row_length (slot ∷ slots) [] fits = absurd fits
row_length (slot ∷ slots) (w ∷ words) fits = let others = row_length slots words fits.1 in omega arith

pub variable_length : (words : List ReadWord) → FitsRow variable_slots (map shown words) → length words ≡ 5
variable_length words fits = row_length variable_slots words fits
