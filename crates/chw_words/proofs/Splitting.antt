-- Words are taken apart in one way: the flags among them, and the rest.
use Rattle.std.proofs.Common.{◌≡◌, ◌∙◌, sym, refl, ap, Bool, true, false, true≢false, ◌||◌, List, [], ◌∷◌, ◌++◌, codes, subst, ◌⊎◌, inl, inr, ⊎_elim, append_assoc}
use Rattle.std.specs.Char.{encode_utf8}
use Rattle.std.specs.List.{All}
use Rattle.std.specs.Prelude.{if◌then◌else◌, ◌≢◌}
use Rattle.std.specs.Str.{IsUtf8, bytes_eq}
use Rattle.std.proofs.lemmas.List.Elements.{All-cons, All-head, All-nil, All-tail}
use Rattle.std.proofs.lemmas.Slice.Eq.{bytes_eq-Decides}
use Rattle.clap.specs.Walk.{Text}
use Rattle.chw_words.specs.Flags.{HasFlags, flag, emit_flags, is_flag, last, none, other, simulate_flags, value}
use Rattle.chw_words.specs.Splitting.{flags_of, found_from, rest_from}
use Rattle.chw_words.proofs.Forms.{is_or_not}

abbrev budget : Text
budget = codes "--budget"

-- ---- one word more

pub rest_value : (flags : List Text) (behind : Bool) (w : Text) (ws : List Text) → behind ≡ true
    → rest_from flags behind (w ∷ ws) ≡ w ∷ rest_from flags false ws
rest_value flags behind w ws b = ap (λ it. rest_from flags it (w ∷ ws)) b

pub found_value : (flags : List Text) (behind : Bool) (w : Text) (ws : List Text) → behind ≡ true
    → found_from flags behind (w ∷ ws) ≡ found_from flags false ws
found_value flags behind w ws b = ap (λ it. found_from flags it (w ∷ ws)) b

pub rest_flag : (flags : List Text) (behind : Bool) (w : Text) (ws : List Text) → behind ≡ false → is_flag flags w ≡ true
    → rest_from flags behind (w ∷ ws) ≡ rest_from flags false ws
rest_flag flags behind w ws b is =
    ap (λ it. rest_from flags it (w ∷ ws)) b
    ∙ ap (λ it. if it then rest_from flags false ws else w ∷ rest_from flags (bytes_eq w budget) ws) is

pub found_flag : (flags : List Text) (behind : Bool) (w : Text) (ws : List Text) → behind ≡ false → is_flag flags w ≡ true
    → found_from flags behind (w ∷ ws) ≡ w ∷ found_from flags false ws
found_flag flags behind w ws b is =
    ap (λ it. found_from flags it (w ∷ ws)) b
    ∙ ap (λ it. if it then w ∷ found_from flags false ws else found_from flags (bytes_eq w budget) ws) is

pub rest_other : (flags : List Text) (behind : Bool) (w : Text) (ws : List Text) → behind ≡ false → is_flag flags w ≡ false
    → rest_from flags behind (w ∷ ws) ≡ w ∷ rest_from flags (bytes_eq w budget) ws
rest_other flags behind w ws b is =
    ap (λ it. rest_from flags it (w ∷ ws)) b
    ∙ ap (λ it. if it then rest_from flags false ws else w ∷ rest_from flags (bytes_eq w budget) ws) is

pub found_other : (flags : List Text) (behind : Bool) (w : Text) (ws : List Text) → behind ≡ false → is_flag flags w ≡ false
    → found_from flags behind (w ∷ ws) ≡ found_from flags (bytes_eq w budget) ws
found_other flags behind w ws b is =
    ap (λ it. found_from flags it (w ∷ ws)) b
    ∙ ap (λ it. if it then w ∷ found_from flags false ws else found_from flags (bytes_eq w budget) ws) is

-- a word is kept
pub kept : (before now more : List Text) (w : Text) → now ≡ before ++ w ∷ [] → now ++ more ≡ before ++ w ∷ more
kept before now more w is = ap (λ it. it ++ more) is ∙ append_assoc before (w ∷ []) more

-- ---- the flags that are found, and the rest, are those of the words

not_budget : (w : Text) → bytes_eq w budget ≡ false → w ≢ budget
not_budget w isnt = λ same. true≢false (sym ((bytes_eq-Decides w budget).1 same) ∙ isnt)

-- the words are taken apart so
abbrev IsApart : List Text → List Text → Type 0
IsApart flags ws = HasFlags flags ws (rest_from flags false ws) (found_from flags false ws)

-- so they are behind a `--budget`
abbrev IsApartBehind : List Text → List Text → Type 0
IsApartBehind flags ws = HasFlags flags (budget ∷ ws) (budget ∷ rest_from flags true ws) (found_from flags true ws)

apart_other : (flags : List Text) (w : Text) (ws : List Text) → is_flag flags w ≡ false → IsApart flags ws → IsApartBehind flags ws
    → HasFlags flags (w ∷ ws) (w ∷ rest_from flags (bytes_eq w budget) ws) (found_from flags (bytes_eq w budget) ws)
apart_other flags w ws is apart behind =
    ⊎_elim
    (λ same. subst (λ b. HasFlags flags (w ∷ ws) (w ∷ rest_from flags b ws) (found_from flags b ws)) (sym same)
    (subst (λ v. HasFlags flags (v ∷ ws) (v ∷ rest_from flags true ws) (found_from flags true ws)) (sym ((bytes_eq-Decides w budget).0 same)) behind))
    (λ isnt. subst (λ b. HasFlags flags (w ∷ ws) (w ∷ rest_from flags b ws) (found_from flags b ws)) (sym isnt)
    (other w ws (rest_from flags false ws) (found_from flags false ws) is (not_budget w isnt) apart))
    (is_or_not (bytes_eq w budget))

apart_more : (flags : List Text) (w : Text) (ws : List Text) → IsApart flags ws → IsApartBehind flags ws → IsApart flags (w ∷ ws)
apart_more flags w ws apart behind =
    ⊎_elim
    (λ is. subst (λ r. HasFlags flags (w ∷ ws) r (found_from flags false (w ∷ ws))) (sym (rest_flag flags false w ws refl is))
    (subst (λ f. HasFlags flags (w ∷ ws) (rest_from flags false ws) f) (sym (found_flag flags false w ws refl is))
    (flag w ws (rest_from flags false ws) (found_from flags false ws) is apart)))
    (λ is. subst (λ r. HasFlags flags (w ∷ ws) r (found_from flags false (w ∷ ws))) (sym (rest_other flags false w ws refl is))
    (subst (λ f. HasFlags flags (w ∷ ws) (w ∷ rest_from flags (bytes_eq w budget) ws) f) (sym (found_other flags false w ws refl is))
    (apart_other flags w ws is apart behind)))
    (is_or_not (is_flag flags w))

both_apart : (flags words : List Text) → IsApart flags words × IsApartBehind flags words
both_apart flags [] = (none, last)
both_apart flags (w ∷ ws) =
    let both = both_apart flags ws in
    (apart_more flags w ws both.0 both.1, value w ws (rest_from flags false ws) (found_from flags false ws) both.0)

pub are_apart : (flags words : List Text) → HasFlags flags words (rest_from flags false words) (found_from flags false words)
are_apart flags words = (both_apart flags words).0

-- ---- and they are no others

pub apart_once : (flags words rest found : List Text) → is_flag flags budget ≡ false → HasFlags flags words rest found
    → (rest ≡ rest_from flags false words) × (found ≡ found_from flags false words)
apart_once flags _ _ _ isnt none = (refl, refl)
apart_once flags _ _ _ isnt last = (sym (rest_other flags false budget [] refl isnt), sym (found_other flags false budget [] refl isnt))
apart_once flags _ _ _ isnt (value w ws rest found h) =
    let once = apart_once flags ws rest found isnt h in (
      ap (λ r. budget ∷ w ∷ r) once.0 ∙ sym (rest_other flags false budget (w ∷ ws) refl isnt),
      once.1 ∙ sym (found_other flags false budget (w ∷ ws) refl isnt),
    )
apart_once flags _ _ _ isnt (flag w ws rest found is h) =
    let once = apart_once flags ws rest found isnt h in
    (once.0 ∙ sym (rest_flag flags false w ws refl is), ap (λ f. w ∷ f) once.1 ∙ sym (found_flag flags false w ws refl is))
apart_once flags _ _ _ isnt (other w ws rest found is differs h) =
    let once = apart_once flags ws rest found isnt h in
    let no_budget : bytes_eq w budget ≡ false =
    ⊎_elim (λ same. absurd (differs ((bytes_eq-Decides w budget).0 same))) (λ it. it) (is_or_not (bytes_eq w budget)) in (
      ap (λ r. w ∷ r) once.0 ∙ sym (rest_other flags false w ws refl is ∙ ap (λ b. w ∷ rest_from flags b ws) no_budget),
      once.1 ∙ sym (found_other flags false w ws refl is ∙ ap (λ b. found_from flags b ws) no_budget),
    )

-- what holds of the flags of each command, and of no flags, holds of the flags of any word
pub of_flags : (command : Text) (P : List Text → Type 0) → P simulate_flags → P emit_flags → P [] → P (flags_of command)
of_flags command P of_simulate of_emit of_none =
    let others = if bytes_eq command (codes "emit") then emit_flags else [] in
    ⊎_elim (λ is. subst (λ b. P (if b then simulate_flags else others)) (sym is) of_simulate)
    (λ isnt. subst (λ b. P (if b then simulate_flags else others)) (sym isnt)
    (⊎_elim (λ is. subst (λ b. P (if b then emit_flags else [])) (sym is) of_emit)
    (λ none_. subst (λ b. P (if b then emit_flags else [])) (sym none_) of_none) (is_or_not (bytes_eq command (codes "emit")))))
    (is_or_not (bytes_eq command (codes "simulate")))

-- `--budget` is no flag
pub budget_is_no_flag : (command : Text) → is_flag (flags_of command) budget ≡ false
budget_is_no_flag command =
    of_flags command (λ flags. is_flag flags budget ≡ false) refl refl refl

-- where there are no flags, all words are the rest
pub all_rest : (behind : Bool) (words : List Text) → (rest_from [] behind words ≡ words) × (found_from [] behind words ≡ [])
all_rest behind [] = (refl, refl)
all_rest true (w ∷ ws) = let all = all_rest false ws in (ap (λ r. w ∷ r) all.0, all.1)
all_rest false (w ∷ ws) = let all = all_rest (bytes_eq w budget) ws in (ap (λ r. w ∷ r) all.0, all.1)

-- ---- they are texts exactly if the rest is

pub rest_texts : (flags : List Text) (behind : Bool) (words : List Text) → All IsUtf8 words → All IsUtf8 (rest_from flags behind words)
rest_texts flags behind [] t = All-nil IsUtf8
rest_texts flags true (w ∷ ws) t =
    All-cons IsUtf8 w (rest_from flags false ws) (All-head IsUtf8 w ws t) (rest_texts flags false ws (All-tail IsUtf8 w ws t))
rest_texts flags false (w ∷ ws) t =
    ⊎_elim
    (λ is. subst (All IsUtf8) (sym (rest_flag flags false w ws refl is)) (rest_texts flags false ws (All-tail IsUtf8 w ws t)))
    (λ is. subst (All IsUtf8) (sym (rest_other flags false w ws refl is))
    (All-cons IsUtf8 w (rest_from flags (bytes_eq w budget) ws) (All-head IsUtf8 w ws t) (rest_texts flags (bytes_eq w budget) ws (All-tail IsUtf8 w ws t))))
    (is_or_not (is_flag flags w))

pub word_texts : (flags : List Text) → ((w : Text) → is_flag flags w ≡ true → IsUtf8 w) → (behind : Bool) (words : List Text)
    → All IsUtf8 (rest_from flags behind words) → All IsUtf8 words
word_texts flags of_flag behind [] t = All-nil IsUtf8
word_texts flags of_flag true (w ∷ ws) t =
    All-cons IsUtf8 w ws (All-head IsUtf8 w (rest_from flags false ws) t) (word_texts flags of_flag false ws (All-tail IsUtf8 w (rest_from flags false ws) t))
word_texts flags of_flag false (w ∷ ws) t =
    ⊎_elim
    (λ is. All-cons IsUtf8 w ws (of_flag w is) (word_texts flags of_flag false ws (subst (All IsUtf8) (rest_flag flags false w ws refl is) t)))
    (λ is.
    let others = rest_from flags (bytes_eq w budget) ws in
    let u : All IsUtf8 (w ∷ others) = subst (All IsUtf8) (rest_other flags false w ws refl is) t in
    All-cons IsUtf8 w ws (All-head IsUtf8 w others u) (word_texts flags of_flag (bytes_eq w budget) ws (All-tail IsUtf8 w others u)))
    (is_or_not (is_flag flags w))

pub or_false : (b : Bool) → (b || false) ≡ b
or_false true = refl
or_false false = refl

vcd_text : IsUtf8 (codes "--vcd")
unfolding encode_utf8
vcd_text = (codes "--vcd", (refl, refl))

share_text : IsUtf8 (codes "--share")
unfolding encode_utf8
share_text = (codes "--share", (refl, refl))

blif_text : IsUtf8 (codes "--blif")
unfolding encode_utf8
blif_text = (codes "--blif", (refl, refl))

-- one flag is that one
pub is_the_flag : (it w : Text) → is_flag (it ∷ []) w ≡ true → w ≡ it
is_the_flag it w is = (bytes_eq-Decides w it).0 (sym (or_false (bytes_eq w it)) ∙ is)

-- one of two flags is the first or the second
pub is_one_flag : (it next w : Text) → is_flag (it ∷ next ∷ []) w ≡ true → (w ≡ it) ⊎ (w ≡ next)
is_one_flag it next w is =
    ⊎_elim (λ same. inl ((bytes_eq-Decides w it).0 same))
    (λ isnt. inr (is_the_flag next w (sym (ap (λ b. b || is_flag (next ∷ []) w) isnt) ∙ is)))
    (is_or_not (bytes_eq w it))

simulate_flag_text : (w : Text) → is_flag simulate_flags w ≡ true → IsUtf8 w
simulate_flag_text w is = subst IsUtf8 (sym (is_the_flag (codes "--vcd") w is)) vcd_text

emit_flag_text : (w : Text) → is_flag emit_flags w ≡ true → IsUtf8 w
emit_flag_text w is =
    ⊎_elim (λ same. subst IsUtf8 (sym same) share_text) (λ same. subst IsUtf8 (sym same) blif_text)
    (is_one_flag (codes "--share") (codes "--blif") w is)

no_flag_text : (w : Text) → is_flag [] w ≡ true → IsUtf8 w
no_flag_text w is = absurd (true≢false (sym is))

-- the flags of commands are texts
pub flag_text : (command w : Text) → is_flag (flags_of command) w ≡ true → IsUtf8 w
flag_text command w =
    of_flags command (λ flags. is_flag flags w ≡ true → IsUtf8 w) (simulate_flag_text w) (emit_flag_text w) (no_flag_text w)

-- ---- each flag that is found is one of the flags

-- the first of these words is a flag, if there is one
abbrev FirstIs : List Text → List Text → Type 0
FirstIs flags [] = Unit {0}
FirstIs flags (w ∷ ws) = is_flag flags w ≡ true

first_is : (flags words rest found : List Text) → HasFlags flags words rest found → FirstIs flags found
first_is flags _ _ _ none = tt
first_is flags _ _ _ last = tt
first_is flags _ _ _ (value w ws rest found h) = first_is flags ws rest found h
first_is flags _ _ _ (flag w ws rest found is h) = is
first_is flags _ _ _ (other w ws rest found is differs h) = first_is flags ws rest found h

pub first_found : (flags words rest more : List Text) (w : Text) → HasFlags flags words rest (w ∷ more) → is_flag flags w ≡ true
first_found flags words rest more w h = first_is flags words rest (w ∷ more) h
