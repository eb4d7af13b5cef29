-- Tokens before bytes with which they don't go on are the longest.
use Rattle.std.proofs.Common.{◌≡◌, ℕ, ◌≤◌, Bool, true, false, not, ◌&&◌, ◌||◌, eqb, leb, List, [], ◌∷◌, ◌++◌, ◌⊎◌, length, inl, inr, sym, refl, ap, ◌∙◌, subst, arith}
use Rattle.std.specs.Prelude.{IsTrue, codes}
use Rattle.std.specs.List.{list_all}
use Rattle.std.proofs.lemmas.Bool.{and_from, false≢true, le-leb, or_left, or_right, or_cases, eq-eqb}
use Rattle.chw_base.specs.Names.{AllOf, BeginsThen, is_capital, is_digit, is_letter_or_digit, is_name_byte, is_small_letter}
use Rattle.verilog_text.specs.VForms.{HasForm, HasParts, Sort, begins_word, is_hex_digit, is_sign, signs}
use Rattle.verilog_text.specs.VForms.Sort.{keyword, literal, name, number, sign, signed}
use Rattle.verilog_text.specs.VTokens.{IsLongest, is_white}
use Rattle.verilog_text.proofs.Firsts.{AllOf-from_list_all, First, digit_range, form_empty, form_first, keyword_word, of_table, range}
use Rattle.verilog_text.proofs.Gaps.{white_number}
use Rattle.verilog_text.proofs.Runs.{StopsAt, within_run}

-- a letter, a digit, `_` or a quote
abbrev pub is_token_byte : ℕ → Bool
is_token_byte b = is_name_byte b || eqb b 39

-- no white space
abbrev pub dark : ℕ → Bool
dark b = not (is_white b)

pub all_of_wider : (test wider : ℕ → Bool) → ((b : ℕ) → IsTrue (test b) → IsTrue (wider b)) → (bytes : List ℕ) → AllOf test bytes → AllOf wider bytes
all_of_wider test wider each [] passes = tt
all_of_wider test wider each (b ∷ bytes) passes = (each b passes.0, all_of_wider test wider each bytes passes.1)

pub begins_wider : (first other wider : ℕ → Bool) → ((b : ℕ) → IsTrue (first b) → IsTrue (wider b)) → ((b : ℕ) → IsTrue (other b) → IsTrue (wider b)) → (bytes : List ℕ) → BeginsThen first other bytes → AllOf wider bytes
begins_wider first other wider one two [] form = absurd form
begins_wider first other wider one two (b ∷ bytes) form = (one b form.0, all_of_wider other wider two bytes form.1)

pub all_of_append : (test : ℕ → Bool) (a b : List ℕ) → AllOf test a → AllOf test b → AllOf test (a ++ b)
all_of_append test [] b one two = two
all_of_append test (x ∷ a) b one two = (one.0, all_of_append test a b one.1 two)

pub digit_is_name_byte : (b : ℕ) → IsTrue (is_digit b) → IsTrue (is_name_byte b)
digit_is_name_byte b digit = or_left (is_letter_or_digit b) (eqb b 95) (or_right (is_small_letter b) _ (or_right (is_capital b) (is_digit b) digit))

pub letter_is_name_byte : (b : ℕ) → IsTrue (is_letter_or_digit b) → IsTrue (is_name_byte b)
letter_is_name_byte b letter = or_left (is_letter_or_digit b) (eqb b 95) letter

word_is_name_byte : (b : ℕ) → IsTrue (begins_word b) → IsTrue (is_name_byte b)
word_is_name_byte b begins =
    elim (or_cases (is_small_letter b) _ begins) [
      | inl small ↦ letter_is_name_byte b (or_left (is_small_letter b) _ small)
      | inr more ↦ elim (or_cases (is_capital b) _ more) [
        | inl capital ↦ letter_is_name_byte b (or_right (is_small_letter b) _ (or_left (is_capital b) (is_digit b) capital))
        | inr line ↦ or_right (is_letter_or_digit b) (eqb b 95) line
      ]
    ]

hex_is_name_byte : (b : ℕ) → IsTrue (is_hex_digit b) → IsTrue (is_name_byte b)
hex_is_name_byte b hex = search_bytes b (is_hex_range b hex)
  where
    is_hex_range : (b : ℕ) → IsTrue (is_hex_digit b) → ((48 ≤ b) × (b ≤ 57)) ⊎ (((97 ≤ b) × (b ≤ 102)) ⊎ ((65 ≤ b) × (b ≤ 70)))
    is_hex_range b hex =
        elim (or_cases (is_digit b) _ hex) [
          | inl digit ↦ inl (digit_range b digit)
          | inr more ↦ elim (or_cases (leb 97 b && leb b 102) _ more) [
            | inl small ↦ inr (inl (range 97 102 b small))
            | inr capital ↦ inr (inr (range 65 70 b capital))
          ]
        ]

    search_bytes : (b : ℕ) → ((48 ≤ b) × (b ≤ 57)) ⊎ (((97 ≤ b) × (b ≤ 102)) ⊎ ((65 ≤ b) × (b ≤ 70))) → IsTrue (is_name_byte b)
    search_bytes b (inl digit) = digit_is_name_byte b (and_from (leb 48 b) (leb b 57) (le-leb 48 b digit.0) (le-leb b 57 digit.1))
    search_bytes b (inr (inl small)) =
        letter_is_name_byte b (or_left (is_small_letter b) _ (and_from (leb 97 b) (leb b 122) (le-leb 97 b small.0) (le-leb b 122 (omega arith))))
    search_bytes b (inr (inr capital)) =
        letter_is_name_byte b (or_right (is_small_letter b) _ (or_left (is_capital b) (is_digit b)
        (and_from (leb 65 b) (leb b 90) (le-leb 65 b capital.0) (le-leb b 90 (omega arith)))))

as_token_byte : (b : ℕ) → IsTrue (is_name_byte b) → IsTrue (is_token_byte b)
as_token_byte b is = or_left (is_name_byte b) (eqb b 39) is

-- the first byte of a keyword, a name, a number or a literal
abbrev IsPlain : ℕ → Type 0
IsPlain b = ((97 ≤ b) × (b ≤ 122)) ⊎ (((65 ≤ b) × (b ≤ 90)) ⊎ ((b ≡ 95) ⊎ ((48 ≤ b) × (b ≤ 57))))

literal_bytes : (bytes size digits : List ℕ) → HasParts bytes size digits → AllOf is_token_byte bytes
literal_bytes bytes size digits parts =
    let quote : AllOf is_token_byte (39 ∷ 104 ∷ digits) =
    (refl, (refl, begins_wider is_hex_digit is_hex_digit is_token_byte (λ b h. as_token_byte b (hex_is_name_byte b h)) (λ b h. as_token_byte b (hex_is_name_byte b h)) digits parts.digits_are)) in
    subst (AllOf is_token_byte) (sym parts.bytes_are)
    (all_of_append is_token_byte size (39 ∷ 104 ∷ digits)
    (begins_wider is_digit is_digit is_token_byte (λ b d. as_token_byte b (digit_is_name_byte b d)) (λ b d. as_token_byte b (digit_is_name_byte b d)) size parts.size_is) quote)

word_bytes : (bytes : List ℕ) → BeginsThen begins_word is_name_byte bytes → AllOf is_token_byte bytes
word_bytes bytes form = begins_wider begins_word is_name_byte is_token_byte (λ b w. as_token_byte b (word_is_name_byte b w)) as_token_byte bytes form

-- a token that begins so has such bytes alone
plain_bytes : (sort : Sort) (b : ℕ) (bytes : List ℕ) → IsPlain b → First sort b → HasForm sort (b ∷ bytes) → AllOf is_token_byte (b ∷ bytes)
plain_bytes keyword b bytes plain first form = word_bytes (b ∷ bytes) (keyword_word (b ∷ bytes) form)
plain_bytes name b bytes plain first form = word_bytes (b ∷ bytes) form.0
plain_bytes number b bytes plain first form =
    begins_wider is_digit is_digit is_token_byte (λ b d. as_token_byte b (digit_is_name_byte b d)) (λ b d. as_token_byte b (digit_is_name_byte b d)) (b ∷ bytes) form
plain_bytes literal b bytes plain first form = literal_bytes (b ∷ bytes) form.0 form.1 form.2
plain_bytes signed b bytes plain first form = absurd (omega arith)
plain_bytes sign b bytes plain first form = absurd (omega arith)

abbrev pub is_plain : Sort → Bool
is_plain keyword = true
is_plain name = true
is_plain number = true
is_plain literal = true
is_plain signed = false
is_plain sign = false

plain_first : (sort : Sort) (b : ℕ) → is_plain sort ≡ true → First sort b → IsPlain b
plain_first keyword b plain first = omega_plain b first
  where
    omega_plain : (b : ℕ) → First name b → IsPlain b
    omega_plain b (inl a) = inl a
    omega_plain b (inr (inl a)) = inr (inl a)
    omega_plain b (inr (inr a)) = inr (inr (inl a))
plain_first name b plain first = omega_plain b first
  where
    omega_plain : (b : ℕ) → First name b → IsPlain b
    omega_plain b (inl a) = inl a
    omega_plain b (inr (inl a)) = inr (inl a)
    omega_plain b (inr (inr a)) = inr (inr (inl a))
plain_first number b plain first = inr (inr (inr first))
plain_first literal b plain first = inr (inr (inr first))
plain_first signed b plain first = absurd (false≢true plain)
plain_first sign b plain first = absurd (false≢true plain)

-- a keyword, name, number or literal before a byte of another sort
pub plain_longest : (sort : Sort) (bytes rest : List ℕ) → is_plain sort ≡ true → HasForm sort bytes → StopsAt is_token_byte rest → IsLongest sort bytes rest
plain_longest sort [] rest plain form stops = absurd (form_empty sort form)
plain_longest sort (b ∷ bytes) rest plain form stops = record { form = form; longest = within }
  where
    within : (other : Sort) (longer more : List ℕ) → longer ++ more ≡ (b ∷ bytes) ++ rest → HasForm other longer → length longer ≤ length (b ∷ bytes)
    within other [] more same has = omega arith
    within other (c ∷ longer) more same has =
        let head : c ≡ b = cc in
        let first = form_first sort b bytes form in
        let begins : IsPlain c = subst IsPlain (sym head) (plain_first sort b plain first) in
        within_run is_token_byte (b ∷ bytes) rest (c ∷ longer) more (plain_bytes sort b bytes (plain_first sort b plain first) first form) stops
        (plain_bytes other c longer begins (form_first other c longer has) has) same

abbrev one_byte : ℕ → List ℕ → Bool
one_byte b [] = false
one_byte b (c ∷ []) = true
one_byte b (c ∷ d ∷ more) = not (eqb c b)

-- of the signs that begin as these bytes do, each is one byte
abbrev pub is_alone : List ℕ → Bool
is_alone [] = false
is_alone (b ∷ bytes) = list_all (one_byte b) signs

sign_no_other : (other : Sort) (b : ℕ) → First sign b → First other b → other ≡ sign
sign_no_other keyword b first second = absurd (omega arith)
sign_no_other name b first second = absurd (omega arith)
sign_no_other number b first second = absurd (omega arith)
sign_no_other literal b first second = absurd (omega arith)
sign_no_other signed b first second = absurd (omega arith)
sign_no_other sign b first second = refl

not_true : (b : Bool) → not b ≡ true → b ≡ true → ⊥
not_true true n e = false≢true n
not_true false n e = false≢true e

-- a sign that no other one goes on from
pub alone_longest : (bytes rest : List ℕ) → IsTrue (is_sign bytes) → is_alone bytes ≡ true → IsLongest sign bytes rest
alone_longest [] rest form alone = absurd (false≢true alone)
alone_longest (b ∷ bytes) rest form alone = record { form = form; longest = within }
  where
    at : (longer : List ℕ) (c : ℕ) → c ≡ b → one_byte b (c ∷ longer) ≡ true → length (c ∷ longer) ≤ length (b ∷ bytes)
    at [] c same one = omega arith
    at (d ∷ longer) c same one = absurd (not_true (eqb c b) one (eq-eqb c b same))

    within : (other : Sort) (longer more : List ℕ) → longer ++ more ≡ (b ∷ bytes) ++ rest → HasForm other longer → length longer ≤ length (b ∷ bytes)
    within other [] more same has = omega arith
    within other (c ∷ longer) more same has =
        let head : c ≡ b = cc in
        let sort_is : other ≡ sign = sign_no_other other c (subst (First sign) (sym head) (form_first sign b bytes form)) (form_first other c longer has) in
        let signs_has : IsTrue (is_sign (c ∷ longer)) = subst (λ (s : Sort). HasForm s (c ∷ longer)) sort_is has in
        at longer c head (of_table (one_byte b) signs (c ∷ longer) alone signs_has)

signed_no_other : (other : Sort) (b : ℕ) → b ≡ 36 → First other b → other ≡ signed
signed_no_other keyword b first second = absurd (omega arith)
signed_no_other name b first second = absurd (omega arith)
signed_no_other number b first second = absurd (omega arith)
signed_no_other literal b first second = absurd (omega arith)
signed_no_other signed b first second = refl
signed_no_other sign b first second = absurd (omega arith)

pub signed_longest : (rest : List ℕ) → IsLongest signed (codes "$signed") rest
signed_longest rest = record { form = refl; longest = within }
  where
    within : (other : Sort) (longer more : List ℕ) → longer ++ more ≡ codes "$signed" ++ rest → HasForm other longer → length longer ≤ 7
    within other [] more same has = omega arith
    within other (c ∷ longer) more same has =
        let head : c ≡ 36 = cc in
        let sort_is : other ≡ signed = signed_no_other other c head (form_first other c longer has) in
        let whole : c ∷ longer ≡ codes "$signed" = subst (λ (s : Sort). HasForm s (c ∷ longer)) sort_is has in
        omega (arith, ap length whole)

-- bytes of a class without white space are dark
dark_of : (test : ℕ → Bool) → test 32 ≡ false → test 9 ≡ false → test 10 ≡ false → test 13 ≡ false → (b : ℕ) → IsTrue (test b) → IsTrue (dark b)
dark_of test space tab feed return b passes = by_case (is_white b) refl
  where
    never : (c : ℕ) → test c ≡ false → b ≡ c → ⊥
    never c fails same = false≢true (sym fails ∙ ap test (sym same) ∙ passes)

    by_case : (v : Bool) → is_white b ≡ v → IsTrue (dark b)
    by_case false is = ap not is
    by_case true is =
        elim (white_number b is) [
          | inl a ↦ absurd (never 32 space a)
          | inr more ↦ elim more [ inl a ↦ absurd (never 9 tab a) | inr others ↦ elim others [ inl a ↦ absurd (never 10 feed a) | inr a ↦ absurd (never 13 return a) ] ]
        ]

token_dark : (sort : Sort) (b : ℕ) (bytes : List ℕ) → is_plain sort ≡ true → HasForm sort (b ∷ bytes) → AllOf dark (b ∷ bytes)
token_dark sort b bytes plain form =
    let first = form_first sort b bytes form in
    all_of_wider is_token_byte dark (dark_of is_token_byte refl refl refl refl) (b ∷ bytes) (plain_bytes sort b bytes (plain_first sort b plain first) first form)

-- no token has white space in it
form_dark : (sort : Sort) (bytes : List ℕ) → HasForm sort bytes → AllOf dark bytes
form_dark sort [] form = absurd (form_empty sort form)
form_dark keyword (b ∷ bytes) form = token_dark keyword b bytes refl form
form_dark name (b ∷ bytes) form = token_dark name b bytes refl form
form_dark number (b ∷ bytes) form = token_dark number b bytes refl form
form_dark literal (b ∷ bytes) form = token_dark literal b bytes refl form
form_dark signed (b ∷ bytes) form = subst (AllOf dark) (sym form) (refl, (refl, (refl, (refl, (refl, (refl, (refl, tt)))))))
form_dark sign (b ∷ bytes) form = AllOf-from_list_all dark (b ∷ bytes) (of_table (list_all dark) signs (b ∷ bytes) refl form)

-- a token before white space
pub white_longest : (sort : Sort) (bytes rest : List ℕ) → HasForm sort bytes → StopsAt dark rest → IsLongest sort bytes rest
white_longest sort bytes rest form stops = record {
  form = form;
  longest = λ other longer more same has. within_run dark bytes rest longer more (form_dark sort bytes form) stops (form_dark other longer has) same;
}
