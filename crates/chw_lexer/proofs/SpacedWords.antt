-- A text of tokens with white space behind each splits into them.
use Rattle.std.proofs.Common.{◌≡◌, ℕ, suc, zero, ◌+◌, ◌-◌, Bool, true, false, not, List, [], ◌∷◌, ◌++◌, length, take, inl, inr, sym, refl, ap, ◌∙◌, subst, append_assoc, arith}
use Rattle.std.specs.Prelude.{IsTrue, All}
use Rattle.std.specs.List.{slice_range, list_all}
use Rattle.std.proofs.lemmas.Bool.{false≢true}
use Rattle.std.proofs.lemmas.List.{append-nil, length-append, take_at, drop_at}
use Rattle.chw_base.specs.Names.{AllOf, BeginsThen, is_small_letter, is_capital, is_digit, is_letter_or_digit, is_name_byte, keywords}
use Rattle.chw_lexer.specs.Forms.{is_white, symbols, HasForm, IsNumeral}
use Rattle.chw_lexer.specs.Tokens.{Gap, IsLongest, token, TokensFrom}
use Rattle.chw_lexer.specs.Tokens.Gap.{white, none}
use Rattle.chw_lexer.specs.Tokens.TokensFrom.{ends, next}
use Rattle.chw_lexer.specs.Words.{Word, word_of, words_of, IsToken, Spaced, no_word, with_space, with_line_feed}
use Rattle.chw_lexer.specs.Scanning.{is_letter, IsUnsigned}
use Rattle.chw_lexer.specs.declared.token.Sort.{Sort}
use Rattle.chw_lexer.specs.declared.token.Sort.TheVariants.{Lower, Upper, Key, Numeral, Literal, Symbol}
use Rattle.chw_lexer.specs.declared.token.Token.{Token}
use Rattle.chw_lexer.proofs.Firsts.{of_table, AllOf-from_list_all, literal_parts}
use Rattle.chw_lexer.proofs.Runs.{within_run}
use Rattle.chw_lexer.proofs.Gaps.{white_number}
use Rattle.chw_lexer.proofs.Splits.{next_at}

-- no white space
abbrev dark : ℕ → Bool
dark b = not (is_white b)

-- bytes of a class without white space are dark
dark_of : (test : ℕ → Bool) → test 32 ≡ false → test 9 ≡ false → test 10 ≡ false → test 13 ≡ false → (b : ℕ) → IsTrue (test b) → IsTrue (dark b)
dark_of test space tab line return b passes = by_case (is_white b) refl
  where
    never : (c : ℕ) → test c ≡ false → b ≡ c → ⊥
    never c fails same = false≢true (sym fails ∙ ap test (sym same) ∙ passes)

    by_case : (v : Bool) → is_white b ≡ v → IsTrue (dark b)
    by_case false is = ap not is
    by_case true is =
        elim (white_number b is) [
          | inl a ↦ absurd (never 32 space a)
          | inr more ↦ elim more [ inl a ↦ absurd (never 9 tab a) | inr others ↦ elim others [ inl a ↦ absurd (never 10 line a) | inr a ↦ absurd (never 13 return a) ] ]
        ]

all_dark : (test : ℕ → Bool) → ((b : ℕ) → IsTrue (test b) → IsTrue (dark b)) → (bytes : List ℕ) → AllOf test bytes → AllOf dark bytes
all_dark test each [] passes = tt
all_dark test each (b ∷ bytes) passes = (each b passes.0, all_dark test each bytes passes.1)

begins_dark : (first other : ℕ → Bool) → ((b : ℕ) → IsTrue (first b) → IsTrue (dark b)) → ((b : ℕ) → IsTrue (other b) → IsTrue (dark b)) → (word : List ℕ) → BeginsThen first other word → AllOf dark word
begins_dark first other one two [] form = absurd form
begins_dark first other one two (b ∷ bytes) form = (one b form.0, all_dark other two bytes form.1)

append_dark : (a b : List ℕ) → AllOf dark a → AllOf dark b → AllOf dark (a ++ b)
append_dark [] b one two = two
append_dark (x ∷ a) b one two = (one.0, append_dark a b one.1 two)

dark_digit : (b : ℕ) → IsTrue (is_digit b) → IsTrue (dark b)
dark_digit = dark_of is_digit refl refl refl refl

numeral_dark : (word : List ℕ) → IsNumeral word → AllOf dark word
numeral_dark = begins_dark is_digit is_digit dark_digit dark_digit

unsigned_dark : (signed : Bool) (word : List ℕ) → IsUnsigned (is_letter signed) word → AllOf dark word
unsigned_dark signed word parts =
    subst (AllOf dark) (sym parts.word_is) (append_dark parts.value (parts.letter ∷ parts.width) (numeral_dark parts.value parts.value_is) (letter_dark signed parts.letter parts.letter_is, numeral_dark parts.width parts.width_is))
  where
    letter_dark : (s : Bool) (b : ℕ) → IsTrue (is_letter s b) → IsTrue (dark b)
    letter_dark true b letter = dark_of (is_letter true) refl refl refl refl b letter
    letter_dark false b letter = dark_of (is_letter false) refl refl refl refl b letter

-- no token has white space in it
form_dark : (sort : Sort) (word : List ℕ) → HasForm sort word → AllOf dark word
form_dark Lower word form = begins_dark is_small_letter is_name_byte (dark_of is_small_letter refl refl refl refl) (dark_of is_name_byte refl refl refl refl) word form.0
form_dark Upper word form = begins_dark is_capital is_letter_or_digit (dark_of is_capital refl refl refl refl) (dark_of is_letter_or_digit refl refl refl refl) word form
form_dark Key word form = AllOf-from_list_all dark word (of_table (list_all dark) keywords word refl form)
form_dark Numeral word form = numeral_dark word form
form_dark Literal word form =
    elim (literal_parts word form) [
      | inl parts ↦ unsigned_dark false word parts
      | inr negative ↦ subst (AllOf dark) (sym negative.1) (refl, unsigned_dark true negative.0 negative.2)
    ]
form_dark Symbol word form = AllOf-from_list_all dark word (of_table (list_all dark) symbols word refl form)

-- before white space a token is the longest
longest_before_white : (sort : Sort) (word : List ℕ) (b : ℕ) (rest : List ℕ) → IsTrue (is_white b) → HasForm sort word → IsLongest sort word (b ∷ rest)
longest_before_white sort word b rest blank form = record {
  form = form;
  longest = λ other longer more same has. within_run dark word (b ∷ rest) longer more (form_dark sort word form) (ap not blank) (form_dark other longer has) same;
}

-- the bytes between two lists
slice_between : (before word after : List ℕ) (from to : ℕ) → length before ≡ from → to ≡ from + length word → slice_range (before ++ (word ++ after)) from to ≡ word
slice_between before word after from to begin end =
    let long : length word ≡ to - from = omega arith in
    ap (λ (r : List ℕ). take (to - from) r) (drop_at before (word ++ after) from begin) ∙ take_at word after (to - from) long

-- a text behind what was read and a gap, with its tokens
pub record Split (before rest : List ℕ) (words : List Word) : Type 0 where
  pub tokens : List Token
  pub splits : TokensFrom (length before) rest tokens
  pub words_are : words_of (before ++ rest) tokens ≡ words

-- the places of a word behind a gap
step : (b : ℕ) → IsTrue (is_white b) → (before gap : List ℕ) → Gap gap → (word : Word) (text : List ℕ) (words : List Word) → IsToken word
    → Split (before ++ (gap ++ word.bytes)) (b ∷ text) words → Split before (gap ++ (word.bytes ++ b ∷ text)) (word ∷ words)
step b blank before gap gaps word text words form more =
    let start : ℕ = length before + length gap in
    let end : ℕ = start + length word.bytes in
    let place : length (before ++ (gap ++ word.bytes)) ≡ end = omega (arith, length-append before (gap ++ word.bytes), length-append gap word.bytes) in
    let whole : before ++ (gap ++ (word.bytes ++ b ∷ text)) ≡ (before ++ (gap ++ word.bytes)) ++ b ∷ text =
    ap (λ (z : List ℕ). before ++ z) (sym (append_assoc gap word.bytes (b ∷ text))) ∙ sym (append_assoc before (gap ++ word.bytes) (b ∷ text)) in
    let around : before ++ (gap ++ (word.bytes ++ b ∷ text)) ≡ (before ++ gap) ++ (word.bytes ++ b ∷ text) = sym (append_assoc before gap (word.bytes ++ b ∷ text)) in
    let bytes_are : slice_range (before ++ (gap ++ (word.bytes ++ b ∷ text))) start end ≡ word.bytes =
    ap (λ (z : List ℕ). slice_range z start end) around ∙ slice_between (before ++ gap) word.bytes (b ∷ text) start end (length-append before gap) refl in
    let first : word_of (before ++ (gap ++ (word.bytes ++ b ∷ text))) (token word.sort start end) ≡ word =
    let made : List ℕ → Word = λ z. record { sort = word.sort; bytes = z } in ap made bytes_are in
    let others : words_of (before ++ (gap ++ (word.bytes ++ b ∷ text))) more.tokens ≡ words = ap (λ (z : List ℕ). words_of z more.tokens) whole ∙ more.words_are in
    record {
      tokens = token word.sort start end ∷ more.tokens;
      splits = next_at (length before) start end (gap ++ (word.bytes ++ b ∷ text)) gap word.bytes (b ∷ text) word.sort more.tokens gaps (longest_before_white word.sort word.bytes b text blank form) refl refl refl
          (subst (λ (p : ℕ). TokensFrom p (b ∷ text) more.tokens) place more.splits);
      words_are = λ i. first i ∷ others i;
    }

split_behind : {text : List ℕ} {words : List Word} → Spaced text words → (before gap : List ℕ) → Gap gap → Split before (gap ++ text) words
split_behind no_word before gap gaps = record { tokens = []; splits = ends (length before) (gap ++ []) (inl (subst Gap (sym (append-nil gap)) gaps)); words_are = refl }
split_behind (with_space word text words form more) before gap gaps =
    step 32 refl before gap gaps word text words form (split_behind more (before ++ (gap ++ word.bytes)) (32 ∷ []) (white 32 [] refl none))
split_behind (with_line_feed word text words form more) before gap gaps =
    step 10 refl before gap gaps word text words form (split_behind more (before ++ (gap ++ word.bytes)) (10 ∷ []) (white 10 [] refl none))

pub split_spaced : (text : List ℕ) (words : List Word) → Spaced text words → Split [] text words
split_spaced text words spaced = split_behind spaced [] [] none

-- the word of each token has its form
forms_behind : {at : ℕ} {text : List ℕ} {tokens : List Token} → TokensFrom at text tokens → (before : List ℕ) → length before ≡ at → All IsToken (words_of (before ++ text) tokens)
forms_behind (ends at rest last) before begins k d inside = absurd (omega arith)
forms_behind (next at gap word rest sort tokens gaps longest splits) before begins zero d inside =
    let around : before ++ (gap ++ (word ++ rest)) ≡ (before ++ gap) ++ (word ++ rest) = sym (append_assoc before gap (word ++ rest)) in
    let place : length (before ++ gap) ≡ at + length gap = length-append before gap ∙ ap (λ (n : ℕ). n + length gap) begins in
    let bytes_are : slice_range (before ++ (gap ++ (word ++ rest))) (at + length gap) (at + length gap + length word) ≡ word =
    ap (λ (z : List ℕ). slice_range z (at + length gap) (at + length gap + length word)) around ∙ slice_between (before ++ gap) word rest (at + length gap) (at + length gap + length word) place refl in
    subst (HasForm sort) (sym bytes_are) longest.form
forms_behind (next at gap word rest sort tokens gaps longest splits) before begins (suc k) d inside =
    let whole : before ++ (gap ++ (word ++ rest)) ≡ (before ++ (gap ++ word)) ++ rest =
    ap (λ (z : List ℕ). before ++ z) (sym (append_assoc gap word rest)) ∙ sym (append_assoc before (gap ++ word) rest) in
    let place : length (before ++ (gap ++ word)) ≡ at + length gap + length word = omega (arith, begins, length-append before (gap ++ word), length-append gap word) in
    let more : All IsToken (words_of (before ++ (gap ++ (word ++ rest))) tokens) = subst (λ (z : List ℕ). All IsToken (words_of z tokens)) (sym whole) (forms_behind splits (before ++ (gap ++ word)) place) in
    more k d (omega arith)

pub forms : (text : List ℕ) (tokens : List Token) → TokensFrom 0 text tokens → All IsToken (words_of text tokens)
forms text tokens splits = forms_behind splits [] refl
