-- What byte each form begins with, and that a token has one sort.
use Rattle.std.proofs.Common.{◌≡◌, ℕ, ◌≤◌, Bool, false, ◌&&◌, ◌||◌, leb, eqb, List, [], ◌∷◌, ◌++◌, ◌⊎◌, inl, inr, sym, refl, ap, ◌∙◌, subst, arith}
use Rattle.std.specs.Prelude.{IsTrue}
use Rattle.std.specs.List.{list_any, list_all}
use Rattle.std.specs.Str.{bytes_eq}
use Rattle.std.proofs.lemmas.Bool.{false≢true, and_parts, or_cases, leb-true, eqb-true, both_ways}
use Rattle.std.proofs.lemmas.List.{append-nil}
use Rattle.std.proofs.lemmas.Slice.Eq.{bytes_eq-Decides}
use Rattle.chw_base.specs.Names.{AllOf, is_small_letter, is_capital, is_digit, is_name_byte}
use Rattle.verilog_text.specs.VForms.{HasForm, HasParts, IsLiteral, IsNumber, IsWord, Sort, begins_word, is_keyword, keywords, signs}
use Rattle.verilog_text.specs.VForms.Sort.{keyword, literal, name, number, sign, signed}
use Rattle.verilog_text.proofs.Runs.{same_run}

-- what holds of each word of a table holds of a word that is in it
pub of_table : (test : List ℕ → Bool) (table : List (List ℕ)) (word : List ℕ) → IsTrue (list_all test table)
    → IsTrue (list_any (bytes_eq word) table) → IsTrue (test word)
of_table test [] word each here = absurd (false≢true here)
of_table test (first ∷ table) word each here =
    let parts = and_parts _ _ each in
    elim (or_cases (bytes_eq word first) (list_any (bytes_eq word) table) here) [
      | inl same ↦ ap test ((bytes_eq-Decides word first).0 same) ∙ parts.0
      | inr later ↦ of_table test table word parts.1 later
    ]

pub AllOf-from_list_all : (test : ℕ → Bool) (bytes : List ℕ) → IsTrue (list_all test bytes) → AllOf test bytes
AllOf-from_list_all test [] each = tt
AllOf-from_list_all test (b ∷ bytes) each =
    let parts = and_parts _ _ each in
    (parts.0, AllOf-from_list_all test bytes parts.1)

abbrev looks_like_word : List ℕ → Bool
looks_like_word [] = false
looks_like_word (b ∷ bytes) = begins_word b && list_all is_name_byte bytes

-- a keyword is a word
pub keyword_word : (bytes : List ℕ) → IsTrue (is_keyword bytes) → IsWord bytes
keyword_word bytes key = from_look bytes (of_table looks_like_word keywords bytes refl key)
  where
    from_look : (bytes : List ℕ) → IsTrue (looks_like_word bytes) → IsWord bytes
    from_look [] look = absurd (false≢true look)
    from_look (b ∷ bytes) look =
        let parts = and_parts _ _ look in
        (parts.0, AllOf-from_list_all is_name_byte bytes parts.1)

-- the first bytes of signs
abbrev pub is_mark : ℕ → Bool
is_mark b =
    eqb b 38 || ((leb 40 b && leb b 46) || ((leb 58 b && leb b 64)
    || (eqb b 91 || ((leb 93 b && leb b 94) || (leb 123 b && leb b 126)))))

abbrev begins_with_mark : List ℕ → Bool
begins_with_mark [] = false
begins_with_mark (b ∷ bytes) = is_mark b

-- the bytes that a form may begin with
abbrev pub First : Sort → ℕ → Type 0
First keyword b = ((97 ≤ b) × (b ≤ 122)) ⊎ (((65 ≤ b) × (b ≤ 90)) ⊎ (b ≡ 95))
First name b = ((97 ≤ b) × (b ≤ 122)) ⊎ (((65 ≤ b) × (b ≤ 90)) ⊎ (b ≡ 95))
First number b = (48 ≤ b) × (b ≤ 57)
First literal b = (48 ≤ b) × (b ≤ 57)
First signed b = b ≡ 36
First sign b =
    (b ≡ 38) ⊎ (((40 ≤ b) × (b ≤ 46)) ⊎ (((58 ≤ b) × (b ≤ 64))
    ⊎ ((b ≡ 91) ⊎ (((93 ≤ b) × (b ≤ 94)) ⊎ ((123 ≤ b) × (b ≤ 126))))))

pub range : (low high b : ℕ) → IsTrue (leb low b && leb b high) → (low ≤ b) × (b ≤ high)
range low high b inside = let parts = and_parts _ _ inside in (leb-true _ _ parts.0, leb-true _ _ parts.1)

pub digit_range : (b : ℕ) → IsTrue (is_digit b) → (48 ≤ b) × (b ≤ 57)
digit_range b digit = range 48 57 b digit

pub word_range : (b : ℕ) → IsTrue (begins_word b) → First name b
word_range b begins =
    elim (or_cases (is_small_letter b) _ begins) [
      | inl small ↦ inl (range 97 122 b small)
      | inr more ↦ elim (or_cases (is_capital b) _ more) [
        | inl capital ↦ inr (inl (range 65 90 b capital))
        | inr line ↦ inr (inr (eqb-true _ _ line))
      ]
    ]

mark_range : (b : ℕ) → IsTrue (is_mark b) → First sign b
mark_range b mark =
    elim (or_cases (eqb b 38) _ mark) [
      | inl first ↦ inl (eqb-true _ _ first)
      | inr a ↦ elim (or_cases (leb 40 b && leb b 46) _ a) [
        | inl second ↦ inr (inl (range 40 46 b second))
        | inr c ↦ elim (or_cases (leb 58 b && leb b 64) _ c) [
          | inl third ↦ inr (inr (inl (range 58 64 b third)))
          | inr d ↦ elim (or_cases (eqb b 91) _ d) [
            | inl fourth ↦ inr (inr (inr (inl (eqb-true _ _ fourth))))
            | inr e ↦ elim (or_cases (leb 93 b && leb b 94) _ e) [
              | inl fifth ↦ inr (inr (inr (inr (inl (range 93 94 b fifth)))))
              | inr last ↦ inr (inr (inr (inr (inr (range 123 126 b last)))))
            ]
          ]
        ]
      ]
    ]

-- a literal begins with a digit
literal_first : (b : ℕ) (bytes size digits : List ℕ) → HasParts (b ∷ bytes) size digits → First literal b
literal_first b bytes [] digits parts = absurd parts.size_is
literal_first b bytes (s ∷ size) digits parts =
    let whole : b ∷ bytes ≡ s ∷ (size ++ 39 ∷ 104 ∷ digits) = parts.bytes_are in
    let head : s ≡ b = cc in
    digit_range b (subst (λ (x : ℕ). IsTrue (is_digit x)) head parts.size_is.0)

literal_empty : (size digits : List ℕ) → HasParts [] size digits → ⊥
literal_empty [] digits parts = parts.size_is
literal_empty (s ∷ size) digits parts =
    let whole : [] ≡ s ∷ (size ++ 39 ∷ 104 ∷ digits) = parts.bytes_are in cc

pub form_empty : (sort : Sort) → HasForm sort [] → ⊥
form_empty keyword form = false≢true form
form_empty name form = form.0
form_empty number form = form
form_empty literal form = literal_empty form.0 form.1 form.2
form_empty signed form = cc
form_empty sign form = false≢true form

pub form_first : (sort : Sort) (b : ℕ) (bytes : List ℕ) → HasForm sort (b ∷ bytes) → First sort b
form_first keyword b bytes form = word_range b (keyword_word (b ∷ bytes) form).0
form_first name b bytes form = word_range b form.0.0
form_first number b bytes form = digit_range b form.0
form_first literal b bytes form = literal_first b bytes form.0 form.1 form.2
form_first signed b bytes form = cc
form_first sign b bytes form = mark_range b (of_table begins_with_mark signs (b ∷ bytes) refl form)

pub number_digits : (bytes : List ℕ) → IsNumber bytes → AllOf is_digit bytes
number_digits [] form = absurd form
number_digits (b ∷ bytes) form = form

-- digits alone are no literal
number_no_literal : (bytes : List ℕ) → IsNumber bytes → IsLiteral bytes → ⊥
number_no_literal bytes form text =
    let parts : HasParts bytes text.0 text.1 = text.2 in
    let split : text.0 ++ 39 ∷ 104 ∷ text.1 ≡ bytes ++ [] = sym parts.bytes_are ∙ sym (append-nil bytes) in
    let ends : 39 ∷ 104 ∷ text.1 ≡ [] =
    (same_run is_digit bytes [] text.0 (39 ∷ 104 ∷ text.1) (number_digits bytes form) tt (number_digits text.0 parts.size_is) refl split).1 in
    cc

-- a token has one sort
one_form : (sort other : Sort) (b : ℕ) (bytes : List ℕ) → First sort b → First other b → HasForm sort (b ∷ bytes) → HasForm other (b ∷ bytes) → other ≡ sort
one_form keyword keyword b bytes first second form again = refl
one_form name name b bytes first second form again = refl
one_form number number b bytes first second form again = refl
one_form literal literal b bytes first second form again = refl
one_form signed signed b bytes first second form again = refl
one_form sign sign b bytes first second form again = refl
one_form keyword name b bytes first second form again = absurd (both_ways _ again.1 form)
one_form name keyword b bytes first second form again = absurd (both_ways _ form.1 again)
one_form number literal b bytes first second form again = absurd (number_no_literal (b ∷ bytes) form again)
one_form literal number b bytes first second form again = absurd (number_no_literal (b ∷ bytes) again form)
one_form _ _ b bytes first second form again = absurd (omega arith)

pub same_sort : (sort other : Sort) (bytes : List ℕ) → HasForm sort bytes → HasForm other bytes → other ≡ sort
same_sort sort other [] form again = absurd (form_empty sort form)
same_sort sort other (b ∷ bytes) form again = one_form sort other b bytes (form_first sort b bytes form) (form_first other b bytes again) form again
