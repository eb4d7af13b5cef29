-- A text goes on in one way after a gap.
use Rattle.std.proofs.Common.{◌≡◌, ℕ, true, not, eqb, List, [], ◌∷◌, ◌++◌, ◌⊎◌, inl, inr, sym, refl, ap, ◌∙◌, subst, append_assoc, arith}
use Rattle.std.specs.Prelude.{IsTrue, ◌==◌}
use Rattle.std.proofs.lemmas.Bool.{false≢true, both_ways, or_cases, eqb-true}
use Rattle.std.proofs.lemmas.List.{append-nil}
use Rattle.chw_lexer.specs.Forms.{is_white, HasForm}
use Rattle.chw_lexer.specs.Tokens.{InLine, Gap, LastGap, BeginsNothing}
use Rattle.chw_lexer.specs.Tokens.Gap.{none, white, comment}
use Rattle.chw_lexer.specs.declared.token.Sort.{Sort}
use Rattle.chw_lexer.specs.declared.token.Sort.TheVariants.{Lower, Upper, Key, Numeral, Literal, Symbol}
use Rattle.chw_lexer.specs.Scanning.{is_letter}
use Rattle.chw_lexer.proofs.Firsts.{First, form_first, form_empty}
use Rattle.chw_lexer.proofs.Symbols.{minus_word, no_digit_front}
use Rattle.chw_lexer.proofs.Names.{same_head}
use Rattle.chw_lexer.proofs.Runs.{same_run}

pub gap_append : {gap : List ℕ} → Gap gap → (more : List ℕ) → Gap more → Gap (gap ++ more)
gap_append none more rest = rest
gap_append (white b gap is_white_b gaps) more rest = white b (gap ++ more) is_white_b (gap_append gaps more rest)
gap_append (comment line gap in_line gaps) more rest =
    let same : 45 ∷ 45 ∷ (line ++ 10 ∷ (gap ++ more)) ≡ 45 ∷ 45 ∷ ((line ++ 10 ∷ gap) ++ more) = ap (λ l. 45 ∷ 45 ∷ l) (sym (append_assoc line (10 ∷ gap) more)) in
    subst Gap same (comment line (gap ++ more) in_line (gap_append gaps more rest))

-- no gap but the empty one is a front of the bytes
abbrev pub BeginsNoGap : List ℕ → Type 0
BeginsNoGap bytes = (gap more : List ℕ) → Gap gap → gap ++ more ≡ bytes → gap ≡ []

white_no_minus : (b : ℕ) → IsTrue (is_white b) → b ≡ 45 → ⊥
white_no_minus b is_white_b minus = false≢true (ap is_white (sym minus) ∙ is_white_b)

-- two comments that are one have one line
same_line : (line rest other more : List ℕ) → InLine line → InLine other → 45 ∷ 45 ∷ (other ++ 10 ∷ more) ≡ 45 ∷ 45 ∷ (line ++ 10 ∷ rest) → (other ≡ line) × (more ≡ rest)
same_line line rest other more in_line other_in_line same =
    let tail : other ++ 10 ∷ more ≡ line ++ 10 ∷ rest = cc in
    let parts = same_run (λ b. not (b == 10)) line (10 ∷ rest) other (10 ∷ more) in_line refl other_in_line refl tail in
    (parts.0, let ends = parts.1 in cc)

-- a text splits in one way into a gap and a rest with which no gap begins
pub same_gap : {gap other : List ℕ} → Gap gap → Gap other → (rest more : List ℕ) → BeginsNoGap rest → BeginsNoGap more → other ++ more ≡ gap ++ rest → (other ≡ gap) × (more ≡ rest)
same_gap none none rest more stops ends same = (refl, same)
same_gap none (white c other is_white_c others) rest more stops ends same =
    let empty : c ∷ other ≡ [] = stops (c ∷ other) more (white c other is_white_c others) same in cc
same_gap none (comment line other in_line others) rest more stops ends same =
    let empty : 45 ∷ 45 ∷ (line ++ 10 ∷ other) ≡ [] = stops (45 ∷ 45 ∷ (line ++ 10 ∷ other)) more (comment line other in_line others) same in cc
same_gap (white b gap is_white_b gaps) none rest more stops ends same =
    let empty : b ∷ gap ≡ [] = ends (b ∷ gap) rest (white b gap is_white_b gaps) (sym same) in cc
same_gap (white b gap is_white_b gaps) (white c other is_white_c others) rest more stops ends same =
    let head : c ≡ b = cc in
    let tail : other ++ more ≡ gap ++ rest = cc in
    let parts : (other ≡ gap) × (more ≡ rest) = same_gap gaps others rest more stops ends tail in
    (cc, parts.1)
same_gap (white b gap is_white_b gaps) (comment line other in_line others) rest more stops ends same =
    let head : b ≡ 45 = cc in absurd (white_no_minus b is_white_b head)
same_gap (comment line gap in_line gaps) none rest more stops ends same =
    let empty : 45 ∷ 45 ∷ (line ++ 10 ∷ gap) ≡ [] = ends (45 ∷ 45 ∷ (line ++ 10 ∷ gap)) rest (comment line gap in_line gaps) (sym same) in cc
same_gap (comment line gap in_line gaps) (white c other is_white_c others) rest more stops ends same =
    let head : c ≡ 45 = cc in absurd (white_no_minus c is_white_c head)
same_gap (comment line gap in_line gaps) (comment other_line other other_in_line others) rest more stops ends same =
    let front : 45 ∷ 45 ∷ (other_line ++ 10 ∷ (other ++ more)) ≡ 45 ∷ 45 ∷ (line ++ 10 ∷ (gap ++ rest)) =
    ap (λ l. 45 ∷ 45 ∷ l) (sym (append_assoc other_line (10 ∷ other) more)) ∙ same ∙ ap (λ l. 45 ∷ 45 ∷ l) (append_assoc line (10 ∷ gap) rest) in
    let lines = same_line line (gap ++ rest) other_line (other ++ more) in_line other_in_line front in
    let parts : (other ≡ gap) × (more ≡ rest) = same_gap gaps others rest more stops ends lines.1 in
    let line_is : other_line ≡ line = lines.0 in
    let gap_is : other ≡ gap = parts.0 in
    (cc, parts.1)

-- no token begins with `--`
pub no_comment_form : (sort : Sort) (word more bytes : List ℕ) → word ++ more ≡ 45 ∷ 45 ∷ bytes → HasForm sort word → ⊥
no_comment_form sort word more bytes same form =
    elim (minus_word (45 ∷ bytes) sort word more same form) [
      | inl arrow ↦
          let front : 45 ∷ 62 ∷ more ≡ 45 ∷ 45 ∷ bytes = ap (λ w. w ++ more) (sym arrow) ∙ same in
          let tail : 62 ∷ more ≡ 45 ∷ bytes = cc in
          omega (arith, same_head 62 45 more bytes tail)
      | inr negative ↦
          let front : 45 ∷ (negative.0 ++ more) ≡ 45 ∷ 45 ∷ bytes = ap (λ w. w ++ more) (sym negative.1) ∙ same in
          let tail : negative.0 ++ more ≡ 45 ∷ bytes = cc in
          no_digit_front (is_letter true) 45 bytes negative.0 more refl tail negative.2
    ]

pub white_number : (b : ℕ) → IsTrue (is_white b) → (b ≡ 32) ⊎ ((b ≡ 9) ⊎ ((b ≡ 10) ⊎ (b ≡ 13)))
white_number b is_white_b =
    elim (or_cases (eqb b 32) _ is_white_b) [
      | inl space ↦ inl (eqb-true _ _ space)
      | inr more ↦ elim (or_cases (eqb b 9) _ more) [
        | inl tab ↦ inr (inl (eqb-true _ _ tab))
        | inr others ↦ elim (or_cases (eqb b 10) _ others) [ inl line ↦ inr (inr (inl (eqb-true _ _ line))) | inr return ↦ inr (inr (inr (eqb-true _ _ return))) ]
      ]
    ]

-- no token begins with white space
pub white_no_first : (sort : Sort) (b : ℕ) → (b ≡ 32) ⊎ ((b ≡ 9) ⊎ ((b ≡ 10) ⊎ (b ≡ 13))) → First sort b → ⊥
white_no_first Lower b is_white_b first = omega arith
white_no_first Upper b is_white_b first = omega arith
white_no_first Key b is_white_b first = omega arith
white_no_first Numeral b is_white_b first = omega arith
white_no_first Literal b is_white_b first = omega arith
white_no_first Symbol b is_white_b first = omega arith

-- no gap begins where a token begins
pub form_no_gap : (sort : Sort) (word rest : List ℕ) → HasForm sort word → BeginsNoGap (word ++ rest)
form_no_gap sort [] rest form gap more gaps same = absurd (form_empty sort form)
form_no_gap sort (w ∷ word) rest form gap more gaps same = here gaps more same
  where
    here : {gap : List ℕ} → Gap gap → (more : List ℕ) → gap ++ more ≡ w ∷ (word ++ rest) → gap ≡ []
    here none more same = refl
    here (white b gap is_white_b gaps) more same =
        let head : w ≡ b = cc in
        absurd (white_no_first sort b (white_number b is_white_b) (subst (First sort) head (form_first sort w word form)))
    here (comment line gap in_line gaps) more same = absurd (no_comment_form sort (w ∷ word) rest ((line ++ 10 ∷ gap) ++ more) (sym same) form)

pub nothing_no_gap : (b : ℕ) (rest : List ℕ) → BeginsNothing b rest → BeginsNoGap (b ∷ rest)
nothing_no_gap b rest nothing gap more gaps same = here gaps more same
  where
    here : {gap : List ℕ} → Gap gap → (more : List ℕ) → gap ++ more ≡ b ∷ rest → gap ≡ []
    here none more same = refl
    here (white c gap is_white_c gaps) more same =
        let head : c ≡ b = cc in absurd (both_ways (is_white c) (ap is_white head ∙ nothing.no_white) is_white_c)
    here (comment line gap in_line gaps) more same = absurd (nothing.no_comment ((line ++ 10 ∷ gap) ++ more) (sym same))

pub end_no_gap : BeginsNoGap []
end_no_gap [] more gaps same = refl
end_no_gap (b ∷ gap) more gaps same = cc

pub line_no_gap : (line : List ℕ) → InLine line → BeginsNoGap (45 ∷ 45 ∷ line)
line_no_gap line in_line gap more gaps same = here gaps more same
  where
    here : {gap : List ℕ} → Gap gap → (more : List ℕ) → gap ++ more ≡ 45 ∷ 45 ∷ line → gap ≡ []
    here none more same = refl
    here (white b gap is_white_b gaps) more same = let head : b ≡ 45 = cc in absurd (white_no_minus b is_white_b head)
    here (comment other gap other_in_line gaps) more same =
        let tail : (other ++ 10 ∷ gap) ++ more ≡ line = cc in
        let split : other ++ 10 ∷ (gap ++ more) ≡ line ++ [] = sym (append_assoc other (10 ∷ gap) more) ∙ tail ∙ sym (append-nil line) in
        let ends : 10 ∷ (gap ++ more) ≡ [] = (same_run (λ b. not (b == 10)) line [] other (10 ∷ (gap ++ more)) in_line tt other_in_line refl split).1 in
        cc

-- the last gap of a text is no gap before more
pub last_gap_no_token : (rest : List ℕ) → LastGap rest → (gap : List ℕ) → Gap gap → (sort : Sort) (word more : List ℕ) → HasForm sort word → rest ≡ gap ++ (word ++ more) → ⊥
last_gap_no_token rest last gap gaps sort word more form same =
    elim last [
      | inl whole ↦
          let split : gap ++ (word ++ more) ≡ rest ++ [] = sym same ∙ sym (append-nil rest) in
          empty word form (same_gap whole gaps [] (word ++ more) end_no_gap (form_no_gap sort word more form) split).1
      | inr cut ↦
          let line = (same_gap cut.2 gaps (45 ∷ 45 ∷ cut.1) (word ++ more) (line_no_gap cut.1 cut.3) (form_no_gap sort word more form) (sym same ∙ cut.4)).1 in
          no_comment_form sort word more cut.1 line form
    ]
  where
    empty : (word : List ℕ) → HasForm sort word → word ++ more ≡ [] → ⊥
    empty [] form same = form_empty sort form
    empty (w ∷ word) form same = cc

pub last_gap_no_fault : (rest : List ℕ) → LastGap rest → (gap : List ℕ) → Gap gap → (b : ℕ) (more : List ℕ) → BeginsNothing b more → rest ≡ gap ++ b ∷ more → ⊥
last_gap_no_fault rest last gap gaps b more nothing same =
    elim last [
      | inl whole ↦
          let split : gap ++ b ∷ more ≡ rest ++ [] = sym same ∙ sym (append-nil rest) in
          let empty : b ∷ more ≡ [] = (same_gap whole gaps [] (b ∷ more) end_no_gap (nothing_no_gap b more nothing) split).1 in
          cc
      | inr cut ↦
          nothing.no_comment cut.1 (same_gap cut.2 gaps (45 ∷ 45 ∷ cut.1) (b ∷ more) (line_no_gap cut.1 cut.3) (nothing_no_gap b more nothing) (sym same ∙ cut.4)).1
    ]
