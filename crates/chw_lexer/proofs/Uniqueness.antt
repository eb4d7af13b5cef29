-- A text has one splitting, or one first place where no token begins, and not both.
use Rattle.std.proofs.Common.{get_or, suc, zero, ◌≡◌, ℕ, ◌+◌, ◌<◌, ◌≤◌, true, false, List, [], ◌∷◌, ◌++◌, length, inl, inr, take, sym, refl, ap, ◌∙◌, subst, arith}
use Rattle.std.proofs.lemmas.Bool.{false≢true, both_ways}
use Rattle.std.proofs.lemmas.List.{append-nil, append_cancel_left, length-append, take_at}
use Rattle.chw_base.specs.Names.{is_digit}
use Rattle.chw_lexer.specs.Forms.{IsNumeral, HasForm}
use Rattle.chw_lexer.specs.Tokens.{Gap, IsLongest, TokensFrom, NoTokenFrom, InOrder}
use Rattle.chw_lexer.specs.Tokens.TokensFrom.{ends, next}
use Rattle.chw_lexer.specs.Tokens.NoTokenFrom.{here, later}
use Rattle.chw_lexer.specs.Scanning.{is_letter}
use Rattle.chw_lexer.specs.declared.token.Sort.{Sort}
use Rattle.chw_lexer.specs.declared.token.Sort.TheVariants.{Lower, Upper, Key, Numeral, Literal, Symbol}
use Rattle.chw_lexer.specs.declared.token.Token.{Token}
use Rattle.chw_lexer.proofs.Firsts.{First, form_first, form_empty, literal_parts, unsigned_first, symbol_looks}
use Rattle.chw_lexer.proofs.Runs.{same_run}
use Rattle.chw_lexer.proofs.Numbers.{numeral_digits, letter_no_digit}
use Rattle.chw_lexer.proofs.Symbols.{minus_symbol, no_digit_front}
use Rattle.chw_lexer.proofs.Gaps.{same_gap, form_no_gap, nothing_no_gap, last_gap_no_token, last_gap_no_fault}

-- digits alone are no literal
numeral_no_literal : (word : List ℕ) → IsNumeral word → HasForm Literal word → ⊥
numeral_no_literal word numeral literal =
    elim (literal_parts word literal) [
      | inl parts ↦
          let split : parts.value ++ parts.letter ∷ parts.width ≡ word ++ [] = sym parts.word_is ∙ sym (append-nil word) in
          let ends : parts.letter ∷ parts.width ≡ [] =
          (same_run is_digit word [] parts.value (parts.letter ∷ parts.width) (numeral_digits word numeral) tt (numeral_digits parts.value parts.value_is) (letter_no_digit false parts.letter parts.letter_is) split).1 in
          cc
      | inr negative ↦ false≢true (subst IsNumeral negative.1 numeral).0
    ]

-- `->` is no literal
symbol_no_literal : (b : ℕ) (bytes : List ℕ) → First Literal b → First Symbol b → HasForm Literal (b ∷ bytes) → HasForm Symbol (b ∷ bytes) → ⊥
symbol_no_literal b bytes (inl digit) other literal symbol = omega arith
symbol_no_literal b bytes (inr minus) other literal symbol =
    let whole : b ∷ bytes ≡ 45 ∷ bytes = ap (λ x. x ∷ bytes) minus in
    let arrow = minus_symbol bytes (symbol_looks (45 ∷ bytes) (subst (HasForm Symbol) whole symbol)) in
    elim (literal_parts (45 ∷ bytes) (subst (HasForm Literal) whole literal)) [
      | inl parts ↦ omega (arith, unsigned_first (is_letter false) 45 bytes parts)
      | inr negative ↦
          let front : 45 ∷ negative.0 ≡ 45 ∷ 62 ∷ [] = sym negative.1 ∙ arrow in
          let rest : negative.0 ≡ 62 ∷ [] = cc in
          no_digit_front (is_letter true) 62 [] negative.0 [] refl (append-nil negative.0 ∙ rest) negative.2
    ]

-- a word that begins with this byte has at most one form
one_form : (sort other : Sort) (b : ℕ) (bytes : List ℕ) → First sort b → First other b → HasForm sort (b ∷ bytes) → HasForm other (b ∷ bytes) → other ≡ sort
one_form Lower Lower b bytes first second form again = refl
one_form Upper Upper b bytes first second form again = refl
one_form Key Key b bytes first second form again = refl
one_form Numeral Numeral b bytes first second form again = refl
one_form Literal Literal b bytes first second form again = refl
one_form Symbol Symbol b bytes first second form again = refl
one_form Lower Key b bytes first second form again = absurd (both_ways _ form.1 again)
one_form Key Lower b bytes first second form again = absurd (both_ways _ again.1 form)
one_form Numeral Literal b bytes first second form again = absurd (numeral_no_literal (b ∷ bytes) form again)
one_form Literal Numeral b bytes first second form again = absurd (numeral_no_literal (b ∷ bytes) again form)
one_form Symbol Literal b bytes first second form again = absurd (symbol_no_literal b bytes second first again form)
one_form Literal Symbol b bytes first second form again = absurd (symbol_no_literal b bytes first second form again)
one_form _ _ b bytes first second form again = absurd (omega arith)

pub same_sort : (sort other : Sort) (word : List ℕ) → HasForm sort word → HasForm other word → other ≡ sort
same_sort sort other [] form again = absurd (form_empty sort form)
same_sort sort other (b ∷ bytes) form again = one_form sort other b bytes (form_first sort b bytes form) (form_first other b bytes again) form again

-- the longest token is one
pub same_longest : (sort other : Sort) (word rest longer more : List ℕ) → IsLongest sort word rest → IsLongest other longer more → longer ++ more ≡ word ++ rest → (other ≡ sort) × (longer ≡ word) × (more ≡ rest)
same_longest sort other word rest longer more first second same =
    let within : length longer ≤ length word = first.longest other longer more same second.form in
    let around : length word ≤ length longer = second.longest sort word rest (sym same) first.form in
    let lengths : length longer ≡ length word = omega arith in
    let word_is : longer ≡ word = sym (take_at longer more (length word) lengths) ∙ ap (take (length word)) same ∙ take_at word rest (length word) refl in (
      same_sort sort other word first.form (subst (HasForm other) word_is second.form),
      word_is,
      append_cancel_left word more rest (ap (λ w. w ++ more) (sym word_is) ∙ same),
    )

-- two gaps with the longest tokens behind them, of one text
same_step : (gap word rest other_gap other_word more : List ℕ) (sort other : Sort) → Gap gap → IsLongest sort word rest → Gap other_gap → IsLongest other other_word more → other_gap ++ (other_word ++ more) ≡ gap ++ (word ++ rest) → (other_gap ≡ gap) × (other ≡ sort) × (other_word ≡ word) × (more ≡ rest)
same_step gap word rest other_gap other_word more sort other gaps longest other_gaps other_longest same =
    let gap_is = same_gap gaps other_gaps (word ++ rest) (other_word ++ more) (form_no_gap sort word rest longest.form) (form_no_gap other other_word more other_longest.form) same in
    let word_is = same_longest sort other word rest other_word more longest other_longest gap_is.1 in
    (gap_is.0, word_is.0, word_is.1, word_is.2)

-- a text has at most one splitting
pub one_splitting : {at : ℕ} {text : List ℕ} {tokens : List Token} → TokensFrom at text tokens → {place : ℕ} {other : List ℕ} {others : List Token} → TokensFrom place other others → place ≡ at → other ≡ text → others ≡ tokens
one_splitting (ends at rest last) (ends place other other_last) same_place same = refl
one_splitting (ends at rest last) (next place gap word more sort others gaps longest splits) same_place same = absurd (last_gap_no_token rest last gap gaps sort word more longest.form (sym same))
one_splitting (next at gap word rest sort tokens gaps longest splits) (ends place other last) same_place same = absurd (last_gap_no_token other last gap gaps sort word rest longest.form same)
one_splitting (next at gap word rest sort tokens gaps longest splits) (next place other_gap other_word more other others other_gaps other_longest other_splits) same_place same =
    let parts = same_step gap word rest other_gap other_word more sort other gaps longest other_gaps other_longest same in
    let from : place + length other_gap ≡ at + length gap = omega (arith, ap length parts.0) in
    let to : place + length other_gap + length other_word ≡ at + length gap + length word = omega (arith, from, ap length parts.2) in
    let tail : others ≡ tokens = one_splitting splits other_splits to parts.3 in
    let sort_is : other ≡ sort = parts.1 in
    cc

-- a text that splits has no place where no token begins
pub no_fault : {at : ℕ} {text : List ℕ} {tokens : List Token} → TokensFrom at text tokens → {place : ℕ} {other : List ℕ} {fault : ℕ} → NoTokenFrom place other fault → other ≡ text → ⊥
no_fault (ends at rest last) (here place gap b more gaps nothing) same = last_gap_no_fault rest last gap gaps b more nothing (sym same)
no_fault (ends at rest last) (later place gap word more sort fault gaps longest faults) same = last_gap_no_token rest last gap gaps sort word more longest.form (sym same)
no_fault (next at gap word rest sort tokens gaps longest splits) (here place other_gap b more other_gaps nothing) same =
    let gap_is = same_gap gaps other_gaps (word ++ rest) (b ∷ more) (form_no_gap sort word rest longest.form) (nothing_no_gap b more nothing) same in
    nothing.no_token sort word rest (sym gap_is.1) longest.form
no_fault (next at gap word rest sort tokens gaps longest splits) (later place other_gap other_word more other fault other_gaps other_longest faults) same =
    no_fault splits faults (same_step gap word rest other_gap other_word more sort other gaps longest other_gaps other_longest same).3

-- there is at most one first place where no token begins
pub one_fault : {at : ℕ} {text : List ℕ} {fault : ℕ} → NoTokenFrom at text fault → {place : ℕ} {other : List ℕ} {other_fault : ℕ} → NoTokenFrom place other other_fault → place ≡ at → other ≡ text → other_fault ≡ fault
one_fault (here at gap b rest gaps nothing) (here place other_gap c more other_gaps other_nothing) same_place same =
    let gap_is = same_gap gaps other_gaps (b ∷ rest) (c ∷ more) (nothing_no_gap b rest nothing) (nothing_no_gap c more other_nothing) same in
    omega (arith, ap length gap_is.0)
one_fault (here at gap b rest gaps nothing) (later place other_gap word more sort fault other_gaps longest faults) same_place same =
    let gap_is = same_gap gaps other_gaps (b ∷ rest) (word ++ more) (nothing_no_gap b rest nothing) (form_no_gap sort word more longest.form) same in
    absurd (nothing.no_token sort word more gap_is.1 longest.form)
one_fault (later at gap word rest sort fault gaps longest faults) (here place other_gap b more other_gaps nothing) same_place same =
    let gap_is = same_gap gaps other_gaps (word ++ rest) (b ∷ more) (form_no_gap sort word rest longest.form) (nothing_no_gap b more nothing) same in
    absurd (nothing.no_token sort word rest (sym gap_is.1) longest.form)
one_fault (later at gap word rest sort fault gaps longest faults) (later place other_gap other_word more other other_fault other_gaps other_longest other_faults) same_place same =
    let parts = same_step gap word rest other_gap other_word more sort other gaps longest other_gaps other_longest same in
    let from : place + length other_gap ≡ at + length gap = omega (arith, ap length parts.0) in
    let to : place + length other_gap + length other_word ≡ at + length gap + length word = omega (arith, from, ap length parts.2) in
    one_fault faults other_faults to parts.3

form_length : (sort : Sort) (word : List ℕ) → HasForm sort word → 0 < length word
form_length sort [] form = absurd (form_empty sort form)
form_length sort (w ∷ word) form = omega arith

-- the tokens of a text stand in order
pub in_order : {at : ℕ} {text : List ℕ} {tokens : List Token} → TokensFrom at text tokens → (end : ℕ) → end ≡ at + length text → InOrder at end tokens
in_order (ends at rest last) end same = tt
in_order (next at gap word rest sort tokens gaps longest splits) end same =
    let some = form_length sort word longest.form in
    let outer = length-append gap (word ++ rest) in
    let inner = length-append word rest in
    (omega arith, omega arith, omega arith, in_order splits end (omega arith))

-- tokens in order lie between the two places
pub lies_between : (from to : ℕ) (tokens : List Token) → InOrder from to tokens → (k : ℕ) (d : Token) → k < length tokens → ((get_or tokens k d).span.from ≤ (get_or tokens k d).span.to) × ((get_or tokens k d).span.to ≤ to)
lies_between from to [] order k d inside = absurd (omega arith)
lies_between from to (t ∷ tokens) order zero d inside = (omega (arith, order.1), order.2)
lies_between from to (t ∷ tokens) order (suc k) d inside = lies_between t.span.to to tokens order.3 k d (omega arith)
