-- Symbols and negative literals as longest tokens.
use Rattle.std.proofs.Common.{eqb-true, get_or, ◌≡◌, ℕ, ◌+◌, ◌≤◌, Bool, true, false, ◌⊎◌, inl, inr, eqb, leb, List, [], ◌∷◌, ◌++◌, length, take, drop, sym, refl, ap, ◌∙◌, subst, add-one, ◌-◌, arith}
use Rattle.std.specs.Prelude.{IsTrue, ◌==◌}
use Rattle.std.proofs.lemmas.Bool.{false≢true, both_ways, and_parts, or_parts, not-true, eq-eqb, le-leb, and_from}
use Rattle.std.proofs.lemmas.List.{take-append-drop, take_rest, length-take-le}
use Rattle.chw_base.specs.Names.{is_small_letter, is_capital, is_digit, is_letter_or_digit}
use Rattle.chw_lexer.specs.Forms.{is_symbol, HasForm}
use Rattle.chw_lexer.specs.Scanning.{BeginsWith, begins_with, is_letter, is_other, IsUnsigned, IsLongestUnsigned, BeginsNoUnsigned, IsTokenAt, BeginsNoToken}
use Rattle.chw_lexer.specs.declared.token.Sort.{Sort}
use Rattle.chw_lexer.specs.declared.token.Sort.TheVariants.{Lower, Upper, Key, Numeral, Literal, Symbol}
use Rattle.chw_lexer.proofs.Firsts.{First, form_first, form_empty, literal_parts, negative_literal, unsigned_first, unsigned_empty, looks_like_symbol, symbol_looks, two_bytes}

-- a token that begins with `-` is `->` or a negative literal
abbrev pub MinusWord : List ℕ → Type 0
MinusWord word = (word ≡ 45 ∷ 62 ∷ []) ⊎ ((rest : List ℕ) × (word ≡ 45 ∷ rest) × IsUnsigned (is_letter true) rest)

pub minus_symbol : (bytes : List ℕ) → IsTrue (looks_like_symbol (45 ∷ bytes)) → 45 ∷ bytes ≡ 45 ∷ 62 ∷ []
minus_symbol [] look = absurd (false≢true look)
minus_symbol (c ∷ []) look =
    elim (two_bytes 45 c look) [
      | inl arrow ↦ ap (λ x. 45 ∷ x ∷ []) arrow.1
      | inr lambda ↦ absurd (omega (arith, lambda.0))
    ]
minus_symbol (c ∷ d ∷ bytes) look = absurd (false≢true look)

minus_form : (sort : Sort) (bytes : List ℕ) → First sort 45 → HasForm sort (45 ∷ bytes) → MinusWord (45 ∷ bytes)
minus_form Lower bytes first form = absurd (omega arith)
minus_form Upper bytes first form = absurd (omega arith)
minus_form Key bytes first form = absurd (omega arith)
minus_form Numeral bytes first form = absurd (omega arith)
minus_form Literal bytes first form =
    elim (literal_parts (45 ∷ bytes) form) [
      | inl parts ↦ absurd (omega (arith, unsigned_first (is_letter false) 45 bytes parts))
      | inr negative ↦ inr negative
    ]
minus_form Symbol bytes first form = inl (minus_symbol bytes (symbol_looks (45 ∷ bytes) form))

pub minus_word : (bytes : List ℕ) (sort : Sort) (word more : List ℕ) → word ++ more ≡ 45 ∷ bytes → HasForm sort word → MinusWord word
minus_word bytes sort [] more same form = absurd (form_empty sort form)
minus_word bytes sort (w ∷ word) more same form =
    let head : w ≡ 45 = cc in
    let whole : w ∷ word ≡ 45 ∷ word = cc in
    let at_minus : HasForm sort (45 ∷ word) = subst (HasForm sort) whole form in
    subst MinusWord (sym whole) (minus_form sort word (form_first sort 45 word at_minus) at_minus)

-- an unsigned literal begins with no other byte than a digit
pub no_digit_front : (letters : ℕ → Bool) (b : ℕ) (bytes word more : List ℕ) → is_digit b ≡ false → word ++ more ≡ b ∷ bytes → IsUnsigned letters word → ⊥
no_digit_front letters b bytes [] more other same parts = unsigned_empty letters parts
no_digit_front letters b bytes (w ∷ word) more other same parts =
    let head : w ≡ b = cc in
    let digit = unsigned_first letters w word parts in
    both_ways (is_digit b) other (and_from (leb 48 b) _ (le-leb 48 b (omega arith)) (le-leb b 57 (omega arith)))

-- no `>` follows
no_arrow : (bytes more : List ℕ) → begins_with (λ b. b == 62) bytes ≡ false → 45 ∷ 62 ∷ more ≡ 45 ∷ bytes → ⊥
no_arrow [] more none same = let tail : 62 ∷ more ≡ [] = cc in cc
no_arrow (b ∷ bytes) more none same =
    let tail : 62 ∷ more ≡ b ∷ bytes = cc in
    let head : b ≡ 62 = cc in
    both_ways (eqb b 62) none (eq-eqb b 62 head)

pub negative_token : (bytes : List ℕ) (n : ℕ) → begins_with (λ b. b == 62) bytes ≡ false → IsLongestUnsigned (is_letter true) bytes n → IsTokenAt (45 ∷ bytes) Literal (n + 1)
negative_token bytes n none literal = rw add-one (record {
  within = omega (arith, literal.within);
  longest = record {
    form = negative_literal (take n bytes) literal.form;
    longest = λ other word more same form.
        let whole : word ++ more ≡ 45 ∷ bytes = same ∙ ap (λ r. 45 ∷ r) (take-append-drop n bytes) in
        let front : length (take n bytes) ≡ n = length-take-le n bytes literal.within in
        elim (minus_word bytes other word more whole form) [
          | inl arrow ↦ absurd (no_arrow bytes more none (ap (λ w. w ++ more) (sym arrow) ∙ whole))
          | inr negative ↦
              let regroup : 45 ∷ (negative.0 ++ more) ≡ 45 ∷ bytes = ap (λ w. w ++ more) (sym negative.1) ∙ whole in
              let tail : negative.0 ++ more ≡ bytes = cc in
              let shorter = literal.longest negative.0 more tail negative.2 in
              omega (arith, ap length negative.1)
        ];
  };
})

pub no_minus_token : (bytes : List ℕ) → begins_with (λ b. b == 62) bytes ≡ false → BeginsNoUnsigned (is_letter true) bytes → BeginsNoToken (45 ∷ bytes)
no_minus_token bytes none no_literal sort word more same form =
    elim (minus_word bytes sort word more same form) [
      | inl arrow ↦ no_arrow bytes more none (ap (λ w. w ++ more) (sym arrow) ∙ same)
      | inr negative ↦
          let regroup : 45 ∷ (negative.0 ++ more) ≡ 45 ∷ bytes = ap (λ w. w ++ more) (sym negative.1) ∙ same in
          let tail : negative.0 ++ more ≡ bytes = cc in
          no_literal negative.0 more tail negative.2
    ]

-- what begins with another byte is a symbol
other_range : (b : ℕ) → IsTrue (is_other b) → ((97 ≤ b) × (b ≤ 122) → ⊥) × ((65 ≤ b) × (b ≤ 90) → ⊥) × ((48 ≤ b) × (b ≤ 57) → ⊥) × (b ≡ 45 → ⊥)
other_range b other =
    let outer = or_parts (is_letter_or_digit b) (eqb b 45) (not-true _ other) in
    let letters = or_parts (is_small_letter b) _ outer.0 in
    let more = or_parts (is_capital b) (is_digit b) letters.1 in (
      λ small. both_ways _ letters.0 (and_from (leb 97 b) _ (le-leb 97 b small.0) (le-leb b 122 small.1)),
      λ capital. both_ways _ more.0 (and_from (leb 65 b) _ (le-leb 65 b capital.0) (le-leb b 90 capital.1)),
      λ digit. both_ways _ more.1 (and_from (leb 48 b) _ (le-leb 48 b digit.0) (le-leb b 57 digit.1)),
      λ minus. both_ways _ outer.1 (eq-eqb b 45 minus),
    )

other_form : (sort : Sort) (b : ℕ) (bytes : List ℕ) → IsTrue (is_other b) → First sort b → HasForm sort (b ∷ bytes) → IsTrue (is_symbol (b ∷ bytes))
other_form Lower b bytes other first form = absurd ((other_range b other).0 first)
other_form Upper b bytes other first form = absurd ((other_range b other).1 first)
other_form Key b bytes other first form = absurd ((other_range b other).0 first)
other_form Numeral b bytes other first form = absurd ((other_range b other).2 first)
other_form Literal b bytes other first form =
    elim first [
      | inl digit ↦ absurd ((other_range b other).2 digit)
      | inr minus ↦ absurd ((other_range b other).3 minus)
    ]
other_form Symbol b bytes other first form = form

-- a symbol that begins with this byte: the byte alone, or `/\`
abbrev pub OtherWord : ℕ → List ℕ → Type 0
OtherWord b word = ((word ≡ b ∷ []) × IsTrue (is_symbol (b ∷ [])) × (b ≡ 47 → ⊥)) ⊎ ((b ≡ 47) × (word ≡ 47 ∷ 92 ∷ []))

other_symbol : (b : ℕ) (bytes : List ℕ) → IsTrue (is_other b) → IsTrue (is_symbol (b ∷ bytes)) → IsTrue (looks_like_symbol (b ∷ bytes)) → OtherWord b (b ∷ bytes)
other_symbol b [] other symbol look =
    inl (refl, symbol, λ slash. both_ways (eqb b 47) (not-true _ (and_parts _ _ (and_parts _ _ look).1).1) (eq-eqb b 47 slash))
other_symbol b (c ∷ []) other symbol look =
    elim (two_bytes b c look) [
      | inl arrow ↦ absurd ((other_range b other).3 arrow.0)
      | inr lambda ↦ inr (lambda.0, ap (λ x. x ∷ c ∷ []) lambda.0 ∙ ap (λ y. 47 ∷ y ∷ []) lambda.1)
    ]
other_symbol b (c ∷ d ∷ bytes) other symbol look = absurd (false≢true look)

pub other_word : (b : ℕ) (bytes : List ℕ) → IsTrue (is_other b) → (sort : Sort) (word more : List ℕ) → word ++ more ≡ b ∷ bytes → HasForm sort word → OtherWord b word
other_word b bytes other sort [] more same form = absurd (form_empty sort form)
other_word b bytes other sort (w ∷ word) more same form =
    let head : w ≡ b = cc in
    let whole : w ∷ word ≡ b ∷ word = cc in
    let here : HasForm sort (b ∷ word) = subst (HasForm sort) whole form in
    let symbol : IsTrue (is_symbol (b ∷ word)) = other_form sort b word other (form_first sort b word here) here in
    subst (OtherWord b) (sym whole) (other_symbol b word other symbol (symbol_looks (b ∷ word) symbol))

pub single_token : (b : ℕ) (bytes : List ℕ) → IsTrue (is_other b) → IsTrue (is_symbol (b ∷ [])) → (b ≡ 47 → ⊥) → IsTokenAt (b ∷ bytes) Symbol 1
single_token b bytes other symbol no_slash = record {
  within = omega arith;
  longest = record {
    form = symbol;
    longest = λ sort word more same form. elim (other_word b bytes other sort word more same form) [
      | inl single ↦ omega (arith, ap length single.0)
      | inr lambda ↦ absurd (no_slash lambda.0)
    ];
  };
}

pub lambda_token : (bytes : List ℕ) → IsTokenAt (47 ∷ 92 ∷ bytes) Symbol 2
lambda_token bytes = record {
  within = omega arith;
  longest = record {
    form = refl;
    longest = λ sort word more same form. elim (other_word 47 (92 ∷ bytes) refl sort word more same form) [
      | inl single ↦ omega (arith, ap length single.0)
      | inr lambda ↦ omega (arith, ap length lambda.1)
    ];
  };
}

-- a byte that is no symbol begins no token, but for the `/` of `/\`
pub no_single_token : (b : ℕ) (bytes : List ℕ) → IsTrue (is_other b) → is_symbol (b ∷ []) ≡ false → (b ≡ 47 → ⊥) → BeginsNoToken (b ∷ bytes)
no_single_token b bytes other no_symbol no_slash sort word more same form =
    elim (other_word b bytes other sort word more same form) [
      | inl single ↦ both_ways _ no_symbol single.1
      | inr lambda ↦ no_slash lambda.0
    ]

pub no_lambda_token : (bytes : List ℕ) → begins_with (λ b. b == 92) bytes ≡ false → BeginsNoToken (47 ∷ bytes)
no_lambda_token bytes none sort word more same form =
    elim (other_word 47 bytes refl sort word more same form) [
      | inl single ↦ single.2 refl
      | inr lambda ↦ no_backslash bytes none (ap (λ w. w ++ more) (sym lambda.1) ∙ same)
    ]
  where
    no_backslash : (bytes : List ℕ) → begins_with (λ b. b == 92) bytes ≡ false → 47 ∷ 92 ∷ more ≡ 47 ∷ bytes → ⊥
    no_backslash [] none same = let tail : 92 ∷ more ≡ [] = cc in cc
    no_backslash (b ∷ bytes) none same =
        let tail : 92 ∷ more ≡ b ∷ bytes = cc in
        let head : b ≡ 92 = cc in
        both_ways (eqb b 92) none (eq-eqb b 92 head)

-- the same for a slice and what follows its first byte
abbrev pub after_first : List ℕ → List ℕ
after_first bytes = take (length bytes - 1) (drop 1 bytes)

module _ (bytes rest : List ℕ) (minus : bytes ≡ 45 ∷ rest) where
  after_is : after_first bytes ≡ rest
  after_is = take_rest bytes 1 ∙ ap (drop 1) minus

  pub negative_after : (n : ℕ) → begins_with (λ b. b == 62) (after_first bytes) ≡ false → IsLongestUnsigned (is_letter true) (after_first bytes) n → IsTokenAt bytes Literal (n + 1)
  negative_after n none literal =
      let at_rest : IsTokenAt (45 ∷ rest) Literal (n + 1) =
      negative_token rest n (ap (begins_with (λ b. b == 62)) (sym after_is) ∙ none) (subst (λ l. IsLongestUnsigned (is_letter true) l n) after_is literal) in
      subst (λ l. IsTokenAt l Literal (n + 1)) (sym minus) at_rest

  pub no_minus_after : begins_with (λ b. b == 62) (after_first bytes) ≡ false → BeginsNoUnsigned (is_letter true) (after_first bytes) → BeginsNoToken bytes
  no_minus_after none no_literal =
      let at_rest : BeginsNoToken (45 ∷ rest) =
      no_minus_token rest (ap (begins_with (λ b. b == 62)) (sym after_is) ∙ none) (subst (BeginsNoUnsigned (is_letter true)) after_is no_literal) in
      subst BeginsNoToken (sym minus) at_rest

-- the same for a slice, by its first byte
slash_front : (bytes : List ℕ) → get_or bytes 0 0 ≡ 47 → BeginsWith is_other bytes → bytes ≡ 47 ∷ after_first bytes
slash_front [] slash begins = absurd begins
slash_front (b ∷ bytes) slash begins = ap (λ x. x ∷ bytes) slash ∙ ap (λ r. 47 ∷ r) (sym (take_rest (b ∷ bytes) 1))

backslash_front : (rest : List ℕ) → begins_with (λ b. b == 92) rest ≡ true → rest ≡ 92 ∷ drop 1 rest
backslash_front [] backslash = absurd (false≢true backslash)
backslash_front (b ∷ rest) backslash = ap (λ x. x ∷ rest) (eqb-true b 92 backslash)

pub lambda_front : (bytes : List ℕ) → BeginsWith is_other bytes → get_or bytes 0 0 ≡ 47 → begins_with (λ b. b == 92) (after_first bytes) ≡ true → IsTokenAt bytes Symbol 2
lambda_front bytes begins slash backslash =
    let whole : bytes ≡ 47 ∷ 92 ∷ drop 1 (after_first bytes) = slash_front bytes slash begins ∙ ap (λ r. 47 ∷ r) (backslash_front (after_first bytes) backslash) in
    subst (λ l. IsTokenAt l Symbol 2) (sym whole) (lambda_token (drop 1 (after_first bytes)))

pub no_lambda_front : (bytes : List ℕ) → BeginsWith is_other bytes → get_or bytes 0 0 ≡ 47 → begins_with (λ b. b == 92) (after_first bytes) ≡ false → BeginsNoToken bytes
no_lambda_front bytes begins slash none = subst BeginsNoToken (sym (slash_front bytes slash begins)) (no_lambda_token (after_first bytes) none)

pub single_front : (bytes : List ℕ) → BeginsWith is_other bytes → (get_or bytes 0 0 ≡ 47 → ⊥) → is_symbol (get_or bytes 0 0 ∷ []) ≡ true → IsTokenAt bytes Symbol 1
single_front [] begins no_slash symbol = absurd begins
single_front (b ∷ bytes) begins no_slash symbol = single_token b bytes begins symbol no_slash

pub no_single_front : (bytes : List ℕ) → BeginsWith is_other bytes → (get_or bytes 0 0 ≡ 47 → ⊥) → is_symbol (get_or bytes 0 0 ∷ []) ≡ false → BeginsNoToken bytes
no_single_front [] begins no_slash no_symbol = absurd begins
no_single_front (b ∷ bytes) begins no_slash no_symbol = no_single_token b bytes begins no_symbol no_slash
