-- Each text splits into tokens, or has a first place where no token begins.
use Rattle.std.proofs.Common.{◌≡◌, ℕ, suc, zero, ◌+◌, ◌-◌, ◌<◌, ◌≤◌, Bool, true, false, not, eqb, List, [], ◌∷◌, ◌++◌, ◌⊎◌, inl, inr, length, take, drop, get_or, sym, refl, ap, ◌∙◌, subst, arith}
use Rattle.std.proofs.lemmas.Bool.{and_parts, eq-eqb, eqb-true, false≢true, or_cases}
use Rattle.std.proofs.lemmas.Bool.Decides.{leb_tells}
use Rattle.std.proofs.lemmas.List.{length-drop, length-take-le, take-append-drop}
use Rattle.verilog_text.specs.VForms.{Token}
use Rattle.verilog_text.specs.VTokens.{Gap, HasNoEnd, LastGap, NoTokenFrom, Placed, TokensFrom, is_white, placed_token}
use Rattle.verilog_text.specs.VTokens.Gap.{none, white}
use Rattle.verilog_text.specs.VTokens.TokensFrom.{ends}
use Rattle.verilog_lex.specs.Scanning.{FaultAt, IsEndAt, IsTokenAt, begins_comment}
use Rattle.verilog_lex.proofs.Comments.{HasNoEndBelow, end_found, last_line, no_end_of, nothing_begins, open_block, whole_block, whole_line}
use Rattle.verilog_lex.proofs.Decided.{run_of, token_or_none}
use Rattle.verilog_lex.proofs.Splits.{gap_before, gap_before_fault, here_at, later_at, next_at}

-- a `*` and a `/` behind it stand at these places, or they don't
ends_at : (bytes : List ℕ) (i : ℕ) → ((get_or bytes i 0 ≡ 42) × (get_or bytes (i + 1) 0 ≡ 47)) ⊎ (get_or bytes i 0 ≡ 42 → get_or bytes (i + 1) 0 ≡ 47 → ⊥)
ends_at bytes i = by_case (eqb (get_or bytes i 0) 42) refl (eqb (get_or bytes (i + 1) 0) 47) refl
  where
    by_case : (v : Bool) → eqb (get_or bytes i 0) 42 ≡ v → (w : Bool) → eqb (get_or bytes (i + 1) 0) 47 ≡ w → ((get_or bytes i 0 ≡ 42) × (get_or bytes (i + 1) 0 ≡ 47)) ⊎ (get_or bytes i 0 ≡ 42 → get_or bytes (i + 1) 0 ≡ 47 → ⊥)
    by_case true star true slash = inl (eqb-true _ _ star, eqb-true _ _ slash)
    by_case false star w slash = inr (λ s t. false≢true (sym star ∙ eq-eqb _ _ s))
    by_case true star false slash = inr (λ s t. false≢true (sym slash ∙ eq-eqb _ _ t))

below_more : (bytes : List ℕ) (n : ℕ) → HasNoEndBelow bytes (n + 1) → (get_or bytes n 0 ≡ 42 → get_or bytes (n + 1) 0 ≡ 47 → ⊥) → HasNoEndBelow bytes (n + 2)
below_more bytes n below last i within star slash =
    elim (leb_tells (i + 2) (n + 1)) [
      | inl inside ↦ below i (let a = inside.1 in omega arith) star slash
      | inr at ↦
          let same : i ≡ n = let a = at.1 in omega arith in
          last (subst (λ j. get_or bytes j 0 ≡ 42) same star) (subst (λ j. get_or bytes (j + 1) 0 ≡ 47) same slash)
    ]

-- the first `*/` of which the `/` stands at one of the first so many places, or none
first_end : (bytes : List ℕ) (n : ℕ) → n < length bytes → ((k : ℕ) × IsEndAt bytes k) ⊎ HasNoEndBelow bytes (n + 1)
first_end bytes zero within = inr (λ i small star slash. omega arith)
first_end bytes (suc n) within =
    elim (first_end bytes n (omega arith)) [
      | inl found ↦ inl found
      | inr below ↦ elim (ends_at bytes n) [
        | inl here ↦ inl (n, end_here below here.0 here.1)
        | inr last ↦ inr (subst (HasNoEndBelow bytes) (omega arith) (below_more bytes n below last))
      ]
    ]
  where
    end_here : HasNoEndBelow bytes (n + 1) → get_or bytes n 0 ≡ 42 → get_or bytes (n + 1) 0 ≡ 47 → IsEndAt bytes n
    end_here below star slash =
        let before : n + 1 - 1 ≡ n = omega arith in
        subst (IsEndAt bytes) before (end_found bytes (n + 1) (omega arith) (omega arith) below (subst (λ j. get_or bytes j 0 ≡ 42) (sym before) star) slash)

end_or_none : (bytes : List ℕ) → ((k : ℕ) × IsEndAt bytes k) ⊎ HasNoEnd bytes
end_or_none [] = inr (no_end_of [] 0 (omega arith) (λ i small star slash. omega arith))
end_or_none (b ∷ bytes) =
    elim (first_end (b ∷ bytes) (length bytes) (omega arith)) [
      | inl found ↦ inl found
      | inr below ↦ inr (no_end_of (b ∷ bytes) (length bytes + 1) (omega arith) below)
    ]

-- what bytes begin with
data Step (bytes : List ℕ) : Type 0 where
  a_gap : (n : ℕ) → 0 < n → n ≤ length bytes → Gap (take n bytes) → Step bytes
  a_last_gap : LastGap bytes → Step bytes
  a_token : (n : ℕ) (token : Token) → 0 < n → IsTokenAt bytes token n → Step bytes
  a_fault : FaultAt bytes → Step bytes

line_step : (text : List ℕ) → Step (47 ∷ 47 ∷ text)
line_step text =
    let run = run_of (λ b. not (eqb b 10)) text in
    elim (leb_tells (suc run.0) (length text)) [
      | inl more ↦ let inside = more.1 in a_gap (2 + run.0 + 1) (omega arith) (omega arith) (whole_line text run.0 run.1 (omega arith))
      | inr all ↦ a_last_gap (last_line text run.0 run.1 (let a = all.1 in omega arith))
    ]

block_step : (inside : List ℕ) → Step (47 ∷ 42 ∷ inside)
block_step inside =
    elim (end_or_none inside) [
      | inl found ↦
          let end : IsEndAt inside found.0 = found.1 in
          let fits = end.within in
          a_gap (2 + found.0 + 2) (omega arith) (omega arith) (whole_block inside found.0 end)
      | inr no_end ↦ a_fault (open_block inside no_end)
    ]

comment_step : (bytes : List ℕ) → begins_comment bytes ≡ true → Step bytes
comment_step [] begins = absurd (false≢true begins)
comment_step (a ∷ []) begins = absurd (false≢true begins)
comment_step (a ∷ b ∷ bytes) begins =
    let parts = and_parts _ _ begins in
    let first : a ≡ 47 = eqb-true _ _ parts.0 in
    elim (or_cases (eqb b 47) _ parts.1) [
      | inl slash ↦
          let same : 47 ∷ 47 ∷ bytes ≡ a ∷ b ∷ bytes = ap (λ x. x ∷ 47 ∷ bytes) (sym first) ∙ ap (λ x. a ∷ x ∷ bytes) (sym (eqb-true _ _ slash)) in
          subst Step same (line_step bytes)
      | inr star ↦
          let same : 47 ∷ 42 ∷ bytes ≡ a ∷ b ∷ bytes = ap (λ x. x ∷ 42 ∷ bytes) (sym first) ∙ ap (λ x. a ∷ x ∷ bytes) (sym (eqb-true _ _ star)) in
          subst Step same (block_step bytes)
    ]

step : (b : ℕ) (bytes : List ℕ) → Step (b ∷ bytes)
step b bytes = by_case (is_white b) refl (begins_comment (b ∷ bytes)) refl
  where
    by_case : (v : Bool) → is_white b ≡ v → (w : Bool) → begins_comment (b ∷ bytes) ≡ w → Step (b ∷ bytes)
    by_case true is w comment = a_gap 1 (omega arith) (omega arith) (white b [] is none)
    by_case false is true comment = comment_step (b ∷ bytes) comment
    by_case false is false comment =
        elim (token_or_none (b ∷ bytes)) [
          | inl found ↦ a_token found.0 found.1 found.2 found.3
          | inr no_token ↦ a_fault (nothing_begins (b ∷ bytes) (omega arith) is comment no_token)
        ]

-- a text splits, or it has a first place without a token
abbrev Reads : ℕ → List ℕ → Type 0
Reads at rest = ((tokens : List Placed) × TokensFrom at rest tokens) ⊎ ((fault : ℕ) × NoTokenFrom at rest fault)

gap_reads : (at n : ℕ) (rest : List ℕ) → n ≤ length rest → Gap (take n rest) → Reads (at + n) (drop n rest) → Reads at rest
gap_reads at n rest within gaps reads =
    let place : at + n ≡ at + length (take n rest) = ap (λ k. at + k) (sym (length-take-le n rest within)) in
    let whole : take n rest ++ drop n rest ≡ rest = take-append-drop n rest in
    elim reads [
      | inl split ↦ inl (split.0, subst (λ r. TokensFrom at r split.0) whole (gap_before (take n rest) gaps split.1 at place))
      | inr fault ↦ inr (fault.0, subst (λ r. NoTokenFrom at r fault.0) whole (gap_before_fault (take n rest) gaps fault.1 at place))
    ]

token_reads : (at n : ℕ) (rest : List ℕ) (token : Token) → IsTokenAt rest token n → Reads (at + n) (drop n rest) → Reads at rest
token_reads at n rest token found reads =
    let long : length token.bytes ≡ n = ap length (sym found.bytes_are) ∙ length-take-le n rest found.within in
    let whole : rest ≡ token.bytes ++ drop n rest = sym (take-append-drop n rest) ∙ ap (λ w. w ++ drop n rest) found.bytes_are in
    elim reads [
      | inl split ↦ inl (
        placed_token at token.sort token.bytes ∷ split.0,
        next_at at at (at + n) rest [] token.bytes (drop n rest) token.sort split.0 none found.longest (omega arith) (omega arith) whole split.1,
      )
      | inr fault ↦ inr (fault.0, later_at at (at + n) rest [] token.bytes (drop n rest) token.sort fault.0 none found.longest (omega arith) whole fault.1)
    ]

fault_reads : (at b : ℕ) (rest : List ℕ) → FaultAt (b ∷ rest) → Reads at (b ∷ rest)
fault_reads at b rest fault = inr (at, here_at at at (b ∷ rest) [] b rest none fault (omega arith) refl)

step_reads : (at b : ℕ) (rest : List ℕ) → Step (b ∷ rest) → ((n : ℕ) → 0 < n → Reads (at + n) (drop n (b ∷ rest))) → Reads at (b ∷ rest)
step_reads at b rest (a_gap n some within gaps) behind = gap_reads at n (b ∷ rest) within gaps (behind n some)
step_reads at b rest (a_last_gap last) behind = inl ([], ends at (b ∷ rest) last)
step_reads at b rest (a_token n token some found) behind = token_reads at n (b ∷ rest) token found (behind n some)
step_reads at b rest (a_fault fault) behind = fault_reads at b rest fault

-- by the steps from the front; there are no more of them than bytes
reads : (most : ℕ) (at : ℕ) (rest : List ℕ) → length rest ≤ most → Reads at rest
reads most at [] few = inl ([], ends at [] (inl none))
reads zero at (b ∷ rest) few = absurd (omega arith)
reads (suc most) at (b ∷ rest) few =
    step_reads at b rest (step b rest) (λ n some. reads most (at + n) (drop n (b ∷ rest)) (omega (arith, length-drop n (b ∷ rest))))

pub each_text_reads : (text : List ℕ) → Reads 0 text
each_text_reads text = reads (length text) 0 text (omega arith)
