-- How many tokens fit slots, one token at a time.
use Rattle.std.proofs.Common.{◌≡◌, ℕ, zero, suc, ◌+◌, ◌<◌, ◌≤◌, true, false, List, [], ◌∷◌, drop, length, get_or, refl, ap, ◌∙◌, arith, add-one}
use Rattle.verilog_lex.specs.Shown.{token_of}
use Rattle.verilog_lex.specs.declared.token.Placed.{Placed}
use Rattle.verilog_parse.specs.Slots.{fitting, takes, tokens_in}
use Rattle.verilog_parse.specs.declared.slot.Slot.{Slot}

-- one more token fits
fits_more : (slots : List Slot) (tokens : List Placed) (n : ℕ) (d : Slot) (e : Placed) → n < length slots → n < length tokens
    → takes (get_or slots n d) (token_of (get_or tokens n e).token) ≡ true
    → fitting (drop n slots) (tokens_in (drop n tokens)) ≡ suc (fitting (drop (suc n) slots) (tokens_in (drop (suc n) tokens)))
fits_more [] tokens n d e within inside took = absurd (omega (arith, within))
fits_more (s ∷ slots) [] n d e within inside took = absurd (omega (arith, inside))
fits_more (s ∷ slots) (t ∷ tokens) zero d e within inside took = rw took
fits_more (s ∷ slots) (t ∷ tokens) (suc n) d e within inside took = fits_more slots tokens n d e (omega arith) (omega arith) took

pub fitting_next : (slots : List Slot) (tokens : List Placed) (n : ℕ) (d : Slot) (e : Placed) → n < length slots → n < length tokens
    → takes (get_or slots n d) (token_of (get_or tokens n e).token) ≡ true
    → fitting slots (tokens_in tokens) ≡ n + fitting (drop n slots) (tokens_in (drop n tokens))
    → fitting slots (tokens_in tokens) ≡ n + 1 + fitting (drop (n + 1) slots) (tokens_in (drop (n + 1) tokens))
fitting_next slots tokens n d e within inside took before =
    let step = fits_more slots tokens n d e within inside took in
    let more : fitting slots (tokens_in tokens) ≡ n + suc (fitting (drop (suc n) slots) (tokens_in (drop (suc n) tokens))) = before ∙ ap (λ k. n + k) step in
    rw add-one (omega arith)

-- where no further token fits
pub fitting_stops : (slots : List Slot) (tokens : List Placed) (n : ℕ) (d : Slot) (e : Placed) → n < length slots → n < length tokens
    → takes (get_or slots n d) (token_of (get_or tokens n e).token) ≡ false
    → fitting (drop n slots) (tokens_in (drop n tokens)) ≡ 0
fitting_stops [] tokens n d e within inside refuses = absurd (omega (arith, within))
fitting_stops (s ∷ slots) [] n d e within inside refuses = absurd (omega (arith, inside))
fitting_stops (s ∷ slots) (t ∷ tokens) zero d e within inside refuses = rw refuses
fitting_stops (s ∷ slots) (t ∷ tokens) (suc n) d e within inside refuses = fitting_stops slots tokens n d e (omega arith) (omega arith) refuses

fitting_empty : (slots : List Slot) → fitting slots [] ≡ 0
fitting_empty [] = refl
fitting_empty (s ∷ slots) = refl

-- where no slot or no token is left
pub fitting_ends : (slots : List Slot) (tokens : List Placed) (n : ℕ) → length slots ≤ n → fitting (drop n slots) (tokens_in (drop n tokens)) ≡ 0
fitting_ends [] tokens zero past = refl
fitting_ends [] tokens (suc n) past = refl
fitting_ends (s ∷ slots) tokens zero past = absurd (omega (arith, past))
fitting_ends (s ∷ slots) [] (suc n) past = fitting_empty (drop n slots)
fitting_ends (s ∷ slots) (t ∷ tokens) (suc n) past = fitting_ends slots tokens n (omega arith)

pub fitting_runs_out : (slots : List Slot) (tokens : List Placed) (n : ℕ) → length tokens ≤ n → fitting (drop n slots) (tokens_in (drop n tokens)) ≡ 0
fitting_runs_out slots [] zero past = fitting_empty slots
fitting_runs_out [] [] (suc n) past = refl
fitting_runs_out (s ∷ slots) [] (suc n) past = fitting_empty (drop n slots)
fitting_runs_out slots (t ∷ tokens) zero past = absurd (omega (arith, past))
fitting_runs_out [] (t ∷ tokens) (suc n) past = refl
fitting_runs_out (s ∷ slots) (t ∷ tokens) (suc n) past = fitting_runs_out slots tokens n (omega arith)
