-- A text splits as its rest behind a piece does.
use Rattle.std.proofs.Common.{◌≡◌, ℕ, ◌+◌, ◌≤◌, List, [], ◌∷◌, ◌++◌, length, inl, inr, take, drop, sym, refl, ap, ◌∙◌, subst, append_assoc, arith}
use Rattle.std.proofs.lemmas.List.{take-append-drop, length-append, length-take-le, length-drop, drop-drop, append-nil, drop_all}
use Rattle.verilog_text.specs.VForms.{Sort, Token}
use Rattle.verilog_text.specs.VTokens.{BeginsNothing, Gap, IsLongest, LastGap, NoTokenFrom, Placed, TokensFrom, block_comment, line_comment, placed_token}
use Rattle.verilog_text.specs.VTokens.Gap.{block, line, none, white}
use Rattle.verilog_text.specs.VTokens.NoTokenFrom.{here, later}
use Rattle.verilog_text.specs.VTokens.TokensFrom.{ends, next}
use Rattle.verilog_lex.specs.Scanning.{FaultAt, IsTokenAt}

pub gap_append : {gap : List ℕ} → Gap gap → (more : List ℕ) → Gap more → Gap (gap ++ more)
gap_append none more rest = rest
gap_append (white b gap is_white_b gaps) more rest = white b (gap ++ more) is_white_b (gap_append gaps more rest)
gap_append (line text gap in_line gaps) more rest =
    let same : 47 ∷ 47 ∷ (text ++ 10 ∷ (gap ++ more)) ≡ 47 ∷ 47 ∷ ((text ++ 10 ∷ gap) ++ more) = ap (λ l. 47 ∷ 47 ∷ l) (sym (append_assoc text (10 ∷ gap) more)) in
    subst Gap same (line text (gap ++ more) in_line (gap_append gaps more rest))
gap_append (block inside gap no_end gaps) more rest =
    let same : block_comment inside ++ (gap ++ more) ≡ (block_comment inside ++ gap) ++ more = sym (append_assoc (block_comment inside) gap more) in
    subst Gap same (block inside (gap ++ more) no_end (gap_append gaps more rest))

last_gap_append : (gap rest : List ℕ) → Gap gap → LastGap rest → LastGap (gap ++ rest)
last_gap_append gap rest gaps (inl whole) = inl (gap_append gaps rest whole)
last_gap_append gap rest gaps (inr cut) =
    inr (gap ++ cut.0, cut.1, gap_append gaps cut.0 cut.2, cut.3, ap (λ r. gap ++ r) cut.4 ∙ sym (append_assoc gap cut.0 (line_comment cut.1)))

-- the first token, at places that are given in another way
pub next_at : (at from to : ℕ) (text gap bytes rest : List ℕ) (sort : Sort) (tokens : List Placed) → Gap gap → IsLongest sort bytes rest → from ≡ at + length gap → to ≡ from + length bytes → text ≡ gap ++ (bytes ++ rest) → TokensFrom to rest tokens → TokensFrom at text (placed_token from sort bytes ∷ tokens)
next_at at from to text gap bytes rest sort tokens gaps longest from_is to_is text_is splits =
    let place : to ≡ at + length gap + length bytes = omega arith in
    let first = next at gap bytes rest sort tokens gaps longest (subst (λ p. TokensFrom p rest tokens) place splits) in
    subst (λ t. TokensFrom at t (placed_token from sort bytes ∷ tokens)) (sym text_is)
    (subst (λ f. TokensFrom at (gap ++ (bytes ++ rest)) (placed_token f sort bytes ∷ tokens)) (sym from_is) first)

pub later_at : (at to : ℕ) (text gap bytes rest : List ℕ) (sort : Sort) (fault : ℕ) → Gap gap → IsLongest sort bytes rest → to ≡ at + length gap + length bytes → text ≡ gap ++ (bytes ++ rest) → NoTokenFrom to rest fault → NoTokenFrom at text fault
later_at at to text gap bytes rest sort fault gaps longest to_is text_is faults =
    let first = later at gap bytes rest sort fault gaps longest (subst (λ p. NoTokenFrom p rest fault) to_is faults) in
    subst (λ t. NoTokenFrom at t fault) (sym text_is) first

pub here_at : (at fault : ℕ) (text gap : List ℕ) (b : ℕ) (rest : List ℕ) → Gap gap → BeginsNothing b rest → fault ≡ at + length gap → text ≡ gap ++ b ∷ rest → NoTokenFrom at text fault
here_at at fault text gap b rest gaps nothing fault_is text_is =
    subst (λ t. NoTokenFrom at t fault) (sym text_is) (subst (λ f. NoTokenFrom at (gap ++ b ∷ rest) f) (sym fault_is) (here at gap b rest gaps nothing))

-- a gap before tokens, and before a fault
pub gap_before : (gap : List ℕ) → Gap gap → {place : ℕ} {rest : List ℕ} {tokens : List Placed} → TokensFrom place rest tokens → (at : ℕ) → place ≡ at + length gap → TokensFrom at (gap ++ rest) tokens
gap_before gap gaps (ends place rest last) at same = ends at (gap ++ rest) (last_gap_append gap rest gaps last)
gap_before gap gaps (next place inner bytes rest sort tokens inners longest splits) at same =
    let both = length-append gap inner in
    next_at at (place + length inner) (place + length inner + length bytes) (gap ++ (inner ++ (bytes ++ rest))) (gap ++ inner) bytes rest sort tokens (gap_append gaps inner inners) longest (omega arith) refl (sym (append_assoc gap inner (bytes ++ rest))) splits

pub gap_before_fault : (gap : List ℕ) → Gap gap → {place : ℕ} {rest : List ℕ} {fault : ℕ} → NoTokenFrom place rest fault → (at : ℕ) → place ≡ at + length gap → NoTokenFrom at (gap ++ rest) fault
gap_before_fault gap gaps (here place inner b rest inners nothing) at same =
    let both = length-append gap inner in
    here_at at (place + length inner) (gap ++ (inner ++ b ∷ rest)) (gap ++ inner) b rest (gap_append gaps inner inners) nothing (omega arith) (sym (append_assoc gap inner (b ∷ rest)))
gap_before_fault gap gaps (later place inner bytes rest sort fault inners longest faults) at same =
    let both = length-append gap inner in
    later_at at (place + length inner + length bytes) (gap ++ (inner ++ (bytes ++ rest))) (gap ++ inner) bytes rest sort fault (gap_append gaps inner inners) longest (omega arith) (sym (append_assoc gap inner (bytes ++ rest))) faults

-- a text splits into these tokens and those of its rest from a place on, and has the rest's fault
pub record SplitsBefore (text : List ℕ) (at : ℕ) (before : List Placed) : Type 0 where
  pub within : at ≤ length text
  pub tokens : (more : List Placed) → TokensFrom at (drop at text) more → TokensFrom 0 text (before ++ more)
  pub faults : (fault : ℕ) → NoTokenFrom at (drop at text) fault → NoTokenFrom 0 text fault

module _ (text : List ℕ) (at : ℕ) (before : List Placed) (so_far : SplitsBefore text at before) where
  parts : (n : ℕ) → take n (drop at text) ++ drop (at + n) text ≡ drop at text
  parts n = ap (λ r. take n (drop at text) ++ r) (sym (drop-drop n at text)) ∙ take-append-drop n (drop at text)

  pub space_step : (n : ℕ) → n ≤ length (drop at text) → Gap (take n (drop at text)) → SplitsBefore text (at + n) before
  space_step n within gaps =
      let place : at + n ≡ at + length (take n (drop at text)) = ap (λ k. at + k) (sym (length-take-le n (drop at text) within)) in
      record {
        within = let fits = length-drop at text in let inside = so_far.within in omega arith;
        tokens = λ more splits. so_far.tokens more (subst (λ t. TokensFrom at t more) (parts n) (gap_before (take n (drop at text)) gaps splits at place));
        faults = λ fault faults. so_far.faults fault (subst (λ t. NoTokenFrom at t fault) (parts n) (gap_before_fault (take n (drop at text)) gaps faults at place));
      }

  pub token_step : (token : Token) (n : ℕ) → IsTokenAt (drop at text) token n → SplitsBefore text (at + n) (before ++ record { at = at; token = token } ∷ [])
  token_step token n found =
      let rest : List ℕ = drop at text in
      let long : length token.bytes ≡ n = ap length (sym found.bytes_are) ∙ length-take-le n rest found.within in
      let longest : IsLongest token.sort token.bytes (drop (at + n) text) = subst (IsLongest token.sort token.bytes) (drop-drop n at text) found.longest in
      let split : drop at text ≡ token.bytes ++ drop (at + n) text = sym (parts n) ∙ ap (λ w. w ++ drop (at + n) text) found.bytes_are in
      record {
        within = let fits = length-drop at text in let inside = so_far.within in let front = found.within in omega arith;
        tokens = λ more splits.
            let all : TokensFrom 0 text (before ++ placed_token at token.sort token.bytes ∷ more) =
            so_far.tokens (placed_token at token.sort token.bytes ∷ more) (next_at at at (at + n) rest [] token.bytes (drop (at + n) text) token.sort more none longest (omega arith) (omega arith) split splits) in
            subst (TokensFrom 0 text) (sym (append_assoc before (placed_token at token.sort token.bytes ∷ []) more)) all;
        faults = λ fault faults. so_far.faults fault (later_at at (at + n) rest [] token.bytes (drop (at + n) text) token.sort fault none longest (omega arith) split faults);
      }

  pub last_step : LastGap (drop at text) → TokensFrom 0 text before
  last_step last = subst (TokensFrom 0 text) (append-nil before) (so_far.tokens [] (ends at (drop at text) last))

  pub end_step : length text ≤ at → TokensFrom 0 text before
  end_step ended = last_step (inl (subst Gap (sym (drop_all at text ended)) none))

  pub fault_step : FaultAt (drop at text) → NoTokenFrom 0 text at
  fault_step fault = so_far.faults at (first (drop at text) fault)
    where
      first : (rest : List ℕ) → FaultAt rest → NoTokenFrom at rest at
      first [] fault = absurd fault
      first (b ∷ rest) fault = here_at at at (b ∷ rest) [] b rest none fault (omega arith) refl
