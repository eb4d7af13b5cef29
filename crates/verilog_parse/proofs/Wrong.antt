-- Where no row of a state stands first, nothing that may follow goes on.
use Rattle.std.proofs.Common.{◌≡◌, ℕ, zero, suc, ◌<◌, ◌≤◌, max, true, inl, inr, ◌⊎◌, List, [], ◌∷◌, ◌++◌, length, map, take, drop, sym, refl, ap, ◌∙◌, subst, append_assoc, arith}
use Rattle.std.specs.List.{All}
use Rattle.std.proofs.lemmas.Bool.{false≢true, or_cases}
use Rattle.std.proofs.lemmas.List.{append-nil, map-append}
use Rattle.verilog_text.specs.VForms.{Token}
use Rattle.verilog_text.specs.VTokens.{Placed}
use Rattle.verilog_tree.specs.Syntax.{tokens_of}
use Rattle.verilog_lex.specs.Shown.{placed}
use Rattle.verilog_lex.specs.declared.token.Placed.{Placed as LexPlaced}
use Rattle.verilog_parse.specs.Follow.{MayFollow}
use Rattle.verilog_parse.specs.Reading.{BeginsNoRow, IsChosen, IsNotFirst, IsRowRead, IsWrong, NoneFits, Stops, left, longest, place_of}
use Rattle.verilog_parse.specs.Rows.{after, rows_of, slots_of}
use Rattle.verilog_parse.specs.Slots.{fits, fitting}
use Rattle.verilog_parse.specs.declared.cursor.Cursor.{Cursor}
use Rattle.verilog_parse.specs.declared.rows.Row.{Row}
use Rattle.verilog_parse.specs.declared.rows.State.{State}
use Rattle.verilog_parse.specs.declared.rows.State.TheVariants as state
use Rattle.verilog_parse.specs.declared.slot.Slot.{Slot}
use Rattle.verilog_parse.proofs.Chosen.{fitting_short}
use Rattle.verilog_parse.proofs.Going.{completion, row_goes, widen}
use Rattle.verilog_parse.proofs.Steps.{StepOf, steps}
use Rattle.verilog_parse.proofs.Tables.{is_among, same_row_is, same_row_refl, or_left, or_right}
use Rattle.verilog_parse.proofs.Taken.{completed, fitting_same, fitting_whole, fitting_within, sample, whole_fits}

-- what holds of all rows holds of one among them
all_among : (P : Row → Type 0) (rows : List Row) (x : Row) → All P rows → is_among rows x ≡ true → P x
all_among P [] x each here = absurd (false≢true here)
all_among P (r ∷ rows) x each here =
    elim (or_cases _ _ here) [
      | inl same ↦ subst P (sym (same_row_is x r same)) (each zero r (omega arith))
      | inr later ↦ all_among P rows x (λ k d inside. each (suc k) d (omega (arith, inside))) later
    ]

most_longest : (rows : List Row) (x : Row) (tokens : List Token) → is_among rows x ≡ true → fitting (slots_of x) tokens ≤ longest rows tokens
most_longest [] x tokens here = absurd (false≢true here)
most_longest (r ∷ rows) x tokens here =
    elim (or_cases _ _ here) [
      | inl same ↦
          let e : fitting (slots_of x) tokens ≡ fitting (slots_of r) tokens = ap (λ (y : Row). fitting (slots_of y) tokens) (same_row_is x r same) in
          omega (arith, e)
      | inr later ↦ omega (arith, most_longest rows x tokens later)
    ]

-- a row of the list whose front so many tokens fit
record Reaches (rows : List Row) (tokens : List Token) : Type 0 where
  pub row : Row
  pub among : is_among rows row ≡ true
  pub reach : fitting (slots_of row) tokens ≡ longest rows tokens

first_reaches : (r : Row) (tokens : List Token) → Reaches (r ∷ []) tokens
first_reaches r tokens = record { row = r; among = or_left _ _ (same_row_refl r); reach = omega arith }

reaches : (r : Row) (rows : List Row) (tokens : List Token) → Reaches (r ∷ rows) tokens
reaches r [] tokens = first_reaches r tokens
reaches r (s ∷ rows) tokens =
    let more = reaches s rows tokens in
    elim (larger (fitting (slots_of r) tokens) (longest (s ∷ rows) tokens)) [
      | inl here ↦ record { row = r; among = or_left _ _ (same_row_refl r); reach = here }
      | inr later ↦ record { row = more.row; among = or_right _ _ more.among; reach = more.reach ∙ later }
    ]
  where
    larger : (a b : ℕ) → (a ≡ max a b) ⊎ (b ≡ max a b)
    larger zero b = inr (omega arith)
    larger (suc a) zero = inl (omega arith)
    larger (suc a) (suc b) =
        elim (larger a b) [
          | inl first ↦ inl (omega (arith, first))
          | inr second ↦ inr (omega (arith, second))
        ]

state_reaches : (s : State) (tokens : List Token) → Reaches (rows_of s) tokens
state_reaches state.Text tokens = reaches _ _ tokens
state_reaches state.Modules tokens = reaches _ _ tokens
state_reaches state.Port tokens = reaches _ _ tokens
state_reaches state.Ports tokens = reaches _ _ tokens
state_reaches state.Item tokens = reaches _ _ tokens
state_reaches state.ItemOrMemory tokens = reaches _ _ tokens
state_reaches state.Parts tokens = reaches _ _ tokens
state_reaches state.Words tokens = reaches _ _ tokens
state_reaches state.Connections tokens = reaches _ _ tokens

-- the tokens that fit begin what may follow
begins : (s : State) (tokens : List Token) (n : ℕ) → n ≡ longest (rows_of s) tokens → (more : List Token) × MayFollow s (take n tokens ++ more)
begins s tokens n is =
    let r = state_reaches s tokens in
    let reach : fitting (slots_of r.row) tokens ≡ n = r.reach ∙ sym is in
    let samples : List Token = map sample (drop n (slots_of r.row)) in
    let fit : fits (slots_of r.row) (take n tokens ++ samples) ≡ true =
    subst (λ (k : ℕ). fits (slots_of r.row) (take k tokens ++ map sample (drop k (slots_of r.row))) ≡ true) reach (completed (slots_of r.row) tokens) in
    let behind = completion (after r.row) in
    let whole : MayFollow s ((take n tokens ++ samples) ++ behind.0) =
    widen s r.row ((take n tokens ++ samples) ++ behind.0) r.among (row_goes r.row (take n tokens ++ samples) behind.0 fit behind.1) in
    (samples ++ behind.0, subst (λ (l : List Token). MayFollow s l) (append_assoc (take n tokens) samples behind.0) whole)

-- a row of the state stands first in no tokens that agree with these so far
stops_step : (s : State) (tokens l : List Token) (x : StepOf s l) → All (IsNotFirst tokens) (rows_of s) → fitting (slots_of x.row) l ≡ fitting (slots_of x.row) tokens → ⊥
stops_step s tokens l x none same =
    let whole : fitting (slots_of x.row) l ≡ length (slots_of x.row) =
    ap (fitting (slots_of x.row)) x.split ∙ fitting_whole (slots_of x.row) x.front x.rest x.fit in
    let short = all_among (IsNotFirst tokens) (rows_of s) x.row none x.among in
    omega (arith, whole, same, short)

not_empty : (before : List Token) (t : Token) (after : List Token) → before ++ t ∷ after ≡ [] → ⊥
not_empty [] t after none = cc
not_empty (b ∷ before) t after none = cc

no_tokens : (tokens : List Placed) → tokens_of tokens ≡ [] → tokens ≡ []
no_tokens [] none = refl
no_tokens (t ∷ tokens) none = absurd (false≢true cc)

stops : (s : State) (before after : List Placed) → (s ≡ state.Modules → before ++ after ≡ [] → ⊥)
    → All (IsNotFirst (tokens_of (before ++ after))) (rows_of s) → longest (rows_of s) (tokens_of (before ++ after)) ≡ length (tokens_of before)
    → Stops s before after
stops s before [] some none most = λ f.
    elim (steps s (tokens_of before) f) [
      | inl ends ↦ some ends.0 (append-nil before ∙ no_tokens before ends.1)
      | inr step ↦ stops_step s (tokens_of (before ++ [])) (tokens_of before) step none
          (ap (λ (l : List Placed). fitting (slots_of step.row) (tokens_of l)) (sym (append-nil before)))
    ]
stops s before (t ∷ after) some none most = λ more f.
    let split : tokens_of (before ++ t ∷ after) ≡ tokens_of before ++ t.token ∷ tokens_of after = map-append (λ (p : Placed). p.token) before (t ∷ after) in
    elim (steps s (tokens_of before ++ t.token ∷ more) f) [
      | inl ends ↦ not_empty (tokens_of before) t.token more ends.1
      | inr step ↦
          let slots = slots_of step.row in
          let few : fitting slots (tokens_of before ++ t.token ∷ tokens_of after) ≤ length (tokens_of before) =
          subst (λ (l : List Token). fitting slots l ≤ length (tokens_of before)) split
          (subst (λ (n : ℕ). fitting slots (tokens_of (before ++ t ∷ after)) ≤ n) most (most_longest (rows_of s) step.row (tokens_of (before ++ t ∷ after)) step.among)) in
          stops_step s (tokens_of (before ++ t ∷ after)) (tokens_of before ++ t.token ∷ more) step none
          (fitting_same slots (tokens_of before) t.token (tokens_of after) more few ∙ ap (fitting slots) (sym split))
    ]

take_placed : (n : ℕ) (l : List LexPlaced) → tokens_of (placed (take n l)) ≡ take n (tokens_of (placed l))
take_placed zero l = refl
take_placed (suc n) [] = refl
take_placed (suc n) (t ∷ l) = let more = take_placed n l in λ i. more_at t (more i)
  where
    more_at : LexPlaced → List Token → List Token
    more_at t l = tokens_of (placed (t ∷ [])) ++ l

length_take : (n : ℕ) (l : List Token) → n ≤ length l → length (take n l) ≡ n
length_take zero l inside = refl
length_take (suc n) [] inside = absurd (omega (arith, inside))
length_take (suc n) (t ∷ l) inside = ap suc (length_take n l (omega (arith, inside)))

pub parted : (n : ℕ) (l : List LexPlaced) → placed l ≡ placed (take n l) ++ placed (drop n l)
parted zero l = refl
parted (suc n) [] = refl
parted (suc n) (t ∷ l) = ap (λ (x : List Placed). placed (t ∷ []) ++ x) (parted n l)

longest_within : (rows : List Row) (tokens : List Token) → longest rows tokens ≤ length tokens
longest_within [] tokens = omega arith
longest_within (r ∷ rows) tokens = omega (arith, longest_within rows tokens, fitting_within (slots_of r) tokens)

no_placed : (l : List LexPlaced) → placed l ≡ [] → l ≡ []
no_placed [] none = refl
no_placed (t ∷ l) none = absurd (false≢true cc)

pub none_is_wrong : (s : State) (c : Cursor) (n at : ℕ) → (s ≡ state.Modules → c.rest.now ≡ [] → ⊥) → NoneFits s (tokens_of (left c)) n
    → at ≡ place_of c.end (placed (drop n c.rest.now)) → IsWrong s c at
none_is_wrong s c n at some none place =
    let l = c.rest.now in
    let before = placed (take n l) in
    let after = placed (drop n l) in
    let start = begins s (tokens_of (left c)) n none.most in
    let inside : n ≤ length (tokens_of (left c)) = omega (arith, none.most, longest_within (rows_of s) (tokens_of (left c))) in
    let size : length (tokens_of before) ≡ n = ap length (take_placed n l) ∙ length_take n (tokens_of (left c)) inside in
    record {
      before = before;
      after = after;
      split = parted n l;
      begins = (start.0, subst (λ (x : List Token). MayFollow s (x ++ start.0)) (sym (take_placed n l)) start.1);
      stops = stops s before after (λ is gone. some is (no_placed l (parted n l ∙ gone)))
          (subst (λ (x : List Placed). All (IsNotFirst (tokens_of x)) (rows_of s)) (parted n l) none.none)
          (sym (ap (λ (x : List Placed). longest (rows_of s) (tokens_of x)) (parted n l)) ∙ (sym none.most ∙ sym size));
      place = place;
    }

-- the tokens that fit a row were read
pub row_read : (x : Row) (c c' : Cursor) (tokens : List LexPlaced) (n : ℕ) → fitting (slots_of x) (tokens_of (left c)) ≡ length (slots_of x)
    → n ≡ length (slots_of x) → tokens ≡ take n c.rest.now → c'.rest.now ≡ drop n c.rest.now → c'.end ≡ c.end → IsRowRead x c (placed tokens) c'
row_read x c c' tokens n fit size read rest end =
    let front : tokens_of (placed tokens) ≡ take (length (slots_of x)) (tokens_of (left c)) =
    ap (λ (l : List LexPlaced). tokens_of (placed l)) read ∙ (take_placed n c.rest.now ∙ ap (λ (k : ℕ). take k (tokens_of (left c))) size) in
    record {
      split = parted n c.rest.now
          ∙ (ap (λ (l : List LexPlaced). placed l ++ placed (drop n c.rest.now)) (sym read) ∙ ap (λ (l : List LexPlaced). placed tokens ++ placed l) (sym rest));
      fit = ap (fits (slots_of x)) front ∙ whole_fits (slots_of x) (tokens_of (left c)) fit;
      end_is = end;
    }

pub chosen_read : (s : State) (x : Row) (c c' : Cursor) (tokens : List LexPlaced) (n : ℕ) → IsChosen s (tokens_of (left c)) x n
    → tokens ≡ take n c.rest.now → c'.rest.now ≡ drop n c.rest.now → c'.end ≡ c.end → IsRowRead x c (placed tokens) c'
chosen_read s x c c' tokens n chosen read rest end = row_read x c c' tokens n chosen.fit chosen.length_is read rest end

-- so many tokens fit the slots of the row, which are no fewer
pub found_read : (x : Row) (c c' : Cursor) (tokens : List LexPlaced) (slots : List Slot) (n : ℕ) → slots ≡ slots_of x → n ≡ fitting slots (tokens_of (left c))
    → length slots ≤ n → tokens ≡ take n c.rest.now → c'.rest.now ≡ drop n c.rest.now → c'.end ≡ c.end → IsRowRead x c (placed tokens) c'
found_read x c c' tokens slots n are found whole read rest end =
    let size : n ≡ length slots = exactly n (length slots) whole (subst (λ (k : ℕ). k ≤ length slots) (sym found) (fitting_short slots (tokens_of (left c)))) in
    row_read x c c' tokens n
    (ap (λ (l : List Slot). fitting l (tokens_of (left c))) (sym are) ∙ (sym found ∙ (size ∙ ap length are)))
    (size ∙ ap length are) read rest end
  where
    exactly : (a b : ℕ) → b ≤ a → a ≤ b → a ≡ b
    exactly a b low high = omega (arith, low, high)

pub row_not_first : (x : Row) (c : Cursor) (slots : List Slot) (n : ℕ) → slots ≡ slots_of x → n ≡ fitting slots (tokens_of (left c)) → n < length slots → BeginsNoRow x c
row_not_first x c slots n are found few =
    let P : List Slot → Type 0 = λ l. fitting l (tokens_of (left c)) < length l in
    let here : fitting slots (tokens_of (left c)) < length slots = subst (λ (k : ℕ). k < length slots) found few in
    subst P are here
