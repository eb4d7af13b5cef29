-- The rows that were tried.
use Rattle.std.proofs.Common.{◌≡◌, ℕ, zero, suc, ◌+◌, ◌<◌, ◌≤◌, max, List, [], ◌∷◌, ◌++◌, length, take, get_or, sym, refl, ap, ◌∙◌, subst, arith}
use Rattle.std.specs.Prelude.{true, false, if◌then◌else◌}
use Rattle.std.specs.List.{All}
use Rattle.std.proofs.lemmas.List.{take_more, take_all}
use Rattle.std.proofs.lemmas.List.Elements.{All-append}
use Rattle.verilog_text.specs.VForms.{Token}
use Rattle.verilog_parse.specs.Reading.{IsNotFirst, NoneFits, longest}
use Rattle.verilog_parse.specs.Rows.{rows_of, slots_of}
use Rattle.verilog_parse.specs.Slots.{fitting, takes}
use Rattle.verilog_parse.specs.declared.rows.Row.{Row}
use Rattle.verilog_parse.specs.declared.rows.State.{State}
use Rattle.verilog_parse.specs.declared.slot.Slot.{Slot}

-- none of these rows is first
pub record Tried (rows : List Row) (tokens : List Token) (n : ℕ) : Type 0 where
  pub none : All (IsNotFirst tokens) rows
  pub most : n ≡ longest rows tokens

pub tried_none : (tokens : List Token) → Tried [] tokens 0
tried_none tokens = record { none = λ k d within. absurd (omega (arith, within)); most = refl }

longest_push : (rows : List Row) (row : Row) (tokens : List Token) → longest (rows ++ row ∷ []) tokens ≡ max (longest rows tokens) (fitting (slots_of row) tokens)
longest_push [] row tokens = omega arith
longest_push (r ∷ rows) row tokens = omega (arith, longest_push rows row tokens)

All-one : (P : Row → Type 0) (row : Row) → P row → All P (row ∷ [])
All-one P row here zero d within = here
All-one P row here (suc k) d within = absurd (omega (arith, within))

pub tried_more : (rows : List Row) (tokens : List Token) (i : ℕ) (d : Row) (n m : ℕ) → i < length rows → Tried (take i rows) tokens n
    → IsNotFirst tokens (get_or rows i d) → m ≡ max n (fitting (slots_of (get_or rows i d)) tokens)
    → Tried (take (i + 1) rows) tokens m
tried_more rows tokens i d n m within tried not now =
    let row = get_or rows i d in
    let grown : Tried (take i rows ++ row ∷ []) tokens m = record {
      none = All-append (IsNotFirst tokens) (take i rows) (row ∷ []) tried.none (All-one (IsNotFirst tokens) row not);
      most = now ∙ ap (λ k. max k (fitting (slots_of row) tokens)) tried.most ∙ sym (longest_push (take i rows) row tokens);
    } in
    subst (λ (l : List Row). Tried l tokens m) (sym (take_more rows i d within)) grown

pub fitting_short : (slots : List Slot) (tokens : List Token) → fitting slots tokens ≤ length slots
fitting_short [] tokens = omega arith
fitting_short (slot ∷ slots) [] = omega arith
fitting_short (slot ∷ slots) (t ∷ tokens) =
    elim (takes slot t) as (λ v. (if v then suc (fitting slots tokens) else 0) ≤ length (slot ∷ slots)) [
      | true ↦ omega (arith, fitting_short slots tokens)
      | false ↦ omega arith
    ]

not_first : (row : Row) (slots : List Slot) (tokens : List Token) (k : ℕ) → slots ≡ slots_of row → k ≡ fitting slots tokens → (k ≡ length slots → ⊥)
    → IsNotFirst tokens row
not_first row slots tokens k are found short =
    let P : List Slot → Type 0 = λ l. fitting l tokens < length l in
    let here : fitting slots tokens < length slots = lt_from (fitting slots tokens) (length slots) (fitting_short slots tokens) (λ whole. short (found ∙ whole)) in
    subst P are here
  where
    lt_from : (a b : ℕ) → a ≤ b → (a ≡ b → ⊥) → a < b
    lt_from a b most differs = omega (arith, most, differs)

pub tried_next : (rows : List Row) (tokens : List Token) (i : ℕ) (d : Row) (n m k : ℕ) (slots : List Slot) → i < length rows → Tried (take i rows) tokens n
    → slots ≡ slots_of (get_or rows i d) → k ≡ fitting slots tokens → (k ≡ length slots → ⊥) → m ≡ max n k
    → Tried (take (i + 1) rows) tokens m
tried_next rows tokens i d n m k slots within tried are found short larger =
    tried_more rows tokens i d n m within tried (not_first (get_or rows i d) slots tokens k are found short)
    (larger ∙ ap (λ x. max n x) (found ∙ ap (λ (l : List Slot). fitting l tokens) are))

pub tried_all : (s : State) (rows : List Row) (tokens : List Token) (i n : ℕ) → rows ≡ rows_of s → length rows ≤ i → Tried (take i rows) tokens n → NoneFits s tokens n
tried_all s rows tokens i n are past tried =
    let all : take i rows ≡ rows_of s = take_all i rows past ∙ are in
    record {
      none = subst (λ (l : List Row). All (IsNotFirst tokens) l) all tried.none;
      most = tried.most ∙ ap (λ (l : List Row). longest l tokens) all;
    }
