-- What was read, one piece behind the other.
use Rattle.std.proofs.Common.{◌≡◌, ℕ, suc, ◌<◌, true, List, [], ◌∷◌, ◌++◌, length, sym, refl, ap, ◌∙◌, subst, append_assoc, arith}
use Rattle.std.proofs.lemmas.List.{map-append, length-append}
use Rattle.verilog_text.specs.VForms.{Token}
use Rattle.verilog_text.specs.VTokens.{Placed}
use Rattle.verilog_tree.specs.Marks.{AreMarked, Mark}
use Rattle.verilog_tree.specs.Syntax.{tokens_of}
use Rattle.verilog_lex.specs.Shown.{placed}
use Rattle.verilog_lex.specs.declared.token.Placed.{Placed as LexPlaced}
use Rattle.verilog_parse.specs.Follow.{MayFollow}
use Rattle.verilog_parse.specs.Reading.{IsRowRead, IsStep, IsWrong, Reads, Stops, left, place_of}
use Rattle.verilog_parse.specs.RowMarks.{is_kept, row_marks}
use Rattle.verilog_parse.specs.Rows.{after, rows_of, slots_of}
use Rattle.verilog_parse.specs.Slots.{fits}
use Rattle.verilog_parse.specs.declared.cursor.Cursor.{Cursor}
use Rattle.verilog_parse.specs.declared.cursor.Step.{Step}
use Rattle.verilog_parse.specs.declared.rows.Row.{Row}
use Rattle.verilog_parse.specs.declared.rows.State.{State}
use Rattle.verilog_parse.proofs.Going.{row_goes, widen}
use Rattle.verilog_parse.proofs.Marked.{are_marked}
use Rattle.verilog_parse.proofs.Steps.{behind_row}
use Rattle.verilog_parse.proofs.Tables.{among, is_among, some_token}

pub reads_nothing : (s : State) (c : Cursor) → Reads s c [] s c
reads_nothing s c = record { front = []; split = refl; marked = tt; back = λ more f. f; on = λ more f. f; end_is = refl }

marked_append : (a b : List Placed) (x y : List Mark) → AreMarked a x → AreMarked b y → AreMarked (a ++ b) (x ++ y)
marked_append [] b [] y first second = second
marked_append [] b (m ∷ x) y first second = absurd first
marked_append (t ∷ a) b [] y first second = absurd first
marked_append (t ∷ a) b (m ∷ x) y first second = (first.0, marked_append a b x y first.1 second)

tokens_append : (a b : List Placed) (more : List Token) → tokens_of (a ++ b) ++ more ≡ tokens_of a ++ (tokens_of b ++ more)
tokens_append a b more =
    ap (λ (l : List Token). l ++ more) (map-append (λ (t : Placed). t.token) a b) ∙ append_assoc (tokens_of a) (tokens_of b) more

pub reads_then : {s t u : State} {c d e : Cursor} {x y : List Mark} → Reads s c x t d → Reads t d y u e → Reads s c (x ++ y) u e
reads_then {s} {t} {u} {c} {d} {e} {x} {y} first second = record {
  front = first.front ++ second.front;
  split = first.split ∙ (ap (λ (l : List Placed). first.front ++ l) second.split ∙ sym (append_assoc first.front second.front (left e)));
  marked = marked_append first.front second.front x y first.marked second.marked;
  back = λ more f. subst (λ (l : List Token). MayFollow s l) (sym (tokens_append first.front second.front more))
      (first.back (tokens_of second.front ++ more) (second.back more f));
  on = λ more f. second.on more (first.on (tokens_of second.front ++ more) (subst (λ (l : List Token). MayFollow s l) (tokens_append first.front second.front more) f));
  end_is = second.end_is ∙ first.end_is;
}

pub reads_as : {s t : State} {c d : Cursor} (x y : List Mark) → x ≡ y → Reads s c x t d → Reads s c y t d
reads_as {s} {t} {c} {d} x y same reads = subst (λ (l : List Mark). Reads s c l t d) same reads

stops_behind : (s t : State) (front before after : List Placed) → ((more : List Token) → MayFollow s (tokens_of front ++ more) → MayFollow t more)
    → Stops t before after → Stops s (front ++ before) after
stops_behind s t front before [] on stops = λ f. stops (on (tokens_of before) (subst (λ (l : List Token). MayFollow s l) (map-append (λ (p : Placed). p.token) front before) f))
stops_behind s t front before (p ∷ after) on stops = λ more f.
    stops more (on (tokens_of before ++ p.token ∷ more) (subst (λ (l : List Token). MayFollow s l) (tokens_append front before (p.token ∷ more)) f))

pub wrong_behind : {s t : State} {c d : Cursor} {x : List Mark} {at : ℕ} → Reads s c x t d → IsWrong t d at → IsWrong s c at
wrong_behind {s} {t} {c} {d} {x} {at} reads wrong = record {
  before = reads.front ++ wrong.before;
  after = wrong.after;
  split = reads.split ∙ (ap (λ (l : List Placed). reads.front ++ l) wrong.split ∙ sym (append_assoc reads.front wrong.before wrong.after));
  begins = (
    wrong.begins.0,
    subst (λ (l : List Token). MayFollow s l) (sym (tokens_append reads.front wrong.before wrong.begins.0))
        (reads.back (tokens_of wrong.before ++ wrong.begins.0) wrong.begins.1),
  );
  stops = stops_behind s t reads.front wrong.before wrong.after reads.on wrong.stops;
  place = wrong.place ∙ ap (λ (n : ℕ). place_of n wrong.after) reads.end_is;
}

-- a row that is among those of the state was read
pub row_reads : (s : State) (x : Row) (c : Cursor) (tokens : List Placed) (c' : Cursor) → is_among (rows_of s) x ≡ true → IsRowRead x c tokens c'
    → Reads s c (row_marks x tokens) (after x) c'
row_reads s x c tokens c' is read = record {
  front = tokens;
  split = read.split;
  marked = are_marked (is_kept x) (slots_of x) tokens read.fit;
  back = λ more f. widen s x (tokens_of tokens ++ more) is (row_goes x (tokens_of tokens) more read.fit f);
  on = λ more f. behind_row s x (tokens_of tokens) more is read.fit f;
  end_is = read.end_is;
}

-- so a step reads its row, which is this one
pub step_reads : (s : State) (x : Row) (c : Cursor) (step : Step) (c' : Cursor) (marks : List Mark) → IsStep s c step c' → step.row ≡ x
    → marks ≡ row_marks x (placed step.tokens.now) → Reads s c marks (after x) c'
step_reads s x c step c' marks is row marked =
    let tokens = placed step.tokens.now in
    let here : is_among (rows_of s) x ≡ true = ap (is_among (rows_of s)) (sym row) ∙ among (rows_of s) step.row is.among in
    let read : IsRowRead x c tokens c' = subst (λ (r : Row). IsRowRead r c tokens c') row is.read in
    reads_as (row_marks x tokens) marks (sym marked) (row_reads s x c tokens c' here read)

-- a row has a token, so fewer are left behind it
fewer : (x : Row) (tokens : List Placed) (l : List Placed) → fits (slots_of x) (tokens_of tokens) ≡ true → length l < length (tokens ++ l)
fewer x [] l fit = absurd (some_token x fit)
fewer x (t ∷ tokens) l fit = omega (arith, length-append tokens l)

pub length_placed : (l : List LexPlaced) → length (placed l) ≡ length l
length_placed [] = refl
length_placed (t ∷ l) = ap suc (length_placed l)

pub step_shortens : (s : State) (c : Cursor) (step : Step) (c' : Cursor) → IsStep s c step c' → length c'.rest.now < length c.rest.now
step_shortens s c step c' is =
    let tokens = placed step.tokens.now in
    let less : length (left c') < length (tokens ++ left c') = fewer step.row tokens (left c') is.read.fit in
    let same : length (left c) ≡ length (tokens ++ left c') = ap length is.read.split in
    omega (arith, less, same, length_placed c'.rest.now, length_placed c.rest.now)
