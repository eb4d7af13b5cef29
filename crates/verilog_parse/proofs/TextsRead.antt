-- What modules and a whole text read.
use Rattle.std.proofs.Common.{◌≡◌, ℕ, inl, inr, Bool, true, false, List, [], ◌∷◌, ◌++◌, length, sym, refl, ap, ◌∙◌, subst, append_assoc, arith}
use Rattle.std.specs.Prelude.{◌==◌, codes}
use Rattle.std.specs.List.{flat_map}
use Rattle.std.proofs.lemmas.Bool.{false≢true, or_cases, eqb-true}
use Rattle.std.proofs.lemmas.List.{append-nil, map-append}
use Rattle.chw_base.specs.Outcome.{OfFault}
use Rattle.chw_base.specs.declared.outcome.Or.{Or}
use Rattle.chw_base.specs.declared.outcome.Or.TheVariants.{Fault, Memory}
use Rattle.verilog_text.specs.Grammar.{module_tokens, name, number, source_tokens}
use Rattle.verilog_text.specs.Source.{ModuleItem, Source, modules_of}
use Rattle.verilog_text.specs.VForms.{Token}
use Rattle.verilog_text.specs.VTokens.{Placed}
use Rattle.verilog_tree.specs.Marks.{AreMarked, Mark, a_keyword, a_name, a_number, a_sign, commas_before, item_marks, line_marks, module_marks, placed as placed_mark, port_marks}
use Rattle.verilog_tree.specs.Syntax.{BeginsSource, IsSyntaxFault, tokens_of}
use Rattle.verilog_tree.specs.Syntax.IsSyntaxFault.{early, wrong}
use Rattle.verilog_tree.specs.declared.module.Module.{Module}
use Rattle.verilog_tree.specs.declared.word.Line.{Line}
use Rattle.verilog_tree.specs.declared.word.Word.{Word}
use Rattle.verilog_lex.specs.Shown.{placed}
use Rattle.verilog_lex.specs.declared.token.Placed.{Placed as LexPlaced}
use Rattle.verilog_parse.specs.Follow.{MayFollow}
use Rattle.verilog_parse.specs.Reading.{IsStep, IsWrong, Reads, Stops, left, place_of}
use Rattle.verilog_parse.specs.Rests.{IsAtModule, end_marks, last_ports_marks}
use Rattle.verilog_parse.specs.RowMarks.{IsLineAt, IsWordAt, nth, row_marks, word_bytes}
use Rattle.verilog_parse.specs.Rows.{rows_of}
use Rattle.verilog_parse.specs.declared.cursor.Cursor.{Cursor}
use Rattle.verilog_parse.specs.declared.cursor.Step.{Step}
use Rattle.verilog_parse.specs.declared.cursor.SyntaxFault.{SyntaxFault}
use Rattle.verilog_parse.specs.declared.rows.Row.{Row}
use Rattle.verilog_parse.specs.declared.rows.Row.TheVariants as row
use Rattle.verilog_parse.specs.declared.rows.State.{State}
use Rattle.verilog_parse.specs.declared.rows.State.TheVariants as state
use Rattle.verilog_parse.proofs.ItemsRead.{name_mark}
use Rattle.verilog_parse.proofs.Readings.{reads_as, reads_then, step_reads}
use Rattle.verilog_parse.proofs.Tables.{among, is_among, same_row_is}

pub number_mark : (w : Word) (k : ℕ) (tokens : List Placed) → IsWordAt w k tokens → a_number w ≡ placed_mark (nth k tokens).at (number (word_bytes (nth k tokens).token))
number_mark w k tokens is = λ i. placed_mark (is.at_is i) (number (is.bytes_are i))

-- the marks of a line behind the first token
pub line_marked : (l : Line) (first : Mark) (tokens : List Placed) → IsLineAt l 1 tokens → first ∷ line_marks l ≡ first ∷ a_sign (codes "[")
    ∷ placed_mark (nth 2 tokens).at (number (word_bytes (nth 2 tokens).token)) ∷ a_sign (codes ":")
    ∷ placed_mark (nth 4 tokens).at (number (word_bytes (nth 4 tokens).token)) ∷ a_sign (codes "]")
    ∷ placed_mark (nth 6 tokens).at (name (word_bytes (nth 6 tokens).token)) ∷ []
line_marked l first tokens is =
    λ i. first ∷ a_sign (codes "[") ∷ number_mark l.range.from 2 tokens is.range_is.from_is i ∷ a_sign (codes ":")
    ∷ number_mark l.range.to 4 tokens is.range_is.to_is i ∷ a_sign (codes "]") ∷ name_mark l.name 6 tokens is.name_is i ∷ []

-- the third of three rows
pub third_row : (a b d x : Row) → is_among (a ∷ b ∷ d ∷ []) x ≡ true → (x ≡ a → ⊥) → (x ≡ b → ⊥) → x ≡ d
third_row a b d x here other another =
    elim (or_cases _ _ here) [
      | inl first ↦ absurd (other (same_row_is x a first))
      | inr later ↦ elim (or_cases _ _ later) [
        | inl second ↦ absurd (another (same_row_is x b second))
        | inr last ↦ elim (or_cases _ _ last) [
          | inl third ↦ same_row_is x d third
          | inr none ↦ absurd (false≢true none)
        ]
      ]
    ]

pub output_row : (c : Cursor) (step : Step) (d : Cursor) → IsStep state.Port c step d → (step.row ≡ row.Signal → ⊥) → (step.row ≡ row.Input → ⊥) → step.row ≡ row.Output
output_row c step d is other another = third_row row.Signal row.Input row.Output step.row (among (rows_of state.Port) step.row is.among) other another

-- where a module may be read, its row is the one
pub module_row : (s : State) (c : Cursor) (step : Step) (d : Cursor) → IsAtModule s c → IsStep s c step d → step.row ≡ row.Module
module_row s c step d at is = only (rows_at at) (among (rows_of s) step.row is.among)
  where
    rows_at : IsAtModule s c → rows_of s ≡ row.Module ∷ []
    rows_at (inl text) = ap rows_of text
    rows_at (inr more) = ap rows_of more.0

    only : rows_of s ≡ row.Module ∷ [] → is_among (rows_of s) step.row ≡ true → step.row ≡ row.Module
    only rows here =
        elim (or_cases _ _ (ap (λ (l : List Row). is_among l step.row) (sym rows) ∙ here)) [
          | inl one ↦ same_row_is step.row row.Module one
          | inr none ↦ absurd (false≢true none)
        ]

pub tokens_left : (s : State) (c : Cursor) → IsAtModule s c → s ≡ state.Modules → c.rest.now ≡ [] → ⊥
tokens_left s c (inl text) is none = differ (sym text ∙ is)
  where
    differ : state.Text ≡ state.Modules → ⊥
    differ same = cc
tokens_left s c (inr more) is none = more.1 none

-- the parts of a module
pub module_reads : (s : State) (c c1 c2 c3 c4 : Cursor) (step : Step) (m : Module) → IsAtModule s c → IsStep s c step c1 → IsWordAt m.name 1 (placed step.tokens.now)
    → Reads state.Port c1 (port_marks m.first) state.Ports c2 → Reads state.Ports c2 (last_ports_marks m.others) state.Item c3
    → Reads state.Item c3 (flat_map item_marks m.items ++ end_marks) state.Modules c4 → Reads s c (module_marks m) state.Modules c4
module_reads s c c1 c2 c3 c4 step m at is name_is first others items =
    let begins : List Mark = a_keyword (codes "module") ∷ a_name m.name ∷ a_sign (codes "(") ∷ [] in
    let marked : begins ≡ row_marks row.Module (placed step.tokens.now) =
    λ i. a_keyword (codes "module") ∷ name_mark m.name 1 (placed step.tokens.now) name_is i ∷ a_sign (codes "(") ∷ [] in
    let closed : List Mark = a_sign (codes ")") ∷ a_sign (codes ";") ∷ [] in
    let body : List Mark = flat_map item_marks m.items ++ end_marks in
    let whole : begins ++ (port_marks m.first ++ (last_ports_marks m.others ++ body)) ≡ module_marks m =
    ap (λ (l : List Mark). begins ++ (port_marks m.first ++ l)) (append_assoc (commas_before port_marks m.others) closed body) in
    reads_as (begins ++ (port_marks m.first ++ (last_ports_marks m.others ++ body))) (module_marks m) whole
    (reads_then (step_reads s row.Module c step c1 begins is (module_row s c step c1 at is) marked) (reads_then first (reads_then others items)))

-- a text's modules, the last apart
apart : (m : ModuleItem) (modules : List ModuleItem) → (source : Source) × (modules_of source ≡ m ∷ modules)
apart m [] = (record { earlier = []; last = m }, refl)
apart m (x ∷ modules) =
    let more = apart x modules in
    (record { earlier = m ∷ more.0.earlier; last = more.0.last }, ap (λ (l : List ModuleItem). m ∷ l) more.1)

follows_source : (l : List Token) → MayFollow state.Text l → (source : Source) × (l ≡ source_tokens source)
follows_source l f =
    let s = apart f.0 f.1 in
    (s.0, f.2 ∙ ap (flat_map module_tokens) (sym s.1))

source_follows : (source : Source) (l : List Token) → l ≡ source_tokens source → MayFollow state.Text l
source_follows source l is = at source.earlier is
  where
    at : (earlier : List ModuleItem) → l ≡ flat_map module_tokens (earlier ++ source.last ∷ []) → MayFollow state.Text l
    at [] is = (source.last, [], is)
    at (m ∷ earlier) is = (m, earlier ++ source.last ∷ [], is)

-- where nothing that may follow goes on, no text does
pub source_fault : (c : Cursor) (tokens : List Placed) (n at : ℕ) → left c ≡ tokens → c.end ≡ n → IsWrong state.Text c at → IsSyntaxFault n tokens at
source_fault c tokens n at are end is = of is.before is.after (sym are ∙ is.split) is.begins is.stops (is.place ∙ ap (λ (k : ℕ). place_of k is.after) end)
  where
    begun : (before : List Placed) → ((more : List Token) × MayFollow state.Text (tokens_of before ++ more)) → BeginsSource before
    begun before f =
        let s = follows_source (tokens_of before ++ f.0) f.1 in
        (s.0, f.0, sym s.1)

    of : (before after : List Placed) → tokens ≡ before ++ after → ((more : List Token) × MayFollow state.Text (tokens_of before ++ more))
        → Stops state.Text before after → at ≡ place_of n after → IsSyntaxFault n tokens at
    of before [] split begins stops place =
        let all : tokens ≡ before = split ∙ append-nil before in
        early (subst BeginsSource (sym all) (begun before begins))
        (λ source is. stops (source_follows source (tokens_of before) (ap tokens_of (sym all) ∙ is))) place
    of before (t ∷ behind) split begins stops place =
        wrong before t behind split (begun before begins)
        (λ b. stops b.1 (source_follows b.0 (tokens_of before ++ t.token ∷ b.1)
        (sym (ap (λ (l : List Token). l ++ b.1) (map-append (λ (p : Placed). p.token) before (t ∷ [])) ∙ append_assoc (tokens_of before) (t.token ∷ []) b.1) ∙ sym b.2))) place

pub module_some : (m : Module) → module_marks m ≡ [] → ⊥
module_some m none = cc

-- all tokens were read
pub all_read : (c d : Cursor) (tokens : List Placed) (marks : List Mark) (s t : State) → left c ≡ tokens → Reads s c marks t d → d.rest.now ≡ [] → AreMarked tokens marks
all_read c d tokens marks s t are reads none =
    let all : reads.front ≡ tokens = sym (append-nil reads.front) ∙ (ap (λ (l : List Placed). reads.front ++ l) (ap placed (sym none)) ∙ (sym reads.split ∙ are)) in
    subst (λ (l : List Placed). AreMarked l marks) all reads.marked

pub source_faults : (c : Cursor) (tokens : List Placed) (n : ℕ) → left c ≡ tokens → c.end ≡ n → (e : Or SyntaxFault) → OfFault e (λ f. IsWrong state.Text c f.at)
    → OfFault e (λ f. IsSyntaxFault n tokens f.at)
source_faults c tokens n are end Memory is = tt
source_faults c tokens n are end (Fault f) is = source_fault c tokens n f.at are end is

pub no_tokens : (l : List LexPlaced) (b : Bool) → b ≡ (length l == 0) → b ≡ true → l ≡ []
no_tokens [] b is none = refl
no_tokens (t ∷ l) b is none =
    let zero_long : length (t ∷ l) ≡ 0 = eqb-true _ _ (sym is ∙ none) in
    absurd (omega (arith, zero_long))

pub some_tokens : (l : List LexPlaced) (b : Bool) → b ≡ (length l == 0) → b ≡ false → l ≡ [] → ⊥
some_tokens [] b is some none = false≢true (sym some ∙ is)
some_tokens (t ∷ l) b is some none = cc
