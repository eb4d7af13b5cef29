-- What the parts of an item and a text read.
use Rattle.std.proofs.Common.{◌≡◌, ℕ, zero, suc, ◌<◌, true, inl, inr, List, [], ◌∷◌, ◌++◌, get_or, Option, Some, None, length, sym, refl, ap, ◌∙◌, subst, append_assoc, arith}
use Rattle.std.specs.Prelude.{codes}
use Rattle.std.specs.List.{flat_map}
use Rattle.std.proofs.lemmas.Bool.{false≢true, and_parts, or_cases}
use Rattle.std.proofs.lemmas.Grind.{flat_map-append}
use Rattle.std.proofs.lemmas.List.{append-nil, length-append, map-append}
use Rattle.verilog_text.specs.Grammar.{keyword, literal, name, sign}
use Rattle.verilog_text.specs.VForms.{Token}
use Rattle.verilog_text.specs.VTokens.{Placed}
use Rattle.verilog_tree.specs.Marks.{AreMarked, Mark, a_keyword, a_literal, a_name, a_sign, clock_marks, connection_marks, item_marks, placed as placed_mark, show_marks, word_marks, write_marks}
use Rattle.verilog_tree.specs.Syntax.{tokens_of}
use Rattle.verilog_tree.specs.declared.item.Item.{Item}
use Rattle.verilog_tree.specs.declared.item.Item.TheVariants as item
use Rattle.verilog_tree.specs.declared.item.Ram.{Ram}
use Rattle.verilog_tree.specs.declared.item.Use.{Use}
use Rattle.verilog_tree.specs.declared.right.Right.TheVariants.{Join}
use Rattle.verilog_tree.specs.declared.word.Word.{Word}
use Rattle.verilog_lex.specs.Shown.{placed}
use Rattle.verilog_parse.specs.Reading.{IsStep, IsWrong, Reads, left}
use Rattle.verilog_parse.specs.Rests.{Ends, IsAtItem, IsItemRead, end_marks, last_connections_marks, last_parts_marks, parts_marks}
use Rattle.verilog_parse.specs.RowMarks.{IsAccessAt, IsWordAt, connection_at, is_whole, nth, row_marks, word_at, word_bytes}
use Rattle.verilog_parse.specs.Rows.{after, rows_of, slots_of}
use Rattle.verilog_parse.specs.Slots.{fits, fitting, takes}
use Rattle.verilog_parse.specs.declared.cursor.Cursor.{Cursor}
use Rattle.verilog_parse.specs.declared.cursor.Step.{Step}
use Rattle.verilog_parse.specs.declared.rows.Row.{Row}
use Rattle.verilog_parse.specs.declared.rows.Row.TheVariants as row
use Rattle.verilog_parse.specs.declared.rows.State.{State}
use Rattle.verilog_parse.specs.declared.rows.State.TheVariants as state
use Rattle.verilog_parse.specs.declared.slot.Slot.{Slot}
use Rattle.verilog_parse.specs.declared.slot.Slot.TheVariants.{Binary, Unary}
use Rattle.chw_base.specs.Outcome.{OfFault}
use Rattle.chw_base.specs.declared.outcome.Or.{Or}
use Rattle.chw_base.specs.declared.outcome.Or.TheVariants.{Fault, Memory}
use Rattle.verilog_parse.specs.declared.cursor.SyntaxFault.{SyntaxFault}
use Rattle.verilog_parse.proofs.Readings.{length_placed, reads_as, reads_then, step_reads, wrong_behind}
use Rattle.verilog_parse.proofs.Tables.{among, is_among, or_right, same_row_is}
use Rattle.verilog_parse.proofs.Taken.{fitting_whole}

-- the marks of words
pub name_mark : (w : Word) (k : ℕ) (tokens : List Placed) → IsWordAt w k tokens → a_name w ≡ placed_mark (nth k tokens).at (name (word_bytes (nth k tokens).token))
name_mark w k tokens is = λ i. placed_mark (is.at_is i) (name (is.bytes_are i))

pub literal_mark : (w : Word) (k : ℕ) (tokens : List Placed) → IsWordAt w k tokens → a_literal w ≡ placed_mark (nth k tokens).at (literal (word_bytes (nth k tokens).token))
literal_mark w k tokens is = λ i. placed_mark (is.at_is i) (literal (is.bytes_are i))

-- one more
flat_more : {A : Type 0} (f : A → List Mark) (xs : List A) (x : A) → flat_map f (xs ++ x ∷ []) ≡ flat_map f xs ++ f x
flat_more f xs x = flat_map-append f xs (x ∷ []) ∙ ap (λ (l : List Mark). flat_map f xs ++ l) (append-nil (f x))

pub more_reads : {A : Type 0} (s t : State) (f : A → List Mark) (xs ys : List A) (x : A) (c d e : Cursor) (u : State) → Reads s c (flat_map f xs) t d → Reads t d (f x) u e
    → ys ≡ xs ++ x ∷ [] → Reads s c (flat_map f ys) u e
more_reads s t f xs ys x c d e u before now are =
    reads_as (flat_map f xs ++ f x) (flat_map f ys) (sym (ap (flat_map f) are ∙ flat_more f xs x)) (reads_then before now)

pub more_step : {A : Type 0} (s : State) (f : A → List Mark) (r : Row) (xs ys : List A) (x : A) (c d e : Cursor) (step : Step) → Reads s c (flat_map f xs) s d
    → IsStep s d step e → step.row ≡ r → after r ≡ s → f x ≡ row_marks r (placed step.tokens.now) → ys ≡ xs ++ x ∷ [] → Reads s c (flat_map f ys) s e
more_step s f r xs ys x c d e step before is same then marks are =
    let now : Reads s d (f x) s e = subst (λ (t : State). Reads s d (f x) t e) then (step_reads s r d step e (f x) is same marks) in
    more_reads s s f xs ys x c d e s before now are

-- of two rows the second
second_row : (a b x : Row) → is_among (a ∷ b ∷ []) x ≡ true → (x ≡ a → ⊥) → x ≡ b
second_row a b x here other =
    elim (or_cases _ _ here) [
      | inl first ↦ absurd (other (same_row_is x a first))
      | inr later ↦ elim (or_cases _ _ later) [
        | inl second ↦ same_row_is x b second
        | inr none ↦ absurd (false≢true none)
      ]
    ]

pub last_step : {A : Type 0} (s : State) (f : A → List Mark) (a b : Row) (xs : List A) (marks : List Mark) (c d e : Cursor) (step : Step) → Reads s c (flat_map f xs) s d
    → IsStep s d step e → rows_of s ≡ a ∷ b ∷ [] → (step.row ≡ a → ⊥) → marks ≡ row_marks b (placed step.tokens.now) → Reads s c (flat_map f xs ++ marks) (after b) e
last_step s f a b xs marks c d e step before is rows other marked =
    let here : is_among (a ∷ b ∷ []) step.row ≡ true = ap (λ (l : List Row). is_among l step.row) (sym rows) ∙ among (rows_of s) step.row is.among in
    reads_then before (step_reads s b d step e marks is (second_row a b step.row here other) marked)

-- what begins an item, and what ends it
pub ends_reads : {s t u : State} {c d e : Cursor} {first whole : List Mark} → Reads s c first t d → Ends t d first whole u e → Reads s c whole u e
ends_reads {first = first} {whole = whole} before ends = reads_as (first ++ ends.rest) whole (sym ends.whole_is) (reads_then before ends.reads)

pub joined_marks : (w first : Word) (others : List Word) (close : ℕ) (tokens : List Placed) → IsWordAt w 1 tokens → IsWordAt first 4 tokens
    → item_marks (item.Assign w (Join (record { first = first; others = others; close = close }))) ≡ row_marks row.Join tokens ++ last_parts_marks others close
joined_marks w first others close tokens w_is first_is =
    let begins : List Mark → List Mark = λ l. a_keyword (codes "assign") ∷ a_name w ∷ a_sign (codes "=") ∷ a_sign (codes "{") ∷ a_name first ∷ l in
    ap begins (append_assoc (parts_marks others) (placed_mark close (sign (codes "}")) ∷ []) (a_sign (codes ";") ∷ []))
    ∙ (λ i. a_keyword (codes "assign") ∷ name_mark w 1 tokens w_is i ∷ a_sign (codes "=") ∷ a_sign (codes "{") ∷ name_mark first 4 tokens first_is i ∷ last_parts_marks others close)

pub used_marks : (u : Use) (tokens : List Placed) → IsWordAt u.used 0 tokens → IsWordAt u.name 1 tokens → connection_marks u.first ≡ connection_at 3 tokens
    → item_marks (item.Use u) ≡ row_marks row.Use tokens ++ last_connections_marks u.others u.close
used_marks u tokens used name_is first =
    λ i. name_mark u.used 0 tokens used i ∷ name_mark u.name 1 tokens name_is i ∷ a_sign (codes "(")
    ∷ (first i ++ last_connections_marks u.others u.close)

-- the marks behind the words of a RAM
abbrev behind_marks : Ram → List Mark
behind_marks r =
    clock_marks r.clock ++ a_keyword (codes "begin")
    ∷ (write_marks r.enable r.write r.value ++ (show_marks r.register r.read r.zeros ++ a_keyword (codes "end") ∷ []))

-- the parts of a RAM stand where they do in its row
pub record IsRamAt (r : Ram) (tokens : List Placed) : Type 0 where
  pub end_is : r.end ≡ (nth 0 tokens).at
  pub clock_is : IsWordAt r.clock 5 tokens
  pub enable_is : IsWordAt r.enable 10 tokens
  pub write_is : IsAccessAt r.write 13 tokens
  pub value_is : IsWordAt r.value 23 tokens
  pub register_is : IsWordAt r.register 25 tokens
  pub read_is : IsAccessAt r.read 28 tokens
  pub zeros_is : IsWordAt r.zeros 38 tokens

edge_marked : (r : Ram) (tokens : List Placed) → IsRamAt r tokens → placed_mark r.end (keyword (codes "end")) ∷ behind_marks r ≡ row_marks row.RamEdge tokens
edge_marked r tokens is =
    λ i. placed_mark (is.end_is i) (keyword (codes "end")) ∷ a_keyword (codes "always") ∷ a_sign (codes "@") ∷ a_sign (codes "(")
    ∷ a_keyword (codes "posedge") ∷ name_mark r.clock 5 tokens is.clock_is i ∷ a_sign (codes ")") ∷ a_keyword (codes "begin")
    ∷ a_keyword (codes "if") ∷ a_sign (codes "(") ∷ name_mark r.enable 10 tokens is.enable_is i ∷ a_sign (codes "&")
    ∷ a_sign (codes "(") ∷ name_mark r.write.address 13 tokens is.write_is.address_is i ∷ a_sign (codes "<")
    ∷ literal_mark r.write.count 15 tokens is.write_is.count_is i ∷ a_sign (codes ")") ∷ a_sign (codes ")")
    ∷ name_mark r.write.memory 18 tokens is.write_is.memory_is i ∷ a_sign (codes "[") ∷ name_mark r.write.again 20 tokens is.write_is.again_is i
    ∷ a_sign (codes "]") ∷ a_sign (codes "<=") ∷ name_mark r.value 23 tokens is.value_is i ∷ a_sign (codes ";")
    ∷ name_mark r.register 25 tokens is.register_is i ∷ a_sign (codes "<=") ∷ a_sign (codes "(") ∷ name_mark r.read.address 28 tokens is.read_is.address_is i
    ∷ a_sign (codes "<") ∷ literal_mark r.read.count 30 tokens is.read_is.count_is i ∷ a_sign (codes ")") ∷ a_sign (codes "?")
    ∷ name_mark r.read.memory 33 tokens is.read_is.memory_is i ∷ a_sign (codes "[") ∷ name_mark r.read.again 35 tokens is.read_is.again_is i
    ∷ a_sign (codes "]") ∷ a_sign (codes ":") ∷ literal_mark r.zeros 38 tokens is.zeros_is i ∷ a_sign (codes ";") ∷ a_keyword (codes "end") ∷ []

pub ram_marked : (r : Ram) (tokens edge : List Placed) → word_marks r.first ≡ word_at 2 tokens → IsRamAt r edge
    → item_marks (item.Ram r) ≡ row_marks row.Ram tokens ++ (flat_map word_marks r.others ++ row_marks row.RamEdge edge)
ram_marked r tokens edge first is =
    let ends : List Mark = placed_mark r.end (keyword (codes "end")) ∷ [] in
    let words : List Mark = flat_map word_marks r.others in
    let begins : List Mark → List Mark → List Mark = λ w l. a_keyword (codes "initial") ∷ a_keyword (codes "begin") ∷ (w ++ l) in
    ap (begins (word_marks r.first)) (append_assoc words ends (behind_marks r) ∙ ap (λ (l : List Mark). words ++ l) (edge_marked r edge is))
    ∙ ap (λ (w : List Mark). begins w (words ++ row_marks row.RamEdge edge)) first

-- the rows of an item
whole_row_of : (x : Row) → is_among (rows_of state.ItemOrMemory) x ≡ true → (x ≡ row.Endmodule → ⊥) → (x ≡ row.Register → ⊥) → (x ≡ row.Join → ⊥) → (x ≡ row.Ram → ⊥) → (x ≡ row.Use → ⊥) → (x ≡ row.Memory → ⊥) → is_whole x ≡ true
whole_row_of row.Module here n0 n1 n2 n3 n4 n5 = absurd (false≢true here)
whole_row_of row.Signal here n0 n1 n2 n3 n4 n5 = absurd (false≢true here)
whole_row_of row.Input here n0 n1 n2 n3 n4 n5 = absurd (false≢true here)
whole_row_of row.Output here n0 n1 n2 n3 n4 n5 = absurd (false≢true here)
whole_row_of row.NextPort here n0 n1 n2 n3 n4 n5 = absurd (false≢true here)
whole_row_of row.LastPort here n0 n1 n2 n3 n4 n5 = absurd (false≢true here)
whole_row_of row.Endmodule here n0 n1 n2 n3 n4 n5 = absurd (n0 refl)
whole_row_of row.Wire here n0 n1 n2 n3 n4 n5 = refl
whole_row_of row.Register here n0 n1 n2 n3 n4 n5 = absurd (n1 refl)
whole_row_of row.Memory here n0 n1 n2 n3 n4 n5 = absurd (n5 refl)
whole_row_of row.Constant here n0 n1 n2 n3 n4 n5 = refl
whole_row_of row.Copy here n0 n1 n2 n3 n4 n5 = refl
whole_row_of row.Cut here n0 n1 n2 n3 n4 n5 = refl
whole_row_of row.Unary here n0 n1 n2 n3 n4 n5 = refl
whole_row_of row.Binary here n0 n1 n2 n3 n4 n5 = refl
whole_row_of row.LessSigned here n0 n1 n2 n3 n4 n5 = refl
whole_row_of row.ShiftSigned here n0 n1 n2 n3 n4 n5 = refl
whole_row_of row.Choice here n0 n1 n2 n3 n4 n5 = refl
whole_row_of row.Join here n0 n1 n2 n3 n4 n5 = absurd (n2 refl)
whole_row_of row.NextPart here n0 n1 n2 n3 n4 n5 = absurd (false≢true here)
whole_row_of row.LastPart here n0 n1 n2 n3 n4 n5 = absurd (false≢true here)
whole_row_of row.Edge here n0 n1 n2 n3 n4 n5 = refl
whole_row_of row.ResetEdge here n0 n1 n2 n3 n4 n5 = refl
whole_row_of row.Ram here n0 n1 n2 n3 n4 n5 = absurd (n3 refl)
whole_row_of row.NextWord here n0 n1 n2 n3 n4 n5 = absurd (false≢true here)
whole_row_of row.RamEdge here n0 n1 n2 n3 n4 n5 = absurd (false≢true here)
whole_row_of row.Use here n0 n1 n2 n3 n4 n5 = absurd (n4 refl)
whole_row_of row.NextConnection here n0 n1 n2 n3 n4 n5 = absurd (false≢true here)
whole_row_of row.LastConnection here n0 n1 n2 n3 n4 n5 = absurd (false≢true here)

narrow : (s : State) (x : Row) (c : Cursor) → IsAtItem s c → is_among (rows_of s) x ≡ true → is_among (rows_of state.ItemOrMemory) x ≡ true
narrow s x c (inl is) here = or_right _ _ (ap (λ (t : State). is_among (rows_of t) x) (sym is) ∙ here)
narrow s x c (inr is) here = ap (λ (t : State). is_among (rows_of t) x) (sym is.0) ∙ here

-- no memory stands here
no_memory : (s : State) (c : Cursor) (step : Step) (d : Cursor) → IsAtItem s c → IsStep s c step d → step.row ≡ row.Memory → ⊥
no_memory s c step d (inl at) is same =
    let here : is_among (rows_of state.Item) row.Memory ≡ true =
    ap (is_among (rows_of state.Item)) (sym same) ∙ (ap (λ (t : State). is_among (rows_of t) step.row) (sym at) ∙ among (rows_of s) step.row is.among) in
    false≢true here
no_memory s c step d (inr at) is same =
    let tokens = placed step.tokens.now in
    let fit : fits (slots_of row.Memory) (tokens_of tokens) ≡ true = ap (λ (r : Row). fits (slots_of r) (tokens_of tokens)) (sym same) ∙ is.read.fit in
    first_not (slots_of row.Memory) tokens (left c) (left d) is.read.split fit at.1
  where
    first_not : (slots : List Slot) (tokens l rest : List Placed) → l ≡ tokens ++ rest → fits slots (tokens_of tokens) ≡ true → fitting slots (tokens_of l) < length slots → ⊥
    first_not slots tokens l rest split fit few =
        let whole : fitting slots (tokens_of l) ≡ length slots =
        ap (λ (x : List Placed). fitting slots (tokens_of x)) split ∙ (ap (fitting slots) (map-append (λ (p : Placed). p.token) tokens rest)
        ∙ fitting_whole slots (tokens_of tokens) (tokens_of rest) fit) in
        omega (arith, whole, few)

pub whole_row : (s : State) (c : Cursor) (step : Step) (d : Cursor) → IsAtItem s c → IsStep s c step d
    → (step.row ≡ row.Endmodule → ⊥) → (step.row ≡ row.Register → ⊥) → (step.row ≡ row.Join → ⊥) → (step.row ≡ row.Ram → ⊥) → (step.row ≡ row.Use → ⊥)
    → is_whole step.row ≡ true
whole_row s c step d at is n0 n1 n2 n3 n4 =
    whole_row_of step.row (narrow s step.row c at (among (rows_of s) step.row is.among)) n0 n1 n2 n3 n4 (no_memory s c step d at is)

pub whole_after : (x : Row) → is_whole x ≡ true → after x ≡ state.Item
whole_after row.Module is = absurd (false≢true is)
whole_after row.Signal is = absurd (false≢true is)
whole_after row.Input is = absurd (false≢true is)
whole_after row.Output is = absurd (false≢true is)
whole_after row.NextPort is = absurd (false≢true is)
whole_after row.LastPort is = absurd (false≢true is)
whole_after row.Endmodule is = absurd (false≢true is)
whole_after row.Wire is = refl
whole_after row.Register is = absurd (false≢true is)
whole_after row.Memory is = absurd (false≢true is)
whole_after row.Constant is = refl
whole_after row.Copy is = refl
whole_after row.Cut is = refl
whole_after row.Unary is = refl
whole_after row.Binary is = refl
whole_after row.LessSigned is = refl
whole_after row.ShiftSigned is = refl
whole_after row.Choice is = refl
whole_after row.Join is = absurd (false≢true is)
whole_after row.NextPart is = absurd (false≢true is)
whole_after row.LastPart is = absurd (false≢true is)
whole_after row.Edge is = refl
whole_after row.ResetEdge is = refl
whole_after row.Ram is = absurd (false≢true is)
whole_after row.NextWord is = absurd (false≢true is)
whole_after row.RamEdge is = absurd (false≢true is)
whole_after row.Use is = absurd (false≢true is)
whole_after row.NextConnection is = absurd (false≢true is)
whole_after row.LastConnection is = absurd (false≢true is)

pub not_modules : (s : State) (c : Cursor) → IsAtItem s c → s ≡ state.Modules → ⊥
not_modules s c (inl at) is = differ (sym at ∙ is)
  where
    differ : state.Item ≡ state.Modules → ⊥
    differ same = cc
not_modules s c (inr at) is = differ (sym at.0 ∙ is)
  where
    differ : state.ItemOrMemory ≡ state.Modules → ⊥
    differ same = cc

-- what the slots of a row take
nth_taken : (slots : List Slot) (tokens : List Placed) (k : ℕ) (d : Slot) → fits slots (tokens_of tokens) ≡ true → k < length slots → takes (get_or slots k d) (nth k tokens).token ≡ true
nth_taken [] tokens k d fit within = absurd (omega (arith, within))
nth_taken (s ∷ slots) [] k d fit within = absurd (false≢true fit)
nth_taken (s ∷ slots) (t ∷ tokens) zero d fit within = (and_parts _ _ fit).0
nth_taken (s ∷ slots) (t ∷ tokens) (suc k) d fit within = nth_taken slots tokens k d (and_parts _ _ fit).1 (omega (arith, within))

pub unary_takes : (x : Row) (tokens : List Placed) → x ≡ row.Unary → fits (slots_of x) (tokens_of tokens) ≡ true → takes Unary (nth 3 tokens).token ≡ true
unary_takes x tokens is fit =
    nth_taken (slots_of row.Unary) tokens 3 Unary (ap (λ (r : Row). fits (slots_of r) (tokens_of tokens)) (sym is) ∙ fit) (omega arith)

pub binary_takes : (x : Row) (tokens : List Placed) → x ≡ row.Binary → fits (slots_of x) (tokens_of tokens) ≡ true → takes Binary (nth 4 tokens).token ≡ true
binary_takes x tokens is fit =
    nth_taken (slots_of row.Binary) tokens 4 Binary (ap (λ (r : Row). fits (slots_of r) (tokens_of tokens)) (sym is) ∙ fit) (omega arith)

-- what has a mark has a token
pub reads_shortens : {s t : State} {c d : Cursor} {marks : List Mark} → Reads s c marks t d → (marks ≡ [] → ⊥) → length d.rest.now < length c.rest.now
reads_shortens {c = c} {d = d} {marks = marks} reads some =
    let less : length (left d) < length (reads.front ++ left d) = longer reads.front marks (left d) reads.marked some in
    let same : length (left c) ≡ length (reads.front ++ left d) = ap length reads.split in
    omega (arith, less, same, length_placed c.rest.now, length_placed d.rest.now)
  where
    longer : (front : List Placed) (marks : List Mark) (l : List Placed) → AreMarked front marks → (marks ≡ [] → ⊥) → length l < length (front ++ l)
    longer [] [] l marked some = absurd (some refl)
    longer [] (m ∷ marks) l marked some = absurd marked
    longer (t ∷ front) marks l marked some = omega (arith, length-append front l)

pub item_some : (x : Item) → item_marks x ≡ [] → ⊥
item_some (item.Wire l) none = cc
item_some (item.Register l w m) none = cc
item_some (item.Assign w r) none = cc
item_some (item.Edge e) none = cc
item_some (item.Ram r) none = cc
item_some (item.Use u) none = cc

-- a fault of the second part is one of the whole
pub fault_behind : {s t : State} {c d : Cursor} {marks : List Mark} → Reads s c marks t d → (e : Or SyntaxFault) → OfFault e (λ f. IsWrong t d f.at) → OfFault e (λ f. IsWrong s c f.at)
fault_behind reads Memory wrong = tt
fault_behind reads (Fault f) wrong = wrong_behind reads wrong

-- the marks of the last row, whose first place is kept
pub ends_as : {A : Type 0} (f : A → List Mark) (xs ys : List A) (close : ℕ) (tokens : List Placed) (token : Token) → ys ≡ xs → close ≡ (nth 0 tokens).at
    → flat_map f xs ++ placed_mark (nth 0 tokens).at token ∷ a_sign (codes ";") ∷ [] ≡ flat_map f ys ++ placed_mark close token ∷ a_sign (codes ";") ∷ []
ends_as {A} f xs ys close tokens token same at =
    ap (λ (l : List A). flat_map f l ++ placed_mark (nth 0 tokens).at token ∷ a_sign (codes ";") ∷ []) (sym same)
    ∙ ap (λ (n : ℕ). flat_map f ys ++ placed_mark n token ∷ a_sign (codes ";") ∷ []) (sym at)

-- a whole item was read
pub whole_reads : (s : State) (c : Cursor) (step : Step) (d : Cursor) (marks : List Mark) → is_whole step.row ≡ true → IsStep s c step d
    → marks ≡ row_marks step.row (placed step.tokens.now) → Reads s c marks state.Item d
whole_reads s c step d marks whole is marked =
    subst (λ (t : State). Reads s c marks t d) (whole_after step.row whole) (step_reads s step.row c step d marks is refl marked)

pub item_read_some : (s : State) (c : Cursor) (found : Option (Item × State)) (x : Item × State) (d : Cursor) → IsItemRead s c found d → found ≡ Some x
    → Reads s c (item_marks x.0) x.1 d × IsAtItem x.1 d
item_read_some s c found x d is some = subst (λ (o : Option (Item × State)). IsItemRead s c o d) some is

pub item_read_none : (s : State) (c : Cursor) (found : Option (Item × State)) (d : Cursor) → IsItemRead s c found d → ((x : Item × State) → found ≡ Some x → ⊥)
    → Reads s c end_marks state.Modules d
item_read_none s c None d is none = is
item_read_none s c (Some x) d is none = absurd (none x refl)
