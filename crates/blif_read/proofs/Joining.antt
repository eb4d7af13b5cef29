-- Lines that are joined.
use Rattle.std.proofs.Common.{◌≡◌, ℕ, ◌+◌, ◌<◌, Bool, true, false, cond, List, [], ◌∷◌, ◌++◌, length, refl, sym, ap, ◌∙◌, arith}
use Rattle.std.specs.Borrow.{Bor}
use Rattle.std.proofs.lemmas.Bool.{false≢true}
use Rattle.std.specs.List.{position_or_len}
use Rattle.std.proofs.lemmas.List.{length-drop, nil_from_length}
use Rattle.stimulus.specs.Texts.{before, behind, is, lines_of, texts}
use Rattle.stimulus.proofs.Splits.{lines_first}
use Rattle.blif_text.specs.Lines.{Line, content, goes_on, lines_from, put_line, words_in}
use Rattle.blif_read.proofs.Lists.{length-texts}

-- a line that goes on has its `\`
pub goes_on_some : (line : List ℕ) → goes_on line ≡ true → 0 < length line
goes_on_some [] is_true = absurd (false≢true is_true)
goes_on_some (b ∷ line) is_true = omega arith

step_goes : (at first : ℕ) (words : List (List ℕ)) (line : List ℕ) (lines : List (List ℕ)) → goes_on line ≡ true
    → lines_from at first words (line ∷ lines) ≡ lines_from (at + 1) first (words ++ words_in (content line)) lines
step_goes at first words line lines is_true =
    ap (λ (b : Bool). cond b (lines_from (at + 1) first (words ++ words_in (content line)) lines)
    (put_line first (words ++ words_in (content line)) (lines_from (at + 1) (at + 1) [] lines))) is_true

step_ends : (at first : ℕ) (words : List (List ℕ)) (line : List ℕ) (lines : List (List ℕ)) → goes_on line ≡ false
    → lines_from at first words (line ∷ lines) ≡ put_line first (words ++ words_in (content line)) (lines_from (at + 1) (at + 1) [] lines)
step_ends at first words line lines is_false =
    ap (λ (b : Bool). cond b (lines_from (at + 1) first (words ++ words_in (content line)) lines)
    (put_line first (words ++ words_in (content line)) (lines_from (at + 1) (at + 1) [] lines))) is_false

split_line : (text rest line : List ℕ) → 0 < length text → line ≡ before 10 text → rest ≡ behind 10 text → lines_of text ≡ line ∷ lines_of rest
split_line text rest line some line_is rest_is =
    lines_first text some ∙ ap (λ l. l ∷ lines_of (behind 10 text)) (sym line_is) ∙ ap (λ r. line ∷ lines_of r) (sym rest_is)

-- one line more, which goes on
pub joined_goes : (whole : List Line) (at next first : ℕ) (words after : List (List ℕ)) (text rest line piece : List ℕ) (goes : Bool)
    → whole ≡ lines_from at first words (lines_of text) → 0 < length text → line ≡ before 10 text → rest ≡ behind 10 text → piece ≡ content line
    → after ≡ words ++ words_in piece → goes ≡ goes_on line → goes ≡ true → next ≡ at + 1 → whole ≡ lines_from next first after (lines_of rest)
joined_goes whole at next first words after text rest line piece goes so_far some line_is rest_is piece_is after_is goes_is is_true next_is =
    let on : goes_on line ≡ true = sym goes_is ∙ is_true in
    let words_are : words ++ words_in (content line) ≡ after = ap (λ p. words ++ words_in p) (sym piece_is) ∙ sym after_is in
    so_far ∙ ap (lines_from at first words) (split_line text rest line some line_is rest_is) ∙ step_goes at first words line (lines_of rest) on
    ∙ ap (λ n. lines_from n first (words ++ words_in (content line)) (lines_of rest)) (sym next_is)
    ∙ ap (λ ws. lines_from next first ws (lines_of rest)) words_are

-- one line more, which is the last
pub joined_ends : (whole : List Line) (at next first : ℕ) (words after : List (List ℕ)) (text rest line piece : List ℕ) (goes : Bool)
    → whole ≡ lines_from at first words (lines_of text) → 0 < length text → line ≡ before 10 text → rest ≡ behind 10 text → piece ≡ content line
    → after ≡ words ++ words_in piece → goes ≡ goes_on line → goes ≡ false → next ≡ at + 1
    → whole ≡ put_line first after (lines_from next next [] (lines_of rest))
joined_ends whole at next first words after text rest line piece goes so_far some line_is rest_is piece_is after_is goes_is is_false next_is =
    let off : goes_on line ≡ false = sym goes_is ∙ is_false in
    let words_are : words ++ words_in (content line) ≡ after = ap (λ p. words ++ words_in p) (sym piece_is) ∙ sym after_is in
    so_far ∙ ap (lines_from at first words) (split_line text rest line some line_is rest_is) ∙ step_ends at first words line (lines_of rest) off
    ∙ ap (λ n. put_line first (words ++ words_in (content line)) (lines_from n n [] (lines_of rest))) (sym next_is)
    ∙ ap (λ ws. put_line first ws (lines_from next next [] (lines_of rest))) words_are

-- the text ends behind a line that goes on
pub joined_end : (whole : List Line) (at first : ℕ) (words : List (List ℕ)) (text : List ℕ) → whole ≡ lines_from at first words (lines_of text)
    → length text ≡ 0 → whole ≡ put_line first words (lines_from at at [] (lines_of text))
joined_end whole at first words text so_far empty =
    let none : text ≡ [] = nil_from_length text empty in
    so_far ∙ ap (λ t. lines_from at first words (lines_of t)) none
    ∙ sym (ap (λ t. put_line first words (lines_from at at [] (lines_of t))) none)

put_none : (number : ℕ) (words : List (List ℕ)) (lines : List Line) → length words ≡ 0 → put_line number words lines ≡ lines
put_none number [] lines none = refl
put_none number (w ∷ words) lines none = absurd (omega arith)

put_some : (number : ℕ) (words : List (List ℕ)) (lines : List Line) → 0 < length words
    → put_line number words lines ≡ (let l : Line = record { number = number; words = words } in l) ∷ lines
put_some number [] lines some = absurd (omega arith)
put_some number (w ∷ words) lines some = refl

-- lines without words
pub line_skipped : (whole rest lines : List Line) (number : ℕ) (words : List (Bor (List ℕ))) → rest ≡ whole → rest ≡ put_line number (texts words) lines
    → length words ≡ 0 → lines ≡ whole
line_skipped whole rest lines number words so_far is none =
    sym (put_none number (texts words) lines (length-texts words ∙ none)) ∙ sym is ∙ so_far

-- lines with words
pub line_there : (whole rest lines : List Line) (number : ℕ) (words : List (Bor (List ℕ))) → rest ≡ whole → rest ≡ put_line number (texts words) lines
    → 0 < length words → whole ≡ (let l : Line = record { number = number; words = texts words } in l) ∷ lines
line_there whole rest lines number words so_far is some =
    sym so_far ∙ is ∙ put_some number (texts words) lines (omega (arith, length-texts words))

-- less is left behind a line
pub rest_shorter : (text rest : List ℕ) → 0 < length text → rest ≡ behind 10 text → length rest < length text
rest_shorter text rest some rest_is =
    let shorter : length (behind 10 text) < length text = omega (arith, length-drop (position_or_len (is 10) text + 1) text) in
    omega (arith, ap length rest_is)

-- one line more is counted
pub counted_next : (text rest : List ℕ) (lines all next : ℕ) → 0 < length text → rest ≡ behind 10 text → lines + length (lines_of text) ≡ all → next ≡ lines + 1
    → next + length (lines_of rest) ≡ all
counted_next text rest lines all next some rest_is so_far next_is =
    let split = split_line text rest (before 10 text) some refl rest_is in
    omega (arith, ap length split)

pub counted_end : (text : List ℕ) (lines all : ℕ) → length text ≡ 0 → lines + length (lines_of text) ≡ all → lines ≡ all
counted_end [] lines all none so_far = omega arith
counted_end (b ∷ text) lines all none so_far = absurd (omega arith)
