-- The lines of a printed text.
use Rattle.std.proofs.Common.{◌≡◌, ℕ, zero, suc, ◌+◌, ◌-◌, ◌≤◌, true, false, not, cond, ◌||◌, ◌&&◌, eqb, List, [], ◌∷◌, ◌++◌, length, take, get_or, codes, refl, ap, ◌∙◌, append_assoc, arith}
use Rattle.std.specs.Prelude.{flat_map}
use Rattle.std.specs.List.{AllByRecursion, filter, onto_first, position_or_len, slice_split}
use Rattle.std.proofs.lemmas.List.{append-nil, take_all}
use Rattle.std.proofs.lemmas.List.Elements.{All-from_recursion}
use Rattle.std.proofs.lemmas.List.Splits.{slice_split_at, slice_split_none}
use Rattle.chw_base.specs.Names.{AllOf}
use Rattle.stimulus.specs.Texts.{before, has, is, lines_of}
use Rattle.blif_text.specs.Lines.{Line, content, goes_on, has_bytes, is_blank, lines_from, put_line, words_in}
use Rattle.blif_text.specs.Printed.{line_text, spaced, statement_text}
use Rattle.blif_text.specs.Statements.{HasForm, Statement, words_of}
use Rattle.blif_text.specs.Statements.Statement.{ends, inputs_are, latch_of, model, outputs_are, row_of, table_of}
use Rattle.blif_text.proofs.Bytes.{IsWord, all_append, is_plain, statement_words, unlike}

-- words with one space between them
abbrev body : List (List ℕ) → List ℕ
body [] = []
body (word ∷ words) = word ++ spaced words

-- a byte of a word or a space
abbrev Inner : ℕ → Type 0
Inner b = ((eqb b 10 ≡ false) × (eqb b 35 ≡ false) × (eqb b 92 ≡ false))

plain_inner : (b : ℕ) → is_plain b ≡ true → Inner b
plain_inner b is = (unlike is_plain b 10 is refl, unlike is_plain b 35 is refl, unlike is_plain b 92 is refl)

bytes_inner : (bytes : List ℕ) → AllOf is_plain bytes → AllByRecursion Inner bytes
bytes_inner [] all = tt
bytes_inner (b ∷ bytes) all = (plain_inner b all.0, bytes_inner bytes all.1)

word_inner : (word : List ℕ) → IsWord word → AllByRecursion Inner word
word_inner [] form = absurd form
word_inner (b ∷ word) form = (plain_inner b form.0, bytes_inner word form.1)

spaced_inner : (words : List (List ℕ)) → AllByRecursion IsWord words → AllByRecursion Inner (spaced words)
spaced_inner [] all = tt
spaced_inner (word ∷ words) all =
    ((refl, refl, refl), all_append Inner word (spaced words) (word_inner word all.0) (spaced_inner words all.1))

body_inner : (words : List (List ℕ)) → AllByRecursion IsWord words → AllByRecursion Inner (body words)
body_inner [] all = tt
body_inner (word ∷ words) all = all_append Inner word (spaced words) (word_inner word all.0) (spaced_inner words all.1)

body_ended : (words : List (List ℕ)) → line_text words ≡ body words ++ codes "\n"
body_ended [] = refl
body_ended (word ∷ words) = refl

-- the first line ends at the first line feed
first_line : (line rest : List ℕ) → AllByRecursion Inner line → lines_of (line ++ 10 ∷ rest) ≡ line ∷ lines_of rest
first_line [] rest all = refl
first_line (b ∷ line) rest all =
    ap (λ t. cond t ([] ∷ lines_of (line ++ 10 ∷ rest)) (onto_first b (lines_of (line ++ 10 ∷ rest)))) all.0.0
    ∙ ap (onto_first b) (first_line line rest all.1)

-- it doesn't go on, and has no comment
last_byte : (line : List ℕ) (k : ℕ) → AllByRecursion Inner line → eqb (get_or line k 0) 92 ≡ false
last_byte [] k all = refl
last_byte (b ∷ line) zero all = all.0.2
last_byte (b ∷ line) (suc k) all = last_byte line k all.1

ends_here : (line : List ℕ) → AllByRecursion Inner line → goes_on line ≡ false
ends_here line all = ap (λ t. t && not (has 35 line)) (last_byte line (length line - 1) all)

nowhere : (line : List ℕ) → AllByRecursion Inner line → position_or_len (is 35) line ≡ length line
nowhere [] all = refl
nowhere (b ∷ line) all = rw all.0.1 (omega (arith, nowhere line all.1))

no_comment : (line : List ℕ) → AllByRecursion Inner line → before 35 line ≡ line
no_comment line all = take_all (position_or_len (is 35) line) line (omega (arith, nowhere line all))

all_content : (line : List ℕ) → AllByRecursion Inner line → content line ≡ line
all_content line all = ap (λ t. cond t (take (length line - 1) line) (before 35 line)) (ends_here line all) ∙ no_comment line all

-- the words are found again
plain_unblank : (b : ℕ) → is_plain b ≡ true → is_blank b ≡ false
plain_unblank b is = ap (λ t. t || eqb b 9) (unlike is_plain b 32 is refl) ∙ unlike is_plain b 9 is refl

bytes_unblank : (bytes : List ℕ) → AllOf is_plain bytes → AllByRecursion (λ b. is_blank b ≡ false) bytes
bytes_unblank [] all = tt
bytes_unblank (b ∷ bytes) all = (plain_unblank b all.0, bytes_unblank bytes all.1)

word_unblank : (word : List ℕ) → IsWord word → AllByRecursion (λ b. is_blank b ≡ false) word
word_unblank [] form = absurd form
word_unblank (b ∷ word) form = (plain_unblank b form.0, bytes_unblank word form.1)

body_split : (word : List ℕ) (words : List (List ℕ)) → IsWord word → AllByRecursion IsWord words → slice_split is_blank (word ++ spaced words) ≡ word ∷ words
body_split word [] form all =
    ap (slice_split is_blank) (append-nil word)
    ∙ slice_split_none is_blank word (All-from_recursion (λ b. is_blank b ≡ false) word (word_unblank word form))
body_split word (next ∷ words) form all =
    slice_split_at is_blank word 32 (next ++ spaced words) (All-from_recursion (λ b. is_blank b ≡ false) word (word_unblank word form)) refl
    ∙ ap (λ ws. word ∷ ws) (body_split next words all.0 all.1)

kept : (words : List (List ℕ)) → AllByRecursion IsWord words → filter has_bytes words ≡ words
kept [] all = refl
kept ([] ∷ words) all = absurd all.0
kept ((b ∷ word) ∷ words) all = ap (λ ws. (b ∷ word) ∷ ws) (kept words all.1)

body_words : (word : List ℕ) (words : List (List ℕ)) → IsWord word → AllByRecursion IsWord words → words_in (body (word ∷ words)) ≡ word ∷ words
body_words word words form all = ap (filter has_bytes) (body_split word words form all) ∙ kept (word ∷ words) (form, all)

-- a line with this number and these words
abbrev pub numbered : ℕ → List (List ℕ) → Line
numbered number words = record { number = number; words = words }

-- a printed line is read
line_read : (n : ℕ) (word : List ℕ) (words : List (List ℕ)) (others : List (List ℕ)) → IsWord word → AllByRecursion IsWord words
    → lines_from n n [] (body (word ∷ words) ∷ others) ≡ numbered n (word ∷ words) ∷ lines_from (n + 1) (n + 1) [] others
line_read n word words others form all =
    let text = body (word ∷ words) in
    let inner = body_inner (word ∷ words) (form, all) in
    let rest = lines_from (n + 1) (n + 1) [] others in
    ap (λ t. cond t (lines_from (n + 1) n (words_in (content text)) others) (put_line n (words_in (content text)) rest)) (ends_here text inner)
    ∙ ap (λ t. put_line n (words_in t) rest) (all_content text inner)
    ∙ ap (λ ws. put_line n ws rest) (body_words word words form all)

-- the lines of statements
abbrev pub lines_said : ℕ → List Statement → List Line
lines_said n [] = []
lines_said n (s ∷ ss) = numbered n (words_of s) ∷ lines_said (n + 1) ss

any_read : (n : ℕ) (words : List (List ℕ)) (others : List (List ℕ)) → 1 ≤ length words → AllByRecursion IsWord words
    → lines_from n n [] (body words ∷ others) ≡ numbered n words ∷ lines_from (n + 1) (n + 1) [] others
any_read n [] others some all = absurd (omega arith)
any_read n (word ∷ words) others some all = line_read n word words others all.0 all.1

some_words : (s : Statement) → 1 ≤ length (words_of s)
some_words model = omega arith
some_words (inputs_are names) = omega arith
some_words (outputs_are names) = omega arith
some_words (table_of reads drives) = omega arith
some_words (row_of []) = omega arith
some_words (row_of (mark ∷ marks)) = omega arith
some_words (latch_of takes drives clock initial) = omega arith
some_words ends = omega arith

pub statements_read : (n : ℕ) (ss : List Statement) → AllByRecursion HasForm ss → lines_from n n [] (lines_of (flat_map statement_text ss)) ≡ lines_said n ss
statements_read n [] all = refl
statements_read n (s ∷ ss) all =
    let words = words_of s in
    let form = statement_words s all.0 in
    let rest = flat_map statement_text ss in
    let split : lines_of (line_text words ++ rest) ≡ body words ∷ lines_of rest =
    ap (λ t. lines_of (t ++ rest)) (body_ended words) ∙ ap lines_of (append_assoc (body words) (codes "\n") rest) ∙ first_line (body words) rest (body_inner words form) in
    ap (lines_from n n []) split ∙ any_read n words (lines_of rest) (some_words s) form ∙ ap (λ ls. numbered n words ∷ ls) (statements_read (n + 1) ss all.1)
