-- What is asked of the words before the commands are looked for.
use Rattle.std.specs.Prelude.{ℕ, Bool, not, ◌&&◌, ◌||◌, nat_le, nat_eq, List, count_by, codes}
use Rattle.std.specs.List.{list_all, starts_with, All}
use Rattle.std.specs.Str.{IsUtf8, bytes_eq}
use Rattle.chw_words.specs.Commands.{is_option}

-- each word is UTF-8 text
abbrev pub AreTexts : List (List ℕ) → Type 0
AreTexts words = All IsUtf8 words

-- the word is `--budget`, or `--budget=` with what follows
abbrev pub is_budget_option : List ℕ → Bool
is_budget_option word =
    bytes_eq word (codes "--budget") || starts_with nat_eq word (codes "--budget=")

-- at most one word begins with `-`, and only a budget's
abbrev pub has_form : List (List ℕ) → Bool
has_form words =
    nat_le (count_by is_option words) 1
    && list_all (λ word. not (is_option word) || is_budget_option word) words
