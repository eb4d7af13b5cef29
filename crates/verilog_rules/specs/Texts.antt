-- Words of a tree: the numbers and literals that they write, and the forms of names.
use Rattle.std.specs.Prelude.{ℕ, ◌+◌, ◌^◌, Bool, false, nat_eq, nat_lt, ◌&&◌, ◌==◌}
use Rattle.std.specs.Prelude.{List, [], ◌∷◌, drop}
use Rattle.std.specs.List.{after_first, before_first, list_all, starts_with}
use Rattle.std.specs.Str.Parse.{digits_value}
use Rattle.chw_base.specs.Names.{is_capital, is_letter_or_digit, is_name_byte, is_small_letter}
use Rattle.verilog_text.specs.Declared.{value}
use Rattle.verilog_tree.specs.Sources.{bytes_of}
use Rattle.verilog_tree.specs.declared.word.Range.{Range}
use Rattle.verilog_tree.specs.declared.word.Word.{Word}

-- the number that a word writes
abbrev pub number : Word → ℕ
number w = value (bytes_of w)

-- how many bits the range [7:0] has
abbrev pub width : Range → ℕ
width range = number range.from + 1

-- the size of a literal: the number before its `'`
abbrev pub size : Word → ℕ
size literal = value (before_first (λ b. b == 39) (bytes_of literal))

-- the number of a literal: its hexadecimal digits, behind `'h`
abbrev pub amount : Word → ℕ
amount literal = digits_value 16 (drop 1 (after_first (λ b. b == 39) (bytes_of literal)))

-- the literal has this size, and its number fits
abbrev pub is_word_of : ℕ → Word → Bool
is_word_of width literal = (size literal == width) && nat_lt (amount literal) (2 ^ width)

-- the literal has this size and this number, which fits
abbrev pub is_literal_of : (width number : ℕ) → Word → Bool
is_literal_of width number literal = is_word_of width literal && (amount literal == number)

-- a first byte that passes one test, and then bytes that pass another
abbrev pub begins_then : (ℕ → Bool) → (ℕ → Bool) → List ℕ → Bool
begins_then first other [] = false
begins_then first other (b ∷ bs) = first b && list_all other bs

-- a capital, and then letters and digits
abbrev pub is_upper : List ℕ → Bool
is_upper = begins_then is_capital is_letter_or_digit

-- a small letter, and then letters, digits and `_`
abbrev pub is_lower_word : List ℕ → Bool
is_lower_word = begins_then is_small_letter is_name_byte

-- the text begins with this one
abbrev pub begins_with : List ℕ → List ℕ → Bool
begins_with front bytes = starts_with nat_eq bytes front

-- what stands before the first `_`
abbrev pub before_line : List ℕ → List ℕ
before_line = before_first (λ b. b == 95)

-- what stands behind the first `_`
abbrev pub behind_line : List ℕ → List ℕ
behind_line = after_first (λ b. b == 95)
