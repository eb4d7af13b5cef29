-- What literals and numerals say.
use Rattle.std.specs.Prelude.{ℕ, ◌-◌, ◌^◌, Bool, true, false, ◌==◌, nat_lt, List, [], ◌∷◌, map, take, drop, Option, Some, None, if◌then◌else◌}
use Rattle.std.specs.Int.Digits.{number_from_digits}
use Rattle.std.specs.List.{prefix_len}
use Rattle.chw_base.specs.Names.{is_digit}
use Rattle.chw_base.specs.declared.limits.TheConstants.{LITERAL_VALUE_BITS, TYPE_NUMERAL_BITS}
use Rattle.chw_grammar.specs.declared.literal.Letter.{Letter}
use Rattle.chw_grammar.specs.declared.literal.Letter.TheVariants.{U, S, B}
use Rattle.chw_grammar.specs.declared.literal.Literal.{Literal}

-- the number of decimal digits
abbrev pub number_of : List ℕ → ℕ
number_of digits = number_from_digits 10 (map (λ digit. digit - 48) digits)

-- the number, where it is below two to so many bits
abbrev pub within : ℕ → ℕ → Option ℕ
within bits number = if nat_lt number (2 ^ bits) then Some number else None

-- the letter of a byte: `s`, `b`, and else `u`
abbrev pub letter : ℕ → Letter
letter byte = if byte == 115 then S else (if byte == 98 then B else U)

-- the literal with or without a sign of this value, this letter and this width
abbrev pub parts : (negative : Bool) (value : List ℕ) (byte : ℕ) (width : List ℕ) → Literal
parts negative value byte width =
    record {
      negative = negative;
      value = within LITERAL_VALUE_BITS (number_of value);
      letter = letter byte;
      width = within TYPE_NUMERAL_BITS (number_of width);
    }

-- with these digits as its value, the literal whose letter and width are what stands behind them
abbrev pub parts_behind : Bool → List ℕ → List ℕ → Literal
parts_behind negative value [] = parts negative value 117 []
parts_behind negative value (byte ∷ width) = parts negative value byte width

-- the literal behind its sign: the value is the longest run of digits at the front
abbrev pub parts_of : Bool → List ℕ → Literal
parts_of negative unsigned =
    let len = prefix_len is_digit unsigned in
    parts_behind negative (take len unsigned) (drop len unsigned)

-- the parts of a literal: `-` may stand first
abbrev pub literal_of : List ℕ → Literal
literal_of [] = parts_of false []
literal_of (byte ∷ bytes) =
    if byte == 45 then parts_of true bytes else parts_of false (byte ∷ bytes)
