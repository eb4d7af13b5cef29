-- When two literals are equal.
use Rattle.std.specs.Prelude.{ℕ, Bool, true, false, ◌&&◌, List, [], ◌∷◌, ◌++◌, Option, Some, None, ◌==◌, not, if◌then◌else◌}
use Rattle.std.specs.List.{list_any}
use Rattle.chw_grammar.specs.declared.word.Word.{Word}
use Rattle.chw_grammar.specs.declared.literal.Letter.{Letter}
use Rattle.chw_grammar.specs.declared.literal.Letter.TheVariants as letter
use Rattle.chw_grammar.specs.declared.literal.Literal.{Literal}
use Rattle.chw_grammar.specs.Literals.{literal_of}
use Rattle.chw_names.specs.declared.literals.Meaning.{Meaning}
use Rattle.chw_names.specs.declared.literals.Sort.{Sort}
use Rattle.chw_names.specs.declared.literals.Sort.TheVariants as sort
use Rattle.chw_names.specs.Words.{seconds_by, DeclaresBy}

abbrev pub sort_of : Letter → Sort
sort_of letter.U = sort.Unsigned
sort_of letter.S = sort.Signed
sort_of letter.B = sort.Bits

abbrev pub is_zero : Option ℕ → Bool
is_zero None = false
is_zero (Some n) = n == 0

-- what a literal says: its letter, its integer and its width.
-- The integer is below zero where `-` stands before a number other than 0.
abbrev pub meaning : Literal → Meaning
meaning l =
    record {
      sort = sort_of l.letter;
      negative = l.negative && not (is_zero l.value);
      value = l.value;
      width = l.width;
    }

abbrev pub same_sort : Sort → Sort → Bool
same_sort sort.Unsigned sort.Unsigned = true
same_sort sort.Signed sort.Signed = true
same_sort sort.Bits sort.Bits = true
same_sort _ _ = false

abbrev pub same_flag : Bool → Bool → Bool
same_flag true b = b
same_flag false b = not b

abbrev pub same_number : Option ℕ → Option ℕ → Bool
same_number None None = true
same_number (Some n) (Some m) = n == m
same_number _ _ = false

abbrev pub same_meaning : Meaning → Meaning → Bool
same_meaning a b =
    same_sort a.sort b.sort && same_flag a.negative b.negative && same_number a.value b.value
    && same_number a.width b.width

abbrev pub meaning_of : Word → Meaning
meaning_of w = meaning (literal_of w.bytes)

-- whether this is what one of these says
abbrev pub is_said : List Meaning → Meaning → Bool
is_said known m = list_any (same_meaning m) known

abbrev pub with_meaning : List Meaning → Meaning → List Meaning
with_meaning known m = if is_said known m then known else known ++ m ∷ []

-- those literals that say what an earlier one of them says
abbrev pub second_literals : List Word → List Word
second_literals = seconds_by is_said with_meaning meaning_of []

-- literals are declared by what they say
abbrev pub DeclaresLiterals : List Meaning → List Meaning → Option Word → Option Word → List Word
    → Type 0
DeclaresLiterals = DeclaresBy Meaning is_said with_meaning meaning_of
