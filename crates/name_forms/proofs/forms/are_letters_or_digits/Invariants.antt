-- each byte so far passes
use Rattle.std.proofs.Common.{take}
use Rattle.chw_base.specs.Names.{AllOf, is_letter_or_digit}
use Rattle.name_forms.proofs.forms.are_letters_or_digits.Given as goal

abbrev pub invariant-loop-byte : goal.invariant-loop-byte
invariant-loop-byte l = AllOf is_letter_or_digit (take l.byte-index l.text)
