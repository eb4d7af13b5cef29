use Rattle.std.proofs.Common.{◌≡◌, take, Some}
use Rattle.chw_grammar.specs.Literals.{number_of, within}
use Rattle.chw_grammar.proofs.literal.read_number.Given as goal

abbrev pub invariant-loop-digit : goal.invariant-loop-digit
invariant-loop-digit l = Some l.number ≡ within 128 (number_of (take l.digit-index l.digits))
