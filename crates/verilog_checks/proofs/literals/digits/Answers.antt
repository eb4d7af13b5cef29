use Rattle.std.proofs.Common.{◌-◌, length, drop, sym, subst}
use Rattle.std.specs.Str.Parse.{AllDigits}
use Rattle.verilog_checks.proofs.HexDigits.{all_taken, literal_digits}
use Rattle.verilog_checks.proofs.literals.digits.Goals as goal

pub returns-in-len1-up-clause-hex : goal.returns-in-len1-up-clause-hex
returns-in-len1-up-clause-hex c = λ formed.
    all_taken (length c.behind.result.now - 1) (drop 1 c.behind.result.now)
    (subst (λ l. AllDigits 16 (drop 1 l)) (sym c.behind.ensures) (literal_digits c.args.literal.now.bytes.now formed))
