use Rattle.std.proofs.Common.{◌∙◌, sym}
use Rattle.chw_base.specs.Names.{is_capital, is_letter_or_digit}
use Rattle.net_rules.proofs.NameForms.{begins_then}
use Rattle.net_rules.proofs.well_formed.ports.is_upper.Goals as goal

pub returns-then-is_capital : goal.returns-then-is_capital
returns-then-is_capital c =
    begins_then is_capital is_letter_or_digit c.args.name.now c.are_letters_or_digits.result c.in-len1-up.len_at_least (sym c.is_capital.ensures ∙ c.if-is_capital.true) c.are_letters_or_digits.ensures
