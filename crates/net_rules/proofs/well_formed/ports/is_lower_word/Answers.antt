use Rattle.std.proofs.Common.{◌∙◌, sym}
use Rattle.chw_base.specs.Names.{is_small_letter, is_name_byte}
use Rattle.net_rules.proofs.NameForms.{begins_then}
use Rattle.net_rules.proofs.well_formed.ports.is_lower_word.Goals as goal

pub returns-then-is_small_letter : goal.returns-then-is_small_letter
returns-then-is_small_letter c =
    begins_then is_small_letter is_name_byte c.args.name.now c.are_name_bytes.result c.in-len1-up.len_at_least (sym c.is_small_letter.ensures ∙ c.if-is_small_letter.true) c.are_name_bytes.ensures
