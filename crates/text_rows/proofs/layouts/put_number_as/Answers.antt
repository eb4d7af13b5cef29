use Rattle.std.proofs.Common.{rules, arith}
use Rattle.text_rows.proofs.Reading.{read_width}
use Rattle.text_rows.proofs.layouts.put_number_as.Goals as goal

pub put_bits_as-outcome-requires-clause-width : goal.put_bits_as-outcome-requires-clause-width
put_bits_as-outcome-requires-clause-width c = first_of (search (rules, read_width), grind (arith, read_width))
