use Rattle.wave_text.proofs.PrintedRead.{printed_waves_are_read as shown}
use Rattle.wave_text.proofs.laws.printed_waves_are_read.Goals as goal

pub returns : goal.returns
returns c = shown (record {
  distinct = c.codes_are_distinct.ensures.distinct;
  codes = record { some = c.codes_are_distinct.ensures.some; visible = c.codes_are_distinct.ensures.visible };
  widths = c.values_have_their_widths.ensures;
})
