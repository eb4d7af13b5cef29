use Rattle.verilog_text.proofs.PrintedText.{printed_text}
use Rattle.verilog_text.proofs.laws.printed_text_denotes_its_net.Goals as goal

pub returns : goal.returns
returns c = printed_text (record {
  digits_same = c.digits_read_back.ensures.same;
  digits_fit = c.digits_read_back.ensures.width;
  whole = c.number_of_made_bits.ensures.whole;
  long = c.length_of_made_bits.ensures;
  below = c.bits_made_of_their_number.ensures.below;
})
