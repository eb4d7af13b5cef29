use Rattle.std.proofs.Common.{append_assoc}
use Rattle.verilog_print.proofs.memories.put_initial_line.Goals as goal

pub returns : goal.returns
returns c = simp (c.in_ok-put-2.ensures, c.in_ok-put_initial_words.ensures, c.in_ok-put.ensures, append_assoc)
