use Rattle.std.proofs.lemmas.List.{take_rest}
use Rattle.wave_read.proofs.Numerals.{cut_first, no_time_cut}
use Rattle.wave_read.proofs.numbers.time_of.Goals as goal

pub returns-clause-none : goal.returns-clause-none
returns-clause-none c =
    let bytes = c.args.bytes.now in
    no_time_cut bytes _ c.time_behind.result (cut_first bytes _ 35 c.in-len1-up.len_at_least c.if-first-ne35.false (take_rest bytes 1)) c.time_behind.ensures.none
