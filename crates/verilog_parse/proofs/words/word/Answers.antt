use Rattle.std.proofs.Common.{refl}
use Rattle.verilog_parse.proofs.WordsFound.{word_found, word_past}
use Rattle.verilog_parse.proofs.words.word.Goals as goal

pub returns-in-Some : goal.returns-in-Some
returns-in-Some c =
    let h = c.in-Some.ensures.lookup in
    word_found _ c.args.tokens.now c.args.k c.in-Some.found.now h.3.0 h.1 refl c.bytes_of.ensures

pub returns-in-None : goal.returns-in-None
returns-in-None c = let h = c.in-None.ensures.lookup in word_past _ c.args.tokens.now c.args.k h.3 refl refl
