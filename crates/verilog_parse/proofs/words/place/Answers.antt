use Rattle.std.proofs.Common.{sym, ap}
use Rattle.verilog_text.specs.VTokens.{Placed}
use Rattle.verilog_parse.proofs.WordsFound.{nth_found, nth_past}
use Rattle.verilog_parse.proofs.words.place.Goals as goal

pub returns-in-Some : goal.returns-in-Some
returns-in-Some c =
    let h = c.in-Some.ensures.lookup in
    ap (λ (p : Placed). p.at) (sym (nth_found c.args.tokens.now c.args.k c.in-Some.found.now h.3.0 h.1))

pub returns-in-None : goal.returns-in-None
returns-in-None c = let h = c.in-None.ensures.lookup in ap (λ (p : Placed). p.at) (sym (nth_past c.args.tokens.now c.args.k h.3))
