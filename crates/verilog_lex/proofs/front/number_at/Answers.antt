use Rattle.std.proofs.Common.{ℕ, List, subst}
use Rattle.std.proofs.lemmas.List.{take_rest}
use Rattle.verilog_lex.specs.Scanning.{HasNoTail, IsTail}
use Rattle.verilog_lex.proofs.Numbers.{literal_token, number_token}
use Rattle.verilog_lex.proofs.front.number_at.Goals as goal

pub returns-in-Some : goal.returns-in-Some
returns-in-Some c =
    let bytes = c.args.bytes.now in
    let size = c.run_len-size.result in
    literal_token bytes size c.requires c.run_len-size.ensures c.in-Some.digits
    (subst (λ (rest : List ℕ). IsTail rest c.in-Some.digits) (take_rest bytes size) c.in-Some.ensures.some)

pub returns-in-None : goal.returns-in-None
returns-in-None c =
    let bytes = c.args.bytes.now in
    let size = c.run_len-size.result in
    number_token bytes size c.requires c.run_len-size.ensures (subst HasNoTail (take_rest bytes size) c.in-None.ensures.none)
