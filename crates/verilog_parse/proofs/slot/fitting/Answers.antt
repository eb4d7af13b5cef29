use Rattle.std.proofs.Common.{add-zero, sym, ap, ◌∙◌, ◌+◌}
use Rattle.verilog_parse.proofs.Fitting.{fitting_runs_out}
use Rattle.verilog_parse.proofs.slot.fitting.Goals as goal

pub returns-else-n-tokens : goal.returns-else-n-tokens
returns-else-n-tokens c =
    sym (c.loop-n.invariant ∙ (ap (λ k. c.loop-n.n + k) (fitting_runs_out c.args.slots.now c.args.tokens.now c.loop-n.n c.if-n-tokens.false) ∙ add-zero c.loop-n.n))
