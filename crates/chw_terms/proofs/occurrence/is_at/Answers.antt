use Rattle.std.proofs.Common.{◌==◌, ap, arith}
use Rattle.chw_terms.proofs.Found.{found_var}
use Rattle.chw_terms.proofs.occurrence.is_at.Goals as goal

pub returns : goal.returns
returns c = found_var c.args.x.number c.args.v (c.from.result == c.args.v) (omega arith) (ap (λ n. n == c.args.v) c.from.ensures)
