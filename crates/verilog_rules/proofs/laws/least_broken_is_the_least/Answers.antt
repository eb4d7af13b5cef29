use Rattle.verilog_rules.proofs.LeastPlace.{least_is, none_broken}
use Rattle.verilog_rules.proofs.laws.least_broken_is_the_least.Goals as goal

pub returns : goal.returns
returns c = record { least = least_is; none = none_broken }
