use Rattle.std.proofs.Common.{length, ap, refl}
use Rattle.term_spines.proofs.Waiting.{found_started}
use Rattle.term_spines.proofs.spines.started.Goals as goal

pub returns-clause-is : goal.returns-clause-is
returns-clause-is c = found_started c.args.found (record { body = c.args.found; number = c.args.number; waiting = c.new.result }) refl (ap length c.new.ensures.items)
