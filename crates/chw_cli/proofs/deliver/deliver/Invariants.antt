use Rattle.std.proofs.Common.{length}
use Rattle.chw_cli.proofs.Progress.{Progress}
use Rattle.chw_cli.proofs.deliver.deliver.Given as goal

abbrev pub invariant-loop-rest : goal.invariant-loop-rest
invariant-loop-rest g l =
    Progress g.K.Sink.put_gives g.K.Sink.written g.K.Sink.faults l.bytes l.rest l.initial.out l.out

abbrev pub decreases-loop-rest : goal.decreases-loop-rest
decreases-loop-rest g l = length l.rest
