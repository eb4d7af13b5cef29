-- the kinds of those so far are set
use Rattle.std.proofs.Common.{length}
use Rattle.data_kinds.proofs.Settling.{Sets}
use Rattle.data_kinds.proofs.kinds.set_kinds.Given as goal

abbrev pub invariant-loop-number : goal.invariant-loop-number
invariant-loop-number l = Sets l.initial.datas (length l.domains) l.order l.number-index l.datas
