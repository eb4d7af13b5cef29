use Rattle.std.proofs.Common.{ℕ, List, sym, subst}
use Rattle.net_share.specs.Standing.{AreServers}
use Rattle.net_share.proofs.planning.planned.Goals as goal

pub plan_by-requires-clause-servers : goal.plan_by-requires-clause-servers
plan_by-requires-clause-servers c = subst (λ (vs : List ℕ). AreServers c.args.flat.now vs) (sym c.deref.ensures.value) c.in_ok-servers.ensures
