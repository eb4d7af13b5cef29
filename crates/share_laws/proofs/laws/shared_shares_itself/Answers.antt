use Rattle.std.proofs.Common.{sym, subst}
use Rattle.chw_clock.specs.declared.event.Ports.{Ports}
use Rattle.net_rules.specs.PortsHold.{PortsHold}
use Rattle.share_laws.proofs.NoLoop.{shared_no_loop}
use Rattle.share_laws.proofs.NothingLeft.{left_apart, left_live}
use Rattle.share_laws.proofs.OneShared.{one_known, one_shared}
use Rattle.share_laws.proofs.OwnShares.{own_shares}
use Rattle.share_laws.proofs.SharedApart.{shared_apart, shared_live}
use Rattle.share_laws.proofs.Soundness.{shared_sound}
use Rattle.share_laws.proofs.laws.shared_shares_itself.Goals as goal

pub returns : goal.returns
returns c = record {
  nothing = λ flat sound nothing. own_shares flat sound (left_apart flat nothing) (left_live flat sound nothing);
  itself = λ flat shared sound no_loop hold s.
      own_shares shared (shared_sound flat shared sound s) (shared_apart flat shared sound no_loop hold s) (shared_live flat shared sound no_loop hold s);
  no_other = λ flat shared other sound no_loop hold s t.
      one_shared shared (shared_sound flat shared sound s)
      (shared_no_loop flat shared sound no_loop (λ w a b k l. one_known flat sound no_loop hold w a b k l) s)
      (subst (λ (ports : Ports). PortsHold ports) (sym s.ports) hold) other shared t
      (own_shares shared (shared_sound flat shared sound s) (shared_apart flat shared sound no_loop hold s) (shared_live flat shared sound no_loop hold s));
}
