use Rattle.chw_layout.proofs.Recalling.{remembered}
use Rattle.chw_layout.proofs.remembered.remember.Goals as goal

pub returns : goal.returns
returns c = remembered c.args.known.now.items c.push.new.self.items (record { at = c.args.at; outs = c.args.outs; outcome = c.args.outcome }) c.in_ok-push.ensures.items
