use Rattle.chw_cli.proofs.SharedNets.{one_net_in, one_text_in}
use Rattle.chw_cli.proofs.laws.one_net_is_emitted.Goals as goal

pub returns-clause-net : goal.returns-clause-net
returns-clause-net c = one_net_in c.one_compiled.ensures c.one_shared_net.ensures

pub returns-clause-text : goal.returns-clause-text
returns-clause-text c = one_text_in c.one_compiled.ensures c.one_shared_net.ensures
