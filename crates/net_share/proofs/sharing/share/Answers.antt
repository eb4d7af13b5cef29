use Rattle.std.proofs.lemmas.Result.{IfOk-weaker}
use Rattle.netlist.specs.declared.net.Net.{Net}
use Rattle.net_share.specs.Sharing.{IsShared, IsSharedNet}
use Rattle.net_share.proofs.Whole.{whole}
use Rattle.net_share.proofs.sharing.share.Goals as goal

pub shared_by-requires-clause-order : goal.shared_by-requires-clause-order
shared_by-requires-clause-order c = (c.args.order.now.cells, c.requires.order)

pub returns : goal.returns
returns c =
    let flat = c.args.flat.now in
    IfOk-weaker c.shared_by.result (λ (net : Net). IsShared flat net) (λ (net : Net). IsSharedNet flat net)
    (λ net s. whole flat net c.requires.sound (λ cycle l. c.an_order_excludes_loops.ensures flat c.args.order.now.cells cycle c.requires.sound c.requires.order l)
    c.requires.ports c.sharing_keeps_soundness.ensures.sound c.sharing_keeps_soundness.ensures.well_formed c.sharing_keeps_soundness.ensures.flat
    c.sharing_makes_no_loop.ensures s)
    c.shared_by.ensures
