use Rattle.net_share.proofs.Whole.{is_shared}
use Rattle.net_share.proofs.sharing.net_by.Goals as goal

pub returns : goal.returns
returns c =
    let plan = c.args.plan.now in
    is_shared c.args.flat.now c.args.classes.now plan.kept.items plan.names.items (record { ports = c.in_ok-ports.ports; modules = c.in_ok-modules.modules })
    c.in_ok-top.top c.requires.sound c.requires.classes c.requires.plan c.in_ok-ports.ensures c.in_ok-top.ensures c.in_ok-modules.ensures
