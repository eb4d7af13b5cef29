use Rattle.std.proofs.Common.{sym, subst}
use Rattle.net_rules.specs.PortsHold.{PortsHold}
use Rattle.net_rules.specs.WellFormed.{NamesHold}
use Rattle.net_rules.specs.declared.well_formed.NetCode.TheVariants.{Name}
use Rattle.net_speed.proofs.cells_left.Goals as goal

pub cells_left_of-requires-clause-ports : goal.cells_left_of-requires-clause-ports
cells_left_of-requires-clause-ports c =
    let f = c.in-Ok.ensures.flat in
    let hold : NamesHold c.args.net.now f.place f.m = c.requires.rules f.place f.m f.top.stands Name in
    subst PortsHold (sym f.ports) (hold.top f.top.last).rules
