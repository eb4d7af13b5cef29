use Rattle.std.proofs.Common.{◌<◌, [], length, ap, arith}
use Rattle.std.proofs.lemmas.List.{drop_more}
use Rattle.waves.specs.Vcd.{levels_from}
use Rattle.waves.proofs.Changing.{goes_on}
use Rattle.waves.proofs.values.levels_of.Goals as goal

pub loop-domain-preserved : goal.loop-domain-preserved
loop-domain-preserved c =
    let l = c.loop-domain in
    let ports = c.args.ports.now in
    let within : l.domain < length ports.domains = omega (arith, c.len-domain-end.ensures, c.loop-domain-test.true) in
    goes_on l.levels.items _ _ _ _ _ c.in_ok-put_domain_levels.ensures
    (ap (levels_from ports c.args.risen c.args.event.now l.domain) (drop_more ports.domains l.domain [] within)) l.invariant
