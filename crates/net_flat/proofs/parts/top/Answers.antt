use Rattle.std.proofs.Common.{◌≡◌, ◌-◌, List, [], subst, arith}
use Rattle.chw_base.specs.declared.index.WireId.{WireId}
use Rattle.net_flat.specs.Instances.{IsPlaced, top}
use Rattle.net_flat.proofs.parts.top.Goals as goal

pub returns-clause-placed : goal.returns-clause-placed
returns-clause-placed c =
    let none : [] ≡ c.from.result = cc in
    subst (λ (rs : List WireId). IsPlaced c.args.net.now (record { «module» = record { number = c.len.result - 1 }; base = 0; reads = rs })) none
    (top (record { number = c.len.result - 1 }) (omega arith))
