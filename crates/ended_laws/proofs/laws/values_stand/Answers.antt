use Rattle.ended_laws.proofs.ValueSides.{sides_stand, blocks_stand}
use Rattle.ended_laws.proofs.laws.values_stand.Goals as goal

pub returns : goal.returns
returns c =
    let names = c.names_of_modes.ensures in
    let unrolled = c.nothing_unrolls.ensures in
    record {
      side = λ o at e t named. sides_stand names.decided names.kind names.kept unrolled o named at e t;
      block = λ o at e t named. blocks_stand names.decided names.kind names.kept unrolled o named at e t;
    }
