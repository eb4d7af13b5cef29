use Rattle.std.proofs.Common.{sym, subst}
use Rattle.verilog_judge.proofs.OfWires.{meant_kind, meant_literal}
use Rattle.verilog_judge.specs.Meant.{IsMeantIf}
use Rattle.verilog_judge.proofs.building.register_cell.Goals as goal

pub first_bits-requires : goal.first_bits-requires
first_bits-requires c =
    subst IsMeantIf (sym c.literal_of.ensures)
    (meant_literal c.kind_at.result (meant_kind _ _ _ _ c.as_slice.ensures c.kind_at.ensures c.requires))
