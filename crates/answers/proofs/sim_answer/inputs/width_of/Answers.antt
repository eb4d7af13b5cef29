use Rattle.std.proofs.Common.{subst}
use Rattle.chw_base.specs.Outcome.{OfFault}
use Rattle.chw_layout.specs.Refusals.{IsRefusal}
use Rattle.data_bits.proofs.Encoded.{no_refusal}
use Rattle.answers.proofs.sim_answer.inputs.width_of.Goals as goal

pub unreachable-requires : goal.unreachable-requires
unreachable-requires c =
    no_refusal c.args.widths.now c.args.t.now c.in-Err-Fault.field-0-0 c.requires.measured
    (subst (λ r. OfFault r (IsRefusal c.args.widths.now c.args.t.now)) c.in-Err-Fault.field-0-is c.in-Err-Fault.ensures.refused)
