use Rattle.std.proofs.Common.{◌∙◌, ◌+◌, sym, length}
use Rattle.con_places.specs.Constructing.{constructor_of}
use Rattle.work_operands.proofs.Counted.{constructor_asks}
use Rattle.work_operands.proofs.counts.asked_for_of.Goals as goal

pub returns : goal.returns
returns c =
    (λ i. length (c.as_slice-params.ensures i) + length (c.as_slice-fields.ensures i))
    ∙ sym (constructor_asks (constructor_of c.args.it.now))
