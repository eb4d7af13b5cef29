use Rattle.std.proofs.Common.{rules}
use Rattle.std.specs.Cmp.{booleans_Decides}
use Rattle.std.proofs.lemmas.Slice.Eq.{slice_eq-Decides}
use Rattle.chw_bits.proofs.bits.BitsPartialEq.eq.Goals as goal

pub returns-clause-same : goal.returns-clause-same
returns-clause-same c =
    slice_eq-Decides booleans_Decides c.args.self.now c.args.other.now c.eq.result (search rules)
