use Rattle.std.proofs.Common.{sym, subst}
use Rattle.net_built.specs.Memories.{HasBits}
use Rattle.circuit_build.proofs.ConstantBits.{bits_alone}
use Rattle.circuit_build.proofs.constants.constant_bits.Goals as goal

pub returns-clause-bits : goal.returns-clause-bits
returns-clause-bits c =
    let datas = c.args.base.now.datas in
    subst (HasBits datas c.args.t.now c.args.e.now) (sym c.of_list.ensures)
    (bits_alone datas c.args.t.now c.args.e.now c.new-bits.result.items c.add_bits.new.into.items c.new-bits.ensures.items c.in_ok-add_bits.ensures.bits)
