use Rattle.std.proofs.Common.{sym, ap, arith, length}
use Rattle.chw_types.specs.declared.declarations.Data.{Data}
use Rattle.data_bits.proofs.Adding.{first_more, first_at_zero}
use Rattle.data_bits.proofs.constructors.first_number.Goals as goal

pub loop-i-init : goal.loop-i-init
loop-i-init c = sym (first_at_zero c.args.datas.now)

pub loop-i-preserved : goal.loop-i-preserved
loop-i-preserved c =
    let m = first_more c.args.datas.now c.loop-i.i c.index-datas-i.result (omega (arith, c.loop-i-test.true)) c.index-datas-i.is in
    omega (arith, m, c.loop-i.invariant, c.in_ok-first.ensures, c.len.ensures, ap (λ (d : Data). length d.cons) c.index-datas-i.is)
