use Rattle.std.proofs.Common.{◌≡◌, ◌+◌, ◌<◌, ◌++◌, length, take, sym, ap, ◌∙◌, arith}
use Rattle.std.proofs.lemmas.List.{length-set, take_all}
use Rattle.chw_bits.specs.Bits.{bits_of}
use Rattle.chw_bits.proofs.Numbers.{length-bits_of}
use Rattle.net_sim.proofs.PartBits.{laid_more}
use Rattle.net_sim.proofs.room.lay_number.Goals as goal

pub loop-i-preserved : goal.loop-i-preserved
loop-i-preserved c =
    let l = c.loop-i in
    let bits = bits_of c.args.width c.args.n in
    let within : l.i < length bits = omega (arith, length-bits_of c.args.width c.args.n) in (
      laid_more l.room c.args.room.now bits c.args.at l.i c.bit_at.result within (omega (arith, l.invariant.1)) l.invariant.0 c.bit_at.ensures,
      length-set l.room _ c.bit_at.result ∙ l.invariant.1,
    )

pub returns : goal.returns
returns c =
    let l = c.loop-i in
    let bits = bits_of c.args.width c.args.n in
    let end : l.i ≡ c.args.width = omega arith in
    let whole : take l.i bits ≡ bits = take_all l.i bits (omega (arith, length-bits_of c.args.width c.args.n)) in
    ap (λ n. take n l.room) (ap (λ i. c.args.at + i) (sym end)) ∙ l.invariant.0 ∙ ap (λ more. take c.args.at c.args.room.now ++ more) whole
