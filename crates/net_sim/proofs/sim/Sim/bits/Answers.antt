use Rattle.std.proofs.Common.{◌≡◌, length, map, ap, ◌∙◌, arith}
use Rattle.std.proofs.lemmas.Result.{IfOk-weaker}
use Rattle.net_sim.specs.Tables.{value_in}
use Rattle.net_sim.proofs.sim.Sim.bits.Goals as goal

pub bits_at-requires : goal.bits_at-requires
bits_at-requires c =
    let widths = ap (map length) c.deref.ensures.value ∙ c.requires.table.widths in
    omega (arith, ap length widths, c.requires.wire)

pub returns : goal.returns
returns c =
    IfOk-weaker c.bits_at.result (λ bits. bits ≡ value_in c.deref.result.now c.args.w.number) (λ bits. bits ≡ value_in c.args.self.now.words.items c.args.w.number)
    (λ bits is. is ∙ ap (λ words. value_in words c.args.w.number) c.deref.ensures.value) c.bits_at.ensures
