use Rattle.std.proofs.Common.{◌≡◌, ◌+◌, ◌-◌, ◌<◌, [], ◌∷◌, ◌++◌, length, take, sym, ap, ◌∙◌, arith}
use Rattle.std.proofs.lemmas.List.{length-set, take_all, take_more_set, append-nil}
use Rattle.chw_bits.specs.Bits.{bits_of}
use Rattle.chw_bits.proofs.Numbers.{bits_left}
use Rattle.chw_bits.proofs.bits.Bits.put_number.Goals as goal

pub loop-i-init : goal.loop-i-init
loop-i-init c =
    let all : c.len-width.result - 0 ≡ c.len-width.result = omega arith in
    (ap length c.self.view_is ∙ sym c.len-width.ensures, ap (λ k. bits_of k c.args.n) all)

pub loop-i-preserved : goal.loop-i-preserved
loop-i-preserved c =
    let w = c.len-width.result in
    let n = c.args.n in
    let i = c.loop-i.i in
    let items = c.loop-i.self-inside.bits.items in
    let within : i < length items = omega (arith, c.loop-i.invariant.0) in (
      length-set items i c.bit_at.result ∙ c.loop-i.invariant.0,
      ap (λ bits. bits ++ bits_of (w - (i + 1)) n) (take_more_set items i c.bit_at.result within ∙ ap (λ bit. take i items ++ bit ∷ []) c.bit_at.ensures)
          ∙ bits_left (take i items) (bits_of w n) w i n (omega arith) c.loop-i.invariant.1,
    )

pub returns : goal.returns
returns c =
    let w = c.len-width.result in
    let i = c.loop-i.i in
    let items = c.loop-i.self-inside.bits.items in
    let none : w - i ≡ 0 = omega arith in
    sym (take_all i items (omega (arith, c.loop-i.invariant.0)))
    ∙ sym (append-nil (take i items))
    ∙ ap (λ k. take i items ++ bits_of k c.args.n) (sym none)
    ∙ c.loop-i.invariant.1
    ∙ ap (λ k. bits_of k c.args.n) c.len-width.ensures
