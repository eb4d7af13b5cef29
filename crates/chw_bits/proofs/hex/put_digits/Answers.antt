use Rattle.std.proofs.Common.{◌≡◌, ◌-◌, ◌++◌, sym, ap, ◌∙◌, arith}
use Rattle.std.proofs.lemmas.Bool.{false≢true}
use Rattle.std.proofs.lemmas.List.{append-nil}
use Rattle.chw_bits.specs.Bits.{number_of}
use Rattle.chw_bits.specs.Hex.{hex_of}
use Rattle.chw_bits.proofs.Digits.{digits_left}
use Rattle.chw_bits.proofs.hex.put_digits.Goals as goal

pub loop-i-init : goal.loop-i-init
loop-i-init c =
    let all : c.args.count - 0 ≡ c.args.count = omega arith in
    let room = c.requires.room in
    (ap (λ k. c.args.into.now.items ++ hex_of k (number_of c.args.bits.now)) all, omega arith)

pub unreachable-requires : goal.unreachable-requires
unreachable-requires c = let room = c.loop-i.invariant.1 in false≢true (c.in-Err.ensures.succeeds (omega arith))

pub loop-i-preserved : goal.loop-i-preserved
loop-i-preserved c =
    let room = c.loop-i.invariant.1 in (
      rw (c.in-Ok.ensures.items, c.digit_at.ensures) (digits_left c.loop-i.into.items _ c.args.count c.loop-i.i (number_of c.args.bits.now) (omega arith) c.loop-i.invariant.0),
      omega (arith, c.in-Ok.ensures.len, c.in-Ok.ensures.capacity),
    )

pub returns : goal.returns
returns c =
    let n = number_of c.args.bits.now in
    let none : c.args.count - c.loop-i.i ≡ 0 = omega arith in
    sym (append-nil c.loop-i.into.items)
    ∙ ap (λ k. c.loop-i.into.items ++ hex_of k n) (sym none)
    ∙ c.loop-i.invariant.0
    ∙ ap (λ k. c.args.into.now.items ++ hex_of k n) c.requires.all
