use Rattle.std.proofs.Common.{◌≡◌, sym, ap, ◌∙◌, [], ◌∷◌, ◌++◌, map, append_assoc, append-nil, arith}
use Rattle.std.proofs.lemmas.List.{take_all}
use Rattle.term_signs.specs.declared.alphabet.Form.TheVariants.{NoBits}
use Rattle.term_signs.specs.declared.alphabet.Sign.TheVariants.{Of, Bit}
use Rattle.term_signs.proofs.Behind.{bits_next}
use Rattle.term_signs.proofs.terms.write_bits.Goals as goal

pub loop-bit-init : goal.loop-bit-init
loop-bit-init c = sym (append-nil c.args.out.now.items)

pub loop-bit-preserved : goal.loop-bit-preserved
loop-bit-preserved c =
    bits_next c.as_slice-bit-items.result.now c.loop-bit.bit-index c.args.out.now.items c.loop-bit.out.items c.push.new.self.items c.loop-bit-test.true c.loop-bit.invariant c.in_ok-push.ensures.items

pub returns : goal.returns
returns c =
    let out = c.args.out.now.items in
    let items = c.as_slice-bit-items.result.now in
    c.in_ok-push-2.ensures.items
    ∙ ap (λ xs. xs ++ Of NoBits ∷ []) (c.loop-bit.invariant ∙ ap (λ bs. out ++ map (λ b. Bit b) bs) (take_all c.loop-bit.bit-index items (omega (arith, c.loop-bit-test.false)) ∙ c.as_slice-bit-items.ensures.value))
    ∙ append_assoc out (map (λ b. Bit b) c.args.bits.now) (Of NoBits ∷ [])
