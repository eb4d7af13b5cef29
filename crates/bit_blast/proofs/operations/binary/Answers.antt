use Rattle.std.proofs.Common.{◌∙◌, sym, arith}
use Rattle.netlist.specs.declared.net.Flat.{Flat}
use Rattle.netlist.specs.declared.net.Op2.TheVariants.{Add, Sub, Mul, And, Or, Xor, Eq, LtU, LtS, Shl, Shr, Sar}
use Rattle.std.proofs.lemmas.Option.{get_or_from_slice_get, slice_get_within}
use Rattle.bit_laws.specs.Blast.{binary_nodes, word}
use Rattle.bit_blast.specs.Names.{lowest}
use Rattle.bit_blast.proofs.Widths.{as_wide, every_then, words_of}
use Rattle.bit_blast.proofs.operations.binary.Goals as goal

pub product-requires-clause-some : goal.product-requires-clause-some
product-requires-clause-some c =
    let f = rw c.in-Mul.is at c.requires.fits in
    c.width_of-width.ensures.some (slice_get_within c.args.flat.now.widths c.args.a.number f.0 f.3)

pub product-requires-clause-within : goal.product-requires-clause-within
product-requires-clause-within c =
    let f = rw c.in-Mul.is at c.requires.fits in
    omega (arith, f.1, c.width_of-width.ensures.width, get_or_from_slice_get c.args.flat.now.widths c.args.a.number f.0 0 f.3)

pub less_signed-requires-clause-some : goal.less_signed-requires-clause-some
less_signed-requires-clause-some c =
    let f = rw c.in-LtS.is at c.requires.fits in
    c.width_of-width.ensures.some (slice_get_within c.args.flat.now.widths c.args.a.number f.1.0 f.1.1)

pub shift_left-requires-clause-some : goal.shift_left-requires-clause-some
shift_left-requires-clause-some c =
    let f = rw c.in-Shl.is at c.requires.fits in
    c.width_of-width.ensures.some (slice_get_within c.args.flat.now.widths c.args.a.number f.1.0 f.1.2)

pub shift_right-requires-clause-some : goal.shift_right-requires-clause-some
shift_right-requires-clause-some c =
    let f = rw c.in-Shr.is at c.requires.fits in
    c.width_of-width.ensures.some (slice_get_within c.args.flat.now.widths c.args.a.number f.1.0 f.1.2)

pub signed_shift_right-requires-clause-some : goal.signed_shift_right-requires-clause-some
signed_shift_right-requires-clause-some c =
    let f = rw c.in-Sar.is at c.requires.fits in
    c.width_of-width.ensures.some (slice_get_within c.args.flat.now.widths c.args.a.number f.1.0 f.1.2)

pub returns-in-Add : goal.returns-in-Add
returns-in-Add c =
    let flat = c.args.flat.now in
    let w = c.args.w in
    let a = c.args.a in
    let b = c.args.b in
    let n = c.width_of-width.result in
    let m = c.width_of-amount.result in
    let wide = c.width_of-width.ensures.width in
    let f = rw c.in-Add.is at c.requires.fits in
    rw c.in-Add.is
    (every_then c.sum.result flat c.args.nodes.now.items c.sum.new.nodes.items
    (λ (flat : Flat). binary_nodes Add w.number (lowest flat w.number n) (lowest flat a.number n) (lowest flat b.number n))
    (binary_nodes Add w.number (word flat w.number) (word flat a.number) (word flat b.number))
    (words_of flat (λ ws xs ys. binary_nodes Add w.number ws xs ys) w.number a.number b.number n n n
    (wide ∙ as_wide flat a.number w.number f.0 f.3 f.2) wide (wide ∙ as_wide flat a.number b.number f.0 f.3 f.4))
    c.sum.ensures)

pub returns-in-Sub : goal.returns-in-Sub
returns-in-Sub c =
    let flat = c.args.flat.now in
    let w = c.args.w in
    let a = c.args.a in
    let b = c.args.b in
    let n = c.width_of-width.result in
    let m = c.width_of-amount.result in
    let wide = c.width_of-width.ensures.width in
    let f = rw c.in-Sub.is at c.requires.fits in
    rw c.in-Sub.is
    (every_then c.difference.result flat c.args.nodes.now.items c.difference.new.nodes.items
    (λ (flat : Flat). binary_nodes Sub w.number (lowest flat w.number n) (lowest flat a.number n) (lowest flat b.number n))
    (binary_nodes Sub w.number (word flat w.number) (word flat a.number) (word flat b.number))
    (words_of flat (λ ws xs ys. binary_nodes Sub w.number ws xs ys) w.number a.number b.number n n n
    (wide ∙ as_wide flat a.number w.number f.0 f.3 f.2) wide (wide ∙ as_wide flat a.number b.number f.0 f.3 f.4))
    c.difference.ensures)

pub returns-in-Mul : goal.returns-in-Mul
returns-in-Mul c =
    let flat = c.args.flat.now in
    let w = c.args.w in
    let a = c.args.a in
    let b = c.args.b in
    let n = c.width_of-width.result in
    let m = c.width_of-amount.result in
    let wide = c.width_of-width.ensures.width in
    let f = rw c.in-Mul.is at c.requires.fits in
    rw c.in-Mul.is
    (every_then c.product.result flat c.args.nodes.now.items c.product.new.nodes.items
    (λ (flat : Flat). binary_nodes Mul w.number (lowest flat w.number n) (lowest flat a.number n) (lowest flat b.number n))
    (binary_nodes Mul w.number (word flat w.number) (word flat a.number) (word flat b.number))
    (words_of flat (λ ws xs ys. binary_nodes Mul w.number ws xs ys) w.number a.number b.number n n n
    (wide ∙ as_wide flat a.number w.number f.0 f.3 f.2) wide (wide ∙ as_wide flat a.number b.number f.0 f.3 f.4))
    c.product.ensures)

pub returns-in-And : goal.returns-in-And
returns-in-And c =
    let flat = c.args.flat.now in
    let w = c.args.w in
    let a = c.args.a in
    let b = c.args.b in
    let n = c.width_of-width.result in
    let m = c.width_of-amount.result in
    let wide = c.width_of-width.ensures.width in
    let f = rw c.in-And.is at c.requires.fits in
    rw c.in-And.is
    (every_then c.on_both.result flat c.args.nodes.now.items c.on_both.new.nodes.items
    (λ (flat : Flat). binary_nodes And w.number (lowest flat w.number n) (lowest flat a.number n) (lowest flat b.number n))
    (binary_nodes And w.number (word flat w.number) (word flat a.number) (word flat b.number))
    (words_of flat (λ ws xs ys. binary_nodes And w.number ws xs ys) w.number a.number b.number n n n
    (wide ∙ as_wide flat a.number w.number f.0 f.2 f.1) wide (wide ∙ as_wide flat a.number b.number f.0 f.2 f.3))
    c.on_both.ensures)

pub returns-in-Or : goal.returns-in-Or
returns-in-Or c =
    let flat = c.args.flat.now in
    let w = c.args.w in
    let a = c.args.a in
    let b = c.args.b in
    let n = c.width_of-width.result in
    let m = c.width_of-amount.result in
    let wide = c.width_of-width.ensures.width in
    let f = rw c.in-Or.is at c.requires.fits in
    rw c.in-Or.is
    (every_then c.on_both-in-Or.result flat c.args.nodes.now.items c.on_both-in-Or.new.nodes.items
    (λ (flat : Flat). binary_nodes Or w.number (lowest flat w.number n) (lowest flat a.number n) (lowest flat b.number n))
    (binary_nodes Or w.number (word flat w.number) (word flat a.number) (word flat b.number))
    (words_of flat (λ ws xs ys. binary_nodes Or w.number ws xs ys) w.number a.number b.number n n n
    (wide ∙ as_wide flat a.number w.number f.0 f.2 f.1) wide (wide ∙ as_wide flat a.number b.number f.0 f.2 f.3))
    c.on_both-in-Or.ensures)

pub returns-in-Xor : goal.returns-in-Xor
returns-in-Xor c =
    let flat = c.args.flat.now in
    let w = c.args.w in
    let a = c.args.a in
    let b = c.args.b in
    let n = c.width_of-width.result in
    let m = c.width_of-amount.result in
    let wide = c.width_of-width.ensures.width in
    let f = rw c.in-Xor.is at c.requires.fits in
    rw c.in-Xor.is
    (every_then c.on_both-in-Xor.result flat c.args.nodes.now.items c.on_both-in-Xor.new.nodes.items
    (λ (flat : Flat). binary_nodes Xor w.number (lowest flat w.number n) (lowest flat a.number n) (lowest flat b.number n))
    (binary_nodes Xor w.number (word flat w.number) (word flat a.number) (word flat b.number))
    (words_of flat (λ ws xs ys. binary_nodes Xor w.number ws xs ys) w.number a.number b.number n n n
    (wide ∙ as_wide flat a.number w.number f.0 f.2 f.1) wide (wide ∙ as_wide flat a.number b.number f.0 f.2 f.3))
    c.on_both-in-Xor.ensures)

pub returns-in-Eq : goal.returns-in-Eq
returns-in-Eq c =
    let flat = c.args.flat.now in
    let w = c.args.w in
    let a = c.args.a in
    let b = c.args.b in
    let n = c.width_of-width.result in
    let m = c.width_of-amount.result in
    let wide = c.width_of-width.ensures.width in
    let f = rw c.in-Eq.is at c.requires.fits in
    rw c.in-Eq.is
    (every_then c.equal.result flat c.args.nodes.now.items c.equal.new.nodes.items
    (λ (flat : Flat). binary_nodes Eq w.number (lowest flat w.number 1) (lowest flat a.number n) (lowest flat b.number n))
    (binary_nodes Eq w.number (word flat w.number) (word flat a.number) (word flat b.number))
    (words_of flat (λ ws xs ys. binary_nodes Eq w.number ws xs ys) w.number a.number b.number 1 n n
    (sym (get_or_from_slice_get flat.widths w.number 1 0 f.0)) wide (wide ∙ as_wide flat a.number b.number f.1.0 f.1.1 f.1.2))
    c.equal.ensures)

pub returns-in-LtU : goal.returns-in-LtU
returns-in-LtU c =
    let flat = c.args.flat.now in
    let w = c.args.w in
    let a = c.args.a in
    let b = c.args.b in
    let n = c.width_of-width.result in
    let m = c.width_of-amount.result in
    let wide = c.width_of-width.ensures.width in
    let f = rw c.in-LtU.is at c.requires.fits in
    rw c.in-LtU.is
    (every_then c.less.result flat c.args.nodes.now.items c.less.new.nodes.items
    (λ (flat : Flat). binary_nodes LtU w.number (lowest flat w.number 1) (lowest flat a.number n) (lowest flat b.number n))
    (binary_nodes LtU w.number (word flat w.number) (word flat a.number) (word flat b.number))
    (words_of flat (λ ws xs ys. binary_nodes LtU w.number ws xs ys) w.number a.number b.number 1 n n
    (sym (get_or_from_slice_get flat.widths w.number 1 0 f.0)) wide (wide ∙ as_wide flat a.number b.number f.1.0 f.1.1 f.1.2))
    c.less.ensures)

pub returns-in-LtS : goal.returns-in-LtS
returns-in-LtS c =
    let flat = c.args.flat.now in
    let w = c.args.w in
    let a = c.args.a in
    let b = c.args.b in
    let n = c.width_of-width.result in
    let m = c.width_of-amount.result in
    let wide = c.width_of-width.ensures.width in
    let f = rw c.in-LtS.is at c.requires.fits in
    rw c.in-LtS.is
    (every_then c.less_signed.result flat c.args.nodes.now.items c.less_signed.new.nodes.items
    (λ (flat : Flat). binary_nodes LtS w.number (lowest flat w.number 1) (lowest flat a.number n) (lowest flat b.number n))
    (binary_nodes LtS w.number (word flat w.number) (word flat a.number) (word flat b.number))
    (words_of flat (λ ws xs ys. binary_nodes LtS w.number ws xs ys) w.number a.number b.number 1 n n
    (sym (get_or_from_slice_get flat.widths w.number 1 0 f.0)) wide (wide ∙ as_wide flat a.number b.number f.1.0 f.1.1 f.1.2))
    c.less_signed.ensures)

pub returns-in-Shl : goal.returns-in-Shl
returns-in-Shl c =
    let flat = c.args.flat.now in
    let w = c.args.w in
    let a = c.args.a in
    let b = c.args.b in
    let n = c.width_of-width.result in
    let m = c.width_of-amount.result in
    let wide = c.width_of-width.ensures.width in
    let f = rw c.in-Shl.is at c.requires.fits in
    rw c.in-Shl.is
    (every_then c.shift_left.result flat c.args.nodes.now.items c.shift_left.new.nodes.items
    (λ (flat : Flat). binary_nodes Shl w.number (lowest flat w.number n) (lowest flat a.number n) (lowest flat b.number m))
    (binary_nodes Shl w.number (word flat w.number) (word flat a.number) (word flat b.number))
    (words_of flat (λ ws xs ys. binary_nodes Shl w.number ws xs ys) w.number a.number b.number n n m
    (wide ∙ as_wide flat a.number w.number f.1.0 f.1.2 f.1.1) wide (c.width_of-amount.ensures.width))
    c.shift_left.ensures)

pub returns-in-Shr : goal.returns-in-Shr
returns-in-Shr c =
    let flat = c.args.flat.now in
    let w = c.args.w in
    let a = c.args.a in
    let b = c.args.b in
    let n = c.width_of-width.result in
    let m = c.width_of-amount.result in
    let wide = c.width_of-width.ensures.width in
    let f = rw c.in-Shr.is at c.requires.fits in
    rw c.in-Shr.is
    (every_then c.shift_right.result flat c.args.nodes.now.items c.shift_right.new.nodes.items
    (λ (flat : Flat). binary_nodes Shr w.number (lowest flat w.number n) (lowest flat a.number n) (lowest flat b.number m))
    (binary_nodes Shr w.number (word flat w.number) (word flat a.number) (word flat b.number))
    (words_of flat (λ ws xs ys. binary_nodes Shr w.number ws xs ys) w.number a.number b.number n n m
    (wide ∙ as_wide flat a.number w.number f.1.0 f.1.2 f.1.1) wide (c.width_of-amount.ensures.width))
    c.shift_right.ensures)

pub returns-in-Sar : goal.returns-in-Sar
returns-in-Sar c =
    let flat = c.args.flat.now in
    let w = c.args.w in
    let a = c.args.a in
    let b = c.args.b in
    let n = c.width_of-width.result in
    let m = c.width_of-amount.result in
    let wide = c.width_of-width.ensures.width in
    let f = rw c.in-Sar.is at c.requires.fits in
    rw c.in-Sar.is
    (every_then c.signed_shift_right.result flat c.args.nodes.now.items c.signed_shift_right.new.nodes.items
    (λ (flat : Flat). binary_nodes Sar w.number (lowest flat w.number n) (lowest flat a.number n) (lowest flat b.number m))
    (binary_nodes Sar w.number (word flat w.number) (word flat a.number) (word flat b.number))
    (words_of flat (λ ws xs ys. binary_nodes Sar w.number ws xs ys) w.number a.number b.number n n m
    (wide ∙ as_wide flat a.number w.number f.1.0 f.1.2 f.1.1) wide (c.width_of-amount.ensures.width))
    c.signed_shift_right.ensures)
