use Rattle.std.proofs.Common.{◌≡◌, ap, sym, arith}
use Rattle.chw_grammar.specs.TypeTree.{type_forall, type_arrow, type_sum, type_product, type_named}
use Rattle.chw_grammar.specs.TypeView.{type_of, types_of}
use Rattle.chw_text.proofs.TypeForms.{type_puts, forall_puts, arrow_puts, part_puts, sum_puts, product_puts, argument_puts, named_puts}
use Rattle.chw_text.proofs.types.+put_type.Goals as goal

pub put_type-returns : goal.put_type-returns
put_type-returns t c =
    type_puts c.args.stand c.ty.view_is c.closes-closed.ensures c.in_ok-put_open.ensures c.in_ok-put_bare.ensures c.in_ok-put_close.ensures

pub put_bare-returns-in_ok-put_type-in-Forall : goal.put_bare-returns-in_ok-put_type-in-Forall
put_bare-returns-in_ok-put_type-in-Forall t c =
    let whole : type_forall c.in-Forall.variable c.in-Forall.kind c.deref.result.now ≡ type_of c.args.node.now = rw (c.deref.ensures) (ap type_of (sym c.in-Forall.is)) in
    forall_puts whole c.in_ok-put_binder-in-Forall.ensures c.in_ok-put_kind-in-Forall.ensures c.in_ok-put_signs-in-Forall.ensures c.in_ok-put_type-in-Forall.ensures

pub put_bare-returns-in_ok-put_type-in-Arrow-2 : goal.put_bare-returns-in_ok-put_type-in-Arrow-2
put_bare-returns-in_ok-put_type-in-Arrow-2 t c =
    let whole : type_arrow c.deref-in-Arrow.result.now c.deref-in-Arrow-2.result.now ≡ type_of c.args.node.now = rw (c.deref-in-Arrow.ensures, c.deref-in-Arrow-2.ensures) (ap type_of (sym c.in-Arrow.is)) in
    arrow_puts whole c.in_ok-put_type-in-Arrow.ensures c.in_ok-put_sign-in-Arrow.ensures c.in_ok-put_type-in-Arrow-2.ensures

pub put_bare-loop-i-preserved : goal.put_bare-loop-i-preserved
put_bare-loop-i-preserved t c =
    part_puts _ _ c.loop-i.i c.part-item.result c.deref-part-items.result.now c.loop-i-test.true c.part-item.is c.loop-i.invariant c.in_ok-put_before-in-Sum.ensures c.in_ok-put_type-in-Sum.ensures

pub put_bare-loop-i-2-preserved : goal.put_bare-loop-i-2-preserved
put_bare-loop-i-2-preserved t c =
    part_puts _ _ c.loop-i-2.i c.part-item-in-loop-i-2.result c.deref-part-items-in-Product.result.now c.loop-i-2-test.true c.part-item-in-loop-i-2.is c.loop-i-2.invariant c.in_ok-put_before-in-Product.ensures c.in_ok-put_type-in-Product.ensures

pub put_bare-loop-argument-preserved : goal.put_bare-loop-argument-preserved
put_bare-loop-argument-preserved t c =
    argument_puts c.loop-argument.argument-index c.argument-item.result c.deref-argument-items.result.now c.loop-argument-test.true c.argument-item.is c.loop-argument.invariant c.in_ok-put_type-in-Named.ensures

pub put_bare-returns-after-loop-i : goal.put_bare-returns-after-loop-i
put_bare-returns-after-loop-i t c =
    let whole : type_sum (types_of c.deref-part-items.result.now) ≡ type_of c.args.node.now = rw (c.deref-part-items.ensures.value) (ap type_of (sym c.in-Sum.is)) in
    sum_puts c.loop-i.i c.deref-part-items.result.now whole c.loop-i.invariant (omega (arith, c.loop-i-test.false))

pub put_bare-returns-after-loop-i-2 : goal.put_bare-returns-after-loop-i-2
put_bare-returns-after-loop-i-2 t c =
    let whole : type_product (types_of c.deref-part-items-in-Product.result.now) ≡ type_of c.args.node.now = rw (c.deref-part-items-in-Product.ensures.value) (ap type_of (sym c.in-Product.is)) in
    product_puts c.loop-i-2.i c.deref-part-items-in-Product.result.now whole c.loop-i-2.invariant (omega (arith, c.loop-i-2-test.false))

pub put_bare-returns-after-loop-argument : goal.put_bare-returns-after-loop-argument
put_bare-returns-after-loop-argument t c =
    let whole : type_named c.in-Named.name (types_of c.deref-argument-items.result.now) ≡ type_of c.args.node.now = rw (c.deref-argument-items.ensures.value) (ap type_of (sym c.in-Named.is)) in
    named_puts c.loop-argument.argument-index c.deref-argument-items.result.now whole c.in_ok-put_word-in-Named.ensures c.loop-argument.invariant (omega (arith, c.loop-argument-test.false))
