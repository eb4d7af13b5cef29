use Rattle.std.proofs.Common.{◌≡◌, ◌↔◌, ◌+◌, IsTrue, arith, ap, subst}
use Rattle.chw_terms.specs.PartsFall.{arg_smaller, term_smaller}
use Rattle.chw_terms.specs.TermFalls.{applied_size}
use Rattle.chw_terms.specs.TermSize.{tree_size, terms_size, args_size}
use Rattle.chw_terms.specs.TermView.{tree_of, applied, terms_of}
use Rattle.quiet_sides.specs.Quiet.{IsWritten}
use Rattle.quiet_sides.specs.Tests.{WrittenHead}
use Rattle.quiet_sides.proofs.Tested.{written_is}
use Rattle.quiet_sides.proofs.Truths.{through}
use Rattle.quiet_sides.proofs.written.+written.Goals as goal

pub is_written-returns : goal.is_written-returns
is_written-returns t c =
    let h = c.term.inside.head in
    let args = c.term.inside.args.items in
    let r = c.is_written_head.result in
    subst (λ e. IsTrue r ↔ IsWritten e) c.term.view_is
    (through r _ _ (subst (λ xs. IsTrue r ↔ WrittenHead h xs) c.deref.ensures.value c.is_written_head.ensures) (written_is h args))

-- the calls go into parts
pub is_written-is_written_head-requires : goal.is_written-is_written_head-requires
is_written-is_written_head-requires t c =
    let h = tree_of c.term.inside.head in
    let args = c.term.inside.args.items in
    let whole : tree_size (applied h args) ≡ tree_size c.args.term.now = ap tree_size c.term.view_is in
    let all : args_size c.deref.result.now ≡ args_size args = ap args_size c.deref.ensures.value in
    (omega (arith, c.decreases, whole, all, applied_size h args), tt)

pub is_written_head-are_written-requires : goal.is_written_head-are_written-requires
is_written_head-are_written-requires t c =
    let head : tree_size (tree_of c.args.head.now) ≡ 1 = ap (λ k. tree_size (tree_of k)) c.in-Con.is in
    (omega (arith, c.decreases, head), tt)

pub is_written_head-each_is_written-requires : goal.is_written_head-each_is_written-requires
is_written_head-each_is_written-requires t c =
    let es = c.in-VecLit.elements.items in
    let head : tree_size (tree_of c.args.head.now) ≡ terms_size (terms_of es) + 2 = ap (λ k. tree_size (tree_of k)) c.in-VecLit.is in
    let all : terms_size (terms_of c.deref.result.now) ≡ terms_size (terms_of es) = ap (λ fs. terms_size (terms_of fs)) c.deref.ensures.value in
    (omega (arith, c.decreases, head, all), tt)

pub are_written-is_written_argument-requires : goal.are_written-is_written_argument-requires
are_written-is_written_argument-requires t c =
    (omega (arith, c.decreases, arg_smaller c.args.args.now c.loop-arg.arg-index c.arg-item.result _ c.loop-arg-test.true c.arg-item.is), tt)

pub each_is_written-is_written-requires : goal.each_is_written-is_written-requires
each_is_written-is_written-requires t c =
    (omega (arith, c.decreases, term_smaller c.args.elements.now c.loop-element.element-index c.element-item.result _ c.loop-element-test.true c.element-item.is), tt)
