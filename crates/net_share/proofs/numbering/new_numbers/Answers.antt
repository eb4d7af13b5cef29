use Rattle.std.proofs.Common.{◌≡◌, ◌+◌, get_or, Some, slice_get, refl, arith}
use Rattle.std.proofs.lemmas.Option.{slice_get-get_or}
use Rattle.net_share.proofs.Numbers.{number_fits, numbered_first, numbered_next}
use Rattle.net_share.proofs.numbering.new_numbers.Goals as goal

pub loop-k-init : goal.loop-k-init
loop-k-init c =
    numbered_first c.args.inputs c.args.count c.args.kept.now c.in_ok-numbers.numbers.items c.requires.inputs c.in_ok-numbers.ensures.count
    c.in_ok-numbers.ensures.own

pub overflow_cast-number : goal.overflow_cast-number
overflow_cast-number c =
    let fits = number_fits c.args.inputs c.args.count c.loop-k.k c.args.kept.now c.requires.rises c.requires.inputs c.requires.below c.loop-k-test.true in
    omega (arith, fits)

pub overflow_add-number : goal.overflow_add-number
overflow_add-number c =
    let fits = number_fits c.args.inputs c.args.count c.loop-k.k c.args.kept.now c.requires.rises c.requires.inputs c.requires.below c.loop-k-test.true in
    omega (arith, fits)

pub index_mut-requires : goal.index_mut-requires
index_mut-requires c =
    let kept = c.args.kept.now in
    let k = c.loop-k.k in
    let below = c.requires.below (get_or kept k 0) (k, slice_get-get_or kept k 0 c.loop-k-test.true) in
    omega (arith, below, c.loop-k.invariant.count)

pub loop-k-preserved : goal.loop-k-preserved
loop-k-preserved c =
    let kept = c.args.kept.now in
    let k = c.loop-k.k in
    let at : slice_get kept k ≡ Some (get_or kept k 0) = slice_get-get_or kept k 0 c.loop-k-test.true in
    numbered_next c.args.inputs c.args.count k (get_or kept k 0) (k + 1) kept c.loop-k.numbers.items _ c.requires.rises at
    (c.requires.below (get_or kept k 0) (k, at)) refl c.loop-k.invariant refl

pub returns : goal.returns
returns c =
    let l = c.loop-k in
    record {
      count = l.invariant.count;
      own = l.invariant.own;
      next = λ k w m at. l.invariant.next k w (omega (arith, m, c.loop-k-test.false)) at;
    }
