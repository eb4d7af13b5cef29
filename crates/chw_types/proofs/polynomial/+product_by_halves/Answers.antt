use Rattle.std.proofs.Common.{◌/◌, length, arith, sym, ap, ◌∙◌, subst}
use Rattle.chw_types.specs.Polynomials.{coefficient, ended, by_each}
use Rattle.chw_types.specs.NormalSums.{IsNormal}
use Rattle.chw_types.specs.SummandView.{sum_of}
use Rattle.chw_types.proofs.NormalForms.{normal_front, normal_back, parts_agree}
use Rattle.chw_types.proofs.SummandsTaken.{parts_of}
use Rattle.chw_types.proofs.polynomial.+product_by_halves.Goals as goal

pub product_by_halves-requires : goal.product_by_halves-requires
product_by_halves-requires t c =
    let parts = parts_of c.args.p.now c.split_at.result.0.now c.split_at.result.1.now (length c.args.p.now / 2) c.split_at.ensures.front c.split_at.ensures.back in
    (omega arith, (normal_front _ (sum_of c.split_at.result.1.now) (subst IsNormal (sym parts) c.requires.first), c.requires.second))

pub product_by_halves-requires-2 : goal.product_by_halves-requires-2
product_by_halves-requires-2 t c =
    let parts = parts_of c.args.p.now c.split_at.result.0.now c.split_at.result.1.now (length c.args.p.now / 2) c.split_at.ensures.front c.split_at.ensures.back in
    (omega arith, (normal_back (sum_of c.split_at.result.0.now) _ (subst IsNormal (sym parts) c.requires.first), c.requires.second))

pub returns-clause-product : goal.returns-clause-product
returns-clause-product t c m =
    let parts = parts_of c.args.p.now c.split_at.result.0.now c.split_at.result.1.now (length c.args.p.now / 2) c.split_at.ensures.front c.split_at.ensures.back in
    parts_agree (sum_of c.split_at.result.0.now) (sum_of c.split_at.result.1.now) (sum_of c.args.q.now) (sum_of c.in_ok-left.left.items) (sum_of c.in_ok-right.right.items) _
    c.in_ok-left.ensures.product c.in_ok-right.ensures.product c.in_ok-merged.ensures.sum m
    ∙ ap (λ p. ended (coefficient (by_each p (sum_of c.args.q.now)) m)) parts
