use Rattle.chw_types.specs.SummandView.{summand_of, sum_of}
use Rattle.chw_types.proofs.SummandsTaken.{only_summand, only_normal, only_agrees}
use Rattle.chw_types.proofs.polynomial.product_by_one.Goals as goal

pub returns-in_ok-scaled-in-Some-clause-normal : goal.returns-in_ok-scaled-in-Some-clause-normal
returns-in_ok-scaled-in-Some-clause-normal c =
    only_normal (sum_of c.args.p.now) (summand_of c.in-Some.s.now) (sum_of c.args.q.now) _ (only_summand c.args.p.now c.in-Some.s.now c.requires.one c.in-Some.ensures.item.0 c.in-Some.ensures.item.1) c.requires.first c.requires.second c.in_ok-scaled-in-Some.ensures

pub returns-in_ok-scaled-in-Some-clause-product : goal.returns-in_ok-scaled-in-Some-clause-product
returns-in_ok-scaled-in-Some-clause-product c =
    only_agrees (sum_of c.args.p.now) (summand_of c.in-Some.s.now) (sum_of c.args.q.now) _ (only_summand c.args.p.now c.in-Some.s.now c.requires.one c.in-Some.ensures.item.0 c.in-Some.ensures.item.1) c.in_ok-scaled-in-Some.ensures
