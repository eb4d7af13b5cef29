use Rattle.specialise.proofs.Lifting.{no_values, some_values, none_valued_at}
use Rattle.specialise.proofs.Lifting.{counted_lambdas, lambdas_counted}
use Rattle.specialise.proofs.lifted.has_lambda_each.Goals as goal

pub returns-in_default : goal.returns-in_default
returns-in_default c = (
  λ t. absurd cc,
  λ l. absurd (no_values c.args.datas.now c.args.ty.now c.in_ok-count.field-0 c.in_default.not-Some
      c.in_ok-count.ensures l.0 l.1),
)

pub returns-then-count-eq0 : goal.returns-then-count-eq0
returns-then-count-eq0 c =
    let datas = c.args.datas.now in
    let t = c.args.ty.now in
    let answer = some_values datas t c.in_ok-count.field-0 c.in-Some.count c.in-Some.is
    c.in_ok-count.ensures in (
      λ t. absurd cc,
      λ l. absurd (none_valued_at datas t c.in-Some.count answer c.if-count-eq0.true l.0 l.1 l.2),
    )

pub returns : goal.returns
returns c =
    let datas = c.args.datas.now in
    let t = c.args.ty.now in
    let g = c.args.function.now in
    let answer = some_values datas t c.in_ok-count.field-0 c.in-Some.count c.in-Some.is
    c.in_ok-count.ensures in (
      λ yes. lambdas_counted datas t g c.in-Some.count answer c.if-count-eq0.false
          (c.has_lambdas.ensures.0 yes),
      λ l. c.has_lambdas.ensures.1
          (counted_lambdas datas t g c.in-Some.count answer l.0 l.1 l.3),
    )
