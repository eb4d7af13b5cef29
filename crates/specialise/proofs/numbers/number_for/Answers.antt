use Rattle.std.proofs.Common.{IfSome, subst}
use Rattle.made_table.specs.Held.{IsFirstOf}
use Rattle.specialise.proofs.Lifting.{no_answer}
use Rattle.specialise.proofs.numbers.number_for.Goals as goal

pub returns-in-Some : goal.returns-in-Some
returns-in-Some c =
    subst (λ r. IfSome r (λ m. IsFirstOf c.args.table.now c.args.seed.origin m.number))
    c.in-Some.is c.in_ok-number.ensures.some

pub returns : goal.returns
returns c = (
  no_answer c.in_ok-number.field-0 c.in_default.not-Some c.in_ok-number.ensures.none,
  c.len.ensures.len,
  λ i. record {
    origin = c.args.seed.origin;
    body = c.in_ok-body.ensures i;
    ty = c.args.seed.ty;
    sort = c.args.seed.sort;
  },
)
