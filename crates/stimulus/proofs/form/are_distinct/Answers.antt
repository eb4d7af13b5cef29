use Rattle.std.proofs.lemmas.Bool.{false≢true}
use Rattle.stimulus.proofs.Lists.{name_again, name_new}
use Rattle.stimulus.proofs.form.are_distinct.Goals as goal

pub returns-then-not-branch : goal.returns-then-not-branch
returns-then-not-branch c = (
  λ e. absurd (false≢true e),
  λ distinct. absurd (name_again c.args.domains.now c.loop-domain.domain-index _ c.loop-domain.names c.before-in-loop-domain.result.now c.in_ok-declare.field-0 c.loop-domain-test.true
      c.loop-domain.invariant.0 c.before-in-loop-domain.ensures c.in_ok-declare.ensures.is_new c.if-not-branch.true distinct),
)

pub loop-domain-preserved : goal.loop-domain-preserved
loop-domain-preserved c =
    name_new c.args.domains.now c.loop-domain.domain-index _ c.loop-domain.names c.declare.new.self c.before-in-loop-domain.result.now c.in_ok-declare.field-0 c.loop-domain-test.true
    c.loop-domain.invariant.0 c.loop-domain.invariant.1 c.before-in-loop-domain.ensures c.in_ok-declare.ensures.is_new c.if-not-branch.false c.in_ok-declare.ensures.names
