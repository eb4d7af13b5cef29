use Rattle.chw_terms.specs.Occurs.{occurs}
use Rattle.chw_terms.specs.Sought.{NoneBefore, occurs_in, occurs_in_binding, occurs_in_alt}
use Rattle.chw_terms.proofs.occurrence.+occurs_at.Given as goal

abbrev pub invariant-occurs_at-loop-a : goal.invariant-occurs_at-loop-a
invariant-occurs_at-loop-a l = NoneBefore occurs_in l.a-items l.a-index l.v

abbrev pub invariant-occurs_in_head-loop-b : goal.invariant-occurs_in_head-loop-b
invariant-occurs_in_head-loop-b l = NoneBefore occurs_in_binding l.b-items l.b-index l.inner

abbrev pub invariant-occurs_in_head-loop-e : goal.invariant-occurs_in_head-loop-e
invariant-occurs_in_head-loop-e l = NoneBefore occurs l.e-items l.e-index l.v

abbrev pub invariant-occurs_in_head-loop-a : goal.invariant-occurs_in_head-loop-a
invariant-occurs_in_head-loop-a l = NoneBefore occurs_in_alt l.a-items l.a-index l.v
