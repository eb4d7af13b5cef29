use Rattle.std.proofs.Common.{◌++◌, ap, sym, ◌∙◌, subst}
use Rattle.chw_types.specs.Polynomials.{coefficient, ended}
use Rattle.chw_types.specs.NormalSums.{IsNormal}
use Rattle.chw_types.specs.SummandView.{sum_of}
use Rattle.chw_types.proofs.NormalForms.{taken_first, taken_second, taken_agrees, taken_shorter}
use Rattle.chw_types.proofs.SummandsTaken.{summands_pushed}
use Rattle.chw_types.proofs.polynomial.merged.Goals as goal

pub loop-s-smaller : goal.loop-s-smaller
loop-s-smaller c = taken_shorter _ _ _ _ _ c.in-Some.ensures.taken

pub loop-s-preserved : goal.loop-s-preserved
loop-s-preserved c =
    let more = summands_pushed c.loop-s.done.items c.push.new.self.items c.in-Some.s c.in_ok-push.ensures.items in
    record {
      first = subst (λ d. IsNormal (d ++ sum_of c.least.new.p.items)) (sym more) (taken_first (sum_of c.loop-s.done.items) _ _ _ _ _ c.in-Some.ensures.taken c.loop-s.invariant.first c.loop-s.invariant.second);
      second = subst (λ d. IsNormal (d ++ sum_of c.least.new.q.items)) (sym more) (taken_second (sum_of c.loop-s.done.items) _ _ _ _ _ c.in-Some.ensures.taken c.loop-s.invariant.first c.loop-s.invariant.second);
      sum = λ m. ap (λ d. ended (coefficient (d ++ (sum_of c.least.new.p.items ++ sum_of c.least.new.q.items)) m)) more ∙ taken_agrees (sum_of c.loop-s.done.items) _ _ _ _ _ _ c.in-Some.ensures.taken c.loop-s.invariant.sum m;
    }
