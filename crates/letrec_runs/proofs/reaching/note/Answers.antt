use Rattle.std.proofs.Common.{◌∙◌, ◌-◌, ap, refl, arith}
use Rattle.letrec_runs.proofs.Reached.{noted}
use Rattle.letrec_runs.proofs.reaching.note.Goals as goal

pub returns : goal.returns
returns c = λ g e r s.
    let old = c.args.search.now in
    let v = c.args.number in
    let count = c.len-count.ensures ∙ old.marks.ok.0 in
    noted old _ g e v (c.len-count.result - 1 - v) (omega (arith, c.if-count-number.false, count)) (ap (λ n. n - 1 - v) count) refl c.in_ok-push.ensures.items r s
