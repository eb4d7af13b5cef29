use Rattle.std.proofs.Common.{◌-◌, ◌∙◌, ap, refl, length, Some, arith}
use Rattle.std.proofs.lemmas.Option.{slice_get_read}
use Rattle.work_lets.proofs.Searched.{noted_new}
use Rattle.work_lets.proofs.reached.note.Goals as goal

pub returns : goal.returns
returns c =
    let s = c.args.search.now in
    let v = c.args.at.number in
    let count = c.len-count.ensures ∙ s.marks.ok.0 in
    let place = c.len-count.result - 1 - v in
    let is = ap (λ n. n - 1 - v) count in
    let unset = slice_get_read s.marks.items (length s.marks.items) place c.index.result.now refl (omega (arith, c.if-count-number.false, count)) c.index.ensures ∙ ap (λ b. Some b) c.if-index.false in
    noted_new s _ v place (omega (arith, c.if-count-number.false, count)) is unset refl c.in_ok-push.ensures.items
