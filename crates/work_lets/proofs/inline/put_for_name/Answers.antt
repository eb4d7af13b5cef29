use Rattle.std.proofs.Common.{◌≡◌, ◌∙◌, ◌++◌, ap, subst, IfOk, map}
use Rattle.work_lets.specs.Inlined.{put_in}
use Rattle.work_lets.proofs.Inlined.{put_for_name_is}
use Rattle.work_lets.proofs.inline.put_for_name.Goals as goal

pub returns : goal.returns
returns c =
    let n = c.args.at.number in
    let a = c.args.term.now in
    let front = c.args.front.now in
    let back = c.args.back.now in
    let first = c.in_ok-put_in_each.ensures ∙ ap (λ g. g ++ map (put_in n a) front) c.new-group.ensures.items in
    let all = c.in_ok-put_in_each-2.ensures ∙ ap (λ g. g ++ map (put_in n a) back) first in
    subst (λ y. IfOk c.or_body.result (λ e. e ≡ y))
    (put_for_name_is front back c.put_in_each-2.new.group.items c.args.body.now c.in_ok-body.body a n all c.in_ok-body.ensures)
    c.or_body.ensures
