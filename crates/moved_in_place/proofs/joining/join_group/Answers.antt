use Rattle.std.proofs.Common.{◌≡◌, ◌≤◌, ◌∙◌, length, sym, subst, arith, true, false}
use Rattle.std.proofs.lemmas.List.{take_all}
use Rattle.std.proofs.lemmas.Result.{on_ok_weaker}
use Rattle.chw_terms.specs.TermView.{group_of}
use Rattle.rewriting.specs.Shapes.{NoLetIn}
use Rattle.moved_in_place.specs.Joined.{IsFirstLet}
use Rattle.moved_in_place.proofs.JoinedLets.{alone_by_side, alone_by_body, alone_without}
use Rattle.moved_in_place.proofs.joining.join_group.Goals as goal

pub returns-then-i-len : goal.returns-then-i-len
returns-then-i-len c =
    let bs = c.args.group.now.items in
    let i = c.first_let-i.result in
    let first = subst (λ bs. IsFirstLet bs i) c.deref.ensures.value c.first_let-i.ensures in
    on_ok_weaker c.join_side.result
    (λ h. alone_by_side bs c.join_side.new.group.items i c.args.body.now c.join_side.new.body first h)
    c.join_side.ensures

pub returns-then-is_let : goal.returns-then-is_let
returns-then-is_let c =
    let bs = c.args.group.now.items in
    let i = c.first_let-i.result in
    let first = subst (λ bs. IsFirstLet bs i) c.deref.ensures.value c.first_let-i.ensures in
    let all : length bs ≤ i = omega (arith, c.if-i-len.false, c.len.ensures, c.args.group.now.ok.0) in
    let none = subst (λ xs. NoLetIn (group_of xs)) (take_all i bs all) first.first in
    on_ok_weaker c.join_body.result
    (λ h. alone_by_body (group_of bs) (group_of c.join_body.new.group.items) c.args.body.now c.join_body.new.body none h)
    c.join_body.ensures

pub returns-else-is_let : goal.returns-else-is_let
returns-else-is_let c =
    let bs = c.args.group.now.items in
    let i = c.first_let-i.result in
    let first = subst (λ bs. IsFirstLet bs i) c.deref.ensures.value c.first_let-i.ensures in
    let all : length bs ≤ i = omega (arith, c.if-i-len.false, c.len.ensures, c.args.group.now.ok.0) in
    let none = subst (λ xs. NoLetIn (group_of xs)) (take_all i bs all) first.first in
    alone_without (group_of bs) c.args.body.now _ none (λ l. let both : true ≡ false = sym (c.is_let.ensures.1 l) ∙ c.if-is_let.false in absurd cc)
