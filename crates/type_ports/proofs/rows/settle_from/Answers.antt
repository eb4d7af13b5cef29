use Rattle.std.proofs.Common.{◌≡◌, ◌<◌, ◌++◌, ◌∷◌, length, arith, sym, ap, ◌∙◌, subst, []}
use Rattle.std.specs.Prelude.{reverse, Some, None}
use Rattle.std.specs.List.{slice_get}
use Rattle.std.proofs.lemmas.List.{length-append, nil_from_length}
use Rattle.chw_types.specs.declared.declarations.Data.{Data}
use Rattle.chw_types.specs.Arguments.{all_fields}
use Rattle.type_ports.specs.RowsFound.{unknown_rows, unknown_among}
use Rattle.type_ports.specs.RowsRight.{IsRowOf}
use Rattle.type_ports.proofs.Settling.{Working, first_below, began, top_below, top_has_row, next_unknown, next_below, went_on, went_back, fewer_unknown, opened_count, ended}
use Rattle.type_ports.proofs.rows.settle_from.Goals as goal

pub set_row-requires : goal.set_row-requires
set_row-requires c = subst (λ n. c.args.first < n) (sym c.args.rows.now.ok.0) (first_below c.args.datas.now c.args.rows.now.items c.args.first c.requires.table c.requires.first)

pub loop-top-init : goal.loop-top-init
loop-top-init c = (
  (λ order. began c.args.datas.now order c.args.rows.now.items c.set_row.new.rows.items c.args.first c.push.new.self.items c.requires.table c.requires.first c.set_row.ensures (c.in_ok-push.ensures.items ∙ ap (λ s. s ++ c.args.first ∷ []) c.new-stack.ensures.items)),
  (let e = opened_count c.args.rows.now.items c.args.first c.requires.first in omega (arith, ap unknown_rows c.set_row.ensures)),
)

pub unknown_part-requires : goal.unknown_part-requires
unknown_part-requires c = top_below c.args.datas.now c.requires.order.place c.loop-top.rows.items c.loop-top.stack.items c.pop.new.self.items c.in-Some.top c.in-Some.ensures.items (c.loop-top.invariant.0 c.requires.order)

pub set_row-requires-in-Some-unknown_part : goal.set_row-requires-in-Some-unknown_part
set_row-requires-in-Some-unknown_part c =
    let l = top_below c.args.datas.now c.requires.order.place c.loop-top.rows.items c.loop-top.stack.items c.pop.new.self.items c.in-Some.top c.in-Some.ensures.items (c.loop-top.invariant.0 c.requires.order) in
    let f = subst (λ rows. (it : Data) → slice_get c.args.datas.now c.in-Some.top ≡ Some it → Some c.in-Some-unknown_part.next ≡ unknown_among rows (all_fields it.cons)) c.deref.ensures.value c.in-Some-unknown_part.ensures in
    subst (λ n. c.in-Some-unknown_part.next < n) (sym c.loop-top.rows.ok.0) (next_below c.args.datas.now c.loop-top.rows.items c.in-Some.top c.in-Some-unknown_part.next l f)

pub row_at-requires : goal.row_at-requires
row_at-requires c = top_below c.args.datas.now c.requires.order.place c.loop-top.rows.items c.loop-top.stack.items c.pop.new.self.items c.in-Some.top c.in-Some.ensures.items (c.loop-top.invariant.0 c.requires.order)

pub set_row-requires-in-None : goal.set_row-requires-in-None
set_row-requires-in-None c =
    subst (λ n. c.in-Some.top < n) (sym c.loop-top.rows.ok.0) (top_has_row c.args.datas.now c.requires.order.place c.loop-top.rows.items c.loop-top.stack.items c.pop.new.self.items c.in-Some.top c.in-Some.ensures.items (c.loop-top.invariant.0 c.requires.order))

pub loop-top-preserved : goal.loop-top-preserved
loop-top-preserved c =
    let l = top_below c.args.datas.now c.requires.order.place c.loop-top.rows.items c.loop-top.stack.items c.pop.new.self.items c.in-Some.top c.in-Some.ensures.items (c.loop-top.invariant.0 c.requires.order) in
    let f = subst (λ rows. (it : Data) → slice_get c.args.datas.now c.in-Some.top ≡ Some it → None ≡ unknown_among rows (all_fields it.cons)) c.deref.ensures.value c.in-None.ensures in
    let g = subst (λ rows. (it : Data) → slice_get c.args.datas.now c.in-Some.top ≡ Some it → IsRowOf rows it c.in_ok-row-in-None.row) c.deref-in-None.ensures.value c.in_ok-row-in-None.ensures in
    let fewer = fewer_unknown c.args.datas.now c.loop-top.rows.items c.in-Some.top c.in_ok-row-in-None.row l g in (
      (λ order. went_back c.args.datas.now order c.loop-top.rows.items c.set_row-in-None.new.rows.items c.loop-top.stack.items c.pop.new.self.items c.in-Some.top c.in_ok-row-in-None.row c.in-Some.ensures.items (c.loop-top.invariant.0 order) f g c.set_row-in-None.ensures),
      omega (arith, ap unknown_rows c.set_row-in-None.ensures, fewer, c.loop-top.invariant.1),
    )

pub loop-top-smaller : goal.loop-top-smaller
loop-top-smaller c =
    let l = top_below c.args.datas.now c.requires.order.place c.loop-top.rows.items c.loop-top.stack.items c.pop.new.self.items c.in-Some.top c.in-Some.ensures.items (c.loop-top.invariant.0 c.requires.order) in
    let g = subst (λ rows. (it : Data) → slice_get c.args.datas.now c.in-Some.top ≡ Some it → IsRowOf rows it c.in_ok-row-in-None.row) c.deref-in-None.ensures.value c.in_ok-row-in-None.ensures in
    let fewer = fewer_unknown c.args.datas.now c.loop-top.rows.items c.in-Some.top c.in_ok-row-in-None.row l g in
    omega (arith, ap unknown_rows c.set_row-in-None.ensures, fewer, ap length c.in-Some.ensures.items ∙ length-append c.pop.new.self.items (c.in-Some.top ∷ []))

pub loop-top-preserved-in-Some-unknown_part : goal.loop-top-preserved-in-Some-unknown_part
loop-top-preserved-in-Some-unknown_part c =
    let l = top_below c.args.datas.now c.requires.order.place c.loop-top.rows.items c.loop-top.stack.items c.pop.new.self.items c.in-Some.top c.in-Some.ensures.items (c.loop-top.invariant.0 c.requires.order) in
    let f = subst (λ rows. (it : Data) → slice_get c.args.datas.now c.in-Some.top ≡ Some it → Some c.in-Some-unknown_part.next ≡ unknown_among rows (all_fields it.cons)) c.deref.ensures.value c.in-Some-unknown_part.ensures in
    let e = opened_count c.loop-top.rows.items c.in-Some-unknown_part.next (next_unknown c.args.datas.now c.loop-top.rows.items c.in-Some.top c.in-Some-unknown_part.next l f) in (
      (λ order. went_on c.args.datas.now order c.loop-top.rows.items c.set_row-in-Some-unknown_part.new.rows.items c.loop-top.stack.items c.pop.new.self.items c.push_both.new.stack.items c.in-Some.top c.in-Some-unknown_part.next c.in-Some.ensures.items (c.loop-top.invariant.0 order) f c.in_ok-push_both-in-Some-unknown_part.ensures c.set_row-in-Some-unknown_part.ensures),
      omega (arith, ap unknown_rows c.set_row-in-Some-unknown_part.ensures, e, c.loop-top.invariant.1),
    )

pub loop-top-smaller-in-Some-unknown_part : goal.loop-top-smaller-in-Some-unknown_part
loop-top-smaller-in-Some-unknown_part c =
    let l = top_below c.args.datas.now c.requires.order.place c.loop-top.rows.items c.loop-top.stack.items c.pop.new.self.items c.in-Some.top c.in-Some.ensures.items (c.loop-top.invariant.0 c.requires.order) in
    let f = subst (λ rows. (it : Data) → slice_get c.args.datas.now c.in-Some.top ≡ Some it → Some c.in-Some-unknown_part.next ≡ unknown_among rows (all_fields it.cons)) c.deref.ensures.value c.in-Some-unknown_part.ensures in
    let e = opened_count c.loop-top.rows.items c.in-Some-unknown_part.next (next_unknown c.args.datas.now c.loop-top.rows.items c.in-Some.top c.in-Some-unknown_part.next l f) in
    omega (arith, ap unknown_rows c.set_row-in-Some-unknown_part.ensures, e, ap length c.in_ok-push_both-in-Some-unknown_part.ensures ∙ length-append c.pop.new.self.items (c.in-Some.top ∷ c.in-Some-unknown_part.next ∷ []), ap length c.in-Some.ensures.items ∙ length-append c.pop.new.self.items (c.in-Some.top ∷ []))

pub returns-clause-table : goal.returns-clause-table
returns-clause-table c =
    ended c.args.datas.now c.requires.order.place c.loop-top.rows.items
    (subst (λ s. Working c.args.datas.now c.requires.order.place c.loop-top.rows.items (reverse s)) (nil_from_length c.loop-top.stack.items (sym c.loop-top.stack.ok.0 ∙ c.in_default.ensures.cases.0)) (c.loop-top.invariant.0 c.requires.order))
