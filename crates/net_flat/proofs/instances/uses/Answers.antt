use Rattle.std.proofs.Common.{◌≡◌, ℕ, ◌+◌, [], ◌∷◌, ◌++◌, length, map, Some, slice_get, ap, ◌∙◌, arith}
use Rattle.net_flat.specs.Flattened.{wire_from}
use Rattle.net_flat.specs.Instances.{uses_along}
use Rattle.net_flat.proofs.Lists.{item_at}
use Rattle.net_flat.proofs.Uses.{none_given, sum_next, use_given, uses_next}
use Rattle.net_flat.proofs.instances.uses.Goals as goal
use Rattle.net_flat.proofs.instances.uses.Goals.{in-Use+in_ok-reads+in_ok-push, in_default}

pub loop-cell-preserved : goal.loop-cell-preserved
loop-cell-preserved c =
    let sizes = c.args.sizes.now in
    let m = c.args.m.now in
    let cell = c.cell-item.result in
    let here : slice_get m.cells c.loop-cell.cell-index ≡ Some cell =
    item_at c.as_slice-cell-items.result.now m.cells c.loop-cell.cell-index cell c.as_slice-cell-items.ensures (omega (arith, c.loop-cell-test.true)) c.cell-item.is in
    let pushed : c.match-cell.uses.items ≡ c.loop-cell.uses.items ++ uses_along sizes c.args.base c.loop-cell.next (cell ∷ []) =
    elim c.match-cell.branch [
      | in-Use+in_ok-reads+in_ok-push w ↦
          let moved : w.in_ok-reads.reads ≡ map (wire_from c.args.base) w.in-Use.reads =
          w.in_ok-reads.ensures ∙ ap (map (wire_from c.args.base)) w.as_slice.ensures in
          let is : c.match-cell.uses.items ≡ w.push.new.self.items = ap (λ u. u.items) w.uses-is in
          is ∙ w.in_ok-push.ensures.items
          ∙ use_given sizes c.args.base c.loop-cell.next cell w.in-Use.module w.in-Use.reads w.in-Use.field-2 w.in_ok-reads.reads c.loop-cell.uses.items w.in-Use.is moved
      | in_default w ↦
          let is : c.match-cell.uses.items ≡ c.loop-cell.uses.items = ap (λ u. u.items) w.uses-is in
          is ∙ none_given sizes c.args.base c.loop-cell.next cell c.loop-cell.uses.items w.in_default.not-Use
    ] in
    record {
      so_far = uses_next sizes c.args.base (c.args.base + length m.widths) c.loop-cell.next m.cells c.loop-cell.cell-index cell
          c.loop-cell.uses.items c.match-cell.uses.items here c.loop-cell.invariant.so_far c.loop-cell.invariant.at pushed;
      at = ap (λ (n : ℕ). c.loop-cell.next + n) c.size_of_use-next.ensures ∙ sum_next sizes (c.args.base + length m.widths) c.loop-cell.next m.cells c.loop-cell.cell-index cell here c.loop-cell.invariant.at;
    }
