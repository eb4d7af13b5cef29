use Rattle.std.proofs.Common.{sym, ◌∙◌}
use Rattle.wire_classes.proofs.Copying.{copy_held, copy_merged, copy_none}
use Rattle.wire_classes.proofs.copies.copy_step.Goals as goal

pub copied_by-requires-clause-has : goal.copied_by-requires-clause-has
copied_by-requires-clause-has c = (c.args.place, c.cell_at-cell.ensures)

pub returns-in_default : goal.returns-in_default
returns-in_default c = record {
  none = copy_none c.args.flat.now c.args.of.now c.args.known.now c.args.values.now c.requires.found c.args.place c.cell_at-cell.result.now
      c.cell_at-cell.ensures (sym c.copied_by.ensures ∙ c.in_default.is);
  some = tt;
}

pub returns-then-label : goal.returns-then-label
returns-then-label c = record {
  none = copy_held c.args.flat.now c.args.of.now c.args.known.now c.args.values.now c.requires.found c.args.place c.wire_at-w.result
      c.cell_at-cell.result.now c.in-Some.a c.cell_at-cell.ensures c.wire_at-w.ensures (sym c.copied_by.ensures ∙ c.in-Some.is)
      (sym c.label.ensures ∙ c.if-label.true ∙ c.label-2.ensures);
  some = tt;
}

pub returns : goal.returns
returns c = record {
  none = tt;
  some = copy_merged c.args.flat.now c.args.of.now c.args.known.now c.args.values.now c.requires.found c.args.place c.wire_at-w.result
      c.cell_at-cell.result.now c.in-Some.a c.cell_at-cell.ensures c.wire_at-w.ensures (sym c.copied_by.ensures ∙ c.in-Some.is)
      (λ e. c.if-label.false (c.label.ensures ∙ e ∙ sym c.label-2.ensures));
}
