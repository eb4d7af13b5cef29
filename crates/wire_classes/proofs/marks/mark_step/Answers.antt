use Rattle.std.proofs.Common.{sym, ◌∙◌}
use Rattle.wire_classes.proofs.Marking.{mark_held, mark_made, mark_none}
use Rattle.wire_classes.proofs.marks.mark_step.Goals as goal

pub returns-then-mark : goal.returns-then-mark
returns-then-mark c = record {
  none = mark_held c.args.flat.now c.args.of.now c.args.known.now c.args.values.now c.requires.found c.args.place c.wire_at-w.result
      c.wire_at-w.ensures (sym c.mark.ensures ∙ c.if-mark.true);
  some = tt;
}

pub returns-then-not-gives_known : goal.returns-then-not-gives_known
returns-then-not-gives_known c = record {
  none = mark_none c.args.flat.now c.args.of.now c.args.known.now c.args.values.now c.requires.found c.args.place c.cell_at.result.now
      c.cell_at.ensures (sym c.gives_known.ensures ∙ c.if-not-gives_known.true);
  some = tt;
}

pub returns : goal.returns
returns c = record {
  none = tt;
  some = mark_made c.args.flat.now c.args.of.now c.args.known.now c.args.values.now c.requires.found c.args.place c.wire_at-w.result
      c.cell_at.result.now c.cell_at.ensures c.wire_at-w.ensures (sym c.mark.ensures ∙ c.if-mark.false)
      (sym c.gives_known.ensures ∙ c.if-not-gives_known.false);
}
