use Rattle.std.proofs.Common.{sym, ap, ◌∙◌}
use Rattle.wire_classes.specs.Closed.{mark_of}
use Rattle.wire_classes.proofs.Marking.{label_marked, wire_marked}
use Rattle.wire_classes.proofs.marks.label_step.Goals as goal

pub returns-then-mark-2 : goal.returns-then-mark-2
returns-then-mark-2 c = record {
  none = sym c.mark.ensures ∙ c.if-mark.true ∙ sym c.if-mark-2.true ∙ c.mark-then-mark.ensures ∙ ap (mark_of c.args.known.now) c.label-other.ensures;
  some = tt;
}

pub returns-then-mark : goal.returns-then-mark
returns-then-mark c = record {
  none = tt;
  some = label_marked c.args.flat.now c.args.of.now c.args.known.now c.args.values.now c.requires.found c.args.w c.label-other.result c.requires.within
      c.label-other.ensures (sym c.mark.ensures ∙ c.if-mark.true) (sym c.mark-then-mark.ensures ∙ c.if-mark-2.false);
}

pub returns-then-mark-3 : goal.returns-then-mark-3
returns-then-mark-3 c = record {
  none = tt;
  some = wire_marked c.args.flat.now c.args.of.now c.args.known.now c.args.values.now c.requires.found c.args.w c.label-other.result c.requires.within
      c.label-other.ensures (sym c.mark.ensures ∙ c.if-mark.false) (sym c.mark-2.ensures ∙ c.if-mark-3.true);
}

pub returns : goal.returns
returns c = record {
  none = sym c.mark.ensures ∙ c.if-mark.false ∙ sym c.if-mark-3.false ∙ c.mark-2.ensures ∙ ap (mark_of c.args.known.now) c.label-other.ensures;
  some = tt;
}
