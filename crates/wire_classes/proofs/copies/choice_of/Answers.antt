use Rattle.std.proofs.Common.{sym, ◌∙◌}
use Rattle.wire_classes.proofs.Exact.{choice_same}
use Rattle.wire_classes.proofs.Copying.{choice_none, choice_first, choice_second}
use Rattle.wire_classes.proofs.copies.choice_of.Goals as goal

pub returns-then-label : goal.returns-then-label
returns-then-label c =
    sym (choice_same c.args.of.now c.args.known.now c.args.values.now c.args.c c.args.a c.args.b
    (sym c.label.ensures ∙ c.if-label.true ∙ c.label-2.ensures))

pub returns-then-not-mark : goal.returns-then-not-mark
returns-then-not-mark c =
    sym (choice_none c.args.of.now c.args.known.now c.args.values.now c.args.c c.args.a c.args.b
    (λ e. c.if-label.false (c.label.ensures ∙ e ∙ sym c.label-2.ensures)) (sym c.mark.ensures ∙ c.if-not-mark.true))

pub returns-then-is_one : goal.returns-then-is_one
returns-then-is_one c =
    sym (choice_first c.args.of.now c.args.known.now c.args.values.now c.args.c c.args.a c.args.b
    (λ e. c.if-label.false (c.label.ensures ∙ e ∙ sym c.label-2.ensures)) (sym c.mark.ensures ∙ c.if-not-mark.false)
    (sym c.is_one.ensures ∙ c.if-is_one.true))

pub returns-else-is_one : goal.returns-else-is_one
returns-else-is_one c =
    sym (choice_second c.args.of.now c.args.known.now c.args.values.now c.args.c c.args.a c.args.b
    (λ e. c.if-label.false (c.label.ensures ∙ e ∙ sym c.label-2.ensures)) (sym c.mark.ensures ∙ c.if-not-mark.false)
    (sym c.is_one.ensures ∙ c.if-is_one.false))
