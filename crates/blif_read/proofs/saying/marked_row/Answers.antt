use Rattle.std.proofs.Common.{◌≡◌, ◌<◌, length, sym, ◌∙◌, arith}
use Rattle.std.proofs.lemmas.Bool.{false≢true}
use Rattle.std.proofs.lemmas.Grind.{common_steps}
use Rattle.stimulus.specs.Texts.{texts}
use Rattle.blif_read.proofs.Rows.{row_says, says_row}
use Rattle.blif_read.proofs.saying.marked_row.Goals as goal

pub returns-then-is_empty-clause-none : goal.returns-then-is_empty-clause-none
returns-then-is_empty-clause-none c = λ s says.
    let none : length c.args.marks.now ≡ 0 = grind (arith, common_steps) in
    let some = (row_says c.args.marks.now (texts c.args.others.now) s c.requires.word c.requires.some says).some in
    absurd (omega arith)

pub returns-then-not-is_only-clause-none : goal.returns-then-not-is_only-clause-none
returns-then-not-is_only-clause-none c = λ s says.
    false≢true (sym c.if-not-is_only.true ∙ c.is_only.ensures.1 (row_says c.args.marks.now (texts c.args.others.now) s c.requires.word c.requires.some says).one)

pub returns-then-not-are_marks-clause-none : goal.returns-then-not-are_marks-clause-none
returns-then-not-are_marks-clause-none c = λ s says.
    false≢true (sym c.if-not-are_marks.true ∙ c.are_marks.ensures.1 (row_says c.args.marks.now (texts c.args.others.now) s c.requires.word c.requires.some says).marks)

pub returns-clause-some : goal.returns-clause-some
returns-clause-some c =
    let some : 0 < length c.args.marks.now = grind (arith, common_steps) in
    says_row c.args.marks.now (texts c.args.others.now) some (c.is_only.ensures.0 c.if-not-is_only.false) (c.are_marks.ensures.0 c.if-not-are_marks.false)
