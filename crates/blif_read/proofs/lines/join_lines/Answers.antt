use Rattle.std.proofs.Common.{◌≡◌, ◌<◌, ◌+◌, length, refl, arith}
use Rattle.std.proofs.lemmas.Grind.{common_steps}
use Rattle.stimulus.specs.Texts.{texts}
use Rattle.blif_read.specs.Shown.{lines_left}
use Rattle.blif_read.proofs.Joining.{joined_end, joined_ends, joined_goes, rest_shorter}
use Rattle.blif_read.proofs.lines.join_lines.Goals as goal

pub returns-then-not-goes_on-clause-lines : goal.returns-then-not-goes_on-clause-lines
returns-then-not-goes_on-clause-lines c =
    let rest = c.loop-line.rest in
    let some : 0 < length rest.text.now = grind (arith, common_steps) in
    joined_ends (lines_left c.args.left) rest.number (rest.number + 1) c.args.left.number (texts c.loop-line.words.items) (texts c.put_words.new.words.items) rest.text.now
    c.first_line.result.1.now c.first_line.result.0.now c.content.result.now c.goes_on.result c.loop-line.invariant.lines some c.first_line.ensures.line c.first_line.ensures.rest
    c.content.ensures c.in_ok-put_words.ensures c.goes_on.ensures c.if-not-goes_on.true refl

pub returns-then-not-goes_on-clause-end : goal.returns-then-not-goes_on-clause-end
returns-then-not-goes_on-clause-end c =
    let rest = c.loop-line.rest in
    let some : 0 < length rest.text.now = grind (arith, common_steps) in
    let shorter = rest_shorter rest.text.now c.first_line.result.1.now some c.first_line.ensures.rest in
    omega (arith, c.loop-line.invariant.end)

pub returns-then-not-goes_on-clause-shorter : goal.returns-then-not-goes_on-clause-shorter
returns-then-not-goes_on-clause-shorter c =
    let rest = c.loop-line.rest in
    let some : 0 < length rest.text.now = grind (arith, common_steps) in
    let shorter = rest_shorter rest.text.now c.first_line.result.1.now some c.first_line.ensures.rest in
    omega (arith, c.loop-line.invariant.shorter)

pub loop-line-smaller : goal.loop-line-smaller
loop-line-smaller c =
    let some : 0 < length c.loop-line.rest.text.now = grind (arith, common_steps) in
    rest_shorter c.loop-line.rest.text.now c.first_line.result.1.now some c.first_line.ensures.rest

pub loop-line-preserved : goal.loop-line-preserved
loop-line-preserved c =
    let rest = c.loop-line.rest in
    let some : 0 < length rest.text.now = grind (arith, common_steps) in
    let shorter = rest_shorter rest.text.now c.first_line.result.1.now some c.first_line.ensures.rest in
    record {
      lines = joined_goes (lines_left c.args.left) rest.number (rest.number + 1) c.args.left.number (texts c.loop-line.words.items) (texts c.put_words.new.words.items) rest.text.now
          c.first_line.result.1.now c.first_line.result.0.now c.content.result.now c.goes_on.result c.loop-line.invariant.lines some c.first_line.ensures.line
          c.first_line.ensures.rest c.content.ensures c.in_ok-put_words.ensures c.goes_on.ensures c.if-not-goes_on.false refl;
      end = omega (arith, c.loop-line.invariant.end);
      shorter = omega (arith, c.loop-line.invariant.shorter);
    }

pub returns-clause-lines : goal.returns-clause-lines
returns-clause-lines c =
    let rest = c.loop-line.rest in
    let none : length rest.text.now ≡ 0 = grind (arith, common_steps) in
    joined_end (lines_left c.args.left) rest.number c.args.left.number (texts c.loop-line.words.items) rest.text.now c.loop-line.invariant.lines none

pub returns-clause-shorter : goal.returns-clause-shorter
returns-clause-shorter c =
    let none : length c.loop-line.rest.text.now ≡ 0 = grind (arith, common_steps) in
    omega (arith, c.requires.some)
