use Rattle.std.proofs.Common.{◌≡◌, ◌<◌, length, ◌∙◌, arith}
use Rattle.std.proofs.lemmas.Grind.{common_steps}
use Rattle.stimulus.specs.Texts.{texts}
use Rattle.blif_read.specs.Shown.{lines_left}
use Rattle.blif_read.proofs.Joining.{line_skipped, line_there}
use Rattle.blif_read.proofs.lines.next_line.Goals as goal

pub returns-then-not-is_empty-clause-some : goal.returns-then-not-is_empty-clause-some
returns-then-not-is_empty-clause-some c =
    let words = c.in_ok-words.words in
    let some : 0 < length words.items = grind (arith, common_steps) in
    line_there (lines_left c.args.left) (lines_left c.loop-rest.rest) (lines_left c.in_ok-words.behind) c.loop-rest.rest.number words.items c.loop-rest.invariant.lines
    c.in_ok-words.ensures.lines some

pub loop-rest-preserved : goal.loop-rest-preserved
loop-rest-preserved c =
    let words = c.in_ok-words.words in
    let none : length words.items ≡ 0 = grind (arith, common_steps) in
    record {
      lines = line_skipped (lines_left c.args.left) (lines_left c.loop-rest.rest) (lines_left c.in_ok-words.behind) c.loop-rest.rest.number words.items
          c.loop-rest.invariant.lines c.in_ok-words.ensures.lines none;
      end = omega (arith, c.in_ok-words.ensures.end, c.loop-rest.invariant.end);
      shorter = omega (arith, c.in_ok-words.ensures.shorter, c.loop-rest.invariant.shorter);
    }
