use Rattle.std.proofs.Common.{◌≡◌, ◌<◌, ◌+◌, length, refl, arith}
use Rattle.std.proofs.lemmas.Grind.{common_steps}
use Rattle.stimulus.specs.Texts.{lines_of}
use Rattle.blif_read.proofs.Joining.{counted_end, counted_next, rest_shorter}
use Rattle.blif_read.proofs.lines.line_count.Goals as goal

pub loop-behind-smaller : goal.loop-behind-smaller
loop-behind-smaller c =
    let some : 0 < length c.loop-behind.rest.text.now = grind (arith, common_steps) in
    rest_shorter c.loop-behind.rest.text.now c.first_line.result.1.now some c.first_line.ensures.rest

pub loop-behind-preserved : goal.loop-behind-preserved
loop-behind-preserved c =
    let rest = c.loop-behind.rest in
    let some : 0 < length rest.text.now = grind (arith, common_steps) in
    let shorter = rest_shorter rest.text.now c.first_line.result.1.now some c.first_line.ensures.rest in
    record {
      lines = counted_next rest.text.now c.first_line.result.1.now rest.number (length (lines_of c.args.text.now)) (rest.number + 1) some c.first_line.ensures.rest
          c.loop-behind.invariant.lines refl;
      fits = omega (arith, c.loop-behind.invariant.fits);
    }

pub returns : goal.returns
returns c =
    let rest = c.loop-behind.rest in
    let none : length rest.text.now ≡ 0 = grind (arith, common_steps) in
    counted_end rest.text.now rest.number (length (lines_of c.args.text.now)) none c.loop-behind.invariant.lines
