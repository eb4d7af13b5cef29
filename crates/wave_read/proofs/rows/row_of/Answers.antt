use Rattle.std.proofs.Common.{◌+◌, length, refl, ◌∙◌, arith}
use Rattle.wave_read.specs.Shown.{shown}
use Rattle.wave_text.specs.Words.{words_from}
use Rattle.wave_read.proofs.RowSteps.{fails_at, fails_behind, fits_more, words_more}
use Rattle.wave_read.proofs.rows.row_of.Goals as goal

pub returns-in-Err-clause-fault : goal.returns-in-Err-clause-fault
returns-in-Err-clause-fault c =
    let l = c.loop-slot in
    let end = c.args.left.at + length c.args.left.text.now in
    l.invariant.fails c.in-Err.at
    (fails_at c.args.slots.now l.slot-index _ _ (l.rest.at + length l.rest.text.now) end (words_from l.rest.at l.rest.text.now) c.in-Err.at c.loop-slot-test.true refl l.invariant.end
    c.in-Err.ensures.fault)

pub loop-slot-preserved : goal.loop-slot-preserved
loop-slot-preserved c =
    let l = c.loop-slot in
    let all = words_from c.args.left.at c.args.left.text.now in
    let end = c.args.left.at + length c.args.left.text.now in
    let read = c.in-Ok.ensures in
    let word = c.in-Ok.word in
    let behind = c.in-Ok.behind in
    record {
      words = words_more l.words.items c.push.new.self.items word all (words_from l.rest.at l.rest.text.now) (words_from behind.at behind.text.now) c.in_ok-push-in-Ok.ensures.items
          l.invariant.words read.word;
      fits = fits_more c.args.slots.now l.slot-index _ _ l.words.items c.push.new.self.items word c.loop-slot-test.true refl c.in_ok-push-in-Ok.ensures.items l.invariant.fits read.fits;
      end = read.end ∙ l.invariant.end;
      shorter = omega (arith, read.shorter, l.invariant.shorter);
      fails = λ at fails. l.invariant.fails at
          (fails_behind c.args.slots.now l.slot-index _ _ end (shown word) (words_from l.rest.at l.rest.text.now) (words_from behind.at behind.text.now) at c.loop-slot-test.true refl
          read.word read.fits fails);
    }
