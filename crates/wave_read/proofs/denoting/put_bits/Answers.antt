use Rattle.std.proofs.Common.{◌==◌, [], ◌∷◌, ◌++◌, get_or, sym, ap, ◌∙◌, arith}
use Rattle.std.proofs.lemmas.List.{length-set, map_more, take_all, take_more_set}
use Rattle.wave_read.specs.Shown.{bits_of}
use Rattle.wave_read.proofs.denoting.put_bits.Goals as goal

pub loop-k-preserved : goal.loop-k-preserved
loop-k-preserved c =
    let l = c.loop-k in
    let digits = c.args.digits.now in
    let bit = get_or digits l.k 0 == 49 in
    record {
      made =
          take_more_set l.bits l.k bit (omega (arith, l.invariant.count)) ∙ ap (λ front. front ++ bit ∷ []) l.invariant.made
          ∙ sym (map_more (λ digit. digit == 49) digits l.k 0 c.loop-k-test.true);
      count = length-set l.bits l.k bit ∙ l.invariant.count;
    }

pub returns : goal.returns
returns c =
    let l = c.loop-k in
    sym (take_all l.k l.bits (omega (arith, l.invariant.count, c.loop-k-test.false))) ∙ l.invariant.made
    ∙ ap bits_of (take_all l.k c.args.digits.now (omega (arith, c.loop-k-test.false)))
