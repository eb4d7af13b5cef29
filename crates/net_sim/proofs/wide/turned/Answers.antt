use Rattle.std.proofs.Common.{not, ◌∷◌, [], ◌++◌, false, get_or, sym, ap, ◌∙◌, arith}
use Rattle.std.proofs.lemmas.List.{length-set, map_more, take_more_set}
use Rattle.net_sim.proofs.wide.turned.Goals as goal

pub loop-i-preserved : goal.loop-i-preserved
loop-i-preserved c =
    let l = c.loop-i in
    let bits = c.args.bits.now in
    let bit = not (get_or bits l.i false) in (
      take_more_set l.room l.i bit (omega (arith, l.invariant.1)) ∙ ap (λ front. front ++ bit ∷ []) l.invariant.0
          ∙ sym (map_more not bits l.i false c.loop-i-test.true),
      length-set l.room l.i bit ∙ l.invariant.1,
    )
