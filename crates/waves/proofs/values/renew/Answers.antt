use Rattle.std.proofs.Common.{[], length, ap, ◌∙◌, arith}
use Rattle.std.proofs.lemmas.List.{get_or_default}
use Rattle.waves.proofs.Tables.{as_many, renewed, renewed_width}
use Rattle.waves.proofs.values.renew.Goals as goal

pub bounds-values-k : goal.bounds-values-k
bounds-values-k c =
    let many = as_many c.args.new.now c.args.values.now c.requires in
    omega (arith, many)

pub put_list-requires : goal.put_list-requires
put_list-requires c =
    let l = c.loop-k in
    let new = c.args.new.now in
    let made = c.as_slice.ensures.value ∙ c.index-new-k.is ∙ get_or_default new l.k _ [] c.loop-k-test.true in
    ap length made ∙ renewed_width new c.args.values.now l.values l.k _ c.loop-k-test.true c.requires l.invariant

pub loop-k-preserved : goal.loop-k-preserved
loop-k-preserved c =
    let l = c.loop-k in
    let new = c.args.new.now in
    let made = c.as_slice.ensures.value ∙ c.index-new-k.is ∙ get_or_default new l.k _ [] c.loop-k-test.true in
    renewed new c.args.values.now l.values l.k _ c.loop-k-test.true (as_many new c.args.values.now c.requires) l.invariant (c.put_list.ensures ∙ made)
