use Rattle.std.proofs.lemmas.Bool.Decides.{not_from_Decides}
use Rattle.chw_typing.specs.Programs.{setting_of}
use Rattle.chw_check.specs.Fits.{DataFits}
use Rattle.chw_check.proofs.EachItem.{item_at, before_next, before_all}
use Rattle.chw_check.proofs.UnkindedFound.{data_found}
use Rattle.chw_check.proofs.kinds.first.first_data.Goals as goal

pub returns-then-not-data_fits : goal.returns-then-not-data_fits
returns-then-not-data_fits c =
    let p = c.args.program.now in
    let l = c.loop-place in
    let here = item_at c.as_slice-datas.result.now p.datas l.place c.index-datas-place.result _ c.as_slice-datas.ensures c.loop-place-test.true c.index-datas-place.is in
    data_found p (record { number = c.in_ok-number.number }) l.place c.index-datas-place.result c.in_ok-number.ensures.narrow here (not_from_Decides c.data_fits.result c.data_fits.ensures c.if-not-data_fits.true) l.invariant

pub loop-place-preserved : goal.loop-place-preserved
loop-place-preserved c =
    let p = c.args.program.now in
    let l = c.loop-place in
    let here = item_at c.as_slice-datas.result.now p.datas l.place c.index-datas-place.result _ c.as_slice-datas.ensures c.loop-place-test.true c.index-datas-place.is in
    before_next (DataFits (setting_of p)) p.datas l.place c.index-datas-place.result here l.invariant (c.data_fits.ensures.0 c.if-not-data_fits.false)

pub returns : goal.returns
returns c =
    let p = c.args.program.now in
    before_all (DataFits (setting_of p)) c.as_slice-datas.result.now p.datas c.loop-place.place c.as_slice-datas.ensures c.loop-place-test.false c.loop-place.invariant
