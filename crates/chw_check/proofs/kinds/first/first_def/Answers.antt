use Rattle.std.proofs.lemmas.Bool.Decides.{not_from_Decides}
use Rattle.chw_typing.specs.Programs.{setting_of}
use Rattle.chw_check.specs.Fits.{DefFits}
use Rattle.chw_check.proofs.EachItem.{item_at, before_next, before_all}
use Rattle.chw_check.proofs.UnkindedFound.{def_found}
use Rattle.chw_check.proofs.kinds.first.first_def.Goals as goal

pub returns-then-not-branch : goal.returns-then-not-branch
returns-then-not-branch c =
    let p = c.args.program.now in
    let l = c.loop-place in
    let here = item_at c.as_slice-defs.result.now p.defs l.place c.index-defs-place.result _ c.as_slice-defs.ensures c.loop-place-test.true c.index-defs-place.is in
    def_found p (record { number = c.in_ok-number.number }) l.place c.index-defs-place.result c.in_ok-number.ensures.narrow here (not_from_Decides c.in_ok-def_fits.field-0 c.in_ok-def_fits.ensures c.if-not-branch.true) l.invariant

pub loop-place-preserved : goal.loop-place-preserved
loop-place-preserved c =
    let p = c.args.program.now in
    let l = c.loop-place in
    let here = item_at c.as_slice-defs.result.now p.defs l.place c.index-defs-place.result _ c.as_slice-defs.ensures c.loop-place-test.true c.index-defs-place.is in
    before_next (DefFits (setting_of p)) p.defs l.place c.index-defs-place.result here l.invariant (c.in_ok-def_fits.ensures.0 c.if-not-branch.false)

pub returns : goal.returns
returns c =
    let p = c.args.program.now in
    before_all (DefFits (setting_of p)) c.as_slice-defs.result.now p.defs c.loop-place.place c.as_slice-defs.ensures c.loop-place-test.false c.loop-place.invariant
