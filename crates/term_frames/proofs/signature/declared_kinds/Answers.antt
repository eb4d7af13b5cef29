use Rattle.std.proofs.Common.{arith, length, [], map, ap, ◌∙◌}
use Rattle.chw_types.specs.KindFound.{kind_found}
use Rattle.chw_terms.specs.declared.program.Def.{Def}
use Rattle.seen_types.proofs.EachItem.{mapped_next, mapped_all}
use Rattle.term_frames.proofs.signature.declared_kinds.Goals as goal

pub loop-it-preserved : goal.loop-it-preserved
loop-it-preserved c =
    let p = c.args.program.now in
    let l = c.loop-it in
    mapped_next (λ (d : Def). kind_found p.datas (length p.domains) [] d.ty) c.as_slice-it-items.result.now l.kinds.items c.push.new.self.items l.it-index c.it-item.result _ c.closed_kind.result c.loop-it-test.true c.it-item.is l.invariant c.closed_kind.ensures c.in_ok-push.ensures.items

pub returns : goal.returns
returns c =
    let p = c.args.program.now in
    let l = c.loop-it in
    mapped_all (λ (d : Def). kind_found p.datas (length p.domains) [] d.ty) c.as_slice-it-items.result.now l.kinds.items l.it-index (omega (arith, c.loop-it-test.false)) l.invariant
    ∙ ap (map (λ (d : Def). kind_found p.datas (length p.domains) [] d.ty)) c.as_slice-it-items.ensures
