use Rattle.std.proofs.Common.{Some, ap, sym, ◌∙◌}
use Rattle.std.specs.Prelude.{reverse}
use Rattle.chw_typing.specs.Scopes.{setting_in}
use Rattle.term_frames.specs.Signatures.{head_type}
use Rattle.term_frames.specs.declared.signature.HeadType.{HeadType}
use Rattle.term_types.proofs.HeadsSigned.{head_kinded, kept_answered}
use Rattle.term_types.proofs.heads.of_constructor.Goals as goal

pub returns-in-Some : goal.returns-in-Some
returns-in-Some c =
    let p = c.args.scene.now.program.now in
    let s = setting_in c.args.scene.now in
    let n = c.args.at.number in
    let it = c.in-Some.it.now in
    let of = c.requires.table.kept n (Some it) c.in-Some.ensures in
    kept_answered s (reverse c.args.kinds.now) c.args.vars.now.vars n of.0 it.ty c.found_head.result c.requires.ready.0 of.1 (ap (λ (t : HeadType). t.ty) of.2)
    (head_kinded s it.ty it.kind c.found_head.result (ap (λ (t : HeadType). t.kind) of.2 ∙ ap (λ (t : HeadType). (head_type p t.ty).kind) (sym of.2)) c.found_head.ensures)
