use Rattle.std.proofs.Common.{sym, subst, ◌∙◌}
use Rattle.std.specs.Prelude.{MatchOption, reverse}
use Rattle.chw_types.specs.TypeTree.{TypeTree}
use Rattle.chw_typing.specs.Scopes.{HasKind, setting_in}
use Rattle.chw_typing.proofs.Settling.{settled_kinded}
use Rattle.term_spines.specs.Kinding.{LacksKind, IsWithKind}
use Rattle.seen_types.specs.declared.found.Found.{Found}
use Rattle.term_spines.proofs.Settled.{settled_told}
use Rattle.term_spines.proofs.kinding.settled.Goals as goal

pub returns-in_default : goal.returns-in_default
returns-in_default c =
    let s = setting_in c.args.scene.now in
    let kinds = reverse c.args.kinds.now in
    settled_told s kinds c.args.ty c.in_ok-less.less c.with_kind.result c.in_default.ensures c.in_ok-less.ensures.is c.in_ok-less.ensures.kind
    (subst (λ (t : TypeTree). MatchOption c.with_kind.result (LacksKind s kinds t) (λ (f : Found). IsWithKind s kinds t f)) c.made.ensures c.with_kind.ensures)

pub returns : goal.returns
returns c =
    let s = setting_in c.args.scene.now in
    let kinds = reverse c.args.kinds.now in (
      settled_kinded s kinds c.args.ty c.in-Some.kind c.in-Some.ensures ∙ sym c.made-2.ensures,
      subst (λ (t : TypeTree). HasKind s kinds t c.in-Some.kind) (sym c.made-2.ensures) c.in-Some.ensures,
    )
