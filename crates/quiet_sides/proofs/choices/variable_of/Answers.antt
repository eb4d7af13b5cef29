use Rattle.std.proofs.Common.{refl}
use Rattle.chw_terms.specs.TermTree.{var}
use Rattle.chw_terms.specs.TermView.{tree_of}
use Rattle.quiet_sides.proofs.Heads.{bare, none_told, alone}
use Rattle.quiet_sides.proofs.Truths.{not_told}
use Rattle.quiet_sides.proofs.choices.variable_of.Goals as goal

pub returns-then-not-is_empty : goal.returns-then-not-is_empty
returns-then-not-is_empty c = λ n is.
    let h = c.term.inside.head in
    let args = c.term.inside.args in
    let some = not_told c.is_empty.result _ c.if-not-is_empty.true (none_told args.items args.len c.is_empty.result args.ok.0 c.is_empty.ensures) in
    some (alone (tree_of h) (var n) args.items c.args.term.now (bare h) (record { itself = refl; alone = refl }) c.term.view_is is)
