use Rattle.std.proofs.Common.{◌≡◌, ◌∙◌, [], length, sym, ap, arith}
use Rattle.std.proofs.lemmas.Bool.{eqb-false}
use Rattle.chw_terms.specs.TermView.{tree_of}
use Rattle.active_parts.specs.Parts.{declares}
use Rattle.active_parts.proofs.Scoped.{declares_none}
use Rattle.active_parts.proofs.parts.group_around_parts.Goals as goal

pub returns-then-not-is_empty : goal.returns-then-not-is_empty
returns-then-not-is_empty c =
    let args = c.at.inside.args.items in
    let some = λ (none : args ≡ []).
    let empty = ap length none in
    eqb-false _ _ (sym c.is_empty.ensures ∙ c.if-not-is_empty.true) (omega (arith, empty, c.at.inside.args.ok.0)) in
    sym (ap declares (sym c.at.view_is) ∙ declares_none (tree_of c.at.inside.head) args some)
