use Rattle.std.proofs.Common.{◌≡◌, ◌∙◌, inr, length, sym, ap, arith}
use Rattle.active_parts.specs.Parts.{arguments_of}
use Rattle.active_parts.proofs.Spines.{all_arguments}
use Rattle.active_parts.proofs.parts.count_parts.Goals as goal

pub returns-clause-arguments : goal.returns-clause-arguments
returns-clause-arguments c i l =
    let h = c.at.inside.head in
    let args = c.at.inside.args.items in
    let all : arguments_of c.args.at.now ≡ length args = ap arguments_of (sym c.at.view_is) ∙ all_arguments h args in
    let same = ap length c.deref.ensures.value in
    inr (omega (arith, l, all, same, c.count_arguments.ensures.arguments))
