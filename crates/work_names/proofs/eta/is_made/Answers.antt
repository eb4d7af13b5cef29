use Rattle.std.proofs.Common.{◌↔◌, IsTrue, subst, sym}
use Rattle.rewriting.specs.Shapes.{IsMade}
use Rattle.work_names.proofs.Shapes.{bare_name_tells, other_name}
use Rattle.work_names.proofs.eta.is_made.Goals as goal

pub returns-in-Made : goal.returns-in-Made
returns-in-Made c =
    let args = c.term.inside.args in
    subst (λ e. IsTrue c.is_empty.result ↔ IsMade e) c.term.view_is
    (bare_name_tells c.term.inside.head c.in-Made.field-0 args.items args.len c.is_empty.result c.in-Made.is args.ok.0 c.is_empty.ensures)

pub returns-in_default : goal.returns-in_default
returns-in_default c =
    (λ t. absurd cc, λ k. absurd (other_name c.term.inside.head c.term.inside.args.items c.in_default.not-Made (subst IsMade (sym c.term.view_is) k)))
