use Rattle.std.specs.Prelude.{None, refl}
use Rattle.std.proofs.Common.{ap, ◌∙◌}
use Rattle.parser_parts.specs.declared.heights.Shape.{Shape}
use Rattle.parser_parts.specs.Heights.{raised}
use Rattle.parser_parts.proofs.Stand.{let_go, acted_stands, if_done}
use Rattle.parser_parts.proofs.parts.Parts.act.Goals as goal

pub returns-then-height-gt-NESTING : goal.returns-then-height-gt-NESTING
returns-then-height-gt-NESTING c =
    let_go c.args.action c.args.self.now (record { values = None; heights = c.raise.new.heights }) c.in_ok-height.height
    (c.in_ok-height.ensures.raised ∙ ap (λ (z : Shape). raised z c.args.self.now.heights) c.shape_of.ensures)
    c.in_ok-height.ensures.answer c.if-height-gt-NESTING.true refl

pub returns-else-height-gt-NESTING : goal.returns-else-height-gt-NESTING
returns-else-height-gt-NESTING c =
    if_done c.act_on.result c.act_on.ensures
    (acted_stands c.args.action c.args.self.now (record { values = c.act_on.new.values; heights = c.raise.new.heights }) c.in_ok-height.height
    (c.in_ok-height.ensures.raised ∙ ap (λ (z : Shape). raised z c.args.self.now.heights) c.shape_of.ensures)
    c.in_ok-height.ensures.answer c.if-height-gt-NESTING.false)
