use Rattle.std.proofs.Common.{ap, sym, ◌∙◌, Some}
use Rattle.chw_typing.proofs.PartChildren.{element_there, no_element}
use Rattle.chw_typing.proofs.finding.element.Goals as goal

pub returns-then-at-elements : goal.returns-then-at-elements
returns-then-at-elements c =
    element_there c.args.elements.now c.args.i c.index-elements-at.result c.if-at-elements.true ∙ ap Some (sym c.index-elements-at.is)

pub returns-else-at-elements : goal.returns-else-at-elements
returns-else-at-elements c = no_element c.args.elements.now c.args.i c.if-at-elements.false
