use Rattle.std.proofs.Common.{subst}
use Rattle.chw_terms.specs.TermTree.{con}
use Rattle.rewriting.specs.Origins.{setting_at}
use Rattle.net_built.specs.Bodies.{ValueCells}
use Rattle.net_built.specs.Terms.{types_of, operands_of}
use Rattle.normal_forms.specs.Values.{on_names}
use Rattle.net_means.specs.NetFits.Laws.{ground_over}
use Rattle.net_means.specs.NetFits.WidthLaws.{types_in}
use Rattle.net_means.proofs.NetFits.CircuitDrivers.{operands_then}
use Rattle.net_means.proofs.NetFits.ConstructorSides.{constructor_agrees}
use Rattle.net_means.proofs.NetFits.Shapes.{head_then, names}
use Rattle.net_means.proofs.NetFits.ValueEnds.{types_after}
use Rattle.net_means.proofs.net_fits.laws.constructor_sides_agree.Goals as goal

pub returns : goal.returns
returns c = λ d types xs o order all earlier scope n w t k p sound scoped typed kind has form cells wide stand.
    let at_head = subst (λ e. ValueCells (ground_over (setting_at o) order) scope n w e (types_of (on_names (con d) types xs)) (operands_of (on_names (con d) types xs)) p) (head_then (con d) types (names xs)) cells in
    let at_types = subst (λ ts. ValueCells (ground_over (setting_at o) order) scope n w (con d) ts (operands_of (on_names (con d) types xs)) p) (types_after (con d) types (names xs)) at_head in
    let at_terms = subst (λ es. ValueCells (ground_over (setting_at o) order) scope n w (con d) types es p) (operands_then (con d) types (names xs)) at_types in
    (constructor_agrees c.facts.ensures c.same_types_keep_layout.ensures.measure c.saturated_spines.ensures.con c.spines_are_saturated.ensures.con (setting_at o) all sound (types_in scope) scope (record { same = c.facts.ensures.scopes.are_same_self (types_in scope) }) wide
    earlier scoped t typed.type k d types xs kind typed.same has stand typed.has at_terms).cells
