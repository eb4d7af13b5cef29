use Rattle.net_means.specs.NetFits.WidthLaws.{types_in}
use Rattle.rewriting.specs.Origins.{setting_at}
use Rattle.net_means.proofs.NetFits.WordSides.{prim_cells_agree, side_operands}
use Rattle.net_means.proofs.net_fits.laws.word_sides_agree.Goals as goal

pub returns : goal.returns
returns c = λ e q head on o order all earlier scope n w t k p sound scoped typed kind has form cells wide stand.
    (prim_cells_agree earlier all cells q head on
    (side_operands c.facts.ensures c.same_values.ensures (setting_at o) all (types_in scope) scope (record { same = c.facts.ensures.scopes.are_same_self (types_in scope) }) wide c.same_types_keep_layout.ensures.measure sound form scoped typed.has kind typed.same has q head on)
    stand).cells
