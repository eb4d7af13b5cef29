use Rattle.std.proofs.Common.{sym, ap, ◌∙◌}
use Rattle.type_ports.specs.RowsFound.{unknown_in}
use Rattle.type_ports.proofs.Settling.{found_unknown, whole_settled}
use Rattle.type_ports.proofs.rows.settle.Goals as goal

pub settle_from-requires-clause-first : goal.settle_from-requires-clause-first
settle_from-requires-clause-first c =
    found_unknown c.loop-first.rows.items c.args.t.now c.in-Some.first (ap (λ rows. unknown_in rows c.args.t.now) (sym c.deref.ensures.value) ∙ sym c.in-Some.ensures)

pub returns-clause-settled : goal.returns-clause-settled
returns-clause-settled c =
    whole_settled c.args.datas.now c.loop-first.rows.items c.args.t.now c.loop-first.invariant (ap (λ rows. unknown_in rows c.args.t.now) (sym c.deref.ensures.value) ∙ sym c.in_default.ensures)
