use Rattle.std.proofs.Common.{ap, ◌∙◌}
use Rattle.type_ports.specs.RowsFound.{fits}
use Rattle.type_ports.proofs.RowMade.{told}
use Rattle.type_ports.proofs.representation.representable_by.Goals as goal

pub returns-clause-told : goal.returns-clause-told
returns-clause-told c =
    told c.args.datas.now c.settle.new.rows.items c.in_ok-settle.ensures.table.table.right c.args.t.now c.in_ok-settle.ensures.settled c.ask.result (c.ask.ensures.fits ∙ ap (λ rows. fits rows 0 c.args.t.now) c.deref.ensures.value)
