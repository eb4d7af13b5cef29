use Rattle.chw_check.proofs.LeavesCounted.{single_counts, fields_count}
use Rattle.chw_check.proofs.counting.look_at.Goals as goal

pub returns-in-Single-clause-some : goal.returns-in-Single-clause-some
returns-in-Single-clause-some c =
    let form = rw c.in-Single.is at c.in_ok-look_at.ensures.form in
    single_counts c.args.table.now c.args.next.now c.in-Single.field-0 c.in-Single.field-1.now c.args.todo.now.items c.look_at.new.todo.items form.0 form.1 form.2

pub returns-in-Product-clause-some : goal.returns-in-Product-clause-some
returns-in-Product-clause-some c =
    fields_count c.args.table.now c.args.next.now c.args.todo.now.items c.look_at.new.todo.items (rw c.in-Product.is at c.in_ok-look_at.ensures.form)
