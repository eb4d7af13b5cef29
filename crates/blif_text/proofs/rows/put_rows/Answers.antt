use Rattle.std.proofs.Common.{◌++◌, ap}
use Rattle.std.proofs.lemmas.Result.{IfOk-equal}
use Rattle.blif_text.proofs.Printing.{read_rows, written_rows}
use Rattle.blif_text.proofs.rows.put_rows.Goals as goal

pub returns-in-Written : goal.returns-in-Written
returns-in-Written c =
    IfOk-equal c.put_written.result _ _ _ c.put_written.ensures
    (ap (λ t. c.args.out.now.items ++ t) (written_rows c.args.flat.now c.args.gate c.in-Written.enable c.in-Written.place c.in-Written.at (cc)))

pub returns-in-Read : goal.returns-in-Read
returns-in-Read c =
    IfOk-equal c.put_read.result _ _ _ c.put_read.ensures
    (ap (λ t. c.args.out.now.items ++ t) (read_rows c.args.flat.now c.args.gate c.in-Read.address c.in-Read.at (cc)))
