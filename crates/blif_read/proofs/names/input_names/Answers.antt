use Rattle.std.proofs.Common.{List, subst, arith}
use Rattle.std.proofs.lemmas.List.{take_all}
use Rattle.blif_text.specs.BlifText.{Said, all_inputs, inputs_of}
use Rattle.blif_read.specs.Naming.{HasSame}
use Rattle.blif_read.specs.Shown.{all_said}
use Rattle.blif_read.specs.declared.statement.Said.{Said as ReadSaid}
use Rattle.blif_read.proofs.Tables.{noted, same_none}
use Rattle.blif_read.proofs.names.input_names.Goals as goal

pub loop-it-init : goal.loop-it-init
loop-it-init c = same_none c.new-table.result c.new-table.ensures

pub loop-it-preserved : goal.loop-it-preserved
loop-it-preserved c =
    let l = c.loop-it in
    noted (λ (it : Said). inputs_of it.says) c.args.all.now l.it-index c.it-item.result _ l.table c.note_all.new.table _ c.loop-it-test.true c.it-item.is l.invariant
    c.in_ok-note_all.ensures c.inputs_of.ensures

pub returns : goal.returns
returns c =
    let l = c.loop-it in
    subst (λ (all : List ReadSaid). HasSame (all_inputs (all_said all)) l.table) (take_all l.it-index c.args.all.now (omega (arith, c.loop-it-test.false))) l.invariant
