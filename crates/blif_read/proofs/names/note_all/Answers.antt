use Rattle.std.proofs.Common.{ℕ, List, refl, subst, arith}
use Rattle.std.specs.Borrow.{Bor}
use Rattle.std.proofs.lemmas.List.{take_all}
use Rattle.stimulus.specs.Texts.{texts}
use Rattle.blif_read.specs.Naming.{HasAlso}
use Rattle.blif_read.proofs.Tables.{also_next, also_none}
use Rattle.blif_read.proofs.names.note_all.Goals as goal

pub loop-name-init : goal.loop-name-init
loop-name-init c = also_none c.args.table.now

pub loop-name-preserved : goal.loop-name-preserved
loop-name-preserved c =
    let l = c.loop-name in
    also_next c.args.table.now l.table c.declare.new.self c.args.names.now l.name-index _ _ c.loop-name-test.true refl l.invariant c.in_ok-declare.ensures.names

pub returns : goal.returns
returns c =
    let l = c.loop-name in
    subst (λ (ns : List (Bor (List ℕ))). HasAlso c.args.table.now (texts ns) l.table) (take_all l.name-index c.args.names.now (omega (arith, c.loop-name-test.false))) l.invariant
