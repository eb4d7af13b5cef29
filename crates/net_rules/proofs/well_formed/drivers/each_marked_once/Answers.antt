use Rattle.std.proofs.Common.{subst}
use Rattle.std.proofs.lemmas.Bool.Decides.{Decides-like}
use Rattle.std.specs.Bool.{Decides}
use Rattle.netlist.specs.Sound.{EachOnce}
use Rattle.net_rules.specs.WellFormed.{wire_driven_at}
use Rattle.net_rules.proofs.EachItem.{refused}
use Rattle.net_rules.proofs.Marking.{marks_from_once, once_from_marks}
use Rattle.net_rules.proofs.well_formed.drivers.each_marked_once.Goals as goal

pub returns-then-not-mark_all : goal.returns-then-not-mark_all
returns-then-not-mark_all c = refused c.if-not-mark_all.ensures.no

pub returns : goal.returns
returns c =
    let i = c.args.inputs in
    let d = c.args.driven.now in
    let new = c.mark_all.new.marks in
    let m = c.if-not-mark_all.ensures.yes in
    subst (λ n. Decides c.all_marked.result (EachOnce i n (wire_driven_at d))) c.mark_all.auto.marks
    (Decides-like c.all_marked.result (once_from_marks i d new m) (marks_from_once i d new m) c.all_marked.ensures)
