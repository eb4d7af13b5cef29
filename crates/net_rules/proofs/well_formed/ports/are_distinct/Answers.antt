use Rattle.std.proofs.Common.{sym, ap, ◌∙◌, Some}
use Rattle.std.proofs.lemmas.Option.{slice_get-get_or}
use Rattle.net_rules.proofs.Distinct.{new_name, seen_again}
use Rattle.net_rules.proofs.EachItem.{refused}
use Rattle.net_rules.proofs.well_formed.ports.are_distinct.Goals as goal

pub returns-then-not-branch : goal.returns-then-not-branch
returns-then-not-branch c =
    let l = c.loop-name in
    let names = c.args.names.now in
    let here = slice_get-get_or names l.name-index _ c.loop-name-test.true ∙ ap Some (sym c.name-item.is ∙ sym c.as_slice.ensures) in
    refused (seen_again names l.known l.name-index _ c.in_ok-declare.field-0 here l.invariant.known c.in_ok-declare.ensures.is_new c.if-not-branch.true)

pub loop-name-preserved : goal.loop-name-preserved
loop-name-preserved c =
    let l = c.loop-name in
    let names = c.args.names.now in
    let here = slice_get-get_or names l.name-index _ c.loop-name-test.true ∙ ap Some (sym c.name-item.is ∙ sym c.as_slice.ensures) in
    let next = new_name names l.known c.declare.new.self l.name-index _ c.in_ok-declare.field-0 here l.invariant.known l.invariant.distinct
    c.in_ok-declare.ensures.is_new c.if-not-branch.false c.in_ok-declare.ensures.names in
    record { known = next.0; distinct = next.1 }
