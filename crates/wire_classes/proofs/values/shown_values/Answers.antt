use Rattle.std.proofs.Common.{◌≡◌, [], ◌∷◌, length, sym, ap, subst, ◌∙◌}
use Rattle.std.proofs.lemmas.Result.{IfOk-weaker}
use Rattle.chw_clock.specs.Histories.{HaveWidths}
use Rattle.net_sim.specs.Stepping.{ShowsValues}
use Rattle.netlist.specs.Orders.{HasNoLoop}
use Rattle.netlist.specs.declared.net.Flat.{Flat}
use Rattle.wire_classes.specs.Closed.{ShowsKnown}
use Rattle.wire_classes.specs.Partition.{table_of}
use Rattle.wire_classes.proofs.Shown.{shows_known}
use Rattle.wire_classes.proofs.values.shown_values.Goals as goal

pub inputs-requires-clause-widths : goal.inputs-requires-clause-widths
inputs-requires-clause-widths c =
    subst (λ (flat : Flat). HaveWidths flat.ports.inputs c.in_ok-event.event.inputs) (sym c.in_ok-sim.ensures.net) c.in_ok-event.ensures.0.inputs

pub all_bits-requires-clause-count : goal.all_bits-requires-clause-count
all_bits-requires-clause-count c =
    c.len.ensures ∙ ap (λ (flat : Flat). length flat.widths) (sym c.in_ok-sim.ensures.net ∙ sym c.inputs.ensures.net)

pub returns : goal.returns
returns c =
    let flat = c.args.flat.now in
    let event = c.in_ok-event.event in
    let sim = c.inputs.new.self in
    let sound = c.requires.sound in
    let net : sim.flat.now ≡ flat = c.inputs.ensures.net ∙ c.in_ok-sim.ensures.net in
    let none : HasNoLoop flat = λ cycle loop. c.an_order_excludes_loops.ensures flat c.args.order.now.cells cycle sound c.requires.order loop in
    let shows : ShowsValues flat (table_of sim) (event ∷ []) =
    subst (λ (f : Flat). ShowsValues f (table_of sim) (event ∷ [])) net (c.inputs.ensures.values [] c.in_ok-sim.ensures.past) in
    let shown : ShowsKnown flat (table_of sim) =
    shows_known flat event (table_of sim) sound (λ h w a b x y. c.a_wire_has_one_value.ensures flat h w a b sound x y)
    (λ w bits k. c.same_wires_are_as_wide.ensures.known flat w bits sound k)
    (λ w bits k. c.same_wires_have_one_value.ensures.known flat (event ∷ []) w bits sound none c.in_ok-event.ensures k)
    (c.inputs.ensures.table.widths ∙ ap (λ (f : Flat). f.widths) net) shows in
    IfOk-weaker c.all_bits.result (λ v. v.items ≡ table_of sim) (λ v. ShowsKnown flat v.items) (λ v is. subst (ShowsKnown flat) (sym is) shown)
    c.all_bits.ensures
