use Rattle.std.proofs.Common.{◌≡◌, sym, subst}
use Rattle.std.proofs.lemmas.Result.{IfOk-weaker}
use Rattle.normal_forms.specs.Normal.{IsNormal}
use Rattle.normal_forms.specs.Uses.{IsAcyclic}
use Rattle.normal_form.specs.Entries.{IsEntry}
use Rattle.netlist.specs.declared.net.Net.{Net}
use Rattle.net_rules.specs.WellFormed.{WellFormed}
use Rattle.net_built.specs.Built.{Built}
use Rattle.net_build.proofs.Nets.{of_same}
use Rattle.net_build.proofs.building.build.Goals as goal

pub built-requires-clause-entry : goal.built-requires-clause-entry
built-requires-clause-entry c =
    let n = c.args.normal.now in
    of_same IsEntry n.program c.program.result.now n.made c.made.result.now c.program.ensures.program c.made.ensures.made c.program.ensures.entry

pub built-requires-clause-normal : goal.built-requires-clause-normal
built-requires-clause-normal c =
    let n = c.args.normal.now in
    of_same IsNormal n.program c.program.result.now n.made c.made.result.now c.program.ensures.program c.made.ensures.made c.program.ensures.normal

pub built-requires-clause-acyclic : goal.built-requires-clause-acyclic
built-requires-clause-acyclic c =
    let n = c.args.normal.now in
    of_same (λ p ms. IsAcyclic ms) n.program c.program.result.now n.made c.made.result.now c.program.ensures.program c.made.ensures.made c.made.ensures.acyclic

pub returns-clause-net : goal.returns-clause-net
returns-clause-net c =
    let n = c.args.normal.now in
    IfOk-weaker c.built.result (Built c.program.result.now c.made.result.now) (Built n.program n.made)
    (λ net is. of_same (λ p ms. Built p ms net) c.program.result.now n.program c.made.result.now n.made (sym c.program.ensures.program) (sym c.made.ensures.made) is)
    c.built.ensures

pub returns-clause-well_formed : goal.returns-clause-well_formed
returns-clause-well_formed c =
    let n = c.args.normal.now in
    let normal = c.program.ensures.normal in
    let there = c.finished_states_have_nets.ensures.states n.program n.made c.program.ensures.entry normal c.made.ensures.acyclic in
    IfOk-weaker c.built.result (Built c.program.result.now c.made.result.now) WellFormed
    (λ net is.
    let here : Built n.program n.made net =
    of_same (λ p ms. Built p ms net) c.program.result.now n.program c.made.result.now n.made (sym c.program.ensures.program) (sym c.made.ensures.made) is in
    let same : there.0 ≡ net = c.one_net_built.ensures n.program n.made there.0 net normal there.1 here in
    subst (λ (it : Net). WellFormed it) same there.2)
    c.built.ensures

pub returns-clause-there : goal.returns-clause-there
returns-clause-there c =
    let n = c.args.normal.now in
    c.finished_states_have_nets.ensures.states n.program n.made c.program.ensures.entry c.program.ensures.normal c.made.ensures.acyclic
