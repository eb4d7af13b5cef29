-- What functions that lead from ports to a port lead from and to.
use Rattle.std.proofs.Common.{◌≡◌, ◌∙◌, sym, subst, List}
use Rattle.std.proofs.lemmas.Option.{same_Some}
use Rattle.chw_types.specs.declared.declarations.Data.{Data}
use Rattle.chw_types.specs.TypeTree.{TypeTree, fun}
use Rattle.type_ports.specs.declared.ports.Leaf.{Leaf}
use Rattle.type_ports.specs.Ports.{one_leaf, leaves_of_fields, IsPort}
use Rattle.chw_terms.specs.declared.program.Def.{Def}
use Rattle.chw_terms.specs.declared.program.Program.{Program}
use Rattle.chw_meaning.specs.Means.{LeadsFrom, leads_to, leads_from}
use Rattle.net_built.specs.Terms.{result_of}
use Rattle.net_build.specs.Ports.{HasEnds, HasSomePorts, IsTopOf}

-- the parameter is a port, and what is behind it leads from ports to a port
pub past_parameter : {datas : List Data} {a b : TypeTree} {ins outs : List Leaf} → LeadsFrom datas (fun a b) ins outs → IsPort datas a × HasEnds datas b
past_parameter (leads_to are) = elim are [ ]
past_parameter (leads_from {ls = ls} {ins = ins} {outs = outs} are rest) = ((ls, are), (ins, outs, rest))

-- the same of a type that is a function
pub parameter_of : (datas : List Data) (t a b : TypeTree) → t ≡ fun a b → HasEnds datas t → IsPort datas a × HasEnds datas b
parameter_of datas t a b is ends = past_parameter (subst (λ u. LeadsFrom datas u ends.0 ends.1) is ends.2)

-- what it gives in the end is a port
pub result_is_port : {datas : List Data} {t : TypeTree} {ins outs : List Leaf} → LeadsFrom datas t ins outs → IsPort datas (result_of t)
result_is_port {outs = outs} (leads_to (one_leaf r)) = (outs, one_leaf r)
result_is_port {outs = outs} (leads_to (leaves_of_fields known many one are leaves)) = (outs, leaves_of_fields known many one are leaves)
result_is_port (leads_from are rest) = result_is_port rest

-- the definition of a top leads from ports to a port, if its program has ports
pub top_has_ends : (p : Program) (datas : List Data) (it : Def) → datas ≡ p.datas → IsTopOf p it → HasSomePorts p → HasEnds datas it.ty
top_has_ends p datas it same held some =
    let has = some.1 in
    let here : has.it ≡ it = same_Some has.it it (sym has.top.held ∙ held) in
    (has.ins, has.outs, subst (λ ds. LeadsFrom ds it.ty has.ins has.outs) (sym same) (subst (λ (d : Def). LeadsFrom p.datas d.ty has.ins has.outs) here has.top.leads))
