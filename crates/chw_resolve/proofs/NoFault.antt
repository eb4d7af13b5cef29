-- A description that breaks nothing has no fault.
use Rattle.std.proofs.Common.{sym, ◌∙◌}
use Rattle.std.proofs.lemmas.Option.{none-some}
use Rattle.chw_grammar.specs.declared.program.Tree.{Tree}
use Rattle.chw_names.specs.Twices.{twices}
use Rattle.chw_names.specs.Unknowns.{unknowns}
use Rattle.chw_terms.specs.References.{DataRefers, DefRefers}
use Rattle.chw_resolve.specs.Faults.{IsCircle, of_datas, of_defs, IsNameFault, limit, twice, unknown, circle, IsWellNamed, data_types_of, definitions_of}
use Rattle.chw_resolve.specs.declared.fault.NameFault.{NameFault}
use Rattle.chw_resolve.proofs.Empty.{none_in}
use Rattle.data_kinds.proofs.Cycling.{leads_back}

no_circle : (tree : Tree) {fault : NameFault} → IsWellNamed tree → IsCircle (data_types_of tree) (definitions_of tree) fault → ⊥
no_circle tree well (of_datas cycle c least) = leads_back (DataRefers (data_types_of tree)) cycle c well.data_acyclic
no_circle tree well (of_defs cycle none c least) = leads_back (DefRefers (definitions_of tree)) cycle c well.defs_acyclic

pub no_fault : (tree : Tree) {fault : NameFault} → IsWellNamed tree → IsNameFault tree fault → ⊥
no_fault tree well (limit passed e) = none-some passed (sym well.names.limits ∙ e)
no_fault tree well (twice w within least) = none_in (twices tree) w well.names.once least.among
no_fault tree well (unknown w within once least) = none_in (unknowns tree) w well.names.known least.among
no_fault tree well (circle fault names c) = no_circle tree well c
