use Rattle.chw_terms.specs.References.{DataRefers, DefRefers}
use Rattle.data_kinds.proofs.Cycling.{leads_back}
use Rattle.data_kinds.proofs.laws.a_cycle_leads_back.Goals as goal

pub returns : goal.returns
returns c = record {
  datas = λ datas nodes cycle. leads_back (DataRefers datas) nodes cycle;
  definitions = λ defs nodes cycle. leads_back (DefRefers defs) nodes cycle;
}
