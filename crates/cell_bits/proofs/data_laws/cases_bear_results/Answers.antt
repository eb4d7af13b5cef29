use Rattle.cell_bits.proofs.DataChoices.{case_bears, case_of_bears}
use Rattle.cell_bits.proofs.data_laws.cases_bear_results.Goals as goal

pub returns-clause-on_tested : goal.returns-clause-on_tested
returns-clause-on_tested c = λ net path h on alts width n k p results values tested bits b size words bear wide at taken has.
    case_bears net path h on alts width n k p results values tested bits b size words bear wide at taken has

pub returns-clause-on_whole : goal.returns-clause-on_whole
returns-clause-on_whole c = λ net path h datas t whole a on alts width n k p results values tested behind bits is b reach size words bear wide at taken has.
    case_of_bears net path h datas t whole a on alts width n k p results values tested behind bits is b reach size words bear wide at taken has
