use Rattle.cell_bits.proofs.DataElements.{elements_bear, indexed_element_bears}
use Rattle.cell_bits.proofs.data_laws.elements_bear_values.Goals as goal

pub returns-clause-one : goal.returns-clause-one
returns-clause-one c = λ net path h width n i behind v elements bits b wide at count has.
    elements_bear net path h width n i behind v elements bits b wide at count has

pub returns-clause-indexed : goal.returns-clause-indexed
returns-clause-indexed c = λ net path h width last k n v i elements index bits b wide count d size at has.
    indexed_element_bears net path h width last k n v i elements index bits b wide count d size at has
