use Rattle.cell_bits.proofs.DataChoices.{choice_bears}
use Rattle.cell_bits.proofs.data_laws.choices_bear_results.Goals as goal

pub returns : goal.returns
returns c = λ net path h width n k tested truths results values bits have bear wide at taken has.
    choice_bears net path h width n k tested truths results values bits have bear wide at taken has
