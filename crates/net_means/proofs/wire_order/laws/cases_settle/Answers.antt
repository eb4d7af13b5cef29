use Rattle.net_means.proofs.WireOrder.Cases.{one_result, results_settle, tested_settle}
use Rattle.net_means.proofs.WireOrder.Several.{looks_have_several}
use Rattle.net_means.proofs.WireOrder.Tested.{looks_settle}
use Rattle.net_means.proofs.wire_order.laws.cases_settle.Goals as goal

pub returns-clause-one : goal.returns-clause-one
returns-clause-one c = λ on alts w n p wires e. one_result on alts w n p wires e

pub returns-clause-result : goal.returns-clause-result
returns-clause-result c = λ net path on alts w n k p results wires has several count e h. results_settle net path on alts w n k p results wires has several count e h

pub returns-clause-tested : goal.returns-clause-tested
returns-clause-tested c = λ net path datas u whole wires on alts w n p results is h has several count some. tested_settle net path datas u whole wires on alts w n p results is h has several count some

pub returns-clause-looks : goal.returns-clause-looks
returns-clause-looks c = λ net path datas u whole wires on alts w n p results tested look is h has several count. looks_settle c.facts.ensures net path datas u whole wires on alts w n p results tested look is h has several count

pub returns-clause-several : goal.returns-clause-several
returns-clause-several c = λ datas alts covered is. looks_have_several c.facts.ensures datas alts covered is
