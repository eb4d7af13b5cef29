use Rattle.net_means.proofs.WireOrder.Joins.{vector_settles, constructor_settles}
use Rattle.net_means.proofs.WireOrder.Simple.{name_settles, literal_settles}
use Rattle.net_means.proofs.wire_order.laws.data_sides_settle.Goals as goal

pub returns-clause-name : goal.returns-clause-name
returns-clause-name c = λ y o order scope net path n w t piece x it g l known. name_settles o order scope net path n w t piece y x it g l known

pub returns-clause-literal : goal.returns-clause-literal
returns-clause-literal c = λ s bits o order scope net path n w t piece x it g l known. literal_settles o order scope net path n w t piece s bits x it g l known

pub returns-clause-vector : goal.returns-clause-vector
returns-clause-vector c = λ u xs o order scope net path n w t piece x it g l known. vector_settles o order scope net path n w t piece u xs x it g l known

pub returns-clause-constructor : goal.returns-clause-constructor
returns-clause-constructor c = λ d types xs o order scope net path n w t piece x it g l known. constructor_settles o order scope net path n w t piece d types xs x it g l known
