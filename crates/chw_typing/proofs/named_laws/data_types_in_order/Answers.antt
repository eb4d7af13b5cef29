use Rattle.chw_typing.proofs.DataOrder.{has_order, has_no_cycle}
use Rattle.chw_typing.proofs.named_laws.data_types_in_order.Goals as goal

pub returns : goal.returns
returns c datas = (has_order datas, has_no_cycle datas)
