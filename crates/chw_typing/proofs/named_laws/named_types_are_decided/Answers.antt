use Rattle.std.proofs.Common.{inl, inr}
use Rattle.chw_typing.proofs.DataOrder.{has_order}
use Rattle.chw_typing.proofs.Deciding.{representable_decided, port_decided}
use Rattle.chw_typing.proofs.named_laws.named_types_are_decided.Goals as goal

pub returns : goal.returns
returns c = record {
  representable = λ datas t none. representable_decided datas (has_order datas none) t;
  port = λ datas t none. elim (port_decided datas (has_order datas none) t) [ inl p ↦ inl p | inr other ↦ inr (λ ls l. other (ls, l)) ];
}
