use Rattle.std.proofs.Common.{length, sym, ap, ◌∙◌}
use Rattle.chw_types.specs.KindFound.{kind_found}
use Rattle.chw_types.proofs.KindsFound.{found_is_kind, none_is_found}
use Rattle.chw_types.proofs.kinding.kind_of.Goals as goal

pub returns-in-Some-clause-kind : goal.returns-in-Some-clause-kind
returns-in-Some-clause-kind c =
    found_is_kind _ _ _ _ c.in-Some.kind
    (ap (λ s. kind_found c.args.datas.now (length c.args.domains.now) s c.args.t.now) (sym c.outside-scope.ensures) ∙ sym c.kind_in.ensures ∙ c.in-Some.is)

pub returns-in-None-clause-fault : goal.returns-in-None-clause-fault
returns-in-None-clause-fault c =
    none_is_found _ _ _ _
    (ap (λ s. kind_found c.args.datas.now (length c.args.domains.now) s c.args.t.now) (sym c.outside-scope.ensures) ∙ sym c.kind_in.ensures ∙ c.in-None.is)
