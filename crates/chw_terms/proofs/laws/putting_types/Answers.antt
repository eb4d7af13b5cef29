use Rattle.chw_terms.proofs.TypesPut.{types_sub, types_sub_rename, types_sub_sub, types_sub_ids, types_is_sub}
use Rattle.chw_terms.proofs.laws.putting_types.Goals as goal

pub returns : goal.returns
returns c = record { after_renaming = types_sub; renamed = types_sub_rename; twice = types_sub_sub; none = types_sub_ids; renaming = types_is_sub }
