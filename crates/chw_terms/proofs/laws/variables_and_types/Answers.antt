use Rattle.chw_terms.proofs.Renamed.{types_after_rename}
use Rattle.chw_terms.proofs.TermsPut.{types_after_sub}
use Rattle.chw_terms.proofs.TypesPut.{put_types_after_rename, put_types_after_sub}
use Rattle.chw_terms.proofs.laws.variables_and_types.Goals as goal

pub returns : goal.returns
returns c = record { renamed_renamed = types_after_rename; renamed_put = types_after_sub; put_renamed = put_types_after_rename; put_put = put_types_after_sub }
