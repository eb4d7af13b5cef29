use Rattle.chw_terms.proofs.TermsPut.{rename_sub, sub_rename, sub_sub, sub_ids, rename_is_sub}
use Rattle.chw_terms.proofs.laws.putting.Goals as goal

pub returns : goal.returns
returns c = record { after_renaming = rename_sub; renamed = sub_rename; twice = sub_sub; none = sub_ids; renaming = rename_is_sub }
