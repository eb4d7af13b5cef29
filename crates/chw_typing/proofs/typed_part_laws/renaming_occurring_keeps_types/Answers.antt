use Rattle.chw_typing.proofs.Where.{renamed_where, bound_renamed_where, all_give_renamed_where}
use Rattle.chw_typing.proofs.typed_part_laws.renaming_occurring_keeps_types.Goals as goal

pub returns : goal.returns
returns c = record {
  term = λ s kinds vars vars' e t ρ d h. renamed_where d ρ vars' h;
  group = λ s kinds vars vars' k g ρ d h. bound_renamed_where d ρ vars' h;
  alternatives = λ s kinds vars vars' u t alts ρ d h. all_give_renamed_where d ρ vars' h;
}
