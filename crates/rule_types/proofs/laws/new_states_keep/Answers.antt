use Rattle.rule_types.proofs.NewState.{after_typed}
use Rattle.rule_types.proofs.laws.new_states_keep.Goals as goal

pub returns : goal.returns
returns c p made with_new at e new r h place instance complete after = after_typed c.typed_is_sound.ensures c.names_of_modes.ensures.kind p made with_new at e new r h place instance complete after
