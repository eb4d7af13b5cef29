use Rattle.carrying.proofs.Shown.{counter_shows, just_carries, just_of_counter, same_data_move}
use Rattle.carrying.proofs.examples.of_carrying.Goals as goal

pub returns : goal.returns
returns c = record { counter = counter_shows; just = just_carries; moving = just_of_counter; same_data = same_data_move }
