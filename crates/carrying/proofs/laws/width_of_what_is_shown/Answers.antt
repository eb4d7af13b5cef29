use Rattle.carrying.proofs.Widths.{shown_length}
use Rattle.carrying.proofs.laws.width_of_what_is_shown.Goals as goal

pub returns : goal.returns
returns c p t th h b w s d = shown_length s d
