use Rattle.carrying.proofs.Yields.{shown_once}
use Rattle.carrying.proofs.laws.one_shown.Goals as goal

pub returns : goal.returns
returns c p t th h a b some s r = shown_once c.number_of_made_bits.ensures.whole c.zero_exists.ensures.of_width some s r
