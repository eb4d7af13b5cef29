use Rattle.rest_places.proofs.Numbers.{closed_is_number, put_is_number}
use Rattle.rest_places.proofs.laws.closed_is_number.Goals as goal

pub returns : goal.returns
returns c = record { closed = closed_is_number; put = put_is_number }
