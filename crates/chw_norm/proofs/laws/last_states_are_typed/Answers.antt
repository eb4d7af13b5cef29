use Rattle.chw_norm.proofs.Last.{last_is_typed}
use Rattle.chw_norm.proofs.laws.last_states_are_typed.Goals as goal

pub returns : goal.returns
returns c rules p steps made tidy typed run =
    last_is_typed rules p steps made c.opening_is_typed.ensures.state
    c.states_stay_typed.ensures.steps tidy typed run
