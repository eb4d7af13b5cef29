use Rattle.chw_norm.proofs.Last.{one_last}
use Rattle.chw_norm.proofs.laws.one_last_state.Goals as goal

pub returns : goal.returns
returns c rules p steps others made made' run none other none' =
    one_last rules p steps others made made' c.one_first.ensures.state run none other none'
