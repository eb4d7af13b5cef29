use Rattle.step_search.proofs.Stands.{suits_next}
use Rattle.step_search.proofs.laws.search_suits_next_state.Goals as goal

pub returns : goal.returns
returns c p made made' s finder typed leads number path =
    suits_next c.any_step_stays_behind.ensures.sought p made made' s finder typed leads number path
