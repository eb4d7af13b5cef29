use Rattle.chw_typing.proofs.Found.{place_found}
use Rattle.chw_typing.proofs.ContextPlaces.{around_is_part, around_behind}
use Rattle.chw_typing.proofs.context_laws.places.Goals as goal

pub returns : goal.returns
returns c = record { part = λ s kinds ks vars vs e x p r. around_is_part r; found = λ s kinds vars e x t p d h. place_found p x d h; behind = λ s kinds ks ks' vars vs vs' e x y p q l r. around_behind l r }
