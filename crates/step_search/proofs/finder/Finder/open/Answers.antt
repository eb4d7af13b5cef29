use Rattle.std.proofs.Common.{refl}
use Rattle.step_search.proofs.Stands.{suits_any}
use Rattle.step_search.proofs.finder.Finder.open.Goals as goal

pub returns-clause-suits : goal.returns-clause-suits
returns-clause-suits c =
    suits_any (record { made = record { number = 0 }; path = c.new.result }) refl c.new.ensures.items
