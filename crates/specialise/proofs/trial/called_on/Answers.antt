use Rattle.chw_types.specs.TypeTree.{TypeTree}
use Rattle.rewriting.specs.Calls.{IsCall}
use Rattle.rewriting.specs.Origins.{origins_of}
use Rattle.rewriting.specs.Spots.{spot_of}
use Rattle.seen_types.proofs.Matched.{of_none, of_some}
use Rattle.specialise.specs.declared.numbers.Seed.{Seed}
use Rattle.specialise.specs.Seeds.{made_of_seed, IsOfCall}
use Rattle.specialise.proofs.trial.called_on.Goals as goal

pub returns-in_default : goal.returns-in_default
returns-in_default c =
    let o = origins_of c.args.scene.now in
    let at = spot_of c.args.place.now in
    let e = c.args.at.now in
    of_none ((types : _) (gives : TypeTree) → IsCall o at e types gives → ⊥)
    (λ (s : Seed). IsOfCall o at e (made_of_seed s)) c.in_ok-seed.field-0 c.in_default.not-Some
    c.in_ok-seed.ensures

pub returns : goal.returns
returns c =
    let o = origins_of c.args.scene.now in
    let at = spot_of c.args.place.now in
    let e = c.args.at.now in
    let seed = c.in-Some.seed in
    let n = c.in_ok-made.made in
    let called : IsOfCall o at e (made_of_seed seed) =
    of_some ((types : _) (gives : TypeTree) → IsCall o at e types gives → ⊥)
    (λ (s : Seed). IsOfCall o at e (made_of_seed s)) c.in_ok-seed.field-0 seed c.in-Some.is
    c.in_ok-seed.ensures in
    (made_of_seed seed, n.number.number, called, c.in_ok-made.ensures, c.in_ok-new.ensures)
