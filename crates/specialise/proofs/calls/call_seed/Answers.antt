use Rattle.chw_types.specs.TypeTree.{TypeTree}
use Rattle.std.proofs.Common.{[], List}
use Rattle.chw_typing.specs.Finding.{Finds}
use Rattle.rewriting.specs.Calls.{IsCall}
use Rattle.rewriting.specs.Named.{IsNamed}
use Rattle.rewriting.specs.Origins.{origins_of, setting_at}
use Rattle.rewriting.specs.Spots.{spot_of}
use Rattle.seen_types.proofs.Matched.{of_none, of_some}
use Rattle.specialise.proofs.calls.call_seed.Goals as goal

pub returns-in_default : goal.returns-in_default
returns-in_default c =
    let o = origins_of c.args.scene.now in
    let at = spot_of c.args.place.now in
    let e = c.args.at.now in
    of_none ((types : List TypeTree) (gives : TypeTree) → IsCall o at e types gives → ⊥)
    (λ t. Finds (setting_at o) [] at.vars e t × IsNamed o.program.datas at.mode t)
    c.in_ok-gives.field-0 c.in_default.not-Some c.in_ok-gives.ensures

pub seed_of-requires-clause-found : goal.seed_of-requires-clause-found
seed_of-requires-clause-found c =
    let o = origins_of c.args.scene.now in
    let at = spot_of c.args.place.now in
    let e = c.args.at.now in
    let both = of_some ((types : List TypeTree) (gives : TypeTree) → IsCall o at e types gives → ⊥)
    (λ t. Finds (setting_at o) [] at.vars e t × IsNamed o.program.datas at.mode t)
    c.in_ok-gives.field-0 c.in-Some.gives c.in-Some.is c.in_ok-gives.ensures in
    both.0

pub seed_of-requires-clause-named : goal.seed_of-requires-clause-named
seed_of-requires-clause-named c =
    let o = origins_of c.args.scene.now in
    let at = spot_of c.args.place.now in
    let e = c.args.at.now in
    let both = of_some ((types : List TypeTree) (gives : TypeTree) → IsCall o at e types gives → ⊥)
    (λ t. Finds (setting_at o) [] at.vars e t × IsNamed o.program.datas at.mode t)
    c.in_ok-gives.field-0 c.in-Some.gives c.in-Some.is c.in_ok-gives.ensures in
    both.1
