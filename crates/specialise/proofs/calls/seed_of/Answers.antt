use Rattle.rewriting.specs.Calls.{IsCall}
use Rattle.rewriting.specs.Origins.{origins_of}
use Rattle.rewriting.specs.Spots.{spot_of}
use Rattle.specialise.specs.Calls.{HaveTypes}
use Rattle.specialise.specs.Closed.{numbers}
use Rattle.specialise.specs.Seeds.{made_of_seed}
use Rattle.specialise.proofs.Called.{called_types, is_called, seed_made}
use Rattle.specialise.proofs.Called.{no_types, types_are}
use Rattle.specialise.proofs.calls.seed_of.Goals as goal

pub returns-in_default : goal.returns-in_default
returns-in_default c = λ types gives call.
    no_types (λ ts. ts.items) (origins_of c.args.scene.now) (spot_of c.args.place.now)
    (numbers c.args.free.now) c.in_ok-types.field-0 c.in_default.not-Some c.in_ok-types.ensures
    types (called_types (numbers c.args.free.now) c.requires.free call)

pub returns : goal.returns
returns c =
    let o = origins_of c.args.scene.now in
    let at = spot_of c.args.place.now in
    let e = c.args.at.now in
    let t = c.args.gives in
    let xs = numbers c.args.free.now in
    let ts = c.in-Some.types in
    let have : HaveTypes o at xs ts.items =
    types_are (λ ts. ts.items) o at xs c.in_ok-types.field-0 ts c.in-Some.is
    c.in_ok-types.ensures in
    let call : IsCall o at e ts.items t =
    is_called e xs ts.items t c.requires.plain c.requires.found
    c.requires.named c.requires.free have in
    seed_made e xs ts.items t (made_of_seed _) c.in_ok-inner.inner call c.requires.free
    c.in_ok-inner.ensures c.in_ok-origin.ensures.0 c.in_ok-origin.ensures.1
    c.sort_at-sort.ensures
