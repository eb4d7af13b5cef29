use Rattle.std.proofs.Common.{◌∙◌, sym, refl, arith}
use Rattle.rewriting.specs.Origins.{origins_of}
use Rattle.rewriting.specs.Spots.{spot_of}
use Rattle.letrec_runs.proofs.Ends.{goes_nowhere, goes_settled}
use Rattle.letrec_runs.proofs.Reached.{if_ok_to}
use Rattle.letrec_runs.proofs.Settled.{place_settled, resting_settled}
use Rattle.letrec_runs.proofs.rush.advance.Goals as goal

pub returns-then-left-eq0-clause-goes : goal.returns-then-left-eq0-clause-goes
returns-then-left-eq0-clause-goes g c =
    let outer = c.args.outer.now in
    let v = c.args.rush.apart in
    let w = c.in_ok-apart.apart in
    goes_nowhere (origins_of c.args.scene.now) outer c.args.most c.args.top.made.number c.args.top.path.now v c.args.trace.now.items c.args.trace.now.items (record { apart = w; place = c.args.rush.place })
    c.requires.rests c.in_ok-apart.ensures (c.requires.stands ∙ sym (place_settled outer v w c.in_ok-apart.ensures)) refl

pub act-requires-clause-some : goal.act-requires-clause-some
act-requires-clause-some g c = omega (arith, c.left.ensures, c.if-left-eq0.false)

pub act-requires-clause-rests : goal.act-requires-clause-rests
act-requires-clause-rests g c =
    resting_settled (origins_of c.args.scene.now) (spot_of c.args.outer.now) c.args.most c.args.rush.apart c.in_ok-apart.apart c.in_ok-apart.ensures c.requires.rests

pub act-requires-clause-stands : goal.act-requires-clause-stands
act-requires-clause-stands g c =
    c.requires.stands ∙ sym (place_settled c.args.outer.now c.args.rush.apart c.in_ok-apart.apart c.in_ok-apart.ensures)

pub returns-clause-goes : goal.returns-clause-goes
returns-clause-goes g c =
    if_ok_to c.act.result
    (λ r k. goes_settled (origins_of c.args.scene.now) c.args.outer.now c.args.most c.args.top.made.number c.args.top.path.now c.args.rush.apart c.in_ok-apart.apart c.args.trace.now.items c.act.new.trace.items r c.in_ok-apart.ensures k)
    c.act.ensures.goes
