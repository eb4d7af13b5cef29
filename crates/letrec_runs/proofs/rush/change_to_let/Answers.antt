use Rattle.std.proofs.Common.{◌∙◌, sym, ap, refl, subst}
use Rattle.rewriting.specs.Origins.{origins_of}
use Rattle.open_letrec.specs.Opened.{with_side}
use Rattle.letrec_runs.specs.Rush.{place_in, IsRestingLet}
use Rattle.letrec_runs.proofs.Ends.{goes_nowhere, goes_with_join, place_put}
use Rattle.letrec_runs.proofs.Settled.{settled_nothing}
use Rattle.letrec_runs.proofs.rush.change_to_let.Goals as goal

pub returns-then-not-rests-clause-goes : goal.returns-then-not-rests-clause-goes
returns-then-not-rests-clause-goes c = λ most h.
    let outer = c.args.outer.now in
    let v = c.args.rush.apart in
    goes_nowhere (origins_of c.args.scene.now) outer most c.args.top.made.number c.args.top.path.now (with_side v c.args.side) c.args.trace.now.items c.args.trace.now.items
    c.in_ok-rush.rush h.rests (settled_nothing (with_side v c.args.side) c.in_ok-rush.rush.apart c.in_ok-rush.ensures.apart)
    (c.in_ok-rush.ensures.place ∙ c.requires.stands ∙ sym (place_put outer v c.args.side) ∙ ap (place_in outer) (sym c.in_ok-rush.ensures.apart))
    refl

pub returns-clause-goes : goal.returns-clause-goes
returns-clause-goes c = λ most h.
    goes_with_join (origins_of c.args.scene.now) c.args.outer.now most c.args.top.made.number c.args.top.path.now c.args.side c.args.new c.args.rule c.args.trace.now.items c.put_and_join.new.trace.items
    c.args.rush.apart c.in_ok-rush-2.rush c.requires.some h (subst (λ ds. IsRestingLet ds c.args.outer.now.mode c.args.new) c.as_slice-datas.ensures (c.in_ok-rests.ensures c.if-not-rests.false)) c.in_ok-rush-2.ensures.apart c.in_ok-rush-2.ensures.place c.in_ok-rush-2.ensures.traced
