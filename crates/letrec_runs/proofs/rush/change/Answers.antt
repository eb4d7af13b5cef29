use Rattle.std.proofs.Common.{◌≡◌, ◌∙◌, sym, true, false}
use Rattle.rewriting.specs.Origins.{origins_of}
use Rattle.letrec_runs.proofs.Ends.{goes_with}
use Rattle.letrec_runs.proofs.rush.change.Goals as goal

pub change_to_let-requires-clause-is : goal.change_to_let-requires-clause-is
change_to_let-requires-clause-is c = c.is_let.ensures.0 c.if-is_let.true

pub returns-clause-goes : goal.returns-clause-goes
returns-clause-goes c = λ most h.
    goes_with (origins_of c.args.scene.now) c.args.outer.now most c.args.top.made.number c.args.top.path.now c.args.side c.args.made.new c.args.made.rule c.args.trace.now.items c.put.new.trace.items
    c.args.rush.apart c.in_ok-rush.rush c.requires.some h
    (λ l. let both : true ≡ false = sym (c.is_let.ensures.1 l) ∙ c.if-is_let.false in absurd cc)
    c.in_ok-rush.ensures.apart (c.in_ok-rush.ensures.place ∙ c.requires.stands) c.in_ok-rush.ensures.traced
