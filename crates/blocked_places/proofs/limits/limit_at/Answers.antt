use Rattle.std.proofs.Common.{◌∙◌, sym}
use Rattle.rewriting.specs.Origins.{origins_of}
use Rattle.rewriting.specs.Spots.{spot_of}
use Rattle.blocked_places.proofs.Results.{ok_more}
use Rattle.blocked_places.proofs.Turns.{own_found, limit_found}
use Rattle.blocked_places.proofs.limits.limit_at.Goals as goal

pub returns-then-is_some-clause-limit : goal.returns-then-is_some-clause-limit
returns-then-is_some-clause-limit c =
    own_found (origins_of c.args.scene.now) (spot_of c.args.place.now) c.args.at.now c.in_ok-own.own (sym c.is_some.ensures ∙ c.if-is_some.true)
    c.in_ok-own.ensures.limit

pub returns-clause-limit : goal.returns-clause-limit
returns-clause-limit c =
    ok_more c.part_limit.result _ _
    (λ answer h. limit_found (origins_of c.args.scene.now) (spot_of c.args.place.now) c.args.at.now c.in_ok-own.own answer
    (sym c.is_some.ensures ∙ c.if-is_some.false) c.in_ok-own.ensures.limit h)
    c.part_limit.ensures.limit

pub part_limit-requires-clause-widths : goal.part_limit-requires-clause-widths
part_limit-requires-clause-widths c = c.type_limit.ensures.same ∙ c.requires.widths
