use Rattle.std.proofs.Common.{◌∙◌, map, ap}
use Rattle.blocked_places.specs.Cycles.{AreOfVariables, AreNamedBy}
use Rattle.blocked_places.proofs.Listed.{listed_are_named}
use Rattle.blocked_places.proofs.Results.{ok_more}
use Rattle.blocked_places.proofs.cycles.named_by.Goals as goal

pub returns : goal.returns
returns c =
    let n = c.args.count in
    let flags = c.args.flags.now in
    let free = map (λ v. v.number) c.deref.result.now in
    ok_more c.listed.result (λ list. AreOfVariables n flags free list.items) (λ list. AreNamedBy n flags c.args.side.now list.items)
    (λ list is. listed_are_named c.free_variables.ensures.occurring n flags c.args.side.now free list.items
    (ap (map (λ v. v.number)) c.deref.ensures.value ∙ c.in_ok-variables.ensures) is)
    c.listed.ensures
