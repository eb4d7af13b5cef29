use Rattle.std.proofs.Common.{subst}
use Rattle.rewriting.specs.Origins.{origins_of}
use Rattle.rewriting.specs.Spots.{spot_of}
use Rattle.blocked_places.specs.Cycles.{HasCycle, FindsCycle}
use Rattle.blocked_places.specs.Limits.{FindsLimit}
use Rattle.blocked_places.specs.Payloads.{IsPayload, FindsPayload}
use Rattle.blocked_places.proofs.Blocks.{cycle_first, payload_first, limit_first, nothing_blocks}
use Rattle.blocked_places.proofs.Blocks.{no_cycle, no_payload, no_limit}
use Rattle.blocked_places.proofs.block.block_at.Goals as goal

pub returns-in-Some-clause-first : goal.returns-in-Some-clause-first
returns-in-Some-clause-first c =
    let o = origins_of c.args.scene.now in
    let at = spot_of c.args.place.now in
    let e = c.args.at.now in
    let found = subst (FindsCycle c.as_slice-datas.result.now at.mode e) c.in-Some.is c.in_ok-bindings.ensures in
    cycle_first o at e c.in-Some.bindings.items
    (subst (λ ds. HasCycle ds at.mode e c.in-Some.bindings.items) c.as_slice-datas.ensures found.0) found.1

pub returns-in-Some-2-clause-first : goal.returns-in-Some-2-clause-first
returns-in-Some-2-clause-first c =
    let o = origins_of c.args.scene.now in
    let at = spot_of c.args.place.now in
    let e = c.args.at.now in
    let datas = c.as_slice-datas.result.now in
    let none = subst (FindsCycle datas at.mode e) c.in_default.is c.in_ok-bindings.ensures in
    let found = subst (FindsPayload datas e) c.in-Some-2.is c.in_ok-ty.ensures in
    payload_first o at e c.in-Some-2.ty (no_cycle o at e datas c.as_slice-datas.ensures none)
    (subst (λ ds. IsPayload ds e c.in-Some-2.ty) c.as_slice-datas.ensures found)

pub returns-in-Some-3-clause-first : goal.returns-in-Some-3-clause-first
returns-in-Some-3-clause-first c =
    let o = origins_of c.args.scene.now in
    let at = spot_of c.args.place.now in
    let e = c.args.at.now in
    let datas = c.as_slice-datas.result.now in
    let none = subst (FindsCycle datas at.mode e) c.in_default.is c.in_ok-bindings.ensures in
    let clear = subst (FindsPayload datas e) c.in_default-2.is c.in_ok-ty.ensures in
    let found = subst (FindsLimit o at e) c.in-Some-3.is c.in_ok-what.ensures.limit in
    limit_first o at e c.in-Some-3.what (no_cycle o at e datas c.as_slice-datas.ensures none)
    (no_payload o at e datas c.as_slice-datas.ensures clear) found

pub returns-in-None-clause-first : goal.returns-in-None-clause-first
returns-in-None-clause-first c =
    let o = origins_of c.args.scene.now in
    let at = spot_of c.args.place.now in
    let e = c.args.at.now in
    let datas = c.as_slice-datas.result.now in
    let none = subst (FindsCycle datas at.mode e) c.in_default.is c.in_ok-bindings.ensures in
    let clear = subst (FindsPayload datas e) c.in_default-2.is c.in_ok-ty.ensures in
    let free = subst (FindsLimit o at e) c.in-None.is c.in_ok-what.ensures.limit in
    nothing_blocks o at e (no_cycle o at e datas c.as_slice-datas.ensures none)
    (no_payload o at e datas c.as_slice-datas.ensures clear) (no_limit o at e free)
