use Rattle.std.proofs.Common.{subst}
use Rattle.chw_prims.specs.declared.prim.Primitive.{Primitive as Prim}
use Rattle.net_ready.specs.Ready.{SignalReady}
use Rattle.circuit_build.proofs.Readiness.{ap_lifts, mapped_lifts, no_other_signal}
use Rattle.circuit_build.proofs.views.signal_side.Goals as goal

pub unreachable-requires : goal.unreachable-requires
unreachable-requires c =
    let r = c.requires in
    let d = c.in_default in
    no_other_signal r.0 r.1 c.args.which c.args.args.now d.not-Pure d.not-Register d.not-BlockRam d.not-UnsafeSynchronizer d.not-Fmap d.not-Ap r.2

pub of_constant-requires : goal.of_constant-requires
of_constant-requires c = let r = c.requires in (r.0, r.1, subst (λ (p : Prim). SignalReady r.0 r.1 p c.args.args.now) c.in-Pure.is r.2)

pub of_delay-requires : goal.of_delay-requires
of_delay-requires c = let r = c.requires in (r.0, r.1, subst (λ (p : Prim). SignalReady r.0 r.1 p c.args.args.now) c.in-Register.is r.2)

pub of_memory-requires : goal.of_memory-requires
of_memory-requires c = let r = c.requires in (r.0, r.1, subst (λ (p : Prim). SignalReady r.0 r.1 p c.args.args.now) c.in-BlockRam.is r.2)

pub of_crossing-requires : goal.of_crossing-requires
of_crossing-requires c = let r = c.requires in subst (λ (p : Prim). SignalReady r.0 r.1 p c.args.args.now) c.in-UnsafeSynchronizer.is r.2

pub of_lifting-requires : goal.of_lifting-requires
of_lifting-requires c =
    let r = c.requires in
    mapped_lifts c.args.args.now (subst (λ (p : Prim). SignalReady r.0 r.1 p c.args.args.now) c.in-Fmap.is r.2)

pub of_lifting-requires-in-Ap : goal.of_lifting-requires-in-Ap
of_lifting-requires-in-Ap c =
    let r = c.requires in
    ap_lifts c.args.args.now (subst (λ (p : Prim). SignalReady r.0 r.1 p c.args.args.now) c.in-Ap.is r.2)
