use Rattle.std.proofs.Common.{◌≡◌, ◌≢◌, length, min, take, drop, rules, sym, subst, Ok, Err}
use Rattle.std.proofs.lemmas.Result.{err_from_is_err_and}
use Rattle.chw_base.specs.Writing.{Writes}
use Rattle.chw_cli.proofs.Progress.{Progress, begins, goes_on, stops}
use Rattle.chw_cli.proofs.deliver.deliver.Goals as goal

pub loop-rest-init : goal.loop-rest-init
loop-rest-init g c = begins g.K.Sink.put_gives g.K.Sink.written g.K.Sink.faults c.args.bytes.now c.args.out.now

pub loop-rest-preserved : goal.loop-rest-preserved
loop-rest-preserved g c =
    let ne : length c.loop-rest.rest.now ≢ 0 = search rules in
    let piece : c.split_at.result.0.now ≡ take (min (length c.loop-rest.rest.now) 1024) c.loop-rest.rest.now = search rules in
    let after : c.split_at.result.1.now ≡ drop (min (length c.loop-rest.rest.now) 1024) c.loop-rest.rest.now = search rules in
    subst (λ r. Progress g.K.Sink.put_gives g.K.Sink.written g.K.Sink.faults c.args.bytes.now r c.args.out.now c.put.new.self) (sym after)
    (goes_on g.K.Sink.put_gives g.K.Sink.written g.K.Sink.faults c.args.bytes.now c.loop-rest.rest.now c.args.out.now c.loop-rest.out c.put.new.self
    c.loop-rest.invariant ne
    (subst (λ p. g.K.Sink.put_gives c.loop-rest.out p (Ok tt) c.put.new.self) piece c.in_ok-put.ensures.gives)
    (subst (λ p. Writes p (g.K.Sink.written c.loop-rest.out) (g.K.Sink.written c.put.new.self) (g.K.Sink.faults c.loop-rest.out) (g.K.Sink.faults c.put.new.self) (Ok tt)) piece c.in_ok-put.ensures.writes))

pub returns-in_err-put-clause-stops : goal.returns-in_err-put-clause-stops
returns-in_err-put-clause-stops g c =
    let p = err_from_is_err_and c.from_residual.result c.from_residual.ensures.1 in
    let ne : length c.loop-rest.rest.now ≢ 0 = search rules in
    let piece : c.split_at.result.0.now ≡ take (min (length c.loop-rest.rest.now) 1024) c.loop-rest.rest.now = search rules in
    rw (p.1, p.2)
    (stops g.K.Sink.put_gives g.K.Sink.written g.K.Sink.faults c.args.bytes.now c.loop-rest.rest.now c.args.out.now c.loop-rest.out c.put.new.self
    c.in_err-put.field-0.0 c.loop-rest.invariant ne
    (subst (λ p. g.K.Sink.put_gives c.loop-rest.out p (Err c.in_err-put.field-0.0) c.put.new.self) piece c.in_err-put.ensures.gives)
    (subst (λ p. Writes p (g.K.Sink.written c.loop-rest.out) (g.K.Sink.written c.put.new.self) (g.K.Sink.faults c.loop-rest.out) (g.K.Sink.faults c.put.new.self) (Err c.in_err-put.field-0.0)) piece c.in_err-put.ensures.writes))
