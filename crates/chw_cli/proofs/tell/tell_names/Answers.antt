use Rattle.std.proofs.Common.{refl, ◌∙◌}
use Rattle.chw_cli.specs.Delivery.TellsNothing.{silent}
use Rattle.chw_cli.specs.Outcome.Told.{untold}
use Rattle.chw_cli.specs.declared.refusal.Refusal.TheVariants.{Names}
use Rattle.chw_cli.proofs.Telling.{told_by}
use Rattle.chw_cli.proofs.tell.tell_names.Goals as goal

pub returns-in-Ok : goal.returns-in-Ok
returns-in-Ok g c =
    told_by g.E.Sink.put_gives g.E.Sink.written g.E.Sink.faults (Names c.args.fault.now) (Names c.args.fault.now) refl _ ⊥ _ _ _ _ (c.as_slice.ensures.value ∙ c.in-Ok.ensures) refl (λ no. absurd no) c.put_bytes.ensures

pub returns-in-Err : goal.returns-in-Err
returns-in-Err g c = untold (silent c.args.err.now tt)
