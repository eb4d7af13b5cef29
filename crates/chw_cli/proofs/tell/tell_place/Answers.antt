use Rattle.std.proofs.Common.{◌∙◌}
use Rattle.chw_cli.specs.Delivery.TellsNothing.{silent}
use Rattle.chw_cli.specs.Telling.Puts.{no_memory}
use Rattle.chw_cli.proofs.Telling.{put_when_made}
use Rattle.chw_cli.proofs.tell.tell_place.Goals as goal

pub returns-in-Ok : goal.returns-in-Ok
returns-in-Ok g c =
    put_when_made g.E.Sink.put_gives g.E.Sink.written g.E.Sink.faults _ _ _ _ _ _ (c.as_slice.ensures.value ∙ c.in-Ok.ensures) c.put_bytes.ensures

pub returns-in-Err : goal.returns-in-Err
returns-in-Err g c = no_memory (silent c.args.err.now tt)
