use Rattle.std.proofs.Common.{◌≡◌, length, sym, ◌∙◌}
use Rattle.std.specs.Prelude.{min}
use Rattle.std.proofs.lemmas.Slice.Zip.{zip_end}
use Rattle.net_flat.proofs.Written.{written_end}
use Rattle.net_flat.proofs.tables.write_outputs.Goals as goal

pub returns : goal.returns
returns c =
    let n : length c.loop-w.yielded ≡ min (length c.args.drives.now) (length c.args.outputs.now) =
    zip_end c.args.drives.now c.args.outputs.now c.loop-w.yielded
    c.into_iter-w-iterator.result c.loop-w.w-iterator c.next.new.self c.next.result (cc) (cc) c.loop-w.yielded_by c.in-None.is c.next.ensures.steps in
    sym (written_end c.args.next c.loop-w.table (length c.loop-w.yielded) c.args.drives.now c.args.outputs.now n) ∙ c.loop-w.invariant.rest
