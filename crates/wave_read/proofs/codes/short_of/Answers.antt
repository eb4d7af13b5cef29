use Rattle.std.proofs.Common.{◌+◌, length, ap, ◌∙◌}
use Rattle.std.proofs.lemmas.List.{length_push}
use Rattle.wave_read.proofs.ShortCodes.{short_more, short_none}
use Rattle.wave_read.proofs.codes.short_of.Goals as goal

pub loop-byte-init : goal.loop-byte-init
loop-byte-init c = record {
  count = ap length c.in_ok-short.ensures.items;
  short = short_none c.args.names.now c.in_ok-short.short.items c.in_ok-short.ensures.items;
}

pub loop-byte-preserved : goal.loop-byte-preserved
loop-byte-preserved c =
    let l = c.loop-byte in
    record {
      count = ap length c.in_ok-push.ensures.items ∙ length_push l.short.items c.find.result ∙ ap (λ n. n + 1) l.invariant.count;
      short = short_more c.args.names.now l.short.items c.push.new.self.items l.byte c.find.result l.invariant.count c.in_ok-push.ensures.items c.find.ensures l.invariant.short;
    }
