use Rattle.std.proofs.Common.{get_or, sym, ap, ◌∙◌}
use Rattle.std.proofs.lemmas.List.Sums.{fold_more}
use Rattle.wire_classes.specs.Keys.{mixed}
use Rattle.wire_classes.proofs.keys.hash_of.Goals as goal

pub loop-byte-preserved : goal.loop-byte-preserved
loop-byte-preserved c =
    c.mixed-hash.ensures ∙ ap (λ h. mixed h (get_or c.args.key.now c.loop-byte.byte-index 0)) c.loop-byte.invariant
    ∙ sym (fold_more mixed 14695981039346656037 c.args.key.now c.loop-byte.byte-index 0 c.loop-byte-test.true)
