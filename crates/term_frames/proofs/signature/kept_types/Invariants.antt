use Rattle.std.proofs.Common.{◌≡◌, length}
use Rattle.term_frames.specs.Signatures.{AreOfConstructors}
use Rattle.term_frames.proofs.signature.kept_types.Given as goal

abbrev pub invariant-loop-number : goal.invariant-loop-number
invariant-loop-number l =
    (length l.types.items ≡ l.number) × AreOfConstructors l.program l.types.items
