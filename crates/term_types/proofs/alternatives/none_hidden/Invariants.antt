use Rattle.std.proofs.Common.{◌≡◌, true, false, take}
use Rattle.chw_terms.specs.declared.term.Pattern.{Pattern}
use Rattle.chw_terms.specs.TermView.{alts_of}
use Rattle.chw_typing.specs.Alternatives.{NoneHidden}
use Rattle.term_types.proofs.Keyed.{AreFor, SomeHides}
use Rattle.term_types.proofs.PatternKeys.{pattern_keys}
use Rattle.term_types.proofs.alternatives.none_hidden.Given as goal

-- until a default comes, the table has the keys of the patterns so far; afterwards one of them hides whatever follows
abbrev pub invariant-loop-alt : goal.invariant-loop-alt
invariant-loop-alt l = record {
  none : NoneHidden (alts_of (take l.alt-index l.alts));
  keyed : l.has_default ≡ false → AreFor pattern_keys l.seen.keys (take l.alt-index l.alts);
  ended : l.has_default ≡ true → (p : Pattern) → SomeHides p (take l.alt-index l.alts);
}
