-- What the keys of patterns stand for.
use Rattle.std.specs.Prelude.{◌≡◌}
use Rattle.chw_terms.specs.declared.term.Pattern.{Pattern}
use Rattle.chw_terms.specs.declared.term.Pattern.TheVariants.{OfCon, OfLit}
use Rattle.term_types.specs.declared.alternatives.Key.{Key}
use Rattle.term_types.specs.declared.alternatives.Key.TheVariants.{Constructor, Literal}

-- the key is that of the pattern
abbrev pub IsFor : Key → Pattern → Type 0
IsFor (Constructor c) (OfCon d n) = c ≡ d.number
IsFor (Literal s bits) (OfLit r b) = (s ≡ r) × (bits.now ≡ b)
IsFor _ _ = ⊥
