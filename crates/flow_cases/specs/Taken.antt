-- What is known of a scrutinee, and which alternative takes it.
use Rattle.std.specs.Prelude.{◌≡◌, List}
use Rattle.chw_terms.specs.declared.term.Alt.{Alt}
use Rattle.chw_terms.specs.declared.term.Pattern.{Pattern}
use Rattle.chw_terms.specs.declared.term.Pattern.TheVariants.{OfCon, OfLit, Default}
use Rattle.chw_terms.specs.TermTree.{TermTree, no_alts, alt}
use Rattle.chw_terms.specs.TermView.{alts_of}
use Rattle.chw_typing.specs.Paths.{Branch}
use Rattle.rewriting.specs.Shapes.{IsTakenBy}
use Rattle.flow_cases.specs.declared.alternatives.Known.{Known}
use Rattle.flow_cases.specs.declared.alternatives.Known.TheVariants.{Constructor, Literal}

-- the pattern for exactly that
abbrev pub pattern_of : Known → Pattern
pattern_of (Constructor c n) = OfCon c n
pattern_of (Literal sort bits) = OfLit sort bits.now

abbrev pub branch_of : Alt → Branch
branch_of a = record { pattern = a.pattern; body = a.body }

-- none of the alternatives takes it
abbrev pub NoneTakes : Known → List Alt → Type 0
NoneTakes known alts = (b : Branch) → IsTakenBy (pattern_of known) (alts_of alts) b → ⊥

-- this is the first one that takes it
abbrev pub Takes : Known → List Alt → Alt → Type 0
Takes known alts a = IsTakenBy (pattern_of known) (alts_of alts) (branch_of a)

-- the alternatives are a default alone, of this body
abbrev pub IsLoneDefault : List Alt → TermTree → Type 0
IsLoneDefault alts f = alts_of alts ≡ alt Default f no_alts
