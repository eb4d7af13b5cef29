-- What the code keeps of a line.
use Rattle.std.specs.Prelude.{◌≡◌, ℕ, ◌<◌, IsTrue, List, length, map}
use Rattle.std.specs.List.{AllByRecursion}
use Rattle.std.specs.Str.Parse.{AllDigits}
use Rattle.chw_base.specs.Names.{IsLowerWord}
use Rattle.name_tables.specs.Names.{AreDistinct}
use Rattle.stimulus.specs.Texts.{before, behind, has, texts}
use Rattle.stimulus.specs.Stimulus.{IsApart, IsDomain, domains_of, parts_of}
use Rattle.stimulus.specs.declared.form.Words.{Words}

-- the words stand around the colon of a line without its count
pub record AreWordsOf (body : List ℕ) (words : Words) : Type 0 where
  pub colon : IsTrue (has 58 body)
  pub apart : IsApart (behind 58 body)
  pub domains : texts words.domains.items ≡ domains_of body
  pub parts : texts words.parts.items ≡ parts_of body

-- the name of an input, `=`, and a text that isn't empty
abbrev pub IsPair : List ℕ → Type 0
IsPair part = IsLowerWord (before 61 part) × (0 < length (behind 61 part))

-- what stands behind the `=` of a part is hexadecimal
abbrev pub HasDigits : List ℕ → Type 0
HasDigits part = AllDigits 16 (behind 61 part)

-- domains, each named once, and as many parts as inputs, whatever stands behind their `=`
pub record HaveWords (inputs : ℕ) (domains parts : List (List ℕ)) : Type 0 where
  pub each : length parts ≡ inputs
  pub domains_are : AllByRecursion IsDomain domains
  pub pairs : AllByRecursion IsPair parts
  pub once : AreDistinct (map (before 33) domains)
