-- The tests for what is sought.
use Rattle.chw_limits.specs.declared.sought.Sought.{Sought}
use Rattle.chw_limits.specs.declared.sought.Sought.TheVariants.{LongVectors, GreatValues, GreatNumbers}
use Rattle.chw_limits.specs.Limits.{long_vectors, great_values, great_numbers}
use Rattle.chw_limits.specs.Parts.{Tests}

abbrev pub tests_of : Sought → Tests
tests_of LongVectors = long_vectors
tests_of GreatValues = great_values
tests_of GreatNumbers = great_numbers
