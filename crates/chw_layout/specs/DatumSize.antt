-- Each part of a value has fewer nodes than the value.
use Rattle.std.specs.Prelude.{ℕ, ◌+◌}
use Rattle.chw_layout.specs.Datum.{Datum, word, built, elements, Datums, no_data, datum_and}

abbrev mutual
  -- how many nodes there are
  pub datum_size : Datum → ℕ
  datum_size (word bits) = 1
  datum_size (built c vs) = data_size vs + 1
  datum_size (elements vs) = data_size vs + 1

  pub data_size : Datums → ℕ
  data_size no_data = 0
  data_size (datum_and v vs) = datum_size v + data_size vs + 1
