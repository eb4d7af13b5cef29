-- What a text's declarations and times say.
use Rattle.std.specs.Prelude.{List, map}
use Rattle.wave_text.specs.VcdText.{Moment as Time, Source as WaveSource}
use Rattle.wave_read.specs.Shown.{variable_of}
use Rattle.wave_read.specs.declared.source.Declared.{Declared}
use Rattle.wave_read.specs.declared.source.Source.{Source}

-- declared variables and times
abbrev pub source_in : List Declared → List Time → WaveSource
source_in declared times = record { declared = map variable_of declared; moments = times }

-- the declarations and the times of a text
abbrev pub source_of : Source → WaveSource
source_of it = source_in it.declared.items it.times
