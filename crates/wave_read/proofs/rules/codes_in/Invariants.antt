-- the codes of the variables so far, which are distinct
use Rattle.std.proofs.Common.{◌≡◌, map, take}
use Rattle.name_tables.specs.Names.{AreDistinct}
use Rattle.wave_read.specs.Shown.{variable_of}
use Rattle.wave_text.specs.VcdText.{codes_of}
use Rattle.wave_read.proofs.rules.codes_in.Given as goal

abbrev pub invariant-loop-it : goal.invariant-loop-it
invariant-loop-it l = record {
  codes : l.codes ≡ codes_of (map variable_of (take l.it-index l.declared));
  distinct : AreDistinct l.codes;
}
