-- the names so far are declared, each once
use Rattle.std.proofs.Common.{◌≡◌, map, take}
use Rattle.name_tables.specs.Names.{AreDistinct}
use Rattle.stimulus.specs.Texts.{before, texts}
use Rattle.stimulus.proofs.form.are_distinct.Given as goal

abbrev pub invariant-loop-domain : goal.invariant-loop-domain
invariant-loop-domain l =
    (l.names ≡ map (before 33) (texts (take l.domain-index l.domains))) × AreDistinct (map (before 33) (texts (take l.domain-index l.domains)))
