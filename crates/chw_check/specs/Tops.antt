-- The top of a program.
use Rattle.std.specs.Prelude.{◌≡◌, length, Some}
use Rattle.std.specs.List.{slice_get}
use Rattle.chw_terms.specs.declared.program.Def.{Def}
use Rattle.chw_terms.specs.declared.program.Program.{Program}
use Rattle.chw_typing.specs.Programs.{LeadsToPort}

-- the definition has a type that leads from ports to a port, with a name for each of their leaves
abbrev pub LeadsToNamedPorts : Program → Def → Type 0
LeadsToNamedPorts p it = LeadsToPort p.datas it.ty (length p.top.inputs) (length p.top.outputs)

-- so the definition that the top names
abbrev pub TopIsOfPorts : Program → Type 0
TopIsOfPorts p =
    (it : Def) × (slice_get p.defs p.top.«def».number ≡ Some it) × LeadsToNamedPorts p it
