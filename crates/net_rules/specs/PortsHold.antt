-- The rules on the ports of a net.
use Rattle.std.specs.Prelude.{ℕ, ◌+◌, ◌<◌, ◌≤◌, List, [], ◌∷◌, length, map}
use Rattle.std.specs.List.{AllByRecursion}
use Rattle.chw_base.specs.Names.{IsLowerWord, IsUpper}
use Rattle.chw_base.specs.declared.index.DomId.{DomId}
use Rattle.chw_clock.specs.declared.event.Port.{Port}
use Rattle.chw_clock.specs.declared.event.Ports.{Ports}
use Rattle.name_tables.specs.Names.{AreDistinct}

-- the domains' numbers rise; the first is at least the one number, and all are below the other
abbrev pub RiseWithin : (least end : ℕ) → List DomId → Type 0
RiseWithin least end [] = Unit {0}
RiseWithin least end (d ∷ domains) =
    (least ≤ d.number) × (d.number < end) × RiseWithin (d.number + 1) end domains

-- the port is of one of so many domains, and its name is a word that begins with a small letter
abbrev pub FitsPort : ℕ → Port → Type 0
FitsPort domains port = (port.dom.number < domains) × IsLowerWord port.name

-- the name of a port, its domain's number first
abbrev pub full_name : Port → List ℕ
full_name port = port.dom.number ∷ port.name

-- the ports are of so many domains, and no two agree in domain and name
abbrev pub FitPorts : ℕ → List Port → Type 0
FitPorts domains ports = AllByRecursion (FitsPort domains) ports × AreDistinct (map full_name ports)

-- there is a domain, the names are distinct, and the domains with a reset stand in order, each once
pub record DomainsHold (ports : Ports) : Type 0 where
  pub some : 1 ≤ length ports.domains
  -- a domain's name is a capital, and then letters and digits
  pub names : AllByRecursion IsUpper ports.domains
  pub differ : AreDistinct ports.domains
  pub rise : RiseWithin 0 (length ports.domains) ports.resets

-- the rules on domains, on inputs and on outputs hold
pub record PortsHold (ports : Ports) : Type 0 where
  pub domains : DomainsHold ports
  pub inputs : FitPorts (length ports.domains) ports.inputs
  pub outputs : FitPorts (length ports.domains) ports.outputs
