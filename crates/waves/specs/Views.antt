-- What the fields of a printer say.
use Rattle.waves.specs.Holding.{Printed, shown}
use Rattle.waves.specs.declared.printer.VcdOut.TheInside.{Inside}

abbrev pub view_of : Inside → Printed
view_of it = record {
  ports = it.ports.now;
  events = it.events;
  last = shown it.events it.last;
  text = it.text.items;
}
