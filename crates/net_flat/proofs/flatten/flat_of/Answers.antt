use Rattle.std.proofs.Common.{◌≡◌, ◌≤◌, ◌-◌, ◌∙◌, length, ap, sym, arith}
use Rattle.netlist.specs.declared.net.Module.{Module}
use Rattle.net_flat.proofs.Lists.{item_at}
use Rattle.net_flat.proofs.Whole.{HasParts, flat_of_parts, sound_of_parts}
use Rattle.net_flat.proofs.flatten.flat_of.Goals as goal

pub returns : goal.returns
returns c =
    let net = c.args.net.now in
    let m = c.index-modules-modules.result in
    let w = c.in_ok-widths.ensures in
    let some : 1 ≤ length net.modules = c.requires.sized.well_formed.some in
    let long : length c.as_slice-modules.result.now ≡ length net.modules = ap length c.as_slice-modules.ensures in
    let h : HasParts net c.in_ok-widths.field-0 m (record { ports = c.in_ok-ports.ports; widths = c.from.result; outputs = c.in_ok-outputs.outputs; cells = c.from-2.result }) = record {
      ports = c.in_ok-ports.ensures;
      widths = c.from.ensures;
      outputs = c.in_ok-outputs.ensures ∙ ap (λ (n : Module). n.outputs) (sym c.index-modules-modules.is);
      cells = c.from-2.ensures;
      place = length c.as_slice-modules.result.now - 1;
      top = record {
        last = omega (arith, some, long);
        stands = item_at c.as_slice-modules.result.now net.modules (length c.as_slice-modules.result.now - 1) m c.as_slice-modules.ensures
            (omega (arith, some, long)) c.index-modules-modules.is;
      };
    } in
    record {
      flat = flat_of_parts net c.in_ok-widths.field-0 m (record { ports = c.in_ok-ports.ports; widths = c.from.result; outputs = c.in_ok-outputs.outputs; cells = c.from-2.result }) w h;
      sound = sound_of_parts net c.in_ok-widths.field-0 m (record { ports = c.in_ok-ports.ports; widths = c.from.result; outputs = c.in_ok-outputs.outputs; cells = c.from-2.result })
          c.requires.sized.well_formed c.requires.fits w h;
    }
