use Rattle.std.proofs.Common.{◌∙◌, ap, sym, subst, refl, List, ℕ}
use Rattle.type_ports.specs.declared.ports.Leaf.{Leaf}
use Rattle.net_built.specs.Circuits.{Ground}
use Rattle.net_build.specs.Ports.{HavePorts}
use Rattle.net_build.proofs.Ports.{are_ports_of}
use Rattle.net_build.proofs.tops.ports_at.Goals as goal

pub ports_of-requires : goal.ports_of-requires
ports_of-requires c =
    let datas = c.args.base.now.datas in
    let ins = c.args.ends.now.ins.items in
    subst (λ (ls : List Leaf). HavePorts datas ls c.as_slice.result.now) (sym c.deref.ensures.value)
    (subst (λ (ns : List (List ℕ)). HavePorts datas ins ns) (sym c.as_slice.ensures) c.requires.inputs)

pub ports_of-requires-2 : goal.ports_of-requires-2
ports_of-requires-2 c =
    let datas = c.args.base.now.datas in
    let outs = c.args.ends.now.outs.items in
    subst (λ (g : Ground). HavePorts g.datas c.deref-2.result.now c.as_slice-2.result.now) (sym c.ports_of.ensures.same)
    (subst (λ (ls : List Leaf). HavePorts datas ls c.as_slice-2.result.now) (sym c.deref-2.ensures.value)
    (subst (λ (ns : List (List ℕ)). HavePorts datas outs ns) (sym c.as_slice-2.ensures) c.requires.outputs))

pub returns-clause-ports : goal.returns-clause-ports
returns-clause-ports c =
    let datas = c.args.base.now.datas in
    let top = c.args.program.now.top in
    let ends = c.args.ends.now in
    record {
      domains = c.from.ensures ∙ c.in_ok-domains.ensures ∙ c.as_slice-3.ensures;
      resets = c.from-2.ensures ∙ c.in_ok-resets.ensures.items ∙ c.as_slice-4.ensures;
      inputs = are_ports_of datas datas ends.ins.items c.deref.result.now top.inputs c.as_slice.result.now c.in_ok-inputs.inputs.items c.from-3.result
          refl c.deref.ensures.value c.as_slice.ensures c.from-3.ensures c.in_ok-inputs.ensures.ports;
      outputs = are_ports_of datas c.ports_of.new.base.datas ends.outs.items c.deref-2.result.now top.outputs c.as_slice-2.result.now c.in_ok-outputs.outputs.items c.from-4.result
          (ap (λ (g : Ground). g.datas) c.ports_of.ensures.same) c.deref-2.ensures.value c.as_slice-2.ensures c.from-4.ensures c.in_ok-outputs.ensures.ports;
    }
