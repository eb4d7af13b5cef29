use Rattle.std.proofs.Common.{◌≡◌, ℕ, ◌++◌, List, length, reverse, sym, ap, subst, ◌∙◌, arith}
use Rattle.std.proofs.lemmas.List.{append_assoc}
use Rattle.chw_base.specs.declared.index.WireId.{WireId}
use Rattle.net_rules.specs.WellFormed.{DriversHold}
use Rattle.net_rules.specs.declared.well_formed.NetCode.TheVariants.{Driver as DriverCode}
use Rattle.netlist.specs.declared.net.Cell.{Cell}
use Rattle.net_flat.specs.Drivers.{ArePushed, IsTable}
use Rattle.net_flat.specs.Instances.{input_copies}
use Rattle.net_flat.specs.declared.instances.Instance.{Instance}
use Rattle.net_flat.specs.declared.tables.Driver.{Driver}
use Rattle.net_flat.proofs.Placed.{are_own, enters, few_reads, placed_below, table_stands}
use Rattle.net_flat.proofs.Within.{cells_move, facts_of, sum_of_all, uses_move}
use Rattle.net_flat.proofs.parts.enter.Goals as goal

pub bounds-as_slice-x : goal.bounds-as_slice-x
bounds-as_slice-x c =
    let below = placed_below c.args.net.now c.args.x.now c.requires.sized.well_formed c.requires.placed in
    omega (arith, below, ap length c.as_slice.ensures)

pub push_inputs-requires : goal.push_inputs-requires
push_inputs-requires c =
    let e = enters c.args.net.now c.args.sizes.now c.args.x.now c.index-as_slice-x.result c.as_slice.result.now c.requires.sized c.requires.placed c.requires.within c.as_slice.ensures c.index-as_slice-x.is in
    let f = facts_of c.args.net.now c.args.sizes.now c.args.x.now c.index-as_slice-x.result e in
    let few = few_reads c.args.net.now c.args.x.now c.index-as_slice-x.result c.requires.sized.well_formed c.requires.placed e.found in
    omega (arith, f.long, few, c.requires.within, ap length c.as_slice-3.ensures)

pub table-requires : goal.table-requires
table-requires c =
    enters c.args.net.now c.args.sizes.now c.args.x.now c.index-as_slice-x.result c.as_slice.result.now c.requires.sized c.requires.placed c.requires.within c.as_slice.ensures c.index-as_slice-x.is

pub push_own-requires-clause-moves : goal.push_own-requires-clause-moves
push_own-requires-clause-moves c = cells_move c.args.net.now c.args.sizes.now c.args.x.now c.index-as_slice-x.result (enters c.args.net.now c.args.sizes.now c.args.x.now c.index-as_slice-x.result c.as_slice.result.now c.requires.sized c.requires.placed c.requires.within c.as_slice.ensures c.index-as_slice-x.is)

pub push_own-requires-clause-wires : goal.push_own-requires-clause-wires
push_own-requires-clause-wires c =
    let f = facts_of c.args.net.now c.args.sizes.now c.args.x.now c.index-as_slice-x.result (enters c.args.net.now c.args.sizes.now c.args.x.now c.index-as_slice-x.result c.as_slice.result.now c.requires.sized c.requires.placed c.requires.within c.as_slice.ensures c.index-as_slice-x.is) in
    omega (arith, f.long, c.requires.within)

pub push_own-requires-clause-inputs : goal.push_own-requires-clause-inputs
push_own-requires-clause-inputs c =
    let hold : DriversHold c.args.net.now c.args.x.now.module.number c.index-as_slice-x.result =
    c.requires.sized.well_formed.rules c.args.x.now.module.number c.index-as_slice-x.result (enters c.args.net.now c.args.sizes.now c.args.x.now c.index-as_slice-x.result c.as_slice.result.now c.requires.sized c.requires.placed c.requires.within c.as_slice.ensures c.index-as_slice-x.is).found DriverCode in
    hold.inputs

pub push_own-requires-clause-stand : goal.push_own-requires-clause-stand
push_own-requires-clause-stand c =
    let t : IsTable c.args.net.now c.args.x.now.base c.index-as_slice-x.result c.deref.result.now =
    subst (λ (ds : List Driver). IsTable c.args.net.now c.args.x.now.base c.index-as_slice-x.result ds) (sym c.deref.ensures.value) c.in_ok-table.ensures in
    table_stands c.args.net.now c.args.x.now.base c.index-as_slice-x.result c.deref.result.now t

pub uses-requires-clause-reads : goal.uses-requires-clause-reads
uses-requires-clause-reads c = uses_move c.args.net.now c.args.sizes.now c.args.x.now c.index-as_slice-x.result (enters c.args.net.now c.args.sizes.now c.args.x.now c.index-as_slice-x.result c.as_slice.result.now c.requires.sized c.requires.placed c.requires.within c.as_slice.ensures c.index-as_slice-x.is)

pub uses-requires-clause-fits : goal.uses-requires-clause-fits
uses-requires-clause-fits c =
    let sum = sum_of_all c.args.net.now c.args.sizes.now c.args.x.now c.index-as_slice-x.result (enters c.args.net.now c.args.sizes.now c.args.x.now c.index-as_slice-x.result c.as_slice.result.now c.requires.sized c.requires.placed c.requires.within c.as_slice.ensures c.index-as_slice-x.is) in
    omega (arith, sum, c.requires.within)

pub returns : goal.returns
returns c =
    let net = c.args.net.now in
    let x = c.args.x.now in
    let m = c.index-as_slice-x.result in
    let e = enters c.args.net.now c.args.sizes.now c.args.x.now c.index-as_slice-x.result c.as_slice.result.now c.requires.sized c.requires.placed c.requires.within c.as_slice.ensures c.index-as_slice-x.is in
    let old = c.args.parts.now in
    let table : IsTable net x.base m c.deref.result.now =
    subst (λ (ds : List Driver). IsTable net x.base m ds) (sym c.deref.ensures.value) c.in_ok-table.ensures in
    let pushed : ArePushed x.base m c.deref.result.now (length m.widths) c.push_inputs.new.cells.items c.push_own.new.cells.items = c.in_ok-push_own.ensures in
    let copies : c.push_inputs.new.cells.items ≡ old.cells.items ++ input_copies x.base x.reads =
    c.in_ok-push_inputs.ensures ∙ ap (λ (rs : List WireId). old.cells.items ++ input_copies x.base rs) c.as_slice-3.ensures in
    let wait : c.push_waiting.new.waiting.items ≡ old.waiting.items ++ reverse c.in_ok-uses.uses.items = c.in_ok-push_waiting.ensures in
    record {
      m = m;
      enters = e;
      widths = c.in_ok-extend_from_slice.ensures.items ∙ ap (λ (ws : List ℕ). old.widths.items ++ ws) c.as_slice-2.ensures;
      own = pushed.own;
      cells = pushed.«is» ∙ ap (λ (cs : List Cell). cs ++ pushed.own) copies ∙ append_assoc old.cells.items (input_copies x.base x.reads) pushed.own;
      are_own = are_own net x.base m c.deref.result.now c.push_inputs.new.cells.items c.push_own.new.cells.items table pushed;
      waiting = wait ∙ ap (λ (us : List Instance). old.waiting.items ++ reverse us) c.in_ok-uses.ensures;
    }
