use Rattle.std.proofs.Common.{◌≡◌, [], refl, arith}
use Rattle.std.proofs.lemmas.List.{nil_from_length}
use Rattle.net_flat.proofs.SoFar.{few_modules, next_fits, progress_at, so_far_first, so_far_next, whole, wires_gained, wires_within}
use Rattle.net_flat.proofs.parts.parts_of.Goals as goal

pub top-first-requires-clause-few : goal.top-first-requires-clause-few
top-first-requires-clause-few c = omega (arith, few_modules c.args.net.now c.requires.sized.well_formed)

pub loop-x-init : goal.loop-x-init
loop-x-init c =
    so_far_first c.args.net.now c.args.sizes.now c.top-first.result
    (record { widths = c.new.result; cells = c.new-2.result; waiting = c.new-3.result }) c.enter.new.parts
    c.top-first.ensures.last c.top-first.ensures.base c.top-first.ensures.reads
    c.new.ensures.items c.new-2.ensures.items c.new-3.ensures.items c.in_ok-enter.ensures

pub enter-requires-in-Some-clause-placed : goal.enter-requires-in-Some-clause-placed
enter-requires-in-Some-clause-placed c =
    (progress_at c.args.net.now c.loop-x.parts c.pop.new.self.items c.in-Some.x c.loop-x.invariant c.in-Some.ensures.items).placed.0

pub enter-requires-in-Some-clause-within : goal.enter-requires-in-Some-clause-within
enter-requires-in-Some-clause-within c =
    next_fits c.args.net.now c.loop-x.parts c.pop.new.self.items c.in-Some.x c.loop-x.invariant c.in-Some.ensures.items c.requires.within

pub loop-x-preserved : goal.loop-x-preserved
loop-x-preserved c =
    so_far_next c.args.net.now c.args.sizes.now c.in-Some.x c.loop-x.parts
    (record { widths = c.loop-x.parts.widths; cells = c.loop-x.parts.cells; waiting = c.pop.new.self }) c.enter-in-Some.new.parts
    c.loop-x.invariant refl refl c.in-Some.ensures.items c.in_ok-enter-2.ensures

pub loop-x-smaller : goal.loop-x-smaller
loop-x-smaller c =
    let s = so_far_next c.args.net.now c.args.sizes.now c.in-Some.x c.loop-x.parts
    (record { widths = c.loop-x.parts.widths; cells = c.loop-x.parts.cells; waiting = c.pop.new.self }) c.enter-in-Some.new.parts
    c.loop-x.invariant refl refl c.in-Some.ensures.items c.in_ok-enter-2.ensures in
    let within = wires_within c.args.net.now c.enter-in-Some.new.parts s c.requires.within in
    let gained = wires_gained c.args.net.now c.args.sizes.now c.in-Some.x c.loop-x.parts
    (record { widths = c.loop-x.parts.widths; cells = c.loop-x.parts.cells; waiting = c.pop.new.self }) c.enter-in-Some.new.parts
    c.loop-x.invariant refl c.in-Some.ensures.items c.in_ok-enter-2.ensures in
    omega (arith, within, gained)

pub returns : goal.returns
returns c =
    let none : c.loop-x.parts.waiting.items ≡ [] =
    nil_from_length c.loop-x.parts.waiting.items (omega (arith, c.in_default.ensures.cases.0, c.loop-x.parts.waiting.ok.0)) in
    let w = whole c.args.net.now c.loop-x.parts c.loop-x.invariant none in
    record {
      place = w.place;
      m = w.m;
      top = w.top;
      widths = w.widths;
      in_order = w.in_order;
      all = w.all;
      cells = w.cells;
    }
