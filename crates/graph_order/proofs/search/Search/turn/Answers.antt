use Rattle.std.proofs.Common.{◌≡◌, ◌<◌, length, get_or, arith}
use Rattle.std.proofs.lemmas.List.{get_or_read}
use Rattle.graph_order.proofs.Loops.{below, closing_cycle, last_within, may_begin}
use Rattle.graph_order.proofs.search.Search.turn.Goals as goal
use Rattle.graph_order.proofs.search.Search.turn.Goals.{in-Met, in-Next+in_ok-begin-in-Next}

pub index-left-requires : goal.index-left-requires
index-left-requires g c =
    let self = c.args.self.now in
    let within = last_within (g.G.Graph.lists c.args.graph.now) self.visits.items self.left.items self.path.items self.order.items
    c.requires.knows c.args.node c.requires.last in
    omega (arith, within, self.left.ok.0, c.requires.knows.left_size)

pub look-requires-clause-fits : goal.look-requires-clause-fits
look-requires-clause-fits g c =
    let self = c.args.self.now in
    let within = last_within (g.G.Graph.lists c.args.graph.now) self.visits.items self.left.items self.path.items self.order.items
    c.requires.knows c.args.node c.requires.last in
    let in_left : c.args.node < length self.left.items = omega (arith, within, c.requires.knows.left_size) in
    let is : c.index-left.result.now ≡ get_or self.left.items c.args.node 0 =
    get_or_read self.left.items c.args.node c.index-left.result.now in_left c.index-left.ensures 0 in
    omega (arith, is, c.requires.knows.fits c.args.node)

pub pass-requires-clause-some : goal.pass-requires-clause-some
pass-requires-clause-some g c =
    let self = c.args.self.now in
    let within = last_within (g.G.Graph.lists c.args.graph.now) self.visits.items self.left.items self.path.items self.order.items
    c.requires.knows c.args.node c.requires.last in
    let in_left : c.args.node < length self.left.items = omega (arith, within, c.requires.knows.left_size) in
    let is : c.index-left.result.now ≡ get_or self.left.items c.args.node 0 =
    get_or_read self.left.items c.args.node c.index-left.result.now in_left c.index-left.ensures 0 in
    omega (arith, is, c.if-left-eq0.false)

pub begin-requires-clause-node : goal.begin-requires-clause-node
begin-requires-clause-node g c =
    let self = c.args.self.now in
    may_begin (g.G.Graph.lists c.args.graph.now) self.visits.items self.left.items self.path.items self.order.items c.requires.knows
    c.args.node c.requires.last c.index-left.result.now c.in-Next.next (rw c.deref.ensures.value at c.in-Next.ensures)

pub cycle-requires : goal.cycle-requires
cycle-requires g c =
    let self = c.args.self.now in
    let inside = below (g.G.Graph.lists c.args.graph.now) self.visits.items self.left.items self.path.items self.order.items c.requires.knows
    c.args.node c.requires.last c.index-left.result.now c.in-Closing.depth (rw c.deref.ensures.value at c.in-Closing.ensures) in
    rw c.deref-in-Closing.ensures.value inside

pub returns-in-Closing-clause-cycle : goal.returns-in-Closing-clause-cycle
returns-in-Closing-clause-cycle g c =
    let self = c.args.self.now in
    let k = closing_cycle (g.G.Graph.lists c.args.graph.now) self.visits.items self.left.items self.path.items self.order.items
    c.requires.knows c.args.node c.requires.last c.index-left.result.now c.in-Closing.depth
    (rw c.deref.ensures.value at c.in-Closing.ensures) in
    c.in_ok-cycle-in-Closing.ensures.cycle (g.G.Graph.lists c.args.graph.now) (rw c.deref-in-Closing.ensures.value k)

pub returns-clause-knows : goal.returns-clause-knows
returns-clause-knows g c = elim c.match-look.branch [
  | in-Met w ↦ rw (w.self-is) w.pass.ensures.knows
  | in-Next+in_ok-begin-in-Next w ↦ rw (w.self-is) w.in_ok-begin-in-Next.ensures.knows
]
