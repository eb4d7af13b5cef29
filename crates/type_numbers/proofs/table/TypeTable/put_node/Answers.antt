use Rattle.std.proofs.Common.{◌<◌, length, sym, subst, arith}
use Rattle.type_numbers.specs.Nodes.{IsNode, Grows, types_of}
use Rattle.type_numbers.proofs.Equal.{one_node}
use Rattle.type_numbers.proofs.Nodes.{nodes_put, types_put, number_told}
use Rattle.type_numbers.proofs.table.TypeTable.put_node.Goals as goal

pub invariant_of-self-2 : goal.invariant_of-self-2
invariant_of-self-2 c =
    let n = c.args.node in
    let is = subst (λ ts. IsNode ts n c.requires.0) (sym c.self.view_is) c.requires.1 in
    let few : length c.insert_full.new.self.keys < 4294967296 = grind (arith, c.in_ok-place.ensures.len, c.len.ensures.len, c.if-len.false) in
    (nodes_put c.self.inside.nodes.keys c.insert_full.new.self.keys n _ c.requires.0 c.in_ok-place.ensures.keys c.self.invariant.0 is, few)

pub returns-clause-number : goal.returns-clause-number
returns-clause-number c t h =
    let n = c.args.node in
    let ns = c.self.inside.nodes.keys in
    let is = subst (λ ts. IsNode ts n t) (sym c.self.view_is) h in
    let new = c.insert_full.new.self.keys in
    let nodes = nodes_put ns new n _ t c.in_ok-place.ensures.keys c.self.invariant.0 is in
    let grown = types_put ns new n _ t c.in_ok-place.ensures.keys is in
    let k = c.in_ok-place.ensures.stored in
    number_told (types_of ns) new n k.0 c.in_ok-place.place t nodes k.1 (one_node n k.0 k.2) grown is

pub returns-clause-grown : goal.returns-clause-grown
returns-clause-grown c =
    let n = c.args.node in
    let is = subst (λ ts. IsNode ts n c.requires.0) (sym c.self.view_is) c.requires.1 in
    subst (λ ts. Grows ts (types_of c.insert_full.new.self.keys)) c.self.view_is (types_put c.self.inside.nodes.keys c.insert_full.new.self.keys n _ c.requires.0 c.in_ok-place.ensures.keys is)
