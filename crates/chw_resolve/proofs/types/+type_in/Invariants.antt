use Rattle.std.proofs.Common.{◌≡◌, ◌+◌, ◌*◌, map, take}
use Rattle.chw_grammar.specs.TypeSize.{type_size, types_size}
use Rattle.chw_grammar.specs.TypeView.{types_of}
use Rattle.chw_resolve.specs.Types.{type_in}
use Rattle.chw_resolve.specs.Walks.{joined}
use Rattle.chw_resolve.proofs.Chains.{chain_so_far}
use Rattle.chw_resolve.proofs.types.+type_in.Given as goal

abbrev pub invariant-chain_in-loop-part : goal.invariant-chain_in-loop-part
invariant-chain_in-loop-part l = record {
  scope : l.variables ≡ l.initial.variables;
  chain : l.chain ≡ chain_so_far (joined l.join) (map (type_in l.globals l.initial.variables) (take l.part-index l.parts));
}

abbrev pub invariant-types_in-loop-tree : goal.invariant-types_in-loop-tree
invariant-types_in-loop-tree l = record {
  scope : l.variables ≡ l.initial.variables;
  made : l.done.items ≡ map (type_in l.globals l.initial.variables) (take l.tree-index l.trees);
}

-- the calls go into parts of the type
abbrev pub decreases-type_in : goal.decreases-type_in
decreases-type_in l = 2 * type_size l.tree.now

abbrev pub decreases-forall_in : goal.decreases-forall_in
decreases-forall_in l = 2 * type_size l.body.now + 1

abbrev pub decreases-arrow_in : goal.decreases-arrow_in
decreases-arrow_in l = 2 * (type_size l.from.now + type_size l.to.now) + 1

abbrev pub decreases-chain_in : goal.decreases-chain_in
decreases-chain_in l = 2 * types_size (types_of l.parts.now) + 1

abbrev pub decreases-types_in : goal.decreases-types_in
decreases-types_in l = 2 * types_size (types_of l.trees.now) + 1
