-- what was met in the types so far, and what falls from call to call
use Rattle.std.proofs.Common.{ℕ, List, take, ◌+◌, ◌*◌}
use Rattle.std.specs.List.{flat_map}
use Rattle.chw_grammar.specs.TypeSize.{type_size, types_size}
use Rattle.chw_grammar.specs.TypeView.{types_of}
use Rattle.chw_names.specs.Unknowns.{Walks, type_unknowns}
use Rattle.chw_names.proofs.unknown_types.+ty.Given as goal

abbrev pub invariant-each_ty-loop-tree : goal.invariant-each_ty-loop-tree
invariant-each_ty-loop-tree l = Walks (List (List ℕ)) l.initial.types l.types l.initial.least l.least (flat_map (type_unknowns l.fn.globals l.initial.types) (take l.tree-index l.fn.trees))

abbrev pub decreases-ty : goal.decreases-ty
decreases-ty l = 2 * type_size l.tree.now

abbrev pub decreases-each_ty : goal.decreases-each_ty
decreases-each_ty l = 2 * types_size (types_of l.trees.now) + 1
