use Rattle.std.proofs.Common.{◌≡◌, ◌++◌, drop, length}
use Rattle.work_prims.specs.Given.{types_in}
use Rattle.work_prims.proofs.given.leading_types.Given as goal

abbrev pub invariant-loop-arg : goal.invariant-loop-arg
invariant-loop-arg l =
    record {
      types : types_in l.args ≡ l.types.items ++ types_in (drop l.arg-index l.args);
      count : length l.types.items ≡ l.arg-index;
    }
