-- none of the rules so far has an instance, and each was one look at most
use Rattle.std.proofs.Common.{◌≤◌, ◌+◌}
use Rattle.rewriting.specs.Origins.{origins_of}
use Rattle.rewriting.specs.Spots.{spot_of}
use Rattle.rules.proofs.Tried.{NoneBefore}
use Rattle.rules.proofs.first.first_rule.Given as goal

abbrev pub invariant-loop-rule : goal.invariant-loop-rule
invariant-loop-rule g l = record {
  none : NoneBefore (origins_of l.scene) (spot_of l.place) l.at l.rule-index;
  looks : g.L.Looks.looks l.looks ≤ g.L.Looks.looks l.fn.looks + l.rule-index;
}
