use Rattle.std.proofs.Common.{◌≡◌, length, drop}
use Rattle.chw_types.specs.TypeView.{trees_of}
use Rattle.chw_types.specs.KindFound.{are_kinds}
use Rattle.chw_types.proofs.kinding.+look_at.Given as goal

abbrev pub invariant-loop-i : goal.invariant-loop-i
invariant-loop-i l = are_kinds l.datas (length l.domains) l.scope (trees_of (drop l.i l.arg-items)) (drop l.i l.params) ≡ are_kinds l.datas (length l.domains) l.scope (trees_of l.arg-items) l.params
