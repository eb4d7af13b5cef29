use Rattle.std.proofs.Common.{ℕ, ◌<◌}
use Rattle.rewriting.specs.Origins.{origins_of}
use Rattle.rewriting.specs.Spots.{spot_of}
use Rattle.flow_demanded.specs.Demanding.{DemandsForm}
use Rattle.flow_demanded.proofs.demands.first_demanded.Given as goal

abbrev pub invariant-loop-i : goal.invariant-loop-i
invariant-loop-i l = (j : ℕ) → j < l.i → DemandsForm (origins_of l.scene) (spot_of l.place) l.which l.args l.form j → ⊥
