use Rattle.std.proofs.Common.{◌≡◌, ℕ, ◌<◌, ◌≤◌, get_or}
use Rattle.moved_in_place.proofs.zeros.zeros_in_front.Given as goal

abbrev pub invariant-loop-n : goal.invariant-loop-n
invariant-loop-n l = (l.n ≤ l.most) × ((k : ℕ) → k < l.n → get_or l.path k 0 ≡ 0)
