-- what is written, with the numbers that are left, is all
use Rattle.std.proofs.Common.{◌≡◌, ◌++◌, ℕ, drop, codes}
use Rattle.std.specs.Prelude.{decimal}
use Rattle.std.specs.List.{flat_map}
use Rattle.norm_lines.proofs.pieces.put_path.Given as goal

abbrev pub invariant-loop-number : goal.invariant-loop-number
invariant-loop-number l =
    l.out.items ++ flat_map (λ (n : ℕ). codes "." ++ decimal n) (drop l.number-index l.later)
    ≡ l.initial.out.items ++ flat_map (λ (n : ℕ). codes "." ++ decimal n) l.later
