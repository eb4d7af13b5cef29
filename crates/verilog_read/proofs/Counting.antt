-- The modules of a net, counted one by one.
use Rattle.std.proofs.Common.{◌≡◌, ℕ, zero, suc, ◌+◌, ◌<◌, ◌≤◌, List, [], ◌∷◌, length, get_or, take, subst, arith}
use Rattle.std.specs.List.{AllByRecursion}
use Rattle.netlist.specs.declared.net.Module.{Module}
use Rattle.verilog_text.specs.VText.{IsCounted}

counted_next : (ms : List Module) (k : ℕ) (m d : Module) → k < length ms → m ≡ get_or ms k d → IsCounted m → AllByRecursion IsCounted (take k ms)
    → AllByRecursion IsCounted (take (suc k) ms)
counted_next [] k m d lt is here so_far = absurd (omega arith)
counted_next (n ∷ ms) zero m d lt is here so_far = (subst IsCounted is here, tt)
counted_next (n ∷ ms) (suc k) m d lt is here so_far = (so_far.0, counted_next ms k m d (omega arith) is here so_far.1)

pub counted_more : (ms : List Module) (k : ℕ) (m d : Module) → k < length ms → m ≡ get_or ms k d → IsCounted m → AllByRecursion IsCounted (take k ms)
    → AllByRecursion IsCounted (take (k + 1) ms)
counted_more ms k m d lt is here so_far =
    let next : suc k ≡ k + 1 = omega arith in
    subst (λ (n : ℕ). AllByRecursion IsCounted (take n ms)) next (counted_next ms k m d lt is here so_far)

pub all_counted : (ms : List Module) (k : ℕ) → length ms ≤ k → AllByRecursion IsCounted (take k ms) → AllByRecursion IsCounted ms
all_counted [] k le so_far = tt
all_counted (m ∷ ms) zero le so_far = absurd (omega arith)
all_counted (m ∷ ms) (suc k) le so_far = (so_far.0, all_counted ms k (omega arith) so_far.1)
