-- Runs of bytes that pass a test.
use Rattle.std.proofs.Common.{◌≡◌, ℕ, suc, zero, ◌<◌, ◌≤◌, Bool, true, List, [], ◌∷◌, ◌++◌, length, take, drop, get_or, sym, ◌∙◌, arith}
use Rattle.std.specs.Prelude.{IsTrue}
use Rattle.std.proofs.lemmas.Bool.{false≢true}
use Rattle.std.proofs.lemmas.List.{length-take-le, take-append-drop}
use Rattle.chw_base.specs.Names.{AllOf, BeginsThen}
use Rattle.verilog_text.proofs.Runs.{StopsAt as StopsBefore, within_run}
use Rattle.verilog_lex.specs.Scanning.{BeginsWith, IsRun, StopsAt}

pub stops_before : (test : ℕ → Bool) (rest : List ℕ) → StopsAt test rest → StopsBefore test rest
stops_before test [] stops = tt
stops_before test (b ∷ rest) stops = stops

-- what passes is no longer than the run
pub within_run_of : (test : ℕ → Bool) (bytes : List ℕ) (n : ℕ) → IsRun test bytes n → (other more : List ℕ) → other ++ more ≡ bytes → AllOf test other → length other ≤ n
within_run_of test bytes n run other more same passes =
    let long : length (take n bytes) ≡ n = length-take-le n bytes run.within in
    let shorter : length other ≤ length (take n bytes) =
    within_run test (take n bytes) (drop n bytes) other more run.passes (stops_before test (drop n bytes) run.stops) passes (same ∙ sym (take-append-drop n bytes)) in
    omega arith

-- the run from a first byte that passes
pub begins_run : (first other : ℕ → Bool) (bytes : List ℕ) (n : ℕ) → ((b : ℕ) → IsTrue (first b) → IsTrue (other b)) → BeginsWith first bytes → IsRun other bytes n → BeginsThen first other (take n bytes)
begins_run first other [] n widens begins run = absurd begins
begins_run first other (b ∷ bytes) zero widens begins run = absurd (false≢true (sym run.stops ∙ widens b begins))
begins_run first other (b ∷ bytes) (suc n) widens begins run = (begins, run.passes.1)

-- one or more bytes that pass
pub begins_then : (test : ℕ → Bool) (bytes : List ℕ) → AllOf test bytes → 0 < length bytes → BeginsThen test test bytes
begins_then test [] passes some = absurd (omega arith)
begins_then test (b ∷ bytes) passes some = passes

pub all_begun : (test : ℕ → Bool) (bytes : List ℕ) → BeginsThen test test bytes → AllOf test bytes
all_begun test [] begun = absurd begun
all_begun test (b ∷ bytes) begun = begun

-- one more byte that passes
pub passes_more : (test : ℕ → Bool) (bytes : List ℕ) (n : ℕ) → n < length bytes → AllOf test (take n bytes) → test (get_or bytes n 0) ≡ true → AllOf test (take (suc n) bytes)
passes_more test [] zero within passes here = absurd (omega arith)
passes_more test [] (suc n) within passes here = absurd (omega arith)
passes_more test (b ∷ bytes) zero within passes here = (here, tt)
passes_more test (b ∷ bytes) (suc n) within passes here = (passes.0, passes_more test bytes n (omega arith) passes.1 here)

-- each byte passes
pub passes_at : (test : ℕ → Bool) (bytes : List ℕ) (i : ℕ) → AllOf test bytes → i < length bytes → IsTrue (test (get_or bytes i 0))
passes_at test [] i passes within = absurd (omega arith)
passes_at test (b ∷ bytes) zero passes within = passes.0
passes_at test (b ∷ bytes) (suc i) passes within = passes_at test bytes i passes.1 (omega arith)
