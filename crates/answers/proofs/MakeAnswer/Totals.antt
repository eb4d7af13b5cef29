-- One event more in a sum.
use Rattle.std.proofs.Common.{◌≡◌, ℕ, suc, ◌+◌, ◌%◌, ◌^◌, ◌≤◌, Bool, List, [], ◌∷◌, ◌++◌, length, take, refl, sym, ap, subst, ◌∙◌, arith}
use Rattle.std.proofs.lemmas.List.{length-take}
use Rattle.chw_clock.specs.declared.event.Event.{Event}
use Rattle.netlist.specs.NetValue.{ReadValues}
use Rattle.netlist.specs.declared.net.Flat.{Flat}
use Rattle.net_run.specs.Runs.{OutputsAt}
use Rattle.net_run.specs.Runs.OutputsAt.{none, more}
use Rattle.net_run.proofs.Lines.{outputs_more, past_after}
use Rattle.answers.specs.MakeAnswer.Sums.{HasSum, adds, odd_sum, sum_from}

-- there are outputs for each event
as_many : {flat : Flat} {past events : List Event} {outputs : List (List (List Bool))}
    → OutputsAt flat past events outputs → length outputs ≡ length events
as_many (none past) = refl
as_many (more past events event outputs others read rest) =
    let same = as_many rest in omega (arith, same)

sum_from-push : (j : ℕ) (all : List (List (List Bool))) (outputs : List (List Bool))
    → sum_from j (all ++ outputs ∷ []) ≡ sum_from j all + adds (j + length all) outputs
sum_from-push j [] outputs =
    let same : adds (j + 0) outputs ≡ adds j outputs = ap (λ n. adds n outputs) (omega arith) in
    omega (arith, same)
sum_from-push j (first ∷ others) outputs =
    let rest = sum_from-push (suc j) others outputs in
    let same : adds (suc j + length others) outputs ≡ adds (j + length (first ∷ others)) outputs =
    ap (λ n. adds n outputs) (omega arith) in
    omega (arith, rest, same)

-- a remainder is enough of a summand
sum_kept : (a b sum next : ℕ) → sum ≡ a % 2 ^ 64 → next ≡ (sum + b) % 2 ^ 64
    → next ≡ (a + b) % 2 ^ 64
sum_kept a b sum next is then = omega (arith, is, then)

-- the sum with one event more
pub has_sum_more : (flat : Flat) (events : List Event) (number : ℕ) (event : Event)
    (outputs : List (List Bool)) (sum next : ℕ) → number ≤ length events
    → take (number + 1) events ≡ take number events ++ event ∷ []
    → HasSum flat (take number events) sum
    → ReadValues flat (event ∷ past_after [] (take number events)) flat.outputs outputs
    → next ≡ (sum + adds number outputs) % 2 ^ 64 → HasSum flat (take (number + 1) events) next
has_sum_more flat events number event outputs sum next le one has read then =
    let so_far = take number events in
    let place : 0 + length has.outputs ≡ number =
    omega (arith, le, as_many has.shown, length-take number events) in
    let all : odd_sum (has.outputs ++ outputs ∷ []) ≡ odd_sum has.outputs + adds number outputs =
    sum_from-push 0 has.outputs outputs ∙ ap (λ n. odd_sum has.outputs + adds n outputs) place in
    subst (λ es. HasSum flat es next) (sym one)
    (record {
      outputs = has.outputs ++ outputs ∷ [];
      shown = outputs_more flat [] so_far event outputs has.outputs has.shown read;
      sum_is = sum_kept (odd_sum has.outputs) (adds number outputs) sum next has.sum_is then
          ∙ ap (λ n. n % 2 ^ 64) (sym all);
    })
