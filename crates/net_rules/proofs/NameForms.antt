-- The forms of names, by tests of their bytes.
use Rattle.std.proofs.Common.{◌≡◌, ℕ, ◌-◌, ◌≤◌, Bool, true, List, [], ◌∷◌, length, get_or, take, drop, ap, ◌∙◌, arith}
use Rattle.std.proofs.lemmas.Bool.Decides.{Decides-and, Decides-at}
use Rattle.std.proofs.lemmas.Grind.{common_steps}
use Rattle.std.specs.Bool.{Decides}
use Rattle.std.specs.List.{list_all}
use Rattle.chw_base.specs.Names.{AllOf, BeginsThen}
use Rattle.net_rules.proofs.EachItem.{decided}

-- a test of each byte
all_of : (test : ℕ → Bool) (bs : List ℕ) → Decides (list_all test bs) (AllOf test bs)
all_of test [] = decided tt
all_of test (b ∷ bs) = Decides-and (test b) (list_all test bs) (λ e. e, λ e. e) (all_of test bs)

-- where the first byte passes its test, the others decide
pub begins_then : (first other : ℕ → Bool) (name : List ℕ) (r : Bool) → 1 ≤ length name → first (get_or name 0 0) ≡ true
    → r ≡ list_all other (take (length name - 1) (drop 1 name)) → Decides r (BeginsThen first other name)
begins_then first other [] r some passes e = absurd (omega (arith, some))
begins_then first other (b ∷ bs) r some passes e =
    let whole : take (length (b ∷ bs) - 1) bs ≡ bs = grind (arith, common_steps) in
    let rest : r ≡ list_all other bs = e ∙ ap (list_all other) whole in
    let all = Decides-at r (list_all other bs) rest (all_of other bs) in
    (λ t. (passes, all.0 t), λ h. all.1 h.1)
