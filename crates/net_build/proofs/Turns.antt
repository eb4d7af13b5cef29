-- What is left takes fewer turns after each task, where no made definition uses itself.
use Rattle.std.proofs.Common.{◌≡◌, ◌∙◌, refl, sym, ap, subst, ℕ, zero, suc, ◌+◌, ◌<◌, ◌==◌, arith, Bool, true, eqb-true, eq-eqb, List, [], ◌∷◌, ◌++◌, length, Some, inl, inr}
use Rattle.std.specs.List.{slice_get, AllByRecursion}
use Rattle.std.proofs.lemmas.Bool.{or_cases, or_left, or_right}
use Rattle.std.proofs.lemmas.Option.{none-some, same_Some}
use Rattle.chw_terms.specs.declared.scene.Made.{Made}
use Rattle.chw_typing.proofs.Reaching.{place_of, place_within, place_earlier}
use Rattle.normal_forms.specs.Uses.{names_made, Uses, IsAcyclic}
use Rattle.normal_form.specs.UseOrders.{UsesAreThere}
use Rattle.net_built.specs.Modules.{holds, made_in}
use Rattle.net_ready.proofs.MadeUsed.{all_along, all_named}
use Rattle.net_build.specs.declared.order.Task.{Task}
use Rattle.net_build.specs.declared.order.Task.TheVariants.{Visit, Place}
use Rattle.net_build.specs.Tasks.{visits, Opens}
use Rattle.net_build.specs.Turns.{used_by, total, visit_turns, turns}

-- each number of a list is in it
each_held : (ms : List ℕ) → AllByRecursion (λ m. holds ms m ≡ true) ms
each_held [] = tt
each_held (m ∷ ms) =
    (or_left (m == m) (holds ms m) (eq-eqb m m refl), all_along (λ n h. or_right (m == n) (holds ms n) h) ms (each_held ms))

-- what is so of each number of a list is so of one that is in it
of_held : (P : ℕ → Type 0) (ms : List ℕ) (n : ℕ) → AllByRecursion P ms → holds ms n ≡ true → P n
of_held P [] n all h = absurd cc
of_held P (m ∷ ms) n all h =
    elim (or_cases (m == n) (holds ms n) h) as (λ _. P n) [
      | inl here ↦ subst P (eqb-true m n here) all.0
      | inr later ↦ of_held P ms n all.1 later
    ]

-- what stands in a body is used
is_use : (state : List Made) (a b : ℕ) → holds (used_by state a) b ≡ true → Uses state a b
is_use [] a b h = absurd cc
is_use (it ∷ state) zero b h = (it, refl, of_held (λ n. names_made it.body n ≡ true) (made_in it.body) b (all_named it.body) h)
is_use (it ∷ state) (suc a) b h = is_use state a b h

used_by_body : (state : List Made) (m : ℕ) (it : Made) → slice_get state m ≡ Some it → used_by state m ≡ made_in it.body
used_by_body [] m it is = absurd (none-some it is)
used_by_body (jt ∷ state) zero it is = ap (λ (k : Made). made_in k.body) (same_Some jt it is)
used_by_body (jt ∷ state) (suc m) it is = used_by_body state m it is

-- functions that give the same give the same together
same_total : (f g : ℕ → ℕ) (ms : List ℕ) → AllByRecursion (λ m. f m ≡ g m) ms → total f ms ≡ total g ms
same_total f g [] same = refl
same_total f g (m ∷ ms) same = λ i. same.0 i + same_total f g ms same.1 i

module _ (state : List Made) (none : IsAcyclic state) (there : UsesAreThere state) where
  abbrev goes : ℕ → ℕ → Bool
  goes a b = holds (used_by state a) b

  -- how deep its uses go: less than the made definitions are many
  abbrev depth : ℕ → ℕ
  depth m = place_of goes (Uses state) (is_use state) none (length state) m

  depth_falls : (m n : ℕ) → goes m n ≡ true → depth n < depth m
  depth_falls m n h = place_earlier goes (Uses state) (is_use state) none (length state) m n (there m n (is_use state m n h)) h

  -- below that depth nothing is left
  turns_settle : (d m : ℕ) → depth m < d → visit_turns state (suc d) m ≡ visit_turns state d m
  turns_settle zero m l = absurd (omega (arith, l))
  turns_settle (suc d) m l =
      ap (λ k. 2 + k)
      (same_total (λ n. visit_turns state (suc d) n) (λ n. visit_turns state d n) (used_by state m)
      (all_along (λ n h. turns_settle d n (omega (arith, l, depth_falls m n h))) (used_by state m) (each_held (used_by state m))))

  visit_takes : (m : ℕ) → m < length state → 2 + total (λ n. visit_turns state (length state) n) (used_by state m) ≡ visit_turns state (length state) m
  visit_takes m l = turns_settle (length state) m (place_within goes (Uses state) (is_use state) none (length state) m l)

-- visits, and then other tasks
turns_of_visits : (state : List Made) (us : List ℕ) (tasks : List Task)
    → turns state (visits us ++ tasks) ≡ total (λ n. visit_turns state (length state) n) us + turns state tasks
turns_of_visits state [] tasks = omega arith
turns_of_visits state (u ∷ us) tasks = let rest = turns_of_visits state us tasks in omega (arith, rest)

some_turn : (state : List Made) (d m : ℕ) → 0 < visit_turns state d m
some_turn state zero m = omega arith
some_turn state (suc d) m = omega arith

-- after a visit that opens nothing
pub fewer_visited : (state : List Made) (m : ℕ) (tasks : List Task) → turns state tasks < turns state (Visit m ∷ tasks)
fewer_visited state m tasks =
    let some = some_turn state (length state) m in
    let fewer : turns state tasks < visit_turns state (length state) m + turns state tasks = omega (arith, some) in
    fewer

-- after one that opens what it uses
pub fewer_opened : (state : List Made) (m : ℕ) (before after : List Task) → IsAcyclic state → UsesAreThere state → m < length state
    → Opens state m before after → turns state after < turns state (Visit m ∷ before)
fewer_opened state m before after none there l opens =
    let body : opens.uses ≡ used_by state m = opens.of.are ∙ sym (used_by_body state m opens.of.it opens.of.is) in
    let all : turns state after ≡ total (λ n. visit_turns state (length state) n) opens.uses + (1 + turns state before) =
    ap (turns state) opens.are ∙ turns_of_visits state opens.uses (Place m ∷ before) in
    let own : 2 + total (λ n. visit_turns state (length state) n) opens.uses ≡ visit_turns state (length state) m =
    ap (λ ms. 2 + total (λ n. visit_turns state (length state) n) ms) body ∙ visit_takes state none there m l in
    let fewer : turns state after < visit_turns state (length state) m + turns state before = omega (arith, all, own) in
    fewer

-- after one is put at its place
pub fewer_placed : (state : List Made) (m : ℕ) (tasks : List Task) → turns state tasks < turns state (Place m ∷ tasks)
fewer_placed state m tasks =
    let fewer : turns state tasks < 1 + turns state tasks = omega arith in
    fewer
