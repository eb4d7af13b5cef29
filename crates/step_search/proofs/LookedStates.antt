-- The places of a state at which a search looks.
use Rattle.std.proofs.Common.{◌≡◌, inl, inr, ℕ, suc, ◌<◌, refl, sym, ap, ◌∙◌, subst, arith, List, [], length, Some, slice_get}
use Rattle.chw_terms.specs.declared.program.Program.{Program}
use Rattle.chw_terms.specs.declared.rule.Rule.{Rule}
use Rattle.chw_terms.specs.declared.scene.Made.{Made}
use Rattle.chw_terms.specs.TermTree.{TermTree}
use Rattle.rewriting.specs.Named.{mode_of}
use Rattle.rewriting.specs.Steps.{HasStepBy, origins_in, Where}
use Rattle.step_order.specs.Sought.{IsSought, IsSoughtPath}
use Rattle.step_search.specs.Begins.{BeginsIn}
use Rattle.step_search.specs.Lambdas.{under_lambdas}
use Rattle.step_search.specs.Seen.{ComesBefore, GrowsBy, IsSeen, IsSoughtThere, LooksFrom, StatePath}
use Rattle.step_search.specs.SeenPaths.{IsSeenIn, IsSeenPath, LooksAtPaths, LooksIn}
use Rattle.step_search.proofs.Counts.{stays, grows_wider, grows_twice, grows_by_others}
use Rattle.step_search.proofs.States.{HasNoneBelow, is_place, step_in}

abbrev there : ℕ → List ℕ → StatePath
there n q = record { number = n; path = q }

sought_there : (n m : ℕ) (from left q : List ℕ) → BeginsIn n m from left → IsSoughtPath q left → IsSoughtThere m from (there n q)
sought_there n m from left q (inl h) s = inr (sym h.0, subst (IsSoughtPath q) h.1 s)
sought_there n m from left q (inr h) s = inl h.0

-- at the places of a made definition
seen_in_made : (rules : List Rule) (p : Program) (made : List Made) (it : Made) (n m : ℕ) (from left q : List ℕ)
    → slice_get made n ≡ Some it → BeginsIn n m from left
    → IsSeenPath rules (origins_in p made) (under_lambdas (origins_in p made) (mode_of it.sort) [] it.body it.ty) left q
    → IsSeenIn rules p made n m from (there n q)
seen_in_made rules p made it n m from left q at begins y = record {
  in_it = refl;
  active = record { it = it; is = at; at = y.at; term = y.term; place = is_place {it = it} y.place };
  sought = sought_there n m from left q begins y.sought;
  none_before = λ w new in_it s sought earlier.
      y.none_before w.path w.rule new (step_in rules p made it n m from left w new at begins in_it s sought) earlier;
}

pub looked_in_made : (rules : List Rule) (p : Program) (made : List Made) (it : Made) (n m : ℕ) (from left : List ℕ) (a b : ℕ)
    → slice_get made n ≡ Some it → BeginsIn n m from left
    → LooksAtPaths rules (origins_in p made) (under_lambdas (origins_in p made) (mode_of it.sort) [] it.body it.ty) left a b
    → LooksIn rules p made n m from a b
looked_in_made rules p made it n m from left a b at begins g =
    grows_by_others (length rules)
    (IsSeenPath rules (origins_in p made) (under_lambdas (origins_in p made) (mode_of it.sort) [] it.body it.ty) left)
    (IsSeenIn rules p made n m from) (there n) a b (λ q r h. ap (λ (x : StatePath). x.path) h)
    (λ q y. seen_in_made rules p made it n m from left q at begins y) g

-- at those of the made definitions before this number
abbrev pub LooksBelow : List Rule → Program → List Made → ℕ → ℕ → List ℕ → ℕ → ℕ → Type 0
LooksBelow rules p made n m from a b =
    GrowsBy (length rules) (λ (x : StatePath). (x.number < n) × IsSeen rules p made m from x) a b

pub looked_at_none : (rules : List Rule) (p : Program) (made : List Made) (n m : ℕ) (from : List ℕ) (a : ℕ)
    → LooksBelow rules p made n m from a a
looked_at_none rules p made n m from a = stays (length rules) (λ (x : StatePath). (x.number < n) × IsSeen rules p made m from x) a

-- in the next one, where no step is in those before it
seen_next : (rules : List Rule) (p : Program) (made : List Made) (n m : ℕ) (from : List ℕ) (x : StatePath)
    → HasNoneBelow rules p made n m from → IsSeenIn rules p made n m from x → IsSeen rules p made m from x
seen_next rules p made n m from x none y =
    record { active = y.active; sought = y.sought; none_before = before }
  where
    before : (w : Where) (new : TermTree) → HasStepBy rules p made w new → IsSought m from w → ComesBefore w x → ⊥
    before w new s sought (inl l) = let number : x.number ≡ n = y.in_it in none w new (omega (arith, l, number)) s sought
    before w new s sought (inr h) = y.none_before w new (h.0 ∙ y.in_it) s sought h.1

pub looked_below_next : (rules : List Rule) (p : Program) (made : List Made) (n m : ℕ) (from : List ℕ) (a b c : ℕ)
    → HasNoneBelow rules p made n m from → LooksBelow rules p made n m from a b → LooksIn rules p made n m from b c
    → LooksBelow rules p made (suc n) m from a c
looked_below_next rules p made n m from a b c none g h =
    grows_twice (length rules) (λ (x : StatePath). (x.number < n) × IsSeen rules p made m from x) (IsSeenIn rules p made n m from)
    (λ (x : StatePath). (x.number < suc n) × IsSeen rules p made m from x) a b c (λ x k. (omega (arith, k.0), k.1)) here apart g h
  where
    here : (x : StatePath) → IsSeenIn rules p made n m from x → (x.number < suc n) × IsSeen rules p made m from x
    here x y =
        let number : x.number ≡ n = y.in_it in
        (omega (arith, number), seen_next rules p made n m from x none y)

    apart : (x : StatePath) → (x.number < n) × IsSeen rules p made m from x → IsSeenIn rules p made n m from x → ⊥
    apart x k y = let number : x.number ≡ n = y.in_it in omega (arith, k.0, number)

pub looked_so_far : (rules : List Rule) (p : Program) (made : List Made) (n m : ℕ) (from : List ℕ) (a b : ℕ)
    → LooksBelow rules p made n m from a b → LooksFrom rules p made m from a b
looked_so_far rules p made n m from a b g =
    grows_wider (length rules) (λ (x : StatePath). (x.number < n) × IsSeen rules p made m from x) (IsSeen rules p made m from) a b (λ x k. k.1) g
