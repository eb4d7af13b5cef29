-- The first blocked place of a state, by those of its made definitions.
use Rattle.std.proofs.Common.{◌≡◌, ◌⊎◌, inl, inr, ℕ, zero, suc, ◌<◌, ◌≤◌, ◌+◌, refl, sym, ◌∙◌}
use Rattle.std.proofs.Common.{subst, arith, List, [], ◌∷◌, length, true, false, Option, Some, None}
use Rattle.std.proofs.lemmas.Bool.{cases_lt, false≢true}
use Rattle.std.specs.List.{slice_get}
use Rattle.std.specs.Option.{is_some}
use Rattle.chw_terms.specs.declared.program.Program.{Program}
use Rattle.chw_terms.specs.declared.scene.Made.{Made}
use Rattle.rewriting.specs.Origins.{made_of}
use Rattle.rewriting.specs.Steps.{origins_in}
use Rattle.normal_forms.specs.Blocked.{BlockedPlace, HasBlocked, IsBlocked, IsBlockedBefore}
use Rattle.blocked_places.specs.Answers.{block_of}
use Rattle.blocked_places.specs.Walks.{IsFirstAt}
use Rattle.blocked_places.specs.declared.bodies.BlockedPart.{BlockedPart}
use Rattle.judge.specs.States.{FindsBlocked, FindsBlockedIn, IsFirstBlockedIn}
use Rattle.judge.specs.States.{IsPlacedIn, place_of}
use Rattle.judge.specs.Verdicts.{Judges}
use Rattle.judge.specs.declared.judging.Verdict.{Verdict}
use Rattle.judge.specs.declared.judging.Verdict.TheVariants.{Normal, Blocked}
use Rattle.judge.specs.declared.states.BlockedAt.{BlockedAt}

one_made : (made : List Made) (n k : ℕ) (a b : Made)
    → k ≡ n → slice_get made n ≡ Some a → slice_get made k ≡ Some b → b ≡ a
one_made made n k a b is x y = cc

-- what blocks the made definition of a number is of its body
of_body : (p : Program) (state : List Made) (it : Made) (n : ℕ) (at : BlockedPlace)
    → slice_get state n ≡ Some it → at.number ≡ n → HasBlocked p state at
    → IsBlocked (origins_in p state) (made_of it) it.body at.path at.block
of_body p state it n at is same h =
    subst (λ (z : Made). IsBlocked (origins_in p state) (made_of z) z.body at.path at.block)
    (one_made state n at.number it h.0 same is h.1) h.2

-- what blocks a body first is the first blocked place of its made definition
pub first_in : (p : Program) (state : List Made) (it : Made) (n : ℕ) (part : BlockedPart)
    (verdict : Verdict) (found : BlockedAt) → slice_get state n ≡ Some it
    → verdict ≡ Blocked part → IsPlacedIn n part found
    → Judges (origins_in p state) (made_of it) it.body verdict
    → FindsBlockedIn p state n (Some found)
first_in p state it n part verdict found is blocked placed judged =
    subst (IsFirstBlockedIn p state n) (sym there)
    (record { in_it = refl; blocked = (it, is, x.it); first = first; distinct = x.distinct })
  where
    x : IsFirstAt (IsBlocked (origins_in p state) (made_of it) it.body) part.path.items
        (block_of part.block)
    x = (subst (Judges (origins_in p state) (made_of it) it.body) blocked judged).1

    place : BlockedPlace
    place = record { number = n; path = part.path.items; block = block_of part.block }

    there : place_of found ≡ place
    there i =
        record { number = placed.0 i; path = placed.1 i; block = block_of (placed.2 i) }

    first : (other : BlockedPlace) → other.number ≡ n → HasBlocked p state other
        → IsBlockedBefore other place → ⊥
    first other same h (inl l) = omega (arith, l, same)
    first other same h (inr q) =
        x.first other.path other.block (of_body p state it n other is same h) q.1

-- and where nothing blocks the body, it has none
pub none_in : (p : Program) (state : List Made) (it : Made) (n : ℕ) (verdict : Verdict)
    → slice_get state n ≡ Some it → verdict ≡ Normal
    → Judges (origins_in p state) (made_of it) it.body verdict → FindsBlockedIn p state n None
none_in p state it n verdict is normal x at same h =
    let judged = subst (Judges (origins_in p state) (made_of it) it.body) normal x in
    judged.1 at.path at.block (of_body p state it n at is same h)

-- no place is blocked in the made definitions before this number
abbrev pub IsFreeBelow : Program → List Made → ℕ → Type 0
IsFreeBelow p state n = (at : BlockedPlace) → at.number < n → HasBlocked p state at → ⊥

pub free_below_first : (p : Program) (state : List Made) → IsFreeBelow p state 0
free_below_first p state at l h = omega (arith, l)

pub free_below_next : (p : Program) (state : List Made) (n : ℕ) (answer : Option BlockedAt)
    → is_some answer ≡ false → IsFreeBelow p state n → FindsBlockedIn p state n answer
    → IsFreeBelow p state (n + 1)
free_below_next p state n (Some found) empty free x at l h = absurd (false≢true (sym empty))
free_below_next p state n None empty free x at l h = by (cases_lt at.number n)
  where
    by : (at.number < n) ⊎ (n ≤ at.number) → ⊥
    by (inl k) = free at k h
    by (inr k) = let is : at.number ≡ n = omega (arith, l, k) in x at is h

within : (state : List Made) (n : ℕ) (it : Made) → slice_get state n ≡ Some it → n < length state
within [] n it h = absurd cc
within (x ∷ state) zero it h = omega arith
within (x ∷ state) (suc n) it h = omega (arith, within state n it h)

pub free_everywhere : (p : Program) (state : List Made) (n : ℕ) → length state ≤ n
    → IsFreeBelow p state n → FindsBlocked p state None
free_everywhere p state n l free at h =
    free at (omega (arith, l, within state at.number h.0 h.1)) h

-- the first place of a made definition is the first of all, where there is none before it
pub first_of_all : (p : Program) (state : List Made) (n : ℕ) (answer : Option BlockedAt)
    → is_some answer ≡ true → IsFreeBelow p state n → FindsBlockedIn p state n answer
    → FindsBlocked p state answer
first_of_all p state n None some free x = absurd (false≢true some)
first_of_all p state n (Some found) some free x =
    record { blocked = x.blocked; first = first; distinct = x.distinct }
  where
    first : (other : BlockedPlace) → HasBlocked p state other
        → IsBlockedBefore other (place_of found) → ⊥
    first other h before = by (cases_lt other.number n) before
      where
        by : (other.number < n) ⊎ (n ≤ other.number) → IsBlockedBefore other (place_of found) → ⊥
        by (inl k) b = free other k h
        by (inr k) (inl b) =
            let is : found.made.number ≡ n = x.in_it in omega (arith, k, b, is)
        by (inr k) (inr b) = x.first other (b.0 ∙ x.in_it) h (inr b)
