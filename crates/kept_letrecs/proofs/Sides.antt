-- Bindings stay reached where a right side changes.
use Rattle.std.proofs.Common.{◌≡◌, ◌⊎◌, inl, inr, ap, refl, subst, ℕ, zero, suc, ◌-◌, ◌<◌, true, Some, arith}
use Rattle.chw_types.specs.TypeTree.{TypeTree}
use Rattle.chw_terms.specs.Occurs.{occurs}
use Rattle.chw_terms.specs.TermTree.{TermTree, Group, no_bindings, bind, size_of}
use Rattle.chw_typing.specs.Groups.{joined, binding_at, Reached, from_body, from_side}
use Rattle.kept_letrecs.specs.Laws.{ReachedAfterSide}
use Rattle.kept_letrecs.specs.Resting.{KeepsVariables}

same_size : (front : Group) (t : TypeTree) (x x' : TermTree) (back : Group) → size_of (joined front (bind t x back)) ≡ size_of (joined front (bind t x' back))
same_size no_bindings t x x' back = refl
same_size (bind u y g) t x x' back = ap suc (same_size g t x x' back)

-- a binding stays, or is the one that changes
stays_or_changes : (front : Group) (t : TypeTree) (x x' : TermTree) (back : Group) (j : ℕ) (b : TypeTree × TermTree) → binding_at (joined front (bind t x back)) j ≡ Some b
    → (binding_at (joined front (bind t x' back)) j ≡ Some b) ⊎ ((b.1 ≡ x) × (binding_at (joined front (bind t x' back)) j ≡ Some (t, x')))
stays_or_changes no_bindings t x x' back zero b q = let side : b.1 ≡ x = cc in inr (side, refl)
stays_or_changes no_bindings t x x' back (suc j) b q = inl q
stays_or_changes (bind u y g) t x x' back zero b q = inl q
stays_or_changes (bind u y g) t x x' back (suc j) b q = stays_or_changes g t x x' back j b q

module _ (front : Group) (t : TypeTree) (x x' : TermTree) (back : Group) (e : TermTree) (keeps : KeepsVariables (size_of (joined front (bind t x back))) x x') where
  abbrev old : Group
  old = joined front (bind t x back)

  abbrev new : Group
  new = joined front (bind t x' back)

  same_within : (i : ℕ) → i < size_of old → i < size_of new
  same_within i l = subst (λ n. i < n) (same_size front t x x' back) l

  same_variable : (y : TermTree) (i : ℕ) → occurs y (size_of old - 1 - i) ≡ true → occurs y (size_of new - 1 - i) ≡ true
  same_variable y i o = subst (λ n. occurs y (n - 1 - i) ≡ true) (same_size front t x x' back) o

  -- by the right side of a binding that is reached
  from_changed : (i j : ℕ) (b : TypeTree × TermTree) → Reached new e j → i < size_of old → occurs b.1 (size_of old - 1 - i) ≡ true
      → (binding_at new j ≡ Some b) ⊎ ((b.1 ≡ x) × (binding_at new j ≡ Some (t, x'))) → Reached new e i
  from_changed i j b r l o (inl is) = from_side r is (same_within i l) (same_variable b.1 i o)
  from_changed i j b r l o (inr one) =
      let there : occurs x (size_of old - 1 - i) ≡ true = subst (λ y. occurs y (size_of old - 1 - i) ≡ true) one.0 o in
      from_side r one.1 (same_within i l) (same_variable x' i (keeps (size_of old - 1 - i) (omega (arith, l)) there))

  reached_still : (i : ℕ) → Reached old e i → Reached new e i
  reached_still i (from_body l o) = from_body (same_within i l) (same_variable e i o)
  reached_still i (from_side {j = j} {b = b} r is l o) = from_changed i j b (reached_still j r) l o (stays_or_changes front t x x' back j b is)

pub reached_by_side : ReachedAfterSide
reached_by_side front t x x' back e all keeps i l =
    reached_still front t x x' back e keeps i (all i (subst (λ n. i < n) (same_size front t x' x back) l))
