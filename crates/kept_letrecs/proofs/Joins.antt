-- Bindings stay reached where a letrec that is a right side joins.
use Rattle.std.proofs.Common.{◌≡◌, ◌∙◌, ◌⊎◌, inl, inr, sym, ap, refl, subst, ℕ, suc, ◌+◌, ◌-◌, ◌<◌, ◌≤◌, true, Some, ◌||◌, arith}
use Rattle.std.proofs.lemmas.Bool.{cases_lt, or_cases}
use Rattle.chw_types.specs.TypeMoves.{Renaming, raised}
use Rattle.chw_types.specs.TypeTree.{TypeTree}
use Rattle.chw_types.proofs.TypeMoved.{raised_below, raised_above}
use Rattle.chw_terms.specs.Occurs.{occurs, occurs_group}
use Rattle.chw_terms.specs.TermMoves.{rename, rename_group, exchanged}
use Rattle.chw_terms.specs.TermTree.{TermTree, letrec, Group, bind, size_of}
use Rattle.chw_terms.proofs.Renamed.{size_renamed}
use Rattle.chw_typing.specs.Groups.{joined, binding_at, Reached, from_body, from_side}
use Rattle.chw_typing.proofs.GroupParts.{size_joined, second_of_joined}
use Rattle.chw_typing.proofs.Occurrences.{occurs_brought}
use Rattle.kept_letrecs.specs.Laws.{ReachedAfterJoin}
use Rattle.kept_letrecs.specs.Resting.{AllReached}
use Rattle.kept_letrecs.proofs.Places.{old_variable, old_place, inner_variable, outer_variable, renamed_at, first_there, kept_or_side, HasSideWith, side_with}

occurs_in_letrec : (g : Group) (e : TermTree) (v : ℕ) → occurs (letrec g e) v ≡ (occurs_group g (v + size_of g) || occurs e (v + size_of g))
unfolding occurs
occurs_in_letrec g e v = refl

module _ (front : Group) (t : TypeTree) (cs : Group) (x : TermTree) (back : Group) (e : TermTree) (all_inner : AllReached cs x) where
  abbrev f : ℕ
  f = size_of front

  abbrev m : ℕ
  m = size_of cs

  abbrev n : ℕ
  n = suc (size_of back)

  abbrev room : Renaming
  room = raised n m

  abbrev swap : Renaming
  swap = exchanged m n

  abbrev old : Group
  old = joined front (bind t (letrec cs x) back)

  abbrev behind : Group
  behind = joined (rename_group cs swap) (bind t (rename x swap) (rename_group back room))

  abbrev new : Group
  new = joined (rename_group front room) behind

  old_size : size_of old ≡ f + n
  old_size = size_joined front (bind t (letrec cs x) back)

  new_size : size_of new ≡ f + (m + n)
  new_size =
      let whole : size_of new ≡ size_of (rename_group front room) + size_of behind = size_joined (rename_group front room) behind in
      let rest : size_of behind ≡ size_of (rename_group cs swap) + suc (size_of (rename_group back room)) = size_joined (rename_group cs swap) (bind t (rename x swap) (rename_group back room)) in
      let first = size_renamed front room in
      let inner = size_renamed cs swap in
      let last = size_renamed back room in
      omega (arith, whole, rest, first, inner, last)

  -- a place of the new group, and its variable
  abbrev IsThere : TermTree → ℕ → Type 0
  IsThere y i = (i < size_of new) × (occurs y (size_of new - 1 - i) ≡ true)

  brought : (y : TermTree) (ρ : Renaming) (v i : ℕ) → occurs y v ≡ true → i < f + (m + n) → ρ v ≡ f + (m + n) - 1 - i → IsThere (rename y ρ) i
  brought y ρ v i o l q =
      let at : ρ v ≡ size_of new - 1 - i = q ∙ ap (λ k. k - 1 - i) (sym new_size) in
      (subst (λ k. i < k) (sym new_size) l, (occurs_brought y ρ (size_of new - 1 - i)).1 (v, o, at))

  abbrev IsIn : ℕ → Type 0
  IsIn i = Reached new (rename e room) i

  by_side : (i j : ℕ) (b : TypeTree × TermTree) → IsIn j → binding_at new j ≡ Some b → IsThere b.1 i → IsIn i
  by_side i j b r is o = from_side r is o.0 o.1

  -- places behind the front
  behind_front : (i : ℕ) → binding_at new (f + i) ≡ binding_at behind i
  behind_front i = ap (λ k. binding_at new (k + i)) (sym (size_renamed front room)) ∙ second_of_joined (rename_group front room) behind i

  side_there : binding_at new (f + m) ≡ Some (t, rename x swap)
  side_there =
      let size = size_renamed cs swap in
      let place : m ≡ size_of (rename_group cs swap) + 0 = omega (arith, size) in
      behind_front m ∙ ap (binding_at behind) place ∙ second_of_joined (rename_group cs swap) (bind t (rename x swap) (rename_group back room)) 0

  inner_there : (k : ℕ) (b : TypeTree × TermTree) → binding_at cs k ≡ Some b → binding_at new (f + k) ≡ Some (b.0, rename b.1 swap)
  inner_there k b is =
      behind_front k ∙ first_there (rename_group cs swap) (bind t (rename x swap) (rename_group back room)) k (b.0, rename b.1 swap) (renamed_at cs swap k b is)

  -- the bindings that join, where the side is reached
  inner_occurs : (y : TermTree) (k : ℕ) → k < m → occurs y (m - 1 - k) ≡ true → IsThere (rename y swap) (f + k)
  inner_occurs y k l o = brought y swap (m - 1 - k) (f + k) o (omega (arith, l)) (inner_variable f m n k l)

  inner_reached : IsIn (f + m) → (k : ℕ) → Reached cs x k → IsIn (f + k)
  inner_reached r k (from_body l o) = by_side (f + k) (f + m) (t, rename x swap) r side_there (inner_occurs x k l o)
  inner_reached r k (from_side {j = j} {b = b} q is l o) =
      by_side (f + k) (f + j) (b.0, rename b.1 swap) (inner_reached r j q) (inner_there j b is) (inner_occurs b.1 k l o)

  -- a variable of the old group, in a term with room and in one of the inner letrec
  old_occurs : (y : TermTree) (i : ℕ) → i < f + n → occurs y (f + n - 1 - i) ≡ true → IsThere (rename y room) (raised f m i)
  old_occurs y i l o = brought y room (f + n - 1 - i) (raised f m i) o (old_place f m n i l) (old_variable f m n i l)

  outer_occurs : (y : TermTree) (i : ℕ) → i < f + n → occurs y (f + n - 1 - i + m) ≡ true → IsThere (rename y swap) (raised f m i)
  outer_occurs y i l o =
      brought y swap (f + n - 1 - i + m) (raised f m i) o (old_place f m n i l) (outer_variable m n (f + n - 1 - i) ∙ old_variable f m n i l)

  -- what the side reached
  by_inner : (i : ℕ) → i < f + n → IsIn (f + m) → HasSideWith cs (f + n - 1 - i + m) → IsIn (raised f m i)
  by_inner i l r h =
      by_side (raised f m i) (f + h.place) (h.binding.0, rename h.binding.1 swap) (inner_reached r h.place (all_inner h.place h.within)) (inner_there h.place h.binding h.is) (outer_occurs h.binding.1 i l h.there)

  by_letrec : (i : ℕ) → i < f + n → IsIn (f + m) → (occurs_group cs (f + n - 1 - i + m) ≡ true) ⊎ (occurs x (f + n - 1 - i + m) ≡ true) → IsIn (raised f m i)
  by_letrec i l r (inl o) = by_inner i l r (side_with cs (f + n - 1 - i + m) o)
  by_letrec i l r (inr o) = by_side (raised f m i) (f + m) (t, rename x swap) r side_there (outer_occurs x i l o)

  -- by a right side of the old group
  by_old : (i j : ℕ) (b : TypeTree × TermTree) → i < f + n → occurs b.1 (f + n - 1 - i) ≡ true → IsIn (raised f m j)
      → (binding_at new (raised f m j) ≡ Some (b.0, rename b.1 room)) ⊎ ((j ≡ f) × (b.1 ≡ letrec cs x)) → IsIn (raised f m i)
  by_old i j b l o r (inl is) = by_side (raised f m i) (raised f m j) (b.0, rename b.1 room) r is (old_occurs b.1 i l o)
  by_old i j b l o r (inr side) =
      let here : IsIn (f + m) = subst IsIn (ap (raised f m) side.0 ∙ raised_above f m f (omega arith)) r in
      let there : (occurs_group cs (f + n - 1 - i + m) || occurs x (f + n - 1 - i + m)) ≡ true = sym (occurs_in_letrec cs x (f + n - 1 - i)) ∙ ap (λ y. occurs y (f + n - 1 - i)) (sym side.1) ∙ o in
      by_letrec i l here (or_cases (occurs_group cs (f + n - 1 - i + m)) (occurs x (f + n - 1 - i + m)) there)

  within_old : (i : ℕ) → i < size_of old → i < f + n
  within_old i l = subst (λ k. i < k) old_size l

  occurs_old : (y : TermTree) (i : ℕ) → occurs y (size_of old - 1 - i) ≡ true → occurs y (f + n - 1 - i) ≡ true
  occurs_old y i o = subst (λ k. occurs y (k - 1 - i) ≡ true) old_size o

  from_old : (i : ℕ) → Reached old e i → IsIn (raised f m i)
  from_old i (from_body l o) = let h = old_occurs e i (within_old i l) (occurs_old e i o) in from_body h.0 h.1
  from_old i (from_side {j = j} {b = b} r is l o) =
      by_old i j b (within_old i l) (occurs_old b.1 i o) (from_old j r)
      (kept_or_side front t (letrec cs x) (rename x swap) back (rename_group cs swap) room m j b (size_renamed cs swap) is)

  -- each place of the new group
  module _ (all : AllReached old e) where
    old_reached : (i : ℕ) → i < f + n → IsIn (raised f m i)
    old_reached i l = from_old i (all i (subst (λ k. i < k) (sym old_size) l))

    side_reached : IsIn (f + m)
    side_reached = subst IsIn (raised_above f m f (omega arith)) (old_reached f (omega arith))

    from_side_on : (i : ℕ) → f ≤ i → i < f + (m + n) → (i < f + m) ⊎ (f + m ≤ i) → IsIn i
    from_side_on i a l (inl h) =
        let place : f + (i - f) ≡ i = omega (arith, a) in
        let within : i - f < m = omega (arith, a, h) in
        subst IsIn place (inner_reached side_reached (i - f) (all_inner (i - f) within))
    from_side_on i a l (inr h) =
        let back : i - m + m ≡ i = omega (arith, h) in
        subst IsIn (raised_above f m (i - m) (omega (arith, h)) ∙ back) (old_reached (i - m) (omega (arith, h, l)))

    each_place : (i : ℕ) → i < f + (m + n) → (i < f) ⊎ (f ≤ i) → IsIn i
    each_place i l (inl h) = subst IsIn (raised_below f m i h) (old_reached i (omega (arith, h)))
    each_place i l (inr h) = from_side_on i h l (cases_lt i (f + m))

    all_in : (i : ℕ) → i < size_of new → IsIn i
    all_in i l = each_place i (subst (λ k. i < k) new_size l) (cases_lt i f)

pub reached_by_join : ReachedAfterJoin
reached_by_join front t cs x back e all all_inner i l = all_in front t cs x back e all_inner all i l
