-- Where a sound flat net has no loop, its cells are put in order one by one: as long as some are left, one of them waits for none of
-- the others. If each waited for another one left, there would be a loop.
use Rattle.std.proofs.Common.{◌≡◌, ℕ, zero, suc, ◌+◌, ◌<◌, ◌==◌, Bool, true, false, not, ◌&&◌, ◌||◌, List, [], ◌∷◌, ◌++◌, length, get_or, Option, Some, None, slice_get, ◌⊎◌, inl, inr, refl, ap, sym, subst, ◌∙◌, arith}
use Rattle.std.specs.Prelude.{option_and_then, option_map}
use Rattle.std.specs.List.{list_any}
use Rattle.std.proofs.lemmas.Bool.{and_parts, and_from, eqb-true, eq-eqb, not-true, not_from_false, or_parts}
use Rattle.std.proofs.lemmas.List.{get_or_append_left, length_push}
use Rattle.chw_base.specs.declared.index.WireId.{WireId}
use Rattle.netlist.specs.Feeds.{Feeds, awaited, awaited_at, awaited_wire, target_at}
use Rattle.netlist.specs.Orders.{HasNoLoop, OrdersCells}
use Rattle.netlist.specs.Sound.{Sound}
use Rattle.netlist.specs.declared.net.Cell.{Cell}
use Rattle.netlist.specs.declared.net.Flat.{Flat}
use Rattle.netlist.proofs.Closing.{a_loop}
use Rattle.netlist.proofs.Driven.{target_here, target_is_wire}
use Rattle.netlist.proofs.Finite.{some_below, some_below_if, some_below_says, some_or_none, twice}
use Rattle.netlist.proofs.Lists.{push_split, target_within}
use Rattle.netlist.proofs.Periods.{period}

-- a test that some item passes, and one that none does
any_at : {X : Type 0} (test : X → Bool) (xs : List X) → list_any test xs ≡ true → (k : ℕ) × (x : X) × (slice_get xs k ≡ Some x) × (test x ≡ true)
any_at test [] e = absurd (cc)
any_at {X = X} test (x ∷ xs) e = by_first (test x) refl e (λ e. any_at test xs e)
  where
    by_first : (b : Bool) → test x ≡ b → (b || list_any test xs) ≡ true
        → (list_any test xs ≡ true → (k : ℕ) × (y : X) × (slice_get xs k ≡ Some y) × (test y ≡ true))
        → (k : ℕ) × (y : X) × (slice_get (x ∷ xs) k ≡ Some y) × (test y ≡ true)
    by_first true is e rest = (0, x, refl, is)
    by_first false is e rest = let r = rest e in (suc r.0, r.1, r.2, r.3)

none_at : {X : Type 0} (test : X → Bool) (xs : List X) (k : ℕ) (x : X) → list_any test xs ≡ false → slice_get xs k ≡ Some x → test x ≡ false
none_at test [] k x e at = absurd (cc)
none_at test (y ∷ xs) zero x e at = let is : y ≡ x = cc in subst (λ x. test x ≡ false) is (or_parts (test y) _ e).0
none_at test (y ∷ xs) (suc k) x e at = none_at test xs k x (or_parts (test y) _ e).1 at

-- whether the cell at a place is among those that are placed
is_placed : List ℕ → ℕ → Bool
is_placed placed p = list_any (λ q. q == p) placed

placed_at : (placed : List ℕ) (p : ℕ) → is_placed placed p ≡ true → (i : ℕ) × (i < length placed) × (get_or placed i 0 ≡ p)
unfolding is_placed
placed_at [] p e = absurd (cc)
placed_at (q ∷ placed) p e = by_first (q == p) refl e (λ e. placed_at placed p e)
  where
    by_first : (b : Bool) → (q == p) ≡ b → (b || list_any (λ q. q == p) placed) ≡ true
        → (list_any (λ q. q == p) placed ≡ true → (i : ℕ) × (i < length placed) × (get_or placed i 0 ≡ p))
        → (i : ℕ) × (i < length (q ∷ placed)) × (get_or (q ∷ placed) i 0 ≡ p)
    by_first true is e rest = (0, omega arith, eqb-true q p is)
    by_first false is e rest = let r = rest e in (suc r.0, omega (arith, r.1), r.2)

not_placed : (placed : List ℕ) (p i : ℕ) → is_placed placed p ≡ false → i < length placed → get_or placed i 0 ≡ p → ⊥
unfolding is_placed
not_placed [] p i e lt is = absurd (omega (arith, lt))
not_placed (q ∷ placed) p zero e lt is = let unlike = (or_parts (q == p) _ e).0 in let like = eq-eqb q p is in absurd (cc)
not_placed (q ∷ placed) p (suc i) e lt is = not_placed placed p i (or_parts (q == p) _ e).1 (omega (arith, lt)) is

abbrev is_number : Option ℕ → ℕ → Bool
is_number None w = false
is_number (Some v) w = v == w

is_number_says : (o : Option ℕ) (w : ℕ) → is_number o w ≡ true → o ≡ Some w
is_number_says None w e = absurd (cc)
is_number_says (Some v) w e = ap Some (eqb-true v w e)

is_number_if : (o : Option ℕ) (w : ℕ) → o ≡ Some w → is_number o w ≡ true
is_number_if None w e = absurd (cc)
is_number_if (Some v) w e = let is : v ≡ w = cc in eq-eqb v w is

abbrev awaits_of : Option Cell → List WireId
awaits_of None = []
awaits_of (Some cell) = awaited cell

awaits_says : (o : Option Cell) (k : ℕ) (v : WireId) → slice_get (awaits_of o) k ≡ Some v → option_and_then (λ cell. awaited_wire cell k) o ≡ Some v.number
awaits_says None k v e = absurd (cc)
awaits_says (Some cell) k v e = ap (option_map (λ w. w.number)) e

awaits_if : (o : Option Cell) (k w : ℕ) → option_and_then (λ cell. awaited_wire cell k) o ≡ Some w
    → (v : WireId) × (slice_get (awaits_of o) k ≡ Some v) × (v.number ≡ w)
awaits_if None k w e = absurd (cc)
awaits_if (Some cell) k w e = from (slice_get (awaited cell) k) refl e
  where
    from : (o : Option WireId) → slice_get (awaited cell) k ≡ o → option_map (λ (w : WireId). w.number) o ≡ Some w
        → (v : WireId) × (slice_get (awaited cell) k ≡ Some v) × (v.number ≡ w)
    from None at e = absurd (cc)
    from (Some v) at e = (v, at, cc)

module _ (flat : Flat) (sound : Sound flat) (no_loop : HasNoLoop flat) where
  -- some cells in order, each after those that it waits for
  record Begun (placed : List ℕ) : Type 0 where
    within : (i : ℕ) → i < length placed → get_or placed i 0 < length flat.cells
    once : (i j : ℕ) → i < length placed → j < length placed → get_or placed i 0 ≡ get_or placed j 0 → i ≡ j
    after : (j k w place : ℕ) → j < length placed → awaited_at flat.cells (get_or placed j 0) k ≡ Some w → target_at flat.cells place ≡ Some w
        → (i : ℕ) × (i < j) × (get_or placed i 0 ≡ place)

  -- a cell that is left drives the wire
  leaves : List ℕ → ℕ → ℕ → Bool
  leaves placed w p = is_number (target_at flat.cells p) w && not (is_placed placed p)

  is_open : List ℕ → ℕ → Bool
  is_open placed w = some_below (leaves placed w) (length flat.cells)

  open_says : (placed : List ℕ) (w : ℕ) → is_open placed w ≡ true
      → (p : ℕ) × (p < length flat.cells) × (target_at flat.cells p ≡ Some w) × (is_placed placed p ≡ false)
  unfolding is_open leaves
  open_says placed w e =
      let s = some_below_says (leaves placed w) (length flat.cells) e in
      let both = and_parts (is_number (target_at flat.cells s.0) w) _ s.2 in
      (s.0, s.1, is_number_says (target_at flat.cells s.0) w both.0, not-true (is_placed placed s.0) both.1)

  open_if : (placed : List ℕ) (w p : ℕ) → target_at flat.cells p ≡ Some w → is_placed placed p ≡ false → is_open placed w ≡ true
  unfolding is_open leaves
  open_if placed w p t left =
      some_below_if (leaves placed w) (length flat.cells) p (target_within flat.cells p w t)
      (and_from (is_number (target_at flat.cells p) w) _ (is_number_if (target_at flat.cells p) w t) (not_from_false (is_placed placed p) left))

  -- the wires that the cell at a place waits for
  waits : ℕ → List WireId
  waits p = awaits_of (slice_get flat.cells p)

  -- a cell that is left waits for none that is left
  is_ready : List ℕ → ℕ → Bool
  is_ready placed p = not (is_placed placed p) && not (list_any (λ (v : WireId). is_open placed v.number) (waits p))

  -- what a cell that is ready waits for is placed
  ready_waits : (placed : List ℕ) (p k w place : ℕ) → is_ready placed p ≡ true → awaited_at flat.cells p k ≡ Some w → target_at flat.cells place ≡ Some w
      → (i : ℕ) × (i < length placed) × (get_or placed i 0 ≡ place)
  unfolding is_ready waits
  ready_waits placed p k w place ready awaits t = from (is_placed placed place) refl
    where
      from : (b : Bool) → is_placed placed place ≡ b → (i : ℕ) × (i < length placed) × (get_or placed i 0 ≡ place)
      from true e = placed_at placed place e
      from false e =
          let v = awaits_if (slice_get flat.cells p) k w awaits in
          let no_open = not-true (list_any (λ (v : WireId). is_open placed v.number) (waits p)) (and_parts (not (is_placed placed p)) _ ready).1 in
          let fails = none_at (λ (v : WireId). is_open placed v.number) (waits p) k v.0 no_open v.1 in
          let passes = open_if placed v.0.number place (t ∙ ap Some (sym v.2)) e in absurd (cc)

  ready_left : (placed : List ℕ) (p : ℕ) → is_ready placed p ≡ true → is_placed placed p ≡ false
  unfolding is_ready
  ready_left placed p ready = not-true (is_placed placed p) (and_parts (not (is_placed placed p)) _ ready).0

  -- the cell at a place after one more is one of those before, or this one
  abbrev At : List ℕ → ℕ → ℕ → Type 0
  At placed p i = ((i < length placed) × (get_or (placed ++ p ∷ []) i 0 ≡ get_or placed i 0)) ⊎ ((i ≡ length placed) × (get_or (placed ++ p ∷ []) i 0 ≡ p))

  -- one more cell in order
  placed_more : (placed : List ℕ) (p : ℕ) → Begun placed → p < length flat.cells → is_ready placed p ≡ true → Begun (placed ++ p ∷ [])
  placed_more placed p b lt ready = record {
    within = λ i l. within i (push_split placed p i 0 l);
    once = λ i j l m e. once i j (push_split placed p i 0 l) (push_split placed p j 0 m) e;
    after = λ j k w place l awaits t. after j k w place (push_split placed p j 0 l) awaits t;
  }
    where
      within : (i : ℕ) → At placed p i → get_or (placed ++ p ∷ []) i 0 < length flat.cells
      within i (inl x) = let l = b.within i x.0 in omega (arith, l, x.1)
      within i (inr x) = omega (arith, lt, x.1)

      once : (i j : ℕ) → At placed p i → At placed p j → get_or (placed ++ p ∷ []) i 0 ≡ get_or (placed ++ p ∷ []) j 0 → i ≡ j
      once i j (inl x) (inl y) e = b.once i j x.0 y.0 (sym x.1 ∙ e ∙ y.1)
      once i j (inl x) (inr y) e = absurd (not_placed placed p i (ready_left placed p ready) x.0 (sym x.1 ∙ e ∙ y.1))
      once i j (inr x) (inl y) e = absurd (not_placed placed p j (ready_left placed p ready) y.0 (sym y.1 ∙ sym e ∙ x.1))
      once i j (inr x) (inr y) e = x.0 ∙ sym y.0

      after : (j k w place : ℕ) → At placed p j → awaited_at flat.cells (get_or (placed ++ p ∷ []) j 0) k ≡ Some w → target_at flat.cells place ≡ Some w
          → (i : ℕ) × (i < j) × (get_or (placed ++ p ∷ []) i 0 ≡ place)
      after j k w place (inl x) awaits t =
          let r = b.after j k w place x.0 (ap (λ q. awaited_at flat.cells q k) (sym x.1) ∙ awaits) t in
          (r.0, r.1, get_or_append_left placed (p ∷ []) 0 r.0 (omega (arith, r.1, x.0)) ∙ r.2)
      after j k w place (inr x) awaits t =
          let r = ready_waits placed p k w place ready (ap (λ q. awaited_at flat.cells q k) (sym x.1) ∙ awaits) t in
          (r.0, omega (arith, r.1, x.0), get_or_append_left placed (p ∷ []) 0 r.0 r.1 ∙ r.2)

  -- where no cell is ready, none is left
  module _ (placed : List ℕ) (stuck : (p : ℕ) → p < length flat.cells → is_ready placed p ≡ false) where
    waiting : (p : ℕ) → p < length flat.cells → is_placed placed p ≡ false → list_any (λ (v : WireId). is_open placed v.number) (waits p) ≡ true
    unfolding is_ready
    waiting p lt left = from (list_any (λ (v : WireId). is_open placed v.number) (waits p)) refl
      where
        from : (b : Bool) → list_any (λ (v : WireId). is_open placed v.number) (waits p) ≡ b → b ≡ true
        from true e = refl
        from false e =
            let fails = stuck p lt in
            let passes = and_from (not (is_placed placed p)) _ (not_from_false (is_placed placed p) left) (not_from_false (list_any (λ (v : WireId). is_open placed v.number) (waits p)) e) in
            absurd (cc)

    -- the wire of a cell that is left is fed by another one
    fed : (w : ℕ) → is_open placed w ≡ true → (v : ℕ) × (is_open placed v ≡ true) × Feeds flat.cells v w
    unfolding waits
    fed w e =
        let p = open_says placed w e in
        let v = any_at (λ (v : WireId). is_open placed v.number) (waits p.0) (waiting p.0 p.1 p.3) in
        (v.1.number, v.3, (p.0, v.0, p.2, awaits_says (slice_get flat.cells p.0) v.0 v.1 v.2))

    next_of : (w : ℕ) (b : Bool) → is_open placed w ≡ b → ℕ
    next_of w true e = (fed w e).0
    next_of w false e = w

    next : ℕ → ℕ
    next w = next_of w (is_open placed w) refl

    next_of_open : (w : ℕ) (b : Bool) (e : is_open placed w ≡ b) → is_open placed w ≡ true
        → (is_open placed (next_of w b e) ≡ true) × Feeds flat.cells (next_of w b e) w
    unfolding next_of
    next_of_open w true e o = ((fed w e).1, (fed w e).2)
    next_of_open w false e o = absurd (cc)

    next_open : (w : ℕ) → is_open placed w ≡ true → (is_open placed (next w) ≡ true) × Feeds flat.cells (next w) w
    unfolding next
    next_open w o = next_of_open w (is_open placed w) refl o

    none_open : (w : ℕ) → is_open placed w ≡ true → ⊥
    none_open w o =
        let p = period next (is_open placed) (length flat.widths)
        (λ w o. (let p = open_says placed w o in target_is_wire flat sound p.0 w p.2))
        (λ w o. (next_open w o).0) w o in
        let l = a_loop flat next (is_open placed) (λ w o. (next_open w o).0) (λ w o. (next_open w o).1) p in
        no_loop l.0 l.1

    all_placed : (p : ℕ) → p < length flat.cells → (i : ℕ) × (i < length placed) × (get_or placed i 0 ≡ p)
    all_placed p lt = from (is_placed placed p) refl
      where
        from : (b : Bool) → is_placed placed p ≡ b → (i : ℕ) × (i < length placed) × (get_or placed i 0 ≡ p)
        from true e = placed_at placed p e
        from false e =
            let t = target_here flat sound p lt in
            absurd (none_open t.0 (open_if placed t.0 p t.1 e))

  -- no more cells are placed than there are
  too_many : (placed : List ℕ) → Begun placed → length placed ≡ suc (length flat.cells) → ⊥
  too_many placed b e =
      let t = twice (length flat.cells) (λ i. get_or placed i 0) (λ i le. b.within i (omega (arith, le, e))) in
      let same = b.once t.i t.j (omega (arith, t.before, t.within, e)) (omega (arith, t.within, e)) t.same in
      omega (arith, same, t.before)

  ordered : (n : ℕ) (placed : List ℕ) → Begun placed → length placed + n ≡ suc (length flat.cells) → (places : List ℕ) × OrdersCells flat.cells places
  ordered zero placed b e = absurd (too_many placed b (omega (arith, e)))
  ordered (suc n) placed b e =
      from (some_or_none (is_ready placed) (length flat.cells)) (λ p b. ordered n (placed ++ p ∷ []) b (omega (arith, e, length_push placed p)))
    where
      from : ((p : ℕ) × (p < length flat.cells) × (is_ready placed p ≡ true)) ⊎ ((p : ℕ) → p < length flat.cells → is_ready placed p ≡ false)
          → ((p : ℕ) → Begun (placed ++ p ∷ []) → (places : List ℕ) × OrdersCells flat.cells places) → (places : List ℕ) × OrdersCells flat.cells places
      from (inl x) rest = rest x.0 (placed_more placed x.0 b x.1 x.2)
      from (inr stuck) rest = (placed, record { within = b.within; once = b.once; all = all_placed placed stuck; after = b.after })

  pub an_order : (places : List ℕ) × OrdersCells flat.cells places
  an_order = ordered (suc (length flat.cells)) [] (record { within = λ i lt. absurd (omega (arith, lt)); once = λ i j lt lt' e. absurd (omega (arith, lt)); after = λ j k w place lt awaits t. absurd (omega (arith, lt)) }) (omega arith)
