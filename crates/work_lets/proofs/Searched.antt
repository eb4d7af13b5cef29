-- How a search for reached bindings goes on, and what it ends with.
use Rattle.std.proofs.Common.{◌≡◌, ◌∙◌, ◌⊎◌, ◌||◌, ◌==◌, inl, inr, sym, ap, refl, subst, ℕ, zero, suc, ◌+◌, ◌-◌, ◌<◌, ◌≤◌, Bool, true, false, List, [], ◌∷◌, ◌++◌, length, set, replicate, Some, None, slice_get, Contains, arith, length-append}
use Rattle.std.proofs.lemmas.Bool.{true≢false, or_cases, eqb-true, eq-eqb}
use Rattle.std.proofs.Math.Bool.{or-true}
use Rattle.std.proofs.lemmas.List.{length-set, length-replicate}
use Rattle.std.proofs.lemmas.List.Elements.{Contains-append_left, Contains-push, Contains-push_cases}
use Rattle.std.proofs.lemmas.Option.{slice_get_within}
use Rattle.chw_types.specs.TypeTree.{TypeTree}
use Rattle.chw_terms.specs.declared.term.Binding.{Binding}
use Rattle.chw_terms.specs.Occurs.{occurs}
use Rattle.chw_terms.specs.TermTree.{TermTree, Group, size_of}
use Rattle.chw_terms.specs.TermView.{group_of}
use Rattle.chw_typing.specs.Groups.{binding_at, Reached, from_body, from_side}
use Rattle.rewriting.specs.Lets.{MarksReached}
use Rattle.work_lets.specs.declared.reached.Search.{Search}
use Rattle.work_lets.specs.Searching.{IsMarked, unmarked, NamesBinding, Noted}

-- no variable
names_none : (count i : ℕ) → NamesBinding (λ v. false) count i → ⊥
names_none count i n = true≢false (sym n.named)

-- one variable
names_one : (v count i : ℕ) → NamesBinding (λ x. v == x) count i → v ≡ count - 1 - i
names_one v count i n = eqb-true v (count - 1 - i) n.named

-- nothing is noted where no variable of the group's is there
pub noted_none : (s : Search) → Noted s (λ v. false) s
noted_none s = record {
  count = refl;
  kept = λ i m. m;
  all = λ i n. absurd (names_none (length s.marks.items) i n);
  new = λ i m. inl m;
  wait = λ i w. w;
  marked = λ i w. inl w;
  left = refl;
}

pub noted_outside : (s : Search) (v : ℕ) → length s.marks.items ≤ v → Noted s (λ x. v == x) s
noted_outside s v h = record {
  count = refl;
  kept = λ i m. m;
  all = λ i n. let e = names_one v (length s.marks.items) i n in let w = n.within in absurd (omega (arith, e, h, w));
  new = λ i m. inl m;
  wait = λ i w. w;
  marked = λ i w. inl w;
  left = refl;
}

-- nor where its binding is marked
pub noted_again : (s : Search) (v place : ℕ) → v < length s.marks.items → place ≡ length s.marks.items - 1 - v → IsMarked s.marks.items place → Noted s (λ x. v == x) s
noted_again s v place h p m = record {
  count = refl;
  kept = λ i m. m;
  all = λ i n.
      let e = names_one v (length s.marks.items) i n in
      let w = n.within in
      let same : place ≡ i = omega (arith, e, h, w, p) in
      subst (IsMarked s.marks.items) same m;
  new = λ i m. inl m;
  wait = λ i w. w;
  marked = λ i w. inl w;
  left = refl;
}

-- a mark that is set
set_here : (marks : List Bool) (i : ℕ) → i < length marks → slice_get (set marks i true) i ≡ Some true
set_here [] i h = absurd (omega (arith, h))
set_here (m ∷ marks) zero h = refl
set_here (m ∷ marks) (suc i) h = set_here marks i (omega (arith, h))

set_keeps : (marks : List Bool) (i j : ℕ) → slice_get marks j ≡ Some true → slice_get (set marks i true) j ≡ Some true
set_keeps [] i j m = absurd cc
set_keeps (n ∷ marks) zero zero m = refl
set_keeps (n ∷ marks) zero (suc j) m = m
set_keeps (n ∷ marks) (suc i) zero m = m
set_keeps (n ∷ marks) (suc i) (suc j) m = set_keeps marks i j m

set_new : (marks : List Bool) (i j : ℕ) → slice_get (set marks i true) j ≡ Some true → (slice_get marks j ≡ Some true) ⊎ (i ≡ j)
set_new [] i j m = inl m
set_new (n ∷ marks) zero zero m = inr refl
set_new (n ∷ marks) zero (suc j) m = inl m
set_new (n ∷ marks) (suc i) zero m = inl m
set_new (n ∷ marks) (suc i) (suc j) m = elim (set_new marks i j m) [ inl h ↦ inl h | inr e ↦ inr (ap suc e) ]

set_counts : (marks : List Bool) (i : ℕ) → slice_get marks i ≡ Some false → suc (unmarked (set marks i true)) ≡ unmarked marks
set_counts [] i m = absurd cc
set_counts (true ∷ marks) zero m = absurd (let e : true ≡ false = cc in true≢false e)
set_counts (false ∷ marks) zero m = refl
set_counts (true ∷ marks) (suc i) m = set_counts marks i m
set_counts (false ∷ marks) (suc i) m = ap suc (set_counts marks i m)

pub noted_new : (s s' : Search) (v place : ℕ) → v < length s.marks.items → place ≡ length s.marks.items - 1 - v → slice_get s.marks.items place ≡ Some false
    → s'.marks.items ≡ set s.marks.items place true → s'.waiting.items ≡ s.waiting.items ++ place ∷ [] → Noted s (λ x. v == x) s'
noted_new s s' v place h p unset marks waiting =
    let n = length s.marks.items in
    let within : place < n = omega (arith, h, p) in
    record {
      count = ap length marks ∙ length-set s.marks.items place true;
      kept = λ i m. subst (λ ms. IsMarked ms i) (sym marks) (set_keeps s.marks.items place i m);
      all = λ i names.
          let e = names_one v n i names in
          let w = names.within in
          let same : place ≡ i = omega (arith, e, h, w, p) in
          subst (λ ms. IsMarked ms i) (sym marks) (subst (λ j. slice_get (set s.marks.items place true) j ≡ Some true) same (set_here s.marks.items place within));
      new = λ i m. elim (set_new s.marks.items place i (subst (λ ms. IsMarked ms i) marks m)) [
        | inl old ↦ inl old
        | inr e ↦ inr (here i e)
      ];
      wait = λ i w. subst (λ ws. Contains ws i) (sym waiting) (Contains-append_left s.waiting.items (place ∷ []) i w);
      marked = λ i w. elim (Contains-push_cases s.waiting.items place i (subst (λ ws. Contains ws i) waiting w)) [
        | inl old ↦ inl old
        | inr e ↦ inr (subst (IsMarked s'.marks.items) e (subst (λ ms. IsMarked ms place) (sym marks) (set_here s.marks.items place within)))
      ];
      left =
          let long : length s'.waiting.items ≡ length s.waiting.items + 1 = ap length waiting ∙ length-append s.waiting.items (place ∷ []) in
          let fewer : suc (unmarked s'.marks.items) ≡ unmarked s.marks.items = ap (λ ms. suc (unmarked ms)) marks ∙ set_counts s.marks.items place unset in
          omega (arith, long, fewer);
    }
  where
    here : (i : ℕ) → place ≡ i → NamesBinding (λ x. v == x) (length s.marks.items) i × Contains s'.waiting.items i
    here i e =
        let is : v ≡ length s.marks.items - 1 - i = omega (arith, e, p, h) in (
          record {
            within = omega (arith, e, p, h);
            named = eq-eqb v (length s.marks.items - 1 - i) is;
          },
          subst (Contains s'.waiting.items) e (subst (λ ws. Contains ws place) (sym waiting) (Contains-push s.waiting.items place)),
        )

-- the variables of one test and then those of another
pub noted_both : (s s' s'' : Search) (f g : ℕ → Bool) → Noted s f s' → Noted s' g s'' → Noted s (λ v. f v || g v) s''
noted_both s s' s'' f g a b = record {
  count = b.count ∙ a.count;
  kept = λ i m. b.kept i (a.kept i m);
  all = λ i n. elim (or_cases (f (length s.marks.items - 1 - i)) (g (length s.marks.items - 1 - i)) n.named) [
    | inl c ↦ b.kept i (a.all i (record { within = n.within; named = c }))
    | inr c ↦ b.all i (subst (λ count. NamesBinding g count i) (sym a.count) (record { within = n.within; named = c }))
  ];
  new = λ i m. elim (b.new i m) [
    | inl old ↦ elim (a.new i old) [
      | inl older ↦ inl older
      | inr n ↦ inr (first i n.0, b.wait i n.1)
    ]
    | inr n ↦ inr (second i (subst (λ count. NamesBinding g count i) a.count n.0), n.1)
  ];
  wait = λ i w. b.wait i (a.wait i w);
  marked = λ i w. elim (b.marked i w) [
    | inl old ↦ elim (a.marked i old) [ inl older ↦ inl older | inr m ↦ inr (b.kept i m) ]
    | inr m ↦ inr m
  ];
  left = b.left ∙ a.left;
}
  where
    first : (i : ℕ) → NamesBinding f (length s.marks.items) i → NamesBinding (λ v. f v || g v) (length s.marks.items) i
    first i n = record { within = n.within; named = ap (λ c. c || g (length s.marks.items - 1 - i)) n.named }

    second : (i : ℕ) → NamesBinding g (length s.marks.items) i → NamesBinding (λ v. f v || g v) (length s.marks.items) i
    second i n = record { within = n.within; named = ap (λ c. f (length s.marks.items - 1 - i) || c) n.named ∙ or-true (f (length s.marks.items - 1 - i)) }

-- what the search has found: each marked binding is reached, and each that a looked at term names is marked
pub record Searches (g : Group) (e : TermTree) (s : Search) : Type 0 where
  pub each_one : length s.marks.items ≡ size_of g
  pub reached : (i : ℕ) → IsMarked s.marks.items i → Reached g e i
  pub body : (i : ℕ) → i < size_of g → occurs e (size_of g - 1 - i) ≡ true → IsMarked s.marks.items i
  pub sides : (j : ℕ) (b : TypeTree × TermTree) → IsMarked s.marks.items j → binding_at g j ≡ Some b
      → Contains s.waiting.items j ⊎ ((i : ℕ) → i < size_of g → occurs b.1 (size_of g - 1 - i) ≡ true → IsMarked s.marks.items i)
  pub waits : (i : ℕ) → Contains s.waiting.items i → IsMarked s.marks.items i

-- nothing is marked at first
none_marked : (n i : ℕ) → slice_get (replicate n false) i ≡ Some true → ⊥
none_marked zero i m = let e : None ≡ Some true = m in absurd cc
none_marked (suc n) zero m = let e : Some false ≡ Some true = m in let f : true ≡ false = cc in true≢false f
none_marked (suc n) (suc i) m = none_marked n i m

none_waits : (i : ℕ) → Contains [] i → ⊥
none_waits i w = let h = w.1 in omega (arith, h)

pub searches_first : (g : Group) (e : TermTree) (s s' : Search) → s.marks.items ≡ replicate (size_of g) false → s.waiting.items ≡ [] → Noted s (occurs e) s' → Searches g e s'
searches_first g e s s' marks waiting n =
    let count : length s.marks.items ≡ size_of g = ap length marks ∙ length-replicate (size_of g) false in
    let unmarked_first : (i : ℕ) → IsMarked s.marks.items i → ⊥ = λ i m. none_marked (size_of g) i (subst (λ ms. IsMarked ms i) marks m) in
    let unwaiting : (i : ℕ) → Contains s.waiting.items i → ⊥ = λ i w. none_waits i (subst (λ ws. Contains ws i) waiting w) in
    record {
      each_one = n.count ∙ count;
      reached = λ i m. elim (n.new i m) [
        | inl old ↦ absurd (unmarked_first i old)
        | inr w ↦ let names = subst (λ k. NamesBinding (occurs e) k i) count w.0 in from_body names.within names.named
      ];
      body = λ i l o. n.all i (subst (λ k. NamesBinding (occurs e) k i) (sym count) (record { within = l; named = o }));
      sides = λ j b m at. elim (n.new j m) [ inl old ↦ absurd (unmarked_first j old) | inr w ↦ inl w.1 ];
      waits = λ i w. elim (n.marked i w) [ inl old ↦ absurd (unwaiting i old) | inr m ↦ m ];
    }

-- the last that waits is looked at
pub searches_next : (g : Group) (e : TermTree) (s t s' : Search) (place : ℕ) (b : TypeTree × TermTree) → Searches g e s
    → t.marks.items ≡ s.marks.items → s.waiting.items ≡ t.waiting.items ++ place ∷ [] → binding_at g place ≡ Some b
    → Noted t (occurs b.1) s' → Searches g e s'
searches_next g e s t s' place b h same popped at n =
    let count : length t.marks.items ≡ size_of g = ap length same ∙ h.each_one in
    let here : IsMarked s.marks.items place = h.waits place (subst (λ ws. Contains ws place) (sym popped) (Contains-push t.waiting.items place)) in
    let keeps : (i : ℕ) → IsMarked s.marks.items i → IsMarked s'.marks.items i = λ i m. n.kept i (subst (λ ms. IsMarked ms i) (sym same) m) in
    let looked : (i : ℕ) → i < size_of g → occurs b.1 (size_of g - 1 - i) ≡ true → IsMarked s'.marks.items i =
    λ i l o. n.all i (subst (λ k. NamesBinding (occurs b.1) k i) (sym count) (record { within = l; named = o })) in
    record {
      each_one = n.count ∙ count;
      reached = λ i m. elim (n.new i m) [
        | inl old ↦ h.reached i (subst (λ ms. IsMarked ms i) same old)
        | inr w ↦ let names = subst (λ k. NamesBinding (occurs b.1) k i) count w.0 in from_side (h.reached place here) at names.within names.named
      ];
      body = λ i l o. keeps i (h.body i l o);
      sides = λ j c m side. elim (n.new j m) [
        | inl old ↦ elim (h.sides j c (subst (λ ms. IsMarked ms j) same old) side) [
          | inl w ↦ elim (Contains-push_cases t.waiting.items place j (subst (λ ws. Contains ws j) popped w)) [
            | inl still ↦ inl (n.wait j still)
            | inr is ↦ inr (λ i l o. looked i l (subst (λ c. occurs c.1 (size_of g - 1 - i) ≡ true) (one_binding j c is side) o))
          ]
          | inr f ↦ inr (λ i l o. keeps i (f i l o))
        ]
        | inr w ↦ inl w.1
      ];
      waits = λ i w. elim (n.marked i w) [
        | inl old ↦ keeps i (h.waits i (subst (λ ws. Contains ws i) (sym popped) (Contains-append_left t.waiting.items (place ∷ []) i old)))
        | inr m ↦ m
      ];
    }
  where
    one_binding : (j : ℕ) (c : TypeTree × TermTree) → place ≡ j → binding_at g j ≡ Some c → c ≡ b
    one_binding j c is side = let e : Some c ≡ Some b = sym side ∙ ap (binding_at g) (sym is) ∙ at in cc

-- fewer are unmarked or wait
pub searches_less : (s t s' : Search) (place : ℕ) (test : ℕ → Bool) → t.marks.items ≡ s.marks.items → s.waiting.items ≡ t.waiting.items ++ place ∷ [] → Noted t test s'
    → unmarked s'.marks.items + length s'.waiting.items < unmarked s.marks.items + length s.waiting.items
searches_less s t s' place test same popped n =
    let long : length s.waiting.items ≡ length t.waiting.items + 1 = ap length popped ∙ length-append t.waiting.items (place ∷ []) in
    let marks : unmarked t.marks.items ≡ unmarked s.marks.items = ap unmarked same in
    omega (arith, long, marks, n.left)

-- where none waits all are found
pub searched : (g : Group) (e : TermTree) (s : Search) → Searches g e s → s.waiting.items ≡ [] → MarksReached g e s.marks.items
searched g e s h none = record {
  each_one = h.each_one;
  reached = λ i l. (λ m. h.reached i m, λ r. found r);
}
  where
    found : {i : ℕ} → Reached g e i → IsMarked s.marks.items i
    found (from_body l o) = h.body _ l o
    found (from_side {i = i} {j = j} {b = b} r at l o) = elim (h.sides j b (found r) at) [
      | inl w ↦ absurd (none_waits j (subst (λ ws. Contains ws j) none w))
      | inr f ↦ f i l o
    ]

-- a place that waits is one of a binding
pub place_within : (g : Group) (e : TermTree) (s : Search) (ws : List ℕ) (place : ℕ) → Searches g e s → s.waiting.items ≡ ws ++ place ∷ [] → place < size_of g
place_within g e s ws place h popped =
    subst (λ n. place < n) h.each_one
    (slice_get_within s.marks.items place true (h.waits place (subst (λ ws. Contains ws place) (sym popped) (Contains-push ws place))))

pub binding_of_group : (bs : List Binding) (i : ℕ) (b : Binding) → slice_get bs i ≡ Some b → binding_at (group_of bs) i ≡ Some (b.ty, b.body)
binding_of_group [] i b h = absurd cc
binding_of_group (c ∷ bs) zero b h = let e : c ≡ b = cc in ap (λ (b : Binding). Some (b.ty, b.body)) e
binding_of_group (c ∷ bs) (suc i) b h = binding_of_group bs i b h

pub found_at : (bs : List Binding) (i : ℕ) → i < length bs → (b : Binding) × (slice_get bs i ≡ Some b)
found_at [] i h = absurd (omega (arith, h))
found_at (b ∷ bs) zero h = (b, refl)
found_at (b ∷ bs) (suc i) h = found_at bs i (omega (arith, h))
