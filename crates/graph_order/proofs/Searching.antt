-- What each step of a search keeps.
use Rattle.std.proofs.Common.{◌≡◌, ℕ, ◌+◌, ◌-◌, ◌<◌, ◌≤◌, inl, inr, List, [], ◌∷◌, ◌++◌, length, get_or, set, refl, sym, ◌∙◌, ap, subst, arith, length-set, Some, map, take, replicate, zero, suc}
use Rattle.std.proofs.lemmas.Bool.{cases_eq}
use Rattle.std.proofs.lemmas.List.{length-replicate, length-map, get_or-replicate, get_or_append_left, get_or_push, length_push, map-append, take_more}
use Rattle.std.proofs.lemmas.List.Folds.{sum_by-replicate}
use Rattle.std.proofs.lemmas.List.Sums.{sum_by-set}
use Rattle.graph_order.specs.References.{Refers, reference_at, reference_count}
use Rattle.graph_order.specs.Searches.{IsMet, IsSearch, MayBegin, WentOn, done_count, visit_at, visit_work}
use Rattle.graph_order.specs.declared.search.Visit.{Visit}
use Rattle.graph_order.specs.declared.search.Visit.TheVariants.{Ahead, Open, Done}
use Rattle.graph_order.proofs.Lists.{named_at, push_split, visit_split, visit_within, write_split}

-- the first of the references that a node has to look at is met
module _ (graph : List (List ℕ)) (visits : List Visit) (left path order : List ℕ) (k : IsSearch graph visits left path order) (p m : ℕ)
    (is : m + 1 ≡ get_or left p 0) (within : p < length left) (here : IsMet graph visits p (get_or left p 0)) where
  pass_fits : (q : ℕ) → get_or (set left p m) q 0 ≤ reference_count graph q
  pass_fits q = elim (write_split left p m q 0 within) [
    | inl x ↦ let was : get_or left q 0 ≡ get_or left p 0 = ap (λ n. get_or left n 0) x.0 in omega (arith, k.fits q, x.1)
    | inr x ↦ omega (arith, k.fits q, x.1)
  ]

  pass_met : (q i to : ℕ) → i + get_or (set left p m) q 0 < reference_count graph q → reference_at graph q i ≡ Some to → to < length graph
      → visit_at visits to ≡ Done
  pass_met q i to l a n = elim (write_split left p m q 0 within) [
    | inl x ↦
        let was : get_or left q 0 ≡ get_or left p 0 = ap (λ n. get_or left n 0) x.0 in
        elim (cases_eq i (reference_count graph q - get_or left q 0)) [
          | inl e ↦
              let b = subst (λ (n : ℕ). reference_at graph q n ≡ Some to) e a in
              here to (subst (λ (n : ℕ). reference_at graph n (reference_count graph n - get_or left n 0) ≡ Some to) x.0 b)
              (omega (arith, k.visits_size))
          | inr d ↦ k.met q i to (omega (arith, k.fits q, x.1)) a n
        ]
    | inr x ↦ k.met q i to (omega (arith, x.1)) a n
  ]

  pub pass_keeps : IsSearch graph visits (set left p m) path order
  pass_keeps = record {
    visits_size = k.visits_size;
    left_size = length-set left p m ∙ k.left_size;
    fits = pass_fits;
    count = k.count;
    done = k.done;
    placed = k.placed;
    once = k.once;
    after = k.after;
    opened = k.opened;
    on_path = k.on_path;
    met = pass_met;
    refers = k.refers;
  }

  pub pass_goes : WentOn visits left visits (set left p m)
  pass_goes = record {
    less = omega (arith, sum_by-set (λ n. n) left p m 0 within);
    stayed = record { done = λ q e. e; begun = λ q e. e };
  }

-- a node is put on the path
module _ (graph : List (List ℕ)) (visits : List Visit) (left path order : List ℕ) (k : IsSearch graph visits left path order) (node : ℕ)
    (b : MayBegin graph visits path node) where
  -- a node that isn't ahead stays as it was
  begin_other : (q : ℕ) (v : Visit) → visit_at visits q ≡ v → (v ≡ Ahead → ⊥) → visit_at (set visits node (Open (length path))) q ≡ v
  begin_other q v e n = elim (visit_split visits node (Open (length path)) q b.within) [
    | inl x ↦ absurd (n (sym e ∙ ap (λ j. visit_at visits j) x.0 ∙ b.ahead))
    | inr x ↦ x.1 ∙ e
  ]

  begin_opened : (d : ℕ) → d < length (path ++ node ∷ []) → visit_at (set visits node (Open (length path))) (get_or (path ++ node ∷ []) d 0) ≡ Open d
  begin_opened d l = elim (push_split path node d l) [
    | inl x ↦ rw (x.1) (begin_other (get_or path d 0) (Open d) (k.opened d x.0) (λ e. cc))
    | inr x ↦ elim (visit_split visits node (Open (length path)) node b.within) [
      | inl y ↦ rw (x.1) (y.1 ∙ ap Open (sym (x.0)))
      | inr y ↦ absurd (y.0 refl)
    ]
  ]

  begin_on_path : (q d : ℕ) → visit_at (set visits node (Open (length path))) q ≡ Open d
      → (d < length (path ++ node ∷ [])) × (get_or (path ++ node ∷ []) d 0 ≡ q)
  begin_on_path q d e = elim (visit_split visits node (Open (length path)) q b.within) [
    | inl x ↦
        let same : Open (length path) ≡ Open d = sym (x.1) ∙ e in
        let at : length path ≡ d = cc in
        (omega (arith, length_push path node), get_or_push path node 0 d at ∙ sym (x.0))
    | inr x ↦
        let h = k.on_path q d (sym (x.1) ∙ e) in
        let l : d < length path = h.0 in
        (omega (arith, length_push path node), get_or_append_left path (node ∷ []) 0 d l ∙ h.1)
  ]

  begin_refers : (d : ℕ) → d + 1 < length (path ++ node ∷ []) → Refers graph (get_or (path ++ node ∷ []) d 0) (get_or (path ++ node ∷ []) (d + 1) 0)
  begin_refers d l =
      let here : d < length path = omega (arith, length_push path node) in
      let at : get_or (path ++ node ∷ []) d 0 ≡ get_or path d 0 = get_or_append_left path (node ∷ []) 0 d here in
      elim (push_split path node (d + 1) l) [
        | inl x ↦ rw (at, x.1) (k.refers d x.0)
        | inr x ↦ rw (at, x.1) (b.refers d x.0)
      ]

  pub begin_keeps : IsSearch graph (set visits node (Open (length path))) left (path ++ node ∷ []) order
  begin_keeps = record {
    visits_size = length-set visits node (Open (length path)) ∙ k.visits_size;
    left_size = k.left_size;
    fits = k.fits;
    count =
        let was : done_count (visit_at visits node) ≡ 0 = ap done_count b.ahead in
        omega (arith, k.count, sum_by-set done_count visits node (Open (length path)) Ahead b.within);
    done = λ i l. begin_other (get_or order i 0) Done (k.done i l) (λ e. cc);
    placed = λ q e. elim (visit_split visits node (Open (length path)) q b.within) [
      | inl x ↦ let bad : Open (length path) ≡ Done = sym (x.1) ∙ e in absurd (cc)
      | inr x ↦ k.placed q (sym (x.1) ∙ e)
    ];
    once = k.once;
    after = k.after;
    opened = begin_opened;
    on_path = begin_on_path;
    met = λ q i to l a n. begin_other to Done (k.met q i to l a n) (λ e. cc);
    refers = begin_refers;
  }

  pub begin_goes : WentOn visits left (set visits node (Open (length path))) left
  begin_goes = record {
    less =
        let was : visit_work (visit_at visits node) ≡ 2 = ap visit_work b.ahead in
        omega (arith, sum_by-set visit_work visits node (Open (length path)) Ahead b.within);
    stayed = record {
      done = λ q e. begin_other q Done e (λ h. cc);
      begun = λ q e. elim (visit_split visits node (Open (length path)) q b.within) [
        | inl x ↦ let bad : Open (length path) ≡ Ahead = sym (x.1) ∙ e in absurd (cc)
        | inr x ↦ sym (x.1) ∙ e
      ];
    };
  }

-- the last node of the path is done
module _ (graph : List (List ℕ)) (visits : List Visit) (left front order : List ℕ) (node : ℕ)
    (k : IsSearch graph visits left (front ++ node ∷ []) order) (all_met : get_or left node 0 ≡ 0) where
  close_was : visit_at visits node ≡ Open (length front)
  close_was =
      let l : length front < length (front ++ node ∷ []) = omega (arith, length_push front node) in
      let at : get_or (front ++ node ∷ []) (length front) 0 ≡ node = get_or_push front node 0 (length front) refl in
      ap (λ q. visit_at visits q) (sym at) ∙ k.opened (length front) l

  pub close_within : node < length visits
  close_within = visit_within visits node (Open (length front)) close_was (λ e. cc)

  -- what is done stays so
  close_done : (q : ℕ) → visit_at visits q ≡ Done → visit_at (set visits node Done) q ≡ Done
  close_done q e = elim (visit_split visits node Done q close_within) [ inl x ↦ x.1 | inr x ↦ x.1 ∙ e ]

  close_placed : (q : ℕ) → visit_at (set visits node Done) q ≡ Done
      → (i : ℕ) × (i < length (order ++ node ∷ [])) × (get_or (order ++ node ∷ []) i 0 ≡ q)
  close_placed q e = elim (visit_split visits node Done q close_within) [
    | inl x ↦ (length order, omega (arith, length_push order node), get_or_push order node 0 (length order) refl ∙ sym (x.0))
    | inr x ↦
        let h = k.placed q (sym (x.1) ∙ e) in
        let l : h.0 < length order = h.1 in
        (h.0, omega (arith, length_push order node), get_or_append_left order (node ∷ []) 0 h.0 l ∙ h.2)
  ]

  -- the node was not yet placed
  close_new : (i : ℕ) → i < length order → get_or order i 0 ≡ node → ⊥
  close_new i l e =
      let is : Open (length front) ≡ Done = sym close_was ∙ ap (λ q. visit_at visits q) (sym e) ∙ k.done i l in
      cc

  close_once : (i j : ℕ) → i < length (order ++ node ∷ []) → j < length (order ++ node ∷ [])
      → get_or (order ++ node ∷ []) i 0 ≡ get_or (order ++ node ∷ []) j 0 → i ≡ j
  close_once i j l m e = elim (push_split order node i l) [
    | inl x ↦ elim (push_split order node j m) [
      | inl y ↦ k.once i j x.0 y.0 (sym (x.1) ∙ e ∙ y.1)
      | inr y ↦ absurd (close_new i x.0 (sym (x.1) ∙ e ∙ y.1))
    ]
    | inr x ↦ elim (push_split order node j m) [
      | inl y ↦ absurd (close_new j y.0 (sym (y.1) ∙ sym e ∙ x.1))
      | inr y ↦ x.0 ∙ sym (y.0)
    ]
  ]

  close_after : (j to : ℕ) → j < length (order ++ node ∷ []) → Refers graph (get_or (order ++ node ∷ []) j 0) to
      → (i : ℕ) × (i < j) × (get_or (order ++ node ∷ []) i 0 ≡ to)
  close_after j to l r = elim (push_split order node j l) [
    | inl x ↦
        let h = k.after j to x.0 (subst (λ (p : ℕ). Refers graph p to) x.1 r) in
        let lt : h.0 < j = h.1 in
        let below : j < length order = x.0 in
        (h.0, lt, get_or_append_left order (node ∷ []) 0 h.0 (omega arith) ∙ h.2)
    | inr x ↦
        let r' : Refers graph node to = subst (λ (p : ℕ). Refers graph p to) x.1 r in
        let at = named_at graph node to r' in
        let is : visit_at visits to ≡ Done = k.met node at.0 to (omega (arith, at.1)) at.2 r'.is_node in
        let h = k.placed to is in
        let lt : h.0 < length order = h.1 in
        let last : j ≡ length order = x.0 in
        (h.0, omega arith, get_or_append_left order (node ∷ []) 0 h.0 lt ∙ h.2)
  ]

  close_at : (d : ℕ) → d < length front → get_or (front ++ node ∷ []) d 0 ≡ get_or front d 0
  close_at d l = get_or_append_left front (node ∷ []) 0 d l

  close_opened : (d : ℕ) → d < length front → visit_at (set visits node Done) (get_or front d 0) ≡ Open d
  close_opened d l =
      let all : d < length (front ++ node ∷ []) = omega (arith, length_push front node) in
      let was : visit_at visits (get_or front d 0) ≡ Open d = ap (λ q. visit_at visits q) (sym (close_at d l)) ∙ k.opened d all in
      elim (visit_split visits node Done (get_or front d 0) close_within) [
        | inl x ↦
            let same : Open d ≡ Open (length front) = sym was ∙ ap (λ q. visit_at visits q) x.0 ∙ close_was in
            let e : d ≡ length front = cc in
            absurd (omega arith)
        | inr x ↦ x.1 ∙ was
      ]

  close_on_path : (q d : ℕ) → visit_at (set visits node Done) q ≡ Open d → (d < length front) × (get_or front d 0 ≡ q)
  close_on_path q d e = elim (visit_split visits node Done q close_within) [
    | inl x ↦ let bad : Done ≡ Open d = sym (x.1) ∙ e in absurd (cc)
    | inr x ↦
        let h = k.on_path q d (sym (x.1) ∙ e) in
        elim (push_split front node d h.0) [
          | inl y ↦ (y.0, sym (y.1) ∙ h.1)
          | inr y ↦ absurd (x.0 (sym (h.1) ∙ y.1))
        ]
  ]

  close_refers : (d : ℕ) → d + 1 < length front → Refers graph (get_or front d 0) (get_or front (d + 1) 0)
  close_refers d l =
      let r = k.refers d (omega (arith, length_push front node)) in
      let at : get_or (front ++ node ∷ []) d 0 ≡ get_or front d 0 = close_at d (omega arith) in
      let to : get_or (front ++ node ∷ []) (d + 1) 0 ≡ get_or front (d + 1) 0 = close_at (d + 1) l in
      rw (at, to) at r

  pub close_keeps : IsSearch graph (set visits node Done) left front (order ++ node ∷ [])
  close_keeps = record {
    visits_size = length-set visits node Done ∙ k.visits_size;
    left_size = k.left_size;
    fits = k.fits;
    count =
        let was : done_count (visit_at visits node) ≡ 0 = ap done_count close_was in
        omega (arith, k.count, length_push order node, sum_by-set done_count visits node Done Ahead close_within);
    done = λ i l. elim (push_split order node i l) [
      | inl x ↦ rw (x.1) (close_done (get_or order i 0) (k.done i x.0))
      | inr x ↦ rw (x.1) (elim (visit_split visits node Done node close_within) [ inl y ↦ y.1 | inr y ↦ absurd (y.0 refl) ])
    ];
    placed = close_placed;
    once = close_once;
    after = close_after;
    opened = close_opened;
    on_path = close_on_path;
    met = λ q i to l a n. close_done to (k.met q i to l a n);
    refers = close_refers;
  }

  pub close_goes : WentOn visits left (set visits node Done) left
  close_goes = record {
    less =
        let was : visit_work (visit_at visits node) ≡ 1 = ap visit_work close_was in
        omega (arith, sum_by-set visit_work visits node Done Ahead close_within);
    stayed = record {
      done = close_done;
      begun = λ q e. elim (visit_split visits node Done q close_within) [
        | inl x ↦ let bad : Done ≡ Ahead = sym (x.1) ∙ e in absurd (cc)
        | inr x ↦ sym (x.1) ∙ e
      ];
    };
  }

-- all are ahead at first
never_begun : (n q : ℕ) (v : Visit) → visit_at (replicate n Ahead) q ≡ v → (v ≡ Ahead → ⊥) → ⊥
never_begun n q v e h =
    let l : q < length (replicate n Ahead) = visit_within (replicate n Ahead) q v e h in
    h (sym e ∙ get_or-replicate n q Ahead Ahead (omega (arith, length-replicate n Ahead)))

-- as many references are left as a node has
all_left : (graph : List (List ℕ)) (p : ℕ) → get_or (map length graph) p 0 ≡ reference_count graph p
all_left [] p = refl
all_left (names ∷ graph) zero = refl
all_left (names ∷ graph) (suc p) = all_left graph p

-- the degrees of one more node
pub degrees_more : (graph : List (List ℕ)) (k : ℕ) → k < length graph
    → map length (take (k + 1) graph) ≡ map length (take k graph) ++ reference_count graph k ∷ []
degrees_more graph k l = ap (map length) (take_more graph k [] l) ∙ map-append length (take k graph) (get_or graph k [] ∷ [])

-- a search that has done nothing
pub start_knows : (graph : List (List ℕ)) → IsSearch graph (replicate (length graph) Ahead) (map length graph) [] []
start_knows graph = record {
  visits_size = length-replicate (length graph) Ahead;
  left_size = length-map graph length;
  fits = λ p. omega (arith, all_left graph p);
  count = let none : done_count Ahead ≡ 0 = refl in omega (arith, sum_by-replicate done_count (length graph) Ahead);
  done = λ i l. absurd (omega (arith, l));
  placed = λ q e. absurd (never_begun (length graph) q Done e (λ h. cc));
  once = λ i j l m e. absurd (omega (arith, l));
  after = λ j to l r. absurd (omega (arith, l));
  opened = λ d l. absurd (omega (arith, l));
  on_path = λ q d e. absurd (never_begun (length graph) q (Open d) e (λ h. cc));
  met = λ q i to l a n. absurd (omega (arith, l, all_left graph q));
  refers = λ d l. absurd (omega (arith, l));
}
