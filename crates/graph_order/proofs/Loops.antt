-- What the search finds at the last node of its path.
use Rattle.std.proofs.Common.{◌≡◌, ℕ, ◌+◌, ◌-◌, ◌<◌, List, length, get_or, drop, sym, ◌∙◌, ap, subst, arith}
use Rattle.std.proofs.lemmas.List.{get_or-drop, get_or_push, length-drop, length_push}
use Rattle.graph_order.specs.Orders.{IsCycle}
use Rattle.graph_order.specs.References.{Refers, reference_count}
use Rattle.graph_order.specs.Searches.{EndsIn, IsFound, IsSearch, MayBegin, visit_at}
use Rattle.graph_order.specs.declared.search.Found.TheVariants.{Closing, Next}
use Rattle.graph_order.specs.declared.search.Visit.{Visit}
use Rattle.graph_order.specs.declared.search.Visit.TheVariants.{Open}
use Rattle.graph_order.proofs.Lists.{refers_by, visit_within}

-- the last node of a path
pub last_is : (path : List ℕ) (node : ℕ) → EndsIn path node → (d : ℕ) → d + 1 ≡ length path → get_or path d 0 ≡ node
last_is path node h d e =
    let at : length h.0 ≡ d = omega (arith, ap length h.1, length_push h.0 node) in
    ap (λ ns. get_or ns d 0) h.1 ∙ get_or_push h.0 node 0 d at

module _ (graph : List (List ℕ)) (visits : List Visit) (left path order : List ℕ) (k : IsSearch graph visits left path order) (node : ℕ)
    (e : EndsIn path node) where
  -- the last node of the path is one of the graph
  pub last_within : node < length graph
  last_within =
      let d : ℕ = length path - 1 in
      let is : d + 1 ≡ length path = omega (arith, ap length e.1, length_push e.0 node) in
      let o : visit_at visits node ≡ Open d = ap (λ q. visit_at visits q) (sym (last_is path node e d is)) ∙ k.opened d (omega arith) in
      let inside : node < length visits = visit_within visits node (Open d) o (λ h. cc) in
      omega (arith, k.visits_size)

  -- what is found ahead may be put on the path
  pub may_begin : (m next : ℕ) → IsFound graph visits node m (Next next) → MayBegin graph visits path next
  may_begin m next f = record {
    within = f.1;
    ahead = f.2;
    refers = λ d l. rw (last_is path node e d l) (refers_by graph node (reference_count graph node - m) next f.0 (omega (arith, f.1, k.visits_size)));
  }

  module _ (m depth : ℕ) (f : IsFound graph visits node m (Closing depth)) where
    pub below : depth < length path
    below = (k.on_path f.0 depth f.2).0

    at : (i : ℕ) → get_or (drop depth path) i 0 ≡ get_or path (depth + i) 0
    at i = get_or-drop depth path i 0

    closing_once : (i j : ℕ) → i < length (drop depth path) → j < length (drop depth path)
        → get_or (drop depth path) i 0 ≡ get_or (drop depth path) j 0 → i ≡ j
    closing_once i j l n h =
        let same : get_or path (depth + i) 0 ≡ get_or path (depth + j) 0 = sym (at i) ∙ h ∙ at j in
        let a : visit_at visits (get_or path (depth + i) 0) ≡ Open (depth + i) = k.opened (depth + i) (omega (arith, length-drop depth path)) in
        let b : visit_at visits (get_or path (depth + j) 0) ≡ Open (depth + j) = k.opened (depth + j) (omega (arith, length-drop depth path)) in
        let o : Open (depth + i) ≡ Open (depth + j) = sym a ∙ ap (λ q. visit_at visits q) same ∙ b in
        let places : depth + i ≡ depth + j = cc in
        omega arith

    closing_next : (i : ℕ) → i + 1 < length (drop depth path) → Refers graph (get_or (drop depth path) i 0) (get_or (drop depth path) (i + 1) 0)
    closing_next i l =
        let r = k.refers (depth + i) (omega (arith, length-drop depth path)) in
        let on : get_or path (depth + i + 1) 0 ≡ get_or (drop depth path) (i + 1) 0 =
        ap (λ n. get_or path n 0) (omega arith) ∙ sym (at (i + 1)) in
        rw (at i) (subst (λ (n : ℕ). Refers graph (get_or path (depth + i) 0) n) on r)

    closing_closes : (i : ℕ) → i + 1 ≡ length (drop depth path) → Refers graph (get_or (drop depth path) i 0) (get_or (drop depth path) 0 0)
    closing_closes i l =
        let last : get_or (drop depth path) i 0 ≡ node = at i ∙ last_is path node e (depth + i) (omega (arith, below, length-drop depth path)) in
        let inside : f.0 < length visits = visit_within visits f.0 (Open depth) f.2 (λ h. cc) in
        let r = refers_by graph node (reference_count graph node - m) f.0 f.1 (omega (arith, k.visits_size)) in
        let first : get_or (drop depth path) 0 0 ≡ f.0 =
        at 0 ∙ ap (λ n. get_or path n 0) (omega arith) ∙ (k.on_path f.0 depth f.2).1 in
        rw (last, first) r

    -- the nodes from the one that was found up to the end of the path are a cycle
    pub closing_cycle : IsCycle graph (drop depth path)
    closing_cycle = record {
      some = omega (arith, below, length-drop depth path);
      once = closing_once;
      next = closing_next;
      closes = closing_closes;
    }
