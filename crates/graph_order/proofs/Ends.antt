-- What a search knows once its path is empty.
use Rattle.std.proofs.Common.{inl, inr, ◌≡◌, ℕ, ◌+◌, ◌-◌, ◌<◌, List, [], ◌∷◌, ◌++◌, length, get_or, take, suc, refl, sym, ◌∙◌, ap, subst, arith, Option, Some, None, MatchOption, slice_get, sum_by}
use Rattle.std.proofs.lemmas.List.{nil_from_length, take_all, take_more}
use Rattle.std.proofs.lemmas.List.Sums.{sum_by-cons}
use Rattle.std.proofs.lemmas.Option.{get_or_from_slice_get, slice_get_within, slice_get_cases}
use Rattle.graph_order.specs.Orders.{IsOrder}
use Rattle.graph_order.specs.Searches.{EndsIn, IsSearch, Stayed, done_count, visit_at}
use Rattle.graph_order.specs.declared.search.Visit.{Visit}
use Rattle.graph_order.specs.declared.search.Visit.TheVariants.{Ahead, Open, Done}
use Rattle.graph_order.proofs.Lists.{visit_within}

-- the last node of a path, if it has one
pub last_or_none : (path : List ℕ) (r : Option ℕ) → r ≡ slice_get path (length path - 1) → MatchOption r (path ≡ []) (EndsIn path)
last_or_none path None e = nil_from_length path (none_left path e) where
  none_left : (path : List ℕ) → None ≡ slice_get path (length path - 1) → length path ≡ 0
  none_left [] e = refl
  none_left (n ∷ ns) e = elim ((slice_get_cases (n ∷ ns) (length (n ∷ ns) - 1)).1) [
    | inl x ↦ let h = x.2 in absurd (cc)
    | inr x ↦ absurd (omega (arith, x.0))
  ]
last_or_none path (Some node) e =
    let is : slice_get path (length path - 1) ≡ Some node = sym e in
    let l : length path - 1 < length path = slice_get_within path (length path - 1) node is in
    let n : (length path - 1) + 1 ≡ length path = omega arith in
    let at : get_or path (length path - 1) node ≡ node = get_or_from_slice_get path (length path - 1) node node is in
    let more = take_more path (length path - 1) node l in (
      take (length path - 1) path,
      sym (take_all (length path) path (omega arith)) ∙ ap (λ m. take m path) (sym n) ∙ more ∙ ap (λ s. take (length path - 1) path ++ s ∷ []) at,
    )

pub stayed_at_first : (visits : List Visit) → Stayed visits visits
stayed_at_first visits = record { done = λ q e. e; begun = λ q e. e }

-- where no node is on the path, one that is not ahead is done
pub done_at_end : (graph : List (List ℕ)) (visits : List Visit) (left path order : List ℕ)
    → IsSearch graph visits left path order → path ≡ [] → (p : ℕ) → (visit_at visits p ≡ Ahead → ⊥) → visit_at visits p ≡ Done
done_at_end graph visits left path order k e p n = go (visit_at visits p) refl where
  go : (v : Visit) → visit_at visits p ≡ v → v ≡ Done
  go Ahead h = absurd (n h)
  go (Open d) h = absurd (omega (arith, (k.on_path p d h).0, ap length e))
  go Done h = refl

-- what was just put on an empty path, and then done
pub done_after : (graph : List (List ℕ)) (visits visits' : List Visit) (left left' path path' order order' : List ℕ) (node : ℕ)
    → IsSearch graph visits left (path ++ node ∷ []) order → path ≡ []
    → IsSearch graph visits' left' path' order' → path' ≡ [] → Stayed visits visits' → visit_at visits' node ≡ Done
done_after graph visits visits' left left' path path' order order' node k e k' e' s =
    let one : path ++ node ∷ [] ≡ node ∷ [] = ap (λ ns. ns ++ node ∷ []) e in
    let k1 : IsSearch graph visits left (node ∷ []) order = subst (λ (ns : List ℕ). IsSearch graph visits left ns order) one k in
    let o : visit_at visits node ≡ Open 0 = k1.opened 0 (omega arith) in
    done_at_end graph visits' left' path' order' k' e' node (λ a. let b = s.begun node a in cc)

-- where all are done, as many are done as there are
all_done : (visits : List Visit) → ((p : ℕ) → p < length visits → visit_at visits p ≡ Done) → sum_by done_count visits ≡ length visits
all_done [] h = refl
all_done (v ∷ visits) h =
    let first : done_count v ≡ 1 = ap done_count (h 0 (omega arith)) in
    omega (arith, sum_by-cons done_count v visits, all_done visits (λ p l. h (suc p) (omega arith)))

-- where all nodes are done, they are in order
pub ordered : (graph : List (List ℕ)) (visits : List Visit) (left path order : List ℕ) → IsSearch graph visits left path order
    → ((p : ℕ) → p < length graph → visit_at visits p ≡ Done) → IsOrder graph order
ordered graph visits left path order k all = record {
  size = omega (arith, k.count, k.visits_size, all_done visits (λ p l. all p (omega (arith, k.visits_size))));
  within = λ i l.
      let in_visits : get_or order i 0 < length visits = visit_within visits (get_or order i 0) Done (k.done i l) (λ e. cc) in
      omega (arith, k.visits_size);
  once = k.once;
  all = λ p l. k.placed p (all p l);
  after = k.after;
}
