-- The paths at which a search looks below a place.
use Rattle.std.proofs.Common.{◌≡◌, ◌⊎◌, inl, inr, ℕ, suc, ◌<◌, ◌≤◌, ◌+◌, refl, sym, ap, ◌∙◌, subst, arith}
use Rattle.std.proofs.Common.{List, [], ◌++◌, length}
use Rattle.std.proofs.lemmas.Bool.{cases_lt}
use Rattle.chw_terms.specs.declared.rule.Rule.{Rule}
use Rattle.chw_terms.specs.TermTree.{TermTree}
use Rattle.chw_typing.specs.Paths.{IsEarlier}
use Rattle.chw_typing.proofs.Order.{never_earlier, earlier_through}
use Rattle.rewriting.specs.Origins.{Origins}
use Rattle.rewriting.specs.Active.{Below, IsActive, at_it}
use Rattle.rewriting.specs.Spots.{Spot}
use Rattle.trials.specs.Trials.{HasNoInstance}
use Rattle.step_search.specs.Begins.{BeginsAt}
use Rattle.step_search.specs.First.{Places, AtPath, From, IsStepAt, HasNoStepAt}
use Rattle.step_search.specs.Passed.{OfFirst, Paths}
use Rattle.step_search.specs.SeenPaths.{IsSeenPath, LooksAtPaths}
use Rattle.step_search.proofs.Begins.{none_before_root, root_sought}
use Rattle.step_search.proofs.Counts.{stays, grows_once, grows_wider, grows_twice, grows_by_others}
use Rattle.step_search.proofs.Down.{never_root}
use Rattle.step_search.proofs.Firsts.{Among, Only, from_among, step_among}
use Rattle.step_search.proofs.Numbered.{HaveNumbers, InOrder}
use Rattle.step_search.proofs.Onward.{from_is_active, not_here, only_there, rest_earlier, rest_is, step_below}

-- where nothing is tried
pub looked_nowhere : (rules : List Rule) (o : Origins) (s : Places) (from : List ℕ) (n : ℕ) → LooksAtPaths rules o s from n n
looked_nowhere rules o s from n = stays (length rules) (IsSeenPath rules o s from) n

-- places that are the same
seen_same : (rules : List Rule) (o : Origins) (s t : Places) (from path : List ℕ) → Among s t → Among t s
    → IsSeenPath rules o s from path → IsSeenPath rules o t from path
seen_same rules o s t from path h k y = record {
  at = y.at;
  term = y.term;
  place = h path y.at y.term y.place;
  sought = y.sought;
  none_before = λ q r new x. y.none_before q r new (step_among rules o t s from q r new k x);
}

pub looked_same : (rules : List Rule) (o : Origins) (s t : Places) (from : List ℕ) (a b : ℕ) → Among s t → Among t s
    → LooksAtPaths rules o s from a b → LooksAtPaths rules o t from a b
looked_same rules o s t from a b h k g =
    grows_wider (length rules) (IsSeenPath rules o s from) (IsSeenPath rules o t from) a b
    (λ path y. seen_same rules o s t from path h k y) g

-- at the place itself
root_seen : (rules : List Rule) (o : Origins) (at : Spot) (e : TermTree) (from path : List ℕ) → path ≡ []
    → IsSeenPath rules o (IsActive o at e) from path
root_seen rules o at e from path is =
    subst (IsSeenPath rules o (IsActive o at e) from) (sym is) (record {
      at = at;
      term = e;
      place = at_it;
      sought = root_sought from;
      none_before = λ q r new x before. none_before_root q before;
    })

pub looked_here : (rules : List Rule) (o : Origins) (at : Spot) (e : TermTree) (from : List ℕ) (a b : ℕ)
    → b ≤ a + length rules → LooksAtPaths rules o (IsActive o at e) from a b
looked_here rules o at e from a b l =
    grows_once (length rules) (IsSeenPath rules o (IsActive o at e) from) a b [] (root_seen rules o at e from [] refl) l

-- and below it, where no rule has an instance there
down_seen : (rules : List Rule) (o : Origins) (at : Spot) (e : TermTree) (from path : List ℕ) → HasNoInstance rules o at e
    → IsSeenPath rules o (From o (Below o at e)) from path → IsSeenPath rules o (IsActive o at e) from path
down_seen rules o at e from path none y = record {
  at = y.at;
  term = y.term;
  place = from_is_active o at e path y.at y.term y.place;
  sought = y.sought;
  none_before = λ q r new x. y.none_before q r new (not_here rules o at e from q r new none x);
}

pub looked_below : (rules : List Rule) (o : Origins) (at : Spot) (e : TermTree) (from : List ℕ) (a b c : ℕ) → HasNoInstance rules o at e
    → b ≤ a + length rules → LooksAtPaths rules o (From o (Below o at e)) from b c → LooksAtPaths rules o (IsActive o at e) from a c
looked_below rules o at e from a b c none l more =
    let parts = IsSeenPath rules o (From o (Below o at e)) from in
    grows_twice (length rules) (λ path. path ≡ []) parts (IsSeenPath rules o (IsActive o at e) from) a b c
    (λ path is. root_seen rules o at e from path is) (λ path y. down_seen rules o at e from path none y) apart
    (grows_once (length rules) (λ path. path ≡ []) a b [] refl l) more
  where
    apart : (path : List ℕ) → path ≡ [] → IsSeenPath rules o (From o (Below o at e)) from path → ⊥
    apart path is y = never_root o at e y.at y.term (subst (λ q. From o (Below o at e) q y.at y.term) is y.place)

-- the places on from those of two numbers are in order
in_order : (o : Origins) (s : Places) (w : Paths) (k m i : ℕ) → InOrder w m → (p q rest : List ℕ) (at : Spot) (e : TermTree)
    → From o (OfFirst s w k) p at e → q ≡ w i ++ rest → k ≤ i → i < m → IsEarlier p q
in_order o s w k m i order p q rest at e f second l within =
    let there = f.place in
    let first : p ≡ w there.0 ++ f.rest = f.is ∙ ap (λ r. r ++ f.rest) there.2 in
    let less : there.0 < i = omega (arith, there.1, l) in
    subst (λ z. IsEarlier z q) (sym first) (subst (λ z. IsEarlier (w there.0 ++ f.rest) z) (sym second)
    (order there.0 i less within f.rest rest))

never_both : (p q : List ℕ) → IsEarlier p q → IsEarlier q p → ⊥
never_both p q l k = never_earlier p (earlier_through p q p l k)

-- a step at one of the places is one at those of the first numbers, or at a later one
step_at_first : (rules : List Rule) (o : Origins) (s t : Places) (from q : List ℕ) (r : Rule) (new : TermTree)
    → (x : IsStepAt rules o s from q r new) → t q x.at x.term → IsStepAt rules o t from q r new
step_at_first rules o s t from q r new x h =
    record { at = x.at; term = x.term; place = h; sought = x.sought; is_rule = x.is_rule; made = x.made }

of_number : (o : Origins) (s t : Places) (w : Paths) (k : ℕ) (q : List ℕ) (at : Spot) (e : TermTree) → (g : From o t q at e)
    → s g.first g.spot g.term → (i : ℕ) → i < k → g.first ≡ w i → From o (OfFirst s w k) q at e
of_number o s t w k q at e g h i l is =
    record { first = g.first; spot = g.spot; term = g.term; place = (i, l, is, h); rest = g.rest; active = g.active; is = g.is }

at_number : (o : Origins) (s t : Places) (path q : List ℕ) (at : Spot) (e : TermTree) → (g : From o t q at e)
    → s g.first g.spot g.term → g.first ≡ path → From o (AtPath s path) q at e
at_number o s t path q at e g h is =
    record { first = g.first; spot = g.spot; term = g.term; place = (is, h); rest = g.rest; active = g.active; is = g.is }

of_first : (o : Origins) (s : Places) (w : Paths) (k : ℕ) → Among (From o (OfFirst s w k)) (From o s)
of_first o s w k = from_among o (OfFirst s w k) s (λ p at e h. h.3)

-- up to the next number, where no step is at those before it
seen_before : (rules : List Rule) (o : Origins) (s : Places) (w : Paths) (n m : ℕ) (from path : List ℕ) → InOrder w m → n < m
    → IsSeenPath rules o (From o (OfFirst s w n)) from path → IsSeenPath rules o (From o (OfFirst s w (suc n))) from path
seen_before rules o s w n m from path order l y = record {
  at = y.at;
  term = y.term;
  place = from_among o (OfFirst s w n) (OfFirst s w (suc n)) (λ p at e h. (h.0, omega (arith, h.1), h.2, h.3)) path y.at y.term y.place;
  sought = y.sought;
  none_before = before;
}
  where
    before : (q : List ℕ) (r : Rule) (new : TermTree) → IsStepAt rules o (From o (OfFirst s w (suc n))) from q r new → IsEarlier q path → ⊥
    before q r new x earlier = by (cases_lt i n)
      where
        i : ℕ
        i = x.place.place.0

        by : (i < n) ⊎ (n ≤ i) → ⊥
        by (inl k) =
            y.none_before q r new
            (step_at_first rules o (From o (OfFirst s w (suc n))) (From o (OfFirst s w n)) from q r new x
            (of_number o s (OfFirst s w (suc n)) w n q x.at x.term x.place x.place.place.3 i k x.place.place.2)) earlier
        by (inr k) =
            never_both path q
            (in_order o s w n m i order path q x.place.rest y.at y.term y.place (x.place.is ∙ ap (λ r. r ++ x.place.rest) x.place.place.2) k
            (omega (arith, x.place.place.1, l))) earlier

seen_next : (rules : List Rule) (o : Origins) (s : Places) (w : Paths) (n : ℕ) (from path : List ℕ)
    → HasNoStepAt rules o (From o (OfFirst s w n)) from
    → IsSeenPath rules o (From o (AtPath s (w n))) from path → IsSeenPath rules o (From o (OfFirst s w (suc n))) from path
seen_next rules o s w n from path none y = record {
  at = y.at;
  term = y.term;
  place = from_among o (AtPath s (w n)) (OfFirst s w (suc n)) (λ p at e h. (n, omega arith, h.0, h.1)) path y.at y.term y.place;
  sought = y.sought;
  none_before = before;
}
  where
    before : (q : List ℕ) (r : Rule) (new : TermTree) → IsStepAt rules o (From o (OfFirst s w (suc n))) from q r new → IsEarlier q path → ⊥
    before q r new x earlier = by (cases_lt i n)
      where
        i : ℕ
        i = x.place.place.0

        by : (i < n) ⊎ (n ≤ i) → ⊥
        by (inl k) =
            none q r new
            (step_at_first rules o (From o (OfFirst s w (suc n))) (From o (OfFirst s w n)) from q r new x
            (of_number o s (OfFirst s w (suc n)) w n q x.at x.term x.place x.place.place.3 i k x.place.place.2))
        by (inr k) =
            let is : i ≡ n = omega (arith, k, x.place.place.1) in
            y.none_before q r new
            (step_at_first rules o (From o (OfFirst s w (suc n))) (From o (AtPath s (w n))) from q r new x
            (at_number o s (OfFirst s w (suc n)) (w n) q x.at x.term x.place x.place.place.3 (x.place.place.2 ∙ ap w is))) earlier

pub looked_up_to_next : (rules : List Rule) (o : Origins) (s : Places) (w : Paths) (n m : ℕ) (from : List ℕ) (a b c : ℕ)
    → InOrder w m → n < m → HasNoStepAt rules o (From o (OfFirst s w n)) from
    → LooksAtPaths rules o (From o (OfFirst s w n)) from a b → LooksAtPaths rules o (From o (AtPath s (w n))) from b c
    → LooksAtPaths rules o (From o (OfFirst s w (suc n))) from a c
looked_up_to_next rules o s w n m from a b c order l none f g =
    grows_twice (length rules) (IsSeenPath rules o (From o (OfFirst s w n)) from) (IsSeenPath rules o (From o (AtPath s (w n))) from)
    (IsSeenPath rules o (From o (OfFirst s w (suc n))) from) a b c
    (λ path y. seen_before rules o s w n m from path order l y) (λ path y. seen_next rules o s w n from path none y) apart f g
  where
    apart : (path : List ℕ) → IsSeenPath rules o (From o (OfFirst s w n)) from path → IsSeenPath rules o (From o (AtPath s (w n))) from path → ⊥
    apart path x y =
        never_earlier path
        (in_order o s w n m n order path path y.place.rest x.at x.term x.place (y.place.is ∙ ap (λ r. r ++ y.place.rest) y.place.place.0)
        (omega arith) l)

-- at those of the first numbers, among all
seen_of_all : (rules : List Rule) (o : Origins) (s : Places) (w : Paths) (k m : ℕ) (from path : List ℕ) → InOrder w m → HaveNumbers s w m
    → IsSeenPath rules o (From o (OfFirst s w k)) from path → IsSeenPath rules o (From o s) from path
seen_of_all rules o s w k m from path order all y = record {
  at = y.at;
  term = y.term;
  place = of_first o s w k path y.at y.term y.place;
  sought = y.sought;
  none_before = before;
}
  where
    before : (q : List ℕ) (r : Rule) (new : TermTree) → IsStepAt rules o (From o s) from q r new → IsEarlier q path → ⊥
    before q r new x earlier = by (cases_lt there.0 k)
      where
        there : (i : ℕ) × (i < m) × (x.place.first ≡ w i)
        there = all x.place.first x.place.spot x.place.term x.place.place

        by : (there.0 < k) ⊎ (k ≤ there.0) → ⊥
        by (inl l) =
            y.none_before q r new
            (step_at_first rules o (From o s) (From o (OfFirst s w k)) from q r new x
            (of_number o s s w k q x.at x.term x.place x.place.place there.0 l there.2)) earlier
        by (inr l) =
            never_both path q
            (in_order o s w k m there.0 order path q x.place.rest y.at y.term y.place (x.place.is ∙ ap (λ r. r ++ x.place.rest) there.2) l
            there.1) earlier

pub looked_at_first : (rules : List Rule) (o : Origins) (s : Places) (w : Paths) (k m : ℕ) (from : List ℕ) (a b : ℕ)
    → InOrder w m → HaveNumbers s w m
    → LooksAtPaths rules o (From o (OfFirst s w k)) from a b → LooksAtPaths rules o (From o s) from a b
looked_at_first rules o s w k m from a b order all g =
    grows_wider (length rules) (IsSeenPath rules o (From o (OfFirst s w k)) from) (IsSeenPath rules o (From o s) from) a b
    (λ path y. seen_of_all rules o s w k m from path order all y) g

-- at and below a part
seen_at_part : (rules : List Rule) (o : Origins) (at at' : Spot) (e x : TermTree) (path from left q : List ℕ)
    → Below o at e path at' x → BeginsAt path from left
    → IsSeenPath rules o (IsActive o at' x) left q → IsSeenPath rules o (From o (AtPath (Below o at e) path)) from (path ++ q)
seen_at_part rules o at at' e x path from left q there begins y = record {
  at = y.at;
  term = y.term;
  place = record { first = path; spot = at'; term = x; place = (refl, there); rest = q; active = y.place; is = refl };
  sought = begins.1 q y.sought;
  none_before = before;
}
  where
    before : (r : List ℕ) (rule : Rule) (new : TermTree) → IsStepAt rules o (From o (AtPath (Below o at e) path)) from r rule new
        → IsEarlier r (path ++ q) → ⊥
    before r rule new s earlier =
        let only = step_among rules o (From o (AtPath (Below o at e) path)) (From o (Only path at' x)) from r rule new
        (from_among o (AtPath (Below o at e) path) (Only path at' x) (only_there o at at' e x path there)) s in
        let within = step_below rules o path at' x from left r rule new begins only in
        y.none_before within.rest rule new within.step
        (rest_earlier path within.rest q (subst (λ z. IsEarlier z (path ++ q)) within.is earlier))

pub looked_at_part : (rules : List Rule) (o : Origins) (at at' : Spot) (e x : TermTree) (path from left : List ℕ) (a b : ℕ)
    → Below o at e path at' x → BeginsAt path from left → LooksAtPaths rules o (IsActive o at' x) left a b
    → LooksAtPaths rules o (From o (AtPath (Below o at e) path)) from a b
looked_at_part rules o at at' e x path from left a b there begins g =
    grows_by_others (length rules) (IsSeenPath rules o (IsActive o at' x) left) (IsSeenPath rules o (From o (AtPath (Below o at e) path)) from)
    (λ q. path ++ q) a b (λ q r h. rest_is path q r h) (λ q y. seen_at_part rules o at at' e x path from left q there begins y) g
