-- Wires that are marked one after the other.
use Rattle.std.proofs.Common.{◌≡◌, ℕ, zero, suc, ◌+◌, ◌<◌, ◌≤◌, ◌⊎◌, inl, inr, Bool, true, false, List, [], ◌∷◌, ◌++◌, length, take, set, get_or, replicate, Some, None, slice_get, refl, sym, ap, subst, ◌∙◌, arith}
use Rattle.std.specs.Prelude.{slice_index}
use Rattle.std.proofs.lemmas.Bool.{cases_eq, false≢true}
use Rattle.std.proofs.lemmas.List.{length-replicate, length-set, length_push, map_more}
use Rattle.std.proofs.lemmas.Option.{slice_get_within}
use Rattle.chw_base.specs.declared.index.WireId.{WireId}
use Rattle.share_laws.specs.Shares.{IsAmong}
use Rattle.net_share.specs.Marking.{AreMarked, Marks, served, unmarked}
use Rattle.net_share.proofs.Pushed.{among_cases, among_last, among_push, each_pushed, push_keeps, set_other, set_same}

-- a mark that is set is one fewer that isn't
unmarked_set : (marks : List Bool) (w : ℕ) → slice_get marks w ≡ Some false → unmarked (set marks w true) + 1 ≡ unmarked marks
unmarked_set [] w e = absurd (let none : None ≡ Some false = e in cc)
unmarked_set (true ∷ marks) zero e = absurd (cc)
unmarked_set (false ∷ marks) zero e = refl
unmarked_set (true ∷ marks) (suc w) e = unmarked_set marks w e
unmarked_set (false ∷ marks) (suc w) e = let rest = unmarked_set marks w e in omega (arith, rest)

unmarked_none : (n : ℕ) → unmarked (replicate n false) ≡ n
unmarked_none zero = refl
unmarked_none (suc n) = let rest = unmarked_none n in omega (arith, rest)

none_set : (n w : ℕ) → slice_get (replicate n false) w ≡ Some true → ⊥
none_set zero w e = absurd (let none : None ≡ Some true = e in cc)
none_set (suc n) zero e = absurd (cc)
none_set (suc n) (suc w) e = none_set n w e

-- at first no wire is marked
none_marked : (n : ℕ) → AreMarked (replicate n false) []
none_marked n = record {
  marked = λ k w at. absurd (let none : None ≡ Some w = at in cc);
  each_found = λ w at. absurd (none_set n w at);
  counted = (let sum = unmarked_none n in let long = length-replicate n false in omega (arith, sum, long));
}

pub marked_none : (n : ℕ) (marks : List Bool) (found : List ℕ) → marks ≡ replicate n false → found ≡ [] → AreMarked marks found
marked_none n marks found e f =
    subst (λ ms. AreMarked ms found) (sym e) (subst (λ ws. AreMarked (replicate n false) ws) (sym f) (none_marked n))

-- one more wire is marked
marked_more : (marks : List Bool) (found : List ℕ) (w : ℕ) → AreMarked marks found → slice_get marks w ≡ Some false
    → AreMarked (set marks w true) (found ++ w ∷ [])
marked_more marks found w m off = record {
  marked = λ k v at. each_pushed (λ j x. slice_get (set marks w true) x ≡ Some true) found w (length found) refl
      (λ j x there. stays x (m.marked j x there)) (set_same marks w true (slice_get_within marks w false off)) k v at;
  each_found = λ v on. back v on (cases_eq v w);
  counted = (
      let fewer = unmarked_set marks w off in
      let long = length_push found w in
      let same = length-set marks w true in
      omega (arith, m.counted, fewer, long, same)
      );
}
  where
    other : (x : ℕ) → slice_get marks x ≡ Some true → x ≡ w → ⊥
    other x on e =
        let both : Some true ≡ Some false = sym on ∙ ap (λ i. slice_get marks i) e ∙ off in
        let no : true ≡ false = cc in
        false≢true (sym no)

    stays : (x : ℕ) → slice_get marks x ≡ Some true → slice_get (set marks w true) x ≡ Some true
    stays x on = set_other marks w x true (other x on) ∙ on

    back : (v : ℕ) → slice_get (set marks w true) v ≡ Some true → (v ≡ w) ⊎ (v ≡ w → ⊥) → IsAmong (found ++ w ∷ []) v
    back v on (inl e) = subst (λ x. IsAmong (found ++ w ∷ []) x) (sym e) (among_last found w)
    back v on (inr apart) = among_push found w v (m.each_found v (sym (set_other marks w v true apart) ∙ on))

among_one : (w : ℕ) → IsAmong (w ∷ []) w
among_one w = (zero, refl)

only_one : (w v : ℕ) → IsAmong (w ∷ []) v → v ≡ w
only_one w v i = by i.0 i.1
  where
    by : (k : ℕ) → slice_get (w ∷ []) k ≡ Some v → v ≡ w
    by zero e = let is : w ≡ v = cc in sym is
    by (suc k) e = absurd (let none : None ≡ Some v = e in cc)

-- a wire that is marked already
pub mark_again : (marks : List Bool) (found : List ℕ) (w : ℕ) → AreMarked marks found → slice_get marks w ≡ Some true
    → Marks marks found marks found (w ∷ [])
mark_again marks found w m on = record {
  marked = m;
  count = refl;
  behind = λ k v at. at;
  all = λ v i. (let is = only_one w v i in subst (λ x. IsAmong found x) (sym is) (m.each_found w on));
  only = λ v i. inl i;
}

-- one that isn't
pub mark_new : (marks : List Bool) (found : List ℕ) (w : ℕ) (marks' : List Bool) (found' : List ℕ) → AreMarked marks found → slice_get marks w ≡ Some false
    → marks' ≡ set marks w true → found' ≡ found ++ w ∷ [] → Marks marks found marks' found' (w ∷ [])
mark_new marks found w marks' found' m off e f =
    subst (λ ms. Marks marks found ms found' (w ∷ [])) (sym e) (subst (λ ws. Marks marks found (set marks w true) ws (w ∷ [])) (sym f) here)
  where
    old_or_new : (v : ℕ) → IsAmong found v ⊎ (v ≡ w) → IsAmong found v ⊎ IsAmong (w ∷ []) v
    old_or_new v (inl i) = inl i
    old_or_new v (inr is) = inr (subst (λ x. IsAmong (w ∷ []) x) (sym is) (among_one w))

    here : Marks marks found (set marks w true) (found ++ w ∷ []) (w ∷ [])
    here = record {
      marked = marked_more marks found w m off;
      count = length-set marks w true;
      behind = λ k v at. push_keeps found w k v at;
      all = λ v i. (let is = only_one w v i in subst (λ x. IsAmong (found ++ w ∷ []) x) (sym is) (among_last found w));
      only = λ v i. old_or_new v (among_cases found w v i);
    }

-- no wires
pub marks_none : (marks : List Bool) (found : List ℕ) → AreMarked marks found → Marks marks found marks found []
marks_none marks found m = record {
  marked = m;
  count = refl;
  behind = λ k v at. at;
  all = λ v i. absurd (let none : None ≡ Some v = i.1 in cc);
  only = λ v i. inl i;
}

pub among_behind : (found found' : List ℕ) (w : ℕ) → ((k v : ℕ) → slice_get found k ≡ Some v → slice_get found' k ≡ Some v) → IsAmong found w → IsAmong found' w
among_behind found found' w behind i = (i.0, behind i.0 w i.1)

-- some wires, and one more
pub marks_more : (marks : List Bool) (found : List ℕ) (marks' : List Bool) (found' : List ℕ) (marks'' : List Bool) (found'' wires : List ℕ) (w : ℕ)
    → Marks marks found marks' found' wires → Marks marks' found' marks'' found'' (w ∷ []) → Marks marks found marks'' found'' (wires ++ w ∷ [])
marks_more marks found marks' found' marks'' found'' wires w a b = record {
  marked = b.marked;
  count = b.count ∙ a.count;
  behind = λ k v at. b.behind k v (a.behind k v at);
  all = λ v i. each v (among_cases wires w v i);
  only = λ v i. back v (b.only v i);
}
  where
    each : (v : ℕ) → IsAmong wires v ⊎ (v ≡ w) → IsAmong found'' v
    each v (inl i) = among_behind found' found'' v b.behind (a.all v i)
    each v (inr is) = b.all v (subst (λ x. IsAmong (w ∷ []) x) (sym is) (among_one w))

    before : (v : ℕ) → IsAmong found v ⊎ IsAmong wires v → IsAmong found v ⊎ IsAmong (wires ++ w ∷ []) v
    before v (inl i) = inl i
    before v (inr i) = inr (among_push wires w v i)

    back : (v : ℕ) → IsAmong found' v ⊎ IsAmong (w ∷ []) v → IsAmong found v ⊎ IsAmong (wires ++ w ∷ []) v
    back v (inl i) = before v (a.only v i)
    back v (inr i) = inr (let is = only_one w v i in subst (λ x. IsAmong (wires ++ w ∷ []) x) (sym is) (among_last wires w))

-- so of what serves the wires of a list
pub served_more : (servers : List ℕ) (wires : List WireId) (i : ℕ) (d : WireId) → i < length wires
    → served servers (take (i + 1) wires) ≡ served servers (take i wires) ++ slice_index servers (get_or wires i d).number ∷ []
served_more servers wires i d l = map_more (λ (w : WireId). slice_index servers w.number) wires i d l

pub served_at : (servers : List ℕ) (wires : List WireId) (k : ℕ) (r : WireId) → slice_get wires k ≡ Some r
    → IsAmong (served servers wires) (slice_index servers r.number)
served_at servers [] k r e = absurd (let none : None ≡ Some r = e in cc)
served_at servers (w ∷ wires) zero r e = let is : w ≡ r = cc in (zero, ap (λ (x : WireId). Some (slice_index servers x.number)) is)
served_at servers (w ∷ wires) (suc k) r e = let rest = served_at servers wires k r e in (suc rest.0, rest.1)

pub served_back : (servers : List ℕ) (wires : List WireId) (v : ℕ) → IsAmong (served servers wires) v
    → (k : ℕ) × (r : WireId) × (slice_get wires k ≡ Some r) × (slice_index servers r.number ≡ v)
served_back servers [] v i = absurd (let none : None ≡ Some v = i.1 in cc)
served_back servers (w ∷ wires) v i = by i.0 i.1 (λ k e. served_back servers wires v (k, e))
  where
    by : (k : ℕ) → slice_get (slice_index servers w.number ∷ served servers wires) k ≡ Some v
        → ((k : ℕ) → slice_get (served servers wires) k ≡ Some v → (k : ℕ) × (r : WireId) × (slice_get wires k ≡ Some r) × (slice_index servers r.number ≡ v))
        → (k : ℕ) × (r : WireId) × (slice_get (w ∷ wires) k ≡ Some r) × (slice_index servers r.number ≡ v)
    by zero e more = (zero, w, refl, cc)
    by (suc k) e more = let rest = more k e in (suc rest.0, rest.1, rest.2, rest.3)

-- at most as many wires are found as there are
pub few_found : (marks : List Bool) (found : List ℕ) → AreMarked marks found → length found ≤ length marks
few_found marks found m = omega (arith, m.counted)
