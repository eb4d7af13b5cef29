-- The kept wires and the new numbers, wire by wire.
use Rattle.std.proofs.Common.{◌≡◌, ℕ, ◌+◌, ◌<◌, ◌≤◌, ◌⊎◌, inl, inr, Bool, true, false, List, [], ◌∷◌, ◌++◌, length, set, Some, None, slice_get, sym, ap, subst, ◌∙◌, arith}
use Rattle.std.proofs.lemmas.Bool.{cases_eq}
use Rattle.std.proofs.lemmas.List.{length-set}
use Rattle.std.proofs.lemmas.Option.{same_Some}
use Rattle.share_laws.specs.Shares.{IsAmong, RisesFrom}
use Rattle.net_share.specs.Numbering.{AreKept, AreNumbered}
use Rattle.net_share.proofs.Pushed.{among_cases, among_last, among_push, set_other, set_same}
use Rattle.net_share.proofs.Rising.{rises_at, rises_fit, rises_once, rises_push}

module _ (inputs : ℕ) (marks : List Bool) where
  pub kept_none : (kept : List ℕ) (end : ℕ) → kept ≡ [] → end ≡ inputs → AreKept inputs marks end kept
  kept_none kept end e s = subst (λ ws. AreKept inputs marks end ws) (sym e) none
    where
      none : AreKept inputs marks end []
      none = record {
        rises = tt;
        marked = λ w i. absurd (let no : None ≡ Some w = i.1 in cc);
        below = λ w i. absurd (let no : None ≡ Some w = i.1 in cc);
        all = λ w on l m. absurd (omega (arith, l, m, s));
      }

  -- a wire that isn't marked
  pub kept_same : (kept : List ℕ) (w end : ℕ) → end ≡ w + 1 → AreKept inputs marks w kept → slice_get marks w ≡ Some false → AreKept inputs marks end kept
  kept_same kept w end e k off = record {
    rises = k.rises;
    marked = k.marked;
    below = λ v i. (let l = k.below v i in omega (arith, l, e));
    all = λ v on l m. k.all v on l (other v on m (cases_eq v w));
  }
    where
      other : (v : ℕ) → slice_get marks v ≡ Some true → v < end → (v ≡ w) ⊎ (v ≡ w → ⊥) → v < w
      other v on m (inl same) = absurd (let both : Some true ≡ Some false = sym on ∙ ap (λ j. slice_get marks j) same ∙ off in cc)
      other v on m (inr apart) = omega (arith, m, e, apart)

  -- one that is
  pub kept_more : (kept kept' : List ℕ) (w end : ℕ) → end ≡ w + 1 → inputs ≤ w → AreKept inputs marks w kept → slice_get marks w ≡ Some true
      → kept' ≡ kept ++ w ∷ [] → AreKept inputs marks end kept'
  kept_more kept kept' w end e least k on p = subst (λ ws. AreKept inputs marks end ws) (sym p) pushed
    where
      each_marked : (v : ℕ) → IsAmong kept v ⊎ (v ≡ w) → slice_get marks v ≡ Some true
      each_marked v (inl i) = k.marked v i
      each_marked v (inr is) = ap (λ j. slice_get marks j) is ∙ on

      each_below : (v : ℕ) → IsAmong kept v ⊎ (v ≡ w) → v < end
      each_below v (inl i) = let l = k.below v i in omega (arith, l, e)
      each_below v (inr is) = omega (arith, is, e)

      each_there : (v : ℕ) → slice_get marks v ≡ Some true → inputs ≤ v → v < end → (v ≡ w) ⊎ (v ≡ w → ⊥) → IsAmong (kept ++ w ∷ []) v
      each_there v set_ l m (inl is) = subst (λ x. IsAmong (kept ++ w ∷ []) x) (sym is) (among_last kept w)
      each_there v set_ l m (inr apart) = among_push kept w v (k.all v set_ l (omega (arith, m, e, apart)))

      pushed : AreKept inputs marks end (kept ++ w ∷ [])
      pushed = record {
        rises = rises_push inputs kept w k.rises least k.below;
        marked = λ v i. each_marked v (among_cases kept w v i);
        below = λ v i. each_below v (among_cases kept w v i);
        all = λ v set_ l m. each_there v set_ l m (cases_eq v w);
      }

  -- the inputs and the kept wires are at most as many as all wires
  pub kept_fit : (kept : List ℕ) → inputs ≤ length marks → AreKept inputs marks (length marks) kept → inputs + length kept ≤ length marks
  kept_fit kept l k = rises_fit inputs (length marks) kept k.rises l k.below

-- at first each wire has its own number
pub numbered_first : (inputs count : ℕ) (kept numbers : List ℕ) → inputs ≤ count → length numbers ≡ count
    → ((w : ℕ) → w < count → slice_get numbers w ≡ Some w) → AreNumbered inputs count kept numbers 0
numbered_first inputs count kept numbers l long each = record {
  count = long;
  own = λ w m. each w (omega (arith, l, m));
  next = λ k w m. absurd (omega (arith, m));
}

-- one more kept wire gets its number
pub numbered_next : (inputs count k w end : ℕ) (kept numbers numbers' : List ℕ) → RisesFrom inputs kept → slice_get kept k ≡ Some w → w < count
    → end ≡ k + 1 → AreNumbered inputs count kept numbers k → numbers' ≡ set numbers w (inputs + k) → AreNumbered inputs count kept numbers' end
numbered_next inputs count k w end kept numbers numbers' rises at within e a p = subst (λ ns. AreNumbered inputs count kept ns end) (sym p) written
  where
    after : inputs ≤ w
    after = rises_at inputs kept k w rises at

    room : w < length numbers
    room = omega (arith, within, a.count)

    by : (j v : ℕ) → j < end → slice_get kept j ≡ Some v → (j ≡ k) ⊎ (j ≡ k → ⊥) → slice_get (set numbers w (inputs + k)) v ≡ Some (inputs + j)
    by j v l there (inl same) =
        let is : w ≡ v = same_Some w v (sym at ∙ ap (λ i. slice_get kept i) (sym same) ∙ there) in
        ap (λ x. slice_get (set numbers w (inputs + k)) x) (sym is) ∙ set_same numbers w (inputs + k) room ∙ ap (λ i. Some (inputs + i)) (sym same)
    by j v l there (inr apart) =
        let other : v ≡ w → ⊥ = λ s. apart (rises_once inputs kept j k w rises (there ∙ ap Some s) at) in
        set_other numbers w v (inputs + k) other ∙ a.next j v (omega (arith, l, e, apart)) there

    written : AreNumbered inputs count kept (set numbers w (inputs + k)) end
    written = record {
      count = length-set numbers w (inputs + k) ∙ a.count;
      own = λ v l. set_other numbers w v (inputs + k) (λ s. omega (arith, s, l, after)) ∙ a.own v l;
      next = λ j v l there. by j v l there (cases_eq j k);
    }

-- the number of a kept wire is one of the shared net's
pub number_fits : (inputs count k : ℕ) (kept : List ℕ) → RisesFrom inputs kept → inputs ≤ count → ((w : ℕ) → IsAmong kept w → w < count) → k < length kept
    → inputs + k < count
number_fits inputs count k kept rises l below m = let fit = rises_fit inputs count kept rises l below in omega (arith, fit, m)
