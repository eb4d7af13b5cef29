-- The bodies of a state where one of them has changed.
use Rattle.std.proofs.Common.{◌≡◌, ◌≢◌, ◌⊎◌, inl, inr, ℕ, zero, suc, ◌+◌, ◌<◌, ◌≤◌, refl, sym, ap}
use Rattle.std.proofs.Common.{subst, ◌∙◌, arith, List, [], ◌∷◌, ◌++◌, length, set, Option, Some, None}
use Rattle.std.proofs.lemmas.List.{length_push}
use Rattle.std.proofs.lemmas.Option.{same_Some, slice_get_within}
use Rattle.std.specs.List.{slice_get}
use Rattle.chw_base.specs.declared.limits.TheConstants.{MADE_DEPTH}
use Rattle.chw_types.specs.Polynomials.{ended}
use Rattle.chw_terms.specs.declared.scene.Made.{Made}
use Rattle.chw_terms.specs.Depth.{depth}
use Rattle.chw_terms.specs.TermTree.{TermTree}
use Rattle.chw_norm.specs.Bounds.{AreBounds, IsBound}
use Rattle.trials.specs.Trials.{with_new}
use Rattle.chw_norm.specs.Running.{AreShallow, HasDeep}
use Rattle.chw_norm.specs.Underway.{depth_of, with_bound}

-- an item is the changed one, or another one as it was
set_either : {X : Type 0} (xs : List X) (n m : ℕ) (y x : X) → slice_get (set xs n y) m ≡ Some x
    → ((m ≡ n) × (y ≡ x)) ⊎ ((m ≢ n) × (slice_get xs m ≡ Some x))
set_either [] n m y x h = absurd cc
set_either (z ∷ xs) zero zero y x h = inl (refl, same_Some y x h)
set_either (z ∷ xs) zero (suc m) y x h = inr ((λ e. omega (arith, e)), h)
set_either (z ∷ xs) (suc n) zero y x h = inr ((λ e. omega (arith, e)), h)
set_either (z ∷ xs) (suc n) (suc m) y x h = by (set_either xs n m y x h)
  where
    by : ((m ≡ n) × (y ≡ x)) ⊎ ((m ≢ n) × (slice_get xs m ≡ Some x))
        → ((suc m ≡ suc n) × (y ≡ x)) ⊎ ((suc m ≢ suc n) × (slice_get xs m ≡ Some x))
    by (inl e) = inl (ap suc e.0, e.1)
    by (inr e) = inr ((λ s. e.0 (omega (arith, s))), e.1)

pub set_there : {X : Type 0} (xs : List X) (n : ℕ) (y : X) → n < length xs
    → slice_get (set xs n y) n ≡ Some y
set_there [] n y h = absurd (omega arith)
set_there (z ∷ xs) zero y h = refl
set_there (z ∷ xs) (suc n) y h = set_there xs n y (omega arith)

pub length_kept : {X : Type 0} (xs : List X) (n : ℕ) (y : X) → length (set xs n y) ≡ length xs
length_kept [] n y = refl
length_kept (z ∷ xs) zero y = refl
length_kept (z ∷ xs) (suc n) y = ap suc (length_kept xs n y)

-- there is an item of each number
there : {X : Type 0} (xs : List X) (n : ℕ) → n < length xs → (x : X) × (slice_get xs n ≡ Some x)
there [] n h = absurd (omega arith)
there (x ∷ xs) zero h = (x, refl)
there (x ∷ xs) (suc n) h = there xs n (omega arith)

-- an item is one of those that were there, or the new one behind them
pushed : {X : Type 0} (xs : List X) (m : ℕ) (y x : X) → slice_get (xs ++ y ∷ []) m ≡ Some x
    → (slice_get xs m ≡ Some x) ⊎ ((m ≡ length xs) × (y ≡ x))
pushed [] zero y x e = inr (refl, same_Some y x e)
pushed [] (suc m) y x e = absurd cc
pushed (z ∷ xs) zero y x e = inl e
pushed (z ∷ xs) (suc m) y x e = by (pushed xs m y x e)
  where
    by : (slice_get xs m ≡ Some x) ⊎ ((m ≡ length xs) × (y ≡ x))
        → (slice_get (z ∷ xs) (suc m) ≡ Some x) ⊎ ((suc m ≡ suc (length xs)) × (y ≡ x))
    by (inl e) = inl e
    by (inr e) = inr (ap suc e.0, e.1)

-- the bound of the changed body, where it follows from the one that was there
pub bound_changed : (made : List Made) (bounds : List ℕ) (n bound : ℕ) (it : Made) (body : TermTree)
    → slice_get made n ≡ Some it → AreBounds made bounds
    → ((k : ℕ) → slice_get bounds n ≡ Some k → IsBound k it.body → IsBound bound body)
    → IsBound bound body
bound_changed made bounds n bound it body is h keeps =
    let old = there bounds n (omega (arith, slice_get_within made n it is, h.each_one)) in
    keeps old.0 old.1 (h.bounded n it old.0 is old.1)

-- all bounds, with that of the changed body
pub bounds_kept : (made : List Made) (bounds : List ℕ) (n bound : ℕ) (y : Made)
    → AreBounds made bounds → IsBound bound y.body → AreBounds (set made n y) (set bounds n bound)
bounds_kept made bounds n bound y h changed = record {
  each_one = length_kept bounds n bound ∙ h.each_one ∙ sym (length_kept made n y);
  bounded = λ m x k at b. by m x k (set_either made n m y x at) (set_either bounds n m bound k b);
}
  where
    by : (m : ℕ) (x : Made) (k : ℕ) → ((m ≡ n) × (y ≡ x)) ⊎ ((m ≢ n) × (slice_get made m ≡ Some x))
        → ((m ≡ n) × (bound ≡ k)) ⊎ ((m ≢ n) × (slice_get bounds m ≡ Some k)) → IsBound k x.body
    by m x k (inl a) (inl b) =
        subst (λ r. IsBound r x.body) b.1 (subst (λ (r : Made). IsBound bound r.body) a.1 changed)
    by m x k (inl a) (inr b) = absurd (b.0 a.0)
    by m x k (inr a) (inl b) = absurd (a.0 b.0)
    by m x k (inr a) (inr b) = h.bounded m x k a.1 b.1

-- all bodies but that of this number are shallow
abbrev pub OthersShallow : List Made → ℕ → Type 0
OthersShallow made n =
    (m : ℕ) (x : Made) → m ≢ n → slice_get made m ≡ Some x → depth x.body ≤ MADE_DEPTH

-- so they are where no other one could be over the limit
others_shallow : (made : List Made) (n : ℕ) (it : Made) → slice_get made n ≡ Some it
    → (length made ≡ 1) ⊎ AreShallow made → OthersShallow made n
others_shallow made n it is (inl one) m x other at =
    let at_n = slice_get_within made n it is in
    let at_m = slice_get_within made m x at in
    absurd (other (omega (arith, one)))
others_shallow made n it is (inr shallow) m x other at = shallow m x at

-- and still are behind a shallow one that is added
others_grown : (made : List Made) (n : ℕ) (d : Option Made) → OthersShallow made n
    → depth_of d ≤ MADE_DEPTH → OthersShallow (with_new made d) n
others_grown made n None h l m x other at = h m x other at
others_grown made n (Some y) h l m x other at = by (pushed made m y x at)
  where
    by : (slice_get made m ≡ Some x) ⊎ ((m ≡ length made) × (y ≡ x)) → depth x.body ≤ MADE_DEPTH
    by (inl a) = h m x other a
    by (inr a) = subst (λ (r : Made). depth r.body ≤ MADE_DEPTH) a.1 (omega (arith, l))

-- all are where the changed one is
all_changed : (made : List Made) (n : ℕ) (y : Made) → OthersShallow made n
    → depth y.body ≤ MADE_DEPTH → AreShallow (set made n y)
all_changed made n y others h m x at = by (set_either made n m y x at)
  where
    by : ((m ≡ n) × (y ≡ x)) ⊎ ((m ≢ n) × (slice_get made m ≡ Some x)) → depth x.body ≤ MADE_DEPTH
    by (inl a) = subst (λ (r : Made). depth r.body ≤ MADE_DEPTH) a.1 h
    by (inr a) = others m x a.0 a.1

pub all_shallow : (made : List Made) (n : ℕ) (d : Option Made) (it y : Made)
    → slice_get made n ≡ Some it → (length made ≡ 1) ⊎ AreShallow made
    → depth_of d ≤ MADE_DEPTH → depth y.body ≤ MADE_DEPTH → AreShallow (set (with_new made d) n y)
all_shallow made n d it y is others l h =
    all_changed (with_new made d) n y
    (others_grown made n d (others_shallow made n it is others) l) h

pub has_deep : (made : List Made) (n : ℕ) (it y : Made) → slice_get made n ≡ Some it
    → MADE_DEPTH < depth y.body → HasDeep (set made n y)
has_deep made n it y is h =
    record { number = n; it = y; is = set_there made n y (slice_get_within made n it is); deep = h }

-- an item stays where another one changes
set_other : {X : Type 0} (xs : List X) (n m : ℕ) (y x : X) → n < m → slice_get xs m ≡ Some x
    → slice_get (set xs n y) m ≡ Some x
set_other [] n m y x l h = absurd cc
set_other (z ∷ xs) n zero y x l h = absurd (omega (arith, l))
set_other (z ∷ xs) zero (suc m) y x l h = h
set_other (z ∷ xs) (suc n) (suc m) y x l h = set_other xs n m y x (omega (arith, l)) h

at_end : {X : Type 0} (xs : List X) (y : X) → slice_get (xs ++ y ∷ []) (length xs) ≡ Some y
at_end [] y = refl
at_end (x ∷ xs) y = at_end xs y

-- the body of what is added can be the deep one
pub new_is_deep : (made : List Made) (n : ℕ) (d : Option Made) (it y : Made)
    → slice_get made n ≡ Some it → MADE_DEPTH < depth_of d → HasDeep (set (with_new made d) n y)
new_is_deep made n None it y is h = absurd (omega (arith, h))
new_is_deep made n (Some x) it y is h = record {
  number = length made;
  it = x;
  is = set_other (made ++ x ∷ []) n (length made) y x (slice_get_within made n it is)
      (at_end made x);
  deep = omega (arith, h);
}

-- what was there is still there
in_front : {X : Type 0} (xs ys : List X) (n : ℕ) (x : X) → slice_get xs n ≡ Some x
    → slice_get (xs ++ ys) n ≡ Some x
in_front [] ys n x h = absurd cc
in_front (z ∷ xs) ys zero x h = h
in_front (z ∷ xs) ys (suc n) x h = in_front xs ys n x h

pub still_there : (made : List Made) (d : Option Made) (n : ℕ) (it : Made)
    → slice_get made n ≡ Some it → slice_get (with_new made d) n ≡ Some it
still_there made None n it h = h
still_there made (Some x) n it h = in_front made (x ∷ []) n it h

-- so many bodies have their bounds
abbrev pub HaveBounds : List Made → List ℕ → ℕ → Type 0
HaveBounds made bounds i =
    (length bounds ≡ i)
    × ((m : ℕ) (x : Made) (n : ℕ)
    → slice_get made m ≡ Some x → slice_get bounds m ≡ Some n → IsBound n x.body)

-- one more has its bound
pub bounds_next : (made : List Made) (bounds bounds' : List ℕ) (i n : ℕ) (it : Made)
    → slice_get made i ≡ Some it → IsBound n it.body → bounds' ≡ bounds ++ n ∷ []
    → HaveBounds made bounds i → HaveBounds made bounds' (i + 1)
bounds_next made bounds bounds' i n it at bound is h = (all, each)
  where
    all : length bounds' ≡ i + 1
    all = ap length is ∙ length_push bounds n ∙ ap (λ k. k + 1) h.0

    by : (m : ℕ) (x : Made) (k : ℕ) → slice_get made m ≡ Some x
        → (slice_get bounds m ≡ Some k) ⊎ ((m ≡ length bounds) × (n ≡ k)) → IsBound k x.body
    by m x k a (inl e) = h.1 m x k a e
    by m x k a (inr e) =
        let same : it ≡ x = same_Some it x (sym at ∙ ap (slice_get made) (sym (e.0 ∙ h.0)) ∙ a) in
        subst (λ r. IsBound r x.body) e.1 (subst (λ (r : Made). IsBound n r.body) same bound)

    each : (m : ℕ) (x : Made) (k : ℕ) → slice_get made m ≡ Some x
        → slice_get bounds' m ≡ Some k → IsBound k x.body
    each m x k a b =
        by m x k a (pushed bounds m n k (ap (λ (ks : List ℕ). slice_get ks m) (sym is) ∙ b))

-- all bounds, with that of what is added
pub bounds_grown : (made : List Made) (bounds : List ℕ) (d : Option Made) → AreBounds made bounds
    → AreBounds (with_new made d) (with_bound bounds d)
bounds_grown made bounds None h = h
bounds_grown made bounds (Some y) h = record {
  each_one = length_push bounds (ended (depth y.body)) ∙ ap (λ k. k + 1) h.each_one
      ∙ sym (length_push made y);
  bounded = λ m x k at b. by m x k (pushed made m y x at) (pushed bounds m (ended (depth y.body)) k b);
}
  where
    by : (m : ℕ) (x : Made) (k : ℕ) → (slice_get made m ≡ Some x) ⊎ ((m ≡ length made) × (y ≡ x))
        → (slice_get bounds m ≡ Some k) ⊎ ((m ≡ length bounds) × (ended (depth y.body) ≡ k))
        → IsBound k x.body
    by m x k (inl a) (inl b) = h.bounded m x k a b
    by m x k (inl a) (inr b) =
        absurd (omega (arith, slice_get_within made m x a, b.0, h.each_one))
    by m x k (inr a) (inl b) =
        absurd (omega (arith, slice_get_within bounds m k b, a.0, h.each_one))
    by m x k (inr a) (inr b) =
        let same : ended (depth x.body) ≡ k =
        ap (λ (r : Made). ended (depth r.body)) (sym a.1) ∙ b.1 in
        λ small. omega (arith, same, small)
