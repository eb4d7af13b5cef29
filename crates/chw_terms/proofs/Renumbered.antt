-- What a walk does to its variables, at a place and under more binders.
use Rattle.std.proofs.Common.{◌≡◌, ℕ, suc, zero, ◌+◌, ◌-◌, ◌<◌, ◌≤◌, ◌==◌, ◌⊎◌, ◌≢◌, nat_lt, leb, eqb, Bool, true, false, if◌then◌else◌, refl, sym, ap, ◌∙◌, arith, inl, inr, lt-ltb, le-ltb, eq-eqb, ne_eqb}
use Rattle.std.proofs.lemmas.Bool.Decides.{leb_tells, eqb_tells}
use Rattle.chw_types.specs.TypeMoves.{Renaming, lift, lift_by, raised}
use Rattle.chw_types.proofs.TypeLaws.{same, lifted}
use Rattle.chw_terms.specs.declared.moves.Renumbering.{Renumbering}
use Rattle.chw_terms.specs.declared.moves.Renumbering.TheVariants.{Raise, Lower, Exchange}
use Rattle.chw_terms.specs.TermTree.{TermTree, var}
use Rattle.chw_terms.specs.TypesMoved.{rename_types}
use Rattle.chw_terms.specs.TermMoves.{rename, Substitution, up, up_by, one, shift, in_place_of, lowered, exchanged}
use Rattle.chw_terms.specs.Moved.{renumbered}
use Rattle.chw_terms.proofs.Renamed.{rename_rename, rename_ids}
use Rattle.chw_terms.proofs.TermsPut.{retyped_up_by}

none_added : (x : ℕ) → x + 0 ≡ x
none_added x = omega arith

pub shift_by_none : (e : TermTree) → shift e 0 0 ≡ e
shift_by_none e = ap (rename e) (same _ _ none_added) ∙ rename_ids e

-- under n binders more
lifted_again : (n c : ℕ) (ρ : Renaming) → lift_by n (lift_by c ρ) ≡ lift_by (c + n) ρ
lifted_again zero c ρ = let e : c ≡ c + 0 = omega arith in ap (λ n. lift_by n ρ) e
lifted_again (suc n) c ρ = let e : suc (c + n) ≡ c + suc n = omega arith in ap lift (lifted_again n c ρ) ∙ ap (λ n. lift_by n ρ) e

pub up_again : (n c : ℕ) (σ : Substitution) → up_by n (up_by c σ) ≡ up_by (c + n) σ
unfolding up_by
up_again zero c σ = let e : c ≡ c + 0 = omega arith in ap (λ n. up_by n σ) e
up_again (suc n) c σ = let e : suc (c + n) ≡ c + suc n = omega arith in ap up (up_again n c σ) ∙ ap (λ n. up_by n σ) e

-- the variables around the one that goes
pub lowered_above : (v x : ℕ) → v < x → lowered v x ≡ x - 1
lowered_above v x h = ap (λ b. if b then x - 1 else x) (lt-ltb v x h)

pub lowered_below : (v x : ℕ) → x ≤ v → lowered v x ≡ x
lowered_below v x h = ap (λ b. if b then x - 1 else x) (le-ltb v x h)

lift_lowered : (v : ℕ) → lift (lowered v) ≡ lowered (suc v)
lift_lowered v = same _ _ at
  where
    next : (x : ℕ) → ((leb (suc v) x ≡ true) × (suc v ≤ x)) ⊎ ((leb (suc v) x ≡ false) × (x < suc v)) → suc (lowered v x) ≡ lowered (suc v) (suc x)
    next x (inl h) =
        let e : suc (x - 1) ≡ suc x - 1 = omega (arith, h.1) in
        ap suc (lowered_above v x (omega (arith, h.1))) ∙ e ∙ sym (lowered_above (suc v) (suc x) (omega (arith, h.1)))
    next x (inr h) = ap suc (lowered_below v x (omega (arith, h.1))) ∙ sym (lowered_below (suc v) (suc x) (omega (arith, h.1)))

    at : (x : ℕ) → lift (lowered v) x ≡ lowered (suc v) x
    at zero = sym (lowered_below (suc v) zero (omega arith))
    at (suc x) = next x (leb_tells (suc v) x)

lowered_deeper : (n c : ℕ) → lift_by n (lowered c) ≡ lowered (c + n)
lowered_deeper zero c = let e : c ≡ c + 0 = omega arith in ap lowered e
lowered_deeper (suc n) c = let e : suc (c + n) ≡ c + suc n = omega arith in ap lift (lowered_deeper n c) ∙ lift_lowered (c + n) ∙ ap lowered e

pub renumbered_deeper : (how : Renumbering) (n c : ℕ) → lift_by n (renumbered how c) ≡ renumbered how (c + n)
renumbered_deeper (Raise by) n c = lifted n c by
renumbered_deeper Lower n c = lowered_deeper n c
renumbered_deeper (Exchange first next) n c = lifted_again n c (exchanged first next)

-- the variables around those that change places
pub exchanged_below : (c m n x : ℕ) → x < c → lift_by c (exchanged m n) x ≡ x
exchanged_below zero m n x h = absurd (omega arith)
exchanged_below (suc c) m n zero h = refl
exchanged_below (suc c) m n (suc x) h = ap suc (exchanged_below c m n x (omega arith))

pub exchanged_first : (c m n x : ℕ) → c ≤ x → x < c + m → lift_by c (exchanged m n) x ≡ x + n
exchanged_first zero m n x h k = ap (λ b. if b then x + n else (if nat_lt x (m + n) then x - m else x)) (lt-ltb x m (omega arith))
exchanged_first (suc c) m n zero h k = absurd (omega arith)
exchanged_first (suc c) m n (suc x) h k = let e = exchanged_first c m n x (omega arith) (omega arith) in omega (arith, e)

pub exchanged_next : (c m n x : ℕ) → c + m ≤ x → x < c + m + n → lift_by c (exchanged m n) x ≡ x - m
exchanged_next zero m n x h k =
    (λ i. if le-ltb x m (omega (arith, h)) i then x + n else (if lt-ltb x (m + n) (omega (arith, k)) i then x - m else x))
exchanged_next (suc c) m n zero h k = absurd (omega arith)
exchanged_next (suc c) m n (suc x) h k = let e = exchanged_next c m n x (omega arith) (omega arith) in omega (arith, e, h)

pub exchanged_above : (c m n x : ℕ) → c + m + n ≤ x → lift_by c (exchanged m n) x ≡ x
exchanged_above zero m n x h =
    (λ i. if le-ltb x m (omega (arith, h)) i then x + n else (if le-ltb x (m + n) (omega (arith, h)) i then x - m else x))
exchanged_above (suc c) m n zero h = absurd (omega arith)
exchanged_above (suc c) m n (suc x) h = ap suc (exchanged_above c m n x (omega arith))

-- the variables around the one that is put for
pub in_place_below : (v x : ℕ) (a : TermTree) → x < v → in_place_of v a x ≡ var x
in_place_below v x a h = ap (λ b. if b then var x else (if x == v then a else var (x - 1))) (lt-ltb x v h)

pub in_place_here : (v x : ℕ) (a : TermTree) → x ≡ v → in_place_of v a x ≡ a
in_place_here v x a h = (λ i. if le-ltb x v (omega (arith, h)) i then var x else (if eq-eqb x v h i then a else var (x - 1)))

pub in_place_above : (v x : ℕ) (a : TermTree) → v < x → in_place_of v a x ≡ var (x - 1)
in_place_above v x a h = (λ i. if le-ltb x v (omega (arith, h)) i then var x else (if ne_eqb x v (λ e. absurd (omega (arith, h, e))) i then a else var (x - 1)))

up_in_place : (v : ℕ) (a : TermTree) → up (in_place_of v a) ≡ in_place_of (suc v) (rename a suc)
unfolding up rename
up_in_place v a = same _ _ at
  where
    lower : (x : ℕ) → x < v → rename (in_place_of v a x) suc ≡ in_place_of (suc v) (rename a suc) (suc x)
    lower x h = ap (λ e. rename e suc) (in_place_below v x a h) ∙ sym (in_place_below (suc v) (suc x) (rename a suc) (omega (arith, h)))

    here : (x : ℕ) → x ≡ v → rename (in_place_of v a x) suc ≡ in_place_of (suc v) (rename a suc) (suc x)
    here x h = ap (λ e. rename e suc) (in_place_here v x a h) ∙ sym (in_place_here (suc v) (suc x) (rename a suc) (omega (arith, h)))

    upper : (x : ℕ) → v < x → rename (in_place_of v a x) suc ≡ in_place_of (suc v) (rename a suc) (suc x)
    upper x h =
        let e : suc (x - 1) ≡ suc x - 1 = omega (arith, h) in
        ap (λ e. rename e suc) (in_place_above v x a h) ∙ ap var e ∙ sym (in_place_above (suc v) (suc x) (rename a suc) (omega (arith, h)))

    other : (x : ℕ) → v ≤ x → ((eqb x v ≡ true) × (x ≡ v)) ⊎ ((eqb x v ≡ false) × (x ≢ v)) → rename (in_place_of v a x) suc ≡ in_place_of (suc v) (rename a suc) (suc x)
    other x h (inl e) = here x e.1
    other x h (inr e) = upper x (omega (arith, h, e.1))

    next : (x : ℕ) → ((leb (suc x) v ≡ true) × (suc x ≤ v)) ⊎ ((leb (suc x) v ≡ false) × (v < suc x)) → rename (in_place_of v a x) suc ≡ in_place_of (suc v) (rename a suc) (suc x)
    next x (inl h) = lower x (omega (arith, h.1))
    next x (inr h) = other x (omega (arith, h.1)) (eqb_tells x v)

    at : (x : ℕ) → up (in_place_of v a) x ≡ in_place_of (suc v) (rename a suc) x
    at zero = sym (in_place_below (suc v) zero (rename a suc) (omega arith))
    at (suc x) = next x (leb_tells (suc x) v)

pub up_by_in_place : (n v : ℕ) (a : TermTree) → up_by n (in_place_of v a) ≡ in_place_of (v + n) (shift a 0 n)
unfolding up_by
up_by_in_place zero v a = let e : v ≡ v + 0 = omega arith in (λ i. in_place_of (e i) (sym (shift_by_none a) i))
up_by_in_place (suc n) v a =
    let e : suc (v + n) ≡ v + suc n = omega arith in
    ap up (up_by_in_place n v a) ∙ up_in_place (v + n) (shift a 0 n) ∙ (λ i. in_place_of (e i) ((rename_rename a (raised 0 n) suc ∙ ap (rename a) (same _ _ plus_suc)) i))
  where
    plus_suc : (x : ℕ) → suc (x + n) ≡ x + suc n
    plus_suc x = omega arith

pub one_is_in_place : (a : TermTree) → in_place_of 0 a ≡ one a
one_is_in_place a = same _ _ at
  where
    at : (x : ℕ) → in_place_of 0 a x ≡ one a x
    at zero = refl
    at (suc x) = let e : suc x - 1 ≡ x = omega arith in in_place_above 0 (suc x) a (omega arith) ∙ ap var e

in_place_retyped : (v : ℕ) (a : TermTree) → (λ x. rename_types (in_place_of v a x) suc) ≡ in_place_of v (rename_types a suc)
unfolding rename_types
in_place_retyped v a = same _ _ (λ x. by x (nat_lt x v) (x == v))
  where
    by : (x : ℕ) (s t : Bool) → rename_types (if s then var x else (if t then a else var (x - 1))) suc ≡ (if s then var x else (if t then rename_types a suc else var (x - 1)))
    by x true t = refl
    by x false true = refl
    by x false false = refl

-- what is put under a type binder
pub up_in_place_retyped : (c v : ℕ) (a : TermTree) → (λ x. rename_types (up_by c (in_place_of v a) x) suc) ≡ up_by c (in_place_of v (rename_types a suc))
up_in_place_retyped c v a = retyped_up_by c (in_place_of v a) suc ∙ ap (up_by c) (in_place_retyped v a)
