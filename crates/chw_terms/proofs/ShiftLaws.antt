-- Laws of shifting and of putting one term.
use Rattle.std.proofs.Common.{◌≡◌, ℕ, suc, zero, ◌+◌, ◌≤◌, refl, sym, ap, ◌∙◌, arith}
use Rattle.chw_types.specs.TypeMoves.{lift, lift_by, raised}
use Rattle.chw_types.proofs.TypeLaws.{same, lifted}
use Rattle.chw_types.proofs.TypeMoved.{raised_above}
use Rattle.chw_terms.specs.TermTree.{TermTree, var}
use Rattle.chw_terms.specs.TermMoves.{rename, up, up_by, sub, shift, one, put_at, put}
use Rattle.chw_terms.proofs.Renamed.{lift_by_by, rename_rename, rename_ids}
use Rattle.chw_terms.proofs.TermsPut.{up_lift_by, rename_sub, lift_up_by, sub_rename, sub_sub, sub_ids}

-- what a shift does under its place, which is counted from 0
pub raised_is : (c by : ℕ) → raised c by ≡ lift_by c (raised 0 by)
raised_is c by = let e : 0 + c ≡ c = omega arith in sym (lifted c 0 by ∙ ap (λ n. raised n by) e)

pub raised_under : (c d by : ℕ) → raised (d + c) by ≡ lift_by c (raised d by)
raised_under c d by = sym (lifted c d by)

pub shift_again : (e : TermTree) (c d m n : ℕ) → d ≤ m → shift (shift e c m) (d + c) n ≡ shift e c (m + n)
shift_again e c d m n h =
    (λ i. rename (rename e (raised_is c m i)) (raised_under c d n i))
    ∙ rename_rename e (lift_by c (raised 0 m)) (lift_by c (raised d n))
    ∙ ap (rename e) (lift_by_by c (raised 0 m) (raised d n) ∙ ap (lift_by c) (same _ _ here) ∙ sym (raised_is c (m + n)))
  where
    here : (x : ℕ) → raised d n (x + m) ≡ x + (m + n)
    here x = let e = raised_above d n (x + m) (omega (arith, h)) in omega (arith, e)

-- a variable above the place of another shift
raised_apart : (d m n x : ℕ) → raised (d + m) n (x + m) ≡ raised d n x + m
raised_apart d zero n x = let e : d + 0 ≡ d = omega arith in let f : x + 0 ≡ x = omega arith in let g : raised d n x ≡ raised d n x + 0 = omega arith in (λ i. raised (e i) n (f i)) ∙ g
raised_apart d (suc m) n x =
    let e : d + suc m ≡ suc (d + m) = omega arith in
    let f : x + suc m ≡ suc (x + m) = omega arith in
    let g : suc (raised d n x + m) ≡ raised d n x + suc m = omega arith in
    (λ i. raised (e i) n (f i)) ∙ ap suc (raised_apart d m n x) ∙ g

pub shift_shift : (e : TermTree) (c d m n : ℕ) → shift (shift e c m) (d + m + c) n ≡ shift (shift e (d + c) n) c m
shift_shift e c d m n =
    (λ i. rename (rename e (raised_is c m i)) (raised_under c (d + m) n i))
    ∙ rename_rename e (lift_by c (raised 0 m)) (lift_by c (raised (d + m) n))
    ∙ ap (rename e) (lift_by_by c (raised 0 m) (raised (d + m) n) ∙ ap (lift_by c) (same _ _ (raised_apart d m n)) ∙ sym (lift_by_by c (raised d n) (raised 0 m)))
    ∙ sym (rename_rename e (lift_by c (raised d n)) (lift_by c (raised 0 m)))
    ∙ (λ i. rename (rename e (sym (raised_under c d n) i)) (sym (raised_is c m) i))

-- the law of shifting after putting, at the variables
shift_put_at : (c d by : ℕ) (a : TermTree) (x : ℕ) → rename (put_at c a x) (lift_by c (raised d by)) ≡ put_at c (shift a d by) (lift_by c (lift (raised d by)) x)
unfolding rename up up_by put_at
shift_put_at zero d by a zero = refl
shift_put_at zero d by a (suc x) = refl
shift_put_at (suc c) d by a zero = refl
shift_put_at (suc c) d by a (suc x) = rename_rename (put_at c a x) suc (lift (lift_by c (raised d by))) ∙ sym (rename_rename (put_at c a x) (lift_by c (raised d by)) suc) ∙ ap (λ e. rename e suc) (shift_put_at c d by a x)

pub shift_put : (e a : TermTree) (c d by : ℕ) → shift (put e c a) (d + c) by ≡ put (shift e (d + 1 + c) by) c (shift a d by)
shift_put e a c d by =
    ap (rename (put e c a)) (raised_under c d by)
    ∙ sub_rename e (put_at c a) (lift_by c (raised d by))
    ∙ ap (sub e) (same _ _ (shift_put_at c d by a))
    ∙ sym (rename_sub e (lift_by c (lift (raised d by))) (put_at c (shift a d by)))
    ∙ ap (λ ρ. put (rename e ρ) c (shift a d by)) (ap (lift_by c) (lifted 1 d by) ∙ lifted c (d + 1) by)

-- a variable that is put for, and the others, under more binders
raised_put_at : (d by : ℕ) (a : TermTree) (x : ℕ) → rename (put_at d a x) (raised 0 by) ≡ put_at (d + by) a (x + by)
unfolding put_at up_by up
raised_put_at d zero a x =
    let e : d ≡ d + 0 = omega arith in let f : x ≡ x + 0 = omega arith in
    ap (rename (put_at d a x)) (same _ _ none) ∙ rename_ids (put_at d a x) ∙ (λ i. put_at (e i) a (f i))
  where
    none : (x : ℕ) → x + 0 ≡ x
    none x = omega arith
raised_put_at d (suc by) a x =
    let e : suc (d + by) ≡ d + suc by = omega arith in let f : suc (x + by) ≡ x + suc by = omega arith in
    ap (rename (put_at d a x)) (same _ _ one_more)
    ∙ sym (rename_rename (put_at d a x) (raised 0 by) suc)
    ∙ ap (λ e. rename e suc) (raised_put_at d by a x)
    ∙ (λ i. put_at (e i) a (f i))
  where
    one_more : (x : ℕ) → x + suc by ≡ suc (x + by)
    one_more x = omega arith

pub put_deeper : (n c : ℕ) (a : TermTree) → up_by n (put_at c a) ≡ put_at (c + n) a
unfolding put_at up_by
put_deeper zero c a = let e : c ≡ c + 0 = omega arith in ap (λ c. put_at c a) e
put_deeper (suc n) c a = let e : suc (c + n) ≡ c + suc n = omega arith in ap up (put_deeper n c a) ∙ ap (λ c. put_at c a) e

pub shift_below_put : (e a : TermTree) (c d by : ℕ) → shift (put e (d + c) a) c by ≡ put (shift e c by) (d + by + c) a
shift_below_put e a c d by =
    (λ i. rename (sub e (sym (put_deeper c d a) i)) (raised_is c by i))
    ∙ sub_rename e (up_by c (put_at d a)) (lift_by c (raised 0 by))
    ∙ ap (sub e) (lift_up_by c (put_at d a) (raised 0 by) ∙ ap (up_by c) (same _ _ (raised_put_at d by a)) ∙ sym (up_lift_by c (raised 0 by) (put_at (d + by) a)))
    ∙ sym (rename_sub e (lift_by c (raised 0 by)) (up_by c (put_at (d + by) a)))
    ∙ (λ i. sub (rename e (sym (raised_is c by) i)) (put_deeper c (d + by) a i))

-- a variable that a shift made room for, at the variables
put_shift_at : (c : ℕ) (a : TermTree) (x : ℕ) → put_at c a (raised c 1 x) ≡ var x
unfolding put_at up_by up rename
put_shift_at zero a x = let e : x + 1 ≡ suc x = omega arith in ap (one a) e
put_shift_at (suc c) a zero = refl
put_shift_at (suc c) a (suc x) = ap (λ e. rename e suc) (put_shift_at c a x)

pub put_shift : (e a : TermTree) (c : ℕ) → put (shift e c 1) c a ≡ e
put_shift e a c = rename_sub e (raised c 1) (put_at c a) ∙ ap (sub e) (same _ _ (put_shift_at c a)) ∙ sub_ids e

-- the order of two puttings, at the variables
put_put_at : (c d : ℕ) (a b : TermTree) (x : ℕ) → sub (put_at c a x) (up_by c (put_at d b)) ≡ sub (up_by c (put_at (suc d) b) x) (put_at c (put a d b))
unfolding put_at up_by up sub rename
put_put_at zero d a b zero = refl
put_put_at zero d a b (suc x) = sym (sub_shift (up_by d (one b) x) (put a d b))
  where
    sub_shift : (t e : TermTree) → sub (rename t suc) (one e) ≡ t
    sub_shift t e = rename_sub t suc (one e) ∙ sub_ids t
put_put_at (suc c) d a b zero = refl
put_put_at (suc c) d a b (suc x) =
    rename_sub (put_at c a x) suc (up (up_by c (put_at d b)))
    ∙ sym (sub_rename (put_at c a x) (up_by c (put_at d b)) suc)
    ∙ ap (λ e. rename e suc) (put_put_at c d a b x)
    ∙ sub_rename (up_by c (put_at (suc d) b) x) (put_at c (put a d b)) suc
    ∙ sym (rename_sub (up_by c (put_at (suc d) b) x) suc (up (put_at c (put a d b))))

pub put_put : (e a b : TermTree) (c d : ℕ) → put (put e c a) (d + c) b ≡ put (put e (d + 1 + c) b) c (put a d b)
put_put e a b c d =
    let next : suc d ≡ d + 1 = omega arith in
    ap (sub (put e c a)) (sym (put_deeper c d b))
    ∙ sub_sub e (put_at c a) (up_by c (put_at d b))
    ∙ ap (sub e) (same _ _ (put_put_at c d a b))
    ∙ sym (sub_sub e (up_by c (put_at (suc d) b)) (put_at c (put a d b)))
    ∙ ap (λ σ. sub (sub e σ) (put_at c (put a d b))) (put_deeper c (suc d) b ∙ ap (λ n. put_at (n + c) b) next)
