-- Laws of renaming and of putting types.
use Rattle.std.proofs.Common.{◌≡◌, ℕ, suc, zero, ◌+◌, refl, sym, ap, ◌∙◌, arith}
use Rattle.chw_types.specs.TypeTree.{TypeTree, ty_var, nat_lit, nat_sum, nat_product, domain, scalar, vector, data_of, fun, signal, for_all, TypeTrees, no_types, type_and}
use Rattle.chw_types.specs.TypeMoves.{Renaming, lift, lift_by, rename, rename_all, Substitution, up, up_by, sub, sub_all, raised, shift, one, put_at, put}

-- functions that agree everywhere are equal
pub same : {A : Type 0} (σ τ : ℕ → A) → ((x : ℕ) → σ x ≡ τ x) → σ ≡ τ
same σ τ h = λ i x. h x i

pub lift_lift : (ρ π : Renaming) → (λ x. lift π (lift ρ x)) ≡ lift (λ y. π (ρ y))
lift_lift ρ π = same _ _ here
  where
    here : (x : ℕ) → lift π (lift ρ x) ≡ lift (λ y. π (ρ y)) x
    here zero = refl
    here (suc x) = refl

pub up_lift : (ρ : Renaming) (σ : Substitution) → (λ x. up σ (lift ρ x)) ≡ up (λ y. σ (ρ y))
unfolding up
up_lift ρ σ = same _ _ here
  where
    here : (x : ℕ) → up σ (lift ρ x) ≡ up (λ y. σ (ρ y)) x
    here zero = refl
    here (suc x) = refl

-- a renaming after a renaming
mutual
  unfolding rename

  pub rename_rename : (t : TypeTree) (ρ : Renaming) (π : Renaming) → rename (rename t ρ) π ≡ rename t (λ x. π (ρ x))
  rename_rename (ty_var x) ρ π = refl
  rename_rename (nat_lit n) ρ π = refl
  rename_rename (nat_sum a b) ρ π = λ i. nat_sum (rename_rename a ρ π i) (rename_rename b ρ π i)
  rename_rename (nat_product a b) ρ π = λ i. nat_product (rename_rename a ρ π i) (rename_rename b ρ π i)
  rename_rename (domain d) ρ π = refl
  rename_rename (scalar s w) ρ π = ap (scalar s) (rename_rename w ρ π)
  rename_rename (vector n t) ρ π = λ i. vector (rename_rename n ρ π i) (rename_rename t ρ π i)
  rename_rename (data_of d ts) ρ π = ap (data_of d) (rename_rename_all ts ρ π)
  rename_rename (fun a b) ρ π = λ i. fun (rename_rename a ρ π i) (rename_rename b ρ π i)
  rename_rename (signal d t) ρ π = λ i. signal (rename_rename d ρ π i) (rename_rename t ρ π i)
  rename_rename (for_all k t) ρ π = ap (for_all k) (rename_rename t (lift ρ) (lift π) ∙ ap (rename t) (lift_lift ρ π))

  pub rename_rename_all : (ts : TypeTrees) (ρ : Renaming) (π : Renaming) → rename_all (rename_all ts ρ) π ≡ rename_all ts (λ x. π (ρ x))
  rename_rename_all no_types ρ π = refl
  rename_rename_all (type_and t ts) ρ π = λ i. type_and (rename_rename t ρ π i) (rename_rename_all ts ρ π i)

-- a putting after a renaming
mutual
  unfolding rename sub

  pub rename_sub : (t : TypeTree) (ρ : Renaming) (σ : Substitution) → sub (rename t ρ) σ ≡ sub t (λ x. σ (ρ x))
  rename_sub (ty_var x) ρ σ = refl
  rename_sub (nat_lit n) ρ σ = refl
  rename_sub (nat_sum a b) ρ σ = λ i. nat_sum (rename_sub a ρ σ i) (rename_sub b ρ σ i)
  rename_sub (nat_product a b) ρ σ = λ i. nat_product (rename_sub a ρ σ i) (rename_sub b ρ σ i)
  rename_sub (domain d) ρ σ = refl
  rename_sub (scalar s w) ρ σ = ap (scalar s) (rename_sub w ρ σ)
  rename_sub (vector n t) ρ σ = λ i. vector (rename_sub n ρ σ i) (rename_sub t ρ σ i)
  rename_sub (data_of d ts) ρ σ = ap (data_of d) (rename_sub_all ts ρ σ)
  rename_sub (fun a b) ρ σ = λ i. fun (rename_sub a ρ σ i) (rename_sub b ρ σ i)
  rename_sub (signal d t) ρ σ = λ i. signal (rename_sub d ρ σ i) (rename_sub t ρ σ i)
  rename_sub (for_all k t) ρ σ = ap (for_all k) (rename_sub t (lift ρ) (up σ) ∙ ap (sub t) (up_lift ρ σ))

  pub rename_sub_all : (ts : TypeTrees) (ρ : Renaming) (σ : Substitution) → sub_all (rename_all ts ρ) σ ≡ sub_all ts (λ x. σ (ρ x))
  rename_sub_all no_types ρ σ = refl
  rename_sub_all (type_and t ts) ρ σ = λ i. type_and (rename_sub t ρ σ i) (rename_sub_all ts ρ σ i)

pub lift_up : (σ : Substitution) (ρ : Renaming) → (λ x. rename (up σ x) (lift ρ)) ≡ up (λ y. rename (σ y) ρ)
unfolding up rename
lift_up σ ρ = same _ _ here
  where
    here : (x : ℕ) → rename (up σ x) (lift ρ) ≡ up (λ y. rename (σ y) ρ) x
    here zero = refl
    here (suc x) = rename_rename (σ x) suc (lift ρ) ∙ sym (rename_rename (σ x) ρ suc)

-- a renaming after a putting
mutual
  unfolding rename sub

  pub sub_rename : (t : TypeTree) (σ : Substitution) (ρ : Renaming) → rename (sub t σ) ρ ≡ sub t (λ x. rename (σ x) ρ)
  sub_rename (ty_var x) σ ρ = refl
  sub_rename (nat_lit n) σ ρ = refl
  sub_rename (nat_sum a b) σ ρ = λ i. nat_sum (sub_rename a σ ρ i) (sub_rename b σ ρ i)
  sub_rename (nat_product a b) σ ρ = λ i. nat_product (sub_rename a σ ρ i) (sub_rename b σ ρ i)
  sub_rename (domain d) σ ρ = refl
  sub_rename (scalar s w) σ ρ = ap (scalar s) (sub_rename w σ ρ)
  sub_rename (vector n t) σ ρ = λ i. vector (sub_rename n σ ρ i) (sub_rename t σ ρ i)
  sub_rename (data_of d ts) σ ρ = ap (data_of d) (sub_rename_all ts σ ρ)
  sub_rename (fun a b) σ ρ = λ i. fun (sub_rename a σ ρ i) (sub_rename b σ ρ i)
  sub_rename (signal d t) σ ρ = λ i. signal (sub_rename d σ ρ i) (sub_rename t σ ρ i)
  sub_rename (for_all k t) σ ρ = ap (for_all k) (sub_rename t (up σ) (lift ρ) ∙ ap (sub t) (lift_up σ ρ))

  pub sub_rename_all : (ts : TypeTrees) (σ : Substitution) (ρ : Renaming) → rename_all (sub_all ts σ) ρ ≡ sub_all ts (λ x. rename (σ x) ρ)
  sub_rename_all no_types σ ρ = refl
  sub_rename_all (type_and t ts) σ ρ = λ i. type_and (sub_rename t σ ρ i) (sub_rename_all ts σ ρ i)

pub up_up : (σ τ : Substitution) → (λ x. sub (up σ x) (up τ)) ≡ up (λ y. sub (σ y) τ)
unfolding up sub
up_up σ τ = same _ _ here
  where
    here : (x : ℕ) → sub (up σ x) (up τ) ≡ up (λ y. sub (σ y) τ) x
    here zero = refl
    here (suc x) = rename_sub (σ x) suc (up τ) ∙ sym (sub_rename (σ x) τ suc)

-- a putting after a putting
mutual
  unfolding sub

  pub sub_sub : (t : TypeTree) (σ : Substitution) (τ : Substitution) → sub (sub t σ) τ ≡ sub t (λ x. sub (σ x) τ)
  sub_sub (ty_var x) σ τ = refl
  sub_sub (nat_lit n) σ τ = refl
  sub_sub (nat_sum a b) σ τ = λ i. nat_sum (sub_sub a σ τ i) (sub_sub b σ τ i)
  sub_sub (nat_product a b) σ τ = λ i. nat_product (sub_sub a σ τ i) (sub_sub b σ τ i)
  sub_sub (domain d) σ τ = refl
  sub_sub (scalar s w) σ τ = ap (scalar s) (sub_sub w σ τ)
  sub_sub (vector n t) σ τ = λ i. vector (sub_sub n σ τ i) (sub_sub t σ τ i)
  sub_sub (data_of d ts) σ τ = ap (data_of d) (sub_sub_all ts σ τ)
  sub_sub (fun a b) σ τ = λ i. fun (sub_sub a σ τ i) (sub_sub b σ τ i)
  sub_sub (signal d t) σ τ = λ i. signal (sub_sub d σ τ i) (sub_sub t σ τ i)
  sub_sub (for_all k t) σ τ = ap (for_all k) (sub_sub t (up σ) (up τ) ∙ ap (sub t) (up_up σ τ))

  pub sub_sub_all : (ts : TypeTrees) (σ : Substitution) (τ : Substitution) → sub_all (sub_all ts σ) τ ≡ sub_all ts (λ x. sub (σ x) τ)
  sub_sub_all no_types σ τ = refl
  sub_sub_all (type_and t ts) σ τ = λ i. type_and (sub_sub t σ τ i) (sub_sub_all ts σ τ i)

lift_none : lift (λ x. x) ≡ (λ x. x)
lift_none = same _ _ here
  where
    here : (x : ℕ) → lift (λ x. x) x ≡ x
    here zero = refl
    here (suc x) = refl

up_none : up ty_var ≡ ty_var
unfolding up rename
up_none = same _ _ here
  where
    here : (x : ℕ) → up ty_var x ≡ ty_var x
    here zero = refl
    here (suc x) = refl

-- each variable for itself
mutual
  unfolding rename

  pub rename_ids : (t : TypeTree) → rename t (λ x. x) ≡ t
  rename_ids (ty_var x) = refl
  rename_ids (nat_lit n) = refl
  rename_ids (nat_sum a b) = λ i. nat_sum (rename_ids a i) (rename_ids b i)
  rename_ids (nat_product a b) = λ i. nat_product (rename_ids a i) (rename_ids b i)
  rename_ids (domain d) = refl
  rename_ids (scalar s w) = ap (scalar s) (rename_ids w)
  rename_ids (vector n t) = λ i. vector (rename_ids n i) (rename_ids t i)
  rename_ids (data_of d ts) = ap (data_of d) (rename_ids_all ts)
  rename_ids (fun a b) = λ i. fun (rename_ids a i) (rename_ids b i)
  rename_ids (signal d t) = λ i. signal (rename_ids d i) (rename_ids t i)
  rename_ids (for_all k t) = ap (for_all k) (ap (rename t) lift_none ∙ rename_ids t)

  pub rename_ids_all : (ts : TypeTrees) → rename_all ts (λ x. x) ≡ ts
  rename_ids_all no_types = refl
  rename_ids_all (type_and t ts) = λ i. type_and (rename_ids t i) (rename_ids_all ts i)

-- each variable put for itself
mutual
  unfolding sub

  pub sub_ids : (t : TypeTree) → sub t ty_var ≡ t
  sub_ids (ty_var x) = refl
  sub_ids (nat_lit n) = refl
  sub_ids (nat_sum a b) = λ i. nat_sum (sub_ids a i) (sub_ids b i)
  sub_ids (nat_product a b) = λ i. nat_product (sub_ids a i) (sub_ids b i)
  sub_ids (domain d) = refl
  sub_ids (scalar s w) = ap (scalar s) (sub_ids w)
  sub_ids (vector n t) = λ i. vector (sub_ids n i) (sub_ids t i)
  sub_ids (data_of d ts) = ap (data_of d) (sub_ids_all ts)
  sub_ids (fun a b) = λ i. fun (sub_ids a i) (sub_ids b i)
  sub_ids (signal d t) = λ i. signal (sub_ids d i) (sub_ids t i)
  sub_ids (for_all k t) = ap (for_all k) (ap (sub t) up_none ∙ sub_ids t)

  pub sub_ids_all : (ts : TypeTrees) → sub_all ts ty_var ≡ ts
  sub_ids_all no_types = refl
  sub_ids_all (type_and t ts) = λ i. type_and (sub_ids t i) (sub_ids_all ts i)

pub rename_by_none : (t : TypeTree) → shift t 0 0 ≡ t
rename_by_none t = ap (rename t) (same _ _ (λ x. here x)) ∙ rename_ids t
  where
    here : (x : ℕ) → x + 0 ≡ x
    here x = omega arith

-- the law of shifting after putting, at the variables
pub shift_put_at : (c d by : ℕ) (a : TypeTree) (x : ℕ) → rename (put_at c a x) (lift_by c (raised d by)) ≡ put_at c (shift a d by) (lift_by c (lift (raised d by)) x)
unfolding rename up up_by put_at
shift_put_at zero d by a zero = refl
shift_put_at zero d by a (suc x) = refl
shift_put_at (suc c) d by a zero = refl
shift_put_at (suc c) d by a (suc x) = rename_rename (put_at c a x) suc (lift (lift_by c (raised d by))) ∙ sym (rename_rename (put_at c a x) (lift_by c (raised d by)) suc) ∙ ap (λ e. rename e suc) (shift_put_at c d by a x)

-- under n binders
pub lifted : (n c by : ℕ) → lift_by n (raised c by) ≡ raised (c + n) by
lifted zero c by = let e : c ≡ c + 0 = omega arith in ap (λ c. raised c by) e
lifted (suc n) c by = let e : suc (c + n) ≡ c + suc n = omega arith in ap lift (lifted n c by) ∙ ap (λ c. raised c by) e

-- shifting after putting is putting after shifting
pub shift_put : (t a : TypeTree) (c d by : ℕ) → rename (put t c a) (lift_by c (raised d by)) ≡ put (rename t (lift_by c (lift (raised d by)))) c (shift a d by)
shift_put t a c d by =
    sub_rename t (put_at c a) (lift_by c (raised d by))
    ∙ ap (sub t) (same _ _ (shift_put_at c d by a))
    ∙ sym (rename_sub t (lift_by c (lift (raised d by))) (put_at c (shift a d by)))

-- a variable that a shift made room for, at the variables
put_shift_at : (c : ℕ) (a : TypeTree) (x : ℕ) → put_at c a (raised c 1 x) ≡ ty_var x
unfolding put_at up_by up rename
put_shift_at zero a x = let e : x + 1 ≡ suc x = omega arith in ap (one a) e
put_shift_at (suc c) a zero = refl
put_shift_at (suc c) a (suc x) = ap (λ e. rename e suc) (put_shift_at c a x)

pub put_shift : (t a : TypeTree) (c : ℕ) → put (shift t c 1) c a ≡ t
put_shift t a c = rename_sub t (raised c 1) (put_at c a) ∙ ap (sub t) (same _ _ (put_shift_at c a)) ∙ sub_ids t

-- the order of two puttings, at the variables
put_put_at : (c d : ℕ) (a b : TypeTree) (x : ℕ) → sub (put_at c a x) (up_by c (put_at d b)) ≡ sub (up_by c (put_at (suc d) b) x) (put_at c (put a d b))
unfolding put_at up_by up sub rename
put_put_at zero d a b zero = refl
put_put_at zero d a b (suc x) = sym (sub_shift (up_by d (one b) x) (put a d b))
  where
    sub_shift : (t e : TypeTree) → sub (rename t suc) (one e) ≡ t
    sub_shift t e = rename_sub t suc (one e) ∙ sub_ids t
put_put_at (suc c) d a b zero = refl
put_put_at (suc c) d a b (suc x) =
    rename_sub (put_at c a x) suc (up (up_by c (put_at d b)))
    ∙ sym (sub_rename (put_at c a x) (up_by c (put_at d b)) suc)
    ∙ ap (λ e. rename e suc) (put_put_at c d a b x)
    ∙ sub_rename (up_by c (put_at (suc d) b) x) (put_at c (put a d b)) suc
    ∙ sym (rename_sub (up_by c (put_at (suc d) b) x) suc (up (put_at c (put a d b))))

up_by_put : (n c : ℕ) (a : TypeTree) → up_by n (put_at c a) ≡ put_at (c + n) a
unfolding put_at up_by
up_by_put zero c a = let e : c ≡ c + 0 = omega arith in ap (λ c. put_at c a) e
up_by_put (suc n) c a = let e : suc (c + n) ≡ c + suc n = omega arith in ap up (up_by_put n c a) ∙ ap (λ c. put_at c a) e

pub put_put : (t a b : TypeTree) (c d : ℕ) → put (put t c a) (d + c) b ≡ put (put t (d + 1 + c) b) c (put a d b)
put_put t a b c d =
    let e : suc d ≡ d + 1 = omega arith in
    ap (sub (put t c a)) (sym (up_by_put c d b))
    ∙ sub_sub t (put_at c a) (up_by c (put_at d b))
    ∙ ap (sub t) (same _ _ (put_put_at c d a b))
    ∙ sym (sub_sub t (up_by c (put_at (suc d) b)) (put_at c (put a d b)))
    ∙ ap (λ σ. sub (sub t σ) (put_at c (put a d b))) (up_by_put c (suc d) b ∙ ap (λ n. put_at (n + c) b) e)
