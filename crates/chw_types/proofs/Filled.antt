-- Putting arguments into a field.
use Rattle.std.proofs.Common.{◌≡◌, ℕ, suc, zero, ◌+◌, ◌-◌, ◌<◌, ◌≤◌, take, List, [], ◌∷◌, map, length, get_or, refl, ap, sym, ◌∙◌, arith}
use Rattle.std.specs.Prelude.{reverse}
use Rattle.std.proofs.lemmas.List.{take_all, get_or-reverse, length-reverse}
use Rattle.chw_types.specs.declared.kind.Kind.{Kind}
use Rattle.chw_types.specs.TypeTree.{TypeTree, ty_var, data_of, for_all, type_and}
use Rattle.chw_types.specs.TypeView.{trees_of}
use Rattle.chw_types.specs.Arguments.{list_of, given}
use Rattle.chw_types.specs.TypeMoves.{rename, raised, shift, up, up_by, Substitution, sub, sub_all}
use Rattle.chw_types.proofs.TypeLaws.{rename_rename, rename_by_none}

up_below : (σ : Substitution) (c x : ℕ) → x < c → up_by c σ x ≡ ty_var x
unfolding up up_by rename
up_below σ zero x h = absurd (omega arith)
up_below σ (suc c) zero h = refl
up_below σ (suc c) (suc x) h = ap (λ e. rename e suc) (up_below σ c x (omega arith))

up_above : (σ : Substitution) (c k x : ℕ) → x ≡ k + c → up_by c σ x ≡ shift (σ k) 0 c
unfolding up up_by
up_above σ zero k x e = let f : x ≡ k = omega arith in ap σ f ∙ sym (rename_by_none (σ k))
up_above σ (suc c) k zero e = absurd (omega arith)
up_above σ (suc c) k (suc x) e =
    let f : x ≡ k + c = omega arith in
    ap (λ e. rename e suc) (up_above σ c k x f) ∙ rename_rename (σ k) (raised 0 c) suc ∙ ap (rename (σ k)) (λ i x. (plus_suc c x) i)
  where
    plus_suc : (c x : ℕ) → suc (x + c) ≡ x + suc c
    plus_suc c x = omega arith

given_at : (us : List TypeTree) (k : ℕ) (d : TypeTree) → k < length us → given us k ≡ get_or us k d
given_at [] k d h = absurd (omega arith)
given_at (u ∷ us) zero d h = refl
given_at (u ∷ us) (suc k) d h = given_at us k d (omega arith)

given_past : (us : List TypeTree) (k : ℕ) → length us ≤ k → given us k ≡ ty_var (k - length us)
given_past [] k h = let e : k ≡ k - 0 = omega arith in ap ty_var e
given_past (u ∷ us) zero h = absurd (omega arith)
given_past (u ∷ us) (suc k) h = let e : k - length us ≡ suc k - suc (length us) = omega arith in given_past us k (omega arith) ∙ ap ty_var e

pub filled_below : (c x : ℕ) (args : List TypeTree) → x < c → ty_var x ≡ up_by c (given (reverse args)) x
filled_below c x args h = sym (up_below (given (reverse args)) c x h)

pub filled_here : (c x : ℕ) (args : List TypeTree) (a : TypeTree) → c ≤ x → x - c < length args → a ≡ get_or args (length args - 1 - (x - c)) a → shift a 0 c ≡ up_by c (given (reverse args)) x
filled_here c x args a h l e =
    let k : x ≡ (x - c) + c = omega arith in
    let m : x - c < length (reverse args) = omega (arith, length-reverse args) in
    ap (λ t. shift t 0 c) (e ∙ sym (get_or-reverse args (x - c) a l) ∙ sym (given_at (reverse args) (x - c) a m)) ∙ sym (up_above (given (reverse args)) c (x - c) x k)

pub filled_above : (c x : ℕ) (args : List TypeTree) → c ≤ x → length args ≤ x - c → ty_var (x - length args) ≡ up_by c (given (reverse args)) x
unfolding rename
filled_above c x args h l =
    let k : x ≡ (x - c) + c = omega arith in
    let m : length (reverse args) ≤ x - c = omega (arith, length-reverse args) in
    let e : x - length args ≡ (x - c) - length (reverse args) + c = omega (arith, length-reverse args) in
    ap ty_var e ∙ sym (up_above (given (reverse args)) c (x - c) x k ∙ ap (λ t. shift t 0 c) (given_past (reverse args) (x - c) m))

pub fill_for_all : (c : ℕ) (σ : Substitution) (k : Kind) (t t' : TypeTree) → t' ≡ sub t (up_by (c + 1) σ) → for_all k t' ≡ sub (for_all k t) (up_by c σ)
unfolding sub up_by
fill_for_all c σ k t t' h = let e : c + 1 ≡ suc c = omega arith in ap (for_all k) (h ∙ ap (λ n. sub t (up_by n σ)) e)

all_filled : (ts : List TypeTree) (σ : Substitution) → trees_of (map (λ t. sub t σ) ts) ≡ sub_all (trees_of ts) σ
unfolding sub
all_filled [] σ = refl
all_filled (t ∷ ts) σ = ap (type_and (sub t σ)) (all_filled ts σ)

pub fill_data : (ts done : List TypeTree) (d i : ℕ) (σ : Substitution) → done ≡ map (λ t. sub t σ) (take i ts) → length ts ≤ i → data_of d (trees_of done) ≡ sub (data_of d (trees_of ts)) σ
unfolding sub
fill_data ts done d i σ e all =
    ap (λ ts. data_of d (trees_of ts)) (e ∙ ap (map (λ t. sub t σ)) (take_all i ts all)) ∙ ap (data_of d) (all_filled ts σ)

pub list_of_trees : (ts : List TypeTree) → list_of (trees_of ts) ≡ ts
list_of_trees [] = refl
list_of_trees (t ∷ ts) = ap (λ us. t ∷ us) (list_of_trees ts)
