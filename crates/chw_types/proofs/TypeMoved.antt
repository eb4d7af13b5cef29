-- What the arms of shifting and putting owe.
use Rattle.std.proofs.Common.{◌≡◌, ℕ, suc, zero, ◌+◌, ◌<◌, ◌≤◌, take, List, [], ◌∷◌, map, length, refl, ap, sym, ◌∙◌, arith}
use Rattle.std.proofs.lemmas.List.{take_all}
use Rattle.chw_types.specs.declared.kind.Kind.{Kind}
use Rattle.chw_types.specs.TypeTree.{TypeTree, data_of, for_all, type_and}
use Rattle.chw_types.specs.TypeView.{trees_of}
use Rattle.std.specs.Prelude.{reverse}
use Rattle.chw_types.specs.Arguments.{given}
use Rattle.chw_types.specs.TypeMoves.{rename, rename_all, Renaming, raised, shift, one, up, up_by, sub, put_at, put}
use Rattle.chw_types.proofs.TypeLaws.{same, lifted}

pub raised_below : (c by x : ℕ) → x < c → raised c by x ≡ x
raised_below zero by x h = absurd (omega arith)
raised_below (suc c) by zero h = refl
raised_below (suc c) by (suc x) h = ap suc (raised_below c by x (omega arith))

pub raised_above : (c by x : ℕ) → c ≤ x → raised c by x ≡ x + by
raised_above zero by x h = refl
raised_above (suc c) by zero h = absurd (omega arith)
raised_above (suc c) by (suc x) h = let e = raised_above c by x (omega arith) in omega arith

pub shift_for_all : (c by : ℕ) (k : Kind) (t t' : TypeTree) → t' ≡ shift t (c + 1) by → for_all k t' ≡ shift (for_all k t) c by
unfolding rename
shift_for_all c by k t t' h = ap (for_all k) (h ∙ ap (rename t) (sym (lifted 1 c by)))

all_renamed : (ts : List TypeTree) (ρ : Renaming) → trees_of (map (λ t. rename t ρ) ts) ≡ rename_all (trees_of ts) ρ
unfolding rename
all_renamed [] ρ = refl
all_renamed (t ∷ ts) ρ = ap (type_and (rename t ρ)) (all_renamed ts ρ)

-- a whole data type, from what its loop keeps
pub shift_data : (ts done : List TypeTree) (d i c by : ℕ) → done ≡ map (λ t. shift t c by) (take i ts) → length ts ≤ i → data_of d (trees_of done) ≡ shift (data_of d (trees_of ts)) c by
unfolding rename
shift_data ts done d i c by e all =
    ap (λ ts. data_of d (trees_of ts)) (e ∙ ap (map (λ t. shift t c by)) (take_all i ts all)) ∙ ap (data_of d) (all_renamed ts (raised c by))

pub put_deeper : (n c : ℕ) (a : TypeTree) → up_by n (put_at c a) ≡ put_at (c + n) a
unfolding put_at up_by
put_deeper zero c a = let e : c ≡ c + 0 = omega arith in ap (λ c. put_at c a) e
put_deeper (suc n) c a = let e : suc (c + n) ≡ c + suc n = omega arith in ap up (put_deeper n c a) ∙ ap (λ c. put_at c a) e

-- what is put for one variable is what one argument is put for
pub put_filled : (t : TypeTree) (c : ℕ) (a : TypeTree) → sub t (up_by c (given (reverse (a ∷ [])))) ≡ put t c a
unfolding put_at
put_filled t c a = ap (λ σ. sub t (up_by c σ)) (same _ _ (λ x. at x))
  where
    at : (x : ℕ) → given (a ∷ []) x ≡ one a x
    at zero = refl
    at (suc x) = refl
