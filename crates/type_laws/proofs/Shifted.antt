-- What was raised comes down again; what is put for one variable, and for all parameters.
use Rattle.std.proofs.Common.{◌≡◌, ℕ, suc, zero, ◌-◌, true, ◌⊎◌, refl, ap, ◌∙◌, subst, arith}
use Rattle.chw_types.specs.TypeTree.{TypeTree, ty_var}
use Rattle.chw_types.specs.TypeMoves.{Renaming, lift, rename, raised, shift, up, up_by, one, put_at, put}
use Rattle.chw_types.specs.Polynomials.{is_natural}
use Rattle.chw_types.specs.SameTypes.{SameTypes}
use Rattle.chw_types.proofs.SameLaws.{same_self}
use Rattle.chw_types.proofs.TypeLaws.{same, rename_rename, rename_ids}
use Rattle.type_laws.specs.Standing.{InSums}
use Rattle.type_laws.proofs.PutSame.{SamePuts, same_renamed, same_under, same_put, natural_renamed}

abbrev lowered : ℕ → ℕ → Renaming
lowered zero by = λ x. x - by
lowered (suc c) by = lift (lowered c by)

back : (c by x : ℕ) → lowered c by (raised c by x) ≡ x
back zero by x = omega arith
back (suc c) by zero = refl
back (suc c) by (suc x) = ap suc (back c by x)

back_again : (t : TypeTree) (c by : ℕ) → rename (shift t c by) (lowered c by) ≡ t
back_again t c by = rename_rename t (raised c by) (lowered c by) ∙ ap (rename t) (same _ _ (back c by)) ∙ rename_ids t

pub same_lowered : (t u : TypeTree) (c by : ℕ) → SameTypes (shift t c by) (shift u c by) → SameTypes t u
same_lowered t u c by h =
    let down = same_renamed h (lowered c by) in
    subst (λ t. SameTypes t u) (back_again t c by) (subst (SameTypes (rename (shift t c by) (lowered c by))) (back_again u c by) down)

same_one : (a b : TypeTree) → SameTypes a b → SamePuts (one a) (one b)
same_one a b h zero = h
same_one a b h (suc x) = same_self (ty_var x)

pub same_put_at : (c : ℕ) (a b : TypeTree) → SameTypes a b → SamePuts (put_at c a) (put_at c b)
unfolding put_at up_by
same_put_at zero a b h = same_one a b h
same_put_at (suc c) a b h = same_under (put_at c a) (put_at c b) (same_put_at c a b h)

-- only what is put for that variable may be no natural
pub put_at_natural : (c : ℕ) (a : TypeTree) (P : ℕ → Type 0) → (P c → is_natural a ≡ true) → (x : ℕ) → P x → is_natural (put_at c a x) ≡ true
unfolding put_at up_by up is_natural
put_at_natural zero a P h zero s = h s
put_at_natural zero a P h (suc x) s = refl
put_at_natural (suc c) a P h zero s = refl
put_at_natural (suc c) a P h (suc x) s = natural_renamed (put_at c a x) suc ∙ put_at_natural c a (λ y. P (suc y)) h x s

pub put_same : (t u a b : TypeTree) (c : ℕ) → SameTypes t u → SameTypes a b → (InSums t c ⊎ InSums u c → is_natural a ≡ true) → SameTypes (put t c a) (put u c b)
put_same t u a b c h g f = same_put h (put_at c a) (put_at c b) (same_put_at c a b g) (put_at_natural c a (λ x. InSums t x ⊎ InSums u x) f)
