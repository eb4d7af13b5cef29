-- Lists of types that are pairwise the same up to naturals.
use Rattle.std.proofs.Common.{◌≡◌, ℕ, suc, zero, refl, sym, ap, subst, List, [], ◌∷◌, ◌++◌, length, reverse}
use Rattle.std.specs.Prelude.{Some}
use Rattle.std.specs.List.{slice_get}
use Rattle.chw_types.specs.TypeTree.{TypeTree}
use Rattle.chw_types.specs.TypeMoves.{raised}
use Rattle.chw_types.specs.SameTypes.{SameTypes}
use Rattle.chw_types.proofs.SameLaws.{same_self, same_turned, same_through}
use Rattle.type_laws.proofs.PutSame.{same_renamed}
use Rattle.chw_typing.specs.Scopes.{AreSame, under_binder, with_more}
use Rattle.chw_typing.proofs.Lists.{reverse_cons}

pub are_same_self : (ts : List TypeTree) → AreSame ts ts
are_same_self [] = tt
are_same_self (t ∷ ts) = (same_self t, are_same_self ts)

pub are_same_turned : (ts us : List TypeTree) → AreSame ts us → AreSame us ts
are_same_turned [] [] h = tt
are_same_turned (t ∷ ts) (u ∷ us) h = (same_turned h.0, are_same_turned ts us h.1)
are_same_turned [] (u ∷ us) h = absurd h
are_same_turned (t ∷ ts) [] h = absurd h

pub are_same_through : (ts us vs : List TypeTree) → AreSame ts us → AreSame us vs → AreSame ts vs
are_same_through [] [] vs h g = g
are_same_through (t ∷ ts) (u ∷ us) (v ∷ vs) h g = (same_through h.0 g.0, are_same_through ts us vs h.1 g.1)
are_same_through (t ∷ ts) (u ∷ us) [] h g = absurd g
are_same_through [] (u ∷ us) vs h g = absurd h
are_same_through (t ∷ ts) [] vs h g = absurd h

pub are_same_length : (ts us : List TypeTree) → AreSame ts us → length us ≡ length ts
are_same_length [] [] h = refl
are_same_length (t ∷ ts) (u ∷ us) h = ap suc (are_same_length ts us h.1)
are_same_length [] (u ∷ us) h = absurd h
are_same_length (t ∷ ts) [] h = absurd h

same_append : (ts us vs ws : List TypeTree) → AreSame ts us → AreSame vs ws → AreSame (ts ++ vs) (us ++ ws)
same_append [] [] vs ws h g = g
same_append (t ∷ ts) (u ∷ us) vs ws h g = (h.0, same_append ts us vs ws h.1 g)
same_append [] (u ∷ us) vs ws h g = absurd h
same_append (t ∷ ts) [] vs ws h g = absurd h

same_reverse : (ts us : List TypeTree) → AreSame ts us → AreSame (reverse ts) (reverse us)
same_reverse [] [] h = tt
same_reverse (t ∷ ts) (u ∷ us) h =
    subst (λ vs. AreSame vs (reverse (u ∷ us))) (sym (reverse_cons t ts))
    (subst (AreSame (reverse ts ++ t ∷ [])) (sym (reverse_cons u us)) (same_append (reverse ts) (reverse us) (t ∷ []) (u ∷ []) (same_reverse ts us h.1) (h.0, tt)))
same_reverse [] (u ∷ us) h = absurd h
same_reverse (t ∷ ts) [] h = absurd h

pub same_more : (new new' vars vars' : List TypeTree) → AreSame new new' → AreSame vars vars' → AreSame (with_more new vars) (with_more new' vars')
same_more new new' vars vars' h g = same_append (reverse new) (reverse new') vars vars' (same_reverse new new' h) g

pub same_under_binder : (vars vars' : List TypeTree) → AreSame vars vars' → AreSame (under_binder vars) (under_binder vars')
same_under_binder [] [] h = tt
same_under_binder (t ∷ vars) (u ∷ vars') h = (same_renamed h.0 (raised 0 1), same_under_binder vars vars' h.1)
same_under_binder [] (u ∷ vars') h = absurd h
same_under_binder (t ∷ vars) [] h = absurd h

-- the type at the same place of the other list
pub same_at : (vars vars' : List TypeTree) (x : ℕ) (t : TypeTree) → AreSame vars vars' → slice_get vars x ≡ Some t → (u : TypeTree) × (slice_get vars' x ≡ Some u) × SameTypes t u
same_at [] [] x t h e = absurd (cc)
same_at (v ∷ vars) (w ∷ vars') zero t h e = let is : v ≡ t = cc in (w, refl, subst (λ z. SameTypes z w) is h.0)
same_at (v ∷ vars) (w ∷ vars') (suc x) t h e = same_at vars vars' x t h.1 e
same_at [] (w ∷ vars') x t h e = absurd h
same_at (v ∷ vars) [] x t h e = absurd h
