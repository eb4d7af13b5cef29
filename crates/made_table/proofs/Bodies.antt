-- A body is no part of what the table is searched by.
use Rattle.std.proofs.Common.{◌≡◌, ◌∙◌, ap, sym, refl, ℕ, zero, suc, ◌<◌, List, [], ◌∷◌, length, map, get_or, set, Some, arith}
use Rattle.std.specs.List.{slice_get}
use Rattle.std.proofs.Math.ListN.{length-set}
use Rattle.std.proofs.lemmas.Option.{same_Some, slice_get_read}
use Rattle.chw_terms.specs.declared.scene.Made.{Made}
use Rattle.term_signs.specs.declared.alphabet.Sign.{Sign}
use Rattle.term_signs.specs.Written.{written}
use Rattle.made_table.specs.Held.{AreSigns}

-- a list in which an item changes, but not what is seen of it
same_seen : {X Y : Type 0} (f : X → Y) (xs : List X) (i : ℕ) (x y : X) → slice_get xs i ≡ Some x → f y ≡ f x → map f (set xs i y) ≡ map f xs
same_seen f [] i x y e h = refl
same_seen f (z ∷ xs) zero x y e h = ap (λ v. v ∷ map f xs) (h ∙ ap f (sym (same_Some z x e)))
same_seen f (z ∷ xs) (suc i) x y e h = ap (λ vs. f z ∷ vs) (same_seen f xs i x y e h)

pub body_kept : (made : List Made) (signs : List (List Sign)) (n : ℕ) (x y : Made) → AreSigns made signs → n < length made → x ≡ get_or made n x → y.origin ≡ x.origin → AreSigns (set made n y) signs
body_kept made signs n x y h l is o =
    let at : slice_get made n ≡ Some x = slice_get_read made (length made) n x refl l is in
    let count : length (set made n y) ≡ length made = simp length-set in
    record {
      written = h.written ∙ sym (same_seen (λ (m : Made). written m.origin) made n x y at (ap written o));
      few = omega (arith, h.few, count);
    }

-- the item that is there
pub body_is : (made seen : List Made) (n : ℕ) (x it : Made) → made ≡ seen → n < length made → x ≡ get_or made n x → slice_get seen n ≡ Some it → x ≡ it
body_is made seen n x it e l is h = same_Some x it (sym (slice_get_read made (length made) n x refl l is) ∙ ap (λ ms. slice_get ms n) e ∙ h)
