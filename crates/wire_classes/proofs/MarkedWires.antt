-- The marked wires, wire by wire.
use Rattle.std.proofs.Common.{◌≡◌, ℕ, zero, suc, ◌+◌, inl, inr, Bool, true, false, List, [], ◌∷◌, ◌++◌, length, Some, slice_get, refl, sym, ap, ◌∙◌, arith}
use Rattle.std.proofs.lemmas.Bool.{cases_lt, false≢true}
use Rattle.std.proofs.lemmas.List.{length_push}
use Rattle.std.proofs.lemmas.Option.{none-some}
use Rattle.wire_classes.specs.Closed.{mark_of}
use Rattle.wire_classes.specs.Keys.{AreMarked}
use Rattle.wire_classes.proofs.Looks.{get_either}

get_left : {X : Type 0} (xs ys : List X) (i : ℕ) (x : X) → slice_get xs i ≡ Some x → slice_get (xs ++ ys) i ≡ Some x
get_left [] ys i x e = absurd (none-some x e)
get_left (y ∷ xs) ys zero x e = e
get_left (y ∷ xs) ys (suc i) x e = get_left xs ys i x e

get_last : {X : Type 0} (xs : List X) (x : X) → slice_get (xs ++ x ∷ []) (length xs) ≡ Some x
get_last [] x = refl
get_last (y ∷ xs) x = get_last xs x

pub marked_none : (known : List Bool) → AreMarked known 0 []
marked_none known = record {
  marked = λ i w at. absurd (none-some w at);
  below = λ i w at. absurd (none-some w at);
  each = λ w l m. absurd (omega (arith, l));
  few = omega arith;
}

module _ (known : List Bool) (count : ℕ) (wires : List ℕ) (are : AreMarked known count wires) where
  -- a wire that isn't marked
  pub marked_same : mark_of known count ≡ false → AreMarked known (count + 1) wires
  marked_same off = record {
    marked = are.marked;
    below = λ i w at. let l = are.below i w at in omega (arith, l);
    each = λ w l m. elim (cases_lt w count) [
      | inl less ↦ are.each w less m
      | inr more ↦ let is : count ≡ w = omega (arith, l, more) in absurd (false≢true (sym off ∙ ap (mark_of known) is ∙ m))
    ];
    few = let l = are.few in omega (arith, l);
  }

  -- one that is
  pub marked_more : mark_of known count ≡ true → AreMarked known (count + 1) (wires ++ count ∷ [])
  marked_more on = record {
    marked = λ i w at. elim (get_either wires count i w at) [
      | inl old ↦ are.marked i w old
      | inr new ↦ ap (mark_of known) (sym new.1) ∙ on
    ];
    below = λ i w at. elim (get_either wires count i w at) [
      | inl old ↦ let l = are.below i w old in omega (arith, l)
      | inr new ↦ let is = new.1 in omega (arith, is)
    ];
    each = λ w l m. elim (cases_lt w count) [
      | inl less ↦ let old = are.each w less m in (old.0, get_left wires (count ∷ []) old.0 w old.1)
      | inr more ↦ let is : count ≡ w = omega (arith, l, more) in (length wires, get_last wires count ∙ ap Some is)
    ];
    few = let l = are.few in let n = length_push wires count in omega (arith, l, n);
  }
