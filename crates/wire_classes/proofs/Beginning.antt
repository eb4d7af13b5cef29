-- What is found at first.
use Rattle.std.proofs.Common.{◌≡◌, ℕ, zero, suc, ◌+◌, inl, inr, Bool, false, List, [], ◌∷◌, ◌++◌, length, replicate, refl, sym, ap, subst, ◌∙◌, arith}
use Rattle.std.proofs.lemmas.Bool.{cases_lt, false≢true}
use Rattle.std.proofs.lemmas.List.{get_or_append_left, get_or_push, length-replicate, length_push}
use Rattle.netlist.specs.Sound.{Sound}
use Rattle.netlist.specs.declared.net.Flat.{Flat}
use Rattle.share_laws.specs.Same.{Same}
use Rattle.share_laws.specs.Same.Same.{itself}
use Rattle.wire_classes.specs.Closed.{AreFound, ShowsKnown, mark_of}
use Rattle.wire_classes.specs.Partition.{AreOwn}

no_marks : (n w : ℕ) → mark_of (replicate n false) w ≡ false
no_marks zero w = refl
no_marks (suc n) zero = refl
no_marks (suc n) (suc w) = no_marks n w

-- each wire has its own label, and none is marked
pub first_found : (flat : Flat) (of : List ℕ) (known : List Bool) (values : List (List Bool)) → Sound flat → ShowsKnown flat values
    → AreOwn (length flat.widths) of → known ≡ replicate (length flat.widths) false → AreFound flat of known values
first_found flat of known values sound shown own none = record {
  labels = record {
    sound = sound;
    count = own.number;
    same = λ w l. subst (λ n. Same flat w n) (sym (own.each w l)) (itself w l);
  };
  count = ap length none ∙ length-replicate (length flat.widths) false;
  shown = shown;
  bits = λ w m. absurd (false≢true (sym (no_marks (length flat.widths) w) ∙ ap (λ l. mark_of l w) (sym none) ∙ m));
}

-- no labels, and one more
pub own_none : AreOwn 0 []
own_none = record { number = refl; each = λ w l. absurd (omega (arith, l)) }

pub own_more : (count : ℕ) (labels : List ℕ) → AreOwn count labels → AreOwn (count + 1) (labels ++ count ∷ [])
own_more count labels own = record {
  number = length_push labels count ∙ ap (λ n. n + 1) own.number;
  each = λ w l. elim (cases_lt w count) [
    | inl less ↦ let n = own.number in get_or_append_left labels (count ∷ []) 0 w (omega (arith, less, n)) ∙ own.each w less
    | inr more ↦ let is : count ≡ w = omega (arith, l, more) in get_or_push labels count 0 w (own.number ∙ is) ∙ is
  ];
}
