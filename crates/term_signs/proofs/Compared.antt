-- Signs that are found equal are the same.
use Rattle.std.proofs.Common.{rules, ◌≡◌, ap, refl, subst, Bool, true, false, List, eqb-true, eq-eqb}
use Rattle.std.specs.Bool.{Decides}
use Rattle.std.specs.Cmp.Lexicographic.{pointwise}
use Rattle.std.proofs.lemmas.Bool.{false≢true}
use Rattle.std.proofs.lemmas.Slice.Eq.{slice_eq-Decides}
use denote.Enum.Bare.{same_true, true_same}
use Rattle.chw_types.specs.contracts.kind.Kind as kind_type
use Rattle.chw_types.specs.contracts.kind.Scalar as scalar_type
use Rattle.chw_prims.specs.contracts.prim.Primitive as prim_type
use Rattle.term_signs.specs.contracts.alphabet.Form as form_type
use Rattle.term_signs.specs.contracts.alphabet.SignPartialEq.TheImpl.{eq-value}
use Rattle.term_signs.specs.declared.alphabet.Sign.{Sign}
use Rattle.term_signs.specs.declared.alphabet.Sign.TheVariants.{Of, Number, OfKind, OfSort, OfPrim, Bit}

one_bit : (a b : Bool) → eq-value.it (Bit a) (Bit b) ≡ true → a ≡ b
one_bit true true e = refl
one_bit false false e = refl
one_bit true false e = absurd (false≢true e)
one_bit false true e = absurd (false≢true e)

one_sign : (s r : Sign) → eq-value.it s r ≡ true → s ≡ r
one_sign (Of f) (Of g) e = ap (λ f. Of f) (same_true form_type.the_type (search rules) f g e)
one_sign (Number m) (Number n) e = ap (λ n. Number n) (eqb-true m n e)
one_sign (OfKind f) (OfKind g) e = ap (λ f. OfKind f) (same_true kind_type.the_type (search rules) f g e)
one_sign (OfSort f) (OfSort g) e = ap (λ f. OfSort f) (same_true scalar_type.the_type (search rules) f g e)
one_sign (OfPrim f) (OfPrim g) e = ap (λ f. OfPrim f) (same_true prim_type.the_type (search rules) f g e)
one_sign (Bit a) (Bit b) e = ap (λ b. Bit b) (one_bit a b e)
one_sign (Of f) (Number n) e = absurd (false≢true e)
one_sign (Of f) (OfKind n) e = absurd (false≢true e)
one_sign (Of f) (OfSort n) e = absurd (false≢true e)
one_sign (Of f) (OfPrim n) e = absurd (false≢true e)
one_sign (Of f) (Bit n) e = absurd (false≢true e)
one_sign (Number f) (Of n) e = absurd (false≢true e)
one_sign (Number f) (OfKind n) e = absurd (false≢true e)
one_sign (Number f) (OfSort n) e = absurd (false≢true e)
one_sign (Number f) (OfPrim n) e = absurd (false≢true e)
one_sign (Number f) (Bit n) e = absurd (false≢true e)
one_sign (OfKind f) (Of n) e = absurd (false≢true e)
one_sign (OfKind f) (Number n) e = absurd (false≢true e)
one_sign (OfKind f) (OfSort n) e = absurd (false≢true e)
one_sign (OfKind f) (OfPrim n) e = absurd (false≢true e)
one_sign (OfKind f) (Bit n) e = absurd (false≢true e)
one_sign (OfSort f) (Of n) e = absurd (false≢true e)
one_sign (OfSort f) (Number n) e = absurd (false≢true e)
one_sign (OfSort f) (OfKind n) e = absurd (false≢true e)
one_sign (OfSort f) (OfPrim n) e = absurd (false≢true e)
one_sign (OfSort f) (Bit n) e = absurd (false≢true e)
one_sign (OfPrim f) (Of n) e = absurd (false≢true e)
one_sign (OfPrim f) (Number n) e = absurd (false≢true e)
one_sign (OfPrim f) (OfKind n) e = absurd (false≢true e)
one_sign (OfPrim f) (OfSort n) e = absurd (false≢true e)
one_sign (OfPrim f) (Bit n) e = absurd (false≢true e)
one_sign (Bit f) (Of n) e = absurd (false≢true e)
one_sign (Bit f) (Number n) e = absurd (false≢true e)
one_sign (Bit f) (OfKind n) e = absurd (false≢true e)
one_sign (Bit f) (OfSort n) e = absurd (false≢true e)
one_sign (Bit f) (OfPrim n) e = absurd (false≢true e)

-- and a sign is found equal to itself
self_bit : (b : Bool) → eq-value.it (Bit b) (Bit b) ≡ true
self_bit true = refl
self_bit false = refl

self_sign : (s : Sign) → eq-value.it s s ≡ true
self_sign (Of f) = true_same form_type.the_type f f refl
self_sign (Number n) = eq-eqb n n refl
self_sign (OfKind f) = true_same kind_type.the_type f f refl
self_sign (OfSort f) = true_same scalar_type.the_type f f refl
self_sign (OfPrim f) = true_same prim_type.the_type f f refl
self_sign (Bit b) = self_bit b

sign_decided : (s r : Sign) → Decides (eq-value.it s r) (s ≡ r)
sign_decided s r = (one_sign s r, λ e. subst (λ r. eq-value.it s r ≡ true) e (self_sign s))

-- so are lists of signs
pub signs_decided : (xs ys : List Sign) → Decides (pointwise eq-value.it xs ys) (xs ≡ ys)
signs_decided xs ys = slice_eq-Decides sign_decided xs ys (pointwise eq-value.it xs ys) refl
