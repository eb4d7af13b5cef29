-- What holds of an answer, by whether it is there.
use Rattle.std.proofs.Common.{◌≡◌, Bool, true, false, IsTrue, Option, Some, None, Result, Ok, Err, refl, sym, subst}
use Rattle.std.specs.Prelude.{MatchOption, IfOk}
use Rattle.std.proofs.lemmas.Bool.{false≢true}

pub of_some : {A : Type 0} (P : Type 0) (Q : A → Type 0) (o : Option A) (x : A) → o ≡ Some x → MatchOption o P Q → Q x
of_some P Q o x e h = subst (λ r. MatchOption r P Q) e h

pub of_none : {A : Type 0} (P : Type 0) (Q : A → Type 0) (o : Option A) → ((x : A) → o ≡ Some x → ⊥) → MatchOption o P Q → P
of_none P Q None never h = h
of_none P Q (Some x) never h = absurd (never x refl)

pub is_none : {A : Type 0} (P : Type 0) (Q : A → Type 0) (o : Option A) → o ≡ None → MatchOption o P Q → P
is_none P Q o e h = subst (λ r. MatchOption r P Q) e h

pub not_true : (b : Bool) → b ≡ false → IsTrue b → ⊥
not_true true e h = false≢true (sym e)
not_true false e h = false≢true h

-- what a result says says more, where its answer does
pub ok_more : {A E : Type 0} (r : Result A E) (P Q : A → Type 0) → ((x : A) → P x → Q x) → IfOk r P → IfOk r Q
ok_more (Ok x) P Q f h = f x h
ok_more (Err e) P Q f h = tt
