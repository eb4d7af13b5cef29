-- What was found, if anything, is so: how such facts are put together.
use Rattle.std.proofs.Common.{◌≡◌, ℕ, suc, Bool, true, false, Option, Some, None, refl, subst}
use Rattle.chw_meaning.specs.Eval.{plus}
use Rattle.chw_meaning.specs.Run.{Found, found, after, turn, and_then, with_it, seen, found_as, only_if, changed, with_both}

-- what was found, if anything, is so
pub record Holds (A : Type 0) (P : A → ℕ → Type 0) (o : Option (Found A)) : Type 0 where
  pub of : (r : Found A) → o ≡ Some r → P r.value r.turns

pub nothing : {A : Type 0} {P : A → ℕ → Type 0} → Holds A P None
nothing = record { of = λ r e. cc }

pub one : {A : Type 0} {P : A → ℕ → Type 0} {x : A} {n : ℕ} → P x n → Holds A P (found x n)
one {A} {P} {x} {n} h = record { of = λ r e. let same : record { value = x; turns = n } ≡ r = cc in subst (λ (r : Found A). P r.value r.turns) same h }

pub turned : {A : Type 0} {P : A → ℕ → Type 0} {o : Option (Found A)} → Holds A (λ x n. P x (suc n)) o → Holds A P (turn o)
turned {o = None} h = nothing
turned {o = Some s} h = one (h.of s refl)

pub mapped : {A : Type 0} {P Q : A → ℕ → Type 0} {o : Option (Found A)} → Holds A P o → ((x : A) (n : ℕ) → P x n → Q x n) → Holds A Q o
mapped h f = record { of = λ r e. f r.value r.turns (h.of r e) }

pub after_so_many : {A : Type 0} {P : A → ℕ → Type 0} {o : Option (Found A)} (m : ℕ) → Holds A (λ x n. P x (plus m n)) o → Holds A P (after m o)
after_so_many {o = None} m h = nothing
after_so_many {o = Some s} m h = one (h.of s refl)

pub then : {A B : Type 0} {P : A → ℕ → Type 0} {Q : B → ℕ → Type 0} {o : Option (Found A)} {go : A → Option (Found B)} → Holds A P o → ((x : A) (m : ℕ) → P x m → Holds B (λ y n. Q y (plus m n)) (go x)) → Holds B Q (and_then o go)
then {o = None} h f = nothing
then {o = Some s} h f = after_so_many s.turns (f s.value s.turns (h.of s refl))

pub at_it : {A B : Type 0} {Q : B → ℕ → Type 0} {go : A → Option (Found B)} (o : Option A) → ((x : A) → o ≡ Some x → Holds B Q (go x)) → Holds B Q (with_it o go)
at_it None f = nothing
at_it (Some x) f = f x refl

pub seen_as : {A B : Type 0} {P : A → ℕ → Type 0} {Q : B → ℕ → Type 0} {o : Option (Found A)} (f : A → Option B) → Holds A P o → ((x : A) (m : ℕ) → P x m → (y : B) → f x ≡ Some y → Q y m) → Holds B Q (seen f o)
seen_as {o = None} f h g = nothing
seen_as {o = Some s} f h g = at_it (f s.value) (λ y e. one (g s.value s.turns (h.of s refl) y e))

-- what is there is so
pub record If (A : Type 0) (P : A → Type 0) (o : Option A) : Type 0 where
  pub of : (x : A) → o ≡ Some x → P x

pub if_none : {A : Type 0} {P : A → Type 0} → If A P None
if_none = record { of = λ x e. cc }

pub if_some : {A : Type 0} {P : A → Type 0} {a : A} → P a → If A P (Some a)
if_some {A} {P} {a} h = record { of = λ x e. let same : a ≡ x = cc in subst P same h }

pub if_so : {A : Type 0} {P Q : A → Type 0} {o : Option A} → If A P o → ((x : A) → P x → Q x) → If A Q o
if_so h g = record { of = λ x e. g x (h.of x e) }

pub if_changed : {A B : Type 0} {P : A → Type 0} {Q : B → Type 0} (f : A → B) {o : Option A} → If A P o → ((x : A) → P x → Q (f x)) → If B Q (changed f o)
if_changed f {o = None} h g = if_none
if_changed f {o = Some x} h g = if_some (g x (h.of x refl))

pub if_both : {A B C : Type 0} {P : A → Type 0} {Q : B → Type 0} {R : C → Type 0} (f : A → B → C) {o : Option A} {u : Option B} → If A P o → If B Q u → ((x : A) (y : B) → P x → Q y → R (f x y)) → If C R (with_both o u f)
if_both f {o = None} h k g = if_none
if_both f {o = Some x} {u = None} h k g = if_none
if_both f {o = Some x} {u = Some y} h k g = if_some (g x y (h.of x refl) (k.of y refl))

pub if_at : {A B : Type 0} {Q : B → Type 0} {go : A → Option B} (o : Option A) → ((x : A) → o ≡ Some x → If B Q (go x)) → If B Q (with_it o go)
if_at None f = if_none
if_at (Some x) f = f x refl

pub if_it : {A B : Type 0} {P : A → Type 0} {Q : B → Type 0} {go : A → Option B} {o : Option A} → If A P o → ((x : A) → P x → If B Q (go x)) → If B Q (with_it o go)
if_it {o = o} h g = if_at o (λ x e. g x (h.of x e))

pub if_only : {A : Type 0} {P : A → Type 0} {o : Option A} (b : Bool) → (b ≡ true → If A P o) → If A P (only_if b o)
if_only true h = h refl
if_only false h = if_none

pub at_found : {A B : Type 0} {P : A → Type 0} {Q : B → ℕ → Type 0} {go : A → Option (Found B)} {o : Option A} → If A P o → ((x : A) → P x → Holds B Q (go x)) → Holds B Q (with_it o go)
at_found {o = o} h g = at_it o (λ x e. g x (h.of x e))

pub as_found : {A B : Type 0} {P : A → ℕ → Type 0} {Q : B → ℕ → Type 0} (f : A → B) {o : Option (Found A)} → Holds A P o → ((x : A) (n : ℕ) → P x n → Q (f x) n) → Holds B Q (found_as f o)
as_found f {o = None} h g = nothing
as_found f {o = Some r} h g = one (g r.value r.turns (h.of r refl))

pub in_turns : {A : Type 0} {P : A → ℕ → Type 0} {o : Option (Found A)} → Holds A P o → If A (λ x. (n : ℕ) × P x n) (changed (λ r. r.value) o)
in_turns {o = None} h = if_none
in_turns {o = Some r} h = if_some (r.turns, h.of r refl)
