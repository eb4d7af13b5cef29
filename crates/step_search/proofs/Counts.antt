-- Counts that grow by different things of a kind.
use Rattle.std.proofs.Common.{◌≡◌, ◌≢◌, ◌≤◌, ◌+◌, ◌*◌, ℕ, sym, ap, ◌∙◌, subst, arith}
use Rattle.std.proofs.Common.{List, [], ◌∷◌, ◌++◌, length, map}
use Rattle.std.specs.List.{AllByRecursion}
use Rattle.std.proofs.Math.Nat.{mul-add}
use Rattle.std.proofs.lemmas.List.{length-append, length-map}
use Rattle.step_search.specs.Seen.{AreDifferent, GrowsBy}

-- what holds of each
each_wider : {X : Type 0} (P Q : X → Type 0) (xs : List X) → ((x : X) → P x → Q x) → AllByRecursion P xs
    → AllByRecursion Q xs
each_wider P Q [] to h = tt
each_wider P Q (x ∷ xs) to h = (to x h.0, each_wider P Q xs to h.1)

each_joined : {X : Type 0} (P : X → Type 0) (xs ys : List X) → AllByRecursion P xs → AllByRecursion P ys
    → AllByRecursion P (xs ++ ys)
each_joined P [] ys h k = k
each_joined P (x ∷ xs) ys h k = (h.0, each_joined P xs ys h.1 k)

each_mapped : {X Y : Type 0} (P : X → Type 0) (Q : Y → Type 0) (f : X → Y) (xs : List X)
    → ((x : X) → P x → Q (f x)) → AllByRecursion P xs → AllByRecursion Q (map f xs)
each_mapped P Q f [] to h = tt
each_mapped P Q f (x ∷ xs) to h = (to x h.0, each_mapped P Q f xs to h.1)

-- things of two kinds that exclude each other
apart_from : {X : Type 0} (P Q : X → Type 0) (x : X) (ys : List X) → P x → ((z : X) → P z → Q z → ⊥)
    → AllByRecursion Q ys → AllByRecursion (λ y. x ≢ y) ys
apart_from P Q x ys here apart h = each_wider Q (λ y. x ≢ y) ys (λ y q is. apart y (subst P is here) q) h

joined_differ : {X : Type 0} (P Q : X → Type 0) (xs ys : List X) → ((z : X) → P z → Q z → ⊥)
    → AreDifferent xs → AreDifferent ys → AllByRecursion P xs → AllByRecursion Q ys
    → AreDifferent (xs ++ ys)
joined_differ P Q [] ys apart d e h k = e
joined_differ P Q (x ∷ xs) ys apart d e h k = (
  each_joined (λ y. x ≢ y) xs ys d.0 (apart_from P Q x ys h.0 apart k),
  joined_differ P Q xs ys apart d.1 e h.1 k,
)

-- by another thing each, where no two become the same
mapped_differ : {X Y : Type 0} (f : X → Y) (xs : List X) → ((x y : X) → f x ≡ f y → x ≡ y)
    → AreDifferent xs → AreDifferent (map f xs)
mapped_differ f [] one d = tt
mapped_differ f (x ∷ xs) one d = (
  each_mapped (λ y. x ≢ y) (λ y. f x ≢ y) f xs (λ y differ is. differ (one x y is)) d.0,
  mapped_differ f xs one d.1,
)

-- a count that stays
pub stays : {X : Type 0} (most : ℕ) (kind : X → Type 0) (n : ℕ) → GrowsBy most kind n n
stays most kind n = record { things = []; different = tt; each = tt; bound = omega arith }

-- by one thing
pub grows_once : {X : Type 0} (most : ℕ) (kind : X → Type 0) (a b : ℕ) (x : X) → kind x → b ≤ a + most
    → GrowsBy most kind a b
grows_once most kind a b x k l =
    record { things = x ∷ []; different = (tt, tt); each = (k, tt); bound = omega (arith, l) }

-- by things of a wider kind
pub grows_wider : {X : Type 0} (most : ℕ) (kind wider : X → Type 0) (a b : ℕ)
    → ((x : X) → kind x → wider x) → GrowsBy most kind a b → GrowsBy most wider a b
grows_wider most kind wider a b to g = record {
  things = g.things;
  different = g.different;
  each = each_wider kind wider g.things to g.each;
  bound = g.bound;
}

-- by things of one kind, and then by things of another
more_in_all : (most n m k a b c : ℕ) → k ≡ n + m → b ≤ a + most * n → c ≤ b + most * m → c ≤ a + most * k
more_in_all most n m k a b c is l r =
    let all : most * k ≡ most * n + most * m = ap (λ i. most * i) is ∙ mul-add most n m in
    omega (arith, l, r, all)

pub grows_twice : {X : Type 0} (most : ℕ) (first second kind : X → Type 0) (a b c : ℕ)
    → ((x : X) → first x → kind x) → ((x : X) → second x → kind x)
    → ((x : X) → first x → second x → ⊥)
    → GrowsBy most first a b → GrowsBy most second b c → GrowsBy most kind a c
grows_twice most first second kind a b c to to' apart g h = record {
  things = g.things ++ h.things;
  different = joined_differ first second g.things h.things apart g.different h.different g.each h.each;
  each = each_joined kind g.things h.things (each_wider first kind g.things to g.each)
      (each_wider second kind h.things to' h.each);
  bound = more_in_all most (length g.things) (length h.things) (length (g.things ++ h.things)) a b c
      (length-append g.things h.things) g.bound h.bound;
}

-- by another thing for each
pub grows_by_others : {X Y : Type 0} (most : ℕ) (kind : X → Type 0) (other : Y → Type 0) (f : X → Y)
    (a b : ℕ) → ((x y : X) → f x ≡ f y → x ≡ y) → ((x : X) → kind x → other (f x))
    → GrowsBy most kind a b → GrowsBy most other a b
grows_by_others most kind other f a b one to g = record {
  things = map f g.things;
  different = mapped_differ f g.things one g.different;
  each = each_mapped kind other f g.things to g.each;
  bound = subst (λ n. b ≤ a + most * n) (sym (length-map g.things f)) g.bound;
}
