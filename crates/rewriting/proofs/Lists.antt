-- What is determined: marks, numbers, and lists that are mapped.
use Rattle.std.proofs.Common.{◌≡◌, sym, refl, subst, inl, inr, ◌↔◌, ℕ, suc, ◌<◌, arith, Bool, true, false, List, [], ◌∷◌, map, length, Some, slice_get}
use Rattle.std.proofs.lemmas.Bool.{cases_order}
use Rattle.std.proofs.lemmas.Option.{slice_get_within}
use Rattle.chw_types.specs.declared.kind.Scalar.{Scalar}
use Rattle.type_ports.specs.Representable.{Representable}
use Rattle.chw_types.specs.declared.declarations.Data.{Data}
use Rattle.chw_types.specs.TypeTree.{TypeTree, nat_lit, fun}
use Rattle.chw_terms.specs.TermTree.{TermTree}
use Rattle.chw_typing.specs.HeadTypes.{from_each}
use Rattle.rewriting.specs.Origins.{Origins}
use Rattle.rewriting.specs.Numbers.{HasOrigin, IsNumberOf}
use Rattle.rewriting.specs.Primitives.{literal}

-- lists are the same where what a function with no two arguments for one value makes of them is
pub mapped_same : {X Y : Type 0} (f : X → Y) → ((x y : X) → f x ≡ f y → x ≡ y) → (xs ys : List X) → map f xs ≡ map f ys → xs ≡ ys
mapped_same f one [] [] q = refl
mapped_same f one [] (y ∷ ys) q = absurd cc
mapped_same f one (x ∷ xs) [] q = absurd cc
mapped_same f one (x ∷ xs) (y ∷ ys) q =
    let first : f x ≡ f y = cc in
    let rest : map f xs ≡ map f ys = cc in
    λ i. one x y first i ∷ mapped_same f one xs ys rest i

pub numerals_same : (ms ns : List ℕ) → map (λ n. nat_lit n) ms ≡ map (λ n. nat_lit n) ns → ms ≡ ns
numerals_same = mapped_same (λ n. nat_lit n) (λ m n q. cc)

pub somes_same : (ts us : List TypeTree) → map (λ t. Some t) ts ≡ map (λ t. Some t) us → ts ≡ us
somes_same = mapped_same (λ t. Some t) (λ t u q. cc)

word_same : (v w : Scalar × List Bool) → literal v ≡ literal w → v ≡ w
word_same v w q =
    let sort : v.0 ≡ w.0 = cc in
    let bits : v.1 ≡ w.1 = cc in
    λ i. (sort i, bits i)

pub words_same : (vs ws : List (Scalar × List Bool)) → map literal vs ≡ map literal ws → vs ≡ ws
words_same = mapped_same literal word_same

-- no function is representable
no_function : (datas : List Data) (a b : TypeTree) → Representable datas (fun a b) → ⊥
no_function datas a b h = elim h [ ]

-- the parameters and the result, where that is representable
pub record SameFunction (ts us : List TypeTree) (r q : TypeTree) : Type 0 where
  pub params : ts ≡ us
  pub result : r ≡ q

pub function_same : (datas : List Data) (ts us : List TypeTree) (r q : TypeTree) → Representable datas r → Representable datas q → from_each ts r ≡ from_each us q → SameFunction ts us r q
function_same datas [] [] r q h g e = record { params = refl; result = e }
function_same datas [] (u ∷ us) r q h g e = absurd (no_function datas u (from_each us q) (subst (Representable datas) e h))
function_same datas (t ∷ ts) [] r q h g e = absurd (no_function datas t (from_each ts r) (subst (Representable datas) (sym e) g))
function_same datas (t ∷ ts) (u ∷ us) r q h g e =
    let first : t ≡ u = cc in
    let rest : from_each ts r ≡ from_each us q = cc in
    let same = function_same datas ts us r q h g rest in
    record { params = λ i. first i ∷ same.params i; result = same.result }

-- a made definition of a number is one of them
pub origin_within : (o : Origins) (e : TermTree) (m : ℕ) → HasOrigin o e m → m < length o.made
origin_within o e m h = slice_get_within o.made m h.0 h.1

least : (o : Origins) (e : TermTree) (m n : ℕ) → IsNumberOf o e m → IsNumberOf o e n → m < n → ⊥
least o e m n (inl h, f) g l = g.1 m l h
least o e m n (inr q, f) (inl h, g) l = let w = origin_within o e n h in omega (arith, q, w, l)
least o e m n (inr q, f) (inr p, g) l = omega (arith, q, p, l)

pub one_number : (o : Origins) (e : TermTree) (m n : ℕ) → IsNumberOf o e m → IsNumberOf o e n → m ≡ n
one_number o e m n h g = elim (cases_order m n) [
  | inl q ↦ q
  | inr d ↦ elim d [ inl l ↦ absurd (least o e m n h g l) | inr l ↦ absurd (least o e n m g h l) ]
]

-- marks that say the same are the same
alike : (P : Type 0) (b c : Bool) → (Some b ≡ Some true ↔ P) → (Some c ≡ Some true ↔ P) → b ≡ c
alike P true true h g = refl
alike P true false h g = let is = g.1 (h.0 refl) in absurd cc
alike P false true h g = let is = h.1 (g.0 refl) in absurd cc
alike P false false h g = refl

pub marks_same : (P : ℕ → Type 0) (xs ys : List Bool) → length xs ≡ length ys → ((i : ℕ) → i < length xs → (slice_get xs i ≡ Some true ↔ P i)) → ((i : ℕ) → i < length ys → (slice_get ys i ≡ Some true ↔ P i)) → xs ≡ ys
marks_same P [] [] n h g = refl
marks_same P [] (y ∷ ys) n h g = absurd cc
marks_same P (x ∷ xs) [] n h g = absurd cc
marks_same P (x ∷ xs) (y ∷ ys) n h g =
    let m : length xs ≡ length ys = cc in
    let first = alike (P 0) x y (h 0 (omega arith)) (g 0 (omega arith)) in
    let rest = marks_same (λ i. P (suc i)) xs ys m (λ i l. h (suc i) (omega (arith, l))) (λ i l. g (suc i) (omega (arith, l))) in
    λ i. first i ∷ rest i
