-- Lists that are mapped, and elements of vectors.
use Rattle.std.proofs.Common.{◌≡◌, ◌∙◌, sym, ap, refl, inl, inr, arith, ℕ, suc, zero, ◌+◌, ◌*◌, ◌<◌, min, Bool, true, false, if◌then◌else◌, List, [], ◌∷◌, ◌++◌, map, length, take, get_or, Some}
use mir.Val.{bool_byte}
use Rattle.std.proofs.Math.Nat.{min-eq_left, min-eq_right}
use Rattle.std.proofs.lemmas.Bool.{cases_order}
use Rattle.std.proofs.lemmas.List.{take_more}
use Rattle.std.proofs.lemmas.Option.{slice_get-get_or}
use Rattle.std.specs.List.{slice_get}
use Rattle.chw_bits.specs.Bits.{number_of}
use Rattle.chw_bits.proofs.Numbers.{number_of_more}
use Rattle.chw_types.specs.declared.kind.Scalar.{Scalar}
use Rattle.chw_terms.specs.declared.term.Arg.{Arg}
use Rattle.chw_terms.specs.declared.term.Arg.TheVariants.{OfTerm}
use Rattle.chw_terms.specs.TermTree.{TermTree, lit}
use Rattle.chw_terms.specs.TermView.{terms_of}
use Rattle.rewriting.specs.Primitives.{literal}
use Rattle.chw_typing.specs.Paths.{element_at}
use Rattle.work_prims.specs.Given.{literals, AreWords}

-- what a mapped list has at a place is what the map gives of something
pub of_mapped : {X Y : Type 0} (f : X → Y) (xs : List X) (i : ℕ) (y : Y) → slice_get (map f xs) i ≡ Some y → (x : X) × (y ≡ f x)
of_mapped f [] i y q = absurd cc
of_mapped f (x ∷ xs) zero y q = (x, cc)
of_mapped f (x ∷ xs) (suc i) y q = of_mapped f xs i y q

-- so an item of a list that is a mapped one
pub item_of_mapped : {X Y : Type 0} (f : X → Y) (xs : List X) (ys : List Y) (i : ℕ) (y d : Y) → i < length ys → y ≡ get_or ys i d → ys ≡ map f xs → (x : X) × (y ≡ f x)
item_of_mapped f xs ys i y d l is q =
    of_mapped f xs i y (ap (λ zs. slice_get zs i) (sym q) ∙ slice_get-get_or ys i d l ∙ ap Some (sym is))

-- an item of a list of which a function makes what another makes of a second list
pub mapped_alike : {X Y Z : Type 0} (g : X → Z) (f : Y → Z) (xs : List X) (ys : List Y) (i : ℕ) (x d : X) → i < length xs → x ≡ get_or xs i d → map g xs ≡ map f ys → (y : Y) × (g x ≡ f y)
mapped_alike g f xs ys i x d l is q =
    of_mapped f ys i (g x) (ap (λ zs. slice_get zs i) (sym q) ∙ image g xs i x (slice_get-get_or xs i d l ∙ ap Some (sym is)))
  where
    image : {X Z : Type 0} (g : X → Z) (xs : List X) (i : ℕ) (x : X) → slice_get xs i ≡ Some x → slice_get (map g xs) i ≡ Some (g x)
    image g [] i x q = absurd cc
    image g (y ∷ xs) zero x q = let e : y ≡ x = cc in ap (λ y. Some (g y)) e
    image g (y ∷ xs) (suc i) x q = image g xs i x q

-- an item of literals is one
of_literals : (ws : List (Scalar × List Bool)) (i : ℕ) (a : Arg) → slice_get (literals ws) i ≡ Some a → (w : Scalar × List Bool) × (a ≡ OfTerm (literal w))
of_literals [] i a q = absurd cc
of_literals (w ∷ ws) zero a q = (w, cc)
of_literals (w ∷ ws) (suc i) a q = of_literals ws i a q

pub item_of_literals : (ws : List (Scalar × List Bool)) (args : List Arg) (i : ℕ) (a d : Arg) → i < length args → a ≡ get_or args i d → args ≡ literals ws → (w : Scalar × List Bool) × (a ≡ OfTerm (literal w))
item_of_literals ws args i a d l is q =
    of_literals ws i a (ap (λ zs. slice_get zs i) (sym q) ∙ slice_get-get_or args i d l ∙ ap Some (sym is))

-- one more word
literals_more : (ws : List (Scalar × List Bool)) (w : Scalar × List Bool) → literals (ws ++ w ∷ []) ≡ literals ws ++ OfTerm (literal w) ∷ []
literals_more [] w = refl
literals_more (v ∷ ws) w = ap (λ xs. OfTerm (literal v) ∷ xs) (literals_more ws w)

bits_more : (ws : List (Scalar × List Bool)) (w : Scalar × List Bool) → map (λ (w : Scalar × List Bool). w.1) (ws ++ w ∷ []) ≡ map (λ (w : Scalar × List Bool). w.1) ws ++ w.1 ∷ []
bits_more [] w = refl
bits_more (v ∷ ws) w = ap (λ xs. v.1 ∷ xs) (bits_more ws w)

pub words_more : (args : List Arg) (done : List (List Bool)) (i : ℕ) (a d : Arg) (x : Scalar) (bits : List Bool) → i < length args → a ≡ get_or args i d → a ≡ OfTerm (lit x bits) → AreWords (take i args) done → AreWords (take (i + 1) args) (done ++ bits ∷ [])
words_more args done i a d x bits l is q w =
    let more : take (i + 1) args ≡ take i args ++ OfTerm (lit x bits) ∷ [] = take_more args i d l ∙ ap (λ a. take i args ++ a ∷ []) (sym is ∙ q) in
    (w.0 ++ (x, bits) ∷ [], more ∙ ap (λ xs. xs ++ OfTerm (lit x bits) ∷ []) w.1 ∙ sym (literals_more w.0 (x, bits)), ap (λ bs. bs ++ bits ∷ []) w.2 ∙ sym (bits_more w.0 (x, bits)))

-- the elements of a vector of these terms
pub element_is : (es : List TermTree) (j : ℕ) → element_at (terms_of es) j ≡ slice_get es j
element_is [] j = refl
element_is (e ∷ es) zero = refl
element_is (e ∷ es) (suc j) = element_is es j

-- a number with one more bit behind it that ends at the last place
pub place_more : (n last b : ℕ) → min (2 * min n last + b) last ≡ min (2 * n + b) last
place_more n last b = elim (cases_order n last) [
  | inl q ↦ ap (λ m. min (2 * m + b) last) (min-eq_left (omega (arith, q)))
  | inr l ↦ elim l [
    | inl l ↦ ap (λ m. min (2 * m + b) last) (min-eq_left (omega (arith, l)))
    | inr l ↦ ap (λ m. min (2 * m + b) last) (min-eq_right (omega (arith, l))) ∙ min-eq_right (omega arith) ∙ sym (min-eq_right (omega (arith, l)))
  ]
]

one_bit : (bits : List Bool) (i : ℕ) (b : Bool) → number_of (take (i + 1) bits) ≡ 2 * number_of (take i bits) + bool_byte b → number_of (take (i + 1) bits) ≡ 2 * number_of (take i bits) + (if b then 1 else 0)
one_bit bits i true q = q
one_bit bits i false q = q

pub bit_more : (bits : List Bool) (i : ℕ) (d : Bool) → i < length bits → number_of (take (i + 1) bits) ≡ 2 * number_of (take i bits) + (if get_or bits i d then 1 else 0)
bit_more bits i d l = one_bit bits i (get_or bits i d) (number_of_more bits i d l)
