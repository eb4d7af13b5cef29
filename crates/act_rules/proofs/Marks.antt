-- Which bindings stay, and where their variables come and were.
use Rattle.std.specs.Prelude.{slice_get}
use Rattle.std.proofs.Common.{◌≡◌, ◌+◌, ◌-◌, ℕ, suc, zero, Bool, true, false, List, [], ◌∷◌, ◌++◌, length, reverse, Some, refl, sym, ap, ◌∙◌, subst, arith}
use Rattle.std.proofs.lemmas.List.{append-nil}
use Rattle.chw_types.specs.declared.kind.Kind.{Kind}
use Rattle.chw_types.specs.TypeTree.{TypeTree}
use Rattle.chw_types.specs.TypeMoves.{Renaming}
use Rattle.chw_terms.specs.TermTree.{Group, no_bindings, bind, size_of}
use Rattle.chw_typing.specs.Scopes.{Setting, AreTermTypes, with_more, declared}
use Rattle.chw_typing.proofs.Lists.{turned_onto}
use Rattle.rewriting.specs.Shapes.{marked, closed_up}
use Rattle.chw_meaning.specs.Values.{body_at}

abbrev pub trues : List Bool → ℕ
trues [] = 0
trues (true ∷ ms) = suc (trues ms)
trues (false ∷ ms) = trues ms

-- where the variables that stay were; the first mark is that of the innermost
abbrev pub opened : List Bool → Renaming
opened [] y = y
opened (true ∷ ms) zero = zero
opened (true ∷ ms) (suc y) = suc (opened ms y)
opened (false ∷ ms) y = suc (opened ms y)

opened_past : (ms rest : List Bool) (z : ℕ) → opened (reverse ms ++ rest) (z + trues ms) ≡ opened rest z + length ms
opened_past [] rest z = ap (opened rest) (let e : z + 0 ≡ z = omega arith in e) ∙ (let e : opened rest z ≡ opened rest z + 0 = omega arith in e)
opened_past (true ∷ ms) rest z =
    ap (λ l. opened l (z + suc (trues ms))) (turned_onto true ms rest)
    ∙ ap (opened (reverse ms ++ true ∷ rest)) (let e : z + suc (trues ms) ≡ suc z + trues ms = omega arith in e)
    ∙ opened_past ms (true ∷ rest) (suc z)
    ∙ (let e : suc (opened rest z) + length ms ≡ opened rest z + suc (length ms) = omega arith in e)
opened_past (false ∷ ms) rest z =
    ap (λ l. opened l (z + trues ms)) (turned_onto false ms rest)
    ∙ opened_past ms (false ∷ rest) z
    ∙ (let e : suc (opened rest z) + length ms ≡ opened rest z + suc (length ms) = omega arith in e)

closed_past : (ms rest : List Bool) (z : ℕ) → closed_up (reverse ms ++ rest) (z + length ms) ≡ closed_up rest z + trues ms
closed_past [] rest z = ap (closed_up rest) (let e : z + 0 ≡ z = omega arith in e) ∙ (let e : closed_up rest z ≡ closed_up rest z + 0 = omega arith in e)
closed_past (true ∷ ms) rest z =
    ap (λ l. closed_up l (z + suc (length ms))) (turned_onto true ms rest)
    ∙ ap (closed_up (reverse ms ++ true ∷ rest)) (let e : z + suc (length ms) ≡ suc z + length ms = omega arith in e)
    ∙ closed_past ms (true ∷ rest) (suc z)
    ∙ (let e : suc (closed_up rest z) + trues ms ≡ closed_up rest z + suc (trues ms) = omega arith in e)
closed_past (false ∷ ms) rest z =
    ap (λ l. closed_up l (z + suc (length ms))) (turned_onto false ms rest)
    ∙ ap (closed_up (reverse ms ++ false ∷ rest)) (let e : z + suc (length ms) ≡ suc z + length ms = omega arith in e)
    ∙ closed_past ms (false ∷ rest) (suc z)

new_stays : (ms rest : List Bool) (x j : ℕ) → slice_get ms j ≡ Some true → x + suc j ≡ length ms → opened (reverse ms ++ rest) (closed_up (reverse ms ++ rest) x) ≡ x
new_stays [] rest x j mark size = cc
new_stays (false ∷ ms) rest x zero mark size = cc
new_stays (true ∷ ms) rest x zero mark size =
    let at : x ≡ 0 + length ms = omega (arith, size) in
    ap (λ l. opened l (closed_up l x)) (turned_onto true ms rest)
    ∙ ap (λ k. opened (reverse ms ++ true ∷ rest) (closed_up (reverse ms ++ true ∷ rest) k)) at
    ∙ ap (opened (reverse ms ++ true ∷ rest)) (closed_past ms (true ∷ rest) 0)
    ∙ opened_past ms (true ∷ rest) 0
    ∙ sym at
new_stays (m ∷ ms) rest x (suc j) mark size =
    ap (λ l. opened l (closed_up l x)) (turned_onto m ms rest) ∙ new_stays ms (m ∷ rest) x j mark (omega (arith, size))

-- a variable that stays comes back; so does one from outside
pub stays : (ms : List Bool) (x j : ℕ) → slice_get ms j ≡ Some true → x + suc j ≡ length ms → opened (reverse ms) (closed_up (reverse ms) x) ≡ x
stays ms x j mark size = ap (λ l. opened l (closed_up l x)) (sym (append-nil (reverse ms))) ∙ new_stays ms [] x j mark size

pub outer_stays : (ms : List Bool) (z : ℕ) → opened (reverse ms) (closed_up (reverse ms) (z + length ms)) ≡ z + length ms
outer_stays ms z =
    ap (λ l. opened l (closed_up l (z + length ms))) (sym (append-nil (reverse ms)))
    ∙ ap (opened (reverse ms ++ [])) (closed_past ms [] z)
    ∙ opened_past ms [] z

pub size_marked : (ms : List Bool) (g : Group) → length ms ≡ size_of g → size_of (marked ms g) ≡ trues ms
size_marked [] no_bindings e = refl
size_marked [] (bind t x g) e = cc
size_marked (m ∷ ms) no_bindings e = cc
size_marked (true ∷ ms) (bind t x g) e = ap suc (size_marked ms g (omega (arith, e)))
size_marked (false ∷ ms) (bind t x g) e = size_marked ms g (omega (arith, e))

-- where a variable from outside was
pub outer_was : (ms : List Bool) (g : Group) → length ms ≡ size_of g → (z : ℕ) → opened (reverse ms) (z + size_of (marked ms g)) ≡ z + size_of g
outer_was ms g size z =
    ap (λ l. opened l (z + size_of (marked ms g))) (sym (append-nil (reverse ms)))
    ∙ ap (λ k. opened (reverse ms ++ []) (z + k)) (size_marked ms g size)
    ∙ opened_past ms [] z ∙ ap (λ k. z + k) size

-- a binding that stays: which one it was, and where its variable was
pub record MarkedAt (ms : List Bool) (g : Group) (l : List Bool) (j y : ℕ) : Type 0 where
  pub place : ℕ
  pub is_marked : slice_get ms place ≡ Some true
  pub right : body_at (marked ms g) j ≡ body_at g place
  pub declares : slice_get (declared (marked ms g)) j ≡ slice_get (declared g) place
  pub was : opened l y + suc place ≡ size_of g

marked_from : (ms : List Bool) (g : Group) (rest : List Bool) → length ms ≡ size_of g → (j y : ℕ) → y + suc j ≡ size_of (marked ms g) → MarkedAt ms g (reverse ms ++ rest) j y
marked_from [] no_bindings rest size j y at = absurd (let e : suc (y + j) ≡ 0 = omega (arith, at) in cc)
marked_from [] (bind t x g) rest size j y at = cc
marked_from (m ∷ ms) no_bindings rest size j y at = cc
marked_from (true ∷ ms) (bind t x g) rest size zero y at =
    let n = size_marked ms g (omega (arith, size)) in
    let here : y ≡ 0 + trues ms = omega (arith, at, n) in
    let back = ap (λ l. opened l y) (turned_onto true ms rest) ∙ ap (opened (reverse ms ++ true ∷ rest)) here ∙ opened_past ms (true ∷ rest) 0 in
    record { place = 0; is_marked = refl; right = refl; declares = refl; was = omega (arith, back, size) }
marked_from (true ∷ ms) (bind t x g) rest size (suc j) y at =
    let one = marked_from ms g (true ∷ rest) (omega (arith, size)) j y (omega (arith, at)) in
    let back = ap (λ l. opened l y) (turned_onto true ms rest) in
    record { place = suc one.place; is_marked = one.is_marked; right = one.right; declares = one.declares; was = omega (arith, back, one.was) }
marked_from (false ∷ ms) (bind t x g) rest size j y at =
    let one = marked_from ms g (false ∷ rest) (omega (arith, size)) j y at in
    let back = ap (λ l. opened l y) (turned_onto false ms rest) in
    record { place = suc one.place; is_marked = one.is_marked; right = one.right; declares = one.declares; was = omega (arith, back, one.was) }

pub marked_at : (ms : List Bool) (g : Group) → length ms ≡ size_of g → (j y : ℕ) → y + suc j ≡ size_of (marked ms g) → MarkedAt ms g (reverse ms) j y
marked_at ms g size j y at = subst (λ l. MarkedAt ms g l j y) (append-nil (reverse ms)) (marked_from ms g [] size j y at)

-- the types of the variables that stay
abbrev picked : List Bool → List TypeTree → List TypeTree
picked [] ts = ts
picked (m ∷ ms) [] = []
picked (true ∷ ms) (t ∷ ts) = t ∷ picked ms ts
picked (false ∷ ms) (t ∷ ts) = picked ms ts

picked_at : (ms : List Bool) (ts : List TypeTree) (y : ℕ) → slice_get (picked ms ts) y ≡ slice_get ts (opened ms y)
picked_at [] ts y = refl
picked_at (true ∷ ms) [] zero = refl
picked_at (true ∷ ms) [] (suc y) = refl
picked_at (false ∷ ms) [] y = refl
picked_at (true ∷ ms) (t ∷ ts) zero = refl
picked_at (true ∷ ms) (t ∷ ts) (suc y) = picked_at ms ts y
picked_at (false ∷ ms) (t ∷ ts) y = picked_at ms ts y

picked_is : (ms : List Bool) (g : Group) (rest : List Bool) (vs : List TypeTree) → length ms ≡ size_of g → picked (reverse ms ++ rest) (with_more (declared g) vs) ≡ with_more (declared (marked ms g)) (picked rest vs)
picked_is [] no_bindings rest vs e = refl
picked_is [] (bind t x g) rest vs e = cc
picked_is (m ∷ ms) no_bindings rest vs e = cc
picked_is (true ∷ ms) (bind t x g) rest vs e =
    (λ i. picked (turned_onto true ms rest i) (turned_onto t (declared g) vs i)) ∙ picked_is ms g (true ∷ rest) (t ∷ vs) (omega (arith, e)) ∙ sym (turned_onto t (declared (marked ms g)) (picked rest vs))
picked_is (false ∷ ms) (bind t x g) rest vs e =
    (λ i. picked (turned_onto false ms rest i) (turned_onto t (declared g) vs i)) ∙ picked_is ms g (false ∷ rest) (t ∷ vs) (omega (arith, e))

pub type_was : (ms : List Bool) (g : Group) (vs : List TypeTree) (y : ℕ) → length ms ≡ size_of g → slice_get (with_more (declared (marked ms g)) vs) y ≡ slice_get (with_more (declared g) vs) (opened (reverse ms) y)
type_was ms g vs y size =
    ap (λ ts. slice_get ts y) (sym (picked_is ms g [] vs size) ∙ ap (λ l. picked l (with_more (declared g) vs)) (append-nil (reverse ms))) ∙ picked_at (reverse ms) (with_more (declared g) vs) y

pub marked_typed : (s : Setting) (kinds : List Kind) (ms : List Bool) (g : Group) → AreTermTypes s kinds (declared g) → AreTermTypes s kinds (declared (marked ms g))
marked_typed s kinds [] g h = tt
marked_typed s kinds (true ∷ ms) no_bindings h = tt
marked_typed s kinds (false ∷ ms) no_bindings h = tt
marked_typed s kinds (true ∷ ms) (bind t x g) h = (h.0, marked_typed s kinds ms g h.1)
marked_typed s kinds (false ∷ ms) (bind t x g) h = marked_typed s kinds ms g h.1
