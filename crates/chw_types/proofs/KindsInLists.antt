-- What the loop over the arguments of a data type owes.
use Rattle.std.proofs.Common.{◌≡◌, ℕ, suc, zero, ◌+◌, ◌-◌, ◌^◌, ◌<◌, ◌≤◌, Bool, true, false, ◌&&◌, refl, sym, ap, ◌∙◌, List, [], ◌∷◌, length, get_or, drop, min, arith}
use Rattle.std.specs.Prelude.{nat_le, nat_lt, Option, Some}
use Rattle.std.specs.List.{slice_get}
use Rattle.std.proofs.lemmas.Option.{slice_get_read}
use Rattle.std.proofs.lemmas.Bool.{ltb-true}
use Rattle.std.proofs.lemmas.List.{drop_all}
use Rattle.std.proofs.lemmas.Bool.Decides.{nat_tests}
use Rattle.chw_types.specs.declared.kind.Kind.{Kind}
use Rattle.chw_types.specs.declared.declarations.Data.{Data}
use Rattle.chw_types.specs.TypeTree.{TypeTree, data_of, TypeTrees}
use Rattle.chw_types.specs.TypeView.{trees_of}
use Rattle.chw_types.specs.KindFound.{is_kind, params_of, data_kind, kind_found, are_kinds}

-- a degree at most 4 is told from its least part that fits
pub small_degree : (d : ℕ) → nat_le (min d (2 ^ 32 - 1)) 4 ≡ nat_le d 4
small_degree d = grind (arith, nat_tests)

are_kinds_next : (datas : List Data) (domains : ℕ) (scope : List Kind) (ts : List TypeTree) (ks : List Kind) (i : ℕ) (t t' : TypeTree) (k k' : Kind) → i < length ts → i < length ks → t ≡ get_or ts i t' → k ≡ get_or ks i k' → are_kinds datas domains scope (trees_of (drop i ts)) (drop i ks) ≡ (is_kind (kind_found datas domains scope t) k && are_kinds datas domains scope (trees_of (drop (suc i) ts)) (drop (suc i) ks))
unfolding kind_found
are_kinds_next datas domains scope [] ks i t t' k k' h g e f = absurd (omega arith)
are_kinds_next datas domains scope (x ∷ xs) [] i t t' k k' h g e f = absurd (omega arith)
are_kinds_next datas domains scope (x ∷ xs) (y ∷ ys) zero t t' k k' h g e f = (λ j. is_kind (kind_found datas domains scope (sym e j)) (sym f j) && are_kinds datas domains scope (trees_of xs) ys)
are_kinds_next datas domains scope (x ∷ xs) (y ∷ ys) (suc i) t t' k k' h g e f = are_kinds_next datas domains scope xs ys i t t' k k' (omega arith) (omega arith) e f

-- one more argument looked at
pub are_kinds_step : (datas : List Data) (domains : ℕ) (scope : List Kind) (ts : List TypeTree) (ks : List Kind) (i : ℕ) (t t' : TypeTree) (k k' : Kind) → i < length ts → i < length ks → t ≡ get_or ts i t' → k ≡ get_or ks i k' → are_kinds datas domains scope (trees_of (drop i ts)) (drop i ks) ≡ (is_kind (kind_found datas domains scope t) k && are_kinds datas domains scope (trees_of (drop (i + 1) ts)) (drop (i + 1) ks))
are_kinds_step datas domains scope ts ks i t t' k k' h g e f =
    let next : suc i ≡ i + 1 = omega arith in
    are_kinds_next datas domains scope ts ks i t t' k k' h g e f
    ∙ ap (λ n. is_kind (kind_found datas domains scope t) k && are_kinds datas domains scope (trees_of (drop n ts)) (drop n ks)) next

-- the number of arguments is wrong
pub are_kinds_lengths : (datas : List Data) (domains : ℕ) (scope : List Kind) (ts : List TypeTree) (ks : List Kind) → (length ks ≡ length ts → ⊥) → are_kinds datas domains scope (trees_of ts) ks ≡ false
unfolding kind_found
are_kinds_lengths datas domains scope [] [] h = absurd (h refl)
are_kinds_lengths datas domains scope [] (k ∷ ks) h = refl
are_kinds_lengths datas domains scope (t ∷ ts) [] h = refl
are_kinds_lengths datas domains scope (t ∷ ts) (k ∷ ks) h = ap (λ b. is_kind (kind_found datas domains scope t) k && b) (are_kinds_lengths datas domains scope ts ks (λ e. h (ap suc e))) ∙ and_no (is_kind (kind_found datas domains scope t) k)
  where
    and_no : (b : Bool) → (b && false) ≡ false
    and_no true = refl
    and_no false = refl

-- the arguments are right or wrong, as the loop finds
pub data_found : (datas : List Data) (domains : ℕ) (scope : List Kind) (d : ℕ) (it : Data) (ts : TypeTrees) (b : Bool) (t : TypeTree) → data_of d ts ≡ t → true ≡ nat_lt d (length datas) → it ≡ get_or datas d it → are_kinds datas domains scope ts it.params ≡ b → data_kind (Some it) b ≡ kind_found datas domains scope t
unfolding kind_found
data_found datas domains scope d it ts b t e h g a =
    let known : slice_get datas d ≡ Some it = slice_get_read datas (length datas) d it refl (ltb-true _ _ (sym h)) g in
    ap (data_kind (Some it)) (sym a)
    ∙ ap (λ o. data_kind o (are_kinds datas domains scope ts (params_of o))) (sym known)
    ∙ ap (kind_found datas domains scope) e

-- an argument is wrong
pub args_wrong : {found : Option Kind} {r : Bool} (datas : List Data) (domains : ℕ) (scope : List Kind) (ts : List TypeTree) (ks : List Kind) (i : ℕ) (t t' : TypeTree) (k k' : Kind) → i < length ts → i < length ks → t ≡ get_or ts i t' → k ≡ get_or ks i k' → r ≡ is_kind found k → found ≡ kind_found datas domains scope t → r ≡ false → are_kinds datas domains scope (trees_of (drop i ts)) (drop i ks) ≡ are_kinds datas domains scope (trees_of ts) ks → are_kinds datas domains scope (trees_of ts) ks ≡ false
args_wrong datas domains scope ts ks i t t' k k' h g e f test is n inv =
    sym inv ∙ are_kinds_step datas domains scope ts ks i t t' k k' h g e f ∙ ap (λ b. b && are_kinds datas domains scope (trees_of (drop (i + 1) ts)) (drop (i + 1) ks)) (sym (ap (λ o. is_kind o k) is) ∙ sym test ∙ n)

-- an argument is right
pub args_right : {found : Option Kind} {r : Bool} (datas : List Data) (domains : ℕ) (scope : List Kind) (ts : List TypeTree) (ks : List Kind) (i : ℕ) (t t' : TypeTree) (k k' : Kind) → i < length ts → i < length ks → t ≡ get_or ts i t' → k ≡ get_or ks i k' → r ≡ is_kind found k → found ≡ kind_found datas domains scope t → r ≡ true → are_kinds datas domains scope (trees_of (drop i ts)) (drop i ks) ≡ are_kinds datas domains scope (trees_of ts) ks → are_kinds datas domains scope (trees_of (drop (i + 1) ts)) (drop (i + 1) ks) ≡ are_kinds datas domains scope (trees_of ts) ks
args_right datas domains scope ts ks i t t' k k' h g e f test is y inv =
    sym (are_kinds_step datas domains scope ts ks i t t' k k' h g e f ∙ ap (λ b. b && are_kinds datas domains scope (trees_of (drop (i + 1) ts)) (drop (i + 1) ks)) (sym (ap (λ o. is_kind o k) is) ∙ sym test ∙ y)) ∙ inv

-- all arguments were right
pub args_all : (datas : List Data) (domains : ℕ) (scope : List Kind) (ts : List TypeTree) (ks : List Kind) (i : ℕ) → length ts ≤ i → length ks ≡ length ts → are_kinds datas domains scope (trees_of (drop i ts)) (drop i ks) ≡ are_kinds datas domains scope (trees_of ts) ks → are_kinds datas domains scope (trees_of ts) ks ≡ true
unfolding kind_found
args_all datas domains scope ts ks i h g inv =
    sym inv ∙ (λ j. are_kinds datas domains scope (trees_of (drop_all i ts h j)) (drop_all i ks (omega arith) j))
