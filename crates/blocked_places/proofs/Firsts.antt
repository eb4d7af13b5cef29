-- The first of some items that passes a limit.
use Rattle.std.proofs.Common.{◌≡◌, ◌∙◌, ◌⊎◌, inl, inr, sym, refl, subst, ℕ, zero, suc, ◌+◌, ◌<◌, ◌≤◌}
use Rattle.std.proofs.Common.{arith, true, false, List, [], ◌∷◌, ◌++◌, length, get_or, Option, Some, None}
use Rattle.std.specs.List.{slice_get}
use Rattle.std.proofs.lemmas.Bool.{cases_lt, false≢true}
use Rattle.std.specs.Option.{is_some}
use Rattle.std.proofs.lemmas.Option.{slice_get_read, slice_get_within, same_Some}
use Rattle.chw_layout.specs.declared.outcome.NoLayout.{NoLayout}
use Rattle.blocked_places.specs.Firsts.{Passing, NonePasses, IsFirstOf, FindsFirstOf, FindsOf}

pub none_at_start : (A : Type 0) (P : Passing A) (xs : List A) → NonePasses A P xs 0
none_at_start A P xs j x k l at p = absurd (omega (arith, l))

pub none_up_to_next : (A : Type 0) (P : Passing A) (xs : List A) (i : ℕ) (x : A)
    → i < length xs → x ≡ get_or xs i x → ((k : NoLayout) → P x k → ⊥)
    → NonePasses A P xs i → NonePasses A P xs (i + 1)
none_up_to_next A P xs i x l is none before j y k m at p = by (cases_lt j i)
  where
    by : (j < i) ⊎ (i ≤ j) → ⊥
    by (inl b) = before j y k b at p
    by (inr b) =
        let here : j ≡ i = omega (arith, b, m) in
        let there = subst (λ n. slice_get xs n ≡ Some y) here at in
        let same : y ≡ x = same_Some y x (sym there ∙ slice_get_read xs (length xs) i x refl l is) in
        none k (subst (λ z. P z k) same p)

pub none_in_all : (A : Type 0) (P : Passing A) (xs : List A) (i : ℕ) → length xs ≤ i
    → NonePasses A P xs i → FindsFirstOf A P xs None
none_in_all A P xs i l none j x k at p =
    none j x k (omega (arith, l, slice_get_within xs j x at)) at p

pub first_here : (A : Type 0) (P : Passing A) (xs : List A) (i : ℕ) (x : A) (k : NoLayout)
    → i < length xs → x ≡ get_or xs i x → P x k → NonePasses A P xs i → IsFirstOf A P xs k
first_here A P xs i x k l is p none =
    record {
      number = i;
      item = x;
      is = slice_get_read xs (length xs) i x refl l is;
      passes = p;
      first = none;
    }

-- an item before others
pub first_after : (A : Type 0) (P : Passing A) (x : A) (xs : List A) (answer : Option NoLayout)
    → ((k : NoLayout) → P x k → ⊥) → FindsFirstOf A P xs answer → FindsFirstOf A P (x ∷ xs) answer
first_after A P x xs None never none = by
  where
    by : (j : ℕ) (y : A) (k : NoLayout) → slice_get (x ∷ xs) j ≡ Some y → P y k → ⊥
    by zero y k at p =
        let same : y ≡ x = same_Some y x (sym at) in never k (subst (λ z. P z k) same p)
    by (suc j) y k at p = none j y k at p
first_after A P x xs (Some l) never f =
    record { number = suc f.number; item = f.item; is = f.is; passes = f.passes; first = by }
  where
    by : (j : ℕ) (y : A) (k : NoLayout) → j < suc f.number → slice_get (x ∷ xs) j ≡ Some y → P y k → ⊥
    by zero y k m at p =
        let same : y ≡ x = same_Some y x (sym at) in never k (subst (λ z. P z k) same p)
    by (suc j) y k m at p = f.first j y k (omega (arith, m)) at p

pub first_behind : (A : Type 0) (P : Passing A) (xs ys : List A) (answer : Option NoLayout)
    → FindsFirstOf A P xs None → FindsFirstOf A P ys answer → FindsFirstOf A P (xs ++ ys) answer
first_behind A P [] ys answer none h = h
first_behind A P (x ∷ xs) ys answer none h =
    first_after A P x (xs ++ ys) answer (λ k p. none 0 x k refl p)
    (first_behind A P xs ys answer (λ j y k at p. none (suc j) y k at p) h)

front_item : {A : Type 0} (xs ys : List A) (k : ℕ) → k < length xs
    → slice_get (xs ++ ys) k ≡ slice_get xs k
front_item [] ys k l = absurd (omega (arith, l))
front_item (x ∷ xs) ys zero l = refl
front_item (x ∷ xs) ys (suc k) l = front_item xs ys k (omega (arith, l))

pub first_in_front : (A : Type 0) (P : Passing A) (xs ys : List A) (l : NoLayout)
    → IsFirstOf A P xs l → IsFirstOf A P (xs ++ ys) l
first_in_front A P xs ys l f =
    let within = slice_get_within xs f.number f.item f.is in
    record {
      number = f.number;
      item = f.item;
      is = front_item xs ys f.number within ∙ f.is;
      passes = f.passes;
      first = λ j y k m at p. f.first j y k m (sym (front_item xs ys j (omega (arith, m, within))) ∙ at) p;
    }

-- one item alone
pub first_alone : (A : Type 0) (P : Passing A) (x : A) (answer : Option NoLayout)
    → FindsOf A P x answer → FindsFirstOf A P (x ∷ []) answer
first_alone A P x None never = first_after A P x [] None never (λ j y k at p. absurd cc)
first_alone A P x (Some l) p =
    record { number = 0; item = x; is = refl; passes = p; first = none_at_start A P (x ∷ []) }

-- what was found of some is found of more
pub found_in_item : (A : Type 0) (P : Passing A) (x : A) (xs : List A) (found : Option NoLayout)
    → is_some found ≡ true → FindsOf A P x found → FindsFirstOf A P (x ∷ xs) found
found_in_item A P x xs None there h = absurd (false≢true there)
found_in_item A P x xs (Some l) there p =
    record { number = 0; item = x; is = refl; passes = p; first = none_at_start A P (x ∷ xs) }

pub found_in_front : (A : Type 0) (P : Passing A) (xs ys : List A) (found : Option NoLayout)
    → is_some found ≡ true → FindsFirstOf A P xs found → FindsFirstOf A P (xs ++ ys) found
found_in_front A P xs ys None there h = absurd (false≢true there)
found_in_front A P xs ys (Some l) there f = first_in_front A P xs ys l f

pub found_after_item : (A : Type 0) (P : Passing A) (x : A) (xs : List A)
    (found answer : Option NoLayout)
    → is_some found ≡ false → FindsOf A P x found → FindsFirstOf A P xs answer
    → FindsFirstOf A P (x ∷ xs) answer
found_after_item A P x xs None answer empty h more = first_after A P x xs answer h more
found_after_item A P x xs (Some l) answer empty h more = absurd (false≢true (sym empty))

pub found_behind : (A : Type 0) (P : Passing A) (xs ys : List A) (found answer : Option NoLayout)
    → is_some found ≡ false → FindsFirstOf A P xs found → FindsFirstOf A P ys answer
    → FindsFirstOf A P (xs ++ ys) answer
found_behind A P xs ys None answer empty h more = first_behind A P xs ys answer h more
found_behind A P xs ys (Some l) answer empty h more = absurd (false≢true (sym empty))
