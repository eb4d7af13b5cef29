-- Checks taken list by list, and item by item.
use Rattle.std.proofs.Common.{◌≡◌, ℕ, ◌+◌, ◌<◌, ◌≤◌, List, [], ◌∷◌, ◌++◌, length, get_or, drop, map, Option, Some, None, refl, sym, ap, ◌∙◌, arith}
use Rattle.std.specs.List.{flat_map}
use Rattle.std.specs.Prelude.{min}
use Rattle.std.proofs.lemmas.List.{at_drop_all, at_drop_more}
use Rattle.verilog_checks.specs.Least.{least_after}
use Rattle.verilog_rules.specs.Checks.{Check, broken_at, least_broken, lesser}

pub lesser_none : (a : Option ℕ) → lesser a None ≡ a
lesser_none None = refl
lesser_none (Some a) = refl

pub lesser_assoc : (a b c : Option ℕ) → lesser (lesser a b) c ≡ lesser a (lesser b c)
lesser_assoc None b c = refl
lesser_assoc (Some a) None c = refl
lesser_assoc (Some a) (Some b) None = refl
lesser_assoc (Some a) (Some b) (Some c) = let h : min (min a b) c ≡ min a (min b c) = omega arith in ap (λ n. Some n) h

-- the least place, found check by check
pub least_after_is : (least : Option ℕ) (checks : List Check) → least_after least checks ≡ lesser least (least_broken checks)
least_after_is least [] = sym (lesser_none least)
least_after_is least (c ∷ checks) = least_after_is (lesser least (broken_at c)) checks ∙ lesser_assoc least (broken_at c) (least_broken checks)

-- of one list of checks, and then of another
pub least_after_both : (least : Option ℕ) (first others : List Check) → least_after least (first ++ others) ≡ least_after (least_after least first) others
least_after_both least [] others = refl
least_after_both least (c ∷ first) others = least_after_both (lesser least (broken_at c)) first others

-- the checks of one item more
pub one_taken : {X : Type 0} (f : X → List Check) (xs : List X) (i : ℕ) (x d : X) (least next whole : Option ℕ) → i < length xs → x ≡ get_or xs i d
    → next ≡ least_after least (f x) → least_after least (flat_map f (drop i xs)) ≡ whole → least_after next (flat_map f (drop (i + 1) xs)) ≡ whole
one_taken f xs i x d least next whole lt is taken left =
    ap (λ l. least_after l (flat_map f (drop (i + 1) xs))) (taken ∙ ap (λ y. least_after least (f y)) is)
    ∙ sym (least_after_both least (f (get_or xs i d)) (flat_map f (drop (i + 1) xs)))
    ∙ sym (at_drop_more (λ ys. least_after least (flat_map f ys)) xs i d lt) ∙ left

-- those of all items
pub all_taken : {X : Type 0} (f : X → List Check) (xs : List X) (i : ℕ) (least whole : Option ℕ) → length xs ≤ i → least_after least (flat_map f (drop i xs)) ≡ whole → least ≡ whole
all_taken f xs i least whole le left = sym (at_drop_all (λ ys. least_after least (flat_map f ys)) xs i le) ∙ left

-- the check of one item more
pub check_taken : {X : Type 0} (f : X → Check) (xs : List X) (i : ℕ) (x d : X) (least next whole : Option ℕ) → i < length xs → x ≡ get_or xs i d
    → next ≡ lesser least (broken_at (f x)) → least_after least (map f (drop i xs)) ≡ whole → least_after next (map f (drop (i + 1) xs)) ≡ whole
check_taken f xs i x d least next whole lt is taken left =
    ap (λ l. least_after l (map f (drop (i + 1) xs))) (taken ∙ ap (λ y. lesser least (broken_at (f y))) is)
    ∙ sym (at_drop_more (λ ys. least_after least (map f ys)) xs i d lt) ∙ left

-- those of all items
pub checks_taken : {X : Type 0} (f : X → Check) (xs : List X) (i : ℕ) (least whole : Option ℕ) → length xs ≤ i → least_after least (map f (drop i xs)) ≡ whole → least ≡ whole
checks_taken f xs i least whole le left = sym (at_drop_all (λ ys. least_after least (map f ys)) xs i le) ∙ left
