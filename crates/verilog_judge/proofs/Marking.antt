-- Marks of what is driven, and the rules by them.
use Rattle.std.proofs.Common.{◌≡◌, ℕ, suc, ◌+◌, ◌-◌, ◌<◌, ◌≤◌, Bool, true, false, not, ◌&&◌, ◌||◌, ◌==◌, nat_le, inl, inr, List, [], ◌∷◌, ◌++◌, length, get_or, get_or-set_same, get_or-set_other, set, drop, map, replicate, Option, refl, sym, ap, ◌∙◌, subst, arith, length-set, append_assoc}
use Rattle.std.proofs.Math.Bool.{or-false}
use Rattle.std.proofs.lemmas.Bool.{cases_eq, cases_Bool}
use Rattle.std.proofs.lemmas.Bool.Decides.{Decides-eqb}
use Rattle.std.proofs.lemmas.List.{append-nil, get_or-drop, get_or-replicate, length-drop, length-replicate}
use Rattle.std.specs.List.{AllByRecursion}
use Rattle.verilog_checks.specs.Least.{least_after}
use Rattle.verilog_judge.specs.Marks.{AreMarks, marked, marking_checks, unmarked_checks}
use Rattle.verilog_rules.specs.Checks.{check}
use Rattle.verilog_rules.specs.DriverRules.{driven_checks, is_one_of, undriven_checks, wire_number}
use Rattle.verilog_rules.specs.declared.resolved.Operand.{Operand}
use Rattle.verilog_tree.specs.declared.word.Word.{Word}

or_true : (b : Bool) → (b || true) ≡ true
or_true true = refl
or_true false = refl

or_assoc : (a b c : Bool) → (a || (b || c)) ≡ ((a || b) || c)
or_assoc true b c = refl
or_assoc false b c = refl

-- one number more
one_of_more : (before : List ℕ) (n k : ℕ) → is_one_of (before ++ n ∷ []) k ≡ (is_one_of before k || (n == k))
one_of_more [] n k = or-false (n == k)
one_of_more (m ∷ before) n k = ap (λ b. (m == k) || b) (one_of_more before n k) ∙ or_assoc (m == k) (is_one_of before k) (n == k)

other_number : (m j : ℕ) → (m ≡ j → ⊥) → (m == j) ≡ false
other_number m j apart = elim (cases_Bool (m == j)) [ inl t ↦ absurd (apart ((Decides-eqb m j).0 t)) | inr f ↦ f ]

-- one mark more
marks_more : (marks : List Bool) (before : List ℕ) (n : ℕ) → AreMarks marks before → n < length marks → AreMarks (set marks n true) (before ++ n ∷ [])
marks_more marks before n are within = λ k below. elim (cases_eq k n) [
  | inl e ↦
      let same : (n == k) ≡ true = (Decides-eqb n k).1 (sym e) in
      ap (λ j. get_or (set marks n true) j false) e ∙ get_or-set_same marks n true false within
      ∙ sym (one_of_more before n k ∙ ap (λ b. is_one_of before k || b) same ∙ or_true (is_one_of before k))
  | inr other ↦
      let apart : (n == k) ≡ false = other_number n k (λ e. other (sym e)) in
      get_or-set_other marks n k true false other ∙ are k (rw (sym (length-set marks n true)) below)
      ∙ sym (one_of_more before n k ∙ ap (λ b. is_one_of before k || b) apart ∙ or-false (is_one_of before k))
]

-- the rules by marks are those by numbers
marking_is : (inputs : ℕ) (before : List ℕ) (marks : List Bool) (driven : List Operand) → AreMarks marks before
    → AllByRecursion (λ a. wire_number a < length marks) driven → marking_checks inputs marks driven ≡ driven_checks inputs before driven
marking_is inputs before marks [] are within = refl
marking_is inputs before marks (a ∷ driven) are within =
    let n = wire_number a in
    let rest : AllByRecursion (λ x. wire_number x < length (set marks n true)) driven =
    subst (λ size. AllByRecursion (λ x. wire_number x < size) driven) (sym (length-set marks n true)) within.1 in
    ap (λ b. check a.at (nat_le inputs n && not b) ∷ marking_checks inputs (set marks n true) driven) (are n within.0)
    ∙ ap (λ checks. check a.at (nat_le inputs n && not (is_one_of before n)) ∷ checks)
    (marking_is inputs (before ++ n ∷ []) (set marks n true) driven (marks_more marks before n are within.0) rest)

marked_length : (marks : List Bool) (driven : List Operand) → length (marked marks driven) ≡ length marks
marked_length marks [] = refl
marked_length marks (a ∷ driven) = marked_length (set marks (wire_number a) true) driven ∙ length-set marks (wire_number a) true

marked_are : (before : List ℕ) (marks : List Bool) (driven : List Operand) → AreMarks marks before
    → AllByRecursion (λ a. wire_number a < length marks) driven → AreMarks (marked marks driven) (before ++ map wire_number driven)
marked_are before marks [] are within = λ k below. are k below ∙ ap (λ l. is_one_of l k) (sym (append-nil before))
marked_are before marks (a ∷ driven) are within =
    let n = wire_number a in
    let rest : AllByRecursion (λ x. wire_number x < length (set marks n true)) driven =
    subst (λ size. AllByRecursion (λ x. wire_number x < size) driven) (sym (length-set marks n true)) within.1 in
    subst (AreMarks (marked (set marks n true) driven)) (append_assoc before (n ∷ []) (map wire_number driven))
    (marked_are (before ++ n ∷ []) (set marks n true) driven (marks_more marks before n are within.0) rest)

-- the rules on what has no mark are those on what is not among the numbers
unmarked_is : (driven : List ℕ) (k : ℕ) (marks : List Bool) (names : List Word) → length names ≤ length marks
    → ((i : ℕ) → i < length marks → get_or marks i false ≡ is_one_of driven (k + i)) → unmarked_checks marks names ≡ undriven_checks driven k names
unmarked_is driven k [] [] le are = refl
unmarked_is driven k (mark ∷ marks) [] le are = refl
unmarked_is driven k [] (name ∷ names) le are = absurd (omega (arith, le))
unmarked_is driven k (mark ∷ marks) (name ∷ names) le are =
    let here : k + 0 ≡ k = omega arith in
    ap (λ b. check name.at b ∷ unmarked_checks marks names) (are 0 (omega arith) ∙ ap (is_one_of driven) here)
    ∙ ap (λ checks. check name.at (is_one_of driven k) ∷ checks)
    (unmarked_is driven (k + 1) marks names (omega (arith, le)) (λ i below. let next : k + suc i ≡ k + 1 + i = omega arith in are (suc i) (omega (arith, below)) ∙ ap (is_one_of driven) next))

none_marked : (count : ℕ) → AreMarks (replicate count false) []
none_marked count = λ k below. get_or-replicate count k false false (rw (length-replicate count false) at below)

-- the rules on what is driven and what isn't, by marks
pub driven_checked : (inputs count : ℕ) (names : List Word) (driven : List Operand) (marks : List Bool) (least next : Option ℕ)
    → count ≡ inputs + length names → AllByRecursion (λ a. wire_number a < count) driven → marks ≡ replicate count false
    → next ≡ least_after (least_after least (marking_checks inputs marks driven)) (unmarked_checks (drop inputs (marked marks driven)) names)
    → next ≡ least_after (least_after least (driven_checks inputs [] driven)) (undriven_checks (map wire_number driven) inputs names)
driven_checked inputs count names driven marks least next size within fresh is =
    let none : List Bool = replicate count false in
    let long : length none ≡ count = length-replicate count false in
    let fits : AllByRecursion (λ a. wire_number a < length none) driven = subst (λ n. AllByRecursion (λ a. wire_number a < n) driven) (sym long) within in
    let all : List Bool = marked none driven in
    let as_long : length all ≡ count = marked_length none driven ∙ long in
    let are : AreMarks all (map wire_number driven) = marked_are [] none driven (none_marked count) fits in
    let left : length (drop inputs all) ≡ length all - inputs = length-drop inputs all in
    let own : unmarked_checks (drop inputs all) names ≡ undriven_checks (map wire_number driven) inputs names =
    unmarked_is (map wire_number driven) inputs (drop inputs all) names (omega (arith, left, as_long, size))
    (λ i below. get_or-drop inputs all i false ∙ are (inputs + i) (omega (arith, below, left))) in
    is
    ∙ ap (λ m. least_after (least_after least (marking_checks inputs m driven)) (unmarked_checks (drop inputs (marked m driven)) names)) fresh
    ∙ ap (λ checks. least_after (least_after least checks) (unmarked_checks (drop inputs all) names)) (marking_is inputs [] none driven (none_marked count) fits)
    ∙ ap (least_after (least_after least (driven_checks inputs [] driven))) own
