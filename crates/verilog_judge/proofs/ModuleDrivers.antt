-- The rules on the drivers of modules, in the order in which they are looked at.
use Rattle.std.proofs.Common.{◌≡◌, ℕ, suc, ◌+◌, ◌-◌, ◌<◌, ◌≤◌, Bool, true, not, ◌&&◌, ◌==◌, nat_le, List, [], ◌∷◌, ◌++◌, length, get_or, drop, map, Option, Some, None, refl, sym, ap, ◌∙◌, arith}
use Rattle.std.specs.Prelude.{min}
use Rattle.std.specs.List.{flat_map}
use Rattle.std.proofs.lemmas.Bool.{le-leb, ne_eqb}
use Rattle.std.proofs.lemmas.Bool.Decides.{Decides-eqb, same_from_decides}
use Rattle.std.proofs.lemmas.List.{append-nil, at_drop_all, at_drop_more, length-drop}
use Rattle.verilog_checks.proofs.Steps.{least_after_both, least_after_is, lesser_assoc}
use Rattle.verilog_checks.specs.Least.{least_after}
use Rattle.verilog_judge.specs.Marks.{as_operand, placed_checks, unmarked_checks}
use Rattle.verilog_rules.specs.Checks.{Check, check, least_broken, lesser}
use Rattle.verilog_rules.specs.DriverRules.{OutputAt, all_driven, all_shown, driven_checks, drivers_from, drives, is_one_of, module_driver_checks, own_names}
use Rattle.verilog_rules.specs.DriverRules.{shown_checks, shows, undriven_checks, wire_number}
use Rattle.verilog_rules.specs.declared.resolved.Operand.{Operand}
use Rattle.verilog_rules.specs.declared.resolved.ResolvedModule.{ResolvedModule}
use Rattle.verilog_tree.specs.declared.word.Line.{Line}
use Rattle.verilog_tree.specs.declared.word.Word.{Word}

lesser_comm : (a b : Option ℕ) → lesser a b ≡ lesser b a
lesser_comm None None = refl
lesser_comm None (Some b) = refl
lesser_comm (Some a) None = refl
lesser_comm (Some a) (Some b) = let h : min a b ≡ min b a = omega arith in ap (λ n. Some n) h

-- two lists of checks may be taken in either order
swap : (least : Option ℕ) (xs ys : List Check) → least_after (least_after least xs) ys ≡ least_after (least_after least ys) xs
swap least xs ys =
    least_after_is (least_after least xs) ys ∙ ap (λ l. lesser l (least_broken ys)) (least_after_is least xs)
    ∙ lesser_assoc least (least_broken xs) (least_broken ys) ∙ ap (lesser least) (lesser_comm (least_broken xs) (least_broken ys))
    ∙ sym (lesser_assoc least (least_broken ys) (least_broken xs)) ∙ ap (λ l. lesser l (least_broken xs)) (sym (least_after_is least ys))
    ∙ sym (least_after_is (least_after least ys) xs)

-- four lists of checks, the first one and the last but one of which are to come last
in_order : (least : Option ℕ) (s o d w : List Check)
    → least_after (least_after (least_after (least_after least s) o) d) w ≡ least_after least (o ++ (w ++ (d ++ s)))
in_order least s o d w =
    ap (λ l. least_after (least_after l d) w) (swap least s o)
    ∙ swap (least_after (least_after least o) s) d w
    ∙ ap (λ l. least_after l d) (swap (least_after least o) s w)
    ∙ swap (least_after (least_after least o) w) s d
    ∙ sym (least_after_both least o (w ++ (d ++ s)) ∙ least_after_both (least_after least o) w (d ++ s) ∙ least_after_both (least_after (least_after least o) w) d s)

zero_least : (n : ℕ) → nat_le 0 n ≡ true
zero_least n = le-leb 0 n (omega arith)

-- outputs by the numbers of wires
shown_is : (before : List ℕ) (outputs : List OutputAt) → driven_checks 0 before (map as_operand outputs) ≡ shown_checks before outputs
shown_is before [] = refl
shown_is before (o ∷ outputs) =
    ap (λ b. check o.at (b && not (is_one_of before o.number)) ∷ driven_checks 0 (before ++ o.number ∷ []) (map as_operand outputs)) (zero_least o.number)
    ∙ ap (λ checks. check o.at (not (is_one_of before o.number)) ∷ checks) (shown_is (before ++ o.number ∷ []) outputs)

shown_numbers : (outputs : List OutputAt) → map wire_number (map as_operand outputs) ≡ map (λ (o : OutputAt). o.number) outputs
shown_numbers [] = refl
shown_numbers (o ∷ outputs) = ap (λ ns. o.number ∷ ns) (shown_numbers outputs)

-- a module: its outputs, and then its wires
pub module_checked : (m : ResolvedModule) (shown driven : List Operand) (outputs names : List Word) (least mid next : Option ℕ)
    → shown ≡ map as_operand (flat_map shows m.drivers) → outputs ≡ map (λ (l : Line). l.name) m.outputs → driven ≡ flat_map drives m.drivers → names ≡ own_names m
    → mid ≡ least_after (least_after least (driven_checks 0 [] shown)) (undriven_checks (map wire_number shown) 0 outputs)
    → next ≡ least_after (least_after mid (driven_checks m.inputs [] driven)) (undriven_checks (map wire_number driven) m.inputs names)
    → next ≡ least_after least (module_driver_checks m)
module_checked m shown driven outputs names least mid next shown_are outputs_are driven_are names_are first second =
    let s : List Check = shown_checks [] (flat_map shows m.drivers) in
    let o : List Check = undriven_checks (all_shown m.drivers) 0 (map (λ (l : Line). l.name) m.outputs) in
    let d : List Check = driven_checks m.inputs [] (flat_map drives m.drivers) in
    let w : List Check = undriven_checks (all_driven m.drivers) m.inputs (own_names m) in
    let s_is : driven_checks 0 [] shown ≡ s = ap (driven_checks 0 []) shown_are ∙ shown_is [] (flat_map shows m.drivers) in
    let numbers : map wire_number shown ≡ all_shown m.drivers = ap (map wire_number) shown_are ∙ shown_numbers (flat_map shows m.drivers) in
    let o_is : undriven_checks (map wire_number shown) 0 outputs ≡ o =
    ap (λ ns. undriven_checks ns 0 outputs) numbers ∙ ap (undriven_checks (all_shown m.drivers) 0) outputs_are in
    let d_is : driven_checks m.inputs [] driven ≡ d = ap (driven_checks m.inputs []) driven_are in
    let w_is : undriven_checks (map wire_number driven) m.inputs names ≡ w =
    ap (λ xs. undriven_checks (map wire_number xs) m.inputs names) driven_are ∙ ap (undriven_checks (all_driven m.drivers) m.inputs) names_are in
    second
    ∙ ap (λ l. least_after (least_after l (driven_checks m.inputs [] driven)) (undriven_checks (map wire_number driven) m.inputs names))
    (first ∙ ap (λ x. least_after (least_after least x) (undriven_checks (map wire_number shown) 0 outputs)) s_is ∙ ap (least_after (least_after least s)) o_is)
    ∙ ap (λ x. least_after (least_after (least_after (least_after least s) o) x) (undriven_checks (map wire_number driven) m.inputs names)) d_is
    ∙ ap (least_after (least_after (least_after (least_after least s) o) d)) w_is
    ∙ in_order least s o d w

-- the rules on modules are those on the first one and on the others
placed_first : (m : ResolvedModule) (ms : List ResolvedModule) → drivers_from (m ∷ ms) ≡ placed_checks (length ms == 0) m ++ drivers_from ms
placed_first m [] = sym (append-nil (module_driver_checks m))
placed_first m (n ∷ ms) = ap (λ b. placed_checks b m ++ drivers_from (n ∷ ms)) (sym (ne_eqb (suc (length ms)) 0 (λ e. omega (arith, e))))

last_is : (k n : ℕ) → k < n → (k + 1 == n) ≡ (n - (k + 1) == 0)
last_is k n lt = same_from_decides {P = k + 1 ≡ n} (k + 1 == n) (n - (k + 1) == 0) (Decides-eqb (k + 1) n) (
  λ e. let zero_left : n - (k + 1) ≡ 0 = (Decides-eqb (n - (k + 1)) 0).0 e in omega (arith, zero_left, lt),
  λ e. let zero_left : n - (k + 1) ≡ 0 = omega (arith, e) in (Decides-eqb (n - (k + 1)) 0).1 zero_left,
)

-- one module more
pub placed_more : (ms : List ResolvedModule) (k : ℕ) (m d : ResolvedModule) (is_last : Bool) (least next whole : Option ℕ) → k < length ms → m ≡ get_or ms k d
    → is_last ≡ (k + 1 == length ms) → next ≡ least_after least (placed_checks is_last m) → least_after least (drivers_from (drop k ms)) ≡ whole
    → least_after next (drivers_from (drop (k + 1) ms)) ≡ whole
placed_more ms k m d is_last least next whole lt is last taken left =
    let rest : List ResolvedModule = drop (k + 1) ms in
    let here : is_last ≡ (length rest == 0) = last ∙ last_is k (length ms) lt ∙ ap (λ n. n == 0) (sym (length-drop (k + 1) ms)) in
    ap (λ l. least_after l (drivers_from rest)) (taken ∙ ap (λ b. least_after least (placed_checks b m)) here ∙ ap (λ x. least_after least (placed_checks (length rest == 0) x)) is)
    ∙ sym (least_after_both least (placed_checks (length rest == 0) (get_or ms k d)) (drivers_from rest))
    ∙ ap (least_after least) (sym (placed_first (get_or ms k d) rest))
    ∙ sym (at_drop_more (λ xs. least_after least (drivers_from xs)) ms k d lt) ∙ left

without_names : (marks : List Bool) (least : Option ℕ) → least ≡ least_after least (unmarked_checks marks [])
without_names [] least = refl
without_names (mark ∷ marks) least = refl

pub all_names : (marks : List Bool) (names : List Word) (k : ℕ) (least whole : Option ℕ) → length names ≤ k
    → least_after least (unmarked_checks (drop k marks) (drop k names)) ≡ whole → least ≡ whole
all_names marks names k least whole le left =
    without_names (drop k marks) least ∙ sym (at_drop_all (λ xs. least_after least (unmarked_checks (drop k marks) xs)) names k le) ∙ left
