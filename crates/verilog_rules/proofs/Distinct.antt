-- Names that are declared once, however they are listed.
use Rattle.std.proofs.Common.{◌≡◌, ℕ, ◌+◌, ◌≤◌, Bool, true, false, not, cond, ◌||◌, List, [], ◌∷◌, ◌++◌, map, Some, None, refl, sym, ap, ◌∙◌, subst, append_assoc, arith}
use Rattle.std.specs.List.{flat_map}
use Rattle.std.specs.Str.{bytes_eq}
use Rattle.std.proofs.lemmas.Bool.{false≢true, not-true}
use Rattle.std.proofs.lemmas.List.{map-append}
use Rattle.std.proofs.lemmas.Slice.Eq.{bytes_eq-Decides}
use Rattle.name_tables.specs.Names.{AreDistinct, is_among}
use Rattle.verilog_text.specs.Declared.{declared_by, declared_input, name_of, names_of, other_names}
use Rattle.verilog_text.specs.Declared.{inputs_of as said_inputs, outputs_of as said_outputs, signals_of as said_signals}
use Rattle.verilog_text.specs.Source.{Line as LineItem}
use Rattle.verilog_text.proofs.Places.{among}
use Rattle.verilog_tree.specs.Sources.{bytes_of, item_of, module_of, port_of}
use Rattle.verilog_tree.specs.declared.item.Item.{Item}
use Rattle.verilog_tree.specs.declared.item.Item.TheVariants as item
use Rattle.verilog_tree.specs.declared.module.Module.{Module}
use Rattle.verilog_tree.specs.declared.module.Port.{Port}
use Rattle.verilog_tree.specs.declared.module.Port.TheVariants.{Input, Output, Signal}
use Rattle.verilog_tree.specs.declared.word.Word.{Word}
use Rattle.verilog_rules.specs.Declarations.{declared_words, port_word, ports_in, words_by}
use Rattle.verilog_rules.specs.NameRules.{once_checks, texts}
use Rattle.verilog_rules.proofs.Holding.{AllTrue}

abbrev pub one_if : Bool → ℕ
one_if b = cond b 1 0

-- how often a name stands among names
abbrev pub count : List ℕ → List (List ℕ) → ℕ
count name [] = 0
count name (n ∷ ns) = one_if (bytes_eq name n) + count name ns

pub count_both : (name : List ℕ) (xs ys : List (List ℕ)) → count name (xs ++ ys) ≡ count name xs + count name ys
count_both name [] ys = omega arith
count_both name (x ∷ xs) ys = let more : count name (xs ++ ys) ≡ count name xs + count name ys = count_both name xs ys in omega arith

among_counts : (name : List ℕ) (xs : List (List ℕ)) → is_among xs name ≡ true → 1 ≤ count name xs
among_counts name [] is = absurd (false≢true is)
among_counts name (x ∷ xs) is = by_case (bytes_eq name x) (sym (among x xs name) ∙ is) (among_counts name xs)
  where
    by_case : (b : Bool) → (b || is_among xs name) ≡ true → (is_among xs name ≡ true → 1 ≤ count name xs) → 1 ≤ one_if b + count name xs
    by_case true is later = omega arith
    by_case false is later = let more : 1 ≤ count name xs = later is in omega arith

absent_counts : (name : List ℕ) (xs : List (List ℕ)) → is_among xs name ≡ false → count name xs ≡ 0
absent_counts name [] is = refl
absent_counts name (x ∷ xs) is = by_case (bytes_eq name x) (sym (among x xs name) ∙ is) (absent_counts name xs)
  where
    by_case : (b : Bool) → (b || is_among xs name) ≡ false → (is_among xs name ≡ false → count name xs ≡ 0) → one_if b + count name xs ≡ 0
    by_case true is later = absurd (false≢true (sym is))
    by_case false is later = let more : count name xs ≡ 0 = later is in omega arith

uncounted : (name : List ℕ) (xs : List (List ℕ)) → count name xs ≡ 0 → is_among xs name ≡ false
uncounted name xs none = by_case (is_among xs name) refl
  where
    by_case : (b : Bool) → is_among xs name ≡ b → b ≡ false
    by_case false is = refl
    by_case true is = let some : 1 ≤ count name xs = among_counts name xs is in absurd (omega arith)

self_counts : (x : List ℕ) → one_if (bytes_eq x x) ≡ 1
self_counts x = ap one_if ((bytes_eq-Decides x x).1 refl)

-- no name stands twice
abbrev pub Once : List (List ℕ) → Type 0
Once xs = (name : List ℕ) → count name xs ≤ 1

pub distinct_once : (xs : List (List ℕ)) → Once xs → AreDistinct xs
distinct_once [] once = tt
distinct_once (x ∷ xs) once = (uncounted x xs (none x xs (self_counts x) (once x)), distinct_once xs (λ name. fewer name (once name)))
  where
    none : (x : List ℕ) (xs : List (List ℕ)) → one_if (bytes_eq x x) ≡ 1 → one_if (bytes_eq x x) + count x xs ≤ 1 → count x xs ≡ 0
    none x xs self few = omega arith

    fewer : (name : List ℕ) → one_if (bytes_eq name x) + count name xs ≤ 1 → count name xs ≤ 1
    fewer name few = omega arith

pub once_distinct : (xs : List (List ℕ)) → AreDistinct xs → Once xs
once_distinct [] distinct = λ name. omega arith
once_distinct (x ∷ xs) distinct = λ name. by_case name (bytes_eq name x) refl (once_distinct xs distinct.1 name)
  where
    by_case : (name : List ℕ) (b : Bool) → bytes_eq name x ≡ b → count name xs ≤ 1 → one_if b + count name xs ≤ 1
    by_case name true is few =
        let none : count name xs ≡ 0 = subst (λ (n : List ℕ). count n xs ≡ 0) (sym ((bytes_eq-Decides name x).0 is)) (absent_counts x xs distinct.0) in omega arith
    by_case name false is few = omega arith

pub names_once : (before : List (List ℕ)) (words : List Word) → Once before → AllTrue (once_checks before words) → Once (before ++ texts words)
names_once before [] once all = λ name. let none : count name (before ++ []) ≡ count name before + 0 = count_both name before [] in let few : count name before ≤ 1 = once name in omega arith
names_once before (w ∷ words) once all =
    let absent : is_among before (bytes_of w) ≡ false = not-true (is_among before (bytes_of w)) all.0 in
    let longer : Once (before ++ bytes_of w ∷ []) = λ name. one_more name (bytes_eq name (bytes_of w)) refl (once name) absent in
    subst Once (append_assoc before (bytes_of w ∷ []) (texts words)) (names_once (before ++ bytes_of w ∷ []) words longer all.1)
  where
    one_more : (name : List ℕ) (b : Bool) → bytes_eq name (bytes_of w) ≡ b → count name before ≤ 1 → is_among before (bytes_of w) ≡ false → count name (before ++ bytes_of w ∷ []) ≤ 1
    one_more name b is few absent =
        let sum : count name (before ++ bytes_of w ∷ []) ≡ count name before + (one_if (bytes_eq name (bytes_of w)) + 0) = count_both name before (bytes_of w ∷ []) in
        at b is sum few absent
      where
        at : (b : Bool) → bytes_eq name (bytes_of w) ≡ b → count name (before ++ bytes_of w ∷ []) ≡ count name before + (one_if (bytes_eq name (bytes_of w)) + 0)
            → count name before ≤ 1 → is_among before (bytes_of w) ≡ false → count name (before ++ bytes_of w ∷ []) ≤ 1
        at true same sum few absent =
            let none : count name before ≡ 0 = subst (λ (n : List ℕ). count n before ≡ 0) (sym ((bytes_eq-Decides name (bytes_of w)).0 same)) (absent_counts (bytes_of w) before absent) in
            let one : one_if (bytes_eq name (bytes_of w)) ≡ 1 = ap one_if same in omega arith
        at false other sum few absent =
            let zeroth : one_if (bytes_eq name (bytes_of w)) ≡ 0 = ap one_if other in omega arith

pub once_names : (before : List (List ℕ)) (words : List Word) → Once (before ++ texts words) → AllTrue (once_checks before words)
once_names before [] once = tt
once_names before (w ∷ words) once =
    let here : count (bytes_of w) (before ++ texts (w ∷ words)) ≤ 1 = once (bytes_of w) in
    let sum : count (bytes_of w) (before ++ texts (w ∷ words)) ≡ count (bytes_of w) before + (one_if (bytes_eq (bytes_of w) (bytes_of w)) + count (bytes_of w) (texts words)) =
    count_both (bytes_of w) before (texts (w ∷ words)) in
    let self : one_if (bytes_eq (bytes_of w) (bytes_of w)) ≡ 1 = self_counts (bytes_of w) in
    let none : count (bytes_of w) before ≡ 0 = omega arith in (
      ap not (uncounted (bytes_of w) before none),
      once_names (before ++ bytes_of w ∷ []) words (subst Once (sym (append_assoc before (bytes_of w ∷ []) (texts words))) once),
    )

-- A MODULE'S NAMES

said_line_names : List LineItem → List (List ℕ)
said_line_names ls = map (λ (l : LineItem). l.name) ls

port_counts : (name : List ℕ) (ports : List Port) → count name (texts (map port_word ports))
    ≡ count name (said_signals (map port_of ports)) + (count name (map (λ (l : LineItem). l.name) (said_outputs (map port_of ports)))
    + count name (map name_of (map declared_input (said_inputs (map port_of ports)))))
port_counts name [] = refl
port_counts name (Signal s ∷ ports) =
    let more : count name (texts (map port_word ports))
    ≡ count name (said_signals (map port_of ports)) + (count name (map (λ (l : LineItem). l.name) (said_outputs (map port_of ports)))
    + count name (map name_of (map declared_input (said_inputs (map port_of ports))))) = port_counts name ports in omega arith
port_counts name (Input l ∷ ports) =
    let more : count name (texts (map port_word ports))
    ≡ count name (said_signals (map port_of ports)) + (count name (map (λ (l : LineItem). l.name) (said_outputs (map port_of ports)))
    + count name (map name_of (map declared_input (said_inputs (map port_of ports))))) = port_counts name ports in omega arith
port_counts name (Output l ∷ ports) =
    let more : count name (texts (map port_word ports))
    ≡ count name (said_signals (map port_of ports)) + (count name (map (λ (l : LineItem). l.name) (said_outputs (map port_of ports)))
    + count name (map name_of (map declared_input (said_inputs (map port_of ports))))) = port_counts name ports in omega arith

-- of one item
one_item : (name : List ℕ) (it : Item) → count name (texts (words_by it)) ≡ count name (map name_of (declared_by (item_of it))) + count name (other_names (item_of it))
one_item name (item.Wire l) = omega arith
one_item name (item.Register l literal None) = omega arith
one_item name (item.Register l literal (Some memory)) = omega arith
one_item name (item.Assign w r) = refl
one_item name (item.Edge edge) = refl
one_item name (item.Ram ram) = refl
one_item name (item.Use u) = omega arith

item_counts : (name : List ℕ) (items : List Item) → count name (texts (flat_map words_by items))
    ≡ count name (map name_of (flat_map declared_by (map item_of items))) + count name (flat_map other_names (map item_of items))
item_counts name [] = refl
item_counts name (it ∷ items) =
    let more : count name (texts (flat_map words_by items))
    ≡ count name (map name_of (flat_map declared_by (map item_of items))) + count name (flat_map other_names (map item_of items)) = item_counts name items in
    let words : count name (texts (words_by it ++ flat_map words_by items)) ≡ count name (texts (words_by it)) + count name (texts (flat_map words_by items)) =
    ap (count name) (map-append bytes_of (words_by it) (flat_map words_by items)) ∙ count_both name (texts (words_by it)) (texts (flat_map words_by items)) in
    let wires : count name (map name_of (declared_by (item_of it) ++ flat_map declared_by (map item_of items)))
    ≡ count name (map name_of (declared_by (item_of it))) + count name (map name_of (flat_map declared_by (map item_of items))) =
    ap (count name) (map-append name_of (declared_by (item_of it)) (flat_map declared_by (map item_of items)))
    ∙ count_both name (map name_of (declared_by (item_of it))) (map name_of (flat_map declared_by (map item_of items))) in
    let others : count name (other_names (item_of it) ++ flat_map other_names (map item_of items)) ≡ count name (other_names (item_of it)) + count name (flat_map other_names (map item_of items)) =
    count_both name (other_names (item_of it)) (flat_map other_names (map item_of items)) in
    let here : count name (texts (words_by it)) ≡ count name (map name_of (declared_by (item_of it))) + count name (other_names (item_of it)) = one_item name it in
    omega arith

pub declared_counts : (name : List ℕ) (m : Module) → count name (names_of (module_of m)) ≡ count name (texts (declared_words m))
declared_counts name m =
    let ports = ports_in m in
    let words : count name (texts (map port_word ports ++ flat_map words_by m.items)) ≡ count name (texts (map port_word ports)) + count name (texts (flat_map words_by m.items)) =
    ap (count name) (map-append bytes_of (map port_word ports) (flat_map words_by m.items)) ∙ count_both name (texts (map port_word ports)) (texts (flat_map words_by m.items)) in
    let by_ports = port_counts name ports in
    let by_items = item_counts name m.items in
    let signals = said_signals (map port_of ports) in
    let outputs = map (λ (l : LineItem). l.name) (said_outputs (map port_of ports)) in
    let inputs = map declared_input (said_inputs (map port_of ports)) in
    let declared = flat_map declared_by (map item_of m.items) in
    let others = flat_map other_names (map item_of m.items) in
    let wires : count name (map name_of (inputs ++ declared)) ≡ count name (map name_of inputs) + count name (map name_of declared) =
    ap (count name) (map-append name_of inputs declared) ∙ count_both name (map name_of inputs) (map name_of declared) in
    let first : count name (signals ++ (outputs ++ (map name_of (inputs ++ declared) ++ others))) ≡ count name signals + count name (outputs ++ (map name_of (inputs ++ declared) ++ others)) =
    count_both name signals (outputs ++ (map name_of (inputs ++ declared) ++ others)) in
    let second : count name (outputs ++ (map name_of (inputs ++ declared) ++ others)) ≡ count name outputs + count name (map name_of (inputs ++ declared) ++ others) =
    count_both name outputs (map name_of (inputs ++ declared) ++ others) in
    let third : count name (map name_of (inputs ++ declared) ++ others) ≡ count name (map name_of (inputs ++ declared)) + count name others = count_both name (map name_of (inputs ++ declared)) others in
    omega arith

pub names_distinct : (m : Module) → AllTrue (once_checks [] (declared_words m)) → AreDistinct (names_of (module_of m))
names_distinct m all =
    distinct_once (names_of (module_of m)) (λ name. subst (λ (n : ℕ). n ≤ 1) (sym (declared_counts name m)) (names_once [] (declared_words m) (λ n. omega arith) all name))

pub distinct_names : (m : Module) → AreDistinct (names_of (module_of m)) → AllTrue (once_checks [] (declared_words m))
distinct_names m distinct =
    once_names [] (declared_words m) (λ name. subst (λ (n : ℕ). n ≤ 1) (declared_counts name m) (once_distinct (names_of (module_of m)) distinct name))
