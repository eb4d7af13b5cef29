-- The numbers of a cut are in the order of the text, since they were tokens.
use Rattle.std.proofs.Common.{◌≡◌, ℕ, ◌+◌, ◌≤◌, List, [], ◌∷◌, ◌++◌, length, Option, Some, None, IfSome, codes, arith}
use Rattle.std.specs.List.{AllByRecursion, flat_map}
use Rattle.verilog_judge.proofs.Limited.{ItemOrdered, ModuleOrdered}
use Rattle.verilog_rules.specs.Declarations.{modules_of}
use Rattle.verilog_rules.proofs.Parts.{all_both, all_front}
use Rattle.verilog_text.specs.VTokens.{Placed, TokensFrom}
use Rattle.verilog_text.specs.VTokens.TokensFrom.{ends, next}
use Rattle.verilog_tree.specs.Marks.{AreMarked, IsTreeOf, Mark, a_keyword, a_sign, commas_before, item_marks, module_marks, port_marks, tree_marks}
use Rattle.verilog_tree.specs.declared.item.Item.{Item}
use Rattle.verilog_tree.specs.declared.item.Item.TheVariants as item
use Rattle.verilog_tree.specs.declared.module.Module.{Module}
use Rattle.verilog_tree.specs.declared.module.Tree.{Tree}
use Rattle.verilog_tree.specs.declared.right.Right.TheVariants as right

-- the places that are kept of these marks are no lesser than this one
abbrev IsLater : ℕ → Mark → Type 0
IsLater at m = IfSome m.at (λ b. at ≤ b)

abbrev Later : ℕ → List Mark → Type 0
Later at marks = AllByRecursion (IsLater at) marks

-- the places that are kept rise
abbrev Rising : List Mark → Type 0
Rising [] = Unit {0}
Rising (m ∷ marks) = IfSome m.at (λ at. Later at marks) × Rising marks

are_later : {from : ℕ} {text : List ℕ} {tokens : List Placed} → TokensFrom from text tokens → (at : ℕ) → at ≤ from → (marks : List Mark) → AreMarked tokens marks → Later at marks
are_later (ends from rest last) at le [] are = tt
are_later (ends from rest last) at le (m ∷ marks) are = absurd are
are_later (next from gap bytes rest sort tokens gaps longest splits) at le [] are = absurd are
are_later (next from gap bytes rest sort tokens gaps longest splits) at le (m ∷ marks) are =
    (later_mark m.at are.0.place_is, are_later splits at (omega (arith, le)) marks are.1)
  where
    later_mark : (o : Option ℕ) → IfSome o (λ b. from + length gap ≡ b) → IfSome o (λ b. at ≤ b)
    later_mark None is = tt
    later_mark (Some b) is = omega (arith, le, is)

are_rising : {from : ℕ} {text : List ℕ} {tokens : List Placed} → TokensFrom from text tokens → (marks : List Mark) → AreMarked tokens marks → Rising marks
are_rising (ends from rest last) [] are = tt
are_rising (ends from rest last) (m ∷ marks) are = absurd are
are_rising (next from gap bytes rest sort tokens gaps longest splits) [] are = absurd are
are_rising (next from gap bytes rest sort tokens gaps longest splits) (m ∷ marks) are = (behind m.at are.0.place_is, are_rising splits marks are.1)
  where
    behind : (o : Option ℕ) → IfSome o (λ b. from + length gap ≡ b) → IfSome o (λ b. Later b marks)
    behind None is = tt
    behind (Some b) is = are_later splits b (omega (arith, is)) marks are.1

rising_front : (xs ys : List Mark) → Rising (xs ++ ys) → Rising xs
rising_front [] ys all = tt
rising_front (m ∷ xs) ys all = (front m.at all.0, rising_front xs ys all.1)
  where
    front : (o : Option ℕ) → IfSome o (λ b. Later b (xs ++ ys)) → IfSome o (λ b. Later b xs)
    front None later = tt
    front (Some b) later = all_front (IsLater b) xs ys later

rising_back : (xs ys : List Mark) → Rising (xs ++ ys) → Rising ys
rising_back [] ys all = all
rising_back (m ∷ xs) ys all = rising_back xs ys all.1

item_ordered : (it : Item) → Rising (item_marks it) → ItemOrdered it
item_ordered (item.Wire l) all = tt
item_ordered (item.Register l literal memory) all = tt
item_ordered (item.Assign name (right.Constant literal)) all = tt
item_ordered (item.Assign name (right.Copy a)) all = tt
item_ordered (item.Assign name (right.Join parts)) all = tt
item_ordered (item.Assign name (right.Cut a range)) all = all.1.1.1.1.1.0.1.0
item_ordered (item.Assign name (right.Unary op at a)) all = tt
item_ordered (item.Assign name (right.Binary op at a b)) all = tt
item_ordered (item.Assign name (right.Choice c a b)) all = tt
item_ordered (item.Edge edge) all = tt
item_ordered (item.Ram ram) all = tt
item_ordered (item.Use u) all = tt

items_ordered : (items : List Item) → Rising (flat_map item_marks items) → AllByRecursion ItemOrdered items
items_ordered [] all = tt
items_ordered (it ∷ items) all =
    (item_ordered it (rising_front (item_marks it) (flat_map item_marks items) all), items_ordered items (rising_back (item_marks it) (flat_map item_marks items) all))

abbrev after_ports : Module → List Mark
after_ports m = a_sign (codes ")") ∷ a_sign (codes ";") ∷ (flat_map item_marks m.items ++ a_keyword (codes "endmodule") ∷ [])

module_ordered : (m : Module) → Rising (module_marks m) → ModuleOrdered m
module_ordered m all =
    let ports = rising_back (port_marks m.first) (commas_before port_marks m.others ++ after_ports m) all.1.1.1 in
    let others = rising_back (commas_before port_marks m.others) (after_ports m) ports in
    items_ordered m.items (rising_front (flat_map item_marks m.items) (a_keyword (codes "endmodule") ∷ []) others.1.1)

modules_ordered : (ms : List Module) → Rising (flat_map module_marks ms) → AllByRecursion ModuleOrdered ms
modules_ordered [] all = tt
modules_ordered (m ∷ ms) all =
    (module_ordered m (rising_front (module_marks m) (flat_map module_marks ms) all), modules_ordered ms (rising_back (module_marks m) (flat_map module_marks ms) all))

-- a tree that was read from the tokens of a text
pub tree_ordered : (text : List ℕ) (tokens : List Placed) (tree : Tree) → TokensFrom 0 text tokens → IsTreeOf tokens tree → AllByRecursion ModuleOrdered (modules_of tree)
tree_ordered text tokens tree splits reads =
    let all : Rising (tree_marks tree) = are_rising splits (tree_marks tree) reads in
    all_both ModuleOrdered tree.earlier (tree.last ∷ [])
    (modules_ordered tree.earlier (rising_front (flat_map module_marks tree.earlier) (module_marks tree.last) all))
    (module_ordered tree.last (rising_back (flat_map module_marks tree.earlier) (module_marks tree.last) all), tt)
