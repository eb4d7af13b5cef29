-- The literals of a tree have their form, since they were tokens.
use Rattle.std.proofs.Common.{◌≡◌, ℕ, List, [], ◌∷◌, ◌++◌, Option, Some, None, refl, subst}
use Rattle.std.specs.Prelude.{codes, slice_get}
use Rattle.std.specs.List.{AllByRecursion, flat_map}
use Rattle.verilog_text.specs.VForms.{HasForm, Token}
use Rattle.verilog_text.specs.VTokens.{Placed, TokensFrom}
use Rattle.verilog_text.specs.VTokens.TokensFrom.{ends, next}
use Rattle.verilog_tree.specs.Marks.{AreMarked, IsTreeOf, Mark, a_keyword, a_literal, a_sign, clock_marks, commas_before, initial_marks, item_marks, module_marks, port_marks, show_marks, tree_marks, word_marks, write_marks}
use Rattle.verilog_tree.specs.declared.item.FirstWord.{FirstWord}
use Rattle.verilog_tree.specs.declared.item.Ram.{Ram}
use Rattle.verilog_tree.specs.declared.item.Reset.{Reset}
use Rattle.verilog_tree.specs.declared.item.Item.{Item}
use Rattle.verilog_tree.specs.declared.item.Item.TheVariants as item
use Rattle.verilog_tree.specs.declared.module.Module.{Module}
use Rattle.verilog_tree.specs.declared.module.Tree.{Tree}
use Rattle.verilog_tree.specs.declared.right.Right.TheVariants as right
use Rattle.verilog_tree.specs.declared.word.Word.{Word}
use Rattle.verilog_tree.specs.Sources.{bytes_of}
use Rattle.verilog_text.specs.VForms.{IsLiteral}
use Rattle.verilog_rules.specs.Declarations.{modules_of}
use Rattle.verilog_rules.proofs.Items.{ItemFormed}
use Rattle.verilog_rules.proofs.Registers.{ResetFormed}
use Rattle.verilog_rules.proofs.Parts.{all_back, all_both, all_front}
use Rattle.verilog_rules.proofs.Wires.{each_at}

abbrev TokenFormed : Placed → Type 0
TokenFormed t = HasForm t.token.sort t.token.bytes

abbrev MarkFormed : Mark → Type 0
MarkFormed m = HasForm m.token.sort m.token.bytes

tokens_formed : (at : ℕ) (text : List ℕ) (tokens : List Placed) → TokensFrom at text tokens → AllByRecursion TokenFormed tokens
tokens_formed at text tokens (ends at' rest gap) = tt
tokens_formed at text tokens (next at' gap bytes rest sort more is_gap longest later) = (longest.form, tokens_formed _ _ _ later)

marks_formed : (tokens : List Placed) (marks : List Mark) → AreMarked tokens marks → AllByRecursion TokenFormed tokens → AllByRecursion MarkFormed marks
marks_formed [] [] are formed = tt
marks_formed [] (m ∷ marks) are formed = absurd are
marks_formed (t ∷ tokens) [] are formed = absurd are
marks_formed (t ∷ tokens) (m ∷ marks) are formed =
    (subst (λ (x : Token). HasForm x.sort x.bytes) are.0.token_is formed.0, marks_formed tokens marks are.1 formed.1)

literal_at : (marks : List Mark) (n : ℕ) (w : Word) → AllByRecursion MarkFormed marks → slice_get marks n ≡ Some (a_literal w) → IsLiteral (bytes_of w)
literal_at marks n w all found = each_at MarkFormed marks n (a_literal w) all found

words_formed : (words : List FirstWord) → AllByRecursion MarkFormed (flat_map word_marks words) → AllByRecursion (λ (word : FirstWord). IsLiteral (bytes_of word.literal)) words
words_formed [] all = tt
words_formed (word ∷ words) all = (
  literal_at (word_marks word) 5 word.literal (all_front MarkFormed (word_marks word) (flat_map word_marks words) all) refl,
  words_formed words (all_back MarkFormed (word_marks word) (flat_map word_marks words) all),
)

-- the marks of a RAM behind its words
abbrev drop_first : Ram → List Mark
drop_first r =
    clock_marks r.clock ++ a_keyword (codes "begin")
    ∷ (write_marks r.enable r.write r.value
    ++ (show_marks r.register r.read r.zeros ++ a_keyword (codes "end") ∷ []))

item_formed : (it : Item) → AllByRecursion MarkFormed (item_marks it) → ItemFormed it
item_formed (item.Wire l) all = tt
item_formed (item.Register l literal memory) all = literal_at (item_marks (item.Register l literal memory)) 8 literal all refl
item_formed (item.Assign name (right.Constant literal)) all = literal_at (item_marks (item.Assign name (right.Constant literal))) 3 literal all refl
item_formed (item.Assign name (right.Copy a)) all = tt
item_formed (item.Assign name (right.Join parts)) all = tt
item_formed (item.Assign name (right.Cut a range)) all = tt
item_formed (item.Assign name (right.Unary op sign a)) all = tt
item_formed (item.Assign name (right.Binary op sign a b)) all = tt
item_formed (item.Assign name (right.Choice c a b)) all = tt
item_formed (item.Edge edge) all = by_case edge.reset refl
  where
    by_case : (o : Option Reset) → edge.reset ≡ o → ResetFormed o
    by_case None is = tt
    by_case (Some r) is = literal_at (item_marks (item.Edge edge)) 10 r.literal all (rw is refl)
item_formed (item.Ram ram) all =
    let first : List Mark = initial_marks ram.first ram.others ram.end in
    let rest : List Mark = drop_first ram in
    let front : AllByRecursion MarkFormed first = all_front MarkFormed first rest all in
    let back : AllByRecursion MarkFormed rest = all_back MarkFormed first rest all in
    record {
      words = (
        literal_at first 7 ram.first.literal front refl,
        words_formed ram.others (all_front MarkFormed (flat_map word_marks ram.others) _ front.1.1.1.1.1.1.1.1.1),
      );
      write = literal_at rest 14 ram.write.count back refl;
      read = literal_at rest 29 ram.read.count back refl;
      zeros = literal_at rest 37 ram.zeros back refl;
    }
item_formed (item.Use u) all = tt

items_formed : (items : List Item) → AllByRecursion MarkFormed (flat_map item_marks items) → AllByRecursion ItemFormed items
items_formed [] all = tt
items_formed (it ∷ items) all =
    (item_formed it (all_front MarkFormed (item_marks it) (flat_map item_marks items) all), items_formed items (all_back MarkFormed (item_marks it) (flat_map item_marks items) all))

abbrev pub ModuleFormed : Module → Type 0
ModuleFormed m = AllByRecursion ItemFormed m.items

abbrev after_ports : Module → List Mark
after_ports m = a_sign (codes ")") ∷ a_sign (codes ";") ∷ (flat_map item_marks m.items ++ a_keyword (codes "endmodule") ∷ [])

abbrev after_first : Module → List Mark
after_first m = commas_before port_marks m.others ++ after_ports m

module_formed : (m : Module) → AllByRecursion MarkFormed (module_marks m) → ModuleFormed m
module_formed m all =
    let ports = all_back MarkFormed (port_marks m.first) (after_first m) all.1.1.1 in
    let others = all_back MarkFormed (commas_before port_marks m.others) (after_ports m) ports in
    items_formed m.items (all_front MarkFormed (flat_map item_marks m.items) (a_keyword (codes "endmodule") ∷ []) others.1.1)

modules_formed : (ms : List Module) → AllByRecursion MarkFormed (flat_map module_marks ms) → AllByRecursion ModuleFormed ms
modules_formed [] all = tt
modules_formed (m ∷ ms) all =
    (module_formed m (all_front MarkFormed (module_marks m) (flat_map module_marks ms) all), modules_formed ms (all_back MarkFormed (module_marks m) (flat_map module_marks ms) all))

-- a tree that was read from the tokens of a text
pub tree_formed : (text : List ℕ) (tokens : List Placed) (tree : Tree) → TokensFrom 0 text tokens → IsTreeOf tokens tree → AllByRecursion ModuleFormed (modules_of tree)
tree_formed text tokens tree splits reads =
    let all = marks_formed tokens (tree_marks tree) reads (tokens_formed 0 text tokens splits) in
    all_both ModuleFormed tree.earlier (tree.last ∷ [])
    (modules_formed tree.earlier (all_front MarkFormed (flat_map module_marks tree.earlier) (module_marks tree.last) all))
    (module_formed tree.last (all_back MarkFormed (flat_map module_marks tree.earlier) (module_marks tree.last) all), tt)
