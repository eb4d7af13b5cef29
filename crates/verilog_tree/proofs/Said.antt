-- The marks of a tree say the tokens of its source.
use Rattle.std.proofs.Common.{◌≡◌, ℕ, List, [], ◌∷◌, ◌++◌, map, Option, Some, None, sym, refl, ap, ◌∙◌, append_assoc}
use Rattle.std.specs.Prelude.{codes}
use Rattle.std.specs.List.{flat_map}
use Rattle.std.proofs.lemmas.Grind.{flat_map-append}
use Rattle.std.proofs.lemmas.List.{append-nil, map-append}
use Rattle.netlist.specs.declared.net.Op2.{Op2}
use Rattle.netlist.specs.declared.net.Op2.TheVariants.{Add, Sub, Mul, And, Or, Xor, Eq, LtU, LtS, Shl, Shr, Sar}
use Rattle.verilog_text.specs.Grammar.{IsSource, binary_tokens, clock_tokens, commas, connection_tokens, item_tokens, keyword, line_tokens, literal, memory_behind, module_tokens, name, port_tokens, right_tokens, sign, source_tokens, taken_tokens, word_tokens}
use Rattle.verilog_text.specs.VForms.{Token}
use Rattle.verilog_text.specs.VTokens.{Placed}
use Rattle.verilog_tree.specs.Marks.{AreMarked, IsTreeOf, Mark, a_keyword, a_name, a_sign, binary_marks, clock_marks, commas_before, connection_marks, edge_marks, item_marks, marks_behind, module_marks, placed, port_marks, ram_marks, right_marks, show_marks, taken_marks, tree_marks, use_marks, word_marks, write_marks}
use Rattle.verilog_tree.specs.Sources.{bytes_of, connection_of, item_of, line_of, memory_if, module_of, port_of, reset_if, right_of, source_of, word_of}
use Rattle.verilog_tree.specs.declared.item.Edge.{Edge}
use Rattle.verilog_tree.specs.declared.item.Item.{Item}
use Rattle.verilog_tree.specs.declared.item.Item.TheVariants as item
use Rattle.verilog_tree.specs.declared.item.Memory.{Memory}
use Rattle.verilog_tree.specs.declared.item.Ram.{Ram}
use Rattle.verilog_tree.specs.declared.item.Reset.{Reset}
use Rattle.verilog_tree.specs.declared.item.Use.{Use}
use Rattle.verilog_tree.specs.declared.module.Module.{Module}
use Rattle.verilog_tree.specs.declared.module.Port.{Port}
use Rattle.verilog_tree.specs.declared.module.Port.TheVariants.{Input, Output, Signal}
use Rattle.verilog_tree.specs.declared.module.Tree.{Tree}
use Rattle.verilog_tree.specs.declared.right.Right.{Right}
use Rattle.verilog_tree.specs.declared.right.Right.TheVariants as right
use Rattle.verilog_tree.specs.declared.word.Word.{Word}

-- the tokens of marks
abbrev said : List Mark → List Token
said = map (λ (m : Mark). m.token)

-- tokens at their marks are the marks' tokens
marked_said : (tokens : List Placed) (marks : List Mark) → AreMarked tokens marks → map (λ (t : Placed). t.token) tokens ≡ said marks
marked_said [] [] are = refl
marked_said [] (m ∷ marks) are = absurd are
marked_said (t ∷ tokens) [] are = absurd are
marked_said (t ∷ tokens) (m ∷ marks) are =
    let more = marked_said tokens marks are.1 in
    λ i. are.0.token_is i ∷ more i

module _ {A B : Type 0} (marks : A → List Mark) (of : A → B) (tokens : B → List Token) (each : (x : A) → said (marks x) ≡ tokens (of x)) where
  each_said : (x : A) (rest : List Mark) → said (marks x ++ rest) ≡ tokens (of x) ++ said rest
  each_said x rest = map-append (λ (m : Mark). m.token) (marks x) rest ∙ ap (λ (l : List Token). l ++ said rest) (each x)

  flat_said : (xs : List A) (rest : List Mark) → said (flat_map marks xs ++ rest) ≡ flat_map tokens (map of xs) ++ said rest
  flat_said [] rest = refl
  flat_said (x ∷ xs) rest =
      ap said (append_assoc (marks x) (flat_map marks xs) rest)
      ∙ each_said x (flat_map marks xs ++ rest)
      ∙ ap (λ (l : List Token). tokens (of x) ++ l) (flat_said xs rest)
      ∙ sym (append_assoc (tokens (of x)) (flat_map tokens (map of xs)) (said rest))

  commas_said : (first : A) (others : List A) (rest : List Mark)
      → said (marks first ++ (commas_before marks others ++ rest)) ≡ commas tokens (of first) (map of others) ++ said rest
  commas_said first [] rest = each_said first rest
  commas_said first (x ∷ xs) rest =
      each_said first (commas_before marks (x ∷ xs) ++ rest)
      ∙ ap (λ (l : List Mark). tokens (of first) ++ sign (codes ",") ∷ said l) (append_assoc (marks x) (commas_before marks xs) rest)
      ∙ ap (λ (l : List Token). tokens (of first) ++ sign (codes ",") ∷ l) (commas_said x xs rest)
      ∙ sym (append_assoc (tokens (of first)) (sign (codes ",") ∷ commas tokens (of x) (map of xs)) (said rest))

port_said : (p : Port) → said (port_marks p) ≡ port_tokens (port_of p)
port_said (Signal w) = refl
port_said (Input l) = refl
port_said (Output l) = refl

binary_said : (op : Op2) (at : ℕ) (a b : Word) → said (binary_marks op at a b) ≡ binary_tokens op (bytes_of a) (bytes_of b)
binary_said Add at a b = refl
binary_said Sub at a b = refl
binary_said Mul at a b = refl
binary_said And at a b = refl
binary_said Or at a b = refl
binary_said Xor at a b = refl
binary_said Eq at a b = refl
binary_said LtU at a b = refl
binary_said LtS at a b = refl
binary_said Shl at a b = refl
binary_said Shr at a b = refl
binary_said Sar at a b = refl

right_said : (r : Right) → said (right_marks r) ≡ right_tokens (right_of r)
right_said (right.Constant w) = refl
right_said (right.Copy a) = refl
right_said (right.Join j) =
    ap (λ (l : List Token). sign (codes "{") ∷ l)
    (commas_said (λ (w : Word). a_name w ∷ []) bytes_of (λ (a : List ℕ). name a ∷ []) (λ w. refl) j.first j.others (placed j.close (sign (codes "}")) ∷ []))
right_said (right.Cut a r) = refl
right_said (right.Unary op at a) = refl
right_said (right.Binary op at a b) = binary_said op at a b
right_said (right.Choice c a b) = refl

taken_said : (r : Option Reset) (a : Word) (rest : List Mark) → said (taken_marks r a ++ rest) ≡ taken_tokens (reset_if r) (bytes_of a) ++ said rest
taken_said None a rest = refl
taken_said (Some r) a rest = refl

edge_said : (e : Edge) → said (edge_marks e) ≡ item_tokens (item_of (item.Edge e))
edge_said e =
    ap (λ (l : List Token). clock_tokens (bytes_of e.clock) ++ name (bytes_of e.register) ∷ sign (codes "<=") ∷ l)
    (taken_said e.reset e.a (a_sign (codes ";") ∷ []))

memory_said : (m : Option Memory) → said (marks_behind m) ≡ memory_behind (memory_if m)
memory_said None = refl
memory_said (Some m) = refl

-- the marks of a RAM behind its words
abbrev behind_words : Ram → List Mark
behind_words r =
    clock_marks r.clock ++ a_keyword (codes "begin")
    ∷ (write_marks r.enable r.write r.value ++ (show_marks r.register r.read r.zeros ++ a_keyword (codes "end") ∷ []))

ram_said : (r : Ram) → said (ram_marks r) ≡ item_tokens (item_of (item.Ram r))
ram_said r =
    let last : List Mark = placed r.end (keyword (codes "end")) ∷ [] in
    let words : said ((flat_map word_marks r.others ++ last) ++ behind_words r) ≡ (flat_map word_tokens (map word_of r.others) ++ said last) ++ said (behind_words r) =
    map-append (λ (m : Mark). m.token) (flat_map word_marks r.others ++ last) (behind_words r)
    ∙ ap (λ (l : List Token). l ++ said (behind_words r)) (flat_said word_marks word_of word_tokens (λ w. refl) r.others last) in
    ap (λ (l : List Token). keyword (codes "initial") ∷ keyword (codes "begin") ∷ (word_tokens (word_of r.first) ++ l)) words

use_said : (u : Use) → said (use_marks u) ≡ item_tokens (item_of (item.Use u))
use_said u =
    ap (λ (l : List Token). name (bytes_of u.used) ∷ name (bytes_of u.name) ∷ sign (codes "(") ∷ l)
    (commas_said connection_marks connection_of connection_tokens (λ c. refl) u.first u.others (placed u.close (sign (codes ")")) ∷ a_sign (codes ";") ∷ []))

item_said : (x : Item) → said (item_marks x) ≡ item_tokens (item_of x)
item_said (item.Wire l) = refl
item_said (item.Register l w memory) =
    ap (λ (t : List Token). keyword (codes "reg") ∷ (line_tokens (line_of l) ++ sign (codes "=") ∷ literal (bytes_of w) ∷ sign (codes ";") ∷ t)) (memory_said memory)
item_said (item.Assign w a) =
    ap (λ (l : List Token). keyword (codes "assign") ∷ name (bytes_of w) ∷ sign (codes "=") ∷ l)
    (each_said right_marks right_of right_tokens right_said a (a_sign (codes ";") ∷ []))
item_said (item.Edge e) = edge_said e
item_said (item.Ram r) = ram_said r
item_said (item.Use u) = use_said u

module_said : (m : Module) → said (module_marks m) ≡ module_tokens (module_of m)
module_said m =
    let items : said (flat_map item_marks m.items ++ a_keyword (codes "endmodule") ∷ []) ≡ flat_map item_tokens (map item_of m.items) ++ keyword (codes "endmodule") ∷ [] =
    flat_said item_marks item_of item_tokens item_said m.items (a_keyword (codes "endmodule") ∷ []) in
    ap (λ (l : List Token). keyword (codes "module") ∷ name (bytes_of m.name) ∷ sign (codes "(") ∷ l)
    (commas_said port_marks port_of port_tokens port_said m.first m.others
    (a_sign (codes ")") ∷ a_sign (codes ";") ∷ (flat_map item_marks m.items ++ a_keyword (codes "endmodule") ∷ []))
    ∙ ap (λ (l : List Token). commas port_tokens (port_of m.first) (map port_of m.others) ++ sign (codes ")") ∷ sign (codes ";") ∷ l) items)

tree_said : (tree : Tree) → said (tree_marks tree) ≡ source_tokens (source_of tree)
tree_said tree =
    flat_said module_marks module_of module_tokens module_said tree.earlier (module_marks tree.last)
    ∙ ap (λ (l : List Token). flat_map module_tokens (map module_of tree.earlier) ++ l) (module_said tree.last ∙ sym (append-nil (module_tokens (module_of tree.last))))
    ∙ sym (flat_map-append module_tokens (map module_of tree.earlier) (module_of tree.last ∷ []))

pub tree_is_source : (tokens : List Placed) (tree : Tree) → IsTreeOf tokens tree → IsSource tokens (source_of tree)
tree_is_source tokens tree is = marked_said tokens (tree_marks tree) is ∙ tree_said tree
