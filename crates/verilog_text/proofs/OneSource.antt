-- Tokens are those of at most one source.
use Rattle.std.proofs.Common.{◌≡◌, ℕ, Bool, true, not, ◌&&◌, List, [], ◌∷◌, ◌++◌, drop, Option, Some, None, sym, refl, ap, ◌∙◌, append_assoc, arith}
use Rattle.std.specs.Prelude.{codes, if◌then◌else◌}
use Rattle.std.specs.List.{flat_map}
use Rattle.std.proofs.lemmas.List.{append-nil}
use Rattle.verilog_text.specs.Grammar.{clock_tokens, commas, connection_tokens, item_tokens, keyword, memory_behind, module_tokens, port_tokens, ram_tokens, right_tokens, show_tokens, sign, source_tokens, taken_tokens, word_tokens, write_tokens}
use Rattle.verilog_text.specs.Source.{Edge, Item, Memory, ModuleItem, RamItem, Right, Source, UseItem, all_of, modules_of}
use Rattle.verilog_text.specs.Source.Item.{assign_item, edge_item, ram_item, register_item, use_item, wire_item}
use Rattle.verilog_text.specs.VForms.{Token}
use Rattle.verilog_text.specs.VForms.Sort.{name as a_name}
use Rattle.verilog_text.proofs.Decoding.{Decodes, anything, bytes_at, commas_decode, differ, is_at, list_decodes}
use Rattle.verilog_text.proofs.OneRight.{connection_decodes, ends_item, port_decodes, right_decodes, same_lines, same_range, sort_is, taken_decodes, word_decodes}

-- no memory is declared here
abbrev no_memory : List Token → Bool
no_memory l = not (is_at 0 (codes "reg") l && is_at 7 (codes "[") l)

memory_decodes : (v w : Option Memory) (r s : List Token) → no_memory r ≡ true → no_memory s ≡ true → memory_behind v ++ r ≡ memory_behind w ++ s → (v ≡ w) × (r ≡ s)
memory_decodes None None r s r_fine s_fine same = (refl, same)
memory_decodes None (Some y) r s r_fine s_fine same = absurd (differ no_memory same r_fine refl)
memory_decodes (Some x) None r s r_fine s_fine same = absurd (differ no_memory (sym same) s_fine refl)
memory_decodes (Some x) (Some y) r s r_fine s_fine same =
    let widths : x.width ≡ y.width = same_range x.width y.width (ap (bytes_at 2) same) (ap (bytes_at 4) same) in
    let names : x.name ≡ y.name = ap (bytes_at 6) same in
    let places : x.places ≡ y.places = same_range x.places y.places (ap (bytes_at 8) same) (ap (bytes_at 10) same) in
    ((λ i. Some (record { width = widths i; name = names i; places = places i })), ap (drop 13) same)

-- the tokens of a RAM behind its words
abbrev behind_words : RamItem → List Token
behind_words r =
    clock_tokens r.clock ++ keyword (codes "begin")
    ∷ (write_tokens r.enable r.write r.value ++ (show_tokens r.register r.read r.zeros ++ keyword (codes "end") ∷ []))

ram_split : (a : RamItem) (r : List Token) → drop 2 (ram_tokens a ++ r) ≡ flat_map word_tokens (all_of a.words) ++ keyword (codes "end") ∷ (behind_words a ++ r)
ram_split a r =
    ap (λ (l : List Token). l ++ r) (append_assoc (flat_map word_tokens (all_of a.words)) (keyword (codes "end") ∷ []) (behind_words a))
    ∙ append_assoc (flat_map word_tokens (all_of a.words)) (keyword (codes "end") ∷ behind_words a) r

ram_decodes : (a b : RamItem) (r s : List Token) → ram_tokens a ++ r ≡ ram_tokens b ++ s → (a ≡ b) × (r ≡ s)
ram_decodes a b r s same =
    let split = list_decodes word_tokens (sort_is a_name) anything word_decodes (λ w l. refl) (λ w l. refl) (all_of a.words) (all_of b.words)
    (keyword (codes "end") ∷ (behind_words a ++ r)) (keyword (codes "end") ∷ (behind_words b ++ s)) refl refl refl refl
    (sym (ram_split a r) ∙ ap (drop 2) same ∙ ram_split b s) in
    let words : a.words.first ∷ a.words.others ≡ b.words.first ∷ b.words.others = split.0 in
    let first : a.words.first ≡ b.words.first = cc in
    let others : a.words.others ≡ b.words.others = cc in
    let tail : behind_words a ++ r ≡ behind_words b ++ s = ap (drop 1) split.1 in
    let clock : a.clock ≡ b.clock = ap (bytes_at 4) tail in
    let enable : a.enable ≡ b.enable = ap (bytes_at 9) tail in
    let place : a.write.address ≡ b.write.address = ap (bytes_at 12) tail in
    let place_count : a.write.count ≡ b.write.count = ap (bytes_at 14) tail in
    let written : a.write.memory ≡ b.write.memory = ap (bytes_at 17) tail in
    let place_again : a.write.again ≡ b.write.again = ap (bytes_at 19) tail in
    let value : a.value ≡ b.value = ap (bytes_at 22) tail in
    let register : a.register ≡ b.register = ap (bytes_at 24) tail in
    let address : a.read.address ≡ b.read.address = ap (bytes_at 27) tail in
    let read_count : a.read.count ≡ b.read.count = ap (bytes_at 29) tail in
    let shown : a.read.memory ≡ b.read.memory = ap (bytes_at 32) tail in
    let read_again : a.read.again ≡ b.read.again = ap (bytes_at 34) tail in
    let zeros : a.zeros ≡ b.zeros = ap (bytes_at 37) tail in (
      (λ i. record {
        words = record { first = first i; others = others i };
        clock = clock i;
        enable = enable i;
        write = record { address = place i; count = place_count i; memory = written i; again = place_again i };
        value = value i;
        register = register i;
        read = record { address = address i; count = read_count i; memory = shown i; again = read_again i };
        zeros = zeros i;
      }),
      ap (drop 40) tail,
    )

-- the place of each form of item, and of the tokens that begin it
abbrev item_index : Item → ℕ
item_index (wire_item l) = 0
item_index (register_item l text memory) = 1
item_index (assign_item w right) = 2
item_index (edge_item e) = 3
item_index (ram_item r) = 4
item_index (use_item u) = 5

abbrev item_index_of : List Token → ℕ
item_index_of l =
    if sort_is a_name l then 5 else (if is_at 0 (codes "wire") l then 0 else (if is_at 0 (codes "reg") l then 1
    else (if is_at 0 (codes "assign") l then 2 else (if is_at 0 (codes "always") l then 3 else 4))))

item_found : (a : Item) (r : List Token) → item_index_of (item_tokens a ++ r) ≡ item_index a
item_found (wire_item l) r = refl
item_found (register_item l text memory) r = refl
item_found (assign_item w right) r = refl
item_found (edge_item e) r = refl
item_found (ram_item a) r = refl
item_found (use_item u) r = refl

assign_decodes : (x y : List ℕ) (a b : Right) (r s : List Token) → item_tokens (assign_item x a) ++ r ≡ item_tokens (assign_item y b) ++ s → (assign_item x a ≡ assign_item y b) × (r ≡ s)
assign_decodes x y a b r s same =
    let names : x ≡ y = ap (bytes_at 1) same in
    let tail : right_tokens a ++ ends_item r ≡ right_tokens b ++ ends_item s =
    sym (append_assoc (right_tokens a) (ends_item []) r) ∙ ap (drop 3) same ∙ append_assoc (right_tokens b) (ends_item []) s in
    let both = right_decodes a b r s tail in
    ((λ i. assign_item (names i) (both.0 i)), both.1)

edge_decodes : (a b : Edge) (r s : List Token) → item_tokens (edge_item a) ++ r ≡ item_tokens (edge_item b) ++ s → (a ≡ b) × (r ≡ s)
edge_decodes a b r s same =
    let clocks : a.clock ≡ b.clock = ap (bytes_at 4) same in
    let registers : a.register ≡ b.register = ap (bytes_at 6) same in
    let tail : taken_tokens a.reset a.a ++ ends_item r ≡ taken_tokens b.reset b.a ++ ends_item s =
    sym (append_assoc (taken_tokens a.reset a.a) (ends_item []) r) ∙ ap (drop 8) same ∙ append_assoc (taken_tokens b.reset b.a) (ends_item []) s in
    let parts = taken_decodes a.reset b.reset a.a b.a r s tail in
    ((λ i. record { clock = clocks i; register = registers i; reset = parts.0 i; a = parts.1 i }), parts.2)

use_decodes : (a b : UseItem) (r s : List Token) → item_tokens (use_item a) ++ r ≡ item_tokens (use_item b) ++ s → (a ≡ b) × (r ≡ s)
use_decodes a b r s same =
    let used : a.used ≡ b.used = ap (bytes_at 0) same in
    let names : a.name ≡ b.name = ap (bytes_at 1) same in
    let tail : commas connection_tokens a.connections.first a.connections.others ++ sign (codes ")") ∷ ends_item r
    ≡ commas connection_tokens b.connections.first b.connections.others ++ sign (codes ")") ∷ ends_item s =
    sym (append_assoc (commas connection_tokens a.connections.first a.connections.others) (sign (codes ")") ∷ ends_item []) r) ∙ ap (drop 3) same
    ∙ append_assoc (commas connection_tokens b.connections.first b.connections.others) (sign (codes ")") ∷ ends_item []) s in
    let parts = commas_decode connection_tokens connection_decodes a.connections.first b.connections.first a.connections.others b.connections.others
    (sign (codes ")") ∷ ends_item r) (sign (codes ")") ∷ ends_item s) refl refl tail in
    ((λ i. record { used = used i; name = names i; connections = record { first = parts.0 i; others = parts.1 i } }), ap (drop 2) parts.2)

item_decodes : Decodes item_tokens no_memory
item_decodes a b r s r_fine s_fine same = at a b (sym (item_found a r) ∙ ap item_index_of same ∙ item_found b s) same
  where
    at : (a b : Item) → item_index a ≡ item_index b → item_tokens a ++ r ≡ item_tokens b ++ s → (a ≡ b) × (r ≡ s)
    at (wire_item x) (wire_item y) index same =
        (ap wire_item (same_lines x y (ap (bytes_at 2) same) (ap (bytes_at 4) same) (ap (bytes_at 6) same)), ap (drop 8) same)
    at (register_item x text memory) (register_item y other more) index same =
        let lines : x ≡ y = same_lines x y (ap (bytes_at 2) same) (ap (bytes_at 4) same) (ap (bytes_at 6) same) in
        let literals : text ≡ other = ap (bytes_at 8) same in
        let both = memory_decodes memory more r s r_fine s_fine (ap (drop 10) same) in
        ((λ i. register_item (lines i) (literals i) (both.0 i)), both.1)
    at (assign_item x v) (assign_item y w) index same = assign_decodes x y v w r s same
    at (edge_item x) (edge_item y) index same = let both = edge_decodes x y r s same in (ap edge_item both.0, both.1)
    at (ram_item x) (ram_item y) index same = let both = ram_decodes x y r s same in (ap ram_item both.0, both.1)
    at (use_item x) (use_item y) index same = let both = use_decodes x y r s same in (ap use_item both.0, both.1)
    at _ _ index same = absurd (omega (arith, index))

begins_item : List Token → Bool
begins_item l = not (is_at 0 (codes "endmodule") l)

item_begins : (a : Item) (r : List Token) → begins_item (item_tokens a ++ r) ≡ true
unfolding begins_item
item_begins (wire_item l) r = refl
item_begins (register_item l text memory) r = refl
item_begins (assign_item w right) r = refl
item_begins (edge_item e) r = refl
item_begins (ram_item a) r = refl
item_begins (use_item u) r = refl

item_is_no_memory : (a : Item) (r : List Token) → no_memory (item_tokens a ++ r) ≡ true
item_is_no_memory (wire_item l) r = refl
item_is_no_memory (register_item l text memory) r = refl
item_is_no_memory (assign_item w right) r = refl
item_is_no_memory (edge_item e) r = refl
item_is_no_memory (ram_item a) r = refl
item_is_no_memory (use_item u) r = refl

-- the tokens of a module behind its ports
abbrev behind_ports : ModuleItem → List Token
behind_ports m = sign (codes ")") ∷ sign (codes ";") ∷ (flat_map item_tokens m.items ++ keyword (codes "endmodule") ∷ [])

module_decodes : Decodes module_tokens anything
unfolding begins_item
module_decodes a b r s _ _ same =
    let names : a.name ≡ b.name = ap (bytes_at 1) same in
    let tail : commas port_tokens a.ports.first a.ports.others ++ (behind_ports a ++ r) ≡ commas port_tokens b.ports.first b.ports.others ++ (behind_ports b ++ s) =
    sym (append_assoc (commas port_tokens a.ports.first a.ports.others) (behind_ports a) r) ∙ ap (drop 3) same
    ∙ append_assoc (commas port_tokens b.ports.first b.ports.others) (behind_ports b) s in
    let ports = commas_decode port_tokens port_decodes a.ports.first b.ports.first a.ports.others b.ports.others (behind_ports a ++ r) (behind_ports b ++ s) refl refl tail in
    let behind : flat_map item_tokens a.items ++ keyword (codes "endmodule") ∷ r ≡ flat_map item_tokens b.items ++ keyword (codes "endmodule") ∷ s =
    sym (append_assoc (flat_map item_tokens a.items) (keyword (codes "endmodule") ∷ []) r) ∙ ap (drop 2) ports.2
    ∙ append_assoc (flat_map item_tokens b.items) (keyword (codes "endmodule") ∷ []) s in
    let items = list_decodes item_tokens begins_item no_memory item_decodes item_begins item_is_no_memory a.items b.items
    (keyword (codes "endmodule") ∷ r) (keyword (codes "endmodule") ∷ s) refl refl refl refl behind in
    ((λ i. record { name = names i; ports = record { first = ports.0 i; others = ports.1 i }; items = items.0 i }), ap (drop 1) items.1)

same_ends : {A : Type 0} (xs ys : List A) (x y : A) → xs ++ x ∷ [] ≡ ys ++ y ∷ [] → (xs ≡ ys) × (x ≡ y)
same_ends [] [] x y same = (refl, cc)
same_ends [] (b ∷ []) x y same = cc
same_ends [] (b ∷ c ∷ ys) x y same = cc
same_ends (a ∷ []) [] x y same = cc
same_ends (a ∷ c ∷ xs) [] x y same = cc
same_ends (a ∷ xs) (b ∷ ys) x y same =
    let head : a ≡ b = cc in
    let tail : xs ++ x ∷ [] ≡ ys ++ y ∷ [] = cc in
    let both = same_ends xs ys x y tail in
    ((λ i. head i ∷ both.0 i), both.1)

-- tokens are those of at most one source
pub one_source : (a b : Source) → source_tokens a ≡ source_tokens b → a ≡ b
one_source a b same =
    let whole : flat_map module_tokens (modules_of a) ++ [] ≡ flat_map module_tokens (modules_of b) ++ [] =
    append-nil (source_tokens a) ∙ same ∙ sym (append-nil (source_tokens b)) in
    let modules = list_decodes module_tokens (is_at 0 (codes "module")) anything module_decodes (λ m l. refl) (λ m l. refl)
    (modules_of a) (modules_of b) [] [] refl refl refl refl whole in
    let both = same_ends a.earlier b.earlier a.last b.last modules.0 in
    λ i. record { earlier = both.0 i; last = both.1 i }
