-- The ports of the last module.
use Rattle.std.proofs.Common.{◌≡◌, ℕ, suc, ◌+◌, ◌<◌, Bool, true, false, not, cond, eqb, ◌&&◌, List, [], ◌∷◌, ◌++◌, length, map, take, drop, Option, Some, None, refl, sym, ap, ◌∙◌, subst, append_assoc, arith}
use Rattle.std.specs.Prelude.{codes, is_some, slice_index_or, option_map}
use Rattle.std.specs.Option.{unwrap_or}
use Rattle.std.specs.List.{AllByRecursion, flat_map, position_or_len}
use Rattle.std.specs.Str.{bytes_eq}
use Rattle.std.proofs.lemmas.Bool.{and_parts, eqb-true, false≢true}
use Rattle.std.proofs.lemmas.Option.{same_Some}
use Rattle.std.proofs.lemmas.Slice.Eq.{bytes_eq-Decides}
use Rattle.name_tables.specs.Names.{is_among, place_of}
use Rattle.net_rules.specs.PortsHold.{FitsPort}
use Rattle.verilog_text.specs.Denotes.{ArePorts}
use Rattle.verilog_text.specs.Names.{domain_name, input_name, output_name}
use Rattle.verilog_tree.specs.Sources.{line_of}
use Rattle.verilog_tree.specs.declared.module.Port.{Port}
use Rattle.verilog_tree.specs.declared.module.Port.TheVariants.{Input, Output, Signal}
use Rattle.verilog_tree.specs.declared.word.Line.{Line}
use Rattle.verilog_rules.specs.Declarations.{domain_part, inputs_of, line_name, name_part, outputs_of, port_of}
use Rattle.verilog_rules.specs.NameRules.{is_port_name, port_form}
use Rattle.verilog_rules.specs.Texts.{begins_with, before_line, behind_line, is_lower_word, width}
use Rattle.verilog_rules.proofs.Holding.{AllTrue}
use Rattle.verilog_rules.proofs.Signals.{front_is, lower_so}

-- a text is what stands before its first `_`, this, and what stands behind it
split_at_line : (bs : List ℕ) → is_lower_word (behind_line bs) ≡ true → bs ≡ before_line bs ++ (95 ∷ behind_line bs)
split_at_line [] is = absurd (false≢true is)
split_at_line (b ∷ bs) is = by_case (eqb b 95) refl is (split_at_line bs)
  where
    place : List ℕ → ℕ
    place xs = position_or_len (λ (x : ℕ). eqb x 95) xs

    by_case : (c : Bool) → eqb b 95 ≡ c → is_lower_word (drop (cond (not c) (1 + position_or_len (λ (x : ℕ). eqb x 95) bs) 0 + 1) (b ∷ bs)) ≡ true
        → (is_lower_word (behind_line bs) ≡ true → bs ≡ before_line bs ++ (95 ∷ behind_line bs))
        → b ∷ bs ≡ take (cond (not c) (1 + position_or_len (λ (x : ℕ). eqb x 95) bs) 0) (b ∷ bs) ++ (95 ∷ drop (cond (not c) (1 + position_or_len (λ (x : ℕ). eqb x 95) bs) 0 + 1) (b ∷ bs))
    by_case true here lower later = ap (λ (x : ℕ). x ∷ bs) (eqb-true b 95 here)
    by_case false other lower later =
        let n : ℕ = position_or_len (λ (x : ℕ). eqb x 95) bs in
        let next : 1 + n ≡ suc n = omega arith in
        let after : 1 + n + 1 ≡ suc (n + 1) = omega arith in
        let lower_so : is_lower_word (behind_line bs) ≡ true = rw after at lower in
        let rest : bs ≡ before_line bs ++ (95 ∷ behind_line bs) = later lower_so in
        rw (after, next) (ap (λ (xs : List ℕ). b ∷ xs) rest)

pub place_got : (names : List (List ℕ)) (name : List ℕ) (k : ℕ) → place_of names name ≡ Some k → (slice_index_or names k [] ≡ name) × (k < length names)
place_got [] name k placed = absurd (cc)
place_got (n ∷ names) name k placed = by_case (bytes_eq name n) refl (place_of names name) refl placed (place_got names name)
  where
    by_case : (b : Bool) → bytes_eq name n ≡ b → (o : Option ℕ) → place_of names name ≡ o → cond b (Some 0) (option_map (λ (p : ℕ). p + 1) o) ≡ Some k
        → ((p : ℕ) → place_of names name ≡ Some p → (slice_index_or names p [] ≡ name) × (p < length names))
        → (slice_index_or (n ∷ names) k [] ≡ name) × (k < length (n ∷ names))
    by_case true same o is at later =
        let zeroth : 0 ≡ k = same_Some 0 k at in
        subst (λ (j : ℕ). (slice_index_or (n ∷ names) j [] ≡ name) × (j < length (n ∷ names))) zeroth
        (sym ((bytes_eq-Decides name n).0 same), some names)
      where
        some : (xs : List (List ℕ)) → 0 < suc (length xs)
        some xs = omega arith
    by_case false same None is at later = absurd (cc)
    by_case false same (Some p) is at later =
        let next : suc p ≡ k = omega (arith, same_Some (p + 1) k at) in
        let more = later p is in
        subst (λ (j : ℕ). (slice_index_or (n ∷ names) j [] ≡ name) × (j < length (n ∷ names))) next (more.0, above p names more.1)
      where
        above : (p : ℕ) (xs : List (List ℕ)) → p < length xs → suc p < suc (length xs)
        above p xs below = omega arith

-- a port of the last module
pub record TopPort (domains : List (List ℕ)) (front : List ℕ) (l : Line) : Type 0 where
  pub name_is : line_name l ≡ front ++ (domain_name domains (port_of domains l).dom ++ (codes "_" ++ (port_of domains l).name))
  pub fits : FitsPort (length domains) (port_of domains l)

pub top_port : (domains : List (List ℕ)) (a b : ℕ) (l : Line) → is_port_name domains (a ∷ b ∷ []) (line_name l) ≡ true → TopPort domains (a ∷ b ∷ []) l
top_port domains a b l is =
    let front : List ℕ = a ∷ b ∷ [] in
    let name : List ℕ = line_name l in
    let parts = and_parts (begins_with front name) (is_among domains (domain_part name) && is_lower_word (name_part name)) is in
    let more = and_parts (is_among domains (domain_part name)) (is_lower_word (name_part name)) parts.1 in
    let begins : name ≡ front ++ drop 2 name = front_is front name parts.0 in
    let split : drop 2 name ≡ domain_part name ++ (95 ∷ name_part name) = split_at_line (drop 2 name) more.1 in
    let placed = some_place (place_of domains (domain_part name)) refl more.0 in
    let number : (port_of domains l).dom.number ≡ placed.0 = ap (λ (o : Option ℕ). unwrap_or o 0) placed.1 in
    let got = place_got domains (domain_part name) placed.0 placed.1 in
    let named : domain_name domains (port_of domains l).dom ≡ domain_part name = ap (λ (n : ℕ). slice_index_or domains n []) number ∙ got.0 in
    record {
      name_is = begins ∙ ap (λ (rest : List ℕ). front ++ rest) split ∙ sym (ap (λ (d : List ℕ). front ++ (d ++ (95 ∷ name_part name))) named);
      fits = (subst (λ (n : ℕ). n < length domains) (sym number) got.1, lower_so (name_part name) more.1);
    }
  where
    some_place : (o : Option ℕ) → place_of domains (domain_part (line_name l)) ≡ o → is_some (place_of domains (domain_part (line_name l))) ≡ true
        → (k : ℕ) × (place_of domains (domain_part (line_name l)) ≡ Some k)
    some_place None is some = absurd (false≢true (sym (ap is_some is) ∙ some))
    some_place (Some k) is some = (k, is)

pub input_ports : (domains : List (List ℕ)) (ports : List Port) → AllTrue (flat_map (port_form domains) ports) → AllByRecursion (TopPort domains (codes "i_")) (inputs_of ports)
input_ports domains [] all = tt
input_ports domains (Signal s ∷ ports) all = input_ports domains ports all
input_ports domains (Input l ∷ ports) all = (top_port domains 105 95 l all.0, input_ports domains ports all.1)
input_ports domains (Output l ∷ ports) all = input_ports domains ports all.1

pub output_ports : (domains : List (List ℕ)) (ports : List Port) → AllTrue (flat_map (port_form domains) ports) → AllByRecursion (TopPort domains (codes "o_")) (outputs_of ports)
output_ports domains [] all = tt
output_ports domains (Signal s ∷ ports) all = output_ports domains ports all
output_ports domains (Input l ∷ ports) all = output_ports domains ports all.1
output_ports domains (Output l ∷ ports) all = (top_port domains 111 95 l all.0, output_ports domains ports all.1)

regrouped : (a b c d : List ℕ) → a ++ (b ++ (c ++ d)) ≡ ((a ++ b) ++ c) ++ d
regrouped a b c d = sym (append_assoc a b (c ++ d)) ∙ sym (append_assoc (a ++ b) c d)

named_so : (domains : List (List ℕ)) (front : List ℕ) (l : Line) → TopPort domains front l
    → line_name l ≡ ((front ++ domain_name domains (port_of domains l).dom) ++ codes "_") ++ (port_of domains l).name
named_so domains front l top = top.name_is ∙ regrouped front (domain_name domains (port_of domains l).dom) (codes "_") (port_of domains l).name

longer : {x y : List ℕ} {xs ys : List (List ℕ)} → x ≡ y → xs ≡ ys → x ∷ xs ≡ y ∷ ys
longer p q = λ i. p i ∷ q i

pub are_inputs : (domains : List (List ℕ)) (ls : List Line) → AllByRecursion (TopPort domains (codes "i_")) ls → ArePorts (input_name domains) (map line_of ls) (map (port_of domains) ls)
are_inputs domains [] all = record { names = refl; widths = refl }
are_inputs domains (l ∷ ls) all =
    let rest : ArePorts (input_name domains) (map line_of ls) (map (port_of domains) ls) = are_inputs domains ls all.1 in
    record { names = longer (named_so domains (codes "i_") l all.0) rest.names; widths = ap (λ (ns : List ℕ). width l.range ∷ ns) rest.widths }

pub are_outputs : (domains : List (List ℕ)) (ls : List Line) → AllByRecursion (TopPort domains (codes "o_")) ls → ArePorts (output_name domains) (map line_of ls) (map (port_of domains) ls)
are_outputs domains [] all = record { names = refl; widths = refl }
are_outputs domains (l ∷ ls) all =
    let rest : ArePorts (output_name domains) (map line_of ls) (map (port_of domains) ls) = are_outputs domains ls all.1 in
    record { names = longer (named_so domains (codes "o_") l all.0) rest.names; widths = ap (λ (ns : List ℕ). width l.range ∷ ns) rest.widths }
