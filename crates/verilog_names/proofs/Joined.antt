-- Ports and names joined one by one.
use Rattle.std.proofs.Common.{◌≡◌, ℕ, ◌+◌, ◌<◌, ◌≤◌, List, [], ◌∷◌, ◌++◌, length, get_or, drop, Option, refl, sym, ap, ◌∙◌, append_assoc, arith}
use Rattle.std.specs.Prelude.{min}
use Rattle.std.proofs.lemmas.List.{append-nil, at_drop_more, length-drop}
use Rattle.verilog_names.specs.Connected.{joined_checks}
use Rattle.verilog_checks.specs.Least.{least_after}
use Rattle.verilog_rules.specs.NameRules.{connection_checks}
use Rattle.verilog_rules.specs.Resolving.{drives_of, reads_of}
use Rattle.verilog_rules.specs.declared.resolved.Operand.{Operand}
use Rattle.verilog_rules.specs.declared.resolved.Wire.{Wire}
use Rattle.verilog_tree.specs.declared.item.Connection.{Connection}
use Rattle.verilog_tree.specs.declared.module.Port.{Port}
use Rattle.verilog_tree.specs.declared.module.Port.TheVariants.{Input, Output, Signal}

-- a function of what is left of both lists, one step on
pub both_more : {Y : Type 0} (F : List Port → List Connection → Y) (ports : List Port) (cs : List Connection) (i : ℕ) (p : Port) (c : Connection) → i < length ports → i < length cs
    → F (drop i ports) (drop i cs) ≡ F (get_or ports i p ∷ drop (i + 1) ports) (get_or cs i c ∷ drop (i + 1) cs)
both_more F ports cs i p c lp lc = at_drop_more (λ ps. F ps (drop i cs)) ports i p lp ∙ at_drop_more (λ xs. F (get_or ports i p ∷ drop (i + 1) ports) xs) cs i c lc

pub reads_split : (wires : List Wire) (p : Port) (c : Connection) (ports : List Port) (cs : List Connection) → reads_of wires (p ∷ ports) (c ∷ cs) ≡ reads_of wires (p ∷ []) (c ∷ []) ++ reads_of wires ports cs
reads_split wires (Signal s) c ports cs = refl
reads_split wires (Input l) c ports cs = refl
reads_split wires (Output l) c ports cs = refl

pub drives_split : (wires : List Wire) (p : Port) (c : Connection) (ports : List Port) (cs : List Connection) → drives_of wires (p ∷ ports) (c ∷ cs) ≡ drives_of wires (p ∷ []) (c ∷ []) ++ drives_of wires ports cs
drives_split wires (Signal s) c ports cs = refl
drives_split wires (Input l) c ports cs = refl
drives_split wires (Output l) c ports cs = refl

-- what one more joined name gives, of the names that are read or of those that are driven
pub joined_more : (F : List Port → List Connection → List Operand) (ports : List Port) (cs : List Connection) (i : ℕ) (p : Port) (c : Connection) (before after whole : List Operand)
    → ((q : Port) (d : Connection) (ps : List Port) (ds : List Connection) → F (q ∷ ps) (d ∷ ds) ≡ F (q ∷ []) (d ∷ []) ++ F ps ds)
    → i < length ports → i < length cs → after ≡ before ++ F (get_or ports i p ∷ []) (get_or cs i c ∷ []) → before ++ F (drop i ports) (drop i cs) ≡ whole
    → after ++ F (drop (i + 1) ports) (drop (i + 1) cs) ≡ whole
joined_more F ports cs i p c before after whole parts lp lc more left =
    ap (λ l. l ++ F (drop (i + 1) ports) (drop (i + 1) cs)) more
    ∙ append_assoc before (F (get_or ports i p ∷ []) (get_or cs i c ∷ [])) (F (drop (i + 1) ports) (drop (i + 1) cs))
    ∙ ap (λ l. before ++ l) (sym (parts (get_or ports i p) (get_or cs i c) (drop (i + 1) ports) (drop (i + 1) cs)))
    ∙ sym (both_more (λ ps xs. before ++ F ps xs) ports cs i p c lp lc) ∙ left

-- the checks of one more joined name
pub checks_more : (wires : List Wire) (close : ℕ) (ports : List Port) (cs : List Connection) (i : ℕ) (p : Port) (c : Connection) (least next whole : Option ℕ) → i < length ports → i < length cs
    → next ≡ least_after least (joined_checks wires (get_or ports i p) (get_or cs i c)) → least_after least (connection_checks wires close (drop i ports) (drop i cs)) ≡ whole
    → least_after next (connection_checks wires close (drop (i + 1) ports) (drop (i + 1) cs)) ≡ whole
checks_more wires close ports cs i p c least next whole lp lc taken left =
    ap (λ l. least_after l (connection_checks wires close (drop (i + 1) ports) (drop (i + 1) cs))) taken
    ∙ sym (both_more (λ ps xs. least_after least (connection_checks wires close ps xs)) ports cs i p c lp lc) ∙ left

-- where one list has ended nothing is read or driven, and the wires don't matter
reads_end : (wires : List Wire) (ports : List Port) (cs : List Connection) → min (length ports) (length cs) ≡ 0 → reads_of wires ports cs ≡ []
reads_end wires [] cs e = refl
reads_end wires (p ∷ ports) [] e = by p
  where
    by : (q : Port) → reads_of wires (q ∷ ports) [] ≡ []
    by (Signal s) = refl
    by (Input l) = refl
    by (Output l) = refl
reads_end wires (p ∷ ports) (c ∷ cs) e = absurd (omega arith)

drives_end : (wires : List Wire) (ports : List Port) (cs : List Connection) → min (length ports) (length cs) ≡ 0 → drives_of wires ports cs ≡ []
drives_end wires [] cs e = refl
drives_end wires (p ∷ ports) [] e = by p
  where
    by : (q : Port) → drives_of wires (q ∷ ports) [] ≡ []
    by (Signal s) = refl
    by (Input l) = refl
    by (Output l) = refl
drives_end wires (p ∷ ports) (c ∷ cs) e = absurd (omega arith)

checks_end : (wires : List Wire) (close : ℕ) (ports : List Port) (cs : List Connection) → min (length ports) (length cs) ≡ 0 → connection_checks [] close ports cs ≡ connection_checks wires close ports cs
checks_end wires close [] [] e = refl
checks_end wires close [] (c ∷ cs) e = refl
checks_end wires close (p ∷ ports) [] e = refl
checks_end wires close (p ∷ ports) (c ∷ cs) e = absurd (omega arith)

one_ends : (ports : List Port) (cs : List Connection) (i : ℕ) → min (length ports) (length cs) ≤ i → min (length (drop i ports)) (length (drop i cs)) ≡ 0
one_ends ports cs i le = omega (arith, length-drop i ports, length-drop i cs)

pub reads_all : (wires : List Wire) (ports : List Port) (cs : List Connection) (i : ℕ) (before whole : List Operand) → min (length ports) (length cs) ≤ i
    → before ++ reads_of wires (drop i ports) (drop i cs) ≡ whole → before ≡ whole
reads_all wires ports cs i before whole le left =
    sym (append-nil before) ∙ ap (λ l. before ++ l) (sym (reads_end wires (drop i ports) (drop i cs) (one_ends ports cs i le))) ∙ left

pub drives_all : (wires : List Wire) (ports : List Port) (cs : List Connection) (i : ℕ) (before whole : List Operand) → min (length ports) (length cs) ≤ i
    → before ++ drives_of wires (drop i ports) (drop i cs) ≡ whole → before ≡ whole
drives_all wires ports cs i before whole le left =
    sym (append-nil before) ∙ ap (λ l. before ++ l) (sym (drives_end wires (drop i ports) (drop i cs) (one_ends ports cs i le))) ∙ left

-- the check at the end of both lists, behind those of the names before it
pub checks_all : (wires : List Wire) (close : ℕ) (ports : List Port) (cs : List Connection) (i count : ℕ) (least next whole : Option ℕ) → count ≡ min (length ports) (length cs) → i ≡ count
    → next ≡ least_after least (connection_checks [] close (drop count ports) (drop count cs)) → least_after least (connection_checks wires close (drop i ports) (drop i cs)) ≡ whole → next ≡ whole
checks_all wires close ports cs i count least next whole is at taken left =
    taken ∙ ap (λ n. least_after least (connection_checks [] close (drop n ports) (drop n cs))) (sym at)
    ∙ ap (least_after least) (checks_end wires close (drop i ports) (drop i cs) (one_ends ports cs i (omega (arith, is, at)))) ∙ left
