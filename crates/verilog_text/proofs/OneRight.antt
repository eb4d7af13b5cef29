-- The parts of an item stand in one way: ports, right sides, words, connections.
use Rattle.std.proofs.Common.{◌≡◌, ℕ, Bool, true, false, List, [], ◌∷◌, ◌++◌, drop, Option, Some, None, sym, refl, ap, ◌∙◌, append_assoc, arith}
use Rattle.std.specs.Prelude.{codes, if◌then◌else◌}
use Rattle.netlist.specs.declared.net.Op1.{Op1}
use Rattle.netlist.specs.declared.net.Op1.TheVariants.{Not, RedAnd, RedOr, RedXor}
use Rattle.netlist.specs.declared.net.Op2.{Op2}
use Rattle.netlist.specs.declared.net.Op2.TheVariants.{Add, Sub, Mul, And, Or, Xor, Eq, LtU, LtS, Shl, Shr, Sar}
use Rattle.verilog_text.specs.Grammar.{binary_tokens, commas, connection_tokens, name, port_tokens, right_tokens, sign, taken_tokens, word_tokens}
use Rattle.verilog_text.specs.Source.{Line, OneOrMore, PortItem, Range, Reset, Right}
use Rattle.verilog_text.specs.Source.PortItem.{input_port, output_port, signal_port}
use Rattle.verilog_text.specs.Source.Right.{binary, choice, constant, copy, cut, join, unary}
use Rattle.verilog_text.specs.Text.{sign1}
use Rattle.verilog_text.specs.VForms.{Sort, Token}
use Rattle.verilog_text.specs.VForms.Sort.{literal as a_literal, name as a_name, signed as a_signed}
use Rattle.verilog_text.proofs.Decoding.{Decodes, anything, bytes_at, commas_decode, differ, is_at}

abbrev pub same_kind : Sort → Sort → Bool
same_kind a_name a_name = true
same_kind a_literal a_literal = true
same_kind a_signed a_signed = true
same_kind _ _ = false

-- the sort of the token at the front
abbrev pub sort_is : Sort → List Token → Bool
sort_is sort [] = false
sort_is sort (t ∷ ts) = same_kind sort t.sort

pub same_range : (a b : Range) → a.from ≡ b.from → a.to ≡ b.to → a ≡ b
same_range a b from to = λ i. record { from = from i; to = to i }

pub same_lines : (a b : Line) → a.range.from ≡ b.range.from → a.range.to ≡ b.range.to → a.name ≡ b.name → a ≡ b
same_lines a b from to name_is = λ i. record { range = record { from = from i; to = to i }; name = name_is i }

name_decodes : Decodes (λ (a : List ℕ). name a ∷ []) anything
name_decodes a b r s _ _ same = (ap (bytes_at 0) same, ap (drop 1) same)

-- 0 where the port is a signal, 1 an input, 2 an output
abbrev port_index : PortItem → ℕ
port_index (signal_port s) = 0
port_index (input_port l) = 1
port_index (output_port l) = 2

abbrev port_index_of : List Token → ℕ
port_index_of l = if is_at 0 (codes "output") l then 2 else (if is_at 1 (codes "[") l then 1 else 0)

port_found : (a : PortItem) (r : List Token) → port_index_of (port_tokens a ++ r) ≡ port_index a
port_found (signal_port s) r = refl
port_found (input_port l) r = refl
port_found (output_port l) r = refl

pub port_decodes : Decodes port_tokens anything
port_decodes a b r s _ _ same = at a b (sym (port_found a r) ∙ ap port_index_of same ∙ port_found b s) same
  where
    at : (a b : PortItem) → port_index a ≡ port_index b → port_tokens a ++ r ≡ port_tokens b ++ s → (a ≡ b) × (r ≡ s)
    at (signal_port x) (signal_port y) index same = (ap signal_port (ap (bytes_at 1) same), ap (drop 2) same)
    at (input_port x) (input_port y) index same =
        (ap input_port (same_lines x y (ap (bytes_at 2) same) (ap (bytes_at 4) same) (ap (bytes_at 6) same)), ap (drop 7) same)
    at (output_port x) (output_port y) index same =
        (ap output_port (same_lines x y (ap (bytes_at 2) same) (ap (bytes_at 4) same) (ap (bytes_at 6) same)), ap (drop 7) same)
    at _ _ index same = absurd (omega (arith, index))

-- the place of each form of a right side, and of the tokens that it has before `;`
abbrev right_index : Right → ℕ
right_index (constant text) = 0
right_index (copy a) = 1
right_index (join parts) = 2
right_index (cut a r) = 3
right_index (unary op a) = 4
right_index (binary op a b) = 5
right_index (choice c a b) = 6

abbrev behind_name : List Token → ℕ
behind_name l = if is_at 1 (codes ";") l then 1 else (if is_at 1 (codes "[") l then 3 else (if is_at 1 (codes "?") l then 6 else 5))

abbrev right_index_of : List Token → ℕ
right_index_of l =
    if sort_is a_literal l then 0 else (if sort_is a_signed l then 5 else (if sort_is a_name l then behind_name l
    else (if is_at 0 (codes "{") l then 2 else 4)))

unary_found : (op : Op1) (a : List ℕ) (r : List Token) → right_index_of (right_tokens (unary op a) ++ r) ≡ 4
unary_found Not a r = refl
unary_found RedAnd a r = refl
unary_found RedOr a r = refl
unary_found RedXor a r = refl

binary_found : (op : Op2) (a b : List ℕ) (r : List Token) → right_index_of (right_tokens (binary op a b) ++ r) ≡ 5
binary_found Add a b r = refl
binary_found Sub a b r = refl
binary_found Mul a b r = refl
binary_found And a b r = refl
binary_found Or a b r = refl
binary_found Xor a b r = refl
binary_found Eq a b r = refl
binary_found LtU a b r = refl
binary_found LtS a b r = refl
binary_found Shl a b r = refl
binary_found Shr a b r = refl
binary_found Sar a b r = refl

abbrev pub ends_item : List Token → List Token
ends_item r = sign (codes ";") ∷ r

right_found : (a : Right) (r : List Token) → right_index_of (right_tokens a ++ ends_item r) ≡ right_index a
right_found (constant text) r = refl
right_found (copy a) r = refl
right_found (join parts) r = refl
right_found (cut a range) r = refl
right_found (unary op a) r = unary_found op a (ends_item r)
right_found (binary op a b) r = binary_found op a b (ends_item r)
right_found (choice c a b) r = refl

abbrev op1_of : List Token → Op1
op1_of l = if is_at 0 (codes "~") l then Not else (if is_at 0 (codes "&") l then RedAnd else (if is_at 0 (codes "|") l then RedOr else RedXor))

op1_found : (op : Op1) (l : List Token) → op1_of (sign (sign1 op) ∷ l) ≡ op
op1_found Not l = refl
op1_found RedAnd l = refl
op1_found RedOr l = refl
op1_found RedXor l = refl

abbrev op2_of : List Token → Op2
op2_of l =
    if sort_is a_signed l then (if is_at 4 (codes "<") l then LtS else Sar)
    else (if is_at 1 (codes "+") l then Add else (if is_at 1 (codes "-") l then Sub else (if is_at 1 (codes "*") l then Mul
    else (if is_at 1 (codes "&") l then And else (if is_at 1 (codes "|") l then Or else (if is_at 1 (codes "^") l then Xor
    else (if is_at 1 (codes "==") l then Eq else (if is_at 1 (codes "<") l then LtU else (if is_at 1 (codes "<<") l then Shl else Shr)))))))))

op2_found : (op : Op2) (a b : List ℕ) (l : List Token) → op2_of (binary_tokens op a b ++ l) ≡ op
op2_found Add a b l = refl
op2_found Sub a b l = refl
op2_found Mul a b l = refl
op2_found And a b l = refl
op2_found Or a b l = refl
op2_found Xor a b l = refl
op2_found Eq a b l = refl
op2_found LtU a b l = refl
op2_found LtS a b l = refl
op2_found Shl a b l = refl
op2_found Shr a b l = refl
op2_found Sar a b l = refl

-- the operands of one operator
operands : (op : Op2) (a b c d : List ℕ) (r s : List Token) → binary_tokens op a b ++ r ≡ binary_tokens op c d ++ s → (a ≡ c) × (b ≡ d) × (r ≡ s)
operands LtS a b c d r s same = (ap (bytes_at 2) same, ap (bytes_at 7) same, ap (drop 9) same)
operands Sar a b c d r s same = (ap (bytes_at 2) same, ap (bytes_at 5) same, ap (drop 6) same)
operands Add a b c d r s same = (ap (bytes_at 0) same, ap (bytes_at 2) same, ap (drop 3) same)
operands Sub a b c d r s same = (ap (bytes_at 0) same, ap (bytes_at 2) same, ap (drop 3) same)
operands Mul a b c d r s same = (ap (bytes_at 0) same, ap (bytes_at 2) same, ap (drop 3) same)
operands And a b c d r s same = (ap (bytes_at 0) same, ap (bytes_at 2) same, ap (drop 3) same)
operands Or a b c d r s same = (ap (bytes_at 0) same, ap (bytes_at 2) same, ap (drop 3) same)
operands Xor a b c d r s same = (ap (bytes_at 0) same, ap (bytes_at 2) same, ap (drop 3) same)
operands Eq a b c d r s same = (ap (bytes_at 0) same, ap (bytes_at 2) same, ap (drop 3) same)
operands LtU a b c d r s same = (ap (bytes_at 0) same, ap (bytes_at 2) same, ap (drop 3) same)
operands Shl a b c d r s same = (ap (bytes_at 0) same, ap (bytes_at 2) same, ap (drop 3) same)
operands Shr a b c d r s same = (ap (bytes_at 0) same, ap (bytes_at 2) same, ap (drop 3) same)

binary_decodes : (op other : Op2) (a b c d : List ℕ) (r s : List Token) → binary_tokens op a b ++ r ≡ binary_tokens other c d ++ s → (binary op a b ≡ binary other c d) × (r ≡ s)
binary_decodes op other a b c d r s same =
    let ops : op ≡ other = sym (op2_found op a b r) ∙ ap op2_of same ∙ op2_found other c d s in
    let parts = operands op a b c d r s (same ∙ ap (λ (o : Op2). binary_tokens o c d ++ s) (sym ops)) in
    ((λ i. binary (ops i) (parts.0 i) (parts.1 i)), parts.2)

join_decodes : (a b : OneOrMore (List ℕ)) (r s : List Token) → right_tokens (join a) ++ r ≡ right_tokens (join b) ++ s → (join a ≡ join b) × (r ≡ s)
join_decodes a b r s same =
    let inner : (p : OneOrMore (List ℕ)) (t : List Token) → List Token = λ p t. commas (λ (x : List ℕ). name x ∷ []) p.first p.others ++ t in
    let tail : inner a (sign (codes "}") ∷ r) ≡ inner b (sign (codes "}") ∷ s) =
    sym (append_assoc (commas (λ (x : List ℕ). name x ∷ []) a.first a.others) (sign (codes "}") ∷ []) r) ∙ ap (drop 1) same
    ∙ append_assoc (commas (λ (x : List ℕ). name x ∷ []) b.first b.others) (sign (codes "}") ∷ []) s in
    let parts = commas_decode (λ (x : List ℕ). name x ∷ []) name_decodes a.first b.first a.others b.others (sign (codes "}") ∷ r) (sign (codes "}") ∷ s) refl refl tail in
    ((λ i. join (record { first = parts.0 i; others = parts.1 i })), ap (drop 1) parts.2)

-- before `;` the tokens of a right side stand for one
pub right_decodes : (a b : Right) (r s : List Token) → right_tokens a ++ ends_item r ≡ right_tokens b ++ ends_item s → (a ≡ b) × (r ≡ s)
right_decodes a b r s same = at a b (sym (right_found a r) ∙ ap right_index_of same ∙ right_found b s) same
  where
    at : (a b : Right) → right_index a ≡ right_index b → right_tokens a ++ ends_item r ≡ right_tokens b ++ ends_item s → (a ≡ b) × (r ≡ s)
    at (constant x) (constant y) index same = (ap constant (ap (bytes_at 0) same), ap (drop 2) same)
    at (copy x) (copy y) index same = (ap copy (ap (bytes_at 0) same), ap (drop 2) same)
    at (join x) (join y) index same =
        let both = join_decodes x y (ends_item r) (ends_item s) same in (both.0, ap (drop 1) both.1)
    at (cut x v) (cut y w) index same =
        let names : x ≡ y = ap (bytes_at 0) same in
        let ranges : v ≡ w = same_range v w (ap (bytes_at 2) same) (ap (bytes_at 4) same) in
        ((λ i. cut (names i) (ranges i)), ap (drop 7) same)
    at (unary op x) (unary other y) index same =
        let ops : op ≡ other = sym (op1_found op (name x ∷ ends_item r)) ∙ ap op1_of same ∙ op1_found other (name y ∷ ends_item s) in
        let names : x ≡ y = ap (bytes_at 1) same in
        ((λ i. unary (ops i) (names i)), ap (drop 3) same)
    at (binary op x y) (binary other v w) index same =
        let both = binary_decodes op other x y v w (ends_item r) (ends_item s) same in (both.0, ap (drop 1) both.1)
    at (choice c x y) (choice d v w) index same =
        let conditions : c ≡ d = ap (bytes_at 0) same in
        let firsts : x ≡ v = ap (bytes_at 2) same in
        let seconds : y ≡ w = ap (bytes_at 4) same in
        ((λ i. choice (conditions i) (firsts i) (seconds i)), ap (drop 6) same)
    at _ _ index same = absurd (omega (arith, index))

pub word_decodes : Decodes word_tokens anything
word_decodes a b r s _ _ same =
    let memories : a.memory ≡ b.memory = ap (bytes_at 0) same in
    let places : a.place ≡ b.place = ap (bytes_at 2) same in
    let literals : a.literal ≡ b.literal = ap (bytes_at 5) same in
    ((λ i. record { memory = memories i; place = places i; literal = literals i }), ap (drop 7) same)

pub connection_decodes : Decodes connection_tokens anything
connection_decodes a b r s _ _ same =
    let ports : a.port ≡ b.port = ap (bytes_at 1) same in
    let wires : a.wire ≡ b.wire = ap (bytes_at 3) same in
    ((λ i. record { port = ports i; wire = wires i }), ap (drop 5) same)

-- what a register takes, before `;`
pub taken_decodes : (v w : Option Reset) (a b : List ℕ) (r s : List Token) → taken_tokens v a ++ ends_item r ≡ taken_tokens w b ++ ends_item s → (v ≡ w) × (a ≡ b) × (r ≡ s)
taken_decodes None None a b r s same = (refl, ap (bytes_at 0) same, ap (drop 2) same)
taken_decodes None (Some y) a b r s same = absurd (differ (is_at 1 (codes ";")) same refl refl)
taken_decodes (Some x) None a b r s same = absurd (differ (is_at 1 (codes "?")) same refl refl)
taken_decodes (Some x) (Some y) a b r s same =
    let names : x.name ≡ y.name = ap (bytes_at 0) same in
    let literals : x.literal ≡ y.literal = ap (bytes_at 2) same in
    ((λ i. Some (record { name = names i; literal = literals i })), ap (bytes_at 4) same, ap (drop 6) same)
