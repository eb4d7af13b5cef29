-- The right sides of assignments.
use Rattle.std.proofs.Common.{◌≡◌, ℕ, ◌+◌, ◌-◌, ◌<◌, ◌≤◌, Bool, true, eqb, leb, List, [], ◌∷◌, length, map, refl, sym, ap, ◌∙◌, arith}
use Rattle.std.specs.Prelude.{slice_index}
use Rattle.std.specs.List.{AllByRecursion}
use Rattle.std.proofs.lemmas.Bool.{and_from, and_parts, eq-eqb, eqb-true, le-leb, leb-true, lt-ltb, ltb-true}
use Rattle.std.proofs.lemmas.List.Sums.{sum_by-cons}
use Rattle.std.proofs.lemmas.Option.{get_or_from_slice_get, slice_get_within, same_Some}
use Rattle.chw_base.specs.declared.index.WireId.{WireId}
use Rattle.net_rules.specs.WellFormed.{WidthsAgree}
use Rattle.netlist.specs.Sound.{AreArithmetic, AreCompared, AreShifted, FitsCell, Fits1, Fits2, HasWidth, IsWire, width_of_all}
use Rattle.netlist.specs.declared.net.Cell.{Cell}
use Rattle.netlist.specs.declared.net.Cell.TheVariants as cell
use Rattle.netlist.specs.declared.net.Module.{Module}
use Rattle.netlist.specs.declared.net.Op1.{Op1}
use Rattle.netlist.specs.declared.net.Op1.TheVariants.{Not, RedAnd, RedOr, RedXor}
use Rattle.netlist.specs.declared.net.Op2.{Op2}
use Rattle.netlist.specs.declared.net.Op2.TheVariants.{Add, Sub, Mul, And, Or, Xor, Eq, LtU, LtS, Shl, Shr, Sar}
use Rattle.verilog_text.specs.Declared.{AreNamesOf, MeansBits}
use Rattle.verilog_text.specs.Denotes.{RightIs}
use Rattle.verilog_text.specs.Denotes.RightIs.{is_binary, is_choice, is_constant, is_copy, is_cut, is_join, is_unary}
use Rattle.verilog_text.specs.VForms.{IsLiteral}
use Rattle.verilog_tree.specs.Sources.{bytes_of, joined_of, range_of, right_of}
use Rattle.verilog_tree.specs.declared.right.Right.{Right}
use Rattle.verilog_tree.specs.declared.right.Right.TheVariants as right
use Rattle.verilog_tree.specs.declared.word.Range.{Range}
use Rattle.verilog_tree.specs.declared.word.Word.{Word}
use Rattle.verilog_rules.specs.NameRules.{operand_check, operands_of}
use Rattle.verilog_rules.specs.NetOf.{bits, value_cell, wire}
use Rattle.verilog_rules.specs.Resolving.{operand, value_of}
use Rattle.verilog_rules.specs.Texts.{number}
use Rattle.verilog_rules.specs.WidthRules.{arithmetic_checks, binary_checks, comparison_checks, cut_checks, equal_checks, unary_checks, join_checks, shift_checks, value_checks, wide, width_check}
use Rattle.verilog_rules.specs.declared.resolved.Operand.{Operand}
use Rattle.verilog_rules.specs.declared.resolved.Wire.{Wire}
use Rattle.verilog_rules.proofs.Holding.{AllTrue}
use Rattle.verilog_rules.proofs.Literals.{bits_back, bits_length, bits_meant}
use Rattle.verilog_rules.proofs.Operands.{Fit, Known, has_width, is_known, known, named, named_back, said}

-- the literals of a right side have their form
abbrev pub LiteralsIn : Right → Type 0
LiteralsIn (right.Constant literal) = IsLiteral (bytes_of literal)
LiteralsIn _ = Unit {0}

pub many_named : (ws : List Wire) (names : List Word) → AllTrue (map (operand_check ws) names)
    → AreNamesOf (map said ws) (map bytes_of names) (map wire (map (operand ws) names))
many_named ws [] all = tt
many_named ws (a ∷ names) all = (named ws a (known ws a all.0), many_named ws names all.1)

pub many_back : (ws : List Wire) (names : List Word) (parts : List WireId) → AreNamesOf (map said ws) (map bytes_of names) parts
    → AllTrue (map (operand_check ws) names) × (parts ≡ map wire (map (operand ws) names))
many_back ws [] [] are = (tt, refl)
many_back ws [] (w ∷ parts) are = absurd are
many_back ws (a ∷ names) [] are = absurd are
many_back ws (a ∷ names) (w ∷ parts) are =
    let first = named_back ws a w are.0 in
    let later = many_back ws names parts are.1 in
    ((is_known ws a first.0, later.0), rw (later.1, first.1) refl)

-- a right side of which each name is known is that of its cell
pub right_is : (ws : List Wire) (w : WireId) (r : Right) (widths : List ℕ) (n : ℕ) → LiteralsIn r
    → AllTrue (map (operand_check ws) (operands_of r)) → AllTrue (value_checks widths n (value_of ws r))
    → RightIs (map said ws) w (right_of r) (value_cell w (value_of ws r))
right_is ws w (right.Constant literal) widths n form names fits =
    is_constant (bytes_of literal) (bits literal) (bits_meant n literal form fits.0)
right_is ws w (right.Copy a) widths n form names fits =
    is_copy (bytes_of a) (operand ws a).wire (named ws a (known ws a names.0))
right_is ws w (right.Join parts) widths n form names fits =
    is_join (joined_of parts) (map wire (map (operand ws) (parts.first ∷ parts.others))) (many_named ws (parts.first ∷ parts.others) names)
right_is ws w (right.Cut a range) widths n form names fits =
    is_cut (bytes_of a) (range_of range) (operand ws a).wire (named ws a (known ws a names.0))
right_is ws w (right.Unary op sign a) widths n form names fits =
    is_unary op (bytes_of a) (operand ws a).wire (named ws a (known ws a names.0))
right_is ws w (right.Binary op sign a b) widths n form names fits =
    is_binary op (bytes_of a) (bytes_of b) (operand ws a).wire (operand ws b).wire (named ws a (known ws a names.0)) (named ws b (known ws b names.1.0))
right_is ws w (right.Choice c a b) widths n form names fits =
    is_choice (bytes_of c) (bytes_of a) (bytes_of b) (operand ws c).wire (operand ws a).wire (operand ws b).wire
    (named ws c (known ws c names.0)) (named ws a (known ws a names.1.0)) (named ws b (known ws b names.1.1.0))

-- and back
pub right_named : (ws : List Wire) (w : WireId) (r : Right) (made : Cell) → RightIs (map said ws) w (right_of r) made
    → AllTrue (map (operand_check ws) (operands_of r)) × (made ≡ value_cell w (value_of ws r))
right_named ws w (right.Constant literal) made (is_constant text bs means) =
    (tt, ap (λ (b : List Bool). cell.Const w b) (bits_back literal bs means).0)
right_named ws w (right.Copy a) made (is_copy text v is) =
    let back = named_back ws a v is in
    ((is_known ws a back.0, tt), ap (λ (x : WireId). cell.Copy w x) (sym back.1))
right_named ws w (right.Join parts) made (is_join names vs are) =
    let back = many_back ws (parts.first ∷ parts.others) vs are in
    (back.0, ap (λ (x : List WireId). cell.Join w x) back.1)
right_named ws w (right.Cut a range) made (is_cut text said_range v is) =
    let back = named_back ws a v is in
    ((is_known ws a back.0, tt), ap (λ (x : WireId). cell.Cut w x (number range.from) (number range.to)) (sym back.1))
right_named ws w (right.Unary op sign a) made (is_unary said_op text v is) =
    let back = named_back ws a v is in
    ((is_known ws a back.0, tt), ap (λ (x : WireId). cell.Un w op x) (sym back.1))
right_named ws w (right.Binary op sign a b) made (is_binary said_op text more v u is are) =
    let first = named_back ws a v is in
    let second = named_back ws b u are in
    ((is_known ws a first.0, (is_known ws b second.0, tt)), rw (first.1, second.1) refl)
right_named ws w (right.Choice c a b) made (is_choice text second third x v u is are also) =
    let first = named_back ws c x is in
    let yes = named_back ws a v are in
    let no = named_back ws b u also in
    ((is_known ws c first.0, (is_known ws a yes.0, (is_known ws b no.0, tt))), rw (first.1, yes.1, no.1) refl)

-- an operand that passes its check has the width
pub is_wide : (ws : List Wire) (widths : List ℕ) (a : Word) (n : ℕ) → Fit ws widths → Known ws a → (width_check widths n (operand ws a)).holds ≡ true
    → HasWidth widths (operand ws a).wire n
is_wide ws widths a n fit k holds = rw (sym (eqb-true (wide widths (operand ws a)) n holds)) (has_width ws widths a fit k)

-- and back
pub wide_holds : (widths : List ℕ) (a : Operand) (n : ℕ) → HasWidth widths a.wire n → (width_check widths n a).holds ≡ true
wide_holds widths a n has = eq-eqb (wide widths a) n (get_or_from_slice_get widths a.wire.number n 0 has)

pub one_width : (widths : List ℕ) (w : WireId) (m n : ℕ) → HasWidth widths w m → HasWidth widths w n → m ≡ n
one_width widths w m n first second = same_Some m n (sym first ∙ second)

pub is_wire : (widths : List ℕ) (w : WireId) (n : ℕ) → HasWidth widths w n → IsWire widths w
is_wire widths w n has = slice_get_within widths w.number n has

all_wires : (ws : List Wire) (widths : List ℕ) (names : List Word) → Fit ws widths → AllTrue (map (operand_check ws) names)
    → AllByRecursion (IsWire widths) (map wire (map (operand ws) names))
all_wires ws widths [] fit all = tt
all_wires ws widths (a ∷ names) fit all =
    (is_wire widths (operand ws a).wire (wide widths (operand ws a)) (has_width ws widths a fit (known ws a all.0)), all_wires ws widths names fit all.1)

join_sum : (widths : List ℕ) (n so_far : ℕ) (parts : List Operand) (close : ℕ) → so_far ≤ n → AllTrue (join_checks widths n so_far parts close)
    → so_far + width_of_all widths (map wire parts) ≡ n
join_sum widths n so_far [] close below all =
    let least : n ≤ so_far = leb-true n so_far all.0 in omega arith
join_sum widths n so_far (a ∷ parts) close below all =
    let next : so_far + wide widths a ≤ n = leb-true (so_far + wide widths a) n all.0 in
    let more : (so_far + wide widths a) + width_of_all widths (map wire parts) ≡ n = join_sum widths n (so_far + wide widths a) parts close next all.1 in
    let first : width_of_all widths (map wire (a ∷ parts)) ≡ wide widths a + width_of_all widths (map wire parts) = sum_by-cons (λ (w : WireId). slice_index widths w.number) a.wire (map wire parts) in
    omega arith

sum_joins : (widths : List ℕ) (n so_far : ℕ) (parts : List Operand) (close : ℕ) → so_far + width_of_all widths (map wire parts) ≡ n
    → AllTrue (join_checks widths n so_far parts close)
sum_joins widths n so_far [] close sum = (le-leb n so_far (omega arith), tt)
sum_joins widths n so_far (a ∷ parts) close sum =
    let first : width_of_all widths (map wire (a ∷ parts)) ≡ wide widths a + width_of_all widths (map wire parts) = sum_by-cons (λ (w : WireId). slice_index widths w.number) a.wire (map wire parts) in
    (le-leb (so_far + wide widths a) n (omega arith), sum_joins widths n (so_far + wide widths a) parts close (omega arith))

abbrev pub all_known : List Wire → Right → Type 0
all_known ws r = AllTrue (map (operand_check ws) (operands_of r))

cut_agrees : (ws : List Wire) (w : WireId) (a : Word) (range : Range) (widths : List ℕ) (n : ℕ) → Fit ws widths → HasWidth widths w n → Known ws a
    → AllTrue (value_checks widths n (value_of ws (right.Cut a range))) → WidthsAgree [] widths (value_cell w (value_of ws (right.Cut a range)))
cut_agrees ws w a range widths n fit has k all =
    let inside : number range.from < wide widths (operand ws a) = ltb-true (number range.from) (wide widths (operand ws a)) all.0 in
    let parts = and_parts (leb (number range.to) (number range.from)) (eqb n (number range.from - number range.to + 1)) all.1.0 in
    let down : number range.to ≤ number range.from = leb-true (number range.to) (number range.from) parts.0 in
    let exact : n ≡ number range.from - number range.to + 1 = eqb-true n (number range.from - number range.to + 1) parts.1 in
    (down, rw (sym exact) has, (wide widths (operand ws a), inside, has_width ws widths a fit k))

compared : (ws : List Wire) (w : WireId) (sign : ℕ) (a b : Word) (widths : List ℕ) (n : ℕ) → Fit ws widths → HasWidth widths w n
    → Known ws a → Known ws b → AllTrue (comparison_checks widths n sign (operand ws a) (operand ws b))
    → AreCompared widths w (operand ws a).wire (operand ws b).wire
compared ws w sign a b widths n fit has x y all = (
  rw (sym (eqb-true n 1 all.0)) has,
  (wide widths (operand ws a), has_width ws widths a fit x, is_wide ws widths b (wide widths (operand ws a)) fit y all.1.0),
)

shifted : (ws : List Wire) (w : WireId) (a b : Word) (widths : List ℕ) (n : ℕ) → Fit ws widths → HasWidth widths w n
    → Known ws a → Known ws b → AllTrue (shift_checks widths n (operand ws a)) → AreShifted widths w (operand ws a).wire (operand ws b).wire
shifted ws w a b widths n fit has x y all =
    (is_wire widths (operand ws b).wire (wide widths (operand ws b)) (has_width ws widths b fit y), (n, has, is_wide ws widths a n fit x all.0))

binary_agrees : (ws : List Wire) (w : WireId) (op : Op2) (sign : ℕ) (a b : Word) (widths : List ℕ) (n : ℕ) → Fit ws widths → HasWidth widths w n
    → Known ws a → Known ws b → AllTrue (value_checks widths n (value_of ws (right.Binary op sign a b)))
    → WidthsAgree [] widths (value_cell w (value_of ws (right.Binary op sign a b)))
binary_agrees ws w Add sign a b widths n fit has x y all =
    (n, leb-true n 128 all.0, has, is_wide ws widths a n fit x all.1.0, is_wide ws widths b n fit y all.1.1.0)
binary_agrees ws w Sub sign a b widths n fit has x y all =
    (n, leb-true n 128 all.0, has, is_wide ws widths a n fit x all.1.0, is_wide ws widths b n fit y all.1.1.0)
binary_agrees ws w Mul sign a b widths n fit has x y all =
    (n, leb-true n 128 all.0, has, is_wide ws widths a n fit x all.1.0, is_wide ws widths b n fit y all.1.1.0)
binary_agrees ws w And sign a b widths n fit has x y all = (n, has, is_wide ws widths a n fit x all.0, is_wide ws widths b n fit y all.1.0)
binary_agrees ws w Or sign a b widths n fit has x y all = (n, has, is_wide ws widths a n fit x all.0, is_wide ws widths b n fit y all.1.0)
binary_agrees ws w Xor sign a b widths n fit has x y all = (n, has, is_wide ws widths a n fit x all.0, is_wide ws widths b n fit y all.1.0)
binary_agrees ws w Eq sign a b widths n fit has x y all = compared ws w sign a b widths n fit has x y all
binary_agrees ws w LtU sign a b widths n fit has x y all = compared ws w sign a b widths n fit has x y all
binary_agrees ws w LtS sign a b widths n fit has x y all = compared ws w sign a b widths n fit has x y all
binary_agrees ws w Shl sign a b widths n fit has x y all = shifted ws w a b widths n fit has x y all
binary_agrees ws w Shr sign a b widths n fit has x y all = shifted ws w a b widths n fit has x y all
binary_agrees ws w Sar sign a b widths n fit has x y all = shifted ws w a b widths n fit has x y all

unary_agrees : (ws : List Wire) (w : WireId) (op : Op1) (sign : ℕ) (a : Word) (widths : List ℕ) (n : ℕ) → Fit ws widths → HasWidth widths w n
    → Known ws a → AllTrue (value_checks widths n (value_of ws (right.Unary op sign a)))
    → WidthsAgree [] widths (value_cell w (value_of ws (right.Unary op sign a)))
unary_agrees ws w Not sign a widths n fit has x all = (n, has, is_wide ws widths a n fit x all.0)
unary_agrees ws w RedAnd sign a widths n fit has x all =
    (rw (sym (eqb-true n 1 all.0)) has, is_wire widths (operand ws a).wire (wide widths (operand ws a)) (has_width ws widths a fit x))
unary_agrees ws w RedOr sign a widths n fit has x all =
    (rw (sym (eqb-true n 1 all.0)) has, is_wire widths (operand ws a).wire (wide widths (operand ws a)) (has_width ws widths a fit x))
unary_agrees ws w RedXor sign a widths n fit has x all =
    (rw (sym (eqb-true n 1 all.0)) has, is_wire widths (operand ws a).wire (wide widths (operand ws a)) (has_width ws widths a fit x))

-- the widths of the cell of a right side agree where its checks hold
pub value_agrees : (earlier : List Module) (ws : List Wire) (w : WireId) (r : Right) (widths : List ℕ) (n : ℕ) → Fit ws widths → HasWidth widths w n
    → all_known ws r → AllTrue (value_checks widths n (value_of ws r)) → WidthsAgree earlier widths (value_cell w (value_of ws r))
value_agrees earlier ws w (right.Constant literal) widths n fit has names all = rw (bits_length n literal all.0) has
value_agrees earlier ws w (right.Copy a) widths n fit has names all = (n, has, is_wide ws widths a n fit (known ws a names.0) all.0)
value_agrees earlier ws w (right.Join parts) widths n fit has names all =
    let sum : 0 + width_of_all widths (map wire (map (operand ws) (parts.first ∷ parts.others))) ≡ n =
    join_sum widths n 0 (map (operand ws) (parts.first ∷ parts.others)) parts.close (omega arith) all in
    let total : width_of_all widths (map wire (map (operand ws) (parts.first ∷ parts.others))) ≡ n = omega arith in
    (all_wires ws widths (parts.first ∷ parts.others) fit names, rw total has)
value_agrees earlier ws w (right.Cut a range) widths n fit has names all = cut_agrees ws w a range widths n fit has (known ws a names.0) all
value_agrees earlier ws w (right.Unary op sign a) widths n fit has names all = unary_agrees ws w op sign a widths n fit has (known ws a names.0) all
value_agrees earlier ws w (right.Binary op sign a b) widths n fit has names all =
    binary_agrees ws w op sign a b widths n fit has (known ws a names.0) (known ws b names.1.0) all
value_agrees earlier ws w (right.Choice c a b) widths n fit has names all = (
  is_wide ws widths c 1 fit (known ws c names.0) all.0,
  (n, has, is_wide ws widths a n fit (known ws a names.1.0) all.1.0, is_wide ws widths b n fit (known ws b names.1.1.0) all.1.1.0),
)

same_wide : (widths : List ℕ) (w : WireId) (a : Operand) (m n : ℕ) → HasWidth widths w n → HasWidth widths w m → HasWidth widths a.wire m
    → (width_check widths n a).holds ≡ true
same_wide widths w a m n has also other = wide_holds widths a n (rw (one_width widths w n m has also) other)

one_bit : (widths : List ℕ) (w : WireId) (n : ℕ) → HasWidth widths w n → HasWidth widths w 1 → eqb n 1 ≡ true
one_bit widths w n has also = eq-eqb n 1 (one_width widths w n 1 has also)

equal_back : (widths : List ℕ) (w : WireId) (a b : Operand) (m n : ℕ) → HasWidth widths w n → HasWidth widths w m → HasWidth widths a.wire m
    → HasWidth widths b.wire m → AllTrue (equal_checks widths n a b)
equal_back widths w a b m n has also first second = (same_wide widths w a m n has also first, (same_wide widths w b m n has also second, tt))

arithmetic_back : (widths : List ℕ) (w : WireId) (sign : ℕ) (a b : Operand) (n : ℕ) → HasWidth widths w n → AreArithmetic widths w a.wire b.wire
    → AllTrue (arithmetic_checks widths n sign a b)
arithmetic_back widths w sign a b n has agree =
    let same : n ≡ agree.0 = one_width widths w n agree.0 has agree.2 in
    (le-leb n 128 (rw same agree.1), equal_back widths w a b agree.0 n has agree.2 agree.3 agree.4)

compared_back : (widths : List ℕ) (w : WireId) (sign : ℕ) (a b : Operand) (n : ℕ) → HasWidth widths w n → AreCompared widths w a.wire b.wire
    → AllTrue (comparison_checks widths n sign a b)
compared_back widths w sign a b n has agree =
    let wide_a : wide widths a ≡ agree.1.0 = get_or_from_slice_get widths a.wire.number agree.1.0 0 agree.1.1 in
    (one_bit widths w n has agree.0, (wide_holds widths b (wide widths a) (rw wide_a agree.1.2), tt))

binary_back : (widths : List ℕ) (w : WireId) (op : Op2) (sign : ℕ) (a b : Operand) (n : ℕ) → HasWidth widths w n → Fits2 widths op w a.wire b.wire
    → AllTrue (binary_checks widths n op sign a b)
binary_back widths w Add sign a b n has agree = arithmetic_back widths w sign a b n has agree
binary_back widths w Sub sign a b n has agree = arithmetic_back widths w sign a b n has agree
binary_back widths w Mul sign a b n has agree = arithmetic_back widths w sign a b n has agree
binary_back widths w And sign a b n has agree = equal_back widths w a b agree.0 n has agree.1 agree.2 agree.3
binary_back widths w Or sign a b n has agree = equal_back widths w a b agree.0 n has agree.1 agree.2 agree.3
binary_back widths w Xor sign a b n has agree = equal_back widths w a b agree.0 n has agree.1 agree.2 agree.3
binary_back widths w Eq sign a b n has agree = compared_back widths w sign a b n has agree
binary_back widths w LtU sign a b n has agree = compared_back widths w sign a b n has agree
binary_back widths w LtS sign a b n has agree = compared_back widths w sign a b n has agree
binary_back widths w Shl sign a b n has agree = (same_wide widths w a agree.1.0 n has agree.1.1 agree.1.2, tt)
binary_back widths w Shr sign a b n has agree = (same_wide widths w a agree.1.0 n has agree.1.1 agree.1.2, tt)
binary_back widths w Sar sign a b n has agree = (same_wide widths w a agree.1.0 n has agree.1.1 agree.1.2, tt)

unary_back : (widths : List ℕ) (w : WireId) (op : Op1) (sign : ℕ) (a : Operand) (n : ℕ) → HasWidth widths w n → Fits1 widths op w a.wire
    → AllTrue (unary_checks widths n op sign a)
unary_back widths w Not sign a n has agree = (same_wide widths w a agree.0 n has agree.1 agree.2, tt)
unary_back widths w RedAnd sign a n has agree = (one_bit widths w n has agree.0, tt)
unary_back widths w RedOr sign a n has agree = (one_bit widths w n has agree.0, tt)
unary_back widths w RedXor sign a n has agree = (one_bit widths w n has agree.0, tt)

cut_back : (widths : List ℕ) (w : WireId) (a : Operand) (range : Range) (n : ℕ) → HasWidth widths w n
    → FitsCell 0 widths (cell.Cut w a.wire (number range.from) (number range.to)) → AllTrue (cut_checks widths n a range)
cut_back widths w a range n has agree =
    let wide_a : wide widths a ≡ agree.2.0 = get_or_from_slice_get widths a.wire.number agree.2.0 0 agree.2.2 in
    let exact : n ≡ number range.from - number range.to + 1 = one_width widths w n (number range.from - number range.to + 1) has agree.1 in (
      lt-ltb (number range.from) (wide widths a) (rw wide_a agree.2.1),
      (
        and_from (leb (number range.to) (number range.from)) (eqb n (number range.from - number range.to + 1))
            (le-leb (number range.to) (number range.from) agree.0) (eq-eqb n (number range.from - number range.to + 1) exact),
        tt,
      ),
    )

-- a constant means some bits
abbrev pub ConstantMeans : Right → Type 0
ConstantMeans (right.Constant literal) = (bs : List Bool) × MeansBits (bytes_of literal) bs
ConstantMeans _ = Unit {0}

pub constant_means : (ws : List Wire) (w : WireId) (r : Right) (made : Cell) → RightIs (map said ws) w (right_of r) made → ConstantMeans r
constant_means ws w (right.Constant literal) made (is_constant text bs means) = (bs, means)
constant_means ws w (right.Copy a) made is = tt
constant_means ws w (right.Join parts) made is = tt
constant_means ws w (right.Cut a range) made is = tt
constant_means ws w (right.Unary op sign a) made is = tt
constant_means ws w (right.Binary op sign a b) made is = tt
constant_means ws w (right.Choice c a b) made is = tt

-- where the widths of the cell of a right side agree, its checks hold
pub value_checked : (earlier : List Module) (ws : List Wire) (w : WireId) (r : Right) (widths : List ℕ) (n : ℕ) → HasWidth widths w n
    → ConstantMeans r → WidthsAgree earlier widths (value_cell w (value_of ws r)) → AllTrue (value_checks widths n (value_of ws r))
value_checked earlier ws w (right.Constant literal) widths n has means agree =
    let back = bits_back literal means.0 means.1 in
    let long : n ≡ length means.0 = one_width widths w n (length (bits literal)) has agree ∙ ap (λ (b : List Bool). length b) (sym back.0) in
    (rw long back.1, tt)
value_checked earlier ws w (right.Copy a) widths n has means agree = (same_wide widths w (operand ws a) agree.0 n has agree.1 agree.2, tt)
value_checked earlier ws w (right.Join parts) widths n has means agree =
    let total : n ≡ width_of_all widths (map wire (map (operand ws) (parts.first ∷ parts.others))) =
    one_width widths w n (width_of_all widths (map wire (map (operand ws) (parts.first ∷ parts.others)))) has agree.1 in
    sum_joins widths n 0 (map (operand ws) (parts.first ∷ parts.others)) parts.close (omega arith)
value_checked earlier ws w (right.Cut a range) widths n has means agree = cut_back widths w (operand ws a) range n has agree
value_checked earlier ws w (right.Unary op sign a) widths n has means agree = unary_back widths w op sign (operand ws a) n has agree
value_checked earlier ws w (right.Binary op sign a b) widths n has means agree = binary_back widths w op sign (operand ws a) (operand ws b) n has agree
value_checked earlier ws w (right.Choice c a b) widths n has means agree =
    (wide_holds widths (operand ws c) 1 agree.0, equal_back widths w (operand ws a) (operand ws b) agree.1.0 n has agree.1.1 agree.1.2 agree.1.3)
