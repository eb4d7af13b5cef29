-- Keys that are equal are those of equal things.
use Rattle.std.proofs.Common.{◌≡◌, ℕ, ◌==◌, Bool, true, false, List, [], ◌∷◌, ◌++◌, length, Some, refl, sym, ap, ◌∙◌, arith, if◌then◌else◌}
use Rattle.std.specs.Prelude.{flat_map}
use Rattle.std.proofs.lemmas.List.{length-map}
use Rattle.std.proofs.lemmas.Option.{none-some}
use Rattle.chw_base.specs.declared.index.DomId.{DomId}
use Rattle.chw_base.specs.declared.index.WireId.{WireId}
use Rattle.netlist.specs.Feeds.{target}
use Rattle.netlist.specs.Wires.{read_by}
use Rattle.netlist.specs.declared.net.Cell.{Cell}
use Rattle.netlist.specs.declared.net.Cell.TheVariants.{Const, Copy, Join, Cut, Un, Bin, Mux, Reg, Ram, Use}
use Rattle.netlist.specs.declared.net.Op1.{Op1}
use Rattle.netlist.specs.declared.net.Op1.TheVariants.{Not, RedAnd, RedOr, RedXor}
use Rattle.netlist.specs.declared.net.Op2.{Op2}
use Rattle.netlist.specs.declared.net.Op2.TheVariants.{Add, Sub, Mul, And, Or, Xor, Eq, LtU, LtS, Shl, Shr, Sar}
use Rattle.share_laws.specs.Same.{bare, wire_0, zero_wires}
use Rattle.wire_classes.specs.Closed.{label_of, labels_of}
use Rattle.wire_classes.specs.Keys.{above, bit_key, bits_key, cell_key, form_key, lowest, numbers_key, op1_key, op2_key, tagged, word_key}

-- the first byte of a key, and what is behind it
abbrev pub first_of : List ℕ → ℕ
first_of [] = 0
first_of (x ∷ xs) = x

abbrev pub rest_of : List ℕ → List ℕ
rest_of [] = []
rest_of (x ∷ xs) = xs

one_byte : (a b : ℕ) → lowest a ≡ lowest b → above a ≡ above b → a ≡ b
one_byte a b e f = omega (arith, e, f)

pub tagged_apart : (t n m : ℕ) (xs ys : List ℕ) → tagged t n ++ xs ≡ tagged t m ++ ys → (n ≡ m) × (xs ≡ ys)
tagged_apart t n m xs ys e =
    let a : lowest n ∷ lowest (above n) ∷ lowest (above (above n)) ∷ above (above (above n)) ∷ xs
    ≡ lowest m ∷ lowest (above m) ∷ lowest (above (above m)) ∷ above (above (above m)) ∷ ys = ap rest_of e in
    let b : lowest (above n) ∷ lowest (above (above n)) ∷ above (above (above n)) ∷ xs
    ≡ lowest (above m) ∷ lowest (above (above m)) ∷ above (above (above m)) ∷ ys = ap rest_of a in
    let c : lowest (above (above n)) ∷ above (above (above n)) ∷ xs ≡ lowest (above (above m)) ∷ above (above (above m)) ∷ ys = ap rest_of b in
    let d : above (above (above n)) ∷ xs ≡ above (above (above m)) ∷ ys = ap rest_of c in
    let third : above (above n) ≡ above (above m) = one_byte (above (above n)) (above (above m)) (ap first_of c) (ap first_of d) in
    let second : above n ≡ above m = one_byte (above n) (above m) (ap first_of b) third in
    (one_byte n m (ap first_of a) second, ap rest_of d)

-- lists of numbers
pub numbers_apart : (ns ms xs ys : List ℕ) → numbers_key ns ++ xs ≡ numbers_key ms ++ ys → (ns ≡ ms) × (xs ≡ ys)
numbers_apart [] [] xs ys e = (refl, ap rest_of e)
numbers_apart [] (m ∷ ms) xs ys e = absurd (let h : ◌≡◌ {A = ℕ} 0 1 = ap first_of e in omega (arith, h))
numbers_apart (n ∷ ns) [] xs ys e = absurd (let h : ◌≡◌ {A = ℕ} 1 0 = ap first_of e in omega (arith, h))
numbers_apart (n ∷ ns) (m ∷ ms) xs ys e =
    let one = tagged_apart 1 n m (numbers_key ns ++ xs) (numbers_key ms ++ ys) e in
    let rest = numbers_apart ns ms xs ys one.1 in
    (ap (λ x. x ∷ ns) one.0 ∙ ap (λ l. m ∷ l) rest.0, rest.1)

-- bits
bit_apart : (x y : Bool) → bit_key x ≡ bit_key y → x ≡ y
bit_apart true true e = refl
bit_apart true false e = absurd (let h : ◌≡◌ {A = ℕ} 1 0 = e in omega (arith, h))
bit_apart false true e = absurd (let h : ◌≡◌ {A = ℕ} 0 1 = e in omega (arith, h))
bit_apart false false e = refl

pub bits_apart : (xs ys : List Bool) → bits_key xs ≡ bits_key ys → xs ≡ ys
bits_apart [] [] e = refl
bits_apart [] (y ∷ ys) e = absurd (cc)
bits_apart (x ∷ xs) [] e = absurd (cc)
bits_apart (x ∷ xs) (y ∷ ys) e =
    ap (λ b. b ∷ xs) (bit_apart x y (ap first_of e)) ∙ ap (λ l. y ∷ l) (bits_apart xs ys (ap rest_of e))

-- words
not_end : (x : Bool) → bit_key x ≡ 2 → ⊥
not_end true e = let h : ◌≡◌ {A = ℕ} 1 2 = e in omega (arith, h)
not_end false e = let h : ◌≡◌ {A = ℕ} 0 2 = e in omega (arith, h)

word_apart : (u v : List Bool) (xs ys : List ℕ) → word_key u ++ xs ≡ word_key v ++ ys → (u ≡ v) × (xs ≡ ys)
word_apart [] [] xs ys e = (refl, ap rest_of e)
word_apart [] (y ∷ v) xs ys e = absurd (not_end y (sym (ap first_of e)))
word_apart (x ∷ u) [] xs ys e = absurd (not_end x (ap first_of e))
word_apart (x ∷ u) (y ∷ v) xs ys e =
    let rest = word_apart u v xs ys (ap rest_of e) in
    (ap (λ b. b ∷ u) (bit_apart x y (ap first_of e)) ∙ ap (λ l. y ∷ l) rest.0, rest.1)

word_some : (v : List Bool) (ys : List ℕ) → word_key v ++ ys ≡ [] → ⊥
word_some [] ys e = cc
word_some (y ∷ v) ys e = cc

words_apart : (us vs : List (List Bool)) → flat_map word_key us ≡ flat_map word_key vs → us ≡ vs
words_apart [] [] e = refl
words_apart [] (v ∷ vs) e = absurd (word_some v (flat_map word_key vs) (sym e))
words_apart (u ∷ us) [] e = absurd (word_some u (flat_map word_key us) e)
words_apart (u ∷ us) (v ∷ vs) e =
    let one = word_apart u v (flat_map word_key us) (flat_map word_key vs) e in
    ap (λ w. w ∷ us) one.0 ∙ ap (λ l. v ∷ l) (words_apart us vs one.1)

-- operators
abbrev op1_of : ℕ → Op1
op1_of n = if n == 0 then Not else (if n == 1 then RedAnd else (if n == 2 then RedOr else RedXor))

op1_back : (op : Op1) → op1_of (op1_key op) ≡ op
op1_back Not = refl
op1_back RedAnd = refl
op1_back RedOr = refl
op1_back RedXor = refl

op1_apart : (a b : Op1) → op1_key a ≡ op1_key b → a ≡ b
op1_apart a b e = sym (op1_back a) ∙ ap op1_of e ∙ op1_back b

abbrev op2_of : ℕ → Op2
op2_of n =
    if n == 0 then Add else (if n == 1 then Sub else (if n == 2 then Mul else (if n == 3 then And else
    (if n == 4 then Or else (if n == 5 then Xor else (if n == 6 then Eq else (if n == 7 then LtU else
    (if n == 8 then LtS else (if n == 9 then Shl else (if n == 10 then Shr else Sar))))))))))

op2_back : (op : Op2) → op2_of (op2_key op) ≡ op
op2_back Add = refl
op2_back Sub = refl
op2_back Mul = refl
op2_back And = refl
op2_back Or = refl
op2_back Xor = refl
op2_back Eq = refl
op2_back LtU = refl
op2_back LtS = refl
op2_back Shl = refl
op2_back Shr = refl
op2_back Sar = refl

op2_apart : (a b : Op2) → op2_key a ≡ op2_key b → a ≡ b
op2_apart a b e = sym (op2_back a) ∙ ap op2_of e ∙ op2_back b

-- cells without their wires
zeros_same : (vs ws : List WireId) → length vs ≡ length ws → zero_wires vs ≡ zero_wires ws
zeros_same [] [] e = refl
zeros_same [] (w ∷ ws) e = absurd (omega (arith, e))
zeros_same (v ∷ vs) [] e = absurd (omega (arith, e))
zeros_same (v ∷ vs) (w ∷ ws) e = ap (λ l. wire_0 ∷ l) (zeros_same vs ws (omega (arith, e)))

abbrev domain_of : ℕ → DomId
domain_of n = record { number = n }

pub form_apart : (c d : Cell) (n : ℕ) → form_key c ≡ form_key d → length (read_by c) ≡ length (read_by d) → target c ≡ Some n → bare c ≡ bare d
form_apart (Const v bits) (Const w others) n e l t = ap (λ x. Const wire_0 x) (bits_apart bits others (ap rest_of e))
form_apart (Const v bits) d n e l t = absurd (let h : first_of (form_key d) ≡ 0 = sym (ap first_of e) in omega (arith, h))
form_apart (Copy v a) (Copy w b) n e l t = refl
form_apart (Copy v a) d n e l t = absurd (let h : first_of (form_key d) ≡ 1 = sym (ap first_of e) in omega (arith, h))
form_apart (Join v parts) (Join w others) n e l t = ap (λ x. Join wire_0 x) (zeros_same parts others l)
form_apart (Join v parts) d n e l t = absurd (let h : first_of (form_key d) ≡ 2 = sym (ap first_of e) in omega (arith, h))
form_apart (Cut v a high low) (Cut w b top bottom) n e l t =
    let one = tagged_apart 3 high top (tagged 3 low) (tagged 3 bottom) e in
    let two = tagged_apart 3 low bottom [] [] one.1 in
    ap (λ x. Cut wire_0 wire_0 x low) one.0 ∙ ap (λ x. Cut wire_0 wire_0 top x) two.0
form_apart (Cut v a high low) d n e l t = absurd (let h : first_of (form_key d) ≡ 3 = sym (ap first_of e) in omega (arith, h))
form_apart (Un v op a) (Un w other b) n e l t = ap (λ x. Un wire_0 x wire_0) (op1_apart op other (ap first_of (ap rest_of e)))
form_apart (Un v op a) d n e l t = absurd (let h : first_of (form_key d) ≡ 4 = sym (ap first_of e) in omega (arith, h))
form_apart (Bin v op a b) (Bin w other x y) n e l t =
    ap (λ x. Bin wire_0 x wire_0 wire_0) (op2_apart op other (ap first_of (ap rest_of e)))
form_apart (Bin v op a b) d n e l t = absurd (let h : first_of (form_key d) ≡ 5 = sym (ap first_of e) in omega (arith, h))
form_apart (Mux v c a b) (Mux w o x y) n e l t = refl
form_apart (Mux v c a b) d n e l t = absurd (let h : first_of (form_key d) ≡ 6 = sym (ap first_of e) in omega (arith, h))
form_apart (Reg v domain initial a) (Reg w other bits b) n e l t =
    let one = tagged_apart 7 domain.number other.number (bits_key initial) (bits_key bits) e in
    ap (λ x. Reg wire_0 (domain_of x) initial wire_0) one.0 ∙ ap (λ x. Reg wire_0 other x wire_0) (bits_apart initial bits one.1)
form_apart (Reg v domain initial a) d n e l t = absurd (let h : first_of (form_key d) ≡ 7 = sym (ap first_of e) in omega (arith, h))
form_apart (Ram v domain words inputs) (Ram w other values others) n e l t =
    let one = tagged_apart 8 domain.number other.number (flat_map word_key words) (flat_map word_key values) e in
    ap (λ x. bare (Ram v (domain_of x) words inputs)) one.0 ∙ ap (λ x. bare (Ram v other x inputs)) (words_apart words values one.1)
form_apart (Ram v domain words inputs) d n e l t = absurd (let h : first_of (form_key d) ≡ 8 = sym (ap first_of e) in omega (arith, h))
form_apart (Use m reads drives) d n e l t = absurd (none-some n t)

-- cells with equal keys read wires of the same labels, and are equal without their wires
pub record KeysMeet (of : List ℕ) (c d : Cell) : Type 0 where
  pub labels : labels_of of (read_by c) ≡ labels_of of (read_by d)
  pub bares : bare c ≡ bare d

pub cell_apart : (of : List ℕ) (c d : Cell) (n : ℕ) → target c ≡ Some n → cell_key of c ≡ cell_key of d → KeysMeet of c d
cell_apart of c d n t e =
    let both = numbers_apart (labels_of of (read_by c)) (labels_of of (read_by d)) (form_key c) (form_key d) e in
    let count : length (read_by c) ≡ length (read_by d) = counted both.0 in
    record { labels = both.0; bares = form_apart c d n both.1 count t }
  where
    counted : labels_of of (read_by c) ≡ labels_of of (read_by d) → length (read_by c) ≡ length (read_by d)
    counted same =
        sym (length-map (read_by c) (λ (w : WireId). label_of of w.number)) ∙ ap length same
        ∙ length-map (read_by d) (λ (w : WireId). label_of of w.number)

-- and the other way round
form_bare : (c : Cell) → form_key (bare c) ≡ form_key c
form_bare (Const w bits) = refl
form_bare (Copy w a) = refl
form_bare (Join w parts) = refl
form_bare (Cut w a high low) = refl
form_bare (Un w op a) = refl
form_bare (Bin w op a b) = refl
form_bare (Mux w c a b) = refl
form_bare (Reg w domain initial a) = refl
form_bare (Ram w domain words inputs) = refl
form_bare (Use m reads drives) = refl

pub cell_meet : (of : List ℕ) (c d : Cell) → bare c ≡ bare d → labels_of of (read_by c) ≡ labels_of of (read_by d) → cell_key of c ≡ cell_key of d
cell_meet of c d e same =
    ap (λ l. numbers_key l ++ form_key c) same
    ∙ ap (λ l. numbers_key (labels_of of (read_by d)) ++ l) (sym (form_bare c) ∙ ap form_key e ∙ form_bare d)
