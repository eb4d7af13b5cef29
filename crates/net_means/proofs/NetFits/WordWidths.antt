-- The cells of primitives on words agree in width, where their operands have the widths of their types.
use Rattle.std.specs.Prelude.{slice_index}
use Rattle.std.proofs.Common.{◌≡◌, ℕ, zero, suc, ◌+◌, ◌-◌, ◌<◌, ◌≤◌, arith, Bool, List, [], ◌∷◌, ◌++◌, length, replicate, Some, refl, sym, ap, ◌∙◌, subst}
use Rattle.std.specs.List.{AllByRecursion}
use Rattle.std.proofs.lemmas.List.{length-replicate}
use Rattle.std.proofs.lemmas.List.Sums.{sum_by-cons}
use Rattle.std.proofs.lemmas.Option.{get_or_from_slice_get, slice_get_within}
use Rattle.chw_base.specs.declared.index.WireId.{WireId}
use Rattle.chw_base.specs.declared.limits.TheConstants.{ARITHMETIC_BITS, SCALAR_BITS}
use Rattle.chw_types.specs.declared.kind.Scalar.{Scalar}
use Rattle.chw_types.specs.declared.kind.Scalar.TheVariants.{U, S, B}
use Rattle.chw_prims.specs.declared.prim.Primitive.{Primitive as Prim}
use Rattle.chw_prims.specs.declared.prim.Primitive.TheVariants.{AddU, AddS, SubU, SubS, MulU, MulS, XaddU, XaddS, XmulU, XmulS, AndU, AndS, AndB, OrU, OrS, OrB, XorU, XorS, XorB, NotU, NotS, NotB, ShlU, ShlS, ShlB, ShrU, ShrS, ShrB, EqU, EqS, EqB, LtU as PrimLtU, LtS as PrimLtS, ExtU, ExtS, ExtB, TruncU, TruncS, TruncB, Slice, Join as PrimJoin, RedAnd as PrimRedAnd, RedOr as PrimRedOr, RedXor as PrimRedXor, PackU, PackS, UnpackU, UnpackS}
use Rattle.chw_prims.specs.declared.row.Row.{Row}
use Rattle.chw_prims.specs.declared.row.Row.TheVariants.{Binary, WideSum, WideProduct, Shift, Compare, Truncate, Cut as CutRow, Joined}
use Rattle.chw_prims.specs.Schemas.{row_of}
use Rattle.rewriting.specs.Spots.{IsOnWords}
use Rattle.netlist.specs.Operators.{operator1, operator2}
use Rattle.netlist.specs.Sound.{AreArithmetic, AreCompared, AreEqual, AreShifted, Fits1, Fits2, HasWidth, IsWire, width_of_all}
use Rattle.netlist.specs.declared.net.Cell.{Cell}
use Rattle.netlist.specs.declared.net.Cell.TheVariants.{Const, Copy, Join, Cut, Un, Bin}
use Rattle.netlist.specs.declared.net.Module.{Module}
use Rattle.netlist.specs.declared.net.Op1.{Op1}
use Rattle.netlist.specs.declared.net.Op1.TheVariants.{Not, RedAnd, RedOr, RedXor}
use Rattle.netlist.specs.declared.net.Op2.{Op2}
use Rattle.netlist.specs.declared.net.Op2.TheVariants.{Add, Sub, Mul, And, Or, Xor, Eq, LtU, LtS, Shl, Shr, Sar}
use Rattle.net_rules.specs.WellFormed.{WidthsAgree}
use Rattle.net_built.specs.Wires.{wire, present, Piece, ◌▸◌, one, after, last_wire}
use Rattle.net_built.specs.Words.{only, binary, compared, shifted, reduced, extended, widened, sliced, copied, word_cells, zeros}
use Rattle.net_means.specs.NetFits.Widths.{AreWide, StandFrom}
use Rattle.net_means.proofs.NetFits.Reading.{all_append}
use Rattle.net_means.proofs.NetFits.ValueEnds.{extended_end}
use Rattle.net_means.proofs.NetFits.Wide.{Ends, ends_wide, stand_parts}

-- the sum of widths
abbrev pub total_of : List ℕ → ℕ
total_of [] = 0
total_of (w ∷ ws) = w + total_of ws

module _ (all : List ℕ) where
  pub wide_append : (xs ys : List WireId) (vs ws : List ℕ) → AreWide all xs vs → AreWide all ys ws → AreWide all (xs ++ ys) (vs ++ ws)
  wide_append [] ys [] ws h k = k
  wide_append [] ys (v ∷ vs) ws h k = absurd h
  wide_append (x ∷ xs) ys [] ws h k = absurd h
  wide_append (x ∷ xs) ys (v ∷ vs) ws h k = (h.0, wide_append xs ys vs ws h.1 k)

  wide_copies : (c : ℕ) (x : WireId) (w : ℕ) → HasWidth all x w → AreWide all (replicate c x) (replicate c w)
  wide_copies zero x w h = tt
  wide_copies (suc c) x w h = (h, wide_copies c x w h)

  pub wire_there : (x : WireId) (w : ℕ) → HasWidth all x w → IsWire all x
  wire_there x w h = slice_get_within all x.number w h

  pub wires_exist : (xs : List WireId) (ws : List ℕ) → AreWide all xs ws → AllByRecursion (IsWire all) xs
  wires_exist [] [] h = tt
  wires_exist [] (w ∷ ws) h = absurd h
  wires_exist (x ∷ xs) [] h = absurd h
  wires_exist (x ∷ xs) (w ∷ ws) h = (wire_there x w h.0, wires_exist xs ws h.1)

  -- wires side by side are as wide as all together
  pub joined_width : (xs : List WireId) (ws : List ℕ) → AreWide all xs ws → width_of_all all xs ≡ total_of ws
  joined_width [] [] h = refl
  joined_width [] (w ∷ ws) h = absurd h
  joined_width (x ∷ xs) [] h = absurd h
  joined_width (x ∷ xs) (w ∷ ws) h =
      let first : slice_index all x.number ≡ w = get_or_from_slice_get all x.number w 0 h.0 in
      sum_by-cons (λ (w : WireId). slice_index all w.number) x xs ∙ (λ i. first i + joined_width xs ws h.1 i)

  pub only_wide : (a : List WireId) (w : ℕ) → AreWide all a (suc w ∷ []) → HasWidth all (only a) (suc w)
  only_wide [] w h = absurd h
  only_wide (x ∷ a) w h = h.0

total_copies : (c : ℕ) (ws : List ℕ) → total_of (replicate c 1 ++ ws) ≡ c + total_of ws
total_copies zero ws = omega arith
total_copies (suc c) ws = let rest = total_copies c ws in omega (arith, rest)

module _ (earlier : List Module) (all : List ℕ) where
  -- as a record, so that pieces are found from their proofs
  pub record Agree (p : Piece) : Type 0 where
    pub cells : AllByRecursion (WidthsAgree earlier all) p.cells

  pub none_agree : (p : Piece) → p.cells ≡ [] → Agree p
  none_agree p e = record { cells = subst (λ (cs : List Cell). AllByRecursion (WidthsAgree earlier all) cs) (sym e) tt }

  pub then_agree : (at : ℕ) (p q : Piece) → StandFrom all at (p ▸ q).widths → (StandFrom all at p.widths → Agree p) → (StandFrom all (after at p) q.widths → Agree q) → Agree (p ▸ q)
  then_agree at p q stand h k =
      let parts = stand_parts all at p.widths q.widths stand in
      record { cells = all_append (WidthsAgree earlier all) p.cells q.cells (h parts.0).cells (k parts.1).cells }

  pub one_agrees : (at w : ℕ) (cell : Cell) → StandFrom all at (present (w ∷ [])) → ((v : ℕ) → w ≡ suc v → HasWidth all (wire at) (suc v) → WidthsAgree earlier all cell) → Agree (one w cell)
  one_agrees at zero cell stand h = record { cells = tt }
  one_agrees at (suc w) cell stand h = record { cells = (h w refl stand.0, tt) }

  pub const_agrees : (at w : ℕ) (bits : List Bool) → length bits ≡ w → StandFrom all at (present (w ∷ [])) → Agree (one w (Const (wire at) bits))
  const_agrees at w bits size stand = one_agrees at w (Const (wire at) bits) stand (λ v e has. has ∙ ap (λ n. Some n) (sym (size ∙ e)))

  pub given_wide : (a : List WireId) (w v : ℕ) → w ≡ suc v → AreWide all a (present (w ∷ [])) → HasWidth all (only a) (suc v)
  given_wide a w v e h = only_wide all a v (subst (λ w. AreWide all a (present (w ∷ []))) e h)

  pub copied_agree : (n at : ℕ) (a : List WireId) → AreWide all a (present (n ∷ [])) → StandFrom all at (present (n ∷ [])) → Agree (copied n at a)
  copied_agree n at a h stand = one_agrees at n (Copy (wire at) (only a)) stand (λ v e has. (suc v, has, given_wide a n v e h))

  arithmetic : (n at : ℕ) (a b : List WireId) → n ≤ SCALAR_BITS → AreWide all a (present (n ∷ [])) → AreWide all b (present (n ∷ [])) → (v : ℕ) → n ≡ suc v → HasWidth all (wire at) (suc v) → AreArithmetic all (wire at) (only a) (only b)
  arithmetic n at a b small h k v e has =
      let limit : suc v ≤ ARITHMETIC_BITS = omega (arith, small, e) in (suc v, limit, has, given_wide a n v e h, given_wide b n v e k)

  equal : (n at : ℕ) (a b : List WireId) → AreWide all a (present (n ∷ [])) → AreWide all b (present (n ∷ [])) → (v : ℕ) → n ≡ suc v → HasWidth all (wire at) (suc v) → AreEqual all (wire at) (only a) (only b)
  equal n at a b h k v e has = (suc v, has, given_wide a n v e h, given_wide b n v e k)

  -- an operator that compares
  abbrev Compares : Op2 → Type 0
  Compares op = (length (operator2 op [] []) ≡ 1) × ((w a b : WireId) → AreCompared all w a b → Fits2 all op w a b)

  compared_agree : (op : Op2) → Compares op → (n at : ℕ) (a b : List WireId) → AreWide all a (present (n ∷ [])) → AreWide all b (present (n ∷ [])) → StandFrom all at (compared op n at a b).widths → Agree (compared op n at a b)
  compared_agree op is zero at a b h k stand = const_agrees at 1 (operator2 op [] []) is.0 stand
  compared_agree op is (suc n) at a b h k stand =
      one_agrees at 1 (Bin (wire at) op (only a) (only b)) stand
      (λ v e has. is.1 (wire at) (only a) (only b) (stand.0, (suc n, only_wide all a n h, only_wide all b n k)))

  abbrev Shifts : Op2 → Type 0
  Shifts op = (w a b : WireId) → AreShifted all w a b → Fits2 all op w a b

  shifted_agree : (op : Op2) → Shifts op → (n k at : ℕ) (a b : List WireId) → AreWide all a (present (n ∷ [])) → AreWide all b (present (k ∷ [])) → StandFrom all at (shifted op n k at a b).widths → Agree (shifted op n k at a b)
  shifted_agree op is n zero at a b h g stand = copied_agree n at a h stand
  shifted_agree op is n (suc k) at a b h g stand =
      one_agrees at n (Bin (wire at) op (only a) (only b)) stand
      (λ v e has. is (wire at) (only a) (only b) (wire_there all (only b) (suc k) (only_wide all b k g), (suc v, has, given_wide a n v e h)))

  abbrev Reduces : Op1 → Type 0
  Reduces op = (length (operator1 op []) ≡ 1) × ((w a : WireId) → HasWidth all w 1 × IsWire all a → Fits1 all op w a)

  reduced_agree : (op : Op1) → Reduces op → (n at : ℕ) (a : List WireId) → AreWide all a (present (n ∷ [])) → StandFrom all at (reduced op n at a).widths → Agree (reduced op n at a)
  reduced_agree op is zero at a h stand = const_agrees at 1 (operator1 op []) is.0 stand
  reduced_agree op is (suc n) at a h stand =
      one_agrees at 1 (Un (wire at) op (only a)) stand (λ v e has. is.1 (wire at) (only a) (stand.0, wire_there all (only a) (suc n) (only_wide all a n h)))

  -- a join of wires that are together as wide
  pub join_agrees : (at w : ℕ) (wires : List WireId) (ws : List ℕ) → AreWide all wires ws → total_of ws ≡ w → StandFrom all at (present (w ∷ [])) → Agree (one w (Join (wire at) wires))
  join_agrees at w wires ws h size stand =
      one_agrees at w (Join (wire at) wires) stand (λ v e has. (wires_exist all wires ws h, has ∙ ap (λ n. Some n) (sym (joined_width all wires ws h ∙ size ∙ e))))

  -- zeros before a word
  before_agrees : (n m at : ℕ) (a : List WireId) → AreWide all a (suc n ∷ []) → StandFrom all at (suc m ∷ present ((suc n + suc m) ∷ [])) → Agree (one (suc m) (Const (wire at) (zeros (suc m))) ▸ one (suc n + suc m) (Join (wire (at + 1)) (wire at ∷ a)))
  before_agrees n m at a h stand =
      let size : total_of (suc m ∷ suc n ∷ []) ≡ suc n + suc m = omega arith in
      then_agree at (one (suc m) (Const (wire at) (zeros (suc m)))) (one (suc n + suc m) (Join (wire (at + 1)) (wire at ∷ a))) stand
      (λ s. const_agrees at (suc m) (zeros (suc m)) (length-replicate (suc m) _) s)
      (λ s. join_agrees (at + 1) (suc n + suc m) (wire at ∷ a) (suc m ∷ suc n ∷ []) (stand.0, h) size s)

  extended_agree : (x : Scalar) (n m at : ℕ) (a : List WireId) → AreWide all a (present (n ∷ [])) → StandFrom all at (extended x n m at a).widths → Agree (extended x n m at a)
  extended_agree x n zero at a h stand = copied_agree n at a h stand
  extended_agree x zero (suc m) at a h stand = const_agrees at (suc m) (zeros (suc m)) (length-replicate (suc m) _) stand
  extended_agree U (suc n) (suc m) at a h stand = before_agrees n m at a h stand
  extended_agree B (suc n) (suc m) at a h stand = before_agrees n m at a h stand
  extended_agree S (suc n) (suc m) at a h stand =
      let p : Piece = one 1 (Cut (wire at) (only a) n n) in
      let signs : List WireId = replicate (suc m) (wire at) in
      let none : n - n + 1 ≡ 1 = omega arith in
      let size : total_of (replicate (suc m) 1 ++ (suc n ∷ [])) ≡ suc n + suc m = let t = total_copies (suc m) (suc n ∷ []) in omega (arith, t) in
      let less : n < suc n = omega arith in
      let same : n ≤ n = omega arith in
      then_agree at p (one (suc n + suc m) (Join (wire (at + 1)) (signs ++ a))) stand
      (λ s. one_agrees at 1 (Cut (wire at) (only a) n n) s (λ v e has. (same, s.0 ∙ ap (λ n. Some n) (sym none), (suc n, less, only_wide all a n h))))
      (λ s. join_agrees (at + 1) (suc n + suc m) (signs ++ a) (replicate (suc m) 1 ++ (suc n ∷ [])) (wide_append all signs a (replicate (suc m) 1) (suc n ∷ []) (wide_copies all (suc m) (wire at) 1 stand.0) h) size s)

  -- the last wire of a piece that ends with some bits
  pub last_has : (at v : ℕ) (p : Piece) → StandFrom all at p.widths → Ends p (suc v) → HasWidth all (last_wire at p) (suc v)
  last_has at v p stand e = (ends_wide all at (suc v) p stand e).0

  widened_agree : (x : Scalar) (op : Op2) → ((w a b : WireId) → AreArithmetic all w a b → Fits2 all op w a b) → (w n k at : ℕ) (a b : List WireId) → n ≤ w → k ≤ w → w ≤ SCALAR_BITS → AreWide all a (present (n ∷ [])) → AreWide all b (present (k ∷ [])) → StandFrom all at (widened x op w n k at a b).widths → Agree (widened x op w n k at a b)
  widened_agree x op is w n k at a b nl kl small h g stand =
      let p : Piece = extended x n (w - n) at a in
      let q : Piece = extended x k (w - k) (after at p) b in
      let c : Piece = one w (Bin (wire (after (after at p) q)) op (last_wire at p) (last_wire (after at p) q)) in
      let first = stand_parts all at p.widths (q ▸ c).widths stand in
      let second = stand_parts all (after at p) q.widths c.widths first.1 in
      then_agree at p (q ▸ c) stand (λ s. extended_agree x n (w - n) at a h s)
      (λ s. then_agree (after at p) q c s (λ s. extended_agree x k (w - k) (after at p) b g s)
      (λ s. one_agrees (after (after at p) q) w _ s (λ v e has.
      let limit : suc v ≤ ARITHMETIC_BITS = omega (arith, small, e) in
      let wide_n : n + (w - n) ≡ suc v = omega (arith, nl, e) in
      let wide_k : k + (w - k) ≡ suc v = omega (arith, kl, e) in
      let left = last_has at v p first.0 (subst (Ends p) wide_n (extended_end x n (w - n) at a)) in
      let right = last_has (after at p) v q second.0 (subst (Ends q) wide_k (extended_end x k (w - k) (after at p) b)) in
      is (wire (after (after at p) q)) (last_wire at p) (last_wire (after at p) q) (suc v, limit, has, left, right))))

  sliced_agree : (l n u at : ℕ) (a : List WireId) → l + n ≤ u → AreWide all a (present (u ∷ [])) → StandFrom all at (present (n ∷ [])) → Agree (sliced l n at a)
  sliced_agree l n zero at a le h stand = one_agrees at n _ stand (λ v e has. absurd (omega (arith, le, e)))
  sliced_agree l n (suc u) at a le h stand =
      one_agrees at n (Cut (wire at) (only a) (l + n - 1) l) stand
      (λ v e has.
      let order : l ≤ l + n - 1 = omega (arith, e) in
      let size : suc v ≡ l + n - 1 - l + 1 = omega (arith, e) in
      let less : l + n - 1 < suc u = omega (arith, le, e) in
      (order, has ∙ ap (λ n. Some n) size, (suc u, less, only_wide all a u h)))

  -- the cells of a line that takes words of these widths
  arithmetic_agrees : (op : Op2) → ((w a b : WireId) → AreArithmetic all w a b → Fits2 all op w a b) → (n at : ℕ) (a b : List WireId) → n ≤ SCALAR_BITS → AreWide all a (present (n ∷ [])) → AreWide all b (present (n ∷ [])) → StandFrom all at (present (n ∷ [])) → Agree (binary op n at a b)
  arithmetic_agrees op is n at a b small h g stand = one_agrees at n (Bin (wire at) op (only a) (only b)) stand (λ v e has. is (wire at) (only a) (only b) (arithmetic n at a b small h g v e has))

  equal_agrees : (op : Op2) → ((w a b : WireId) → AreEqual all w a b → Fits2 all op w a b) → (n at : ℕ) (a b : List WireId) → AreWide all a (present (n ∷ [])) → AreWide all b (present (n ∷ [])) → StandFrom all at (present (n ∷ [])) → Agree (binary op n at a b)
  equal_agrees op is n at a b h g stand = one_agrees at n (Bin (wire at) op (only a) (only b)) stand (λ v e has. is (wire at) (only a) (only b) (equal n at a b h g v e has))

  inverted_agrees : (n at : ℕ) (a : List WireId) → AreWide all a (present (n ∷ [])) → StandFrom all at (present (n ∷ [])) → Agree (one n (Un (wire at) Not (only a)))
  inverted_agrees n at a h stand = one_agrees at n (Un (wire at) Not (only a)) stand (λ v e has. (suc v, has, given_wide a n v e h))

  joined_agrees : (n m at : ℕ) (a b : List WireId) → AreWide all a (present (n ∷ [])) → AreWide all b (present (m ∷ [])) → StandFrom all at (present ((n + m) ∷ [])) → Agree (one (n + m) (Join (wire at) (a ++ b)))
  joined_agrees n m at a b h g stand = join_agrees at (n + m) (a ++ b) (present (n ∷ []) ++ present (m ∷ [])) (wide_append all a b (present (n ∷ [])) (present (m ∷ [])) h g) (totals n m) stand
    where
      totals : (n m : ℕ) → total_of (present (n ∷ []) ++ present (m ∷ [])) ≡ n + m
      totals zero zero = refl
      totals zero (suc m) = omega arith
      totals (suc n) zero = omega arith
      totals (suc n) (suc m) = omega arith

-- by its first two natural arguments a line on words takes operands of these widths
abbrev pub TakesWidths : Row → (n m v w : ℕ) → Type 0
TakesWidths (Binary x) n m v w = (v ≡ n) × (w ≡ n) × (n ≤ SCALAR_BITS)
TakesWidths (WideSum x) n m v w = (v ≡ n) × (w ≡ n) × (n + 1 ≤ SCALAR_BITS)
TakesWidths (WideProduct x) n m v w = (v ≡ n) × (w ≡ m) × (n + m ≤ SCALAR_BITS)
TakesWidths (Shift x) n m v w = (v ≡ n) × (w ≡ m)
TakesWidths (Compare x) n m v w = (v ≡ n) × (w ≡ n)
TakesWidths (Truncate x) n m v w = n ≤ v
TakesWidths CutRow n m v w = n + m ≤ v
TakesWidths Joined n m v w = (v ≡ n) × (w ≡ m)
TakesWidths _ n m v w = v ≡ n

module _ (earlier : List Module) (all : List ℕ) where
  at_width : (a : List WireId) (v n : ℕ) → v ≡ n → AreWide all a (present (v ∷ [])) → AreWide all a (present (n ∷ []))
  at_width a v n e h = subst (λ v. AreWide all a (present (v ∷ []))) e h

  abbrev Table : Prim → Type 0
  Table q = (n m v w at : ℕ) (a b : List WireId) → TakesWidths (row_of q) n m v w → AreWide all a (present (v ∷ [])) → AreWide all b (present (w ∷ [])) → StandFrom all at (word_cells q n m at a b).widths → Agree earlier all (word_cells q n m at a b)

  pub words_agree : (q : Prim) → IsOnWords q → Table q
  words_agree AddU on n m v w at a b t h g s = arithmetic_agrees earlier all Add (λ w a b h. h) n at a b t.2 (at_width a v n t.0 h) (at_width b w n t.1 g) s
  words_agree AddS on n m v w at a b t h g s = arithmetic_agrees earlier all Add (λ w a b h. h) n at a b t.2 (at_width a v n t.0 h) (at_width b w n t.1 g) s
  words_agree SubU on n m v w at a b t h g s = arithmetic_agrees earlier all Sub (λ w a b h. h) n at a b t.2 (at_width a v n t.0 h) (at_width b w n t.1 g) s
  words_agree SubS on n m v w at a b t h g s = arithmetic_agrees earlier all Sub (λ w a b h. h) n at a b t.2 (at_width a v n t.0 h) (at_width b w n t.1 g) s
  words_agree MulU on n m v w at a b t h g s = arithmetic_agrees earlier all Mul (λ w a b h. h) n at a b t.2 (at_width a v n t.0 h) (at_width b w n t.1 g) s
  words_agree MulS on n m v w at a b t h g s = arithmetic_agrees earlier all Mul (λ w a b h. h) n at a b t.2 (at_width a v n t.0 h) (at_width b w n t.1 g) s
  words_agree XaddU on n m v w at a b t h g s = widened_agree earlier all U Add (λ w a b h. h) (n + 1) n n at a b (omega arith) (omega arith) t.2 (at_width a v n t.0 h) (at_width b w n t.1 g) s
  words_agree XaddS on n m v w at a b t h g s = widened_agree earlier all S Add (λ w a b h. h) (n + 1) n n at a b (omega arith) (omega arith) t.2 (at_width a v n t.0 h) (at_width b w n t.1 g) s
  words_agree XmulU on n m v w at a b t h g s = widened_agree earlier all U Mul (λ w a b h. h) (n + m) n m at a b (omega arith) (omega arith) t.2 (at_width a v n t.0 h) (at_width b w m t.1 g) s
  words_agree XmulS on n m v w at a b t h g s = widened_agree earlier all S Mul (λ w a b h. h) (n + m) n m at a b (omega arith) (omega arith) t.2 (at_width a v n t.0 h) (at_width b w m t.1 g) s
  words_agree AndU on n m v w at a b t h g s = equal_agrees earlier all And (λ w a b h. h) n at a b (at_width a v n t.0 h) (at_width b w n t.1 g) s
  words_agree AndS on n m v w at a b t h g s = equal_agrees earlier all And (λ w a b h. h) n at a b (at_width a v n t.0 h) (at_width b w n t.1 g) s
  words_agree AndB on n m v w at a b t h g s = equal_agrees earlier all And (λ w a b h. h) n at a b (at_width a v n t.0 h) (at_width b w n t.1 g) s
  words_agree OrU on n m v w at a b t h g s = equal_agrees earlier all Or (λ w a b h. h) n at a b (at_width a v n t.0 h) (at_width b w n t.1 g) s
  words_agree OrS on n m v w at a b t h g s = equal_agrees earlier all Or (λ w a b h. h) n at a b (at_width a v n t.0 h) (at_width b w n t.1 g) s
  words_agree OrB on n m v w at a b t h g s = equal_agrees earlier all Or (λ w a b h. h) n at a b (at_width a v n t.0 h) (at_width b w n t.1 g) s
  words_agree XorU on n m v w at a b t h g s = equal_agrees earlier all Xor (λ w a b h. h) n at a b (at_width a v n t.0 h) (at_width b w n t.1 g) s
  words_agree XorS on n m v w at a b t h g s = equal_agrees earlier all Xor (λ w a b h. h) n at a b (at_width a v n t.0 h) (at_width b w n t.1 g) s
  words_agree XorB on n m v w at a b t h g s = equal_agrees earlier all Xor (λ w a b h. h) n at a b (at_width a v n t.0 h) (at_width b w n t.1 g) s
  words_agree NotU on n m v w at a b t h g s = inverted_agrees earlier all n at a (at_width a v n t h) s
  words_agree NotS on n m v w at a b t h g s = inverted_agrees earlier all n at a (at_width a v n t h) s
  words_agree NotB on n m v w at a b t h g s = inverted_agrees earlier all n at a (at_width a v n t h) s
  words_agree ShlU on n m v w at a b t h g s = shifted_agree earlier all Shl (λ w a b h. h) n m at a b (at_width a v n t.0 h) (at_width b w m t.1 g) s
  words_agree ShlS on n m v w at a b t h g s = shifted_agree earlier all Shl (λ w a b h. h) n m at a b (at_width a v n t.0 h) (at_width b w m t.1 g) s
  words_agree ShlB on n m v w at a b t h g s = shifted_agree earlier all Shl (λ w a b h. h) n m at a b (at_width a v n t.0 h) (at_width b w m t.1 g) s
  words_agree ShrU on n m v w at a b t h g s = shifted_agree earlier all Shr (λ w a b h. h) n m at a b (at_width a v n t.0 h) (at_width b w m t.1 g) s
  words_agree ShrS on n m v w at a b t h g s = shifted_agree earlier all Sar (λ w a b h. h) n m at a b (at_width a v n t.0 h) (at_width b w m t.1 g) s
  words_agree ShrB on n m v w at a b t h g s = shifted_agree earlier all Shr (λ w a b h. h) n m at a b (at_width a v n t.0 h) (at_width b w m t.1 g) s
  words_agree EqU on n m v w at a b t h g s = compared_agree earlier all Eq (refl, λ w a b h. h) n at a b (at_width a v n t.0 h) (at_width b w n t.1 g) s
  words_agree EqS on n m v w at a b t h g s = compared_agree earlier all Eq (refl, λ w a b h. h) n at a b (at_width a v n t.0 h) (at_width b w n t.1 g) s
  words_agree EqB on n m v w at a b t h g s = compared_agree earlier all Eq (refl, λ w a b h. h) n at a b (at_width a v n t.0 h) (at_width b w n t.1 g) s
  words_agree PrimLtU on n m v w at a b t h g s = compared_agree earlier all LtU (refl, λ w a b h. h) n at a b (at_width a v n t.0 h) (at_width b w n t.1 g) s
  words_agree PrimLtS on n m v w at a b t h g s = compared_agree earlier all LtS (refl, λ w a b h. h) n at a b (at_width a v n t.0 h) (at_width b w n t.1 g) s
  words_agree ExtU on n m v w at a b t h g s = extended_agree earlier all U n m at a (at_width a v n t h) s
  words_agree ExtS on n m v w at a b t h g s = extended_agree earlier all S n m at a (at_width a v n t h) s
  words_agree ExtB on n m v w at a b t h g s = extended_agree earlier all B n m at a (at_width a v n t h) s
  words_agree TruncU on n m v w at a b t h g s = sliced_agree earlier all 0 n v at a (omega (arith, t)) h s
  words_agree TruncS on n m v w at a b t h g s = sliced_agree earlier all 0 n v at a (omega (arith, t)) h s
  words_agree TruncB on n m v w at a b t h g s = sliced_agree earlier all 0 n v at a (omega (arith, t)) h s
  words_agree Slice on n m v w at a b t h g s = sliced_agree earlier all n m v at a t h s
  words_agree PrimJoin on n m v w at a b t h g s = joined_agrees earlier all n m at a b (at_width a v n t.0 h) (at_width b w m t.1 g) s
  words_agree PrimRedAnd on n m v w at a b t h g s = reduced_agree earlier all RedAnd (refl, λ w a h. h) n at a (at_width a v n t h) s
  words_agree PrimRedOr on n m v w at a b t h g s = reduced_agree earlier all RedOr (refl, λ w a h. h) n at a (at_width a v n t h) s
  words_agree PrimRedXor on n m v w at a b t h g s = reduced_agree earlier all RedXor (refl, λ w a h. h) n at a (at_width a v n t h) s
  words_agree PackU on n m v w at a b t h g s = copied_agree earlier all n at a (at_width a v n t h) s
  words_agree PackS on n m v w at a b t h g s = copied_agree earlier all n at a (at_width a v n t h) s
  words_agree UnpackU on n m v w at a b t h g s = copied_agree earlier all n at a (at_width a v n t h) s
  words_agree UnpackS on n m v w at a b t h g s = copied_agree earlier all n at a (at_width a v n t h) s
  words_agree _ on n m v w at a b t h g s = absurd on
