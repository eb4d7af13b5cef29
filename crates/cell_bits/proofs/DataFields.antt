-- The bits of constructors, and of the fields that are cut from them.
use Rattle.std.proofs.Common.{◌≡◌, ℕ, ◌+◌, ◌-◌, ◌<◌, ◌≤◌, Bool, false, List, [], ◌∷◌, ◌++◌, length, take, drop, replicate, refl, sym, ap, ◌∙◌, subst, arith, append_assoc, append-nil, length-append}
use Rattle.std.proofs.lemmas.Grind.{flat_map-append}
use Rattle.std.proofs.lemmas.List.{take_at, drop_at, length-replicate}
use Rattle.chw_base.specs.declared.index.WireId.{WireId}
use Rattle.chw_bits.specs.Bits.{bits_of, cut_of}
use Rattle.chw_bits.proofs.Numbers.{length-bits_of}
use Rattle.chw_clock.specs.declared.event.Event.{Event}
use Rattle.chw_layout.specs.Encodes.{filled}
use Rattle.chw_types.specs.TypeTree.{TypeTree}
use Rattle.netlist.specs.declared.net.Cell.{Cell}
use Rattle.netlist.specs.declared.net.Cell.TheVariants.{Const, Join, Cut}
use Rattle.netlist.specs.declared.net.Net.{Net}
use Rattle.net_built.specs.Data.{constructed, field_cuts, variables_from}
use Rattle.net_built.specs.Terms.{Variable}
use Rattle.net_built.specs.Wires.{wire, new_wires, Piece, one, ◌▸◌, after, last_wires}
use Rattle.net_built.specs.Words.{zeros, only}
use Rattle.use_laws.specs.ValueIn.{ValueIn, ReadIn, read_none, read_and}
use Rattle.cell_bits.specs.Bearing.{HasCells, Bears, bears_nothing, bears_bits, BearEach, bear_none, bear_and}
use Rattle.cell_bits.specs.DataLaws.{joined, BearAll, all_none, all_and, lengths, wires_of_each, wires_in, AreCut}
use Rattle.cell_bits.proofs.DataCells.{one_present, last_at, has_left, has_right, value_of, one_bears, const_value, cut_value, join_value}

-- a part of bits with others before and behind it
pub cut_middle : (front bits behind : List Bool) (high low : ℕ) → 0 < length bits → high ≡ length (bits ++ behind) - 1 → low ≡ length behind
    → cut_of high low (front ++ (bits ++ behind)) ≡ bits
cut_middle front bits behind high low some top bottom =
    let from : length (front ++ (bits ++ behind)) - 1 - high ≡ length front = omega (arith, length-append front (bits ++ behind), length-append bits behind) in
    let count : high + 1 - low ≡ length bits = omega (arith, length-append bits behind) in
    ap (λ i. take (high + 1 - low) (drop i (front ++ (bits ++ behind)))) from
    ∙ ap (λ rest. take (high + 1 - low) rest) (drop_at front (bits ++ behind) (length front) refl)
    ∙ ap (λ k. take k (bits ++ behind)) count
    ∙ take_at bits behind (length bits) refl

-- the padding of a constructor fills it up
padded : (tag number width : ℕ) (values : List (List Bool))
    → joined (bits_of tag number ∷ (values ++ zeros (width - (tag + length (joined values))) ∷ [])) ≡ filled width (bits_of tag number ++ joined values)
padded tag number width values =
    let head : List Bool = bits_of tag number in
    let fields : List Bool = joined values in
    let size : length (head ++ fields) ≡ tag + length fields = omega (arith, length-append head fields, length-bits_of tag number) in
    let padding : List Bool = zeros (width - (tag + length fields)) in
    ap (λ rest. head ++ rest) (flat_map-append (λ (bits : List Bool). bits) values (padding ∷ []) ∙ ap (λ rest. fields ++ rest) (append-nil padding))
    ∙ sym (append_assoc head fields padding)
    ∙ ap (λ k. (head ++ fields) ++ replicate (width - k) false) (sym size)

filled_size : (width : ℕ) (bits : List Bool) → length bits ≤ width → length (filled width bits) ≡ width
filled_size width bits le = omega (arith, length-append bits (replicate (width - length bits) false), length-replicate (width - length bits) false)

module _ (net : Net) (path : List ℕ) (h : List Event) where
  -- what is read of parts that stand one after the other
  pub read_each : {wires : List WireId} {values : List (List Bool)} → BearEach net path h wires values
      → (read : List (List Bool)) × ReadIn net path h wires read × (joined read ≡ joined values)
  read_each bear_none = ([], read_none path h, refl)
  read_each (bear_and bears_nothing rest) = read_each rest
  read_each (bear_and {more = more} (bears_bits {w = w} {bit = bit} {bits = bits} v) rest) =
      let r = read_each rest in
      ((bit ∷ bits) ∷ r.0, read_and path h w more (bit ∷ bits) r.0 v r.1, ap (λ others. (bit ∷ bits) ++ others) r.2)

  pub push_each : {wires last : List WireId} {values : List (List Bool)} {bits : List Bool} → BearEach net path h wires values → Bears net path h last bits
      → BearEach net path h (wires ++ last) (values ++ bits ∷ [])
  push_each {last = last} {bits = bits} bear_none b = subst (λ ws. BearEach net path h ws (bits ∷ [])) (append-nil last) (bear_and b bear_none)
  push_each {last = last} {bits = bits} (bear_and {wires = wires} {more = more} {bits = first} {values = values} a rest) b =
      subst (λ ws. BearEach net path h ws (first ∷ (values ++ bits ∷ []))) (sym (append_assoc wires more last)) (bear_and a (push_each rest b))

  -- a join of parts has their bits in order
  pub join_bears : (n width : ℕ) (wires : List WireId) (values : List (List Bool)) (bits : List Bool) → BearEach net path h wires values → joined values ≡ bits
      → length bits ≡ width → HasCells net path (one width (Join (wire n) wires)).cells → Bears net path h (new_wires n (width ∷ [])) bits
  join_bears n width wires values bits each same size has =
      let read = read_each each in
      one_bears net path h n width (Join (wire n) wires) bits size has
      (λ lt there. subst (λ bs. ValueIn net path h n bs) (read.2 ∙ same) (join_value net path h n wires read.0 there read.1))

  pub vector_bears : (width n : ℕ) (wires : List WireId) (values : List (List Bool)) → BearEach net path h wires values → length (joined values) ≡ width
      → HasCells net path (one width (Join (wire n) wires)).cells
      → Bears net path h (last_wires n (one width (Join (wire n) wires)) (width ∷ [])) (joined values)
  vector_bears width n wires values each size has =
      let end : last_wires n (one width (Join (wire n) wires)) (width ∷ []) ≡ new_wires n (width ∷ []) =
      last_at n n width (one width (Join (wire n) wires)) (λ lt. omega (arith, one_present width lt)) in
      subst (λ ws. Bears net path h ws (joined values)) (sym end) (join_bears n width wires values (joined values) each refl size has)

  pub constructed_bears : (tag number width n : ℕ) (wires : List WireId) (values : List (List Bool))
      → BearEach net path h wires values → tag + length (joined values) ≤ width
      → HasCells net path (constructed tag number (length (joined values)) width n wires).cells
      → Bears net path h
      (last_wires n (constructed tag number (length (joined values)) width n wires) (width ∷ []))
      (filled width (bits_of tag number ++ joined values))
  constructed_bears tag number width n wires values each le has =
      let fields : ℕ = length (joined values) in
      let padding : ℕ = width - (tag + fields) in
      let bits : List Bool = bits_of tag number ++ joined values in
      let first : Cell = Const (wire n) (bits_of tag number) in
      let p : Piece = one tag first in
      let second : Cell = Const (wire (after n p)) (zeros padding) in
      let q : Piece = one padding second in
      let m : ℕ = after (after n p) q in
      let parts : List WireId = new_wires n (tag ∷ []) ++ wires ++ new_wires (after n p) (padding ∷ []) in
      let last : Piece = one width (Join (wire m) parts) in
      let has_rest : HasCells net path (q.cells ++ last.cells) = has_right net path h p.cells (q.cells ++ last.cells) has in
      let high : Bears net path h (new_wires n (tag ∷ [])) (bits_of tag number) =
      one_bears net path h n tag first (bits_of tag number) (length-bits_of tag number) (has_left net path h p.cells (q.cells ++ last.cells) has)
      (λ lt there. const_value net path h n (bits_of tag number) there) in
      let low : Bears net path h (new_wires (after n p) (padding ∷ [])) (zeros padding) =
      one_bears net path h (after n p) padding second (zeros padding) (length-replicate padding false) (has_left net path h q.cells last.cells has_rest)
      (λ lt there. const_value net path h (after n p) (zeros padding) there) in
      let size : length bits ≤ width = omega (arith, length-append (bits_of tag number) (joined values), length-bits_of tag number) in
      let bears : Bears net path h (new_wires m (width ∷ [])) (filled width bits) =
      join_bears m width parts (bits_of tag number ∷ (values ++ zeros padding ∷ [])) (filled width bits) (push_each (bear_and high each) low)
      (padded tag number width values) (filled_size width bits size) (has_right net path h q.cells last.cells has_rest) in
      let end : last_wires n (p ▸ q ▸ last) (width ∷ []) ≡ new_wires m (width ∷ []) =
      last_at n m width (p ▸ q ▸ last)
      (λ lt. omega (arith, length-append p.widths (q.widths ++ last.widths), length-append q.widths last.widths, one_present width lt)) in
      subst (λ ws. Bears net path h ws (filled width bits)) (sym end) bears

  cuts_bear : (fields : List TypeTree) (values : List (List Bool)) (n below : ℕ) (a : List WireId) (front behind bits : List Bool)
      → length fields ≡ length values → Bears net path h a bits → bits ≡ front ++ (joined values ++ behind) → below ≡ length (joined values ++ behind)
      → HasCells net path (field_cuts below a (lengths values) n).cells
      → BearAll net path h (wires_of_each (variables_from n fields (lengths values))) values
  cuts_bear [] [] n below a front behind bits typed b e reach has = all_none
  cuts_bear [] (v ∷ values) n below a front behind bits typed b e reach has = absurd (omega arith)
  cuts_bear (t ∷ fields) [] n below a front behind bits typed b e reach has = absurd (omega arith)
  cuts_bear (t ∷ fields) (v ∷ values) n below a front behind bits typed b e reach has =
      let rest : List Bool = joined values ++ behind in
      let split : bits ≡ front ++ (v ++ rest) = e ∙ ap (λ bs. front ++ bs) (append_assoc v (joined values) behind) in
      let reach_all : below ≡ length v + length rest =
      reach ∙ ap (λ (bs : List Bool). length bs) (append_assoc v (joined values) behind) ∙ length-append v rest in
      let reach_rest : below - length v ≡ length rest = omega arith in
      let cell : Cell = Cut (wire n) (only a) (below - 1) (below - length v) in
      let p : Piece = one (length v) cell in
      let others : Piece = field_cuts (below - length v) a (lengths values) (after n p) in
      let part : Bears net path h (new_wires n (length v ∷ [])) v =
      one_bears net path h n (length v) cell v refl (has_left net path h p.cells others.cells has)
      (λ lt there.
      let some : 0 < length bits = omega (arith, ap (λ (bs : List Bool). length bs) split, length-append front (v ++ rest), length-append v rest) in
      let cut : cut_of (below - 1) (below - length v) (front ++ (v ++ rest)) ≡ v =
      cut_middle front v rest (below - 1) (below - length v) lt (omega (arith, length-append v rest)) reach_rest in
      subst (λ bs. ValueIn net path h n bs) (ap (λ bs. cut_of (below - 1) (below - length v) bs) split ∙ cut)
      (cut_value net path h n (below - 1) (below - length v) (only a) bits there (value_of net path h b some))) in
      all_and part
      (cuts_bear fields values (after n p) (below - length v) a (front ++ v) behind bits (omega arith) b (split ∙ sym (append_assoc front v rest)) reach_rest
      (has_right net path h p.cells others.cells has))

  pub fields_bear : (n : ℕ) (fields : List TypeTree) (widths : List ℕ) (values : List (List Bool)) → AreCut net path h n fields widths values
      → BearAll net path h (wires_of_each (variables_from n fields widths)) values
  fields_bear n fields widths values cut =
      let cells : HasCells net path (field_cuts cut.below cut.a (lengths values) n).cells =
      subst (λ ws. HasCells net path (field_cuts cut.below cut.a ws n).cells) cut.wide cut.cells in
      subst (λ ws. BearAll net path h (wires_of_each (variables_from n fields ws)) values) (sym cut.wide)
      (cuts_bear fields values n cut.below cut.a cut.front cut.behind _ cut.typed cut.bears refl cut.reach cells)

  bears_in_order : (variables : List Variable) (values : List (List Bool)) → BearAll net path h (wires_of_each variables) values
      → BearEach net path h (wires_in variables) values
  bears_in_order [] [] all = bear_none
  bears_in_order [] (v ∷ values) all = elim all [ ]
  bears_in_order (x ∷ variables) [] all = elim all [ ]
  bears_in_order (x ∷ variables) (v ∷ values) (all_and b rest) = bear_and b (bears_in_order variables values rest)

  pub fields_bear_each : (n : ℕ) (fields : List TypeTree) (widths : List ℕ) (values : List (List Bool)) → AreCut net path h n fields widths values
      → BearEach net path h (wires_in (variables_from n fields widths)) values
  fields_bear_each n fields widths values cut = bears_in_order (variables_from n fields widths) values (fields_bear n fields widths values cut)
