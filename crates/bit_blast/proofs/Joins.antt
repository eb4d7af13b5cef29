-- Words side by side, and parts of words.
use Rattle.std.proofs.Common.{◌≡◌, ℕ, zero, suc, ◌+◌, ◌-◌, ◌<◌, ◌≤◌, Bool, true, false, if◌then◌else◌, List, [], ◌∷◌, ◌++◌, length, get_or, take, drop, refl, sym, ap, ◌∙◌, add-one, add-zero, add-suc, append_assoc, arith}
use Rattle.std.specs.Prelude.{slice_index}
use Rattle.std.specs.List.{flat_map}
use Rattle.std.proofs.lemmas.List.{append-nil, drop_more, length-append}
use Rattle.std.proofs.lemmas.List.Sums.{sum_by-cons, sum_by-take-drop}
use Rattle.chw_base.specs.declared.index.WireId.{WireId}
use Rattle.netlist.specs.Sound.{width_of_all}
use Rattle.netlist.specs.declared.net.Flat.{Flat}
use Rattle.bit_laws.specs.BitNames.{place_name, wire_name, word_names}
use Rattle.bit_laws.specs.Bitnet.{Node}
use Rattle.bit_laws.specs.Blast.{constants, gate_of, on_each, part_of, word}
use Rattle.bit_laws.specs.Gates.{Gate}
use Rattle.bit_laws.specs.Gates.Gate.{always, buffer, never}
use Rattle.bit_nodes.specs.Standing.{name_of, node_of}
use Rattle.bit_nodes.specs.declared.nodes.BitName.{BitName}
use Rattle.bit_nodes.specs.declared.nodes.BitName.TheVariants.{Bit}
use Rattle.bit_nodes.specs.declared.nodes.BitNode.{BitNode}
use Rattle.bit_nodes.specs.declared.nodes.BitNode.TheVariants.{Table}
use Rattle.bit_blast.specs.Adding.{Adds}
use Rattle.bit_blast.specs.Gating.{constant_gate}
use Rattle.bit_blast.specs.Names.{by_places, lowest, names_of}
use Rattle.bit_blast.specs.declared.names.Word.TheVariants.{Part}
use Rattle.bit_blast.proofs.Adding.{added_as, both_added, one_more}
use Rattle.bit_blast.proofs.Counted.{length-word_names}
use Rattle.bit_blast.proofs.Places.{lowest_names}

-- a gate on each bit of words side by side
each_joined : (gate : Gate) (name : List ℕ) (low n : ℕ) (xs rest : List (List ℕ)) → length xs ≡ n → length rest ≡ low
    → on_each gate (word_names name (low + n)) (xs ++ rest)
    ≡ on_each gate (word_names name low) rest ++ on_each gate (by_places (λ j. place_name name (low + j)) n) xs
each_joined gate name low zero [] rest e f =
    ap (λ (k : ℕ). on_each gate (word_names name k) rest) (add-zero low) ∙ sym (append-nil (on_each gate (word_names name low) rest))
each_joined gate name low zero (x ∷ xs) rest e f = absurd (omega arith)
each_joined gate name low (suc n) [] rest e f = absurd (omega arith)
each_joined gate name low (suc n) (x ∷ xs) rest e f =
    let top = gate_of gate (x ∷ []) (place_name name (low + n)) ∷ [] in
    ap (λ (k : ℕ). on_each gate (word_names name k) (x ∷ (xs ++ rest))) (add-suc low n)
    ∙ ap (λ (ns : List Node). ns ++ top) (each_joined gate name low n xs rest (omega arith) f)
    ∙ append_assoc (on_each gate (word_names name low) rest) (on_each gate (by_places (λ j. place_name name (low + j)) n) xs) top

-- words side by side are as long as their wires are wide
pub joined_length : (flat : Flat) (parts : List WireId) → length (flat_map (λ (p : WireId). word flat p.number) parts) ≡ width_of_all flat.widths parts
joined_length flat [] = refl
joined_length flat (p ∷ parts) =
    length-append (word flat p.number) (flat_map (λ (q : WireId). word flat q.number) parts)
    ∙ ap (λ (n : ℕ). n + length (flat_map (λ (q : WireId). word flat q.number) parts))
    (length-word_names (wire_name flat.ports p.number) (slice_index flat.widths p.number))
    ∙ ap (λ (n : ℕ). slice_index flat.widths p.number + n) (joined_length flat parts)
    ∙ sym (sum_by-cons (λ (q : WireId). slice_index flat.widths q.number) p parts)

-- one more wire of those that are joined, from the last one on
pub joins_more : (flat : Flat) (old mid new : List BitNode) (w part : WireId) (rest : List WireId) (low n : ℕ)
    → n ≡ slice_index flat.widths part.number → low ≡ width_of_all flat.widths rest
    → Adds flat old mid (on_each buffer (lowest flat w.number low) (flat_map (λ (p : WireId). word flat p.number) rest))
    → Adds flat mid new (on_each buffer (names_of flat (Part w low) n) (names_of flat (Part part 0) n))
    → Adds flat old new (on_each buffer (lowest flat w.number (low + n)) (flat_map (λ (p : WireId). word flat p.number) (part ∷ rest)))
joins_more flat old mid new w part rest low n wide e before more =
    let name = wire_name flat.ports w.number in
    let others = flat_map (λ (p : WireId). word flat p.number) rest in
    let own = word flat part.number in
    let outs = by_places (λ j. place_name name (low + j)) n in
    let this : Adds flat mid new (on_each buffer outs own) =
    added_as flat mid new (on_each buffer outs (names_of flat (Part part 0) n)) (on_each buffer outs own)
    (ap (λ (xs : List (List ℕ)). on_each buffer outs xs)
    (lowest_names flat part n ∙ ap (λ (k : ℕ). lowest flat part.number k) wide)) more in
    added_as flat old new (on_each buffer (word_names name low) others ++ on_each buffer outs own)
    (on_each buffer (word_names name (low + n)) (own ++ others))
    (sym (each_joined buffer name low n own others (length-word_names (wire_name flat.ports part.number) (slice_index flat.widths part.number) ∙ sym wide)
    (joined_length flat rest ∙ sym e)))
    (both_added flat old mid new (on_each buffer (word_names name low) others) (on_each buffer outs own) before this)

pub width_more : (widths : List ℕ) (part : WireId) (rest : List WireId) → width_of_all widths (part ∷ rest) ≡ width_of_all widths rest + slice_index widths part.number
width_more widths part rest = omega (arith, sum_by-cons (λ (p : WireId). slice_index widths p.number) part rest)

-- the last items of a list, one more
pub last_more : {X : Type 0} (xs : List X) (i : ℕ) (d : X) → i < length xs
    → drop (length xs - (i + 1)) xs ≡ get_or xs (length xs - 1 - i) d ∷ drop (length xs - i) xs
last_more xs i d less =
    let at : length xs - (i + 1) ≡ length xs - 1 - i = omega arith in
    let next : length xs - 1 - i + 1 ≡ length xs - i = omega arith in
    let within : length xs - 1 - i < length xs = omega arith in
    ap (λ (k : ℕ). drop k xs) at ∙ drop_more xs (length xs - 1 - i) d within
    ∙ ap (λ (k : ℕ). get_or xs (length xs - 1 - i) d ∷ drop k xs) next

-- the part of a word between two places
dropped_word : (name : List ℕ) (d m n : ℕ) → m ≡ d + n → drop d (word_names name m) ≡ word_names name n
dropped_word name zero m n e = let same : m ≡ n = omega arith in ap (λ (k : ℕ). word_names name k) same
dropped_word name (suc d) zero n e = absurd (omega arith)
dropped_word name (suc d) (suc m) n e = dropped_word name d m n (omega arith)

taken_word : (name : List ℕ) (k m low : ℕ) → m ≡ low + k → take k (word_names name m) ≡ by_places (λ j. place_name name (low + j)) k
taken_word name zero m low e = refl
taken_word name (suc k) zero low e = absurd (omega arith)
taken_word name (suc k) (suc m) low e =
    let same : m ≡ low + k = omega arith in
    ap (λ (i : ℕ). place_name name i ∷ take k (word_names name m)) same
    ∙ ap (λ (xs : List (List ℕ)). place_name name (low + k) ∷ xs) (taken_word name k m low same)

pub part_names : (flat : Flat) (a : WireId) (high low n : ℕ) → low ≤ high → high < slice_index flat.widths a.number → n ≡ high - low + 1
    → names_of flat (Part a low) n ≡ part_of high low (word flat a.number)
part_names flat a high low n order within wide =
    let name = wire_name flat.ports a.number in
    let m = slice_index flat.widths a.number in
    let long = length-word_names name m in
    let count : n ≡ high + 1 - low = omega arith in
    let above : length (word_names name m) - 1 - high ≡ m - 1 - high = ap (λ (k : ℕ). k - 1 - high) long in
    ap (λ (k : ℕ). by_places (λ j. place_name name (low + j)) k) count
    ∙ sym (taken_word name (high + 1 - low) (high + 1) low (omega arith))
    ∙ ap (λ (xs : List (List ℕ)). take (high + 1 - low) xs)
    (sym (ap (λ (k : ℕ). drop k (word_names name m)) above ∙ dropped_word name (m - 1 - high) m (high + 1) (omega arith)))

-- one more bit of a constant, from the last one on
node_of_constant : (flat : Flat) (bit : Bool) (o : BitName)
    → node_of flat (Table (constant_gate bit) o) ≡ gate_of (if bit then always else never) [] (name_of flat o)
node_of_constant flat true o = refl
node_of_constant flat false o = refl

pub constants_more : (flat : Flat) (old mid new : List BitNode) (w : WireId) (bits : List Bool) (i : ℕ) → i < length bits
    → Adds flat old mid (constants (lowest flat w.number i) (drop (length bits - i) bits))
    → new ≡ mid ++ Table (constant_gate (get_or bits (length bits - 1 - i) false)) (Bit w i) ∷ []
    → Adds flat old new (constants (lowest flat w.number (i + 1)) (drop (length bits - (i + 1)) bits))
constants_more flat old mid new w bits i less a e =
    let bit = get_or bits (length bits - 1 - i) false in
    let before = constants (lowest flat w.number i) (drop (length bits - i) bits) in
    one_more flat old mid new before (constants (lowest flat w.number (i + 1)) (drop (length bits - (i + 1)) bits))
    (Table (constant_gate bit) (Bit w i)) a e
    (ap (λ (own : List Bool). constants (lowest flat w.number (i + 1)) own) (last_more bits i false less)
    ∙ ap (λ (k : ℕ). constants (lowest flat w.number k) (bit ∷ drop (length bits - i) bits)) (add-one i)
    ∙ ap (λ (n : Node). before ++ n ∷ []) (sym (node_of_constant flat bit (Bit w i))))

-- the widths of the last wires of a list are no more than those of all
pub width_of_last : (widths : List ℕ) (parts : List WireId) (k : ℕ) → width_of_all widths (drop k parts) ≤ width_of_all widths parts
width_of_last widths parts k =
    omega (arith, sum_by-take-drop (λ (p : WireId). slice_index widths p.number) parts k)

pub joined_more : (widths : List ℕ) (parts : List WireId) (i : ℕ) (d : WireId) (low n : ℕ) → i < length parts
    → low ≡ width_of_all widths (drop (length parts - i) parts) → n ≡ slice_index widths (get_or parts (length parts - 1 - i) d).number
    → low + n ≡ width_of_all widths (drop (length parts - (i + 1)) parts)
joined_more widths parts i d low n less e f =
    let part = get_or parts (length parts - 1 - i) d in
    let rest = drop (length parts - i) parts in
    ap (λ (k : ℕ). k + n) e ∙ ap (λ (k : ℕ). width_of_all widths rest + k) f ∙ sym (width_more widths part rest)
    ∙ ap (λ (ps : List WireId). width_of_all widths ps) (sym (last_more parts i d less))
