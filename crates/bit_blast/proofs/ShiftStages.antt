-- Shifts: the names that come to each place, stage by stage.
use Rattle.std.proofs.Common.{◌≡◌, ℕ, zero, suc, ◌+◌, ◌-◌, ◌*◌, ◌^◌, ◌<◌, ◌≤◌, min, List, [], ◌∷◌, ◌++◌, length, take, drop, replicate, sym, ap, subst, ◌∙◌, add-one, le-ltb, lt-ltb, arith}
use Rattle.std.specs.Prelude.{if◌then◌else◌}
use Rattle.std.proofs.Math.Nat.{pow-suc}
use Rattle.std.proofs.lemmas.List.{drop_min}
use Rattle.chw_base.specs.declared.index.WireId.{WireId}
use Rattle.netlist.specs.declared.net.Flat.{Flat}
use Rattle.bit_laws.specs.BitNames.{further, furthers, place_name, word_names}
use Rattle.bit_laws.specs.Blast.{choices, gate_of, moved_down, moved_up, shift_nodes, shifted_names, sign_nodes}
use Rattle.bit_laws.specs.Gates.Gate.{buffer}
use Rattle.bit_nodes.specs.Standing.{name_of}
use Rattle.bit_nodes.specs.declared.nodes.BitGate.TheVariants.{Choice}
use Rattle.bit_nodes.specs.declared.nodes.BitName.{BitName}
use Rattle.bit_nodes.specs.declared.nodes.BitName.TheVariants.{Further}
use Rattle.bit_nodes.specs.declared.nodes.BitNode.{BitNode}
use Rattle.bit_nodes.specs.declared.nodes.BitNode.TheVariants.{Table}
use Rattle.bit_blast.specs.Adding.{Adds}
use Rattle.bit_blast.specs.Names.{bit_of, by_places, end_of, names_of}
use Rattle.bit_blast.specs.Shifts.{bit_behind, moved_bit, mover}
use Rattle.bit_blast.specs.declared.names.Word.{Word}
use Rattle.bit_blast.specs.declared.names.Word.TheVariants.{Furthers, Part, Port}
use Rattle.bit_blast.specs.declared.shifts.Move.{Move}
use Rattle.bit_blast.specs.declared.shifts.Way.{Way}
use Rattle.bit_blast.specs.declared.shifts.Way.TheVariants.{Down, Up}
use Rattle.bit_blast.proofs.Adding.{one_added}
use Rattle.bit_blast.proofs.ByPlaces.{by_places_drop, by_places_filled, by_places_furthers, by_places_same, by_places_split, by_places_take}
use Rattle.bit_blast.proofs.Counted.{length-word_names}
use Rattle.bit_blast.proofs.Places.{length-by_places}

-- fewer places end no later
pub end_below : (bits : Word) (j n : ℕ) → j ≤ n → end_of bits n < 2 ^ 32 → end_of bits j < 2 ^ 32
end_below (Part wire low) j n le h = omega arith
end_below (Port port) j n le h = omega arith
end_below (Furthers wire first) j n le h = omega arith

-- one more place of a stage
pub stage_more : (flat : Flat) (old mid new : List BitNode) (by : BitName) (outs bits : Word) (moved : Move) (j : ℕ) (x y z : BitName)
    → Adds flat old mid (choices (name_of flat by) (names_of flat outs j) (by_places (λ i. name_of flat (moved_bit moved bits i)) j) (names_of flat bits j))
    → new ≡ mid ++ Table (Choice by x y) z ∷ [] → x ≡ moved_bit moved bits j → y ≡ bit_of bits j → z ≡ bit_of outs j
    → Adds flat old new
    (choices (name_of flat by) (names_of flat outs (j + 1)) (by_places (λ i. name_of flat (moved_bit moved bits i)) (j + 1)) (names_of flat bits (j + 1)))
stage_more flat old mid new by outs bits moved j x y z h e ex ey ez =
    let before = choices (name_of flat by) (names_of flat outs j) (by_places (λ i. name_of flat (moved_bit moved bits i)) j) (names_of flat bits j) in
    let pushed : new ≡ mid ++ Table (Choice by (moved_bit moved bits j) (bit_of bits j)) (bit_of outs j) ∷ [] =
    e ∙ ap (λ (n : BitName). mid ++ Table (Choice by n y) z ∷ []) ex
    ∙ ap (λ (n : BitName). mid ++ Table (Choice by (moved_bit moved bits j) n) z ∷ []) ey
    ∙ ap (λ (n : BitName). mid ++ Table (Choice by (moved_bit moved bits j) (bit_of bits j)) n ∷ []) ez in
    subst (λ (n : ℕ). Adds flat old new
    (choices (name_of flat by) (names_of flat outs n) (by_places (λ i. name_of flat (moved_bit moved bits i)) n) (names_of flat bits n)))
    (sym (add-one j))
    (one_added flat old mid new before (Table (Choice by (moved_bit moved bits j) (bit_of bits j)) (bit_of outs j)) h pushed)

-- a word that moved up, and one that moved down
up_names : (fill : List ℕ) (f g : ℕ → List ℕ) (p q n : ℕ) → n ≡ q + p → ((j : ℕ) → j < p → g j ≡ fill) → ((j : ℕ) → g (j + p) ≡ f j)
    → by_places g n ≡ moved_up p fill (by_places f n)
up_names fill f g p q n e low high =
    let turned : n ≡ p + q = omega arith in
    let wide = length-by_places f n in
    let few : p ≡ min p (length (by_places f n)) = omega (arith, wide, e) in
    by_places_split g q p n e
    ∙ ap (λ (r : List (List ℕ)). r ++ by_places g p) (by_places_same (λ j. g (j + p)) f q (λ j h. high j))
    ∙ ap (λ (r : List (List ℕ)). by_places f q ++ r) (by_places_filled g fill p low)
    ∙ ap (λ (r : List (List ℕ)). r ++ replicate p fill) (sym (by_places_drop f p q n turned))
    ∙ ap (λ (m : ℕ). drop p (by_places f n) ++ replicate m fill) few

down_names : (fill : List ℕ) (f g : ℕ → List ℕ) (p q n : ℕ) → n ≡ q + p → ((j : ℕ) → j < q → g j ≡ f (j + p)) → ((j : ℕ) → g (j + q) ≡ fill)
    → by_places g n ≡ moved_down p fill (by_places f n)
down_names fill f g p q n e low high =
    let turned : n ≡ p + q = omega arith in
    let wide = length-by_places f n in
    let few : p ≡ min p (length (by_places f n)) = omega (arith, wide, e) in
    let left : q ≡ length (by_places f n) - p = omega (arith, wide, e) in
    by_places_split g p q n turned
    ∙ ap (λ (r : List (List ℕ)). r ++ by_places g q) (by_places_filled (λ j. g (j + q)) fill p (λ j h. high j))
    ∙ ap (λ (r : List (List ℕ)). replicate p fill ++ r) (by_places_same g (λ j. f (j + p)) q low)
    ∙ ap (λ (r : List (List ℕ)). replicate p fill ++ r) (sym (by_places_take f q p n e))
    ∙ ap (λ (m : ℕ). replicate m fill ++ take q (by_places f n)) few
    ∙ ap (λ (m : ℕ). replicate (min p (length (by_places f n))) fill ++ take m (by_places f n)) left

-- the bits behind a move have the names that moved
moved_names : (flat : Flat) (way : Way) (filling : BitName) (p q n : ℕ) (bits : Word) → n ≡ q + p
    → by_places (λ j. name_of flat (bit_behind way filling p n bits j)) n ≡ mover way (name_of flat filling) p (names_of flat bits n)
moved_names flat Up filling p q n bits e =
    up_names (name_of flat filling) (λ j. name_of flat (bit_of bits j)) (λ j. name_of flat (bit_behind Up filling p n bits j)) p q n e
    (λ j h. ap (λ b. name_of flat (if b then filling else bit_of bits (j - p))) (lt-ltb j p h))
    (λ j.
    let not_less : p ≤ j + p = omega arith in
    let back : j + p - p ≡ j = omega arith in
    ap (λ b. name_of flat (if b then filling else bit_of bits (j + p - p))) (le-ltb (j + p) p not_less)
    ∙ ap (λ (i : ℕ). name_of flat (bit_of bits i)) back)
moved_names flat Down filling p q n bits e =
    let left : n - p ≡ q = omega arith in
    down_names (name_of flat filling) (λ j. name_of flat (bit_of bits j)) (λ j. name_of flat (bit_behind Down filling p n bits j)) p q n e
    (λ j h.
    let less : j < n - p = omega arith in
    ap (λ b. name_of flat (if b then bit_of bits (j + p) else filling)) (lt-ltb j (n - p) less))
    (λ j.
    let over : n - p ≤ j + q = omega arith in
    ap (λ b. name_of flat (if b then bit_of bits (j + q + p) else filling)) (le-ltb (j + q) (n - p) over))

-- a move by more places than there are is one by all
capped : (way : Way) (fill : List ℕ) (p : ℕ) (xs : List (List ℕ)) → mover way fill (min p (length xs)) xs ≡ mover way fill p xs
capped Up fill p xs =
    let twice : min (min p (length xs)) (length xs) ≡ min p (length xs) = omega arith in
    ap (λ (r : List (List ℕ)). r ++ replicate (min (min p (length xs)) (length xs)) fill) (drop_min p xs)
    ∙ ap (λ (m : ℕ). drop p xs ++ replicate m fill) twice
capped Down fill p xs =
    let twice : min (min p (length xs)) (length xs) ≡ min p (length xs) = omega arith in
    let left : length xs - min p (length xs) ≡ length xs - p = omega arith in
    ap (λ (m : ℕ). replicate m fill ++ take (length xs - min p (length xs)) xs) twice
    ∙ ap (λ (m : ℕ). replicate (min p (length xs)) fill ++ take m xs) left

pub places_more : (p t n : ℕ) → p ≡ min (2 ^ t) n → min (2 * p) n ≡ min (2 ^ (t + 1)) n
places_more p t n e =
    let power : 2 ^ (t + 1) ≡ 2 ^ t * 2 = ap (λ (i : ℕ). 2 ^ i) (add-one t) ∙ pow-suc 2 t in
    omega (arith, power, e)

pub number_more : (m t n : ℕ) → m ≡ 1 + t * n → m + n ≡ 1 + (t + 1) * n
number_more m t n e = omega (arith, e)

-- the names behind one more stage
pub shifted_more : (flat : Flat) (w : WireId) (an bn : List ℕ) (n t number : ℕ) → number ≡ 1 + t * n
    → names_of flat (Furthers w number) n ≡ shifted_names w.number (word_names an n) (word_names bn (t + 1))
shifted_more flat w an bn n t number e =
    let k = w.number in
    let xs = word_names an n in
    let wide = length-word_names an n in
    let long = length-word_names bn t in
    by_places_furthers k number n
    ∙ ap (λ (m : ℕ). furthers k m n) e
    ∙ ap (λ (m : ℕ). furthers k (1 + t * m) m) (sym wide)
    ∙ ap (λ (m : ℕ). furthers k (1 + m * length xs) (length xs)) (sym long)
    ∙ ap (λ (m : ℕ). shifted_names k xs (word_names bn m)) (sym (add-one t))

-- one more stage
pub stages_more : (flat : Flat) (w : WireId) (way : Way) (an bn : List ℕ) (n t number p : ℕ) (bits : Word) → number ≡ 1 + t * n
    → p ≡ min (2 ^ t) n → names_of flat bits n ≡ shifted_names w.number (word_names an n) (word_names bn t)
    → shift_nodes (mover way (further w.number 0)) w.number (word_names an n) (word_names bn t)
    ++ choices (place_name bn t) (names_of flat (Furthers w number) n) (by_places (λ j. name_of flat (bit_behind way (Further w 0) p n bits j)) n)
    (names_of flat bits n)
    ≡ shift_nodes (mover way (further w.number 0)) w.number (word_names an n) (word_names bn (t + 1))
stages_more flat w way an bn n t number p bits e f g =
    let k = w.number in
    let xs = word_names an n in
    let fill = further k 0 in
    let before = shift_nodes (mover way fill) k xs (word_names bn t) in
    let s = place_name bn t in
    let own = shifted_names k xs (word_names bn t) in
    let outs = shifted_names k xs (word_names bn (t + 1)) in
    let long = length-word_names bn t in
    let wide : length (names_of flat bits n) ≡ n = length-by_places (λ j. name_of flat (bit_of bits j)) n in
    let split : n ≡ n - p + p = omega arith in
    let number_of_places : p ≡ min (2 ^ t) (length (names_of flat bits n)) = f ∙ ap (λ (m : ℕ). min (2 ^ t) m) (sym wide) in
    let moved : by_places (λ j. name_of flat (bit_behind way (Further w 0) p n bits j)) n ≡ mover way fill (2 ^ length (word_names bn t)) own =
    moved_names flat way (Further w 0) p (n - p) n bits split
    ∙ ap (λ (m : ℕ). mover way fill m (names_of flat bits n)) number_of_places
    ∙ capped way fill (2 ^ t) (names_of flat bits n)
    ∙ ap (λ (m : ℕ). mover way fill (2 ^ m) (names_of flat bits n)) (sym long)
    ∙ ap (λ (q : List (List ℕ)). mover way fill (2 ^ length (word_names bn t)) q) g in
    ap (λ (q : List (List ℕ)). before ++ choices s q (by_places (λ j. name_of flat (bit_behind way (Further w 0) p n bits j)) n) (names_of flat bits n))
    (shifted_more flat w an bn n t number e)
    ∙ ap (λ (q : List (List ℕ)). before ++ choices s outs q (names_of flat bits n)) moved
    ∙ ap (λ (q : List (List ℕ)). before ++ choices s outs (mover way fill (2 ^ length (word_names bn t)) own) q) g
    ∙ ap (λ (q : List (List ℕ)). before ++ choices s q (mover way fill (2 ^ length (word_names bn t)) own) own)
    (ap (λ (m : ℕ). shifted_names k xs (word_names bn m)) (add-one t))
    ∙ ap (λ (m : ℕ). shift_nodes (mover way fill) k xs (word_names bn m)) (sym (add-one t))

-- the sign is the first bit
pub sign_is : (k : ℕ) (name : List ℕ) (n : ℕ) → 1 ≤ n
    → sign_nodes k (word_names name n) ≡ gate_of buffer (place_name name (n - 1) ∷ []) (further k 0) ∷ []
sign_is k name zero some = absurd (omega arith)
sign_is k name (suc n) some =
    let last : n ≡ suc n - 1 = omega arith in
    ap (λ (m : ℕ). gate_of buffer (place_name name m ∷ []) (further k 0) ∷ []) last
