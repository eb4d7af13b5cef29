-- Choices, elements, words and wires, one more at a time.
use Rattle.std.proofs.Common.{◌≡◌, ◌∙◌, sym, ap, subst, ℕ, zero, suc, ◌+◌, ◌-◌, ◌<◌, ◌≤◌, arith, Bool, List, [], ◌∷◌, ◌++◌, length, take, reverse, get_or, refl, append_assoc, min, Some, slice_get}
use Rattle.std.specs.Prelude.{zip}
use Rattle.std.proofs.lemmas.List.{take_all, take_more, reverse-append}
use Rattle.std.proofs.lemmas.Slice.Zip.{length-zip}
use Rattle.chw_base.specs.declared.index.WireId.{WireId}
use Rattle.chw_bits.specs.Bits.{bits_of}
use Rattle.netlist.specs.declared.net.Cell.TheVariants.{Mux}
use Rattle.net_built.specs.Data.{choices, last_of}
use Rattle.net_built.specs.Vectors.{element, elements, element_wires, words_from}
use Rattle.net_built.specs.Wires.{wire, wires_from, Piece, nothing, one, ◌▸◌, new_wires, wire_count}
use Rattle.net_pieces.proofs.Behind.{behind_nothing, then_rest}

-- the last of a list
pub last_at : (results : List (List WireId)) (r : List WireId)
    → slice_get results (length results - 1) ≡ Some r → last_of results ≡ r
last_at [] r h = cc
last_at (s ∷ []) r h = cc
last_at (s ∷ t ∷ more) r h =
    let n : length (s ∷ t ∷ more) - 1 ≡ suc (length (t ∷ more) - 1) = omega arith in
    last_at (t ∷ more) r (subst (λ (k : ℕ). slice_get (s ∷ t ∷ more) k ≡ Some r) n h)

-- a choice without bits is nothing
pub none_chosen : (xs : List (WireId × WireId)) (other : WireId) (at : ℕ)
    → choices 0 xs other at ≡ nothing
none_chosen [] other at = refl
none_chosen (x ∷ xs) other at = none_chosen xs (wire at) (at + 1)

pub behind_no_choice : (s : Piece) (width : ℕ) (xs : List (WireId × WireId)) (other : WireId)
    (at : ℕ) → width ≡ 0 → s ≡ s ▸ choices width xs other at
behind_no_choice s width xs other at h =
    sym (ap (λ (w : ℕ). s ▸ choices w xs other at) h ∙ ap (λ (p : Piece). s ▸ p) (none_chosen xs other at) ∙ behind_nothing s)

-- pairs of two lists
pub zip_at : (us vs : List WireId) (j : ℕ) (d : WireId) → j < length us → j < length vs
    → get_or (zip us vs) j (d, d) ≡ (get_or us j d, get_or vs j d)
zip_at [] vs j d h k = absurd (omega arith)
zip_at (u ∷ us) [] j d h k = absurd (omega arith)
zip_at (u ∷ us) (v ∷ vs) zero d h k = refl
zip_at (u ∷ us) (v ∷ vs) (suc j) d h k = zip_at us vs j d (omega arith) (omega arith)

-- as many as there are pairs are all
pub all_pairs : (us vs : List WireId) → take (min (length us) (length vs)) (zip us vs) ≡ zip us vs
all_pairs us vs = take_all (min (length us) (length vs)) (zip us vs) (omega (arith, length-zip us vs))

-- the last of so many pairs is the first of them turned round
pub turned_pairs : (us vs : List WireId) (i : ℕ) (d : WireId)
    → 0 < i → i ≤ min (length us) (length vs)
    → reverse (take i (zip us vs))
    ≡ (get_or us (i - 1) d, get_or vs (i - 1) d) ∷ reverse (take (i - 1) (zip us vs))
turned_pairs us vs i d h k =
    let j : ℕ = i - 1 in
    let e : i ≡ j + 1 = omega arith in
    let within : j < length (zip us vs) = omega (arith, length-zip us vs) in
    ap (λ (n : ℕ). reverse (take n (zip us vs))) e
    ∙ ap reverse (take_more (zip us vs) j (d, d) within)
    ∙ reverse-append (take j (zip us vs)) (get_or (zip us vs) j (d, d) ∷ [])
    ∙ ap (λ (x : WireId × WireId). x ∷ reverse (take j (zip us vs))) (zip_at us vs j d (omega arith) (omega arith))

-- one more choice
choice_wide : (s t : Piece) (w : ℕ) (x : WireId × WireId) (more : List (WireId × WireId))
    (other : WireId) → t ≡ s ▸ one (suc w) (Mux (wire (length s.widths)) x.0 x.1 other)
    → t ▸ choices (suc w) more (wire (length s.widths)) (length t.widths)
    ≡ s ▸ choices (suc w) (x ∷ more) other (length s.widths)
choice_wide s t w x more other e =
    then_rest s t (one (suc w) (Mux (wire (length s.widths)) x.0 x.1 other))
    (choices (suc w) more (wire (length s.widths))) e

pub choice_next : (s t : Piece) (width : ℕ) (us vs : List WireId) (i : ℕ) (d other : WireId)
    → 0 < width → 0 < i → i ≤ min (length us) (length vs)
    → t ≡ s ▸ one width (Mux (wire (length s.widths)) (get_or us (i - 1) d) (get_or vs (i - 1) d) other)
    → t ▸ choices width (reverse (take (i - 1) (zip us vs))) (wire (length s.widths)) (length t.widths)
    ≡ s ▸ choices width (reverse (take i (zip us vs))) other (length s.widths)
choice_next s t zero us vs i d other some h k e = absurd (omega arith)
choice_next s t (suc w) us vs i d other some h k e =
    choice_wide s t w (get_or us (i - 1) d, get_or vs (i - 1) d) (reverse (take (i - 1) (zip us vs))) other e
    ∙ ap (λ (xs : List (WireId × WireId)). s ▸ choices (suc w) xs other (length s.widths)) (sym (turned_pairs us vs i d h k))

-- one more element
pub elements_next : (s t : Piece) (width b : ℕ) (v : List WireId) → 0 < b
    → t ≡ s ▸ element width (b - 1) (length s.widths) v
    → t ▸ elements width (b - 1) (length t.widths) v ≡ s ▸ elements width b (length s.widths) v
elements_next s t width b v h e =
    let j : b ≡ suc (b - 1) = omega arith in
    then_rest s t (element width (b - 1) (length s.widths) v) (λ (at : ℕ). elements width (b - 1) at v) e
    ∙ ap (λ (n : ℕ). s ▸ elements width n (length s.widths) v) (sym j)

-- one more word
pub words_next : (ws vs : List (List Bool)) (k j count : ℕ) (bits : List Bool) → j < count
    → vs ≡ ws ++ bits ∷ [] → bits ≡ bits_of k j
    → vs ++ words_from k (j + 1) (count - (j + 1)) ≡ ws ++ words_from k j (count - j)
words_next ws vs k j count bits h e f =
    let left : List (List Bool) = words_from k (j + 1) (count - (j + 1)) in
    let n : count - j ≡ suc (count - (j + 1)) = omega arith in
    ap (λ (xs : List (List Bool)). xs ++ left) e
    ∙ append_assoc ws (bits ∷ []) left
    ∙ ap (λ (b : List Bool). ws ++ b ∷ left) f
    ∙ ap (λ (m : ℕ). ws ++ words_from k j m) (sym n)

-- one more wire, and the wires of one more element
pub wires_from_next : (xs ys : List WireId) (count i n m : ℕ) → i < count → ys ≡ xs ++ wire n ∷ []
    → m ≡ n + 1 → ys ++ wires_from m (count - (i + 1)) ≡ xs ++ wires_from n (count - i)
wires_from_next xs ys count i n m h e f =
    let j : count - i ≡ suc (count - (i + 1)) = omega arith in
    ap (λ (zs : List WireId). zs ++ wires_from m (count - (i + 1))) e
    ∙ append_assoc xs (wire n ∷ []) (wires_from m (count - (i + 1)))
    ∙ ap (λ (l : ℕ). xs ++ wire n ∷ wires_from l (count - (i + 1))) f
    ∙ ap (λ (l : ℕ). xs ++ wires_from n l) (sym j)

one_or_none : (w : ℕ) → min w 1 ≡ wire_count (w ∷ [])
one_or_none zero = refl
one_or_none (suc w) = let h : min (suc w) 1 ≡ 1 = omega arith in h

pub element_wires_next : (xs ys : List (List WireId)) (width count i n m : ℕ) (b : List WireId)
    → i < count → ys ≡ xs ++ b ∷ [] → b ≡ new_wires n (width ∷ []) → m ≡ n + min width 1
    → ys ++ element_wires width (count - (i + 1)) m ≡ xs ++ element_wires width (count - i) n
element_wires_next xs ys width count i n m b h e f g =
    let j : count - i ≡ suc (count - (i + 1)) = omega arith in
    let left : List (List WireId) = element_wires width (count - (i + 1)) m in
    ap (λ (zs : List (List WireId)). zs ++ left) e
    ∙ append_assoc xs (b ∷ []) left
    ∙ ap (λ (x : List WireId). xs ++ x ∷ left) f
    ∙ ap (λ (l : ℕ). xs ++ new_wires n (width ∷ []) ∷ element_wires width (count - (i + 1)) l)
    (g ∙ ap (λ (l : ℕ). n + l) (one_or_none width))
    ∙ ap (λ (l : ℕ). xs ++ element_wires width l n) (sym j)
