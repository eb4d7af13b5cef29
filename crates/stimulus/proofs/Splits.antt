-- Texts split at a byte, one part after the other.
use Rattle.std.proofs.Common.{◌≡◌, ℕ, suc, ◌+◌, ◌<◌, ◌≤◌, ◌==◌, Bool, true, false, not, refl, List, [], ◌∷◌, ◌++◌, length, drop, take, sym, ap, ◌∙◌, arith, append_assoc}
use Rattle.std.specs.Prelude.{IsTrue, cond}
use Rattle.std.specs.Borrow.{Bor}
use Rattle.std.specs.List.{position_or_len, onto_first}
use Rattle.std.proofs.lemmas.Bool.Decides.{Decides-ltb}
use Rattle.std.proofs.lemmas.List.{length-drop, map-append}
use Rattle.std.proofs.lemmas.List.Splits.{slice_split_first, slice_split_none}
use Rattle.std.proofs.lemmas.List.Elements.{All-from_get_or}
use Rattle.std.proofs.lemmas.List.Sums.{fails_before_first}
use Rattle.std.proofs.lemmas.Bool.{ltb-false}
use Rattle.stimulus.specs.Texts.{is, has, before, behind, split_at, lines_of, texts}

-- a byte that stands in a text has its first place there
pub has_place : (byte : ℕ) (text : List ℕ) → IsTrue (has byte text) → position_or_len (is byte) text < length text
has_place byte text h = (Decides-ltb (position_or_len (is byte) text) (length text)).0 h

pub no_place : (byte : ℕ) (text : List ℕ) → has byte text ≡ false → length text ≤ position_or_len (is byte) text
no_place byte text none = ltb-false _ _ none

pub behind_shorter : (byte : ℕ) (text : List ℕ) → IsTrue (has byte text) → length (behind byte text) < length text
behind_shorter byte text h =
    let within = has_place byte text h in
    omega (arith, length-drop (position_or_len (is byte) text + 1) text)

-- the first part is before the first such byte
pub split_first : (byte : ℕ) (text : List ℕ) → IsTrue (has byte text) → split_at byte text ≡ before byte text ∷ split_at byte (behind byte text)
split_first byte text h = slice_split_first (is byte) text 0 (has_place byte text h)

-- a text without the byte is one part
pub split_last : (byte : ℕ) (text : List ℕ) → has byte text ≡ false → split_at byte text ≡ text ∷ []
split_last byte text none =
    slice_split_none (is byte) text (All-from_get_or (λ b. is byte b ≡ false) text 0 (λ i within. fails_before_first (is byte) text i 0 (omega (arith, no_place byte text none))))

pub texts_more : (parts : List (Bor (List ℕ))) (part : Bor (List ℕ)) (rest whole : List (List ℕ)) → texts parts ++ part.now ∷ rest ≡ whole → texts (parts ++ part ∷ []) ++ rest ≡ whole
texts_more parts part rest whole same =
    ap (λ ts. ts ++ rest) (map-append (λ (t : Bor (List ℕ)). t.now) parts (part ∷ [])) ∙ append_assoc (texts parts) (part.now ∷ []) rest ∙ same

lines_step : (b : ℕ) (text : List ℕ) (is_end : Bool) → (0 < length text → lines_of text ≡ before 10 text ∷ lines_of (behind 10 text))
    → cond is_end ([] ∷ lines_of text) (onto_first b (lines_of text))
    ≡ take (cond (not is_end) (1 + position_or_len (is 10) text) 0) (b ∷ text) ∷ lines_of (drop (cond (not is_end) (1 + position_or_len (is 10) text) 0 + 1) (b ∷ text))
lines_step b text true later = refl
lines_step b [] false later = refl
lines_step b (t ∷ text) false later =
    let place = position_or_len (is 10) (t ∷ text) in
    let one : 1 + place ≡ suc place = omega arith in
    let two : 1 + place + 1 ≡ suc (place + 1) = omega arith in
    ap (onto_first b) (later (omega arith))
    ∙ ap (λ n. take n (b ∷ t ∷ text) ∷ lines_of (drop (place + 1) (t ∷ text))) (sym one)
    ∙ ap (λ n. take (1 + place) (b ∷ t ∷ text) ∷ lines_of (drop n (b ∷ t ∷ text))) (sym two)

-- the first line is before the first line feed
pub lines_first : (text : List ℕ) → 0 < length text → lines_of text ≡ before 10 text ∷ lines_of (behind 10 text)
lines_first [] some = absurd (omega arith)
lines_first (b ∷ text) some = lines_step b text (b == 10) (lines_first text)
