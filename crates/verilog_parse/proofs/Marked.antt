-- Tokens that fit a row are at the row's marks.
use Rattle.std.proofs.Common.{◌≡◌, ℕ, suc, Bool, true, false, List, [], ◌∷◌, ◌++◌, length, sym, refl, ap, ◌∙◌, subst, append_assoc}
use Rattle.std.proofs.lemmas.Bool.{false≢true, and_parts}
use Rattle.verilog_text.specs.Grammar.{keyword, sign, signed}
use Rattle.verilog_text.specs.VForms.{Sort, Token}
use Rattle.verilog_text.specs.VForms.Sort.{literal as a_literal, name as a_name, number as a_number, sign as a_sign}
use Rattle.verilog_text.specs.VTokens.{Placed}
use Rattle.verilog_tree.specs.Marks.{AreMarked, IsAt, Mark}
use Rattle.verilog_tree.specs.Syntax.{tokens_of}
use Rattle.verilog_lex.specs.Shown.{keyword_bytes, sign_bytes}
use Rattle.verilog_parse.specs.RowMarks.{bytes_in, mark_if, nth, slot_mark, slot_marks, word_bytes}
use Rattle.verilog_parse.specs.Slots.{binary_ops, fits, takes, unary_ops}
use Rattle.verilog_parse.specs.declared.slot.Slot.{Slot}
use Rattle.verilog_parse.specs.declared.slot.Slot.TheVariants.{Binary, Keyword, Literal, Name, Number, Sign, Signed, Unary}
use Rattle.verilog_parse.proofs.Taken.{any_sign1, any_sign2, same_sort_is, same_token_is}

mark_if_at : (kept : Bool) (t : Placed) (token : Token) → t.token ≡ token → IsAt t (mark_if kept t.at token)
mark_if_at true t token is = record { token_is = is; place_is = refl }
mark_if_at false t token is = record { token_is = is; place_is = tt }

-- a token of a sort of words is that word
of_word : (s : Sort) (t : Token) → t.sort ≡ s → bytes_in s t.bytes ≡ t.bytes → t ≡ record { sort = s; bytes = word_bytes t }
of_word s t is whole =
    let bytes : t.bytes ≡ word_bytes t = sym whole ∙ ap (λ (x : Sort). bytes_in x t.bytes) (sym is) in
    λ i. record { sort = is i; bytes = bytes i }

of_sign : (t : Token) → t.sort ≡ a_sign → t ≡ sign t.bytes
of_sign t is = λ i. record { sort = is i; bytes = t.bytes }

taken_at : (s : Slot) (kept : Bool) (t : Placed) → takes s t.token ≡ true → IsAt t (slot_mark s kept t)
taken_at (Keyword k) kept t took = mark_if_at kept t (keyword (keyword_bytes k)) (same_token_is (keyword (keyword_bytes k)) t.token took)
taken_at (Sign s) kept t took = mark_if_at kept t (sign (sign_bytes s)) (same_token_is (sign (sign_bytes s)) t.token took)
taken_at Name kept t took = record { token_is = of_word a_name t.token (same_sort_is a_name t.token.sort took) refl; place_is = refl }
taken_at Number kept t took = record { token_is = of_word a_number t.token (same_sort_is a_number t.token.sort took) refl; place_is = refl }
taken_at Literal kept t took = record { token_is = of_word a_literal t.token (same_sort_is a_literal t.token.sort took) refl; place_is = refl }
taken_at Signed kept t took = record { token_is = same_token_is signed t.token took; place_is = tt }
taken_at Unary kept t took = record { token_is = of_sign t.token (any_sign1 unary_ops t.token took); place_is = refl }
taken_at Binary kept t took = record { token_is = of_sign t.token (any_sign2 binary_ops t.token took); place_is = refl }

nth_behind : (before : List Placed) (t : Placed) (after : List Placed) → nth (length before) (before ++ t ∷ after) ≡ t
nth_behind [] t after = refl
nth_behind (b ∷ before) t after = nth_behind before t after

length_more : (before : List Placed) (t : Placed) → length (before ++ t ∷ []) ≡ suc (length before)
length_more [] t = refl
length_more (b ∷ before) t = ap suc (length_more before t)

marked_behind : (kept : ℕ → Bool) (slots : List Slot) (before after : List Placed) → fits slots (tokens_of after) ≡ true
    → AreMarked after (slot_marks kept slots (length before) (before ++ after))
marked_behind kept [] before [] fit = tt
marked_behind kept [] before (t ∷ after) fit = absurd (false≢true fit)
marked_behind kept (s ∷ slots) before [] fit = absurd (false≢true fit)
marked_behind kept (s ∷ slots) before (t ∷ after) fit =
    let parts = and_parts _ _ fit in
    let k = length before in
    let here : IsAt t (slot_mark s (kept k) (nth k (before ++ t ∷ after))) =
    subst (λ (p : Placed). IsAt t (slot_mark s (kept k) p)) (sym (nth_behind before t after)) (taken_at s (kept k) t parts.0) in
    let rest : AreMarked after (slot_marks kept slots (length (before ++ t ∷ [])) ((before ++ t ∷ []) ++ after)) =
    marked_behind kept slots (before ++ t ∷ []) after parts.1 in
    let moved : slot_marks kept slots (length (before ++ t ∷ [])) ((before ++ t ∷ []) ++ after) ≡ slot_marks kept slots (suc k) (before ++ t ∷ after) =
    ap (λ (n : ℕ). slot_marks kept slots n ((before ++ t ∷ []) ++ after)) (length_more before t)
    ∙ ap (λ (l : List Placed). slot_marks kept slots (suc k) l) (append_assoc before (t ∷ []) after) in
    (here, subst (λ (l : List Mark). AreMarked after l) moved rest)

-- tokens that fit the slots are at their marks
pub are_marked : (kept : ℕ → Bool) (slots : List Slot) (tokens : List Placed) → fits slots (tokens_of tokens) ≡ true → AreMarked tokens (slot_marks kept slots 0 tokens)
are_marked kept slots tokens fit = marked_behind kept slots [] tokens fit
