-- A text goes on in one way after a gap.
use Rattle.std.proofs.Common.{◌≡◌, ℕ, not, eqb, List, [], ◌∷◌, ◌++◌, ◌⊎◌, inl, inr, sym, refl, ap, ◌∙◌, subst, append_assoc, arith}
use Rattle.std.specs.Prelude.{IsTrue, ◌==◌}
use Rattle.std.proofs.lemmas.Bool.{both_ways, or_cases, eqb-true}
use Rattle.std.proofs.lemmas.List.{append-nil}
use Rattle.verilog_text.specs.VForms.{HasForm, Sort}
use Rattle.verilog_text.specs.VForms.Sort.{keyword, literal, name, number, sign, signed}
use Rattle.verilog_text.specs.VTokens.{BeginsNothing, Gap, HasNoEnd, InLine, LastGap, is_white}
use Rattle.verilog_text.specs.VTokens.Gap.{block, line, none, white}
use Rattle.verilog_text.proofs.Firsts.{First, form_empty, form_first}
use Rattle.verilog_text.proofs.Runs.{same_run}

-- no gap but the empty one is a front of the bytes
abbrev pub BeginsNoGap : List ℕ → Type 0
BeginsNoGap bytes = (gap more : List ℕ) → Gap gap → gap ++ more ≡ bytes → gap ≡ []

pub white_number : (b : ℕ) → IsTrue (is_white b) → (b ≡ 32) ⊎ ((b ≡ 9) ⊎ ((b ≡ 10) ⊎ (b ≡ 13)))
white_number b is_white_b =
    elim (or_cases (eqb b 32) _ is_white_b) [
      | inl space ↦ inl (eqb-true _ _ space)
      | inr more ↦ elim (or_cases (eqb b 9) _ more) [
        | inl tab ↦ inr (inl (eqb-true _ _ tab))
        | inr others ↦ elim (or_cases (eqb b 10) _ others) [ inl feed ↦ inr (inr (inl (eqb-true _ _ feed))) | inr return ↦ inr (inr (inr (eqb-true _ _ return))) ]
      ]
    ]

white_no_slash : (b : ℕ) → IsTrue (is_white b) → b ≡ 47 → ⊥
white_no_slash b is_white_b slash =
    let which = white_number b is_white_b in omega arith

-- two comments of one line that are one
same_line : (text rest other more : List ℕ) → InLine text → InLine other → other ++ 10 ∷ more ≡ text ++ 10 ∷ rest → (other ≡ text) × (more ≡ rest)
same_line text rest other more in_line other_in_line same =
    let parts = same_run (λ b. not (b == 10)) text (10 ∷ rest) other (10 ∷ more) in_line refl other_in_line refl same in
    (parts.0, let ends = parts.1 in cc)

no_end_behind : (b : ℕ) (inside : List ℕ) → HasNoEnd (b ∷ inside) → HasNoEnd inside
no_end_behind b inside none_in before after same = none_in (b ∷ before) after (ap (λ l. b ∷ l) same)

star_no_slash : (a b : List ℕ) → 42 ∷ a ≡ 47 ∷ b → ⊥
star_no_slash a b same = omega (arith, heads 42 47 a b same)
  where
    heads : (x y : ℕ) (a b : List ℕ) → x ∷ a ≡ y ∷ b → x ≡ y
    heads x y a b same = cc

-- two comments up to `*/` that are one
same_inside : (inside rest other more : List ℕ) → HasNoEnd inside → HasNoEnd other → other ++ 42 ∷ 47 ∷ more ≡ inside ++ 42 ∷ 47 ∷ rest → (other ≡ inside) × (more ≡ rest)
same_inside [] rest [] more a b same = (refl, cc)
same_inside [] rest (c ∷ []) more a b same =
    let second : 42 ∷ 47 ∷ more ≡ 47 ∷ rest = cc in
    absurd (star_no_slash (47 ∷ more) rest second)
same_inside [] rest (c ∷ d ∷ other) more a b same =
    let first : c ≡ 42 = cc in
    let tail : d ∷ (other ++ 42 ∷ 47 ∷ more) ≡ 47 ∷ rest = cc in
    let second : d ≡ 47 = cc in
    absurd (b [] other (cc))
same_inside (c ∷ []) rest [] more a b same =
    let second : 47 ∷ more ≡ 42 ∷ 47 ∷ rest = cc in
    absurd (star_no_slash (47 ∷ rest) more (sym second))
same_inside (c ∷ d ∷ inside) rest [] more a b same =
    let first : c ≡ 42 = cc in
    let tail : 47 ∷ more ≡ d ∷ (inside ++ 42 ∷ 47 ∷ rest) = cc in
    let second : d ≡ 47 = cc in
    absurd (a [] inside (cc))
same_inside (c ∷ inside) rest (d ∷ other) more a b same =
    let head : d ≡ c = cc in
    let tail : other ++ 42 ∷ 47 ∷ more ≡ inside ++ 42 ∷ 47 ∷ rest = cc in
    let parts : (other ≡ inside) × (more ≡ rest) = same_inside inside rest other more (no_end_behind c inside a) (no_end_behind d other b) tail in
    (cc, parts.1)

abbrev line_gap : List ℕ → List ℕ → List ℕ
line_gap text gap = 47 ∷ 47 ∷ (text ++ 10 ∷ gap)

abbrev block_gap : List ℕ → List ℕ → List ℕ
block_gap inside gap = 47 ∷ 42 ∷ ((inside ++ 42 ∷ 47 ∷ []) ++ gap)

line_before : (text gap more : List ℕ) → line_gap text gap ++ more ≡ 47 ∷ 47 ∷ (text ++ 10 ∷ (gap ++ more))
line_before text gap more = ap (λ l. 47 ∷ 47 ∷ l) (append_assoc text (10 ∷ gap) more)

block_before : (inside gap more : List ℕ) → block_gap inside gap ++ more ≡ 47 ∷ 42 ∷ (inside ++ 42 ∷ 47 ∷ (gap ++ more))
block_before inside gap more =
    ap (λ l. 47 ∷ 42 ∷ l) (append_assoc (inside ++ 42 ∷ 47 ∷ []) gap more ∙ append_assoc inside (42 ∷ 47 ∷ []) (gap ++ more))

line_no_block : (a b : List ℕ) → 47 ∷ 47 ∷ a ≡ 47 ∷ 42 ∷ b → ⊥
line_no_block a b same =
    let tail : 47 ∷ a ≡ 42 ∷ b = cc in
    star_no_slash b a (sym tail)

-- a text splits in one way into a gap and a rest with which no gap begins
pub same_gap : {gap other : List ℕ} → Gap gap → Gap other → (rest more : List ℕ) → BeginsNoGap rest → BeginsNoGap more → other ++ more ≡ gap ++ rest → (other ≡ gap) × (more ≡ rest)
same_gap none none rest more stops ends same = (refl, same)
same_gap none (white c other is_white_c others) rest more stops ends same =
    let empty : c ∷ other ≡ [] = stops (c ∷ other) more (white c other is_white_c others) same in cc
same_gap none (line text other in_line others) rest more stops ends same =
    let empty : line_gap text other ≡ [] = stops (line_gap text other) more (line text other in_line others) same in cc
same_gap none (block inside other no_end others) rest more stops ends same =
    let empty : block_gap inside other ≡ [] = stops (block_gap inside other) more (block inside other no_end others) same in cc
same_gap (white b gap is_white_b gaps) none rest more stops ends same =
    let empty : b ∷ gap ≡ [] = ends (b ∷ gap) rest (white b gap is_white_b gaps) (sym same) in cc
same_gap (white b gap is_white_b gaps) (white c other is_white_c others) rest more stops ends same =
    let head : c ≡ b = cc in
    let tail : other ++ more ≡ gap ++ rest = cc in
    let parts : (other ≡ gap) × (more ≡ rest) = same_gap gaps others rest more stops ends tail in
    (cc, parts.1)
same_gap (white b gap is_white_b gaps) (line text other in_line others) rest more stops ends same =
    let head : b ≡ 47 = cc in absurd (white_no_slash b is_white_b head)
same_gap (white b gap is_white_b gaps) (block inside other no_end others) rest more stops ends same =
    let head : b ≡ 47 = cc in absurd (white_no_slash b is_white_b head)
same_gap (line text gap in_line gaps) none rest more stops ends same =
    let empty : line_gap text gap ≡ [] = ends (line_gap text gap) rest (line text gap in_line gaps) (sym same) in cc
same_gap (line text gap in_line gaps) (white c other is_white_c others) rest more stops ends same =
    let head : c ≡ 47 = cc in absurd (white_no_slash c is_white_c head)
same_gap (line text gap in_line gaps) (line other_text other other_in_line others) rest more stops ends same =
    let front : 47 ∷ 47 ∷ (other_text ++ 10 ∷ (other ++ more)) ≡ 47 ∷ 47 ∷ (text ++ 10 ∷ (gap ++ rest)) =
    sym (line_before other_text other more) ∙ same ∙ line_before text gap rest in
    let tail : other_text ++ 10 ∷ (other ++ more) ≡ text ++ 10 ∷ (gap ++ rest) = cc in
    let lines = same_line text (gap ++ rest) other_text (other ++ more) in_line other_in_line tail in
    let parts : (other ≡ gap) × (more ≡ rest) = same_gap gaps others rest more stops ends lines.1 in
    ((λ i. line_gap (lines.0 i) (parts.0 i)), parts.1)
same_gap (line text gap in_line gaps) (block inside other no_end others) rest more stops ends same =
    absurd (line_no_block _ _ (sym (line_before text gap rest) ∙ sym same ∙ block_before inside other more))
same_gap (block inside gap no_end gaps) none rest more stops ends same =
    let empty : block_gap inside gap ≡ [] = ends (block_gap inside gap) rest (block inside gap no_end gaps) (sym same) in cc
same_gap (block inside gap no_end gaps) (white c other is_white_c others) rest more stops ends same =
    let head : c ≡ 47 = cc in absurd (white_no_slash c is_white_c head)
same_gap (block inside gap no_end gaps) (line text other in_line others) rest more stops ends same =
    absurd (line_no_block _ _ (sym (line_before text other more) ∙ same ∙ block_before inside gap rest))
same_gap (block inside gap no_end gaps) (block other_inside other other_no_end others) rest more stops ends same =
    let front : 47 ∷ 42 ∷ (other_inside ++ 42 ∷ 47 ∷ (other ++ more)) ≡ 47 ∷ 42 ∷ (inside ++ 42 ∷ 47 ∷ (gap ++ rest)) =
    sym (block_before other_inside other more) ∙ same ∙ block_before inside gap rest in
    let tail : other_inside ++ 42 ∷ 47 ∷ (other ++ more) ≡ inside ++ 42 ∷ 47 ∷ (gap ++ rest) = cc in
    let insides = same_inside inside (gap ++ rest) other_inside (other ++ more) no_end other_no_end tail in
    let parts : (other ≡ gap) × (more ≡ rest) = same_gap gaps others rest more stops ends insides.1 in
    ((λ i. block_gap (insides.0 i) (parts.0 i)), parts.1)

-- no token begins with white space or with `/`
pub white_no_first : (sort : Sort) (b : ℕ) → (b ≡ 32) ⊎ ((b ≡ 9) ⊎ ((b ≡ 10) ⊎ (b ≡ 13))) → First sort b → ⊥
white_no_first keyword b is_white_b first = omega arith
white_no_first name b is_white_b first = omega arith
white_no_first number b is_white_b first = omega arith
white_no_first literal b is_white_b first = omega arith
white_no_first signed b is_white_b first = omega arith
white_no_first sign b is_white_b first = omega arith

slash_no_first : (sort : Sort) (b : ℕ) → b ≡ 47 → First sort b → ⊥
slash_no_first keyword b slash first = omega arith
slash_no_first name b slash first = omega arith
slash_no_first number b slash first = omega arith
slash_no_first literal b slash first = omega arith
slash_no_first signed b slash first = omega arith
slash_no_first sign b slash first = omega arith

-- no token is a front of bytes that begin with `/`
pub no_slash_form : (sort : Sort) (bytes more rest : List ℕ) → bytes ++ more ≡ 47 ∷ rest → HasForm sort bytes → ⊥
no_slash_form sort [] more rest same form = form_empty sort form
no_slash_form sort (b ∷ bytes) more rest same form =
    let head : b ≡ 47 = cc in slash_no_first sort b head (form_first sort b bytes form)

-- no gap begins where a token begins
pub form_no_gap : (sort : Sort) (bytes rest : List ℕ) → HasForm sort bytes → BeginsNoGap (bytes ++ rest)
form_no_gap sort [] rest form gap more gaps same = absurd (form_empty sort form)
form_no_gap sort (w ∷ bytes) rest form gap more gaps same = here gaps more same
  where
    here : {gap : List ℕ} → Gap gap → (more : List ℕ) → gap ++ more ≡ w ∷ (bytes ++ rest) → gap ≡ []
    here none more same = refl
    here (white b gap is_white_b gaps) more same =
        let head : w ≡ b = cc in
        absurd (white_no_first sort b (white_number b is_white_b) (subst (First sort) head (form_first sort w bytes form)))
    here (line text gap in_line gaps) more same = absurd (no_slash_form sort (w ∷ bytes) rest (47 ∷ ((text ++ 10 ∷ gap) ++ more)) (sym same) form)
    here (block inside gap no_end gaps) more same =
        absurd (no_slash_form sort (w ∷ bytes) rest (42 ∷ (((inside ++ 42 ∷ 47 ∷ []) ++ gap) ++ more)) (sym same) form)

pub nothing_no_gap : (b : ℕ) (rest : List ℕ) → BeginsNothing b rest → BeginsNoGap (b ∷ rest)
nothing_no_gap b rest nothing gap more gaps same = here gaps more same
  where
    here : {gap : List ℕ} → Gap gap → (more : List ℕ) → gap ++ more ≡ b ∷ rest → gap ≡ []
    here none more same = refl
    here (white c gap is_white_c gaps) more same =
        let head : c ≡ b = cc in absurd (both_ways (is_white c) (ap is_white head ∙ nothing.no_white) is_white_c)
    here (line text gap in_line gaps) more same = absurd (nothing.no_line ((text ++ 10 ∷ gap) ++ more) (sym same))
    here (block inside gap no_end gaps) more same =
        absurd (nothing.no_block inside (gap ++ more) (sym same ∙ append_assoc (47 ∷ 42 ∷ (inside ++ 42 ∷ 47 ∷ [])) gap more))

pub end_no_gap : BeginsNoGap []
end_no_gap [] more gaps same = refl
end_no_gap (b ∷ gap) more gaps same = cc

-- an open comment of a line is no gap
pub line_no_gap : (text : List ℕ) → InLine text → BeginsNoGap (47 ∷ 47 ∷ text)
line_no_gap text in_line gap more gaps same = here gaps more same
  where
    here : {gap : List ℕ} → Gap gap → (more : List ℕ) → gap ++ more ≡ 47 ∷ 47 ∷ text → gap ≡ []
    here none more same = refl
    here (white b gap is_white_b gaps) more same = let head : b ≡ 47 = cc in absurd (white_no_slash b is_white_b head)
    here (line other gap other_in_line gaps) more same =
        let front : 47 ∷ 47 ∷ (other ++ 10 ∷ (gap ++ more)) ≡ 47 ∷ 47 ∷ text = sym (line_before other gap more) ∙ same in
        let tail : other ++ 10 ∷ (gap ++ more) ≡ text = cc in
        let split : other ++ 10 ∷ (gap ++ more) ≡ text ++ [] = tail ∙ sym (append-nil text) in
        let ends : 10 ∷ (gap ++ more) ≡ [] = (same_run (λ b. not (b == 10)) text [] other (10 ∷ (gap ++ more)) in_line tt other_in_line refl split).1 in
        cc
    here (block inside gap no_end gaps) more same = absurd (line_no_block _ _ (sym same ∙ block_before inside gap more))

-- the last gap of a text is no gap before more
pub last_gap_no_token : (rest : List ℕ) → LastGap rest → (gap : List ℕ) → Gap gap → (sort : Sort) (bytes more : List ℕ) → HasForm sort bytes → rest ≡ gap ++ (bytes ++ more) → ⊥
last_gap_no_token rest last gap gaps sort bytes more form same =
    elim last [
      | inl whole ↦
          let split : gap ++ (bytes ++ more) ≡ rest ++ [] = sym same ∙ sym (append-nil rest) in
          empty bytes form (same_gap whole gaps [] (bytes ++ more) end_no_gap (form_no_gap sort bytes more form) split).1
      | inr cut ↦
          let found = (same_gap cut.2 gaps (47 ∷ 47 ∷ cut.1) (bytes ++ more) (line_no_gap cut.1 cut.3) (form_no_gap sort bytes more form) (sym same ∙ cut.4)).1 in
          no_slash_form sort bytes more (47 ∷ cut.1) found form
    ]
  where
    empty : (bytes : List ℕ) → HasForm sort bytes → bytes ++ more ≡ [] → ⊥
    empty [] form same = form_empty sort form
    empty (w ∷ bytes) form same = cc

pub last_gap_no_fault : (rest : List ℕ) → LastGap rest → (gap : List ℕ) → Gap gap → (b : ℕ) (more : List ℕ) → BeginsNothing b more → rest ≡ gap ++ b ∷ more → ⊥
last_gap_no_fault rest last gap gaps b more nothing same =
    elim last [
      | inl whole ↦
          let split : gap ++ b ∷ more ≡ rest ++ [] = sym same ∙ sym (append-nil rest) in
          let empty : b ∷ more ≡ [] = (same_gap whole gaps [] (b ∷ more) end_no_gap (nothing_no_gap b more nothing) split).1 in
          cc
      | inr cut ↦
          nothing.no_line cut.1 (same_gap cut.2 gaps (47 ∷ 47 ∷ cut.1) (b ∷ more) (line_no_gap cut.1 cut.3) (nothing_no_gap b more nothing) (sym same ∙ cut.4)).1
    ]
