-- White space and comments as gaps.
use Rattle.std.proofs.Common.{◌≡◌, ℕ, suc, ◌+◌, ◌-◌, ◌<◌, ◌≤◌, false, not, eqb, List, [], ◌∷◌, ◌++◌, length, inr, take, drop, get_or, sym, refl, ap, ◌∙◌, subst, append_assoc, arith}
use Rattle.std.specs.Prelude.{◌==◌}
use Rattle.std.proofs.lemmas.Bool.{both_ways, not-false, eqb-true}
use Rattle.std.proofs.lemmas.List.{drop_more, get_or-append-add, get_or-take, length-append, length-take, length-take-le, take-append-drop, take_all, take_at, take_more}
use Rattle.chw_base.specs.Names.{AllOf}
use Rattle.verilog_text.specs.VTokens.{BeginsNothing, Gap, HasNoEnd, InLine, LastGap, is_white}
use Rattle.verilog_text.specs.VTokens.Gap.{block, line, none, white}
use Rattle.verilog_text.proofs.Gaps.{no_slash_form}
use Rattle.verilog_lex.specs.Scanning.{BeginsNoToken, FaultAt, IsEndAt, IsRun, StopsAt, begins_comment}

pub white_gap : (bytes : List ℕ) → AllOf is_white bytes → Gap bytes
white_gap [] whites = none
white_gap (b ∷ bytes) whites = white b bytes whites.0 (white_gap bytes whites.1)

pub whole_line : (text : List ℕ) (n : ℕ) → IsRun (λ b. not (b == 10)) text n → n < length text → Gap (take (2 + n + 1) (47 ∷ 47 ∷ text))
whole_line text n run more =
    let stop : not (eqb (get_or text n 0) 10) ≡ false = subst (StopsAt (λ b. not (b == 10))) (drop_more text n 0 more) run.stops in
    let feed : get_or text n 0 ≡ 10 = eqb-true _ _ (not-false _ stop) in
    let front : take (n + 1) text ≡ take n text ++ 10 ∷ [] = take_more text n 0 more ∙ ap (λ b. take n text ++ b ∷ []) feed in
    let count : 2 + n + 1 ≡ suc (suc (n + 1)) = omega arith in
    let whole : 47 ∷ 47 ∷ (take n text ++ 10 ∷ []) ≡ take (2 + n + 1) (47 ∷ 47 ∷ text) =
    ap (λ l. 47 ∷ 47 ∷ l) (sym front) ∙ ap (λ k. take k (47 ∷ 47 ∷ text)) (sym count) in
    subst Gap whole (line (take n text) [] run.passes none)

pub last_line : (text : List ℕ) (n : ℕ) → IsRun (λ b. not (b == 10)) text n → length text ≤ n → LastGap (47 ∷ 47 ∷ text)
last_line text n run all =
    let in_line : InLine text = subst InLine (take_all n text all) run.passes in
    inr ([], text, none, in_line, refl)

pub whole_block : (inside : List ℕ) (n : ℕ) → IsEndAt inside n → Gap (take (2 + n + 2) (47 ∷ 42 ∷ inside))
whole_block inside n end =
    let short : n ≤ length inside = let fits = end.within in omega arith in
    let long : length (take n inside ++ 42 ∷ 47 ∷ []) ≡ n + 2 =
    omega (arith, length-append (take n inside) (42 ∷ 47 ∷ []), length-take-le n inside short) in
    let split : inside ≡ (take n inside ++ 42 ∷ 47 ∷ []) ++ end.rest = end.bytes_are ∙ sym (append_assoc (take n inside) (42 ∷ 47 ∷ []) end.rest) in
    let front : take (n + 2) inside ≡ take n inside ++ 42 ∷ 47 ∷ [] =
    ap (take (n + 2)) split ∙ take_at (take n inside ++ 42 ∷ 47 ∷ []) end.rest (n + 2) long in
    let count : 2 + n + 2 ≡ suc (suc (n + 2)) = omega arith in
    let whole : 47 ∷ 42 ∷ ((take n inside ++ 42 ∷ 47 ∷ []) ++ []) ≡ take (2 + n + 2) (47 ∷ 42 ∷ inside) =
    ap (λ l. 47 ∷ 42 ∷ l) (append_assoc (take n inside) (42 ∷ 47 ∷ []) [] ∙ sym front) ∙ ap (λ k. take k (47 ∷ 42 ∷ inside)) (sym count) in
    subst Gap whole (block (take n inside) [] end.no_end none)

-- a `*` with a `/` behind it stands at no place of which the next is below n
abbrev pub HasNoEndBelow : List ℕ → ℕ → Type 0
HasNoEndBelow bytes n = (i : ℕ) → i + 1 < n → get_or bytes i 0 ≡ 42 → get_or bytes (i + 1) 0 ≡ 47 → ⊥

no_end_in : (bytes : List ℕ) (n : ℕ) → HasNoEndBelow bytes n → HasNoEnd (take n bytes)
no_end_in bytes n below before after same = below (length before) short star slash
  where
    long : length (take n bytes) ≡ length before + (length after + 2)
    long = ap length same ∙ length-append before (42 ∷ 47 ∷ after) ∙ omega arith

    fits : length (take n bytes) ≤ n
    fits = omega (arith, length-take n bytes)

    short : length before + 1 < n
    short = let a = long in let b = fits in omega arith

    star : get_or bytes (length before) 0 ≡ 42
    star =
        sym (get_or-take n bytes (length before) 0 (let s = short in omega arith)) ∙ ap (λ l. get_or l (length before) 0) same
        ∙ ap (λ k. get_or (before ++ 42 ∷ 47 ∷ after) k 0) (omega arith) ∙ get_or-append-add before (42 ∷ 47 ∷ after) 0 0

    slash : get_or bytes (length before + 1) 0 ≡ 47
    slash =
        sym (get_or-take n bytes (length before + 1) 0 short) ∙ ap (λ l. get_or l (length before + 1) 0) same
        ∙ get_or-append-add before (42 ∷ 47 ∷ after) 1 0

pub no_end_of : (bytes : List ℕ) (n : ℕ) → length bytes ≤ n → HasNoEndBelow bytes n → HasNoEnd bytes
no_end_of bytes n all below = subst HasNoEnd (take_all n bytes all) (no_end_in bytes n below)

pub end_found : (bytes : List ℕ) (n : ℕ) → 1 ≤ n → n < length bytes → HasNoEndBelow bytes n → get_or bytes (n - 1) 0 ≡ 42 → get_or bytes n 0 ≡ 47 → IsEndAt bytes (n - 1)
end_found bytes n some within below star slash =
    let count : n - 1 + 1 ≡ n = omega arith in
    let first : drop (n - 1) bytes ≡ 42 ∷ drop n bytes =
    drop_more bytes (n - 1) 0 (omega arith) ∙ ap (λ b. b ∷ drop (n - 1 + 1) bytes) star ∙ ap (λ k. 42 ∷ drop k bytes) count in
    let second : drop n bytes ≡ 47 ∷ drop (n + 1) bytes = drop_more bytes n 0 within ∙ ap (λ b. b ∷ drop (n + 1) bytes) slash in
    record {
      no_end = no_end_in bytes (n - 1) (λ i small. below i (omega arith));
      rest = drop (n + 1) bytes;
      bytes_are = sym (take-append-drop (n - 1) bytes) ∙ ap (λ r. take (n - 1) bytes ++ r) (first ∙ ap (λ r. 42 ∷ r) second);
      within = omega arith;
    }

star_no_slash : (a b : List ℕ) → 42 ∷ a ≡ 47 ∷ b → ⊥
star_no_slash a b same = omega (arith, heads 42 47 a b same)
  where
    heads : (x y : ℕ) (a b : List ℕ) → x ∷ a ≡ y ∷ b → x ≡ y
    heads x y a b same = cc

-- an open `/*`
pub open_block : (inside : List ℕ) → HasNoEnd inside → BeginsNothing 47 (42 ∷ inside)
open_block inside no_end = record {
  no_white = refl;
  no_line = λ more same. let tail : 42 ∷ inside ≡ 47 ∷ more = cc in star_no_slash inside more tail;
  no_block = λ text more same.
      let tail : inside ≡ (text ++ 42 ∷ 47 ∷ []) ++ more = cc in
      no_end text more (tail ∙ append_assoc text (42 ∷ 47 ∷ []) more);
  no_token = λ sort bytes more same form. no_slash_form sort bytes more (42 ∷ inside) same form;
}

-- no white space, no comment and no token
pub nothing_begins : (bytes : List ℕ) → 0 < length bytes → StopsAt is_white bytes → begins_comment bytes ≡ false → BeginsNoToken bytes → FaultAt bytes
nothing_begins [] some stops apart no_token = omega arith
nothing_begins (b ∷ bytes) some stops apart no_token = record {
  no_white = stops;
  no_line = λ more same. both_ways (begins_comment (b ∷ bytes)) apart (ap begins_comment same);
  no_block = λ inside more same. both_ways (begins_comment (b ∷ bytes)) apart (ap begins_comment same);
  no_token = no_token;
}
