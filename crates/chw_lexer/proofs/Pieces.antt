-- Runs of white space and comments as gaps.
use Rattle.std.proofs.Common.{◌≡◌, ℕ, suc, ◌+◌, ◌<◌, ◌≤◌, false, not, eqb, List, [], ◌∷◌, ◌++◌, length, inr, take, get_or, sym, refl, ap, ◌∙◌, subst, arith}
use Rattle.std.specs.Prelude.{◌==◌}
use Rattle.std.proofs.lemmas.Bool.{not-false, eqb-true}
use Rattle.std.proofs.lemmas.List.{take_all, take_more, drop_more}
use Rattle.chw_base.specs.Names.{AllOf}
use Rattle.chw_lexer.specs.Forms.{is_white}
use Rattle.chw_lexer.specs.Tokens.{InLine, Gap, LastGap}
use Rattle.chw_lexer.specs.Tokens.Gap.{none, white, comment}
use Rattle.chw_lexer.specs.Scanning.{StopsAt, IsRun}

pub white_gap : (bytes : List ℕ) → AllOf is_white bytes → Gap bytes
white_gap [] whites = none
white_gap (b ∷ bytes) whites = white b bytes whites.0 (white_gap bytes whites.1)

pub whole_comment : (line : List ℕ) (n : ℕ) → IsRun (λ b. not (b == 10)) line n → n < length line → Gap (take (2 + n + 1) (45 ∷ 45 ∷ line))
whole_comment line n run more =
    let stop : not (eqb (get_or line n 0) 10) ≡ false = subst (StopsAt (λ b. not (b == 10))) (drop_more line n 0 more) run.stops in
    let feed : get_or line n 0 ≡ 10 = eqb-true _ _ (not-false _ stop) in
    let front : take (n + 1) line ≡ take n line ++ 10 ∷ [] = take_more line n 0 more ∙ ap (λ b. take n line ++ b ∷ []) feed in
    let count : 2 + n + 1 ≡ suc (suc (n + 1)) = omega arith in
    let whole : 45 ∷ 45 ∷ (take n line ++ 10 ∷ []) ≡ take (2 + n + 1) (45 ∷ 45 ∷ line) =
    ap (λ l. 45 ∷ 45 ∷ l) (sym front) ∙ ap (λ k. take k (45 ∷ 45 ∷ line)) (sym count) in
    subst Gap whole (comment (take n line) [] run.passes none)

pub last_comment : (line : List ℕ) (n : ℕ) → IsRun (λ b. not (b == 10)) line n → length line ≤ n → LastGap (45 ∷ 45 ∷ line)
last_comment line n run all =
    let in_line : InLine line = subst InLine (take_all n line all) run.passes in
    inr ([], line, none, in_line, refl)
