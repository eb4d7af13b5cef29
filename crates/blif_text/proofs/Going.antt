-- One statement more: for a reader that goes from line to line.
use Rattle.std.proofs.Common.{◌≡◌, ℕ, List, [], ◌∷◌, ◌++◌, refl, sym, subst, append_assoc}
use Rattle.std.specs.Prelude.{Some}
use Rattle.std.proofs.lemmas.List.{append-nil}
use Rattle.blif_text.specs.BlifText.{EachIs, Lead, Said, said, width_behind, width_with}
use Rattle.blif_text.specs.BlifText.Lead.{none, more}
use Rattle.blif_text.specs.Lines.{Line}
use Rattle.blif_text.specs.Statements.{Place, Says, Statement, place_behind}

pub lead_more : (place : Place) (lines : List Line) (xs : List Said) (p q : Place) (line : Line) (s : Statement) → Lead place lines xs p → Says line.words s
    → place_behind p s ≡ Some q → Lead place (lines ++ line ∷ []) (xs ++ said line.number s ∷ []) q
lead_more _ _ _ _ q line s (none place) says there = more place q q line [] s [] says there (none q)
lead_more _ _ _ _ q line s (more place next p l lines t xs first to rest) says there =
    more place next q l (lines ++ line ∷ []) t (xs ++ said line.number s ∷ []) first to (lead_more next lines xs p q line s rest says there)

-- each statement is right, and so is one more behind them
pub each_more : (Right : List Said → Statement → Type 0) (front xs : List Said) (it : Said) → EachIs Right front xs → Right (front ++ xs) it.says
    → EachIs Right front (xs ++ it ∷ [])
each_more Right front [] it each right = (subst (λ ys. Right ys it.says) (append-nil front) right, tt)
each_more Right front (x ∷ xs) it each right =
    (each.0, each_more Right (front ++ x ∷ []) xs it each.1 (subst (λ ys. Right ys it.says) (sym (append_assoc front (x ∷ []) xs)) right))

-- what is right of each is right of one of them
pub each_at : (Right : List Said → Statement → Type 0) (front earlier : List Said) (it : Said) (others : List Said)
    → EachIs Right front (earlier ++ it ∷ others) → Right (front ++ earlier) it.says
each_at Right front [] it others each = subst (λ ys. Right ys it.says) (sym (append-nil front)) each.0
each_at Right front (x ∷ earlier) it others each =
    subst (λ ys. Right ys it.says) (append_assoc front (x ∷ []) earlier) (each_at Right (front ++ x ∷ []) earlier it others each.1)

-- how many names the last table reads, with one statement more
pub width_more : (width : ℕ) (xs : List Said) (it : Said) → width_behind width (xs ++ it ∷ []) ≡ width_with (width_behind width xs) it.says
width_more width [] it = refl
width_more width (x ∷ xs) it = width_more (width_with width x.says) xs it
