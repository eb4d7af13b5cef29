-- What is left of items that are written one after the other.
use Rattle.std.specs.Prelude.{◌≡◌, ℕ, suc, zero, ◌+◌, ◌<◌, List, [], ◌∷◌, ◌++◌, length, false, refl}
use Rattle.std.proofs.Common.{sym, ap, ◌∙◌, arith, drop, get_or, drop-cons}
use Rattle.chw_grammar.specs.declared.stand.Stand.{Stand}
use Rattle.chw_grammar.specs.declared.terminal.Terminal.{Terminal}
use Rattle.chw_grammar.specs.declared.terminal.Terminal.TheVariants as the
use Rattle.chw_grammar.specs.TypeTree.{Ty, Tys, no_types, type_and}
use Rattle.chw_grammar.specs.TermTree.{Tm, Tms, no_terms, term_and}
use Rattle.chw_grammar.specs.Text.{sign, type_lexemes, term_lexemes}
use Rattle.chw_text.specs.Spaced.{before_item, parts_from, elements_from}

-- the items of a list from an index on
pub from_index : {X : Type 0} (xs : List X) (i : ℕ) (x : X) → i < length xs → x ≡ get_or xs i x → drop i xs ≡ x ∷ drop (i + 1) xs
from_index xs i x inside is =
    let later : suc i ≡ i + 1 = omega arith in
    drop-cons xs i x inside ∙ ap (λ y. y ∷ drop (suc i) xs) (sym is) ∙ ap (λ (n : ℕ). x ∷ drop n xs) later

pub parts_step : (n : ℕ) (p : Stand) (x : Terminal) (t : Ty) (ts : Tys)
    → parts_from n p x (type_and t ts) ≡ (before_item n x ++ type_lexemes p t) ++ parts_from (n + 1) p x ts
parts_step zero p x t ts = refl
parts_step (suc n) p x t ts =
    let later : suc (suc n) ≡ suc n + 1 = omega arith in
    ap (λ (m : ℕ). sign x ∷ (type_lexemes p t ++ parts_from m p x ts)) later

pub parts_end : (n : ℕ) (p : Stand) (x : Terminal) → parts_from n p x no_types ≡ []
parts_end zero p x = refl
parts_end (suc n) p x = refl

pub elements_step : (n : ℕ) (e : Tm) (es : Tms)
    → elements_from n (term_and e es) ≡ (before_item n the.Comma ++ term_lexemes false e) ++ elements_from (n + 1) es
elements_step zero e es = refl
elements_step (suc n) e es =
    let later : suc (suc n) ≡ suc n + 1 = omega arith in
    ap (λ (m : ℕ). sign the.Comma ∷ (term_lexemes false e ++ elements_from m es)) later

pub elements_end : (n : ℕ) → elements_from n no_terms ≡ []
elements_end zero = refl
elements_end (suc n) = refl
