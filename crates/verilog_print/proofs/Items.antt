-- Runs of items one after another, with commas between.
use Rattle.std.proofs.Common.{◌≡◌, ℕ, ◌==◌, Bool, true, false, not, ◌||◌, List, [], ◌∷◌, ◌++◌, length, map, codes}
use Rattle.std.proofs.Common.{refl, sym, ap, ◌∙◌, append_assoc, rules}
use Rattle.std.specs.List.{flat_map}
use Rattle.chw_base.specs.declared.index.DomId.{DomId}
use Rattle.verilog_text.specs.Text.{clock_names, commas, numbered}
use Rattle.verilog_print.specs.Parts.{comma_if, items_text}

-- whether an item stands before what follows these
abbrev pub stands : Bool → List (List ℕ) → Bool
stands before [] = before
stands before (text ∷ texts) = true

pub stands_numbered : {X : Type 0} (f : ℕ → X → List ℕ) (k : ℕ) (xs : List X) (before empty : Bool) → empty ≡ (length xs == 0)
    → stands before (numbered f k xs) ≡ before || not empty
stands_numbered f k [] true empty e = refl
stands_numbered f k [] false empty e = sym (ap not e)
stands_numbered f k (x ∷ xs) true empty e = refl
stands_numbered f k (x ∷ xs) false empty e =
    let some : (length (x ∷ xs) == 0) ≡ false = search rules in
    sym (ap not (e ∙ some))

pub stands_clocks : (f : List ℕ → List ℕ) (resets : List DomId) (k : ℕ) (domains : List (List ℕ)) (empty : Bool)
    → empty ≡ (length domains == 0) → stands false (map f (clock_names resets k domains)) ≡ not empty
stands_clocks f resets k [] empty e = sym (ap not e)
stands_clocks f resets k (d ∷ domains) empty e =
    let some : (length (d ∷ domains) == 0) ≡ false = search rules in
    sym (ap not (e ∙ some))

items-append : (before : Bool) (xs ys : List (List ℕ)) → items_text before (xs ++ ys) ≡ items_text before xs ++ items_text (stands before xs) ys
items-append before [] ys = refl
items-append before (x ∷ xs) ys =
    ap (λ t. comma_if before ++ x ++ t) (items-append true xs ys ∙ ap (λ b. items_text true xs ++ items_text b ys) (stands_true xs))
    ∙ sym (append_assoc (comma_if before ++ x) (items_text true xs) (items_text true ys))
  where
    stands_true : (xs : List (List ℕ)) → stands true xs ≡ true
    stands_true [] = refl
    stands_true (x ∷ xs) = refl

items_after : (xs : List (List ℕ)) → items_text true xs ≡ flat_map (λ t. codes ", " ++ t) xs
items_after [] = refl
items_after (x ∷ xs) = ap (λ t. codes ", " ++ x ++ t) (items_after xs)

commas_are : (xs : List (List ℕ)) → commas xs ≡ items_text false xs
commas_are [] = refl
commas_are (x ∷ xs) = ap (λ t. x ++ t) (sym (items_after xs))

-- three runs of items
pub three_runs : (xs ys zs : List (List ℕ)) (second third : Bool) (out first next last : List ℕ) → first ≡ out ++ items_text false xs
    → next ≡ first ++ items_text second ys → last ≡ next ++ items_text third zs → second ≡ stands false xs → third ≡ stands second ys
    → last ≡ out ++ commas (xs ++ (ys ++ zs))
three_runs xs ys zs second third out first next last a b c d e =
    c
    ∙ ap (λ t. t ++ items_text third zs) (b ∙ ap (λ t. t ++ items_text second ys) a)
    ∙ ap (λ k. ((out ++ items_text false xs) ++ items_text second ys) ++ items_text k zs) e
    ∙ append_assoc (out ++ items_text false xs) (items_text second ys) (items_text (stands second ys) zs)
    ∙ ap (λ t. (out ++ items_text false xs) ++ t) (sym (items-append second ys zs))
    ∙ ap (λ k. (out ++ items_text false xs) ++ items_text k (ys ++ zs)) d
    ∙ append_assoc out (items_text false xs) (items_text (stands false xs) (ys ++ zs))
    ∙ ap (λ t. out ++ t) (sym (items-append false xs (ys ++ zs)) ∙ sym (commas_are (xs ++ (ys ++ zs))))
