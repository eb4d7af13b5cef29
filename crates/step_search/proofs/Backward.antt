-- Paths whose last numbers are kept first.
use Rattle.std.proofs.Common.{◌≡◌, ◌∙◌, sym, ap, refl, ℕ, zero, suc, List, [], ◌∷◌, ◌++◌, reverse, replicate, append_assoc}
use Rattle.std.proofs.lemmas.List.{reverse-append}

abbrev zeros : ℕ → List ℕ
zeros n = replicate n 0

zeros_end : (n : ℕ) → zeros n ++ 0 ∷ [] ≡ 0 ∷ zeros n
zeros_end zero = refl
zeros_end (suc n) = ap (λ p. 0 ∷ p) (zeros_end n)

zeros_reversed : (n : ℕ) → reverse (zeros n) ≡ zeros n
zeros_reversed zero = refl
zeros_reversed (suc n) =
    let one : List ℕ = 0 ∷ [] in
    reverse-append one (zeros n) ∙ ap (λ p. p ++ one) (zeros_reversed n) ∙ zeros_end n

pub path_reversed : (n last : ℕ) (back : List ℕ)
    → reverse ((back ++ last ∷ []) ++ zeros n) ≡ (zeros n ++ last ∷ []) ++ reverse back
path_reversed n last back =
    let one : List ℕ = last ∷ [] in
    reverse-append (back ++ one) (zeros n)
    ∙ ap (λ p. p ++ reverse (back ++ one)) (zeros_reversed n)
    ∙ ap (λ p. zeros n ++ p) (reverse-append back one)
    ∙ sym (append_assoc (zeros n) one (reverse back))
