-- What is written behind other signs.
use Rattle.std.proofs.Common.{◌≡◌, ◌∙◌, ap, sym, refl, ℕ, ◌+◌, ◌<◌, ◌≤◌, Bool, false, List, [], ◌∷◌, ◌++◌, length, map, take, get_or, append_assoc, append-nil}
use Rattle.std.specs.List.{flat_map}
use Rattle.std.proofs.lemmas.Grind.{flat_map-append}
use Rattle.std.proofs.lemmas.List.{map-append, take_all, take_more}
use Rattle.term_signs.specs.declared.alphabet.Sign.{Sign}
use Rattle.term_signs.specs.declared.alphabet.Sign.TheVariants.{Bit}

-- two parts, behind what stands there
pub then_written : {X : Type 0} (out mid a b c w : List X) → mid ≡ out ++ a → b ≡ c → a ++ c ≡ w → mid ++ b ≡ out ++ w
then_written out mid a b c w p q r = (λ i. p i ++ q i) ∙ append_assoc out a c ∙ ap (λ xs. out ++ xs) r

-- a loop over items, at one and behind all
pub written_next : {X Y : Type 0} (f : X → List Y) (xs : List X) (i : ℕ) (x : X) (start now next : List Y) → i < length xs → x ≡ get_or xs i x
    → now ≡ start ++ flat_map f (take i xs) → next ≡ now ++ f x → next ≡ start ++ flat_map f (take (i + 1) xs)
written_next f xs i x start now next h e a b =
    b ∙ ap (λ ys. ys ++ f x) a ∙ append_assoc start (flat_map f (take i xs)) (f x)
    ∙ ap (λ ys. start ++ ys) (sym (one_more h e))
  where
    one_more : i < length xs → x ≡ get_or xs i x → flat_map f (take (i + 1) xs) ≡ flat_map f (take i xs) ++ f x
    one_more h e =
        ap (flat_map f) (take_more xs i x h) ∙ flat_map-append f (take i xs) (get_or xs i x ∷ [])
        ∙ ap (λ l. flat_map f (take i xs) ++ l) (append-nil (f (get_or xs i x)) ∙ ap f (sym e))

pub written_end : {X Y : Type 0} (f : X → List Y) (xs : List X) (i : ℕ) (start now : List Y) → length xs ≤ i → now ≡ start ++ flat_map f (take i xs) → now ≡ start ++ flat_map f xs
written_end f xs i start now h a = a ∙ ap (λ xs. start ++ flat_map f xs) (take_all i xs h)

-- a loop over bits
pub bits_next : (bs : List Bool) (i : ℕ) (start now next : List Sign) → i < length bs → now ≡ start ++ map (λ b. Bit b) (take i bs) → next ≡ now ++ Bit (get_or bs i false) ∷ []
    → next ≡ start ++ map (λ b. Bit b) (take (i + 1) bs)
bits_next bs i start now next h a e =
    e ∙ ap (λ ys. ys ++ Bit (get_or bs i false) ∷ []) a ∙ append_assoc start (map (λ b. Bit b) (take i bs)) (Bit (get_or bs i false) ∷ [])
    ∙ ap (λ ys. start ++ ys) (sym (ap (map (λ b. Bit b)) (take_more bs i false h) ∙ map-append (λ b. Bit b) (take i bs) (get_or bs i false ∷ [])))
