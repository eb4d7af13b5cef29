-- A table of the keys of the patterns so far tells whether one of them hides the next.
use Rattle.std.proofs.Common.{◌≡◌, ℕ, suc, zero, Bool, true, false, ◌||◌, refl, List, [], ◌∷◌, ◌++◌}
use Rattle.std.specs.Prelude.{Some}
use Rattle.std.specs.List.{slice_get, list_any}
use Rattle.chw_terms.specs.declared.term.Alt.{Alt}
use Rattle.chw_terms.specs.declared.term.Pattern.{Pattern}
use Rattle.chw_terms.specs.declared.term.Pattern.TheVariants.{Default}
use Rattle.chw_typing.specs.Alternatives.{Hides}
use Rattle.seen_types.specs.Each.{Each}

-- how keys are compared, which pattern each is for, and that equal keys are those of patterns that hide each other
pub record Keys (K : Type 0) : Type 1 where
  pub eq : K → K → Bool
  pub IsFor : K → Pattern → Type 0
  pub hide : (k l : K) (p q : Pattern) → IsFor k p → IsFor l q → eq k l ≡ true → Hides q p
  pub apart : (k l : K) (p q : Pattern) → IsFor k p → IsFor l q → eq k l ≡ false → Hides q p → ⊥

-- the keys of the patterns of these alternatives, in order
abbrev pub AreFor : {K : Type 0} → Keys K → List K → List Alt → Type 0
AreFor keys [] [] = Unit {0}
AreFor keys (k ∷ ks) (x ∷ xs) = keys.IsFor k x.pattern × AreFor keys ks xs
AreFor keys _ _ = ⊥

-- some alternative hides the pattern
abbrev pub SomeHides : Pattern → List Alt → Type 0
SomeHides p xs = (j : ℕ) × (x : Alt) × (slice_get xs j ≡ Some x) × Hides x.pattern p

pub found_hides : {K : Type 0} (keys : Keys K) (ks : List K) (xs : List Alt) (k : K) (p : Pattern) → AreFor keys ks xs → keys.IsFor k p → list_any (keys.eq k) ks ≡ true → SomeHides p xs
found_hides keys [] [] k p h is e = absurd (cc)
found_hides keys (l ∷ ks) (x ∷ xs) k p h is e = at (keys.eq k l) refl e (λ r. found_hides keys ks xs k p h.1 is r)
  where
    at : (b : Bool) → keys.eq k l ≡ b → (b || list_any (keys.eq k) ks) ≡ true → (list_any (keys.eq k) ks ≡ true → SomeHides p xs) → SomeHides p (x ∷ xs)
    at true same r rest = (zero, x, refl, keys.hide k l p x.pattern is h.0 same)
    at false same r rest = let later = rest r in (suc later.0, later.1, later.2, later.3)
found_hides keys [] (x ∷ xs) k p h is e = absurd h
found_hides keys (l ∷ ks) [] k p h is e = absurd h

pub none_hides : {K : Type 0} (keys : Keys K) (ks : List K) (xs : List Alt) (k : K) (p : Pattern) → AreFor keys ks xs → keys.IsFor k p → list_any (keys.eq k) ks ≡ false → Each (λ x. Hides x.pattern p → ⊥) xs
none_hides keys [] [] k p h is e = tt
none_hides keys (l ∷ ks) (x ∷ xs) k p h is e = at (keys.eq k l) refl e (λ r. none_hides keys ks xs k p h.1 is r)
  where
    at : (b : Bool) → keys.eq k l ≡ b → (b || list_any (keys.eq k) ks) ≡ false → (list_any (keys.eq k) ks ≡ false → Each (λ x. Hides x.pattern p → ⊥) xs) → Each (λ x. Hides x.pattern p → ⊥) (x ∷ xs)
    at true same r rest = absurd (cc)
    at false same r rest = (keys.apart k l p x.pattern is h.0 same, rest r)
none_hides keys [] (x ∷ xs) k p h is e = absurd h
none_hides keys (l ∷ ks) [] k p h is e = absurd h

-- one more key
pub keys_last : {K : Type 0} (keys : Keys K) (ks : List K) (xs : List Alt) (k : K) (a : Alt) → AreFor keys ks xs → keys.IsFor k a.pattern → AreFor keys (ks ++ k ∷ []) (xs ++ a ∷ [])
keys_last keys [] [] k a h is = (is, tt)
keys_last keys (l ∷ ks) (x ∷ xs) k a h is = (h.0, keys_last keys ks xs k a h.1 is)
keys_last keys [] (x ∷ xs) k a h is = absurd h
keys_last keys (l ∷ ks) [] k a h is = absurd h

-- none of these is a default
pub no_default : {K : Type 0} (keys : Keys K) (ks : List K) (xs : List Alt) → ((k : K) (p : Pattern) → keys.IsFor k p → Hides p Default → ⊥) → AreFor keys ks xs → Each (λ x. Hides x.pattern Default → ⊥) xs
no_default keys [] [] none h = tt
no_default keys (k ∷ ks) (x ∷ xs) none h = (none k x.pattern h.0, no_default keys ks xs none h.1)
no_default keys [] (x ∷ xs) none h = absurd h
no_default keys (k ∷ ks) [] none h = absurd h
