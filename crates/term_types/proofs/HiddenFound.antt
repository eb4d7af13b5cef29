-- Whether an alternative is hidden by an earlier one.
use Rattle.std.proofs.Common.{◌≡◌, ℕ, suc, zero, ◌+◌, ◌<◌, ◌≤◌, refl, sym, subst, List, [], ◌∷◌, ◌++◌, length, take, get_or, arith}
use Rattle.std.specs.Prelude.{Some}
use Rattle.std.specs.List.{slice_get}
use Rattle.chw_terms.specs.declared.term.Alt.{Alt}
use Rattle.chw_terms.specs.declared.term.Pattern.{Pattern}
use Rattle.chw_terms.specs.TermView.{alts_of}
use Rattle.chw_typing.specs.Alternatives.{Hides, HidesNone, NoneHidden}
use Rattle.seen_types.specs.Each.{Each}
use Rattle.seen_types.proofs.EachItem.{next_taken}
use Rattle.term_types.proofs.Keyed.{SomeHides}
use Rattle.term_frames.proofs.VarsFound.{read_at}
use Rattle.std.proofs.lemmas.List.{take_all}

hides_none_at : (p : Pattern) (alts : List Alt) (j : ℕ) (b : Alt) → slice_get alts j ≡ Some b → HidesNone p (alts_of alts) → Hides p b.pattern → ⊥
hides_none_at p [] j b e h g = absurd (cc)
hides_none_at p (a ∷ more) zero b e h g = let is : a ≡ b = cc in h.0 (subst (λ x. Hides p x.pattern) (sym is) g)
hides_none_at p (a ∷ more) (suc j) b e h g = hides_none_at p more j b e h.1 g

-- no alternative hides a later one
pub hidden_pair : (alts : List Alt) (i j : ℕ) (a b : Alt) → NoneHidden (alts_of alts) → i < j → slice_get alts i ≡ Some a → slice_get alts j ≡ Some b → Hides a.pattern b.pattern → ⊥
hidden_pair [] i j a b h l e f g = absurd (cc)
hidden_pair (c ∷ more) i zero a b h l e f g = absurd (omega arith)
hidden_pair (c ∷ more) zero (suc j) a b h l e f g = let is : c ≡ a = cc in hides_none_at c.pattern more j b f h.0 (subst (λ x. Hides x.pattern b.pattern) (sym is) g)
hidden_pair (c ∷ more) (suc i) (suc j) a b h l e f g = hidden_pair more i j a b h.1 (omega arith) e f g

hides_last : (p : Pattern) (alts : List Alt) (a : Alt) → HidesNone p (alts_of alts) → (Hides p a.pattern → ⊥) → HidesNone p (alts_of (alts ++ a ∷ []))
hides_last p [] a h never = (never, tt)
hides_last p (b ∷ more) a h never = (h.0, hides_last p more a h.1 never)

-- one more that none of them hides
pub none_last : (alts : List Alt) (a : Alt) → NoneHidden (alts_of alts) → Each (λ x. Hides x.pattern a.pattern → ⊥) alts → NoneHidden (alts_of (alts ++ a ∷ []))
none_last [] a h never = (tt, tt)
none_last (b ∷ more) a h never = (hides_last b.pattern more a h.0 never.0, none_last more a h.1 never.1)

taken_at : {A : Type 0} (xs : List A) (i j : ℕ) (x : A) → slice_get (take i xs) j ≡ Some x → (j < i) × (slice_get xs j ≡ Some x)
taken_at [] zero j x e = absurd (cc)
taken_at [] (suc i) j x e = absurd (cc)
taken_at (y ∷ xs) zero j x e = absurd (cc)
taken_at (y ∷ xs) (suc i) zero x e = (omega arith, e)
taken_at (y ∷ xs) (suc i) (suc j) x e = let h = taken_at xs i j x e in (omega (arith, h.0), h.1)

-- one that an earlier alternative hides
pub hidden_at : (alts : List Alt) (i : ℕ) (a d : Alt) → i < length alts → a ≡ get_or alts i d → SomeHides a.pattern (take i alts) → NoneHidden (alts_of alts) → ⊥
hidden_at alts i a d l is h none =
    let at = taken_at alts i h.0 h.1 h.2 in
    hidden_pair alts h.0 i h.1 a none at.0 at.1 (read_at alts i a d l is) h.3

-- one more that none of them hides
pub none_next : (alts : List Alt) (i : ℕ) (a d : Alt) → i < length alts → a ≡ get_or alts i d → NoneHidden (alts_of (take i alts)) → Each (λ x. Hides x.pattern a.pattern → ⊥) (take i alts) → NoneHidden (alts_of (take (i + 1) alts))
none_next alts i a d l is h never =
    subst (λ xs. NoneHidden (alts_of xs)) (sym (next_taken alts i a d l is)) (none_last (take i alts) a h never)

pub none_all : (alts : List Alt) (i : ℕ) → length alts ≤ i → NoneHidden (alts_of (take i alts)) → NoneHidden (alts_of alts)
none_all alts i l h = subst (λ xs. NoneHidden (alts_of xs)) (take_all i alts l) h

some_last : (p : Pattern) (xs : List Alt) (a : Alt) → Hides a.pattern p → SomeHides p (xs ++ a ∷ [])
some_last p [] a h = (zero, a, refl, h)
some_last p (x ∷ xs) a h = let at = some_last p xs a h in (suc at.0, at.1, at.2, at.3)

-- the last one so far hides the pattern
pub some_next : (p : Pattern) (alts : List Alt) (i : ℕ) (a d : Alt) → i < length alts → a ≡ get_or alts i d → Hides a.pattern p → SomeHides p (take (i + 1) alts)
some_next p alts i a d l is h = subst (SomeHides p) (sym (next_taken alts i a d l is)) (some_last p (take i alts) a h)
