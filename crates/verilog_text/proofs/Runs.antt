-- Fronts of bytes that pass a test, against the longest one.
use Rattle.std.proofs.Common.{◌≡◌, ℕ, ◌≤◌, Bool, false, List, [], ◌∷◌, ◌++◌, length, sym, refl, ap, ◌∙◌, arith}
use Rattle.std.proofs.lemmas.Bool.{false≢true}
use Rattle.chw_base.specs.Names.{AllOf}

-- the bytes are none, or begin with one that doesn't pass
abbrev pub StopsAt : (ℕ → Bool) → List ℕ → Type 0
StopsAt test [] = Unit {0}
StopsAt test (b ∷ bytes) = test b ≡ false

-- a front that passes is no longer than one that passes and is followed by a byte that doesn't
pub within_run : (test : ℕ → Bool) (front rest other more : List ℕ) → AllOf test front → StopsAt test rest → AllOf test other → other ++ more ≡ front ++ rest → length other ≤ length front
within_run test front rest [] more passes stops others same = omega arith
within_run test [] [] (c ∷ other) more passes stops others same = cc
within_run test [] (r ∷ rest) (c ∷ other) more passes stops others same =
    let head : c ≡ r = cc in absurd (false≢true (sym stops ∙ ap test (sym head) ∙ others.0))
within_run test (b ∷ front) rest (c ∷ other) more passes stops others same =
    let tail : other ++ more ≡ front ++ rest = cc in
    let shorter : length other ≤ length front = within_run test front rest other more passes.1 stops others.1 tail in
    omega arith

-- a list splits in one way into bytes that pass and a rest that begins with a byte that doesn't
pub same_run : (test : ℕ → Bool) (front rest other more : List ℕ) → AllOf test front → StopsAt test rest → AllOf test other → StopsAt test more → other ++ more ≡ front ++ rest → (other ≡ front) × (more ≡ rest)
same_run test [] rest [] more passes stops others ends same = (refl, same)
same_run test [] [] (c ∷ other) more passes stops others ends same = cc
same_run test [] (r ∷ rest) (c ∷ other) more passes stops others ends same =
    let head : c ≡ r = cc in absurd (false≢true (sym stops ∙ ap test (sym head) ∙ others.0))
same_run test (b ∷ front) rest [] [] passes stops others ends same = cc
same_run test (b ∷ front) rest [] (m ∷ more) passes stops others ends same =
    let head : m ≡ b = cc in absurd (false≢true (sym ends ∙ ap test head ∙ passes.0))
same_run test (b ∷ front) rest (c ∷ other) more passes stops others ends same =
    let tail : other ++ more ≡ front ++ rest = cc in
    let head : c ≡ b = cc in
    let same_tail : (other ≡ front) × (more ≡ rest) = same_run test front rest other more passes.1 stops others.1 ends tail in
    (cc, same_tail.1)
