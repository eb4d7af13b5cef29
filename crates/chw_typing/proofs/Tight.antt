-- Naturals without parts that don't matter: what is written without zeros is one, or it is 0.
use Rattle.std.proofs.Common.{◌≡◌, ℕ, suc, zero, ◌≤◌, Bool, true, false, ◌&&◌, ◌||◌, ◌⊎◌, inl, inr, if◌then◌else◌, refl, ap, arith}
use Rattle.std.proofs.lemmas.Bool.{and_parts, eqb-true}
use Rattle.chw_types.specs.TypeTree.{TypeTree, ty_var, nat_lit, nat_sum, nat_product, domain, scalar, vector, data_of, fun, signal, for_all}
use Rattle.chw_types.specs.Polynomials.{is_natural}
use Rattle.chw_typing.specs.WithoutZeros.{is_numeral, plus, by, reduced}

pub data Tight : TypeTree → Type 0 where
  tight_var : {x : ℕ} → Tight (ty_var x)
  tight_numeral : {n : ℕ} → 1 ≤ n → Tight (nat_lit n)
  tight_sum : {a b : TypeTree} → Tight a → Tight b → Tight (nat_sum a b)
  -- no part is 1
  tight_product : {a b : TypeTree} → Tight a → Tight b → is_numeral 1 a ≡ false → is_numeral 1 b ≡ false → Tight (nat_product a b)

abbrev pub ZeroOrTight : TypeTree → Type 0
ZeroOrTight t = (is_numeral 0 t ≡ true) ⊎ Tight t

pub numeral_is : (n : ℕ) (t : TypeTree) → is_numeral n t ≡ true → t ≡ nat_lit n
numeral_is n (nat_lit m) h = ap nat_lit (eqb-true m n h)
numeral_is n (ty_var x) h = absurd (cc)
numeral_is n (nat_sum a b) h = absurd (cc)
numeral_is n (nat_product a b) h = absurd (cc)
numeral_is n (domain d) h = absurd (cc)
numeral_is n (scalar s w) h = absurd (cc)
numeral_is n (vector m t) h = absurd (cc)
numeral_is n (data_of d ts) h = absurd (cc)
numeral_is n (fun a b) h = absurd (cc)
numeral_is n (signal d t) h = absurd (cc)
numeral_is n (for_all k t) h = absurd (cc)

tight_if : (t : TypeTree) → ZeroOrTight t → is_numeral 0 t ≡ false → Tight t
tight_if t (inl z) e = absurd (cc)
tight_if t (inr h) e = h

tight_plus : (a b : TypeTree) → ZeroOrTight a → ZeroOrTight b → ZeroOrTight (plus a b)
tight_plus a b h g = at (is_numeral 0 a) (is_numeral 0 b) refl refl
  where
    at : (x y : Bool) → is_numeral 0 a ≡ x → is_numeral 0 b ≡ y → ZeroOrTight (if x then b else if y then a else nat_sum a b)
    at true y e f = g
    at false true e f = h
    at false false e f = inr (tight_sum (tight_if a h e) (tight_if b g f))

tight_by : (a b : TypeTree) → ZeroOrTight a → ZeroOrTight b → ZeroOrTight (by a b)
tight_by a b h g = at (is_numeral 0 a) (is_numeral 1 b) (is_numeral 0 b) (is_numeral 1 a) refl refl refl refl
  where
    at : (x u y v : Bool) → is_numeral 0 a ≡ x → is_numeral 1 b ≡ u → is_numeral 0 b ≡ y → is_numeral 1 a ≡ v → ZeroOrTight (if x || u then a else if y || v then b else nat_product a b)
    at true u y v e i f j = h
    at false true y v e i f j = h
    at false false true v e i f j = g
    at false false false true e i f j = g
    at false false false false e i f j = inr (tight_product (tight_if a h e) (tight_if b g f) j i)

numeral_tight : (n : ℕ) (b : Bool) → is_numeral 0 (nat_lit n) ≡ b → ZeroOrTight (nat_lit n)
numeral_tight n true e = inl e
numeral_tight n false e = inr (tight_numeral (positive n e))
  where
    positive : (n : ℕ) → is_numeral 0 (nat_lit n) ≡ false → 1 ≤ n
    positive zero e = absurd (cc)
    positive (suc n) e = omega arith

pub reduced_tight : (t : TypeTree) → is_natural t ≡ true → ZeroOrTight (reduced t)
unfolding is_natural reduced
reduced_tight (ty_var x) n = inr tight_var
reduced_tight (nat_lit k) n = numeral_tight k (is_numeral 0 (nat_lit k)) refl
reduced_tight (nat_sum a b) n = let w = and_parts (is_natural a) (is_natural b) n in tight_plus (reduced a) (reduced b) (reduced_tight a w.0) (reduced_tight b w.1)
reduced_tight (nat_product a b) n = let w = and_parts (is_natural a) (is_natural b) n in tight_by (reduced a) (reduced b) (reduced_tight a w.0) (reduced_tight b w.1)
reduced_tight (domain d) n = absurd (cc)
reduced_tight (scalar s w) n = absurd (cc)
reduced_tight (vector m t) n = absurd (cc)
reduced_tight (data_of d ts) n = absurd (cc)
reduced_tight (fun a b) n = absurd (cc)
reduced_tight (signal d t) n = absurd (cc)
reduced_tight (for_all k t) n = absurd (cc)
