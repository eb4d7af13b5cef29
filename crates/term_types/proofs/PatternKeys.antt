-- The keys of patterns: equal ones are those of patterns that hide each other.
use Rattle.std.proofs.Common.{◌≡◌, ℕ, ◌+◌, ◌<◌, Bool, true, false, not, cond, ◌&&◌, eqb, Bor, refl, sym, ap, ◌∙◌, subst, List, [], ◌∷◌, ◌++◌, length, take, get_or, Decides, eqb-true}
use Rattle.std.specs.List.{list_any}
use Rattle.std.specs.Bool.{beq}
use Rattle.std.specs.Cmp.Lexicographic.{pointwise}
use Rattle.std.proofs.lemmas.Bool.{and_from, and_parts, false≢true}
use Rattle.std.proofs.lemmas.Bool.Decides.{Decides-eqb}
use Rattle.std.proofs.lemmas.Slice.Eq.{slice_eq-Decides}
use Rattle.indexmap.specs.IndexSet.{insert_key}
use denote.Enum.Bare.{sameb}
use Rattle.chw_types.specs.contracts.kind.Scalar.{the_type}
use Rattle.chw_types.specs.declared.kind.Scalar.{Scalar}
use Rattle.chw_types.specs.declared.kind.Scalar.TheVariants.{U, S, B}
use Rattle.chw_terms.specs.declared.term.Alt.{Alt}
use Rattle.chw_terms.specs.declared.term.Pattern.{Pattern}
use Rattle.chw_terms.specs.declared.term.Pattern.TheVariants.{OfCon, OfLit, Default}
use Rattle.chw_typing.specs.Alternatives.{Hides}
use Rattle.term_types.specs.Keying.{IsFor}
use Rattle.term_types.specs.contracts.alternatives.KeyPartialEq.TheImpl.{eq-value}
use Rattle.term_types.specs.declared.alternatives.Key.{Key}
use Rattle.term_types.specs.declared.alternatives.Key.TheVariants.{Constructor, Literal}
use Rattle.seen_types.proofs.EachItem.{next_taken}
use Rattle.term_types.proofs.Keyed.{Keys, AreFor, keys_last}

test_of_numbers : (c d : ℕ) → eq-value.it (Constructor c) (Constructor d) ≡ eqb c d
test_of_numbers c d = refl

test_of_literals : (s r : Scalar) (x y : Bor (List Bool)) → eq-value.it (Literal s x) (Literal r y) ≡ (sameb the_type s r && pointwise beq x.now y.now)
test_of_literals s r x y = refl

sorts_Decides : (s r : Scalar) → Decides (sameb the_type s r) (s ≡ r)
sorts_Decides U U = (λ e. refl, λ e. refl)
sorts_Decides S S = (λ e. refl, λ e. refl)
sorts_Decides B B = (λ e. refl, λ e. refl)
sorts_Decides U S = (λ e. absurd (false≢true e), λ e. absurd (cc))
sorts_Decides U B = (λ e. absurd (false≢true e), λ e. absurd (cc))
sorts_Decides S U = (λ e. absurd (false≢true e), λ e. absurd (cc))
sorts_Decides S B = (λ e. absurd (false≢true e), λ e. absurd (cc))
sorts_Decides B U = (λ e. absurd (false≢true e), λ e. absurd (cc))
sorts_Decides B S = (λ e. absurd (false≢true e), λ e. absurd (cc))

bits_Decide : (a b : Bool) → Decides (beq a b) (a ≡ b)
bits_Decide true true = (λ e. refl, λ e. refl)
bits_Decide false false = (λ e. refl, λ e. refl)
bits_Decide true false = (λ e. absurd (false≢true e), λ e. absurd (cc))
bits_Decide false true = (λ e. absurd (false≢true e), λ e. absurd (cc))

number_told : (c d : ℕ) → eq-value.it (Constructor c) (Constructor d) ≡ true → c ≡ d
number_told c d e = eqb-true c d (sym (test_of_numbers c d) ∙ e)

number_apart : (c d : ℕ) → eq-value.it (Constructor c) (Constructor d) ≡ false → c ≡ d → ⊥
number_apart c d e is = false≢true (sym e ∙ test_of_numbers c d ∙ (Decides-eqb c d).1 is)

literal_told : (s r : Scalar) (x y : Bor (List Bool)) → eq-value.it (Literal s x) (Literal r y) ≡ true → (s ≡ r) × (x.now ≡ y.now)
literal_told s r x y e =
    let parts = and_parts (sameb the_type s r) (pointwise beq x.now y.now) (sym (test_of_literals s r x y) ∙ e) in
    ((sorts_Decides s r).0 parts.0, (slice_eq-Decides bits_Decide x.now y.now (pointwise beq x.now y.now) refl).0 parts.1)

literal_apart : (s r : Scalar) (x y : Bor (List Bool)) → eq-value.it (Literal s x) (Literal r y) ≡ false → s ≡ r → x.now ≡ y.now → ⊥
literal_apart s r x y e f g =
    let is = and_from (sameb the_type s r) (pointwise beq x.now y.now) ((sorts_Decides s r).1 f) ((slice_eq-Decides bits_Decide x.now y.now (pointwise beq x.now y.now) refl).1 g) in
    false≢true (sym e ∙ test_of_literals s r x y ∙ is)

pub keys_hide : (k l : Key) (p q : Pattern) → IsFor k p → IsFor l q → eq-value.it k l ≡ true → Hides q p
keys_hide (Constructor c) l (OfLit t a) q f g e = absurd f
keys_hide (Constructor c) l Default q f g e = absurd f
keys_hide (Literal s x) l (OfCon a n) q f g e = absurd f
keys_hide (Literal s x) l Default q f g e = absurd f
keys_hide (Constructor c) (Constructor d) (OfCon a n) (OfCon b m) f g e = sym g ∙ sym (number_told c d e) ∙ f
keys_hide (Constructor c) (Constructor d) (OfCon a n) (OfLit u b) f g e = absurd g
keys_hide (Constructor c) (Constructor d) (OfCon a n) Default f g e = absurd g
keys_hide (Constructor c) (Literal r y) (OfCon a n) q f g e = absurd (false≢true e)
keys_hide (Literal s x) (Constructor d) (OfLit t a) q f g e = absurd (false≢true e)
keys_hide (Literal s x) (Literal r y) (OfLit t a) (OfLit u b) f g e =
    let is = literal_told s r x y e in
    (sym g.0 ∙ sym is.0 ∙ f.0, sym g.1 ∙ sym is.1 ∙ f.1)
keys_hide (Literal s x) (Literal r y) (OfLit t a) (OfCon b m) f g e = absurd g
keys_hide (Literal s x) (Literal r y) (OfLit t a) Default f g e = absurd g

pub keys_apart : (k l : Key) (p q : Pattern) → IsFor k p → IsFor l q → eq-value.it k l ≡ false → Hides q p → ⊥
keys_apart (Constructor c) l (OfLit t a) q f g e h = f
keys_apart (Constructor c) l Default q f g e h = f
keys_apart (Literal s x) l (OfCon a n) q f g e h = f
keys_apart (Literal s x) l Default q f g e h = f
keys_apart (Constructor c) (Constructor d) (OfCon a n) (OfCon b m) f g e h = number_apart c d e (f ∙ sym h ∙ sym g)
keys_apart (Constructor c) (Constructor d) (OfCon a n) (OfLit u b) f g e h = g
keys_apart (Constructor c) (Constructor d) (OfCon a n) Default f g e h = g
keys_apart (Constructor c) (Literal r y) (OfCon a n) (OfLit u b) f g e h = h
keys_apart (Constructor c) (Literal r y) (OfCon a n) (OfCon b m) f g e h = g
keys_apart (Constructor c) (Literal r y) (OfCon a n) Default f g e h = g
keys_apart (Literal s x) (Constructor d) (OfLit t a) (OfCon b m) f g e h = h
keys_apart (Literal s x) (Constructor d) (OfLit t a) (OfLit u b) f g e h = g
keys_apart (Literal s x) (Constructor d) (OfLit t a) Default f g e h = g
keys_apart (Literal s x) (Literal r y) (OfLit t a) (OfLit u b) f g e h = literal_apart s r x y e (f.0 ∙ sym h.0 ∙ sym g.0) (f.1 ∙ sym h.1 ∙ sym g.1)
keys_apart (Literal s x) (Literal r y) (OfLit t a) (OfCon b m) f g e h = g
keys_apart (Literal s x) (Literal r y) (OfLit t a) Default f g e h = g

-- the keys of patterns
abbrev pub pattern_keys : Keys Key
pattern_keys = record { eq = λ k l. eq-value.it k l; IsFor = λ k p. IsFor k p; hide = keys_hide; apart = keys_apart }

-- none of them is that of a default
pub keys_of_none : (k : Key) (p : Pattern) → IsFor k p → Hides p Default → ⊥
keys_of_none (Constructor c) (OfCon a n) f h = h
keys_of_none (Literal s x) (OfLit t a) f h = h
keys_of_none (Constructor c) (OfLit t a) f h = f
keys_of_none (Constructor c) Default f h = f
keys_of_none (Literal s x) (OfCon a n) f h = f
keys_of_none (Literal s x) Default f h = f

-- one more key in the table
pub keyed_next : (alts : List Alt) (i : ℕ) (a d : Alt) (ks new : List Key) (k : Key) → i < length alts → a ≡ get_or alts i d → AreFor pattern_keys ks (take i alts) → IsFor k a.pattern → list_any (λ l. eq-value.it k l) ks ≡ false → new ≡ insert_key (λ k l. eq-value.it k l) ks k → AreFor pattern_keys new (take (i + 1) alts)
keyed_next alts i a d ks new k l is h f any e =
    let last : new ≡ ks ++ k ∷ [] = e ∙ ap (λ b. cond b ks (ks ++ k ∷ [])) any in
    subst (λ xs. AreFor pattern_keys new xs) (sym (next_taken alts i a d l is))
    (subst (λ xs. AreFor pattern_keys xs (take i alts ++ a ∷ [])) (sym last) (keys_last pattern_keys ks (take i alts) k a h f))

pub not_new : (b r : Bool) → r ≡ not b → r ≡ false → b ≡ true
not_new true r e f = refl
not_new false r e f = absurd (false≢true (sym f ∙ e))

pub is_new : (b r : Bool) → r ≡ not b → r ≡ true → b ≡ false
is_new false r e f = refl
is_new true r e f = absurd (false≢true (sym e ∙ f))
