-- Tokens that stand in one way for what they are the tokens of, whatever stands behind them.
use Rattle.std.proofs.Common.{◌≡◌, ℕ, zero, suc, Bool, true, false, ◌&&◌, List, [], ◌∷◌, ◌++◌, sym, refl, ap, ◌∙◌, append_assoc}
use Rattle.std.specs.Prelude.{codes}
use Rattle.std.specs.List.{flat_map}
use Rattle.std.specs.Str.{bytes_eq}
use Rattle.std.proofs.lemmas.Bool.{false≢true}
use Rattle.verilog_text.specs.Grammar.{commas, sign}
use Rattle.verilog_text.specs.VForms.{Sort, Token}
use Rattle.verilog_text.specs.VForms.Sort.{keyword as a_keyword, sign as a_sign}

-- the bytes of the token at a place
abbrev pub bytes_at : ℕ → List Token → List ℕ
bytes_at k [] = []
bytes_at zero (t ∷ ts) = t.bytes
bytes_at (suc k) (t ∷ ts) = bytes_at k ts

-- tokens of this sort have their bytes from the grammar
abbrev is_fixed : Sort → Bool
is_fixed a_keyword = true
is_fixed a_sign = true
is_fixed _ = false

-- the keyword or sign of these bytes stands at a place
abbrev pub is_at : ℕ → List ℕ → List Token → Bool
is_at k bytes [] = false
is_at zero bytes (t ∷ ts) = is_fixed t.sort && bytes_eq t.bytes bytes
is_at (suc k) bytes (t ∷ ts) = is_at k bytes ts

-- equal lists pass one test
pub differ : {l m : List Token} (test : List Token → Bool) → l ≡ m → test l ≡ true → test m ≡ false → ⊥
differ test same passes fails = false≢true (sym fails ∙ ap test (sym same) ∙ passes)

-- what stands behind is fine
abbrev pub Decodes : {A : Type 0} → (A → List Token) → (List Token → Bool) → Type 0
Decodes {A} tokens fine =
    (a b : A) (r s : List Token) → fine r ≡ true → fine s ≡ true → tokens a ++ r ≡ tokens b ++ s → (a ≡ b) × (r ≡ s)

abbrev pub anything : List Token → Bool
anything l = true

module _ {A : Type 0} (tokens : A → List Token) (starts fine : List Token → Bool) (decode : Decodes tokens fine)
    (begins : (a : A) (r : List Token) → starts (tokens a ++ r) ≡ true)
    (fits : (a : A) (r : List Token) → fine (tokens a ++ r) ≡ true) where
  step : (a : A) (more : List A) (r : List Token) → flat_map tokens (a ∷ more) ++ r ≡ tokens a ++ (flat_map tokens more ++ r)
  step a more r = append_assoc (tokens a) (flat_map tokens more) r

  all_fine : (more : List A) (r : List Token) → fine r ≡ true → fine (flat_map tokens more ++ r) ≡ true
  all_fine [] r ok = ok
  all_fine (a ∷ more) r ok = ap fine (step a more r) ∙ fits a (flat_map tokens more ++ r)

  pub list_decodes : (a b : List A) (r s : List Token) → starts r ≡ false → starts s ≡ false → fine r ≡ true → fine s ≡ true
      → flat_map tokens a ++ r ≡ flat_map tokens b ++ s → (a ≡ b) × (r ≡ s)
  list_decodes [] [] r s r_stops s_stops r_fine s_fine same = (refl, same)
  list_decodes [] (b ∷ ys) r s r_stops s_stops r_fine s_fine same =
      absurd (differ starts (sym (step b ys s) ∙ sym same) (begins b (flat_map tokens ys ++ s)) r_stops)
  list_decodes (a ∷ xs) [] r s r_stops s_stops r_fine s_fine same =
      absurd (differ starts (sym (step a xs r) ∙ same) (begins a (flat_map tokens xs ++ r)) s_stops)
  list_decodes (a ∷ xs) (b ∷ ys) r s r_stops s_stops r_fine s_fine same =
      let first = decode a b (flat_map tokens xs ++ r) (flat_map tokens ys ++ s) (all_fine xs r r_fine) (all_fine ys s s_fine)
      (sym (step a xs r) ∙ same ∙ step b ys s) in
      let more = list_decodes xs ys r s r_stops s_stops r_fine s_fine first.1 in
      ((λ i. first.0 i ∷ more.0 i), more.1)

abbrev pub is_comma : List Token → Bool
is_comma = is_at 0 (codes ",")

module _ {A : Type 0} (tokens : A → List Token) (decode : Decodes tokens anything) where
  next_step : (a b : A) (more : List A) (r : List Token) → commas tokens a (b ∷ more) ++ r ≡ tokens a ++ sign (codes ",") ∷ (commas tokens b more ++ r)
  next_step a b more r = append_assoc (tokens a) (sign (codes ",") ∷ commas tokens b more) r

  pub commas_decode : (a b : A) (xs ys : List A) (r s : List Token) → is_comma r ≡ false → is_comma s ≡ false
      → commas tokens a xs ++ r ≡ commas tokens b ys ++ s → (a ≡ b) × (xs ≡ ys) × (r ≡ s)
  commas_decode a b [] [] r s r_stops s_stops same =
      let both = decode a b r s refl refl same in (both.0, refl, both.1)
  commas_decode a b [] (d ∷ ys) r s r_stops s_stops same =
      let both = decode a b r (sign (codes ",") ∷ (commas tokens d ys ++ s)) refl refl (same ∙ next_step b d ys s) in
      absurd (differ is_comma (sym both.1) refl r_stops)
  commas_decode a b (c ∷ xs) [] r s r_stops s_stops same =
      let both = decode a b (sign (codes ",") ∷ (commas tokens c xs ++ r)) s refl refl (sym (next_step a c xs r) ∙ same) in
      absurd (differ is_comma both.1 refl s_stops)
  commas_decode a b (c ∷ xs) (d ∷ ys) r s r_stops s_stops same =
      let both = decode a b (sign (codes ",") ∷ (commas tokens c xs ++ r)) (sign (codes ",") ∷ (commas tokens d ys ++ s)) refl refl
      (sym (next_step a c xs r) ∙ same ∙ next_step b d ys s) in
      let tail : commas tokens c xs ++ r ≡ commas tokens d ys ++ s = cc in
      let more = commas_decode c d xs ys r s r_stops s_stops tail in
      (both.0, (λ i. more.0 i ∷ more.1 i), more.2)
