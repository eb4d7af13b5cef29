-- Tokens that fit slots.
use Rattle.std.proofs.Common.{◌≡◌, ℕ, suc, ◌≤◌, inl, inr, Bool, true, false, not, ◌&&◌, List, [], ◌∷◌, ◌++◌, length, map, take, drop, sym, refl, ap, ◌∙◌, arith}
use Rattle.std.specs.Prelude.{if◌then◌else◌}
use Rattle.std.specs.List.{list_any}
use Rattle.std.specs.Str.{bytes_eq}
use Rattle.std.proofs.lemmas.Bool.{false≢true, and_parts, or_cases}
use Rattle.std.proofs.lemmas.Slice.Eq.{bytes_eq-Decides}
use Rattle.netlist.specs.declared.net.Op1.{Op1}
use Rattle.netlist.specs.declared.net.Op1.TheVariants.{Not}
use Rattle.netlist.specs.declared.net.Op2.{Op2}
use Rattle.netlist.specs.declared.net.Op2.TheVariants.{Add}
use Rattle.verilog_text.specs.Grammar.{binary_sign, keyword, literal, name, number, sign, signed}
use Rattle.verilog_text.specs.Text.{sign1}
use Rattle.verilog_text.specs.VForms.{Sort, Token}
use Rattle.verilog_text.specs.VForms.Sort.{keyword as a_keyword, literal as a_literal, name as a_name, number as a_number, sign as a_sign, signed as a_signed}
use Rattle.verilog_lex.specs.Shown.{keyword_bytes, sign_bytes}
use Rattle.verilog_lex.specs.declared.token.Placed.{Placed}
use Rattle.verilog_parse.specs.Slots.{binary_ops, fits, fitting, same_sort, same_token, takes, tokens_in, unary_ops}
use Rattle.verilog_parse.specs.declared.slot.Slot.{Slot}
use Rattle.verilog_parse.specs.declared.slot.Slot.TheVariants.{Binary, Keyword, Literal, Name, Number, Sign, Signed, Unary}

pub same_sort_is : (a b : Sort) → same_sort a b ≡ true → b ≡ a
same_sort_is a_keyword a_keyword same = refl
same_sort_is a_name a_name same = refl
same_sort_is a_number a_number same = refl
same_sort_is a_literal a_literal same = refl
same_sort_is a_signed a_signed same = refl
same_sort_is a_sign a_sign same = refl
same_sort_is _ _ same = absurd (false≢true same)

pub same_token_is : (a b : Token) → same_token a b ≡ true → b ≡ a
same_token_is a b same =
    let parts = and_parts _ _ same in
    let sorts = same_sort_is a.sort b.sort parts.0 in
    let bytes : b.bytes ≡ a.bytes = sym ((bytes_eq-Decides a.bytes b.bytes).0 parts.1) in
    λ i. record { sort = sorts i; bytes = bytes i }

-- a token that the slot takes
abbrev pub sample : Slot → Token
sample (Keyword k) = keyword (keyword_bytes k)
sample (Sign s) = sign (sign_bytes s)
sample Name = name []
sample Number = number []
sample Literal = literal []
sample Signed = signed
sample Unary = sign (sign1 Not)
sample Binary = sign (binary_sign Add)

same_bytes : (a : List ℕ) → bytes_eq a a ≡ true
same_bytes a = (bytes_eq-Decides a a).1 refl

sample_taken : (s : Slot) → takes s (sample s) ≡ true
sample_taken (Keyword k) = same_bytes (keyword_bytes k)
sample_taken (Sign s) = same_bytes (sign_bytes s)
sample_taken Name = refl
sample_taken Number = refl
sample_taken Literal = refl
sample_taken Signed = refl
sample_taken Unary = refl
sample_taken Binary = refl

both_true : (a b : Bool) → a ≡ true → b ≡ true → (a && b) ≡ true
both_true a b first second = rw first second

samples_fit : (slots : List Slot) → fits slots (map sample slots) ≡ true
samples_fit [] = refl
samples_fit (s ∷ slots) = both_true _ _ (sample_taken s) (samples_fit slots)

-- tokens that fit the front of slots, with samples behind them, fit the slots
pub completed : (slots : List Slot) (tokens : List Token) → fits slots (take (fitting slots tokens) tokens ++ map sample (drop (fitting slots tokens) slots)) ≡ true
completed [] tokens = refl
completed (s ∷ slots) [] = samples_fit (s ∷ slots)
completed (s ∷ slots) (t ∷ tokens) =
    elim (takes s t) as (λ v. takes s t ≡ v → fits (s ∷ slots) (take (if v then suc (fitting slots tokens) else 0) (t ∷ tokens) ++ map sample (drop (if v then suc (fitting slots tokens) else 0) (s ∷ slots))) ≡ true) [
      | true ↦ λ took. both_true _ _ took (completed slots tokens)
      | false ↦ λ took. samples_fit (s ∷ slots)
    ] refl

if_taken : (b : Bool) (n : ℕ) → b ≡ true → (if b then n else 0) ≡ n
if_taken true n is = refl
if_taken false n is = absurd (false≢true is)

-- tokens that fit are all that fit
pub fitting_whole : (slots : List Slot) (front rest : List Token) → fits slots front ≡ true → fitting slots (front ++ rest) ≡ length slots
fitting_whole [] [] rest fit = refl
fitting_whole [] (t ∷ front) rest fit = absurd (false≢true fit)
fitting_whole (s ∷ slots) [] rest fit = absurd (false≢true fit)
fitting_whole (s ∷ slots) (t ∷ front) rest fit =
    let parts = and_parts _ _ fit in
    if_taken (takes s t) (suc (fitting slots (front ++ rest))) parts.0 ∙ ap suc (fitting_whole slots front rest parts.1)

pub whole_fits : (slots : List Slot) (tokens : List Token) → fitting slots tokens ≡ length slots → fits slots (take (length slots) tokens) ≡ true
whole_fits [] tokens whole = refl
whole_fits (s ∷ slots) [] whole = absurd (omega (arith, whole))
whole_fits (s ∷ slots) (t ∷ tokens) whole =
    elim (takes s t) as (λ v. (if v then suc (fitting slots tokens) else 0) ≡ suc (length slots) → (v && fits slots (take (length slots) tokens)) ≡ true) [
      | true ↦ λ whole. whole_fits slots tokens (omega (arith, whole))
      | false ↦ λ whole. absurd (omega (arith, whole))
    ] whole

pub fitting_within : (slots : List Slot) (tokens : List Token) → fitting slots tokens ≤ length tokens
fitting_within [] tokens = omega arith
fitting_within (s ∷ slots) [] = omega arith
fitting_within (s ∷ slots) (t ∷ tokens) =
    elim (takes s t) as (λ v. (if v then suc (fitting slots tokens) else 0) ≤ suc (length tokens)) [
      | true ↦ omega (arith, fitting_within slots tokens)
      | false ↦ omega arith
    ]

-- what stands behind the first token that doesn't fit is all one
pub fitting_same : (slots : List Slot) (before : List Token) (t : Token) (x y : List Token) → fitting slots (before ++ t ∷ x) ≤ length before
    → fitting slots (before ++ t ∷ y) ≡ fitting slots (before ++ t ∷ x)
fitting_same [] before t x y few = refl
fitting_same (s ∷ slots) [] t x y few =
    elim (takes s t) as (λ v. (if v then suc (fitting slots x) else 0) ≤ 0 → (if v then suc (fitting slots y) else 0) ≡ (if v then suc (fitting slots x) else 0)) [
      | true ↦ λ few. absurd (omega (arith, few))
      | false ↦ λ few. refl
    ] few
fitting_same (s ∷ slots) (b ∷ before) t x y few =
    elim (takes s b) as (λ v. (if v then suc (fitting slots (before ++ t ∷ x)) else 0) ≤ suc (length before)
    → (if v then suc (fitting slots (before ++ t ∷ y)) else 0) ≡ (if v then suc (fitting slots (before ++ t ∷ x)) else 0)) [
      | true ↦ λ few. ap suc (fitting_same slots before t x y (omega (arith, few)))
      | false ↦ λ few. refl
    ] few

-- what fits one list of slots has one rest
pub same_rest : (slots : List Slot) (a b r s : List Token) → fits slots a ≡ true → fits slots b ≡ true → a ++ r ≡ b ++ s → r ≡ s
same_rest [] [] [] r s fit again same = same
same_rest [] [] (y ∷ b) r s fit again same = absurd (false≢true again)
same_rest [] (x ∷ a) b r s fit again same = absurd (false≢true fit)
same_rest (w ∷ slots) [] b r s fit again same = absurd (false≢true fit)
same_rest (w ∷ slots) (x ∷ a) [] r s fit again same = absurd (false≢true again)
same_rest (w ∷ slots) (x ∷ a) (y ∷ b) r s fit again same =
    let tail : a ++ r ≡ b ++ s = cc in
    same_rest slots a b r s (and_parts _ _ fit).1 (and_parts _ _ again).1 tail

-- no token is taken by both slots
abbrev sort_of : Slot → Sort
sort_of (Keyword k) = a_keyword
sort_of (Sign s) = a_sign
sort_of Name = a_name
sort_of Number = a_number
sort_of Literal = a_literal
sort_of Signed = a_signed
sort_of Unary = a_sign
sort_of Binary = a_sign

abbrev pub apart : Slot → Slot → Bool
apart (Keyword k) b = not (takes b (keyword (keyword_bytes k)))
apart (Sign s) b = not (takes b (sign (sign_bytes s)))
apart a (Keyword k) = not (takes a (keyword (keyword_bytes k)))
apart a (Sign s) = not (takes a (sign (sign_bytes s)))
apart a b = not (same_sort (sort_of a) (sort_of b))

pub any_sign1 : (ops : List Op1) (t : Token) → list_any (λ op. same_token (sign (sign1 op)) t) ops ≡ true → t.sort ≡ a_sign
any_sign1 [] t found = absurd (false≢true found)
any_sign1 (op ∷ ops) t found =
    elim (or_cases _ _ found) [
      | inl here ↦ ap (λ (x : Token). x.sort) (same_token_is (sign (sign1 op)) t here)
      | inr later ↦ any_sign1 ops t later
    ]

pub any_sign2 : (ops : List Op2) (t : Token) → list_any (λ op. same_token (sign (binary_sign op)) t) ops ≡ true → t.sort ≡ a_sign
any_sign2 [] t found = absurd (false≢true found)
any_sign2 (op ∷ ops) t found =
    elim (or_cases _ _ found) [
      | inl here ↦ ap (λ (x : Token). x.sort) (same_token_is (sign (binary_sign op)) t here)
      | inr later ↦ any_sign2 ops t later
    ]

taken_sort : (s : Slot) (t : Token) → takes s t ≡ true → t.sort ≡ sort_of s
taken_sort (Keyword k) t took = ap (λ (x : Token). x.sort) (same_token_is (keyword (keyword_bytes k)) t took)
taken_sort (Sign s) t took = ap (λ (x : Token). x.sort) (same_token_is (sign (sign_bytes s)) t took)
taken_sort Name t took = same_sort_is a_name t.sort took
taken_sort Number t took = same_sort_is a_number t.sort took
taken_sort Literal t took = same_sort_is a_literal t.sort took
taken_sort Signed t took = ap (λ (x : Token). x.sort) (same_token_is signed t took)
taken_sort Unary t took = any_sign1 unary_ops t took
taken_sort Binary t took = any_sign2 binary_ops t took

not_both : (b : Bool) → b ≡ true → not b ≡ true → ⊥
not_both true is differs = false≢true differs
not_both false is differs = false≢true is

same_sort_refl : (a : Sort) → same_sort a a ≡ true
same_sort_refl a_keyword = refl
same_sort_refl a_name = refl
same_sort_refl a_number = refl
same_sort_refl a_literal = refl
same_sort_refl a_signed = refl
same_sort_refl a_sign = refl

-- slots that take one token are of one sort
one_sort : (a b : Slot) (t : Token) → takes a t ≡ true → takes b t ≡ true → not (same_sort (sort_of a) (sort_of b)) ≡ true → ⊥
one_sort a b t first second differ =
    let same : sort_of b ≡ sort_of a = sym (taken_sort b t second) ∙ taken_sort a t first in
    let both : same_sort (sort_of a) (sort_of b) ≡ true = ap (λ (x : Sort). same_sort (sort_of a) x) same ∙ same_sort_refl (sort_of a) in
    not_both (same_sort (sort_of a) (sort_of b)) both differ

-- the other slot doesn't take the one token of this slot
exact : (b : Slot) (u t : Token) → t ≡ u → takes b t ≡ true → not (takes b u) ≡ true → ⊥
exact b u t is second differ = not_both (takes b u) (ap (takes b) (sym is) ∙ second) differ

apart_is : (a b : Slot) (t : Token) → apart a b ≡ true → takes a t ≡ true → takes b t ≡ true → ⊥
apart_is (Keyword k) b t differ first second = exact b _ t (same_token_is (keyword (keyword_bytes k)) t first) second differ
apart_is (Sign s) b t differ first second = exact b _ t (same_token_is (sign (sign_bytes s)) t first) second differ
apart_is Name (Keyword k) t differ first second = exact Name _ t (same_token_is (keyword (keyword_bytes k)) t second) first differ
apart_is Number (Keyword k) t differ first second = exact Number _ t (same_token_is (keyword (keyword_bytes k)) t second) first differ
apart_is Literal (Keyword k) t differ first second = exact Literal _ t (same_token_is (keyword (keyword_bytes k)) t second) first differ
apart_is Signed (Keyword k) t differ first second = exact Signed _ t (same_token_is (keyword (keyword_bytes k)) t second) first differ
apart_is Unary (Keyword k) t differ first second = exact Unary _ t (same_token_is (keyword (keyword_bytes k)) t second) first differ
apart_is Binary (Keyword k) t differ first second = exact Binary _ t (same_token_is (keyword (keyword_bytes k)) t second) first differ
apart_is Name (Sign s) t differ first second = exact Name _ t (same_token_is (sign (sign_bytes s)) t second) first differ
apart_is Number (Sign s) t differ first second = exact Number _ t (same_token_is (sign (sign_bytes s)) t second) first differ
apart_is Literal (Sign s) t differ first second = exact Literal _ t (same_token_is (sign (sign_bytes s)) t second) first differ
apart_is Signed (Sign s) t differ first second = exact Signed _ t (same_token_is (sign (sign_bytes s)) t second) first differ
apart_is Unary (Sign s) t differ first second = exact Unary _ t (same_token_is (sign (sign_bytes s)) t second) first differ
apart_is Binary (Sign s) t differ first second = exact Binary _ t (same_token_is (sign (sign_bytes s)) t second) first differ
apart_is a b t differ first second = one_sort a b t first second differ

-- at some place two lists of slots take no token both
abbrev pub clash : List Slot → List Slot → Bool
clash [] slots = false
clash (a ∷ slots) [] = false
clash (a ∷ slots) (b ∷ others) = if apart a b then true else clash slots others

pub clash_is : (slots others : List Slot) (a b r s : List Token) → clash slots others ≡ true → fits slots a ≡ true → fits others b ≡ true → a ++ r ≡ b ++ s → ⊥
clash_is [] others a b r s differ fit again same = false≢true differ
clash_is (x ∷ slots) [] a b r s differ fit again same = false≢true differ
clash_is (x ∷ slots) (y ∷ others) [] b r s differ fit again same = false≢true fit
clash_is (x ∷ slots) (y ∷ others) (t ∷ a) [] r s differ fit again same = false≢true again
clash_is (x ∷ slots) (y ∷ others) (t ∷ a) (u ∷ b) r s differ fit again same =
    let first : u ≡ t = cc in
    let tail : a ++ r ≡ b ++ s = cc in
    let parts = and_parts _ _ fit in
    let more = and_parts _ _ again in
    elim (apart x y) as (λ v. apart x y ≡ v → (if v then true else clash slots others) ≡ true → ⊥) [
      | true ↦ λ is _. apart_is x y t is parts.0 (ap (takes y) (sym first) ∙ more.0)
      | false ↦ λ is later. clash_is slots others a b r s later parts.1 more.1 tail
    ] refl differ

length_in : (tokens : List Placed) → length (tokens_in tokens) ≡ length tokens
length_in [] = refl
length_in (t ∷ tokens) = ap suc (length_in tokens)

pub within : (slots : List Slot) (tokens : List Placed) → fitting slots (tokens_in tokens) ≤ length tokens
within slots tokens = omega (arith, fitting_within slots (tokens_in tokens), length_in tokens)
