-- The word that stands first, found one after the other.
use Rattle.std.proofs.Common.{◌≡◌, ◌<◌, ◌≤◌, Bool, true, false, cond, ltb, List, [], ◌∷◌, ◌++◌, Option, Some, None, Bor, inl, inr, refl, sym, ap, ◌∙◌, subst, arith}
use Rattle.std.specs.Option.{MatchOption}
use Rattle.std.proofs.lemmas.Bool.{ltb-false, ltb-true}
use Rattle.std.proofs.lemmas.List.Elements.{All-cons, All-tail, Contains-append_left, Contains-append_right, Contains-append_cases}
use Rattle.std.proofs.lemmas.Option.{none-some, same_Some}
use Rattle.chw_grammar.specs.declared.word.Word.{Word}
use Rattle.chw_names.specs.Words.{IsLeast, sooner, least_of, word_met}

pub least_append : (met : Option Word) (xs ys : List Word) → least_of met (xs ++ ys) ≡ least_of (least_of met xs) ys
least_append met [] ys = refl
least_append met (x ∷ xs) ys = least_append (sooner met x) xs ys

-- words are met after others
pub least_then : (met : Option Word) (xs ys : List Word) {next last : Option Word} → next ≡ least_of met xs → last ≡ least_of next ys → last ≡ least_of met (xs ++ ys)
least_then met xs ys e f = f ∙ ap (λ m. least_of m ys) e ∙ sym (least_append met xs ys)

alone : (word : Word) → IsLeast (word ∷ []) word
alone word = record { among = (0, omega arith, refl); least = All-cons (λ (other : Word). word.at ≤ other.at) word [] (omega arith) (λ k d lt. absurd (omega arith)) }

-- a word that stands after the least one more
one_later : (met w : Word) (ws : List Word) (word : Word) → w.at < met.at → IsLeast (w ∷ ws) word → IsLeast (met ∷ w ∷ ws) word
one_later met w ws word lt is =
    let first : word.at ≤ w.at = is.least 0 word (omega arith) in
    record {
      among = Contains-append_right (met ∷ []) (w ∷ ws) word is.among;
      least = All-cons (λ (other : Word). word.at ≤ other.at) met (w ∷ ws) (omega arith) is.least;
    }

one_between : (met w : Word) (ws : List Word) (word : Word) → met.at ≤ w.at → IsLeast (met ∷ ws) word → IsLeast (met ∷ w ∷ ws) word
one_between met w ws word le is =
    let first : word.at ≤ met.at = is.least 0 word (omega arith) in
    let P : Word → Type 0 = λ (other : Word). word.at ≤ other.at in
    record {
      among = elim (Contains-append_cases (met ∷ []) ws word is.among) [
        | inl here ↦ Contains-append_left (met ∷ []) (w ∷ ws) word here
        | inr later ↦ Contains-append_right (met ∷ w ∷ []) ws word later
      ];
      least = All-cons P met (w ∷ ws) first (All-cons P w ws (omega arith) (All-tail P met ws is.least));
    }

-- what is found is the least of a word and others
met_is_least : (ws : List Word) (met word : Word) → least_of (Some met) ws ≡ Some word → IsLeast (met ∷ ws) word
met_is_least [] met word e = subst (λ (w : Word). IsLeast (met ∷ []) w) (same_Some met word e) (alone met)
met_is_least (w ∷ ws) met word e = by (ltb w.at met.at) refl (λ (k : Word). met_is_least ws k word) e
  where
    by : (b : Bool) → ltb w.at met.at ≡ b → ((k : Word) → least_of (Some k) ws ≡ Some word → IsLeast (k ∷ ws) word) → least_of (cond b (Some w) (Some met)) ws ≡ Some word
        → IsLeast (met ∷ w ∷ ws) word
    by true is rest h = one_later met w ws word (ltb-true w.at met.at is) (rest w h)
    by false is rest h = one_between met w ws word (ltb-false w.at met.at is) (rest met h)

never_none : (ws : List Word) (met : Word) → least_of (Some met) ws ≡ None → ⊥
never_none [] met e = none-some met (sym e)
never_none (w ∷ ws) met e = by (ltb w.at met.at) (never_none ws) e
  where
    by : (b : Bool) → ((k : Word) → least_of (Some k) ws ≡ None → ⊥) → least_of (cond b (Some w) (Some met)) ws ≡ None → ⊥
    by true rest h = rest w h
    by false rest h = rest met h

-- a reference to the word that is found is one to the least, and where none is found there are no words
pub shows_least : (ws : List Word) (found : Option (Bor Word)) → word_met found ≡ least_of None ws → MatchOption found (ws ≡ []) (λ (w : Bor Word). IsLeast ws w.now)
shows_least [] None e = refl
shows_least (w ∷ ws) None e = absurd (never_none ws w (sym e))
shows_least [] (Some r) e = absurd (none-some r.now (sym e))
shows_least (w ∷ ws) (Some r) e = met_is_least ws w r.now (sym e)
