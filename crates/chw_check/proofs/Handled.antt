-- The alternatives: whether one is the default, and which constructors they are for.
use Rattle.std.proofs.Common.{◌≡◌, ℕ, ◌+◌, ◌<◌, Bool, true, false, ◌⊎◌, inl, inr, ◌↔◌, sym, ap, ◌∙◌, subst, List, ◌∷◌, length, drop, get_or, refl, cond, eqb, eqb-true}
use Rattle.std.proofs.lemmas.Bool.{eq-eqb}
use Rattle.chw_base.specs.declared.index.ConId.{ConId}
use Rattle.chw_terms.specs.declared.term.Alt.{Alt}
use Rattle.chw_terms.specs.declared.term.Pattern.{Pattern}
use Rattle.chw_terms.specs.declared.term.Pattern.TheVariants.{OfCon, OfLit, Default}
use Rattle.chw_terms.specs.TermTree.{TermTree, Alts, alt}
use Rattle.chw_terms.specs.TermView.{alts_of}
use Rattle.chw_typing.specs.Alternatives.{HasDefault, IsFor}
use Rattle.std.specs.List.{list_any}
use Rattle.chw_check.proofs.CaseItems.{next_dropped}
use Rattle.chw_check.proofs.Covered.{either}

-- there is a default in all where there is one in the rest
pub record SameDefault (xs rest : List Alt) : Type 0 where
  pub back : HasDefault (alts_of rest) → HasDefault (alts_of xs)
  pub on : HasDefault (alts_of xs) → HasDefault (alts_of rest)

-- a constructor has an alternative where it is among these, or has one in the rest
pub record Handles (cons : List ℕ) (xs rest : List Alt) : Type 0 where
  pub among : (c : ℕ) → list_any (eqb c) cons ≡ true → IsFor c (alts_of xs)
  pub back : (c : ℕ) → IsFor c (alts_of rest) → IsFor c (alts_of xs)
  pub on : (c : ℕ) → IsFor c (alts_of xs) → (list_any (eqb c) cons ≡ true) ⊎ IsFor c (alts_of rest)

-- an alternative for no constructor
for_others : (q : Pattern) (e : TermTree) (more : Alts) → ((c : ConId) (n : ℕ) → q ≡ OfCon c n → ⊥) → (c : ℕ) → IsFor c (alt q e more) ↔ IsFor c more
for_others (OfCon d n) e more none c = absurd (none d n refl)
for_others (OfLit s bits) e more none c = (λ h. h, λ h. h)
for_others Default e more none c = (λ h. h, λ h. h)

pub handles_others : (cons : List ℕ) (xs : List Alt) (i : ℕ) (a d : Alt) → i < length xs → a ≡ get_or xs i d → ((c : ConId) (n : ℕ) → a.pattern ≡ OfCon c n → ⊥) → Handles cons xs (drop i xs) → Handles cons xs (drop (i + 1) xs)
handles_others cons xs i a d l is none h =
    let at = subst (Handles cons xs) (next_dropped xs i a d l is) h in
    let others = for_others a.pattern a.body (alts_of (drop (i + 1) xs)) none in
    record { among = at.among; back = λ c f. at.back c ((others c).1 f); on = λ c f. either (λ m. inl m) (λ m. inr ((others c).0 m)) (at.on c f) }

-- an alternative for a constructor
for_it : (q : Pattern) (e : TermTree) (more : Alts) (d : ConId) (n : ℕ) → q ≡ OfCon d n → (c : ℕ) → IsFor c (alt q e more) ≡ ((c ≡ d.number) ⊎ IsFor c more)
for_it q e more d n is c = ap (λ p. IsFor c (alt p e more)) is

added : (b x : Bool) → (b ≡ true) ⊎ (x ≡ true) → cond b true x ≡ true
added true x h = refl
added false x (inl e) = absurd (cc)
added false x (inr e) = e

added_told : (b x : Bool) → cond b true x ≡ true → (b ≡ true) ⊎ (x ≡ true)
added_told true x e = inl refl
added_told false x e = inr e

pub handles_it : (cons new : List ℕ) (xs : List Alt) (i : ℕ) (a d : Alt) (at : ConId) (n : ℕ) → i < length xs → a ≡ get_or xs i d → a.pattern ≡ OfCon at n → ((c : ℕ) → list_any (eqb c) new ≡ cond (eqb at.number c) true (list_any (eqb c) cons)) → Handles cons xs (drop i xs) → Handles new xs (drop (i + 1) xs)
handles_it cons new xs i a d at n l is con sets h =
    record {
      among = λ c e. either (λ x. told.back c (here c (inl (sym (eqb-true at.number c x))))) (λ x. told.among c x) (added_told (eqb at.number c) (list_any (eqb c) cons) (sym (sets c) ∙ e));
      back = λ c f. told.back c (here c (inr f));
      on = λ c f. either (λ m. inl (sets c ∙ added (eqb at.number c) (list_any (eqb c) cons) (inr m)))
          (λ m. either (λ x. inl (sets c ∙ added (eqb at.number c) (list_any (eqb c) cons) (inl (eq-eqb at.number c (sym x))))) (λ x. inr x) (away c m)) (told.on c f);
    }
  where
    told : Handles cons xs (a ∷ drop (i + 1) xs)
    told = subst (Handles cons xs) (next_dropped xs i a d l is) h

    here : (c : ℕ) → (c ≡ at.number) ⊎ IsFor c (alts_of (drop (i + 1) xs)) → IsFor c (alts_of (a ∷ drop (i + 1) xs))
    here c h = subst (λ (T : Type 0). T) (sym (for_it a.pattern a.body (alts_of (drop (i + 1) xs)) at n con c)) h

    away : (c : ℕ) → IsFor c (alts_of (a ∷ drop (i + 1) xs)) → (c ≡ at.number) ⊎ IsFor c (alts_of (drop (i + 1) xs))
    away c h = subst (λ (T : Type 0). T) (for_it a.pattern a.body (alts_of (drop (i + 1) xs)) at n con c) h
