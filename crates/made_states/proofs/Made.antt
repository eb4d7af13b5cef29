-- States with more made definitions.
use Rattle.std.proofs.Common.{◌≡◌, ◌∙◌, ◌<◌, ◌⊎◌, ℕ, suc, zero, refl, sym, ap, arith, inl, inr}
use Rattle.std.proofs.Common.{List, [], ◌∷◌, ◌++◌, append-nil, length, map, set, Some}
use Rattle.std.proofs.lemmas.Option.{slice_get_within}
use Rattle.std.specs.List.{slice_get}
use Rattle.chw_types.specs.TypeTree.{TypeTree}
use Rattle.chw_terms.specs.TermTree.{TermTree}
use Rattle.chw_terms.specs.declared.program.Program.{Program}
use Rattle.chw_terms.specs.declared.rule.Rule.{Rule}
use Rattle.chw_terms.specs.declared.rule.Rule.TheVariants.{Spec}
use Rattle.chw_terms.specs.declared.scene.Made.{Made}
use Rattle.chw_typing.proofs.Lists.{found_before_map}
use Rattle.chw_typing.specs.Typing.{HasType}
use Rattle.rewriting.specs.Origins.{MadeOf, made_of, setting_at}
use Rattle.rewriting.specs.Spots.{Spot}
use Rattle.rewriting.specs.Runs.{After, known, no_call, one_more, opened}
use Rattle.rewriting.specs.Steps.{origins_in}
use Rattle.rule_types.specs.States.{IsTypedState}
use Rattle.made_states.proofs.Names.{Alike, NamesOnly, mapped_alike, typed_names}

-- the numbers of the made definitions that are there
abbrev pub IsThere : List Made → ℕ → Type 0
IsThere made m = m < length made

before_more : (xs ys : List Made) (m : ℕ) → m < length xs → slice_get xs m ≡ slice_get (xs ++ ys) m
before_more [] ys m l = absurd (omega (arith, l))
before_more (x ∷ xs) ys zero l = refl
before_more (x ∷ xs) ys (suc m) l = before_more xs ys m (omega (arith, l))

pub made_alike : (made more : List Made) → Alike (IsThere made) made (made ++ more)
made_alike made more m l = before_more made more m l

pub origins_alike : (made more : List Made) → Alike (IsThere made) (map made_of made) (map made_of (made ++ more))
origins_alike made more = mapped_alike made_of (IsThere made) made (made ++ more) (made_alike made more)

pub found_first : (made more : List Made) (m : ℕ) (it : Made) → slice_get made m ≡ Some it → slice_get (made ++ more) m ≡ Some it
found_first made more m it is = sym (made_alike made more m (slice_get_within made m it is)) ∙ is

-- a typed term names those alone
pub there_named : (p : Program) (made : List Made) {vars : List TypeTree} {e : TermTree} {t : TypeTree} → HasType (setting_at (origins_in p made)) [] vars e t → NamesOnly (IsThere made) e
there_named p made d = typed_names d (IsThere made) within
  where
    within : (m : ℕ) (u : TypeTree) → slice_get (map (λ (m : MadeOf). m.ty) (map made_of made)) m ≡ Some u → m < length made
    within m u is =
        let outer = found_before_map (λ (m : MadeOf). m.ty) (map made_of made) m u is in
        let at = found_before_map made_of made m outer.0 outer.1 in
        slice_get_within made m at.0 at.1

pub body_named : (p : Program) (made : List Made) → IsTypedState p made → (m : ℕ) (it : Made) → slice_get made m ≡ Some it → NamesOnly (IsThere made) it.body
body_named p made h m it is = there_named p made (h.each m it is).body_typed.has

-- the made definitions after a rule: those from before, and perhaps others behind them
pub after_more : {p : Program} {made with_new : List Made} {at : Spot} {e : TermTree} {r : Rule} → After p made at e r with_new → (more : List Made) × (with_new ≡ made ++ more)
after_more {made = made} (no_call n) = ([], sym (append-nil made))
after_more {made = made} (known m b h) = ([], sym (append-nil made))
after_more {p} (one_more {it = it} b h) = (opened p it ∷ [], refl)

-- it is the rule that makes definitions, or another
pub spec_or_other : {p : Program} {made with_new : List Made} {at : Spot} {e : TermTree} {r : Rule} → After p made at e r with_new → (r ≡ Spec) ⊎ (r ≡ Spec → ⊥)
spec_or_other (no_call n) = inr n
spec_or_other (known m b h) = inl refl
spec_or_other (one_more b h) = inl refl

-- another body changes nothing that rules see
pub same_made : (xs : List Made) (n : ℕ) (it y : Made) → slice_get xs n ≡ Some it → made_of y ≡ made_of it → map made_of (set xs n y) ≡ map made_of xs
same_made [] n it y e is = absurd cc
same_made (x ∷ xs) zero it y e is = let same : it ≡ x = cc in ap (λ m. m ∷ map made_of xs) (is ∙ ap made_of same)
same_made (x ∷ xs) (suc n) it y e is = ap (λ ms. made_of x ∷ ms) (same_made xs n it y e is)
