-- Steps change no origin, and no two made definitions get one origin.
use Rattle.std.proofs.Common.{◌≡◌, ◌∙◌, ◌⊎◌, ℕ, suc, zero, refl, sym, ap, subst, inl, inr}
use Rattle.std.proofs.Common.{List, [], ◌∷◌, ◌++◌, append-nil, append_assoc, length, map, None, Some}
use Rattle.std.proofs.lemmas.List.{map-append}
use Rattle.std.specs.List.{slice_get}
use Rattle.chw_terms.specs.Evaluated.{evaluated_in}
use Rattle.chw_terms.specs.TermTree.{TermTree}
use Rattle.chw_terms.specs.declared.program.Program.{Program}
use Rattle.chw_terms.specs.declared.rule.Rule.{Rule}
use Rattle.chw_terms.specs.declared.scene.Made.{Made}
use Rattle.chw_typing.specs.Paths.{with_part}
use Rattle.rewriting.specs.Origins.{MadeOf, Origins, made_of}
use Rattle.rewriting.specs.Spots.{Spot}
use Rattle.rewriting.specs.Numbers.{HasOrigin}
use Rattle.rewriting.specs.Runs.{After, Run, RunsTo, Step, StepsTo, known, no_call, no_more, none_left, one_more, opened, step_and, top_of}
use Rattle.rewriting.specs.Steps.{origins_in}
use Rattle.made_states.proofs.Made.{after_more, found_first, same_made}
use Rattle.made_states.specs.Laws.{OriginsStay}

-- the new body changes none
same_origins : (rules : List Rule) (p : Program) (made made' : List Made) (s : Step) → (steps : StepsTo rules p made s made') → map made_of made' ≡ map made_of steps.with_new
same_origins rules p made made' s steps =
    let step = steps.is_first.step.1 in
    let y = record step.it { body = with_part step.it.body s.place.path s.new } in
    let more = after_more steps.after in
    let found = ap (λ ms. slice_get ms s.place.number) more.1 ∙ found_first made more.0 s.place.number step.it step.is in
    ap (map made_of) steps.is ∙ same_made steps.with_new s.place.number step.it y found refl

pub steps_keep_origins : (rules : List Rule) (p : Program) (made made' : List Made) (s : Step) → StepsTo rules p made s made' → OriginsStay made made'
steps_keep_origins rules p made made' s steps =
    let more = after_more steps.after in
    (map made_of more.0, same_origins rules p made made' s steps ∙ ap (map made_of) more.1 ∙ map-append made_of made more.0)

-- nor do many steps
stay_through : (made made' made'' : List Made) → OriginsStay made made' → OriginsStay made' made'' → OriginsStay made made''
stay_through made made' made'' h g =
    (h.0 ++ g.0, g.1 ∙ ap (λ ms. ms ++ g.0) h.1 ∙ append_assoc (map made_of made) h.0 g.0)

origins_from : (rules : List Rule) (p : Program) {n : ℕ} {made made' : List Made} {steps : List Step} → RunsTo rules p n made steps made' → OriginsStay made made'
origins_from rules p (no_more {made = made}) = ([], sym (append-nil (map made_of made)))
origins_from rules p (none_left {made = made} none) = ([], sym (append-nil (map made_of made)))
origins_from rules p (step_and {made = made} {made' = made'} {made'' = made''} {s = s} first rest) =
    stay_through made made' made'' (steps_keep_origins rules p made made' s first) (origins_from rules p rest)

pub runs_keep_origins : (rules : List Rule) (p : Program) (n : ℕ) (made made' : List Made) (steps : List Step) → RunsTo rules p n made steps made' → OriginsStay made made'
runs_keep_origins rules p n made made' steps runs = origins_from rules p runs

-- an origin has one number at most
abbrev AreApart : Origins → Type 0
AreApart o = (e : TermTree) (i j : ℕ) → HasOrigin o e i → HasOrigin o e j → i ≡ j

-- one of them is an older one, or the one at the end
abbrev OlderOrLast : List Made → Made → ℕ → MadeOf → Type 0
OlderOrLast made y m z = (slice_get (map made_of made) m ≡ Some z) ⊎ ((m ≡ length made) × (made_of y ≡ z))

older_or_last : (made : List Made) (y : Made) (m : ℕ) (z : MadeOf) → slice_get (map made_of (made ++ y ∷ [])) m ≡ Some z → OlderOrLast made y m z
older_or_last [] y zero z e = inr (refl, cc)
older_or_last [] y (suc m) z e = absurd cc
older_or_last (x ∷ made) y zero z e = inl e
older_or_last (x ∷ made) y (suc m) z e = by (older_or_last made y m z e)
  where
    by : OlderOrLast made y m z → OlderOrLast (x ∷ made) y (suc m) z
    by (inl h) = inl h
    by (inr h) = inr (ap suc h.0, h.1)

apart_with : (p : Program) (made : List Made) (it : MadeOf) → AreApart (origins_in p made) → ((m : ℕ) → HasOrigin (origins_in p made) it.origin m → ⊥) → AreApart (origins_in p (made ++ opened p it ∷ []))
apart_with p made it apart none e i j h g =
    by (older_or_last made (opened p it) i h.0 h.1) (older_or_last made (opened p it) j g.0 g.1)
  where
    new_is : (z : MadeOf) → made_of (opened p it) ≡ z → evaluated_in it.origin ≡ evaluated_in z.origin
    new_is z is = ap (λ (m : MadeOf). evaluated_in m.origin) is

    by : OlderOrLast made (opened p it) i h.0 → OlderOrLast made (opened p it) j g.0 → i ≡ j
    by (inl a) (inl b) = apart e i j (h.0, a, h.2) (g.0, b, g.2)
    by (inl a) (inr b) = absurd (none i (h.0, a, h.2 ∙ sym g.2 ∙ sym (new_is g.0 b.1)))
    by (inr a) (inl b) = absurd (none j (g.0, b, g.2 ∙ sym h.2 ∙ sym (new_is h.0 a.1)))
    by (inr a) (inr b) = a.0 ∙ sym b.0

after_apart : {p : Program} {made with_new : List Made} {at : Spot} {e : TermTree} {r : Rule} → After p made at e r with_new → AreApart (origins_in p made) → AreApart (origins_in p with_new)
after_apart (no_call n) apart = apart
after_apart (known m b h) apart = apart
after_apart {p} {made} (one_more {it = it} b none) apart = apart_with p made it apart none

step_apart : (rules : List Rule) (p : Program) (made made' : List Made) (s : Step) → StepsTo rules p made s made' → AreApart (origins_in p made) → AreApart (origins_in p made')
step_apart rules p made made' s steps apart =
    subst (λ ms. AreApart (record { program = p; made = ms })) (sym (same_origins rules p made made' s steps)) (after_apart steps.after apart)

apart_from : (rules : List Rule) (p : Program) {n : ℕ} {made made' : List Made} {steps : List Step} → RunsTo rules p n made steps made' → AreApart (origins_in p made) → AreApart (origins_in p made')
apart_from rules p no_more apart = apart
apart_from rules p (none_left none) apart = apart
apart_from rules p (step_and {made = made} {made' = made'} {s = s} first rest) apart =
    apart_from rules p rest (step_apart rules p made made' s first apart)

one_alone : (p : Program) (y : Made) → AreApart (origins_in p (y ∷ []))
one_alone p y e zero zero h g = refl
one_alone p y e zero (suc j) h g = let no : None ≡ Some g.0 = g.1 in absurd cc
one_alone p y e (suc i) j h g = let no : None ≡ Some h.0 = h.1 in absurd cc

pub one_origin_each : (rules : List Rule) (p : Program) (n : ℕ) (steps : List Step) (made : List Made) (e : TermTree) (i j : ℕ) → Run rules p n steps made → HasOrigin (origins_in p made) e i → HasOrigin (origins_in p made) e j → i ≡ j
one_origin_each rules p n steps made e i j run =
    let opens = run.opens in
    let first = opened p (top_of p.top.«def».number opens.0) in
    let alone = subst (λ ms. AreApart (origins_in p ms)) (sym opens.2) (one_alone p first) in
    apart_from rules p run.runs alone e i j
