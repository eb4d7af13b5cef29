-- States in which a made definition has another top.
use Rattle.std.proofs.Common.{◌≡◌, ◌≢◌, ◌∙◌, ℕ, zero, suc, refl, sym, ap, subst, arith}
use Rattle.std.proofs.Common.{List, [], ◌∷◌, ◌++◌, map, set, Some}
use Rattle.std.proofs.lemmas.Option.{same_Some}
use Rattle.std.specs.List.{slice_get}
use Rattle.chw_terms.specs.TermTree.{TermTree}
use Rattle.chw_terms.specs.declared.program.Program.{Program}
use Rattle.chw_terms.specs.declared.rule.Rule.{Rule}
use Rattle.chw_terms.specs.declared.scene.Made.{Made}
use Rattle.chw_typing.proofs.PathParts.{with_part_twice, with_same_part}
use Rattle.chw_typing.specs.Paths.{with_part}
use Rattle.rewriting.specs.Active.{IsPlaceOf}
use Rattle.rewriting.specs.Instances.{HasInstance}
use Rattle.rewriting.specs.Origins.{made_of}
use Rattle.rewriting.specs.Runs.{no_call}
use Rattle.rewriting.specs.Spots.{Spot}
use Rattle.rewriting.specs.Steps.{Where, HasStepBy, IsFirst}
use Rattle.step_order.proofs.Others.{get_other, get_written}
use Rattle.letrec_steps.specs.Local.{IsFirstBelow}
use Rattle.letrec_steps.specs.StateLaws.{PutKeepsOrigins, PutKeepsNoneBefore}
use Rattle.letrec_steps.specs.StateLaws.{TopIsPutIn, TopPutBack, StepInTopLeads}
use Rattle.letrec_steps.specs.Tops.{IsTopIn, put_at, put_in}
use Rattle.letrec_steps.proofs.States.{first_in_top_is_first}
use Rattle.letrec_steps.proofs.Tops.{under_is_part, top_is_put, below_top_is_put}

-- an item that is written twice, and one that is written where it is
set_twice : {X : Type 0} (xs : List X) (n : ℕ) (x y : X) → set (set xs n x) n y ≡ set xs n y
set_twice [] n x y = refl
set_twice (z ∷ zs) zero x y = refl
set_twice (z ∷ zs) (suc n) x y = ap (λ ys. z ∷ ys) (set_twice zs n x y)

set_same : {X : Type 0} (xs : List X) (n : ℕ) (x : X) → slice_get xs n ≡ Some x → set xs n x ≡ xs
set_same [] n x h = refl
set_same (z ∷ zs) zero x h = let is : x ≡ z = cc in ap (λ y. y ∷ zs) is
set_same (z ∷ zs) (suc n) x h = ap (λ ys. z ∷ ys) (set_same zs n x h)

same_made : (xs : List Made) (n : ℕ) (it y : Made)
    → slice_get xs n ≡ Some it → made_of y ≡ made_of it
    → map made_of (set xs n y) ≡ map made_of xs
same_made [] n it y is e = refl
same_made (x ∷ xs) zero it y is e =
    let same : it ≡ x = cc in ap (λ m. m ∷ map made_of xs) (e ∙ ap made_of same)
same_made (x ∷ xs) (suc n) it y is e = ap (λ ms. made_of x ∷ ms) (same_made xs n it y is e)

pub put_keeps_origins : PutKeepsOrigins
put_keeps_origins p made m it path new is =
    ap (λ ms. record { program = p; made = ms })
    (same_made made m it (put_at it path new) is refl)

-- a step elsewhere was there before
step_elsewhere : (rules : List Rule) (p : Program) (made : List Made) (m : ℕ) (it : Made)
    (path : List ℕ) (new : TermTree) (v : Where) (other : TermTree)
    → slice_get made m ≡ Some it → v.number ≢ m
    → HasStepBy rules p (put_in made m it path new) v other → HasStepBy rules p made v other
step_elsewhere rules p made m it path new v other is n s =
    let same = put_keeps_origins p made m it path new is in (
      s.0,
      record {
        it = s.1.it;
        is = sym (get_other made m v.number (put_at it path new) n) ∙ s.1.is;
        at = s.1.at;
        term = s.1.term;
        place =
            subst (λ o. IsPlaceOf o (made_of s.1.it) s.1.it.body v.path s.1.at s.1.term) same
            s.1.place;
        made_new = subst (λ o. HasInstance o s.1.at v.rule s.1.term other) same s.1.made_new;
      },
    )

pub put_keeps_none_before : PutKeepsNoneBefore
put_keeps_none_before rules p made m it path new is none v other s l =
    none v other
    (step_elsewhere rules p made m it path new v other is (λ k. omega (arith, k, l)) s) l

pub top_is_put_in : TopIsPutIn
top_is_put_in made m it q at x y is =
    record {
      is = get_written made m it (put_at it q y) is.is;
      top = top_is_put (made_of it) it.body x y q at is.top;
    }

pub top_put_back : TopPutBack
top_put_back made m it q at x is =
    let body = with_same_part q it.body x (under_is_part is.top.under) in
    ap (λ b. set made m (record it { body = b })) body ∙ set_same made m it is.is

-- a term that is put below the top of a state with another top
put_below : (made : List Made) (m : ℕ) (it : Made) (q path : List ℕ) (at : Spot)
    (top x new : TermTree)
    → IsTopIn made m it q at top
    → put_in (put_in made m it q x) m (put_at it q x) (q ++ path) new
    ≡ put_in made m it q (with_part x path new)
put_below made m it q path at top x new is =
    let there = top_is_put (made_of it) it.body top x q at is.top in
    let body : with_part (with_part it.body q x) (q ++ path) new
    ≡ with_part it.body q (with_part x path new) =
    below_top_is_put (made_of it) (with_part it.body q x) x new q path at there
    ∙ with_part_twice q it.body x (with_part x path new)
    in
    set_twice made m (put_at it q x) (put_at (put_at it q x) (q ++ path) new)
    ∙ ap (λ b. set made m (record it { body = b })) body

-- a first step leads to the state with the new term where it is made
first_leads : (rules : List Rule) (p : Program) (made : List Made) (w : Where) (it : Made)
    (new : TermTree)
    → slice_get made w.number ≡ Some it
    → (f : IsFirst rules p made w new)
    → put_in made w.number it w.path new ≡ put_in made w.number f.step.1.it w.path new
first_leads rules p made w it new is f =
    ap (λ x. put_in made w.number x w.path new) (same_Some it f.step.1.it (sym is ∙ f.step.1.is))

pub step_in_top_leads : StepInTopLeads
step_in_top_leads rules p made m it q path at top x new r is none here other =
    let state = put_in made m it q x in
    let there = top_is_put_in made m it q at top x is in
    let w : Where = record { number = m; path = q ++ path; rule = r } in
    let f : IsFirst rules p state w new =
    first_in_top_is_first rules p state m (put_at it q x) q path at x new r there
    (put_keeps_none_before rules p made m it q x is.is none)
    (subst (λ o. IsFirstBelow rules o at x path r new)
    (sym (put_keeps_origins p made m it q x is.is)) here)
    in record {
      is_first = f;
      with_new = state;
      after = no_call other;
      is =
          sym (put_below made m it q path at top x new is)
          ∙ first_leads rules p state w (put_at it q x) new there.is f;
    }
