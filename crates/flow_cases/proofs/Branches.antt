-- Alternatives: which one takes a scrutinee, and moved ones.
use Rattle.std.proofs.Common.{◌≡◌, ◌∙◌, ◌<◌, ◌+◌, ℕ, zero, suc, sym, ap, refl, subst, arith, below_more, List, [], ◌∷◌, map, Some, slice_get}
use Rattle.chw_terms.specs.declared.term.Alt.{Alt}
use Rattle.chw_terms.specs.declared.term.Pattern.{Pattern}
use Rattle.chw_terms.specs.declared.term.Pattern.TheVariants.{OfCon, OfLit, Default}
use Rattle.chw_terms.specs.TermMoves.{rename, rename_alts}
use Rattle.chw_terms.specs.TermTree.{TermTree, case_of, Alts, no_alts, alt, binders}
use Rattle.chw_terms.specs.TermView.{alts_of}
use Rattle.chw_terms.proofs.ShiftLaws.{raised_is}
use Rattle.chw_typing.specs.Alternatives.{Hides, HasDefault}
use Rattle.chw_typing.specs.Groups.{each_body}
use Rattle.chw_typing.specs.Paths.{Branch}
use Rattle.rewriting.specs.Shapes.{IsTakenBy, by_first, by_later, shift_alts, IsDefaultOrNone}
use Rattle.flow_cases.specs.Moves.{alt_under, looked_at}
use Rattle.flow_cases.specs.Taken.{branch_of}

-- none of the first so many alternatives is for what the pattern is for
abbrev pub NoneBefore : Pattern → List Alt → ℕ → Type 0
NoneBefore p alts i = (k : ℕ) (a : Alt) → k < i → slice_get alts k ≡ Some a → Hides a.pattern p → ⊥

-- then it is taken by the next one, if that is for it
pub taken_at : (p : Pattern) (alts : List Alt) (i : ℕ) (a : Alt) → NoneBefore p alts i → slice_get alts i ≡ Some a → Hides a.pattern p → IsTakenBy p (alts_of alts) (branch_of a)
taken_at p [] i a none q h = absurd cc
taken_at p (it ∷ alts) zero a none q h =
    let here : it ≡ a = cc in
    subst (λ a. IsTakenBy p (alts_of (it ∷ alts)) (branch_of a)) here (by_first (subst (λ a. Hides a.pattern p) (sym here) h))
taken_at p (it ∷ alts) (suc i) a none q h =
    by_later (none 0 it (omega arith) refl) (taken_at p alts i a (λ k b l. none (suc k) b (omega (arith, l))) q h)

-- and it isn't taken, if none is
none_taken : (p : Pattern) (alts : List Alt) → ((k : ℕ) (a : Alt) → slice_get alts k ≡ Some a → Hides a.pattern p → ⊥) → {those : Alts} {b : Branch} → IsTakenBy p those b → those ≡ alts_of alts → ⊥
none_taken p [] none (by_first h) q = absurd cc
none_taken p [] none (by_later n d) q = absurd cc
none_taken p (it ∷ alts) none (by_first {q = pattern} h) q =
    let here : pattern ≡ it.pattern = cc in none 0 it refl (subst (λ q. Hides q p) here h)
none_taken p (it ∷ alts) none (by_later {more = more} n d) q =
    let rest : more ≡ alts_of alts = cc in none_taken p alts (λ k a. none (suc k) a) d rest

pub none_takes : (p : Pattern) (alts : List Alt) → ((k : ℕ) (a : Alt) → slice_get alts k ≡ Some a → Hides a.pattern p → ⊥) → (b : Branch) → IsTakenBy p (alts_of alts) b → ⊥
none_takes p alts none b d = none_taken p alts none d refl

-- the alternatives under more binders
pub all_under : (by : ℕ) (alts : List Alt) → alts_of (map (alt_under by) alts) ≡ shift_alts (alts_of alts) 0 by
unfolding rename rename_alts
all_under by [] = refl
all_under by (it ∷ alts) =
    λ i. alt it.pattern (rename it.body (raised_is (binders it.pattern) by i)) (all_under by alts i)

-- the alternatives, each looked at by a case
pub all_looked_at : (outer alts : List Alt) → alts_of (map (looked_at outer) alts) ≡ each_body (λ n f. case_of f (shift_alts (alts_of outer) 0 n)) (alts_of alts)
all_looked_at outer [] = refl
all_looked_at outer (it ∷ alts) =
    ap (λ more. alt it.pattern (case_of it.body (shift_alts (alts_of outer) 0 (binders it.pattern))) more) (all_looked_at outer alts)

pub none_more : (p : Pattern) (alts : List Alt) (i : ℕ) (a : Alt) → NoneBefore p alts i → slice_get alts i ≡ Some a → (Hides a.pattern p → ⊥) → NoneBefore p alts (i + 1)
none_more p alts i a none q other k b l =
    let P : ℕ → Type 0 = λ k. (b : Alt) → slice_get alts k ≡ Some b → Hides b.pattern p → ⊥ in
    let before : (k : ℕ) → k < i → P k = λ k l b r h. none k b l r h in
    let here : P i = λ b r h. let same : b ≡ a = cc in other (subst (λ b. Hides b.pattern p) same h) in
    below_more P i before here k l b

-- no alternatives, or a default alone
pub none_left : (alts : List Alt) → alts_of alts ≡ no_alts → alts ≡ []
none_left [] q = refl
none_left (it ∷ alts) q = absurd cc

pub record IsLone (only : Alt) (others : List Alt) (f : TermTree) : Type 0 where
  pub pattern : only.pattern ≡ Default
  pub body : only.body ≡ f
  pub rest : others ≡ []

pub lone_is : (alts : List Alt) (only : Alt) (others : List Alt) (f : TermTree) → alts ≡ only ∷ others → alts_of alts ≡ alt Default f no_alts → IsLone only others f
lone_is alts only others f q h =
    let whole : alt only.pattern only.body (alts_of others) ≡ alt Default f no_alts = sym (ap alts_of q) ∙ h in
    let left : alts_of others ≡ no_alts = cc in
    record { pattern = cc; body = cc; rest = none_left others left }

pub lone_made : (alts : List Alt) (only : Alt) (others : List Alt) → alts ≡ only ∷ others → others ≡ [] → only.pattern ≡ Default → alts_of alts ≡ alt Default only.body no_alts
lone_made alts only others q r p = ap alts_of q ∙ (λ i. alt (p i) only.body (alts_of (r i)))

alone_of : (q : Pattern) (e : TermTree) (more : List Alt) → IsDefaultOrNone (alt q e (alts_of more)) → (q ≡ Default) × (more ≡ [])
alone_of Default e [] h = (refl, refl)
alone_of Default e (it ∷ more) h = absurd h
alone_of (OfCon c n) e more h = absurd h
alone_of (OfLit s b) e more h = absurd h

pub none_or_lone : (alts : List Alt) → IsDefaultOrNone (alts_of alts) → ((f : TermTree) → alts_of alts ≡ alt Default f no_alts → ⊥) → alts ≡ []
none_or_lone [] h other = refl
none_or_lone (it ∷ alts) h other =
    let a = alone_of it.pattern it.body alts h in
    absurd (other it.body (λ i. alt (a.0 i) it.body (alts_of (a.1 i))))

pub lone_default : (alts : List Alt) (f : TermTree) → alts_of alts ≡ alt Default f no_alts → IsDefaultOrNone (alts_of alts)
lone_default alts f q = subst IsDefaultOrNone (sym q) tt

pub empty_default : (alts : List Alt) → alts ≡ [] → IsDefaultOrNone (alts_of alts)
empty_default alts q = subst (λ alts. IsDefaultOrNone (alts_of alts)) (sym q) tt

-- alternatives with a default, or none
default_there : (alts : Alts) → IsDefaultOrNone alts → (alts ≡ no_alts → ⊥) → HasDefault alts
default_there no_alts h other = absurd (other refl)
default_there (alt Default e more) h other = tt
default_there (alt (OfCon c n) e more) h other = absurd h
default_there (alt (OfLit s b) e more) h other = absurd h

pub has_default : (alts : List Alt) → IsDefaultOrNone (alts_of alts) → (alts ≡ [] → ⊥) → HasDefault (alts_of alts)
has_default alts h other = default_there (alts_of alts) h (λ q. other (none_left alts q))

pub no_lone : (alts : List Alt) (f : TermTree) → alts ≡ [] → alts_of alts ≡ alt Default f no_alts → ⊥
no_lone alts f q h = let no : no_alts ≡ alt Default f no_alts = sym (ap alts_of q) ∙ h in absurd cc
