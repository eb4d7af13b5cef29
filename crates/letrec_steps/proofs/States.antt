-- Steps of a state in which a made definition has a top.
use Rattle.std.proofs.Common.{◌≡◌, ◌⊎◌, inl, inr, ◌∙◌, ℕ, ◌<◌, ◌≤◌, sym, ap, subst, arith}
use Rattle.std.proofs.Common.{List, [], ◌∷◌, ◌++◌}
use Rattle.std.proofs.lemmas.Bool.{cases_lt}
use Rattle.std.proofs.lemmas.List.{append-nil}
use Rattle.std.proofs.lemmas.Option.{same_Some}
use Rattle.std.specs.List.{slice_get}
use Rattle.chw_terms.specs.TermTree.{TermTree, letrec}
use Rattle.chw_terms.specs.declared.program.Program.{Program}
use Rattle.chw_terms.specs.declared.rule.Rule.{Rule}
use Rattle.chw_terms.specs.declared.scene.Made.{Made}
use Rattle.chw_terms.specs.declared.scene.Sort.{Sort}
use Rattle.chw_terms.specs.declared.scene.Sort.TheVariants.{Value, Circuit}
use Rattle.chw_typing.specs.Paths.{IsEarlier}
use Rattle.rewriting.specs.Active.{IsPlaceOf}
use Rattle.rewriting.specs.Named.{mode_of}
use Rattle.rewriting.specs.Origins.{made_of}
use Rattle.rewriting.specs.Spots.{Spot, HasLets}
use Rattle.rewriting.specs.Steps.{origins_in, Where, HasStepBy, IsBefore, IsFirst}
use Rattle.letrec_steps.specs.Local.{IsStepBelow, IsFirstBelow}
use Rattle.letrec_steps.specs.StateLaws.{FirstInTopIsFirst, SideIsFirst, LetrecIsFirst}
use Rattle.letrec_steps.specs.StateLaws.{NoneInTop, QuietTopHasNone, NoneBeforeNext}
use Rattle.letrec_steps.specs.Tops.{IsTopIn, HasNoStepBefore}
use Rattle.letrec_steps.proofs.Below.{first_on_is_first, side_is_first_below}
use Rattle.letrec_steps.proofs.Below.{quiet_letrec_has_none}
use Rattle.letrec_steps.proofs.Paths.{earlier_behind, same_behind}
use Rattle.letrec_steps.proofs.Tops.{places_are_below_top, below_top_is_place}

-- a step in the made definition is a step at its top or below it
pub step_in_top : (rules : List Rule) (p : Program) (made : List Made) (m : ℕ) (it : Made)
    (q : List ℕ) (at : Spot) (top : TermTree)
    → IsTopIn made m it q at top
    → (v : Where) (other : TermTree) → HasStepBy rules p made v other → v.number ≡ m
    → (r : List ℕ) × (v.path ≡ q ++ r)
    × IsStepBelow rules (origins_in p made) at top r v.rule other
step_in_top rules p made m it q at top is v other s number =
    let one : s.1.it ≡ it = same_Some s.1.it it (sym s.1.is ∙ ap (slice_get made) number ∙ is.is) in
    let place =
    subst
    (λ (x : Made). IsPlaceOf (origins_in p made) (made_of x) x.body v.path s.1.at s.1.term)
    one s.1.place
    in
    let there =
    places_are_below_top (origins_in p made) (made_of it) it.body top s.1.term q v.path at s.1.at
    is.top place
    in (
      there.0,
      there.1,
      record {
        is_rule = s.0;
        to = s.1.at;
        term = s.1.term;
        active = there.2;
        made_new = s.1.made_new;
      },
    )

none_before : (rules : List Rule) (p : Program) (made : List Made) (m : ℕ) (it : Made)
    (q path : List ℕ) (at : Spot) (top new : TermTree) (r : Rule)
    → IsTopIn made m it q at top → HasNoStepBefore rules p made m
    → IsFirstBelow rules (origins_in p made) at top path r new
    → (v : Where) (other : TermTree) → HasStepBy rules p made v other
    → IsBefore v (record { number = m; path = q ++ path; rule = r }) → ⊥
none_before rules p made m it q path at top new r is none here v other s (inl l) =
    none v other s l
none_before rules p made m it q path at top new r is none here v other s (inr (n, inl l)) =
    let x = step_in_top rules p made m it q at top is v other s n in
    here.first x.0 v.rule other x.2
    (inl (earlier_behind q x.0 path (subst (λ w. IsEarlier w (q ++ path)) x.1 l)))
none_before rules p made m it q path at top new r is none here v other s (inr (n, inr same)) =
    let x = step_in_top rules p made m it q at top is v other s n in
    here.first x.0 v.rule other x.2
    (inr (same_behind q x.0 path (sym x.1 ∙ same.0), same.1))

pub first_in_top_is_first : FirstInTopIsFirst
first_in_top_is_first rules p made m it q path at top new r is none here =
    record {
      step = (
        here.step.is_rule,
        record {
          it = it;
          is = is.is;
          at = here.step.to;
          term = here.step.term;
          place =
              below_top_is_place (origins_in p made) (made_of it) it.body top here.step.term q
              path at here.step.to is.top here.step.active;
          made_new = here.step.made_new;
        },
      );
      first = none_before rules p made m it q path at top new r is none here;
    }

-- a made definition is of values or of a circuit
sort_has_lets : (s : Sort) → HasLets (mode_of s)
sort_has_lets Value = tt
sort_has_lets Circuit = tt

top_has_lets : (made : List Made) (m : ℕ) (it : Made) (q : List ℕ) (at : Spot) (top : TermTree)
    → IsTopIn made m it q at top → HasLets at.mode
top_has_lets made m it q at top is =
    subst HasLets (sym (ap (λ (s : Spot). s.mode) is.top.stands)) (sort_has_lets it.sort)

pub side_is_first : SideIsFirst
side_is_first rules p made m it q at g e new k b r is none typed idle quiet bound named here =
    first_in_top_is_first rules p made m it q (k ∷ []) at (letrec g e) new r is none
    (side_is_first_below rules (origins_in p made) at g e new k b r
    (top_has_lets made m it q at (letrec g e) is) typed idle quiet bound named here)

pub letrec_is_first : LetrecIsFirst
letrec_is_first rules p made m it q at top new r is none here =
    subst (λ w. IsFirst rules p made (record { number = m; path = w; rule = r }) new)
    (append-nil q)
    (first_in_top_is_first rules p made m it q [] at top new r is none
    (first_on_is_first rules (origins_in p made) at top new r here))

pub none_in_top : NoneInTop
none_in_top rules p made m it q at top is none v other s number =
    let x = step_in_top rules p made m it q at top is v other s number in
    none x.0 v.rule other x.2

pub quiet_top_has_none : QuietTopHasNone
quiet_top_has_none rules p made m it q at g e is typed idle quiet body =
    none_in_top rules p made m it q at (letrec g e) is
    (quiet_letrec_has_none rules (origins_in p made) at g e
    (top_has_lets made m it q at (letrec g e) is) typed idle quiet body)

pub none_before_next : NoneBeforeNext
none_before_next rules p made m before here v other s l = of (cases_lt v.number m)
  where
    of : (v.number < m) ⊎ (m ≤ v.number) → ⊥
    of (inl k) = before v other s k
    of (inr k) = here v other s (omega (arith, k, l))
