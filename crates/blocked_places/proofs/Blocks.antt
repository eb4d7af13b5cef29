-- What blocks a term, told by its parts: a cycle, a payload or a limit.
use Rattle.std.proofs.Common.{◌≡◌, ◌⊎◌, inl, inr, ◌≤◌, ◌<◌, sym, refl, subst, ℕ, zero, suc, arith}
use Rattle.std.proofs.Common.{List, [], ◌∷◌, Some, None}
use Rattle.std.specs.List.{AllByRecursion}
use Rattle.chw_types.specs.declared.declarations.Data.{Data}
use Rattle.chw_types.specs.TypeTree.{TypeTree}
use Rattle.chw_terms.specs.declared.scene.Mode.{Mode}
use Rattle.chw_terms.specs.declared.scene.Mode.TheVariants.{V, C, HV, HC, K}
use Rattle.chw_terms.specs.TermTree.{TermTree, letrec, Group, no_bindings, bind, size_of}
use Rattle.chw_layout.specs.declared.outcome.NoLayout.{NoLayout}
use Rattle.chw_typing.specs.Groups.{binding_at}
use Rattle.rewriting.specs.Named.{IsNamed}
use Rattle.rewriting.specs.Origins.{Origins}
use Rattle.rewriting.specs.Spots.{Spot}
use Rattle.normal_forms.specs.Blocked.{Block, recursion, payload, limit, rank_of, LeadsThrough}
use Rattle.normal_forms.specs.Blocked.{IsUnnamedBinding, BlocksAt, by_recursion, by_payload}
use Rattle.normal_forms.specs.Blocked.{by_limit}
use Rattle.normal_forms.specs.Values.{BindingRefers}
use Rattle.blocked_places.specs.Answers.{IsFree, BlocksFirst}
use Rattle.blocked_places.specs.Cycles.{Counts, CountsAt, IsCycleOf, HasCycle, FindsCycle}
use Rattle.blocked_places.specs.Cycles.{AreDistinct}
use Rattle.blocked_places.specs.Payloads.{IsPayload, FindsPayload}
use Rattle.blocked_places.specs.Limits.{IsLimit, FindsLimit}

has_binding : (g : Group) (i : ℕ) → i < size_of g → (b : TypeTree × TermTree) × (binding_at g i ≡ Some b)
has_binding no_bindings i l = absurd (omega (arith, l))
has_binding (bind t e g) zero l = ((t, e), refl)
has_binding (bind t e g) (suc i) l = has_binding g i (omega (arith, l))

-- what each part says
abbrev pub Part : Origins → Spot → TermTree → Block → Type 0
Part o at e (recursion cycle) = HasCycle o.program.datas at.mode e cycle
Part o at e (payload t) = IsPayload o.program.datas e t
Part o at e (limit l) = IsLimit o at e l

-- any binding counts where all do
all_count : (datas : List Data) (mode : Mode) (g : Group) → (mode ≡ V) ⊎ (mode ≡ K)
    → (a : ℕ) (more : List ℕ) (c : ℕ) → LeadsThrough (BindingRefers g) a more c
    → AllByRecursion (CountsAt datas mode g) (c ∷ more)
all_count datas mode g all a [] c l =
    let b = has_binding g c l.2 in ((b.0, b.1, inl all), tt)
all_count datas mode g all a (i ∷ more) c l =
    let rest = all_count datas mode g all i more c l.1 in
    let b = has_binding g i l.0.2 in (rest.0, ((b.0, b.1, inl all), rest.1))

all_unnamed : (o : Origins) (at : Spot) (g : Group) (is : List ℕ)
    → AllByRecursion (IsUnnamedBinding o at g) is
    → AllByRecursion (CountsAt o.program.datas at.mode g) is
all_unnamed o at g [] h = tt
all_unnamed o at g (i ∷ is) h = ((h.0.0, h.0.1, inr h.0.2), all_unnamed o at g is h.1)

of_ways : (o : Origins) (at : Spot) (g : Group) (i : ℕ) (more : List ℕ)
    → LeadsThrough (BindingRefers g) i more i
    → ((at.mode ≡ V) ⊎ (at.mode ≡ K)) ⊎ AllByRecursion (IsUnnamedBinding o at g) (i ∷ more)
    → AllByRecursion (CountsAt o.program.datas at.mode g) (i ∷ more)
of_ways o at g i more l (inl all) = all_count o.program.datas at.mode g all i more i l
of_ways o at g i more l (inr none) = all_unnamed o at g (i ∷ more) none

-- where not all count, those that do aren't named
of_counts : (o : Origins) (at : Spot) (g : Group) (is : List ℕ) → (at.mode ≡ V → ⊥)
    → (at.mode ≡ K → ⊥)
    → AllByRecursion (CountsAt o.program.datas at.mode g) is
    → AllByRecursion (IsUnnamedBinding o at g) is
of_counts o at g [] no_value no_constant h = tt
of_counts o at g (i ∷ is) no_value no_constant h =
    ((h.0.0, h.0.1, by h.0.2), of_counts o at g is no_value no_constant h.1)
  where
    by : Counts o.program.datas at.mode h.0.0.0 → IsNamed o.program.datas at.mode h.0.0.0 → ⊥
    by (inl (inl v)) = absurd (no_value v)
    by (inl (inr k)) = absurd (no_constant k)
    by (inr none) = none

ways : (o : Origins) (at : Spot) (g : Group) (is : List ℕ)
    → AllByRecursion (CountsAt o.program.datas at.mode g) is
    → ((at.mode ≡ V) ⊎ (at.mode ≡ K)) ⊎ AllByRecursion (IsUnnamedBinding o at g) is
ways o at g is h = by at.mode refl
  where
    by : (m : Mode) → at.mode ≡ m
        → ((at.mode ≡ V) ⊎ (at.mode ≡ K)) ⊎ AllByRecursion (IsUnnamedBinding o at g) is
    by V e = inl (inl e)
    by K e = inl (inr e)
    by C e = inr (of_counts o at g is (λ v. cc) (λ k. cc) h)
    by HV e = inr (of_counts o at g is (λ v. cc) (λ k. cc) h)
    by HC e = inr (of_counts o at g is (λ v. cc) (λ k. cc) h)

pub part_of : {o : Origins} {at : Spot} {e : TermTree} {b : Block} → BlocksAt o at e b → Part o at e b
part_of {o} {at} (by_recursion {g = g} {e = e} i more l w) =
    record {
      group = g;
      body = e;
      is = refl;
      round = record { leads = l; counted = of_ways o at g i more l w };
    }
part_of (by_payload p args j h s r) =
    record { which = p; args = args; number = j; is = refl; has = h; type = s; refused = r }
part_of (by_limit {i = i} p f) = record { turn = i; passes = p; first = f }

cycle_blocks : (o : Origins) (at : Spot) (g : Group) (x : TermTree) (cycle : List ℕ)
    → IsCycleOf o.program.datas at.mode g cycle → BlocksAt o at (letrec g x) (recursion cycle)
cycle_blocks o at g x [] h = absurd h.leads
cycle_blocks o at g x (i ∷ more) h =
    by_recursion i more h.leads (ways o at g (i ∷ more) h.counted)

pub of_part : (o : Origins) (at : Spot) (e : TermTree) (b : Block) → Part o at e b → BlocksAt o at e b
of_part o at e (recursion cycle) h =
    subst (λ x. BlocksAt o at x (recursion cycle)) (sym h.is) (cycle_blocks o at h.group h.body cycle h.round)
of_part o at e (payload t) h =
    subst (λ x. BlocksAt o at x (payload t)) (sym h.is) (by_payload h.which h.args h.number h.has h.type h.refused)
of_part o at e (limit l) h = by_limit h.passes h.first

abbrev pub NoCycle : Origins → Spot → TermTree → Type 0
NoCycle o at e = (cycle : List ℕ) → HasCycle o.program.datas at.mode e cycle → ⊥

abbrev pub NoPayload : Origins → Spot → TermTree → Type 0
NoPayload o at e = (t : TypeTree) → IsPayload o.program.datas e t → ⊥

pub cycle_first : (o : Origins) (at : Spot) (e : TermTree) (cycle : List ℕ)
    → HasCycle o.program.datas at.mode e cycle → AreDistinct cycle
    → BlocksFirst o at e (recursion cycle)
cycle_first o at e cycle h once =
    record { blocks = of_part o at e (recursion cycle) h; first = λ b k. omega arith; distinct = once }

pub payload_first : (o : Origins) (at : Spot) (e : TermTree) (t : TypeTree) → NoCycle o at e
    → IsPayload o.program.datas e t → BlocksFirst o at e (payload t)
payload_first o at e t none h =
    record { blocks = of_part o at e (payload t) h; first = λ b k. by b (part_of k); distinct = tt }
  where
    by : (b : Block) → Part o at e b → 1 ≤ rank_of b
    by (recursion c) k = absurd (none c k)
    by (payload u) k = omega arith
    by (limit l) k = omega arith

pub limit_first : (o : Origins) (at : Spot) (e : TermTree) (l : NoLayout) → NoCycle o at e
    → NoPayload o at e → IsLimit o at e l → BlocksFirst o at e (limit l)
limit_first o at e l none never h =
    record { blocks = of_part o at e (limit l) h; first = λ b k. by b (part_of k); distinct = tt }
  where
    by : (b : Block) → Part o at e b → 2 ≤ rank_of b
    by (recursion c) k = absurd (none c k)
    by (payload u) k = absurd (never u k)
    by (limit m) k = omega arith

pub nothing_blocks : (o : Origins) (at : Spot) (e : TermTree) → NoCycle o at e → NoPayload o at e
    → ((l : NoLayout) → IsLimit o at e l → ⊥) → IsFree o at e
nothing_blocks o at e none free never b k = by b (part_of k)
  where
    by : (b : Block) → Part o at e b → ⊥
    by (recursion c) k = none c k
    by (payload u) k = free u k
    by (limit m) k = never m k

-- what answers say
pub no_cycle : (o : Origins) (at : Spot) (e : TermTree) (datas : List Data) → datas ≡ o.program.datas
    → FindsCycle datas at.mode e None → NoCycle o at e
no_cycle o at e datas same h = subst (λ ds. FindsCycle ds at.mode e None) same h

pub no_payload : (o : Origins) (at : Spot) (e : TermTree) (datas : List Data)
    → datas ≡ o.program.datas → FindsPayload datas e None → NoPayload o at e
no_payload o at e datas same h = subst (λ ds. FindsPayload ds e None) same h

pub no_limit : (o : Origins) (at : Spot) (e : TermTree) → FindsLimit o at e None
    → (l : NoLayout) → IsLimit o at e l → ⊥
no_limit o at e none l h = none h.turn l h.passes
