-- From which pass on the bindings of a block keep their wires: from its stage on, which is above the
-- stages of those bindings to which its right side refers, and of those in it.
use Rattle.std.proofs.Common.{◌≡◌, ℕ, suc, ◌+◌, ◌<◌, ◌≤◌, true, false, arith, List, [], ◌∷◌, ◌++◌, refl}
use Rattle.std.specs.Prelude.{nat_lt}
use Rattle.std.proofs.lemmas.Bool.{lt-ltb, ltb-true, false_from_ne_true}
use Rattle.chw_terms.specs.TermTree.{TermTree, var, global, made, lam, app, ty_lam, ty_app, letrec, con, prim, lit, vec_lit, case_of, Group, no_bindings, bind, Alts, no_alts, alt, size_of}
use Rattle.chw_typing.proofs.Reaching.{place_of, place_earlier}
use Rattle.graph_order.specs.References.{HasNoCycle}
use Rattle.net_built.specs.Bodies.{ValueCells}
use Rattle.net_built.specs.Circuits.{Ground}
use Rattle.net_built.specs.Loops.{side_at, refers, HasNoLoops, HaveNoLoops, HasNoLoopsIn}
use Rattle.net_built.specs.Terms.{head_of, types_of, operands_of, Variable}
use Rattle.net_built.specs.Wires.{Piece}
use Rattle.net_ready.specs.Drafts.{bindings_in, bindings_in_group, bindings_in_alts}
use Rattle.net_ready.proofs.Weights.{weigh, weigh_exceeds}

-- a binding, and those in its right side
abbrev weight_of : Group → ℕ → ℕ
weight_of g y = suc (bindings_in (side_at g y))

module _ (g : Group) (none : HasNoCycle (λ i j. refers g i j ≡ true)) where
  place : ℕ → ℕ
  place i = place_of (refers g) (λ i j. refers g i j ≡ true) (λ i j h. h) none (size_of g) i

  -- the weight of those at earlier places
  pub base_of : ℕ → ℕ
  base_of i = weigh (size_of g) (λ y. nat_lt (place y) (place i)) (weight_of g)

  not_before : (i : ℕ) → nat_lt (place i) (place i) ≡ false
  not_before i = false_from_ne_true (nat_lt (place i) (place i)) (λ h. let l : place i < place i = ltb-true (place i) (place i) h in absurd (omega (arith, l)))

  pub base_rises : (i k : ℕ) → k < size_of g → refers g i k ≡ true → base_of k + suc (bindings_in (side_at g k)) ≤ base_of i
  unfolding place base_of
  base_rises i k l h =
      let falls : place k < place i = place_earlier (refers g) (λ i j. refers g i j ≡ true) (λ i j h. h) none (size_of g) i k l h in
      weigh_exceeds (size_of g) (λ y. nat_lt (place y) (place k)) (λ y. nat_lt (place y) (place i)) (weight_of g) k l (not_before k) (lt-ltb (place k) (place i) falls)
      (λ y b. let lower : place y < place k = ltb-true (place y) (place k) b in lt-ltb (place y) (place i) (omega (arith, falls, lower)))

  pub base_within : (i : ℕ) → i < size_of g → base_of i + suc (bindings_in (side_at g i)) ≤ weigh (size_of g) (λ y. true) (weight_of g)
  unfolding base_of
  base_within i l = weigh_exceeds (size_of g) (λ y. nat_lt (place y) (place i)) (λ y. true) (weight_of g) i l (not_before i) refl (λ y b. refl)

whole_weight : (g : Group) → weigh (size_of g) (λ y. true) (weight_of g) ≡ bindings_in_group g
whole_weight no_bindings = refl
whole_weight (bind t e g) =
    let rest : weigh (size_of g) (λ y. true) (weight_of g) ≡ bindings_in_group g = whole_weight g in
    omega (arith, rest)

pub base_ends : (g : Group) (none : HasNoCycle (λ i j. refers g i j ≡ true)) (i : ℕ) → i < size_of g → base_of g none i + suc (bindings_in (side_at g i)) ≤ bindings_in_group g
base_ends g none i l =
    let within : base_of g none i + suc (bindings_in (side_at g i)) ≤ weigh (size_of g) (λ y. true) (weight_of g) = base_within g none i l in
    let whole : weigh (size_of g) (λ y. true) (weight_of g) ≡ bindings_in_group g = whole_weight g in
    omega (arith, within, whole)

-- of each letrec, in the order of the text, how many bindings it has and the stage of each
abbrev pub Stages : Type 0
Stages = List (ℕ × (ℕ → ℕ))

abbrev mutual
  -- of a block in a scope that is settled from this pass on
  pub stages : (b : ℕ) (e : TermTree) → HasNoLoops e → Stages
  stages b (letrec g e) free =
      (size_of g, λ i. b + base_of g free.0 i + bindings_in (side_at g i)) ∷ group_stages (λ i. b + base_of g free.0 i) g free.1
  stages b (case_of e alts) free = alts_stages b alts free
  stages b _ free = []

  -- of right sides for each of which the scope is settled from such a pass on
  pub group_stages : (base : ℕ → ℕ) (g : Group) → HaveNoLoops g → Stages
  group_stages base no_bindings free = []
  group_stages base (bind t e g) free = stages (base 0) e free.0 ++ group_stages (λ i. base (suc i)) g free.1

  pub alts_stages : (b : ℕ) (alts : Alts) → HasNoLoopsIn alts → Stages
  alts_stages b no_alts free = []
  alts_stages b (alt q e more) free = stages b e free.0 ++ alts_stages b more free.1

-- a right side that is no case has no letrecs
pub plain_stages : {ground : Ground} {s : List Variable} {n w : ℕ} {p : Piece} (e : TermTree) (free : HasNoLoops e) (b : ℕ) → ValueCells ground s n w (head_of e) (types_of e) (operands_of e) p → [] ≡ stages b e free
plain_stages (var x) free b cells = refl
plain_stages (global d) free b cells = refl
plain_stages (made m) free b cells = refl
plain_stages (lam t e) free b cells = refl
plain_stages (app f a) free b cells = refl
plain_stages (ty_lam k e) free b cells = refl
plain_stages (ty_app f t) free b cells = refl
plain_stages (letrec g e) free b cells = elim cells [ ]
plain_stages (con c) free b cells = refl
plain_stages (prim p) free b cells = refl
plain_stages (lit x bits) free b cells = refl
plain_stages (vec_lit t es) free b cells = refl
plain_stages (case_of e alts) free b cells = elim cells [ ]

-- the stages are below this
abbrev pub AllBelow : ℕ → Stages → Type 0
AllBelow m [] = Unit {0}
AllBelow m (s ∷ ss) = ((i : ℕ) → i < s.0 → s.1 i < m) × AllBelow m ss

below_append : (m : ℕ) (ss ts : Stages) → AllBelow m ss → AllBelow m ts → AllBelow m (ss ++ ts)
below_append m [] ts h k = k
below_append m (s ∷ ss) ts h k = (h.0, below_append m ss ts h.1 k)

mutual
  -- the stages are below the number of bindings
  pub stages_below : (b : ℕ) (e : TermTree) (free : HasNoLoops e) (m : ℕ) → b + bindings_in e ≤ m → AllBelow m (stages b e free)
  stages_below b (letrec g e) free m h = (
    λ i l.
        let ends : base_of g free.0 i + suc (bindings_in (side_at g i)) ≤ bindings_in_group g = base_ends g free.0 i l in
        omega (arith, h, ends),
    group_below (λ i. b + base_of g free.0 i) g free.1 m (λ i l.
        let ends : base_of g free.0 i + suc (bindings_in (side_at g i)) ≤ bindings_in_group g = base_ends g free.0 i l in
        omega (arith, h, ends)),
  )
  stages_below b (case_of e alts) free m h = alts_below b alts free m h
  stages_below b (var x) free m h = tt
  stages_below b (global d) free m h = tt
  stages_below b (made k) free m h = tt
  stages_below b (lam t e) free m h = tt
  stages_below b (app f a) free m h = tt
  stages_below b (ty_lam k e) free m h = tt
  stages_below b (ty_app f t) free m h = tt
  stages_below b (con c) free m h = tt
  stages_below b (prim p) free m h = tt
  stages_below b (lit x bits) free m h = tt
  stages_below b (vec_lit t es) free m h = tt

  group_below : (base : ℕ → ℕ) (g : Group) (free : HaveNoLoops g) (m : ℕ) → ((i : ℕ) → i < size_of g → base i + bindings_in (side_at g i) ≤ m) → AllBelow m (group_stages base g free)
  group_below base no_bindings free m h = tt
  group_below base (bind t e g) free m h =
      below_append m (stages (base 0) e free.0) (group_stages (λ i. base (suc i)) g free.1) (stages_below (base 0) e free.0 m (h 0 (omega arith)))
      (group_below (λ i. base (suc i)) g free.1 m (λ i l. h (suc i) (omega (arith, l))))

  alts_below : (b : ℕ) (alts : Alts) (free : HasNoLoopsIn alts) (m : ℕ) → b + bindings_in_alts alts ≤ m → AllBelow m (alts_stages b alts free)
  alts_below b no_alts free m h = tt
  alts_below b (alt q e more) free m h =
      below_append m (stages b e free.0) (alts_stages b more free.1) (stages_below b e free.0 m (omega (arith, h))) (alts_below b more free.1 m (omega (arith, h)))
