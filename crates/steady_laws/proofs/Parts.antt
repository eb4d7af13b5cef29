-- What is made of steady terms, thunks and values is steady.
use Rattle.std.specs.Prelude.{Bool, true, false, if◌then◌else◌, Option}
use Rattle.std.proofs.Common.{◌≡◌, ℕ, suc, zero, List, [], ◌∷◌, Some, subst}
use Rattle.chw_types.specs.declared.declarations.Data.{Data}
use Rattle.chw_types.specs.TypeTree.{TypeTrees}
use Rattle.chw_terms.specs.declared.program.Program.{Program}
use Rattle.chw_terms.specs.declared.term.Pattern.{Pattern}
use Rattle.chw_terms.specs.declared.term.Pattern.TheVariants.{OfCon, OfLit, Default}
use Rattle.chw_terms.specs.TermTree.{TermTree, Terms, no_terms, term_and, Group, no_bindings, bind, Alts, no_alts, alt}
use Rattle.chw_terms.specs.Constructors.{con_at}
use Rattle.chw_layout.specs.Datum.{Datum, word, built, elements, Datums, no_data, datum_and}
use Rattle.chw_meaning.specs.Values.{Value, con_of, vec_of, Thunk, Thunks, none, thunk_at, joined, members, in_group, body_at, fields_from, closed_all, knowns, knowns_back, value_of}
use Rattle.chw_meaning.specs.Eval.{Choice, goes_on, takes, looks, is_only, by_fields, choice, Arm, matches, bound, arm_of}
use Rattle.steady_laws.specs.Steady.{IsSteady, AllAreSteady, GroupIsSteady, AltsAreSteady, SteadyValue, steady_bits, steady_con, steady_vec, steady_closure, steady_ty_closure, steady_partial, SteadyThunk, steady_closed, steady_member, steady_field, steady_known, SteadyThunks, steady_none, steady_and}

pub thunk_steady : {p : Program} {ths : Thunks} {th : Thunk} (i : ℕ) → SteadyThunks p ths → thunk_at ths i ≡ Some th → SteadyThunk p th
thunk_steady i steady_none e = cc
thunk_steady {p} {th = th} zero (steady_and {th = x} s more) e = let same : x ≡ th = cc in subst (SteadyThunk p) same s
thunk_steady (suc i) (steady_and s more) e = thunk_steady i more e

pub joined_steady : {p : Program} {ths γ : Thunks} → SteadyThunks p ths → SteadyThunks p γ → SteadyThunks p (joined ths γ)
joined_steady steady_none γ = γ
joined_steady (steady_and s more) γ = steady_and s (joined_steady more γ)

members_steady : (p : Program) (all g : Group) (i : ℕ) (γ : Thunks) (δ : TypeTrees) (before : Thunks) → GroupIsSteady p all → SteadyThunks p γ → SteadyThunks p before → SteadyThunks p (members all g i γ δ before)
members_steady p all no_bindings i γ δ before s r b = b
members_steady p all (bind t e g) i γ δ before s r b = members_steady p all g (suc i) γ δ _ s r (steady_and (steady_member s r) b)

pub group_steady : (p : Program) (g : Group) (γ : Thunks) (δ : TypeTrees) → GroupIsSteady p g → SteadyThunks p γ → SteadyThunks p (in_group g γ δ)
group_steady p g γ δ s r = members_steady p g g zero γ δ γ s r r

pub body_steady : (p : Program) (g : Group) (i : ℕ) (e : TermTree) → GroupIsSteady p g → body_at g i ≡ Some e → IsSteady p e
body_steady p no_bindings i e s f = cc
body_steady p (bind t b g) zero e s f = let same : b ≡ e = cc in subst (IsSteady p) same s.0
body_steady p (bind t b g) (suc i) e s f = body_steady p g i e s.1 f

pub fields_steady : {p : Program} {th : Thunk} {γ : Thunks} (i k : ℕ) → SteadyThunk p th → SteadyThunks p γ → SteadyThunks p (fields_from i k th γ)
fields_steady i zero s r = r
fields_steady i (suc k) s r = steady_and (steady_field s) (fields_steady (suc i) k s r)

pub closed_steady : (p : Program) (es : Terms) (γ : Thunks) (δ : TypeTrees) → AllAreSteady p es → SteadyThunks p γ → SteadyThunks p (closed_all es γ δ)
closed_steady p no_terms γ δ s r = steady_none
closed_steady p (term_and e es) γ δ s r = steady_and (steady_closed s.0 r) (closed_steady p es γ δ s.1 r)

-- data values
knowns_steady : (p : Program) (ds : Datums) → SteadyThunks p (knowns ds)
knowns_steady p no_data = steady_none
knowns_steady p (datum_and d ds) = steady_and steady_known (knowns_steady p ds)

knowns_back_steady : (p : Program) (ds : Datums) (before : Thunks) → SteadyThunks p before → SteadyThunks p (knowns_back ds before)
knowns_back_steady p no_data before s = s
knowns_back_steady p (datum_and d ds) before s = knowns_back_steady p ds _ (steady_and steady_known s)

pub data_steady : (p : Program) (d : Datum) → SteadyValue p (value_of d)
data_steady p (word b) = steady_bits
data_steady p (built c ds) = steady_con (knowns_back_steady p ds none steady_none)
data_steady p (elements ds) = steady_vec (knowns_steady p ds)

-- the parts of a steady value
pub fields_of_steady : {p : Program} {c : ℕ} {ths : Thunks} → SteadyValue p (con_of c ths) → SteadyThunks p ths
fields_of_steady (steady_con s) = s

pub elements_of_steady : {p : Program} {ths : Thunks} → SteadyValue p (vec_of ths) → SteadyThunks p ths
elements_of_steady (steady_vec s) = s

-- what a case goes on with
abbrev pub SteadyChoice : Program → Choice → Type 0
SteadyChoice p (goes_on e) = IsSteady p e
SteadyChoice p (takes n e) = IsSteady p e
SteadyChoice p looks = Unit {0}

by_fields_steady : (p : Program) (b : Bool) (n : ℕ) (e : TermTree) → IsSteady p e → SteadyChoice p (by_fields b n e)
by_fields_steady p true n e s = s
by_fields_steady p false n e s = tt

pub choice_steady : (p : Program) (datas : List Data) (alts : Alts) → AltsAreSteady p alts → SteadyChoice p (choice datas alts)
choice_steady p datas no_alts s = tt
choice_steady p datas (alt (OfCon c n) e more) s = by_fields_steady p (is_only (con_at datas c.number)) n e s.0
choice_steady p datas (alt (OfLit r []) e more) s = s.0
choice_steady p datas (alt (OfLit r (b ∷ bs)) e more) s = tt
choice_steady p datas (alt Default e no_alts) s = s.0
choice_steady p datas (alt Default e (alt q f more)) s = tt

-- an alternative on what its pattern binds
abbrev pub SteadyArm : Program → Arm → Type 0
SteadyArm p a = IsSteady p a.body × SteadyThunks p a.fields

bound_steady : {p : Program} {v : Value} → SteadyValue p v → (q : Pattern) → SteadyThunks p (bound v q)
bound_steady (steady_con s) (OfCon c n) = s
bound_steady (steady_con s) (OfLit r b) = steady_none
bound_steady (steady_con s) Default = steady_none
bound_steady steady_bits q = steady_none
bound_steady (steady_vec s) q = steady_none
bound_steady (steady_closure s r) q = steady_none
bound_steady (steady_ty_closure s r) q = steady_none
bound_steady (steady_partial h s) q = steady_none

picked : (p : Program) (a x : Arm) (o : Option Arm) (b : Bool) → SteadyArm p x → (o ≡ Some a → SteadyArm p a) → (if b then Some x else o) ≡ Some a → SteadyArm p a
picked p a x o true s g e = let same : x ≡ a = cc in subst (SteadyArm p) same s
picked p a x o false s g e = g e

pub arm_steady : {p : Program} {v : Value} {a : Arm} → SteadyValue p v → (alts : Alts) → AltsAreSteady p alts → arm_of v alts ≡ Some a → SteadyArm p a
arm_steady s no_alts ss e = absurd (cc)
arm_steady {p} {v} {a} s (alt q f more) ss e =
    picked p a (record { fields = bound v q; body = f }) (arm_of v more) (matches v q) (ss.0, bound_steady s q) (λ i. arm_steady s more ss.1 i) e
