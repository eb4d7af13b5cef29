-- What a pattern binds of values that act so.
use Rattle.std.specs.Prelude.{slice_get}
use Rattle.std.proofs.Common.{◌≡◌, ◌⊎◌, inl, inr, ℕ, suc, zero, Bool, true, List, [], ◌∷◌, length, map, reverse, Some, refl, sym, ap, ◌∙◌, subst}
use Rattle.std.proofs.lemmas.Bool.{eqb-true}
use Rattle.std.proofs.lemmas.List.{length-map, length-reverse}
use Rattle.chw_types.specs.declared.kind.Kind.{Kind}
use Rattle.chw_types.specs.declared.kind.Kind.TheVariants.{Nat}
use Rattle.chw_types.specs.declared.kind.Scalar.{Scalar}
use Rattle.chw_types.specs.TypeTree.{TypeTree, ty_var, nat_lit, nat_sum, nat_product, domain, scalar, vector, data_of, fun, signal, for_all, TypeTrees}
use Rattle.chw_types.specs.TypeMoves.{sub, sub_all}
use Rattle.chw_types.specs.Arguments.{arguments}
use Rattle.chw_types.specs.Kinds.{KindsOf}
use Rattle.chw_types.specs.Polynomials.{is_natural}
use Rattle.chw_types.proofs.SameLaws.{same_self, all_self}
use Rattle.chw_terms.specs.declared.program.Program.{Program}
use Rattle.chw_terms.specs.declared.term.Pattern.{Pattern}
use Rattle.chw_terms.specs.declared.term.Pattern.TheVariants.{OfCon, OfLit, Default}
use Rattle.chw_terms.specs.Constructors.{Constructor, con_at}
use Rattle.type_laws.specs.Standing.{InSums}
use Rattle.type_laws.proofs.OneKind.{nat_natural, sums_kind}
use Rattle.type_laws.proofs.PutSame.{same_put}
use Rattle.chw_typing.specs.Scopes.{HasKind, IsTermType, AreTermTypes, AreSame}
use Rattle.chw_typing.specs.HeadTypes.{IsLookedAt, fields_at, PatternOf, of_con, of_lit, of_any}
use Rattle.chw_typing.specs.Programs.{IsSound, setting_of}
use Rattle.chw_typing.proofs.Lists.{map_reverse}
use Rattle.chw_typing.proofs.Patterns.{are_of_terms, fields_typed, constructor_arguments, AllSumsAreNat, pattern_sums}
use Rattle.chw_typing.proofs.PutAgreeing.{field_put}
use Rattle.chw_meaning.specs.Values.{Value, bits, con_of, Thunk, field, Thunks, none, type_at, closed_type, fields_from}
use Rattle.chw_meaning.specs.Eval.{matches, bound}
use Rattle.chw_meaning.proofs.Once.{same_some}
use Rattle.acts.specs.Levels.{Levels, ThunksAct}
use Rattle.acts.specs.Acts.{AllAct, act_step}
use Rattle.acts.specs.Terms.{Kinded}
use Rattle.acts.proofs.Closing.{puts_closed, closed_kind}
use Rattle.acts.proofs.Fields.{field_acts}
use Rattle.acts.proofs.Levels.{IsLevels}
use Rattle.acts.proofs.SameActs.{EachSame, each_reverse, same_fields, same_all_act}
use Rattle.acts.proofs.Tied.{fields_act, plus_zero}

closed_each : (p : Program) (kinds params : List Kind) (fs : List TypeTree) (ts : TypeTrees) (δ : TypeTrees) → ((i : ℕ) (f : TypeTree) → slice_get fs i ≡ Some f → IsTermType (setting_of p) (reverse params) f) → KindsOf p.datas (length p.domains) kinds ts params → map (λ f. sub f (arguments (sub_all ts (type_at δ)))) fs ≡ map (λ t. closed_type t δ) (map (λ f. sub f (arguments ts)) fs)
closed_each p kinds params [] ts δ typed d = refl
closed_each p kinds params (f ∷ fs) ts δ typed d = λ i. sym (field_put (typed 0 f refl).has d (type_at δ)) i ∷ closed_each p kinds params fs ts δ (λ j. typed (suc j)) d i

-- the fields of a constructor at closed arguments
pub closed_fields : (p : Program) → IsSound (setting_of p) → (kinds : List Kind) (δ : TypeTrees) (c d : ℕ) (it : Constructor) (ts : TypeTrees) (j : Kind) → con_at p.datas c ≡ Some it → it.of ≡ d → HasKind (setting_of p) kinds (data_of d ts) j → fields_at it (sub_all ts (type_at δ)) ≡ map (λ t. closed_type t δ) (fields_at it ts)
closed_fields p sound kinds δ c d it ts j held of k =
    closed_each p kinds it.it.params it.decl.fields ts δ (fields_typed (setting_of p) c it sound held) (constructor_arguments (setting_of p) kinds c d it ts j held of k)

bound_each : (p : Program) → IsSound (setting_of p) → (kinds : List Kind) (δ : TypeTrees) → Kinded p kinds δ → (fs bnd : List TypeTree) → AreSame fs bnd → AllSumsAreNat kinds fs → AreTermTypes (setting_of p) kinds bnd → EachSame p (map (λ t. closed_type t δ) fs) (map (λ t. closed_type t δ) fs) → EachSame p (map (λ t. closed_type t δ) fs) (map (λ t. closed_type t δ) bnd)
bound_each p sound kinds δ known [] [] x sums typed e = tt
bound_each p sound kinds δ known [] (b ∷ bnd) x sums typed e = absurd x
bound_each p sound kinds δ known (f ∷ fs) [] x sums typed e = absurd x
bound_each p sound kinds δ known (f ∷ fs) (b ∷ bnd) x sums typed e = (
  record { first = e.0.first; second = typed.0.kind; has_first = e.0.has_first; has_second = closed_kind p δ known typed.0.has; same = same_put x.0 (type_at δ) (type_at δ) (λ y. same_self (type_at δ y)) natural },
  bound_each p sound kinds δ known fs bnd x.1 sums.1 typed.1 e.1,
)
  where
    natural : (y : ℕ) → InSums f y ⊎ InSums b y → is_natural (type_at δ y) ≡ true
    natural y (inl z) = nat_natural (are_of_terms (setting_of p) sound) (puts_closed p kinds δ known y Nat (sums.0 y z)).0 refl
    natural y (inr z) = nat_natural (are_of_terms (setting_of p) sound) (puts_closed p kinds δ known y Nat (sums_kind typed.0.has y z)).0 refl

-- the fields of a constructor and what a pattern binds of them, the last one first
pub bound_fields : (p : Program) → IsSound (setting_of p) → (kinds : List Kind) (δ : TypeTrees) → Kinded p kinds δ → (c d : ℕ) (it : Constructor) (ts : TypeTrees) (j : Kind) (bnd : List TypeTree) → con_at p.datas c ≡ Some it → it.of ≡ d → HasKind (setting_of p) kinds (data_of d ts) j → AreSame (fields_at it ts) bnd → AllSumsAreNat kinds (fields_at it ts) → AreTermTypes (setting_of p) kinds bnd → EachSame p (reverse (fields_at it (sub_all ts (type_at δ)))) (map (λ t. closed_type t δ) (reverse bnd))
unfolding sub
bound_fields p sound kinds δ known c d it ts j bnd held of k x sums typed =
    let closed = closed_kind p δ known k in
    let itself = same_fields p sound c d it (sub_all ts (type_at δ)) (sub_all ts (type_at δ)) j j held of closed closed (all_self (sub_all ts (type_at δ))) in
    let is = closed_fields p sound kinds δ c d it ts j held of k in
    let each = bound_each p sound kinds δ known (fields_at it ts) bnd x sums typed (subst (λ fs. EachSame p fs fs) is itself) in
    subst (EachSame p (reverse (fields_at it (sub_all ts (type_at δ))))) (sym (map_reverse (λ t. closed_type t δ) bnd))
    (each_reverse p (fields_at it (sub_all ts (type_at δ))) (map (λ t. closed_type t δ) bnd) (subst (λ fs. EachSame p fs (map (λ t. closed_type t δ) bnd)) (sym is) each))

-- a value of a closed type that is looked at, and one as which it acts
pub data Seen (p : Program) (r : Levels) : TypeTree → Value → Value → Type 0 where
  seen_bits : {x : Scalar} {w : TypeTree} {b : List Bool} → Seen p r (scalar x w) (bits b) (bits b)
  seen_con : {d tag : ℕ} {ts : TypeTrees} {it : Constructor} {first second : Thunks} → con_at p.datas tag ≡ Some it → it.of ≡ d → AllAct p r (reverse (fields_at it ts)) first second → Seen p r (data_of d ts) (con_of tag first) (con_of tag second)

pub seen : {p : Program} {r : Levels} (u : TypeTree) (δ : TypeTrees) (v : Value) (s : Value → Type 0) → IsLookedAt u → act_step p r (closed_type u δ) v s → (w : Value) × s w × Seen p r (closed_type u δ) v w
unfolding sub
seen {p} {r} (scalar x w) δ v s i a = (bits a.0, a.2, subst (λ v. Seen p r (scalar x (closed_type w δ)) v (bits a.0)) (sym a.1) seen_bits)
seen {p} {r} (data_of d ts) δ v s i a = (con_of a.tag a.second, a.has_value, subst (λ v. Seen p r (data_of d (sub_all ts (type_at δ))) v (con_of a.tag a.second)) (sym a.is) (seen_con a.held a.of_type a.parts))
seen (ty_var x) δ v s i a = absurd i
seen (nat_lit n) δ v s i a = absurd i
seen (nat_sum t u) δ v s i a = absurd i
seen (nat_product t u) δ v s i a = absurd i
seen (domain d) δ v s i a = absurd i
seen (vector n t) δ v s i a = absurd i
seen (fun t u) δ v s i a = absurd i
seen (signal d t) δ v s i a = absurd i
seen (for_all k t) δ v s i a = absurd i

-- a pattern is for both or for neither
pub matches_same : {p : Program} {r : Levels} {u : TypeTree} {v w : Value} → Seen p r u v w → (q : Pattern) → matches v q ≡ matches w q
matches_same seen_bits q = refl
matches_same (seen_con held of parts) (OfCon c n) = refl
matches_same (seen_con held of parts) (OfLit s b) = refl
matches_same (seen_con held of parts) Default = refl

-- what a pattern binds of both
pub pattern_acts : {p : Program} {r : Levels} → IsLevels p r → IsSound (setting_of p) → (kinds : List Kind) (δ : TypeTrees) → Kinded p kinds δ → {u : TypeTree} {q : Pattern} {fields : List TypeTree} → PatternOf p.datas u q fields → (j : Kind) → HasKind (setting_of p) kinds u j → (bnd : List TypeTree) → AreSame fields bnd → AreTermTypes (setting_of p) kinds bnd → {t : TypeTree} {v w : Value} → Seen p r t v w → t ≡ closed_type u δ → matches v q ≡ true → AllAct p r (map (λ t. closed_type t δ) (reverse bnd)) (bound v q) (bound w q)
unfolding sub
pattern_acts {p} {r} l sound kinds δ known (of_con {d = d} {n = m} {c = c} {ts = ts} it e o n) j k bnd x typed (seen_con {tag = tag} {ts = us} {it = other} {first = first} {second = second} held of parts) same hit =
    let number : tag ≡ c.number = eqb-true tag c.number hit in
    let args : us ≡ sub_all ts (type_at δ) = cc in
    let is : other ≡ it = same_some held (ap (λ i. con_at p.datas i) number ∙ e) in
    let moved = subst (λ vs. AllAct p r (reverse (fields_at it vs)) first second) args (subst (λ (i : Constructor). AllAct p r (reverse (fields_at i us)) first second) is parts) in
    let sums = pattern_sums {s = setting_of p} (of_con {c = c} {ts = ts} it e o n) sound kinds j k in
    let fields = bound_fields p sound kinds δ known c.number d it ts j bnd e o k x sums typed in
    same_all_act sound l (reverse (fields_at it (sub_all ts (type_at δ)))) (map (λ t. closed_type t δ) (reverse bnd)) first second fields moved
pattern_acts l sound kinds δ known (of_con it e o n) j k bnd x typed seen_bits same hit = cc
pattern_acts l sound kinds δ known (of_lit i e) j k [] x typed seen_bits same hit = tt
pattern_acts l sound kinds δ known (of_lit i e) j k [] x typed (seen_con held of parts) same hit = tt
pattern_acts l sound kinds δ known (of_lit i e) j k (b ∷ bnd) x typed s same hit = absurd x
pattern_acts l sound kinds δ known of_any j k [] x typed seen_bits same hit = tt
pattern_acts l sound kinds δ known of_any j k [] x typed (seen_con held of parts) same hit = tt
pattern_acts l sound kinds δ known of_any j k (b ∷ bnd) x typed s same hit = absurd x

-- what the only pattern of a data type binds, as fields of a thunk
pub only_acts : {p : Program} {r : Levels} → IsLevels p r → IsSound (setting_of p) → (kinds : List Kind) (δ : TypeTrees) → Kinded p kinds δ → (c d n : ℕ) (it : Constructor) (ts : TypeTrees) (j : Kind) (bnd : List TypeTree) → con_at p.datas c ≡ Some it → it.of ≡ d → length it.it.cons ≡ 1 → length it.decl.fields ≡ n → HasKind (setting_of p) kinds (data_of d ts) j → AreSame (fields_at it ts) bnd → AllSumsAreNat kinds (fields_at it ts) → AreTermTypes (setting_of p) kinds bnd → (x' x : Thunk) → ThunksAct p r (closed_type (data_of d ts) δ) x' x → AllAct p r (map (λ t. closed_type t δ) (reverse bnd)) (fields_from zero n x' none) (fields_from zero n x none)
unfolding sub
only_acts {p} {r} l sound kinds δ known c d n it ts j bnd held of only count k same sums typed x' x acts =
    let us = sub_all ts (type_at δ) in
    let types = reverse (fields_at it us) in
    let each = fields_act types zero x' x (λ i t q. subst (λ j. ThunksAct p r t (field j x') (field j x)) (sym (plus_zero i)) (field_acts l c d us it i t x' x held of only q acts)) in
    let fields = bound_fields p sound kinds δ known c d it ts j bnd held of k same sums typed in
    let size : length types ≡ n = length-reverse (fields_at it us) ∙ length-map it.decl.fields (λ f. sub f (arguments us)) ∙ count in
    let moved = subst (λ i. AllAct p r types (fields_from zero i x' none) (fields_from zero i x none)) size each in
    same_all_act sound l types (map (λ t. closed_type t δ) (reverse bnd)) (fields_from zero n x' none) (fields_from zero n x none) fields moved
