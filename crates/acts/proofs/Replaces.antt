-- A vector with one element replaced: the term that chooses between both acts as itself.
use Rattle.std.specs.Prelude.{nat_lt}
use Rattle.std.proofs.Common.{◌≡◌, ◌≤◌, ◌^◌, ℕ, suc, Bool, true, false, if◌then◌else◌, [], ◌∷◌, map, reverse, Some, refl, sym, ap, ◌∙◌, subst}
use Rattle.std.proofs.lemmas.Bool.{eqb-true}
use Rattle.chw_bits.specs.Bits.{bits_of}
use Rattle.chw_bits.proofs.Numbers.{length-bits_of}
use Rattle.chw_types.specs.Polynomials.{greatest}
use Rattle.chw_types.specs.declared.kind.Kind.TheVariants.{Nat, Val}
use Rattle.chw_types.specs.declared.kind.Scalar.TheVariants.{U}
use Rattle.chw_types.specs.TypeTree.{TypeTree, ty_var, nat_lit, scalar, vector, fun, TypeTrees, no_types}
use Rattle.chw_types.specs.TypeMoves.{sub, put_at, up_by}
use Rattle.chw_types.specs.Arguments.{arguments}
use Rattle.chw_types.specs.Kinds.{kind_nat}
use Rattle.chw_prims.specs.Schemas.{bool, schema_type}
use Rattle.chw_prims.specs.declared.prim.Primitive.{Primitive as Prim}
use Rattle.chw_prims.specs.declared.prim.Primitive.TheVariants.{EqU}
use Rattle.chw_prims.specs.declared.row.Row.TheVariants.{Compare, Replaced}
use Rattle.chw_terms.specs.declared.program.Program.{Program}
use Rattle.chw_terms.specs.declared.term.Pattern.TheVariants.{OfCon}
use Rattle.chw_terms.specs.Constructors.{Constructor, con_at}
use Rattle.chw_terms.specs.Evaluated.{evaluated}
use Rattle.chw_terms.specs.TermTree.{TermTree, var, app, ty_app, prim, lit, Alts, no_alts, alt}
use Rattle.chw_layout.specs.Measured.{closed_value}
use Rattle.chw_typing.specs.Programs.{IsSound, setting_of}
use Rattle.chw_meaning.specs.Values.{Value, Thunk, closed, element, Thunks, none, thunk_and, thunk_at, joined}
use Rattle.chw_meaning.specs.Steps.{gives, each, replacing, replaced, thunks_3}
use Rattle.chw_meaning.specs.Eval.{looks, is_only, by_fields, choice, Arm, matches, bound, arm_of}
use Rattle.chw_meaning.proofs.Once.{same_some}
use Rattle.acts.specs.Levels.{Levels, later, thunk_runs, thunk_has, ThunksAct}
use Rattle.acts.specs.Acts.{AllAct, act_step, acts_from}
use Rattle.acts.specs.Terms.{LooksAlike}
use Rattle.acts.proofs.Arms.{Seen, seen_bits, seen_con, seen, matches_same}
use Rattle.acts.proofs.Cases.{looks_acts, ArmActs, alt_acts}
use Rattle.acts.proofs.Fields.{element_acts}
use Rattle.acts.proofs.Forms.{TermsAct, var_acts, lit_acts, thunk_acts, app_acts, ty_app_acts}
use Rattle.acts.proofs.Levels.{IsLevels, from_turns, at_later, runs_later}
use Rattle.acts.proofs.Rows.{RowActs, prim_acts, compare_line, truth_con, falsity_con, each_step}
use Rattle.acts.proofs.Shapes.{types_3_step, thunks_3_step}
use Rattle.acts.proofs.Steps.{scalars_act}
use Rattle.acts.proofs.Widths.{closed_least, number_itself}

equal_acts : (p : Program) → IsSound (setting_of p) → (r : Levels) → IsLevels p r → (γ' γ : Thunks) (δ' δ : TypeTrees) → TermsAct p r (schema_type EqU) (prim EqU) γ' δ' (prim EqU) γ δ
equal_acts p sound r l γ' γ δ' δ =
    prim_acts p sound EqU (Compare U) refl (Nat ∷ []) (scalar U (ty_var 0) ∷ scalar U (ty_var 0) ∷ []) bool refl refl refl (compare_line p sound EqU U refl) r l γ' γ δ' δ

-- the variable 0 compared to a number
test_acts : (p : Program) → IsSound (setting_of p) → (r : Levels) → IsLevels p r → (k j : ℕ) → k ≤ greatest → (γ' γ : Thunks) → LooksAlike p r (scalar U (nat_lit k)) 0 0 γ' γ → TermsAct p r bool (app (app (ty_app (prim EqU) (nat_lit k)) (var 0)) (lit U (bits_of k j))) γ' no_types (app (app (ty_app (prim EqU) (nat_lit k)) (var 0)) (lit U (bits_of k j))) γ no_types
unfolding sub put_at up_by evaluated
test_acts p sound r l k j least γ' γ look =
    let a = scalar U (nat_lit k) in
    let at = ty_app_acts l Nat (fun (scalar U (ty_var 0)) (fun (scalar U (ty_var 0)) bool)) (nat_lit k) (nat_lit k) (nat_lit k) (prim EqU) (prim EqU) γ' γ no_types no_types refl refl kind_nat refl (equal_acts p sound r l γ' γ no_types no_types) in
    app_acts l a bool (app (ty_app (prim EqU) (nat_lit k)) (var 0)) (app (ty_app (prim EqU) (nat_lit k)) (var 0)) (lit U (bits_of k j)) (lit U (bits_of k j)) γ' γ no_types no_types
    (app_acts l a (fun a bool) (ty_app (prim EqU) (nat_lit k)) (ty_app (prim EqU) (nat_lit k)) (var 0) (var 0) γ' γ no_types no_types at (var_acts l a 0 0 γ' γ no_types no_types look))
    (lit_acts l U (bits_of k j) (nat_lit k) (length-bits_of k j ∙ number_itself k least) γ' γ no_types no_types)

both_none : (p : Program) (r : Levels) (xs' xs : Thunks) → AllAct p r [] xs' xs → (xs' ≡ none) × (xs ≡ none)
both_none p r none none h = (refl, refl)
both_none p r none (thunk_and x xs) h = absurd h
both_none p r (thunk_and x' xs') xs h = absurd h

-- a pattern of a constructor without fields binds nothing
bare_bound : (p : Program) (r : Levels) (c : ℕ) (it : Constructor) → con_at p.datas c ≡ Some it → it.decl.fields ≡ [] → {t : TypeTree} {v w : Value} → Seen p r t v w → matches v (OfCon (record { number = c }) 0) ≡ true → (bound v (OfCon (record { number = c }) 0) ≡ none) × (bound w (OfCon (record { number = c }) 0) ≡ none)
bare_bound p r c it held bare seen_bits hit = cc
bare_bound p r c it held bare (seen_con {tag = tag} {ts = ts} {it = other} {first = first} {second = second} found of parts) hit =
    let is : other ≡ it = same_some found (ap (λ i. con_at p.datas i) (eqb-true tag c hit) ∙ held) in
    let fields : other.decl.fields ≡ [] = ap (λ (i : Constructor). i.decl.fields) is ∙ bare in
    both_none p r first second (subst (λ fs. AllAct p r (reverse (map (λ f. sub f (arguments ts)) fs)) first second) fields parts)

-- a variable beside a pattern that binds nothing
beside_acts : (p : Program) (r : Levels) → IsLevels p r → (t : TypeTree) (x : ℕ) (γ' γ ys' ys : Thunks) → LooksAlike p r t x x γ' γ → (ys' ≡ none) × (ys ≡ none) → TermsAct p r t (var x) (joined ys' γ') no_types (var x) (joined ys γ) no_types
beside_acts p r l t x γ' γ ys' ys look e =
    subst (λ zs. TermsAct p r t (var x) (joined zs γ') no_types (var x) (joined ys γ) no_types) (sym e.0) (subst (λ zs. TermsAct p r t (var x) γ' no_types (var x) (joined zs γ) no_types) (sym e.1) (var_acts l t x x γ' γ no_types no_types look))

looks_later : {p : Program} {r : Levels} → IsLevels p r → (i : ℕ) (t : TypeTree) (x : ℕ) (γ' γ : Thunks) → LooksAlike p r t x x γ' γ → LooksAlike p (later i r) t x x γ' γ
looks_later {p} l i t x γ' γ k = record { first = k.first; second = k.second; has_first = k.has_first; has_second = k.has_second; acts = runs_later l i t (thunk_runs p k.first) (thunk_has p k.second) k.acts }

-- two constructors of truth values: a case on them looks
several : (p : Program) → IsSound (setting_of p) → is_only (con_at p.datas 1) ≡ false
several p sound = subst (λ datas. is_only (con_at datas 1) ≡ false) (sym sound.begins.1) refl

abbrev truth_alts : Alts
truth_alts = alt (OfCon (record { number = 1 }) 0) (var 1) (alt (OfCon (record { number = 0 }) 0) (var 2) no_alts)

replacing_acts : (p : Program) → IsSound (setting_of p) → (r : Levels) → IsLevels p r → (a : TypeTree) (k j : ℕ) → k ≤ greatest → (γ' γ : Thunks) → LooksAlike p r (scalar U (nat_lit k)) 0 0 γ' γ → LooksAlike p r a 1 1 γ' γ → LooksAlike p r a 2 2 γ' γ → TermsAct p r a (replacing k j) γ' no_types (replacing k j) γ no_types
unfolding sub
replacing_acts p sound r l a k j least γ' γ index new old =
    looks_acts l bool a test test truth_alts truth_alts γ' γ no_types no_types tt looking looking (test_acts p sound r l k j least γ' γ index) arms
  where
    test : TermTree
    test = app (app (ty_app (prim EqU) (nat_lit k)) (var 0)) (lit U (bits_of k j))

    looking : choice p.datas truth_alts ≡ looks
    looking = ap (λ b. by_fields b 0 (var 1)) (several p sound)

    arms : (i : ℕ) (v : Value) (set : Value → Type 0) (arm : Arm) → act_step p (later (suc i) r) bool v set → arm_of v truth_alts ≡ Some arm → ArmActs p (later (suc i) r) a truth_alts γ' no_types γ no_types set arm
    arms i v set arm asked found =
        let q = later (suc i) r in
        let lq = at_later (suc i) l in
        let s = seen bool no_types v set tt asked in
        let t = truth_con p sound in
        let f = falsity_con p sound in
        let one = alt_acts {p = p} {r = q} a (OfCon (record { number = 1 }) 0) (var 1) (var 1) (alt (OfCon (record { number = 0 }) 0) (var 2) no_alts) (alt (OfCon (record { number = 0 }) 0) (var 2) no_alts) γ' γ no_types no_types v s.0 (matches_same s.2 (OfCon (record { number = 1 }) 0))
        (λ hit. beside_acts p q lq a 1 γ' γ _ _ (looks_later l (suc i) a 1 γ' γ new) (bare_bound p q 1 t.0 t.1 t.3 s.2 hit))
        (alt_acts {p = p} {r = q} a (OfCon (record { number = 0 }) 0) (var 2) (var 2) no_alts no_alts γ' γ no_types no_types v s.0 (matches_same s.2 (OfCon (record { number = 0 }) 0))
        (λ hit. beside_acts p q lq a 2 γ' γ _ _ (looks_later l (suc i) a 2 γ' γ old) (bare_bound p q 0 f.0 f.1 f.3 s.2 hit)) (λ b e. cc)) arm found in
        record { value = s.0; has_value = s.1; second = one.second; is_arm = one.is_arm; acts = one.acts }

if_acts : (p : Program) (r : Levels) (t : TypeTree) (b : Bool) (x' x y' y : Thunk) → ThunksAct p r t x' x → ThunksAct p r t y' y → ThunksAct p r t (if b then x' else y') (if b then x else y)
if_acts p r t true x' x y' y xs ys = xs
if_acts p r t false x' x y' y xs ys = ys

here : {p : Program} {r : Levels} (t : TypeTree) (x : ℕ) (γ' γ : Thunks) (x' y : Thunk) → thunk_at γ' x ≡ Some x' → thunk_at γ x ≡ Some y → ThunksAct p r t x' y → LooksAlike p r t x x γ' γ
here t x γ' γ x' y e f acts = record { first = x'; second = y; has_first = e; has_second = f; acts = acts }

replaced_acts : (p : Program) → IsSound (setting_of p) → (r : Levels) → IsLevels p r → (m w a : TypeTree) (k : ℕ) → closed_value w ≡ k → (v' v i' i x' x : Thunk) → ThunksAct p r (vector m a) v' v → ThunksAct p r (scalar U w) i' i → ThunksAct p r a x' x → (j : ℕ) → ThunksAct p r a (replaced k v' i' x' j) (replaced k v i x j)
replaced_acts p sound r l m w a k wide v' v i' i x' x vs is xs j =
    let least = subst (λ n. n ≤ greatest) wide (closed_least w) in
    let old = element_acts l m a j v' v vs in
    let γ' = thunk_and i' (thunk_and x' (thunk_and (element j v') none)) in
    let γ = thunk_and i (thunk_and x (thunk_and (element j v) none)) in
    if_acts p r a (nat_lt j (2 ^ k)) (closed (replacing k j) γ' no_types) (closed (replacing k j) γ no_types) (element j v') (element j v)
    (thunk_acts l a (replacing k j) (replacing k j) γ' γ no_types no_types
    (replacing_acts p sound r l a k j least γ' γ (here (scalar U (nat_lit k)) 0 γ' γ i' i refl refl (scalars_act l U w (nat_lit k) (wide ∙ number_itself k least) i' i is)) (here a 1 γ' γ x' x refl refl xs) (here a 2 γ' γ (element j v') (element j v) refl refl old))) old

pub replaced_line : (p : Program) → IsSound (setting_of p) → (q : Prim) → RowActs p q Replaced (vector (ty_var 2) (ty_var 0)) (Val ∷ Nat ∷ Nat ∷ []) (ty_var 0 ∷ scalar U (ty_var 1) ∷ vector (ty_var 2) (ty_var 0) ∷ [])
unfolding sub
replaced_line p sound q n ts xs' xs size =
    types_3_step p (acts_from p n) (ty_var 0 ∷ scalar U (ty_var 1) ∷ vector (ty_var 2) (ty_var 0) ∷ []) (vector (ty_var 2) (ty_var 0)) (λ m k a xs. thunks_3 xs (λ v i x. gives (each (closed_value m) (replaced (closed_value k) v i x)))) xs' xs
    (λ m k a. thunks_3_step p (acts_from p n) a (scalar U k) (vector m a) (vector m a) (λ v i x. gives (each (closed_value m) (replaced (closed_value k) v i x)))
    (λ v' v i' i x' x vs is xs. each_step p n m a (closed_value m) (replaced (closed_value k) v' i' x') (replaced (closed_value k) v i x) (replaced_acts p sound (acts_from p n) (from_turns p n) m k a (closed_value k) refl v' v i' i x' x vs is xs)) xs' xs) ts
