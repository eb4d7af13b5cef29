-- A constructor or primitive acts as itself where it does with all its arguments.
use Rattle.std.proofs.Common.{◌≡◌, ◌<◌, ◌≤◌, ◌+◌, ℕ, suc, zero, Bool, true, false, ◌||◌, if◌then◌else◌, List, [], ◌∷◌, ◌++◌, length, map, reverse, refl, sym, ap, ◌∙◌, subst, arith}
use Rattle.std.specs.Prelude.{nat_lt}
use Rattle.std.proofs.lemmas.Bool.{lt-ltb, le-ltb}
use Rattle.std.proofs.lemmas.List.{append-nil, length-map}
use Rattle.chw_types.specs.declared.kind.Kind.{Kind}
use Rattle.chw_types.specs.TypeTree.{TypeTree, fun, for_all, TypeTrees, no_types, type_and}
use Rattle.chw_types.specs.TypeMoves.{up, sub, put}
use Rattle.chw_types.specs.Arguments.{list_of}
use Rattle.chw_terms.specs.declared.program.Program.{Program}
use Rattle.chw_terms.specs.Evaluated.{evaluated}
use Rattle.chw_typing.specs.Scopes.{HasKind}
use Rattle.chw_typing.specs.HeadTypes.{for_each, from_each}
use Rattle.chw_typing.specs.Programs.{setting_of}
use Rattle.chw_typing.proofs.Lists.{turned_onto}
use Rattle.chw_meaning.specs.Values.{History, Value, Head, partial, Thunk, Thunks, none, thunk_and, count_of, type_at, closed_type}
use Rattle.chw_meaning.specs.Steps.{Step, gives, takes_types, takes_thunks, lacks, saturated, step}
use Rattle.chw_meaning.specs.Eval.{Applies, a_runs, TyApplies, t_runs, Runs, r_gives}
use Rattle.acts.specs.Levels.{Levels, later, First, Second, RunsAct, ThunksAct}
use Rattle.acts.specs.Acts.{AllAct, acts_from}
use Rattle.acts.specs.Terms.{Kinded}
use Rattle.acts.proofs.Closing.{opens_as}
use Rattle.acts.proofs.Forms.{called, ty_called}
use Rattle.acts.proofs.Levels.{IsLevels, from_turns, at_levels, at_later, cost, more, all_later}

-- what a step gives
abbrev pub step_runs : Program → Step → First
step_runs p s = λ m h v. Runs p m s h v

abbrev pub step_has : Program → Step → Second
step_has p s h v = (m : ℕ) × Runs p m s h v

abbrev pub StepsAct : Program → Levels → TypeTree → Step → Step → Type 0
StepsAct p r t s' s = RunsAct r t (step_runs p s') (step_has p s)

run_call : {p : Program} {r : Levels} → IsLevels p r → (b : TypeTree) (hd : Head) (ts : TypeTrees) (xs' xs : Thunks) (x' x : Thunk) (s : Value → Type 0) → s (partial hd ts xs) → StepsAct p r b (step p.datas hd ts (thunk_and x' xs')) (step p.datas hd ts (thunk_and x xs)) → RunsAct r b (λ m h w. Applies p m (partial hd ts xs') x' h w) (called p s x)
run_call {p} l b hd ts xs' xs x' x s own acts h' h m w al (a_runs {n = n} d) =
    cost l n b w _ (more l n b w (step_has p (step p.datas hd ts (thunk_and x xs)) h) (called p s x h) (λ u q. (partial hd ts xs, own, (suc q.0, a_runs q.1))) (acts h' h n w al d))

run_ty_call : {p : Program} {r : Levels} → IsLevels p r → (t : TypeTree) (hd : Head) (ts : TypeTrees) (xs' xs : Thunks) (c : TypeTree) (s : Value → Type 0) → s (partial hd ts xs) → StepsAct p r t (step p.datas hd (type_and c ts) xs') (step p.datas hd (type_and c ts) xs) → RunsAct r t (λ m h w. TyApplies p m (partial hd ts xs') c h w) (ty_called p s c)
run_ty_call {p} l t hd ts xs' xs c s own acts h' h m w al (t_runs {n = n} d) =
    cost l n t w _ (more l n t w (step_has p (step p.datas hd (type_and c ts) xs) h) (ty_called p s c h) (λ u q. (partial hd ts xs, own, (suc q.0, t_runs q.1))) (acts h' h n w al d))

-- with arguments missing a step gives what it has so far
lacking : (p : Program) (hd : Head) (ts : TypeTrees) (xs : Thunks) → lacks p.datas hd ts xs ≡ true → step p.datas hd ts xs ≡ gives (partial hd ts xs)
lacking p hd ts xs e = ap (λ b. if b then gives (partial hd ts xs) else saturated hd ts xs) e

filled : (p : Program) (hd : Head) (ts : TypeTrees) (xs : Thunks) → lacks p.datas hd ts xs ≡ false → step p.datas hd ts xs ≡ saturated hd ts xs
filled p hd ts xs e = ap (λ b. if b then gives (partial hd ts xs) else saturated hd ts xs) e

or_true : (b : Bool) → (b || true) ≡ true
or_true true = refl
or_true false = refl

gives_at : {p : Program} (r : Levels) (t : TypeTree) (v' v : Value) → ((h : History) → r zero t v' (step_has p (gives v) h)) → StepsAct p r t (gives v') (gives v)
gives_at r t v' v acts h' h m w al r_gives = acts h

module _ (p : Program) (hd : Head) (result : TypeTree) where
  -- with all its arguments it acts as itself, whatever they are
  abbrev pub Saturates : List Kind → List TypeTree → Type 0
  Saturates kinds args =
      (n : ℕ) (ts : TypeTrees) (xs' xs : Thunks) → Kinded p kinds ts → length (list_of ts) ≡ length kinds → AllAct p (acts_from p n) (map (λ t. closed_type t ts) args) xs' xs
      → StepsAct p (acts_from p n) (closed_type result ts) (saturated hd ts xs') (saturated hd ts xs)

  count_all : (r : Levels) (us : List TypeTree) (xs' xs : Thunks) → AllAct p r us xs' xs → (count_of xs' ≡ length us) × (count_of xs ≡ length us)
  count_all r [] none none h = (refl, refl)
  count_all r (u ∷ us) (thunk_and x' xs') (thunk_and x xs) h = let q = count_all r us xs' xs h.1 in (ap suc q.0, ap suc q.1)
  count_all r [] none (thunk_and x xs) h = absurd h
  count_all r [] (thunk_and x' xs') xs h = absurd h
  count_all r (u ∷ us) none xs h = absurd h
  count_all r (u ∷ us) (thunk_and x' xs') none h = absurd h

  thunks_missing : (ts : TypeTrees) (xs : Thunks) → count_of xs < takes_thunks p.datas hd → lacks p.datas hd ts xs ≡ true
  thunks_missing ts xs l = ap (λ b. nat_lt (length (list_of ts)) (takes_types p.datas hd) || b) (lt-ltb (count_of xs) (takes_thunks p.datas hd) l) ∙ or_true (nat_lt (length (list_of ts)) (takes_types p.datas hd))

  types_missing : (ts : TypeTrees) (xs : Thunks) → length (list_of ts) < takes_types p.datas hd → lacks p.datas hd ts xs ≡ true
  types_missing ts xs l = ap (λ b. b || nat_lt (count_of xs) (takes_thunks p.datas hd)) (lt-ltb (length (list_of ts)) (takes_types p.datas hd) l)

  none_missing : (ts : TypeTrees) (xs : Thunks) → takes_types p.datas hd ≤ length (list_of ts) → takes_thunks p.datas hd ≤ count_of xs → lacks p.datas hd ts xs ≡ false
  none_missing ts xs l m = λ i. le-ltb (length (list_of ts)) (takes_types p.datas hd) l i || le-ltb (count_of xs) (takes_thunks p.datas hd) m i

  -- one more thunk leads to what acts so
  abbrev NextThunk : List TypeTree → TypeTree → TypeTree → TypeTrees → Thunks → Thunks → Type 1
  NextThunk given a b ts xs' xs =
      (q : Levels) → IsLevels p q → AllAct p q given xs' xs → (x' x : Thunk) → ThunksAct p q a x' x → StepsAct p q b (step p.datas hd ts (thunk_and x' xs')) (step p.datas hd ts (thunk_and x xs))

  function_value : (n : ℕ) (given : List TypeTree) (a b : TypeTree) (ts : TypeTrees) (xs' xs : Thunks) (s : Value → Type 0) → s (partial hd ts xs) → NextThunk given a b ts xs' xs → AllAct p (acts_from p n) given xs' xs → acts_from p n zero (fun a b) (partial hd ts xs') s
  unfolding acts_from
  function_value zero given a b ts xs' xs s own next all = tt
  function_value (suc n) given a b ts xs' xs s own next all =
      λ i x' x acts. run_call (at_later i (from_turns p n)) b hd ts xs' xs x' x s own
      (next (later i (acts_from p n)) (at_later i (from_turns p n)) (all_later (from_turns p (suc n)) (suc i) given xs' xs all) x' x acts)

  -- the thunks come one after another
  thunks_given : {r : Levels} → IsLevels p r → (kinds : List Kind) (given args : List TypeTree) (ts : TypeTrees) (xs' xs : Thunks) → Kinded p kinds ts → length (list_of ts) ≡ length kinds → takes_types p.datas hd ≡ length kinds → takes_thunks p.datas hd ≡ length given + length args → AllAct p r (map (λ t. closed_type t ts) given) xs' xs → Saturates kinds (reverse args ++ given) → StepsAct p r (closed_type (from_each args result) ts) (step p.datas hd ts xs') (step p.datas hd ts xs)
  unfolding sub
  thunks_given {r} l kinds given [] ts xs' xs known size types thunks all sat =
      let counts = count_all r (map (λ t. closed_type t ts) given) xs' xs all in
      let wide = length-map given (λ t. closed_type t ts) in
      let first = filled p hd ts xs' (none_missing ts xs' (omega (arith, types, size)) (omega (arith, thunks, counts.0, wide))) in
      let second = filled p hd ts xs (none_missing ts xs (omega (arith, types, size)) (omega (arith, thunks, counts.1, wide))) in
      let acts = at_levels l (λ q. AllAct p q (map (λ t. closed_type t ts) given) xs' xs → StepsAct p q (closed_type result ts) (saturated hd ts xs') (saturated hd ts xs)) (λ n. sat n ts xs' xs known size) all in
      subst (λ s. StepsAct p r (closed_type result ts) s (step p.datas hd ts xs)) (sym first) (subst (StepsAct p r (closed_type result ts) (saturated hd ts xs')) (sym second) acts)
  thunks_given {r} l kinds given (a ∷ args) ts xs' xs known size types thunks all sat =
      let types_given = map (λ t. closed_type t ts) given in
      let counts = count_all r types_given xs' xs all in
      let wide = length-map given (λ t. closed_type t ts) in
      let first = lacking p hd ts xs' (thunks_missing ts xs' (omega (arith, thunks, counts.0, wide))) in
      let second = lacking p hd ts xs (thunks_missing ts xs (omega (arith, thunks, counts.1, wide))) in
      let b = closed_type (from_each args result) ts in
      let t = fun (closed_type a ts) b in
      let next : NextThunk types_given (closed_type a ts) b ts xs' xs = λ q lq every x' x acts. thunks_given lq kinds (a ∷ given) args ts (thunk_and x' xs') (thunk_and x xs) known size types (omega (arith, thunks)) (acts, every) (subst (Saturates kinds) (turned_onto a args given) sat) in
      let value : (h : History) → r zero t (partial hd ts xs') (step_has p (gives (partial hd ts xs)) h) = λ h. at_levels l (λ q. AllAct p q types_given xs' xs → q zero t (partial hd ts xs') (step_has p (gives (partial hd ts xs)) h)) (λ n. function_value n types_given (closed_type a ts) b ts xs' xs (step_has p (gives (partial hd ts xs)) h) (zero, r_gives) next) all in
      subst (λ s. StepsAct p r t s (step p.datas hd ts xs)) (sym first) (subst (StepsAct p r t (gives (partial hd ts xs'))) (sym second) (gives_at r t (partial hd ts xs') (partial hd ts xs) value))

  -- one more type leads to what acts so
  abbrev NextType : Kind → TypeTree → TypeTrees → Type 1
  NextType k t ts =
      (q : Levels) → IsLevels p q → (c : TypeTree) → HasKind (setting_of p) [] c k → evaluated c ≡ c → StepsAct p q (closed_type t (type_and c ts)) (step p.datas hd (type_and c ts) none) (step p.datas hd (type_and c ts) none)

  family_value : (n : ℕ) (k : Kind) (t : TypeTree) (ts : TypeTrees) (s : Value → Type 0) → s (partial hd ts none) → NextType k t ts → acts_from p n zero (for_all k (sub t (up (type_at ts)))) (partial hd ts none) s
  unfolding acts_from
  family_value zero k t ts s own next = tt
  family_value (suc n) k t ts s own next =
      λ c kd ev. run_ty_call (from_turns p n) (put (sub t (up (type_at ts))) 0 c) hd ts none none c s own
      (subst (λ u. StepsAct p (acts_from p n) u (step p.datas hd (type_and c ts) none) (step p.datas hd (type_and c ts) none)) (sym (opens_as t c ts)) (next (acts_from p n) (from_turns p n) c kd ev))

  -- the types come one after another
  types_given : {r : Levels} → IsLevels p r → (given kinds : List Kind) (args : List TypeTree) (ts : TypeTrees) → Kinded p given ts → length (list_of ts) ≡ length given → takes_types p.datas hd ≡ length given + length kinds → takes_thunks p.datas hd ≡ length args → Saturates (reverse kinds ++ given) (reverse args ++ []) → StepsAct p r (closed_type (for_each kinds (from_each args result)) ts) (step p.datas hd ts none) (step p.datas hd ts none)
  unfolding sub
  types_given l given [] args ts known size types thunks sat = thunks_given l given [] args ts none none known size (omega (arith, types)) (omega (arith, thunks)) tt sat
  types_given {r} l given (k ∷ kinds) args ts known size types thunks sat =
      let is = lacking p hd ts none (types_missing ts none (omega (arith, types, size))) in
      let u = for_each kinds (from_each args result) in
      let t = for_all k (sub u (up (type_at ts))) in
      let next : NextType k u ts = λ q lq c kd ev. types_given lq (k ∷ given) kinds args (type_and c ts) (kd, ev, known) (ap suc size) (omega (arith, types)) thunks (subst (λ ks. Saturates ks (reverse args ++ [])) (turned_onto k kinds given) sat) in
      let value : (h : History) → r zero t (partial hd ts none) (step_has p (gives (partial hd ts none)) h) = λ h. at_levels l (λ q. q zero t (partial hd ts none) (step_has p (gives (partial hd ts none)) h)) (λ n. family_value n k u ts (step_has p (gives (partial hd ts none)) h) (zero, r_gives) next) in
      subst (λ s. StepsAct p r t s s) (sym is) (gives_at r t (partial hd ts none) (partial hd ts none) value)

  -- so does what is given no argument yet
  pub unapplied_acts : {r : Levels} → IsLevels p r → (kinds : List Kind) (args : List TypeTree) → takes_types p.datas hd ≡ length kinds → takes_thunks p.datas hd ≡ length args → Saturates (reverse kinds) (reverse args) → StepsAct p r (closed_type (for_each kinds (from_each args result)) no_types) (step p.datas hd no_types none) (step p.datas hd no_types none)
  unapplied_acts l kinds args types thunks sat =
      types_given l [] kinds args no_types tt refl (omega (arith, types)) thunks (subst (λ ks. Saturates ks (reverse args ++ [])) (sym (append-nil (reverse kinds))) (subst (Saturates (reverse kinds)) (sym (append-nil (reverse args))) sat))
