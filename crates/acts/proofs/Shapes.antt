-- A primitive on as many types and thunks as it takes.
use Rattle.std.proofs.Common.{ℕ, List, [], ◌∷◌, map}
use Rattle.chw_types.specs.TypeTree.{TypeTree, ty_var, nat_lit, nat_sum, nat_product, domain, scalar, vector, data_of, fun, signal, for_all, TypeTrees, no_types, type_and}
use Rattle.chw_terms.specs.declared.program.Program.{Program}
use Rattle.chw_meaning.specs.Values.{Thunk, Thunks, none, thunk_and, closed_type}
use Rattle.chw_meaning.specs.Steps.{Step, types_2, types_3, types_4, thunks_1, thunks_2, thunks_3, in_domain}
use Rattle.acts.specs.Levels.{Levels, ThunksAct}
use Rattle.acts.specs.Acts.{AllAct}
use Rattle.acts.proofs.Steps.{stuck_acts}
use Rattle.acts.proofs.Telescopes.{StepsAct}

-- types in the order in which they are given, as an environment
abbrev pub env_2 : TypeTree → TypeTree → TypeTrees
env_2 a b = type_and b (type_and a no_types)

abbrev pub env_3 : TypeTree → TypeTree → TypeTree → TypeTrees
env_3 a b c = type_and c (type_and b (type_and a no_types))

abbrev pub env_4 : TypeTree → TypeTree → TypeTree → TypeTree → TypeTrees
env_4 a b c d = type_and d (type_and c (type_and b (type_and a no_types)))

-- thunks act so at these types in the environment, and the steps at that type
abbrev pub ActsAt : Program → Levels → List TypeTree → TypeTree → TypeTrees → Thunks → Thunks → Step → Step → Type 0
ActsAt p r args result ts xs' xs s' s =
    AllAct p r (map (λ t. closed_type t ts) args) xs' xs → StepsAct p r (closed_type result ts) s' s

pub types_2_step : (p : Program) (r : Levels) (args : List TypeTree) (result : TypeTree) (body : TypeTree → TypeTree → Thunks → Step) (xs' xs : Thunks) → ((a b : TypeTree) → ActsAt p r args result (env_2 a b) xs' xs (body a b xs') (body a b xs)) → (ts : TypeTrees) → ActsAt p r args result ts xs' xs (types_2 ts (λ a b. body a b xs')) (types_2 ts (λ a b. body a b xs))
types_2_step p r args result body xs' xs h no_types all = stuck_acts r _ _
types_2_step p r args result body xs' xs h (type_and b no_types) all = stuck_acts r _ _
types_2_step p r args result body xs' xs h (type_and b (type_and a no_types)) all = h a b all
types_2_step p r args result body xs' xs h (type_and b (type_and a (type_and z ts))) all = stuck_acts r _ _

pub types_3_step : (p : Program) (r : Levels) (args : List TypeTree) (result : TypeTree) (body : TypeTree → TypeTree → TypeTree → Thunks → Step) (xs' xs : Thunks) → ((a b c : TypeTree) → ActsAt p r args result (env_3 a b c) xs' xs (body a b c xs') (body a b c xs)) → (ts : TypeTrees) → ActsAt p r args result ts xs' xs (types_3 ts (λ a b c. body a b c xs')) (types_3 ts (λ a b c. body a b c xs))
types_3_step p r args result body xs' xs h no_types all = stuck_acts r _ _
types_3_step p r args result body xs' xs h (type_and c no_types) all = stuck_acts r _ _
types_3_step p r args result body xs' xs h (type_and c (type_and b no_types)) all = stuck_acts r _ _
types_3_step p r args result body xs' xs h (type_and c (type_and b (type_and a no_types))) all = h a b c all
types_3_step p r args result body xs' xs h (type_and c (type_and b (type_and a (type_and z ts)))) all = stuck_acts r _ _

pub types_4_step : (p : Program) (r : Levels) (args : List TypeTree) (result : TypeTree) (body : TypeTree → TypeTree → TypeTree → TypeTree → Thunks → Step) (xs' xs : Thunks) → ((a b c d : TypeTree) → ActsAt p r args result (env_4 a b c d) xs' xs (body a b c d xs') (body a b c d xs)) → (ts : TypeTrees) → ActsAt p r args result ts xs' xs (types_4 ts (λ a b c d. body a b c d xs')) (types_4 ts (λ a b c d. body a b c d xs))
types_4_step p r args result body xs' xs h no_types all = stuck_acts r _ _
types_4_step p r args result body xs' xs h (type_and d no_types) all = stuck_acts r _ _
types_4_step p r args result body xs' xs h (type_and d (type_and c no_types)) all = stuck_acts r _ _
types_4_step p r args result body xs' xs h (type_and d (type_and c (type_and b no_types))) all = stuck_acts r _ _
types_4_step p r args result body xs' xs h (type_and d (type_and c (type_and b (type_and a no_types)))) all = h a b c d all
types_4_step p r args result body xs' xs h (type_and d (type_and c (type_and b (type_and a (type_and z ts))))) all = stuck_acts r _ _

pub thunks_1_step : (p : Program) (r : Levels) (t result : TypeTree) (body : Thunk → Step) → ((x' x : Thunk) → ThunksAct p r t x' x → StepsAct p r result (body x') (body x)) → (xs' xs : Thunks) → AllAct p r (t ∷ []) xs' xs → StepsAct p r result (thunks_1 xs' body) (thunks_1 xs body)
thunks_1_step p r t result body h (thunk_and x' none) (thunk_and x none) all = h x' x all.0
thunks_1_step p r t result body h none xs all = absurd all
thunks_1_step p r t result body h (thunk_and x' xs') none all = absurd all
thunks_1_step p r t result body h (thunk_and x' none) (thunk_and x (thunk_and y xs)) all = absurd all.1
thunks_1_step p r t result body h (thunk_and x' (thunk_and y' xs')) (thunk_and x xs) all = absurd all.1

pub thunks_2_step : (p : Program) (r : Levels) (u t result : TypeTree) (body : Thunk → Thunk → Step) → ((x' x y' y : Thunk) → ThunksAct p r t x' x → ThunksAct p r u y' y → StepsAct p r result (body x' y') (body x y)) → (xs' xs : Thunks) → AllAct p r (u ∷ t ∷ []) xs' xs → StepsAct p r result (thunks_2 xs' body) (thunks_2 xs body)
thunks_2_step p r u t result body h (thunk_and y' (thunk_and x' none)) (thunk_and y (thunk_and x none)) all = h x' x y' y all.1.0 all.0
thunks_2_step p r u t result body h none xs all = absurd all
thunks_2_step p r u t result body h (thunk_and y' xs') none all = absurd all
thunks_2_step p r u t result body h (thunk_and y' none) (thunk_and y xs) all = absurd all.1
thunks_2_step p r u t result body h (thunk_and y' (thunk_and x' xs')) (thunk_and y none) all = absurd all.1
thunks_2_step p r u t result body h (thunk_and y' (thunk_and x' none)) (thunk_and y (thunk_and x (thunk_and z zs))) all = absurd all.1.1
thunks_2_step p r u t result body h (thunk_and y' (thunk_and x' (thunk_and z' zs'))) (thunk_and y (thunk_and x xs)) all = absurd all.1.1

pub thunks_3_step : (p : Program) (r : Levels) (w u t result : TypeTree) (body : Thunk → Thunk → Thunk → Step) → ((x' x y' y z' z : Thunk) → ThunksAct p r t x' x → ThunksAct p r u y' y → ThunksAct p r w z' z → StepsAct p r result (body x' y' z') (body x y z)) → (xs' xs : Thunks) → AllAct p r (w ∷ u ∷ t ∷ []) xs' xs → StepsAct p r result (thunks_3 xs' body) (thunks_3 xs body)
thunks_3_step p r w u t result body h (thunk_and z' (thunk_and y' (thunk_and x' none))) (thunk_and z (thunk_and y (thunk_and x none))) all = h x' x y' y z' z all.1.1.0 all.1.0 all.0
thunks_3_step p r w u t result body h none xs all = absurd all
thunks_3_step p r w u t result body h (thunk_and z' xs') none all = absurd all
thunks_3_step p r w u t result body h (thunk_and z' none) (thunk_and z xs) all = absurd all.1
thunks_3_step p r w u t result body h (thunk_and z' (thunk_and y' xs')) (thunk_and z none) all = absurd all.1
thunks_3_step p r w u t result body h (thunk_and z' (thunk_and y' none)) (thunk_and z (thunk_and y xs)) all = absurd all.1.1
thunks_3_step p r w u t result body h (thunk_and z' (thunk_and y' (thunk_and x' xs'))) (thunk_and z (thunk_and y none)) all = absurd all.1.1
thunks_3_step p r w u t result body h (thunk_and z' (thunk_and y' (thunk_and x' none))) (thunk_and z (thunk_and y (thunk_and x (thunk_and q qs)))) all = absurd all.1.1.1
thunks_3_step p r w u t result body h (thunk_and z' (thunk_and y' (thunk_and x' (thunk_and q' qs')))) (thunk_and z (thunk_and y (thunk_and x xs))) all = absurd all.1.1.1

pub domain_step : (p : Program) (r : Levels) (result t : TypeTree) (f' f : ℕ → Step) → ((d : ℕ) → StepsAct p r result (f' d) (f d)) → StepsAct p r result (in_domain t f') (in_domain t f)
domain_step p r result (domain d) f' f h = h d
domain_step p r result (ty_var x) f' f h = stuck_acts r _ _
domain_step p r result (nat_lit n) f' f h = stuck_acts r _ _
domain_step p r result (nat_sum a b) f' f h = stuck_acts r _ _
domain_step p r result (nat_product a b) f' f h = stuck_acts r _ _
domain_step p r result (scalar x w) f' f h = stuck_acts r _ _
domain_step p r result (vector n t) f' f h = stuck_acts r _ _
domain_step p r result (data_of d ts) f' f h = stuck_acts r _ _
domain_step p r result (fun a b) f' f h = stuck_acts r _ _
domain_step p r result (signal d a) f' f h = stuck_acts r _ _
domain_step p r result (for_all k t) f' f h = stuck_acts r _ _
