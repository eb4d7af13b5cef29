-- The names that a letrec gives to the arguments of a primitive act as the arguments.
use Rattle.std.proofs.Common.{◌≡◌, ◌<◌, ℕ, zero, List, [], ◌∷◌, length, map, reverse, Some, refl, subst, arith}
use Rattle.chw_types.specs.declared.kind.Kind.{Kind}
use Rattle.chw_types.specs.Arguments.{arguments}
use Rattle.chw_types.specs.Kinds.{KindsOf}
use Rattle.chw_types.specs.TypeMoves.{raised, sub}
use Rattle.chw_types.specs.TypeTree.{TypeTree, TypeTrees}
use Rattle.chw_types.specs.TypeView.{trees_of}
use Rattle.chw_terms.specs.declared.program.Program.{Program}
use Rattle.chw_terms.specs.TermMoves.{shift}
use Rattle.chw_terms.specs.TermTree.{TermTree, var, Group, size_of}
use Rattle.chw_terms.specs.Unrolled.{named, at_types}
use Rattle.chw_typing.specs.Scopes.{HasKind, AreTermTypes}
use Rattle.chw_typing.specs.Programs.{AreClosed, IsSound, IsTyped, setting_of}
use Rattle.chw_typing.specs.Typing.{HasType, HasTypeUpTo}
use Rattle.chw_typing.proofs.Kinded.{type_kinded}
use Rattle.chw_typing.specs.Given.{AreGiven}
use Rattle.chw_meaning.specs.Values.{closed, member, Thunks, none, thunk_at, closed_type, in_group, body_at}
use Rattle.chw_meaning.specs.Steps.{each_from}
use Rattle.chw_meaning.specs.Eval.{Evals, Forces, f_closed, f_member, e_var}
use Rattle.chw_meaning.proofs.Once.{same_some}
use Rattle.rewriting.specs.Origins.{with_origins, with_origins_group}
use Rattle.acts.specs.Levels.{later, term_has, thunk_runs, thunk_has, ThunksAct}
use Rattle.acts.specs.Acts.{AllAct, acts_from}
use Rattle.acts.specs.Terms.{TiedBy, Kinded, OriginsTyped, setting_with}
use Rattle.acts.proofs.Globals.{sound_with}
use Rattle.acts.proofs.Levels.{from_turns, cost, more}
use Rattle.acts.proofs.SameActs.{turned, same_acts}
use Rattle.act_rules.proofs.Lets.{tied_past}
use Rattle.act_rules.proofs.RuleMoves.{moved_acts}
use Rattle.act_rules.proofs.CasePlaces.{onto}
use Rattle.act_rules.proofs.Given.{given_at, thunks_of}
use Rattle.act_rules.proofs.Parameters.{AllKinded, part_same}

-- so many names, the first one 0
abbrev pub names_in : Thunks → TypeTrees → ℕ → Thunks
names_in γ δ n = each_from zero n (λ j. closed (var j) γ δ)

-- the group of names that are bound to terms outside
abbrev pub group_for : (ℕ → TermTree) → List TypeTree → List TermTree → Group
group_for o us es = with_origins_group o (named us (map (λ e. shift e 0 (length es)) es))

-- with these type arguments, each name acts as its argument, at the type of its parameter
abbrev pub NamesAct : Program → (ℕ → TermTree) → List TypeTree → ℕ → TypeTrees → Thunks → Thunks → List TypeTree → List TypeTree → List TermTree → Type 0
NamesAct p o ts n δ γ' γ us ps es =
    AllAct p (acts_from p n) (map (λ t. closed_type t (given_at δ ts)) (reverse ps)) (names_in (in_group (group_for o us es) γ' δ) δ (length ps)) (onto (thunks_of o γ δ es) none)

module _ (p : Program) (sound : IsSound (setting_of p)) (typed : IsTyped p) (types : List TypeTree) (o : ℕ → TermTree) (are_closed : AreClosed (setting_of p) types) (have : OriginsTyped p types o) where
  -- a name of a group acts as the term outside that it is bound to
  name_acts : {kinds : List Kind} {vars : List TypeTree} {w : TypeTree} → AreTermTypes (setting_with p types) kinds vars → (n : ℕ) (δ : TypeTrees) (γ' γ : Thunks) → Kinded p kinds δ → TiedBy p (acts_from p n) vars (λ x. x) (λ x. x) δ γ' γ → (g : Group) (many x j : ℕ) (e : TermTree) → size_of g ≡ many → thunk_at (in_group g γ' δ) x ≡ Some (member g j γ' δ) → body_at g j ≡ Some (with_origins o (shift e 0 many)) → HasType (setting_with p types) kinds vars e w → ThunksAct p (acts_from p n) (closed_type w δ) (closed (var x) (in_group g γ' δ) δ) (closed (with_origins o e) γ δ)
  name_acts {kinds} {vars} {w} scope n δ γ' γ known names g many x j e size at body d h' h m v al (f_closed (e_var {n = i} {th = th} found f)) =
      cost (from_turns p n) i (closed_type w δ) v (thunk_has p (closed (with_origins o e) γ δ) h) (by (subst (λ th. Forces p i th h' v) (same_some found at) f))
    where
      by : {i : ℕ} → Forces p i (member g j γ' δ) h' v → later i (acts_from p n) zero (closed_type w δ) v (thunk_has p (closed (with_origins o e) γ δ) h)
      by (f_member {n = k} {e = b} is ev) =
          let moved = moved_acts p sound typed types o are_closed have (raised 0 many) scope d (acts_from p n) (from_turns p n) δ (in_group g γ' δ) γ known (tied_past vars g many δ δ γ' γ size names) in
          let own = subst (λ b. Evals p k b (in_group g γ' δ) δ h' v) (same_some is body) ev in
          cost (from_turns p n) k (closed_type w δ) v (thunk_has p (closed (with_origins o e) γ δ) h)
          (more (from_turns p n) k (closed_type w δ) v (term_has p (with_origins o e) γ δ h) (thunk_has p (closed (with_origins o e) γ δ) h) (λ w q. (q.0, f_closed q.1)) (moved h' h k v al own))

  module _ {kinds ks : List Kind} (vars : List TypeTree) (scope : AreTermTypes (setting_with p types) kinds vars) (ts : List TypeTree) (of_kinds : KindsOf p.datas (length p.domains) kinds (trees_of ts) ks) (n : ℕ) (δ : TypeTrees) (γ' γ : Thunks) (known : Kinded p kinds δ) (names : TiedBy p (acts_from p n) vars (λ x. x) (λ x. x) δ γ' γ) where
    -- at the type of the parameter
    parameter_acts : (g : Group) (many x j : ℕ) (e : TermTree) (t : TypeTree) → size_of g ≡ many → thunk_at (in_group g γ' δ) x ≡ Some (member g j γ' δ) → body_at g j ≡ Some (with_origins o (shift e 0 many)) → ((k : Kind) × HasKind (setting_of p) (reverse ks) t k) → HasTypeUpTo (setting_with p types) kinds vars e (sub t (arguments (trees_of ts))) → ThunksAct p (acts_from p n) (closed_type t (given_at δ ts)) (closed (var x) (in_group g γ' δ) δ) (closed (with_origins o e) γ δ)
    parameter_acts g many x j e t size at body kind d =
        let own = (type_kinded d.has (sound_with p types sound are_closed) scope).has in
        same_acts sound (from_turns p n) (turned (part_same p δ known sound ts of_kinds kind.1 own d.same)) (thunk_runs p (closed (var x) (in_group g γ' δ) δ)) (thunk_has p (closed (with_origins o e) γ δ))
        (name_acts scope n δ γ' γ known names g many x j e size at body d.has)

    one_name : (u t : TypeTree) (e : TermTree) → AllKinded (setting_of p) (reverse ks) (t ∷ []) → AreGiven (setting_with p types) kinds vars (map (λ t. sub t (arguments (trees_of ts))) (t ∷ [])) (e ∷ []) → NamesAct p o ts n δ γ' γ (u ∷ []) (t ∷ []) (e ∷ [])
    unfolding with_origins
    one_name u t e kind d =
        let g = group_for o (u ∷ []) (e ∷ []) in
        (parameter_acts g 1 0 0 e t refl refl refl kind.0 d.0, tt)

    two_names : (u v t s : TypeTree) (e f : TermTree) → AllKinded (setting_of p) (reverse ks) (t ∷ s ∷ []) → AreGiven (setting_with p types) kinds vars (map (λ t. sub t (arguments (trees_of ts))) (t ∷ s ∷ [])) (e ∷ f ∷ []) → NamesAct p o ts n δ γ' γ (u ∷ v ∷ []) (t ∷ s ∷ []) (e ∷ f ∷ [])
    unfolding with_origins
    two_names u v t s e f kind d =
        let g = group_for o (u ∷ v ∷ []) (e ∷ f ∷ []) in
        (parameter_acts g 2 0 1 f s refl refl refl kind.1.0 d.1.0, (parameter_acts g 2 1 0 e t refl refl refl kind.0 d.0, tt))

    three_names : (u v w t s r : TypeTree) (e f a : TermTree) → AllKinded (setting_of p) (reverse ks) (t ∷ s ∷ r ∷ []) → AreGiven (setting_with p types) kinds vars (map (λ t. sub t (arguments (trees_of ts))) (t ∷ s ∷ r ∷ [])) (e ∷ f ∷ a ∷ []) → NamesAct p o ts n δ γ' γ (u ∷ v ∷ w ∷ []) (t ∷ s ∷ r ∷ []) (e ∷ f ∷ a ∷ [])
    unfolding with_origins
    three_names u v w t s r e f a kind d =
        let g = group_for o (u ∷ v ∷ w ∷ []) (e ∷ f ∷ a ∷ []) in
        (parameter_acts g 3 0 2 a r refl refl refl kind.1.1.0 d.1.1.0, (parameter_acts g 3 1 1 f s refl refl refl kind.1.0 d.1.0, (parameter_acts g 3 2 0 e t refl refl refl kind.0 d.0, tt)))

    -- of a primitive with one, two or three arguments
    pub names_act : (ps : List TypeTree) (es : List TermTree) → length es ≡ length ps → 0 < length ps → length ps < 4 → AllKinded (setting_of p) (reverse ks) ps → AreGiven (setting_with p types) kinds vars (map (λ t. sub t (arguments (trees_of ts))) ps) es → NamesAct p o ts n δ γ' γ (map (at_types ts) ps) ps es
    names_act (t ∷ []) (e ∷ []) many some few kind d = one_name (at_types ts t) t e kind d
    names_act (t ∷ s ∷ []) (e ∷ f ∷ []) many some few kind d = two_names (at_types ts t) (at_types ts s) t s e f kind d
    names_act (t ∷ s ∷ r ∷ []) (e ∷ f ∷ a ∷ []) many some few kind d = three_names (at_types ts t) (at_types ts s) (at_types ts r) t s r e f a kind d
    names_act [] es many some few kind d = absurd (let bad : ⊥ = omega (arith, some) in bad)
    names_act (t ∷ s ∷ r ∷ q ∷ ps) es many some few kind d = absurd (let bad : ⊥ = omega (arith, few) in bad)
    names_act _ _ many some few kind d = absurd cc
