-- Terms that get names, and a body in which these stand for what has what the terms have.
use Rattle.std.specs.Prelude.{slice_get}
use Rattle.std.proofs.Common.{◌≡◌, ◌+◌, inl, inr, ℕ, suc, zero, List, [], ◌∷◌, length, map, Some, refl, sym, ap, ◌∙◌, subst}
use Rattle.std.proofs.lemmas.List.{length-map}
use Rattle.chw_types.specs.declared.kind.Kind.{Kind}
use Rattle.chw_types.specs.TypeTree.{TypeTree, TypeTrees}
use Rattle.chw_types.specs.TypeMoves.{raised}
use Rattle.chw_types.specs.SameTypes.{SameTypes}
use Rattle.chw_types.proofs.SameLaws.{same_turned, same_through}
use Rattle.chw_terms.specs.declared.program.Program.{Program}
use Rattle.chw_terms.specs.TermMoves.{shift}
use Rattle.chw_terms.specs.TermTree.{TermTree, letrec, Group, no_bindings, bind, size_of}
use Rattle.chw_terms.specs.Unrolled.{named}
use Rattle.chw_typing.specs.Scopes.{Setting, AreTermTypes, AreSame, with_more}
use Rattle.chw_typing.specs.Programs.{AreClosed, IsSound, IsTyped, setting_of}
use Rattle.chw_typing.specs.Typing.{HasType}
use Rattle.chw_typing.proofs.Kinded.{typed_more, typed_at, type_kinded}
use Rattle.chw_typing.proofs.Lists.{found_in_map}
use Rattle.chw_typing.specs.Given.{AreGiven}
use Rattle.rewriting.specs.Shapes.{or_body}
use Rattle.chw_meaning.specs.Values.{History, Value, Thunk, member, Thunks, thunk_at, closed_type, in_group, body_at}
use Rattle.chw_meaning.specs.Eval.{Evals, e_letrec, f_member}
use Rattle.chw_meaning.proofs.Once.{same_some}
use Rattle.acts.specs.Levels.{Levels, Second, RunsAct, term_runs, term_has, thunk_runs, thunk_has}
use Rattle.acts.specs.Acts.{acts_from}
use Rattle.acts.specs.Terms.{LooksAlike, TiedBy, Kinded, OriginsTyped, setting_with}
use Rattle.rewriting.specs.Origins.{with_origins, with_origins_group}
use Rattle.acts.proofs.Closing.{closed_same}
use Rattle.acts.proofs.Forms.{TermsAct}
use Rattle.acts.proofs.Globals.{sound_with}
use Rattle.acts.proofs.Levels.{IsLevels, from_turns, cost, runs_more}
use Rattle.acts.proofs.SameActs.{same_acts}
use Rattle.act_rules.proofs.Lets.{size_with_origins, tied_past}
use Rattle.act_rules.proofs.RuleMoves.{moved_acts, same_term_acts}
use Rattle.act_rules.proofs.CasePlaces.{NewOrOuter, new_or_outer, member_at, outside_at}

-- a binding runs as its right side
pub member_runs : {p : Program} {r : Levels} → IsLevels p r → (t : TypeTree) (g : Group) (i : ℕ) (e : TermTree) (γ : Thunks) (δ : TypeTrees) (second : Second) → body_at g i ≡ Some e → RunsAct r t (term_runs p e (in_group g γ δ) δ) second → RunsAct r t (thunk_runs p (member g i γ δ)) second
member_runs {p} l t g i e γ δ second is acts h' h m v al (f_member {n = j} found d) =
    cost l j t v (second h) (acts h' h j v al (subst (λ e2. Evals p j e2 (in_group g γ δ) δ h' v) (same_some found is) d))

-- a body runs in its letrec; where nothing is bound, alone
pub or_body_runs : {p : Program} {r : Levels} → IsLevels p r → (o : ℕ → TermTree) (t : TypeTree) (g : Group) (e : TermTree) (γ : Thunks) (δ : TypeTrees) (second : Second) → RunsAct r t (term_runs p (with_origins o e) (in_group (with_origins_group o g) γ δ) δ) second → RunsAct r t (term_runs p (with_origins o (or_body g e)) γ δ) second
unfolding with_origins
or_body_runs l o t no_bindings e γ δ second acts h' h m v al d = acts h' h m v al d
or_body_runs l o t (bind u a g) e γ δ second acts h' h m v al (e_letrec {n = j} d) = cost l j t v (second h) (acts h' h j v al d)

pub size_named : (us : List TypeTree) (es : List TermTree) → length us ≡ length es → size_of (named us es) ≡ length es
size_named [] [] e = refl
size_named [] (x ∷ es) e = cc
size_named (u ∷ us) [] e = cc
size_named (u ∷ us) (x ∷ es) e = ap suc (size_named us es (cc))

pub body_named : (o : ℕ → TermTree) (us : List TypeTree) (es : List TermTree) (j : ℕ) (e : TermTree) → length us ≡ length es → slice_get es j ≡ Some e → body_at (with_origins_group o (named us es)) j ≡ Some (with_origins o e)
unfolding with_origins
body_named o us [] j e size found = cc
body_named o [] (x ∷ es) j e size found = cc
body_named o (u ∷ us) (x ∷ es) zero e size found = let is : x ≡ e = cc in ap (λ e. Some (with_origins o e)) is
body_named o (u ∷ us) (x ∷ es) (suc j) e size found = body_named o us es j e (cc) found

-- the term for a type, which has that type up to naturals
pub record GivenAt (s : Setting) (kinds : List Kind) (vars : List TypeTree) (es : List TermTree) (j : ℕ) (t : TypeTree) : Type 0 where
  pub term : TermTree
  pub is : slice_get es j ≡ Some term
  pub type : TypeTree
  pub has : HasType s kinds vars term type
  pub same : SameTypes t type

pub given_at : {s : Setting} {kinds : List Kind} {vars : List TypeTree} (fs bnd : List TypeTree) (es : List TermTree) → AreGiven s kinds vars fs es → AreSame fs bnd → (j : ℕ) (t : TypeTree) → slice_get bnd j ≡ Some t → GivenAt s kinds vars es j t
given_at [] [] es given same j t i = cc
given_at [] (b ∷ bnd) es given same j t i = absurd same
given_at (f ∷ fs) [] es given same j t i = absurd same
given_at (f ∷ fs) (b ∷ bnd) [] given same j t i = absurd given
given_at (f ∷ fs) (b ∷ bnd) (e ∷ es) given same zero t i =
    let is : b ≡ t = cc in
    record { term = e; is = refl; type = given.0.type; has = given.0.has; same = subst (λ t. SameTypes t given.0.type) is (same_through (same_turned same.0) given.0.same) }
given_at (f ∷ fs) (b ∷ bnd) (e ∷ es) given same (suc j) t i =
    let one = given_at fs bnd es given.1 same.1 j t i in
    record { term = one.term; is = one.is; type = one.type; has = one.has; same = one.same }

pub given_length : (s : Setting) (kinds : List Kind) (vars : List TypeTree) (fs bnd : List TypeTree) (es : List TermTree) → AreGiven s kinds vars fs es → AreSame fs bnd → length bnd ≡ length es
given_length s kinds vars [] [] [] given same = refl
given_length s kinds vars [] [] (e ∷ es) given same = absurd given
given_length s kinds vars [] (b ∷ bnd) es given same = absurd same
given_length s kinds vars (f ∷ fs) [] es given same = absurd same
given_length s kinds vars (f ∷ fs) (b ∷ bnd) [] given same = absurd given
given_length s kinds vars (f ∷ fs) (b ∷ bnd) (e ∷ es) given same = ap suc (given_length s kinds vars fs bnd es given.1 same.1)

module _ (p : Program) (sound : IsSound (setting_of p)) (typed : IsTyped p) (types : List TypeTree) (o : ℕ → TermTree) (are_closed : AreClosed (setting_of p) types) (have : OriginsTyped p types o) where
  -- in the environment a variable for each term has what the term has, and the others are as outside
  pub record StandFor (es : List TermTree) (γ : Thunks) (δ : TypeTrees) (inner : Thunks) : Type 0 where
    pub names : (x j : ℕ) (e : TermTree) → x + suc j ≡ length es → slice_get es j ≡ Some e → (th : Thunk) × (thunk_at inner x ≡ Some th) × ((h : History) (v : Value) → term_has p (with_origins o e) γ δ h v → thunk_has p th h v)
    pub outer : (y : ℕ) → thunk_at inner (y + length es) ≡ thunk_at γ y

  pub let_of_terms : {kinds : List Kind} (vars : List TypeTree) {e : TermTree} {t : TypeTree} (us fs bnd : List TypeTree) (es : List TermTree) → AreTermTypes (setting_with p types) kinds vars → length us ≡ length es → AreGiven (setting_with p types) kinds vars fs es → AreSame fs bnd → AreTermTypes (setting_with p types) kinds bnd → HasType (setting_with p types) kinds (with_more bnd vars) e t → (n : ℕ) (δ : TypeTrees) (γ' γ : Thunks) → Kinded p kinds δ → TiedBy p (acts_from p n) vars (λ x. x) (λ x. x) δ γ' γ → (inner : Thunks) → StandFor es γ δ inner → TermsAct p (acts_from p n) (closed_type t δ) (with_origins o (or_body (named us (map (λ a. shift a 0 (length es)) es)) e)) γ' δ (with_origins o e) inner δ
  let_of_terms {kinds} vars {e} {t} us fs bnd es g size given same bnd_typed d n δ γ' γ known names inner stand =
      or_body_runs l o (closed_type t δ) group e γ' δ (term_has p (with_origins o e) inner δ)
      (same_term_acts p sound typed types o are_closed have scope d r l δ Γ inner known (λ x u i. look x u (new_or_outer bnd vars x u i)))
    where
      r : Levels
      r = acts_from p n

      l : IsLevels p (acts_from p n)
      l = from_turns p n

      shifted : List TermTree
      shifted = map (λ a. shift a 0 (length es)) es

      group : Group
      group = named us shifted

      members : Group
      members = with_origins_group o group

      Γ : Thunks
      Γ = in_group members γ' δ

      whole : length us ≡ length shifted
      whole = size ∙ sym (length-map es (λ a. shift a 0 (length es)))

      counts : size_of members ≡ length es
      counts = size_with_origins o group ∙ size_named us shifted whole ∙ length-map es (λ a. shift a 0 (length es))

      scope : AreTermTypes (setting_with p types) kinds (with_more bnd vars)
      scope = typed_more (setting_with p types) kinds bnd vars bnd_typed g

      lengths : length bnd ≡ length es
      lengths = given_length (setting_with p types) kinds vars fs bnd es given same

      look : (x : ℕ) (u : TypeTree) → NewOrOuter bnd vars x u → LooksAlike p r (closed_type u δ) x x Γ inner
      look x u (inl (j, place, found)) =
          let one = given_at fs bnd es given same j u found in
          let second = stand.names x j one.term (place ∙ lengths) one.is in
          let full = sound_with p types sound are_closed in
          let moved = moved_acts p sound typed types o are_closed have (raised 0 (length es)) g one.has r l δ Γ γ known (tied_past vars members (length es) δ δ γ' γ counts names) in
          let kind = typed_at (setting_with p types) kinds bnd j u bnd_typed found in
          let alike = closed_same p sound δ known (type_kinded one.has full g).has kind.has (same_turned one.same) in
          let side = same_acts sound l alike (term_runs p (with_origins o (shift one.term 0 (length es))) Γ δ) (term_has p (with_origins o one.term) γ δ) moved in
          record {
            first = member members j γ' δ;
            second = second.0;
            has_first = member_at members γ' δ x j (place ∙ lengths ∙ sym counts);
            has_second = second.1;
            acts = member_runs l (closed_type u δ) members j (with_origins o (shift one.term 0 (length es))) γ' δ (thunk_has p second.0)
                (body_named o us shifted j (shift one.term 0 (length es)) whole (found_in_map (λ a. shift a 0 (length es)) es j one.term one.is))
                (runs_more l (closed_type u δ) (term_runs p (with_origins o (shift one.term 0 (length es))) Γ δ) (term_has p (with_origins o one.term) γ δ) (thunk_has p second.0) second.2 side);
          }
      look x u (inr (y, place, found)) =
          let k = names y u found in
          record {
            first = k.first;
            second = k.second;
            has_first = ap (thunk_at Γ) (place ∙ ap (λ m. y + m) (lengths ∙ sym counts)) ∙ outside_at members γ' δ y ∙ k.has_first;
            has_second = ap (thunk_at inner) (place ∙ ap (λ m. y + m) lengths) ∙ stand.outer y ∙ k.has_second;
            acts = k.acts;
          }
