-- A letrec of which one right side is put for its name.
use Rattle.std.specs.Prelude.{slice_get}
use Rattle.std.proofs.Common.{◌≡◌, ◌≢◌, ◌+◌, ◌-◌, ◌<◌, ◌≤◌, ◌⊎◌, inl, inr, ℕ, suc, zero, true, false, List, ◌∷◌, length, Some, sym, ap, ◌∙◌, subst, arith}
use Rattle.std.proofs.lemmas.Bool.{true≢false, cases_lt, cases_eq}
use Rattle.chw_types.specs.declared.kind.Kind.{Kind}
use Rattle.chw_types.specs.TypeTree.{TypeTree}
use Rattle.chw_types.specs.TypeMoves.{Renaming, raised}
use Rattle.chw_types.proofs.SameLaws.{same_turned}
use Rattle.chw_types.proofs.TypeMoved.{raised_below, raised_above}
use Rattle.chw_terms.specs.declared.program.Program.{Program}
use Rattle.chw_terms.specs.Occurs.{occurs}
use Rattle.chw_terms.specs.TermMoves.{rename, Substitution, sub, sub_group, in_place_of, lowered}
use Rattle.chw_terms.specs.TermTree.{TermTree, var, letrec, Group, bind, size_of}
use Rattle.chw_terms.proofs.Renamed.{rename_rename, rename_ids}
use Rattle.chw_terms.proofs.Renumbered.{lowered_above, lowered_below, in_place_below, in_place_here, in_place_above}
use Rattle.chw_typing.specs.Scopes.{AreTermTypes, with_more, declared}
use Rattle.chw_typing.specs.Programs.{AreClosed, IsSound, IsTyped, setting_of}
use Rattle.chw_typing.specs.Typing.{HasType, AreBound}
use Rattle.chw_typing.proofs.Kinded.{typed_more, bound_typed, type_kinded}
use Rattle.chw_typing.specs.Groups.{joined}
use Rattle.chw_typing.proofs.GroupParts.{size_joined}
use Rattle.chw_typing.proofs.Occurrences.{rename_where}
use Rattle.chw_typing.proofs.Where.{renamed_where}
use Rattle.rewriting.specs.Shapes.{or_body}
use Rattle.chw_meaning.specs.Values.{member, Thunks, thunk_at, closed_type, in_group, body_at}
use Rattle.chw_meaning.specs.Eval.{e_letrec}
use Rattle.chw_meaning.proofs.Once.{same_some}
use Rattle.acts.specs.Levels.{RunsAct, term_runs, term_has, thunk_has}
use Rattle.acts.specs.Acts.{acts_from}
use Rattle.acts.specs.Terms.{LooksAlike, TiedBy, ActsUnder, OriginsTyped, setting_with, StandsFor, ArePut}
use Rattle.rewriting.specs.Origins.{with_origins, with_origins_group}
use Rattle.acts.proofs.Closing.{closed_same}
use Rattle.acts.proofs.Filled.{size_declared}
use Rattle.acts.proofs.Globals.{sound_with}
use Rattle.acts.proofs.Levels.{from_turns, runs_more}
use Rattle.acts.proofs.Puts.{put_terms_act}
use Rattle.acts.proofs.SameActs.{same_acts}
use Rattle.act_rules.proofs.Lets.{size_with_origins}
use Rattle.act_rules.proofs.CaseNamed.{or_body_runs}
use Rattle.act_rules.proofs.CasePlaces.{NewOrOuter, new_or_outer, more_past, name_at, member_at, outside_at}
use Rattle.act_rules.proofs.Groups.{body_origins, body_put, size_put, second_joined, joined_below, declared_between, BoundAt, bound_at, LetTyped, let_typed, others_bound, between_apart, joined_apart}
use Rattle.act_rules.proofs.Rights.{member_has}
use Rattle.act_rules.proofs.Turns.{OuterLooks, MemberLooks, by_turns}

-- a variable other than this one comes back
raised_lowered : (v z : ℕ) → z ≢ v → raised v 1 (lowered v z) ≡ z
raised_lowered v z other = at (cases_lt z v)
  where
    at : (z < v) ⊎ (v ≤ z) → raised v 1 (lowered v z) ≡ z
    at (inl below) = ap (raised v 1) (lowered_below v z (omega (arith, below))) ∙ raised_below v 1 z below
    at (inr above) =
        let back : z - 1 + 1 ≡ z = omega (arith, above, other) in
        ap (raised v 1) (lowered_above v z (omega (arith, above, other))) ∙ raised_above v 1 (z - 1) (omega (arith, above, other)) ∙ back

-- what is put for it is a variable
put_variable : (v z : ℕ) (a : TermTree) → z ≢ v → in_place_of v a z ≡ var (lowered v z)
put_variable v z a other = at (cases_lt z v)
  where
    at : (z < v) ⊎ (v ≤ z) → in_place_of v a z ≡ var (lowered v z)
    at (inl below) = in_place_below v z a below ∙ ap var (sym (lowered_below v z (omega (arith, below))))
    at (inr above) = in_place_above v z a (omega (arith, above, other)) ∙ ap var (sym (lowered_above v z (omega (arith, above, other))))

-- its type stands in the scope without this one
lowered_at : (ts vs : List TypeTree) (t : TypeTree) (z : ℕ) (u : TypeTree) → z ≢ length ts → slice_get (with_more ts (t ∷ vs)) z ≡ Some u → slice_get (with_more ts vs) (lowered (length ts) z) ≡ Some u
lowered_at ts vs t z u other i = at (new_or_outer ts (t ∷ vs) z u i)
  where
    at : NewOrOuter ts (t ∷ vs) z u → slice_get (with_more ts vs) (lowered (length ts) z) ≡ Some u
    at (inl (j, place, found)) = ap (slice_get (with_more ts vs)) (lowered_below (length ts) z (omega (arith, place))) ∙ name_at ts vs z j u place found
    at (inr (zero, place, found)) = absurd (other (omega (arith, place)))
    at (inr (suc y, place, found)) =
        let down : z - 1 ≡ y + length ts = omega (arith, place) in
        ap (slice_get (with_more ts vs)) (lowered_above (length ts) z (omega (arith, place)) ∙ down) ∙ more_past ts vs y ∙ found

module _ (p : Program) (sound : IsSound (setting_of p)) (typed : IsTyped p) (types : List TypeTree) (o : ℕ → TermTree) (are_closed : AreClosed (setting_of p) types) (have : OriginsTyped p types o) where
  pub inlined : {kinds : List Kind} {vars : List TypeTree} {v : TypeTree} (front : Group) (t : TypeTree) (x : TermTree) (back : Group) (e : TermTree) → occurs x (size_of back) ≡ false → AreTermTypes (setting_with p types) kinds vars → HasType (setting_with p types) kinds vars (letrec (joined front (bind t x back)) e) v → ActsUnder p kinds vars (with_origins o (or_body (sub_group (joined front back) (in_place_of (size_of back) (rename x (lowered (size_of back))))) (sub e (in_place_of (size_of back) (rename x (lowered (size_of back))))))) (with_origins o (letrec (joined front (bind t x back)) e)) v
  unfolding with_origins
  inlined {kinds} {vars} {v} front t x back e absent scope d n δ γ' γ known names =
      or_body_runs (from_turns p n) o (closed_type v δ) new (sub e put) γ' δ (term_has p (with_origins o (letrec old e)) γ δ)
      (runs_more (from_turns p n) (closed_type v δ) (term_runs p (with_origins o (sub e put)) first δ) (term_has p (with_origins o e) middle δ) (term_has p (with_origins o (letrec old e)) γ δ) (λ h v q. (_, e_letrec q.1))
      (put_acts e v whole.has n (by_turns p vars δ γ' γ fewer (λ x. x) up members middle looks n names)))
    where
      b : ℕ
      b = size_of back

      value : TermTree
      value = rename x (lowered b)

      put : Substitution
      put = in_place_of b value

      up : Renaming
      up = raised b 1

      old : Group
      old = joined front (bind t x back)

      rest : Group
      rest = joined front back

      new : Group
      new = sub_group rest put

      members : Group
      members = with_origins_group o new

      outer : Group
      outer = with_origins_group o old

      middle : Thunks
      middle = in_group outer γ δ

      first : Thunks
      first = in_group members γ' δ

      all : List TypeTree
      all = with_more (declared old) vars

      fewer : List TypeTree
      fewer = with_more (declared rest) vars

      whole : LetTyped (setting_with p types) kinds vars old e v
      whole = let_typed d

      others : AreBound (setting_with p types) kinds all whole.kind rest
      others = others_bound front back t x whole.bound

      scope_all : AreTermTypes (setting_with p types) kinds all
      scope_all = typed_more (setting_with p types) kinds (declared old) vars (bound_typed whole.bound) scope

      scope_fewer : AreTermTypes (setting_with p types) kinds fewer
      scope_fewer = typed_more (setting_with p types) kinds (declared rest) vars (bound_typed others) scope

      side : BoundAt (setting_with p types) kinds all old (size_of front) t
      side = bound_at whole.bound (size_of front) t (declared_between front t x back)

      right_between : body_at old (size_of front) ≡ Some x
      right_between = ap (body_at old) (let e : size_of front ≡ size_of front + 0 = omega arith in e) ∙ second_joined front (bind t x back) 0

      side_typed : HasType (setting_with p types) kinds all x side.type
      side_typed = subst (λ e. HasType (setting_with p types) kinds all e side.type) (same_some side.is right_between) side.has

      size_outer : size_of outer ≡ size_of front + suc b
      size_outer = size_with_origins o old ∙ size_joined front (bind t x back)

      size_rest : length (declared rest) ≡ size_of front + b
      size_rest = sym (size_declared rest) ∙ size_joined front back

      size_members : size_of members ≡ size_of front + b
      size_members = size_with_origins o new ∙ size_put rest put ∙ size_joined front back

      -- where the types of the others are
      type_lowered : (z : ℕ) (u : TypeTree) → z ≢ b → slice_get all z ≡ Some u → slice_get fewer (lowered b z) ≡ Some u
      type_lowered z u other i =
          let outside = with_more (declared front) vars in
          ap (slice_get fewer) (ap (λ k. lowered k z) (size_declared back))
          ∙ ap (λ us. slice_get us (lowered (length (declared back)) z)) (joined_apart front back vars)
          ∙ lowered_at (declared back) outside t z u (λ same. other (same ∙ sym (size_declared back))) (ap (λ us. slice_get us z) (sym (between_apart front back t x vars)) ∙ i)

      type_here : (z : ℕ) (u : TypeTree) → z ≡ b → slice_get all z ≡ Some u → t ≡ u
      type_here z u same i =
          let outside = with_more (declared front) vars in
          let at : z ≡ 0 + length (declared back) = omega (arith, same, size_declared back) in
          let there = ap (λ us. slice_get us z) (between_apart front back t x vars) ∙ ap (slice_get (with_more (declared back) (t ∷ outside))) at ∙ more_past (declared back) (t ∷ outside) 0 in
          same_some there i

      is_other : (z : ℕ) → occurs x z ≡ true → z ≢ b
      is_other z here same = true≢false (sym here ∙ ap (occurs x) same ∙ absent)

      value_typed : HasType (setting_with p types) kinds fewer value side.type
      value_typed = renamed_where side_typed (lowered b) fewer (λ z u here i. type_lowered z u (is_other z here) i)

      as_before : rename value up ≡ x
      as_before = rename_rename x (lowered b) up ∙ rename_where x (λ z. up (lowered b z)) (λ z. z) (λ z here. raised_lowered b z (is_other z here)) ∙ rename_ids x

      place_between : thunk_at middle b ≡ Some (member outer (size_of front) γ δ)
      place_between = member_at outer γ δ b (size_of front) (omega (arith, size_outer))

      stands : (m : ℕ) → TiedBy p (acts_from p m) fewer (λ x. x) up δ first middle → StandsFor p types o kinds (acts_from p m) t value b δ first middle
      stands m inside =
          record {
            vars = fewer;
            body = value;
            type = side.type;
            first = λ x. x;
            second = up;
            is = sym (rename_ids value);
            in_scope = scope_fewer;
            typed = value_typed;
            same = same_turned side.same;
            thunk = member outer (size_of front) γ δ;
            held = place_between;
            env = middle;
            names = inside;
            has = λ h v q. member_has p outer (size_of front) (with_origins o x) γ δ (body_origins o old (size_of front) x right_between) h v (subst (λ e. term_has p (with_origins o e) middle δ h v) as_before q);
          }

      are_put : (m : ℕ) → TiedBy p (acts_from p m) fewer (λ x. x) up δ first middle → ArePut p types o kinds (acts_from p m) all put (λ x. x) δ first middle
      are_put m inside z u i = at (cases_eq z b)
        where
          at : (z ≡ b) ⊎ (z ≢ b) → ((y : ℕ) × (put z ≡ var y) × LooksAlike p (acts_from p m) (closed_type u δ) y z first middle) ⊎ StandsFor p types o kinds (acts_from p m) u (put z) z δ first middle
          at (inl same) =
              inr (subst (λ y. StandsFor p types o kinds (acts_from p m) u (put z) y δ first middle) (sym same)
              (subst (λ e. StandsFor p types o kinds (acts_from p m) u e b δ first middle) (sym (in_place_here b z value same))
              (subst (λ w. StandsFor p types o kinds (acts_from p m) w value b δ first middle) (type_here z u same i) (stands m inside))))
          at (inr other) =
              let k = inside (lowered b z) u (type_lowered z u other i) in
              inl (lowered b z, put_variable b z value other, record { first = k.first; second = k.second; has_first = k.has_first; has_second = ap (thunk_at middle) (sym (raised_lowered b z other)) ∙ k.has_second; acts = k.acts })

      put_acts : (a : TermTree) (u : TypeTree) → HasType (setting_with p types) kinds all a u → (m : ℕ) → TiedBy p (acts_from p m) fewer (λ x. x) up δ first middle → RunsAct (acts_from p m) (closed_type u δ) (term_runs p (with_origins o (sub a put)) first δ) (term_has p (with_origins o a) middle δ)
      put_acts a u da m inside =
          subst (λ e. RunsAct (acts_from p m) (closed_type u δ) (term_runs p (with_origins o (sub a put)) first δ) (term_has p (with_origins o e) middle δ)) (rename_ids a)
          (put_terms_act p sound typed types o are_closed have put (λ x. x) scope_all da m δ first middle known (are_put m inside))

      looks : (y : ℕ) (u : TypeTree) → slice_get fewer y ≡ Some u → OuterLooks p vars δ γ' γ fewer (λ x. x) up members middle y u ⊎ MemberLooks p vars δ γ' γ fewer (λ x. x) up members middle y u
      looks y u i = look (new_or_outer (declared rest) vars y u i)
        where
          of_binding : (j k : ℕ) → y + suc j ≡ length (declared rest) → (one : BoundAt (setting_with p types) kinds all rest j u) → up y + suc k ≡ size_of outer → body_at old k ≡ Some one.right → OuterLooks p vars δ γ' γ fewer (λ x. x) up members middle y u ⊎ MemberLooks p vars δ γ' γ fewer (λ x. x) up members middle y u
          of_binding j k place one at is =
              let there = member outer k γ δ in
              let full = sound_with p types sound are_closed in
              inr (record {
                place = j;
                right = with_origins o (sub one.right put);
                second = there;
                has_first = member_at members γ' δ y j (place ∙ size_rest ∙ sym size_members);
                has_right = body_origins o new j (sub one.right put) (body_put rest put j one.right one.is);
                has_second = member_at outer γ δ (up y) k at;
                acts = λ m outside inside.
                    let alike = closed_same p sound δ known (type_kinded one.has full scope_all).has one.has_kind (same_turned one.same) in
                    runs_more (from_turns p m) (closed_type u δ) (term_runs p (with_origins o (sub one.right put)) first δ) (term_has p (with_origins o one.right) middle δ) (thunk_has p there) (member_has p outer k (with_origins o one.right) γ δ (body_origins o old k one.right is))
                    (same_acts sound (from_turns p m) alike (term_runs p (with_origins o (sub one.right put)) first δ) (term_has p (with_origins o one.right) middle δ) (put_acts one.right one.type one.has m inside));
              })

          of_place : (j : ℕ) → y + suc j ≡ length (declared rest) → BoundAt (setting_with p types) kinds all rest j u → (j < size_of front) ⊎ (size_of front ≤ j) → OuterLooks p vars δ γ' γ fewer (λ x. x) up members middle y u ⊎ MemberLooks p vars δ γ' γ fewer (λ x. x) up members middle y u
          of_place j place one (inl below) =
              let high : up y ≡ y + 1 = raised_above b 1 y (omega (arith, place, size_rest, below)) in
              of_binding j j place one (ap (λ m. m + suc j) high ∙ omega (arith, place, size_rest, size_outer))
              (joined_below front (bind t x back) j below ∙ sym (joined_below front back j below) ∙ one.is)
          of_place j place one (inr above) =
              let k = j - size_of front in
              let is : j ≡ size_of front + k = omega (arith, above) in
              let low : up y ≡ y = raised_below b 1 y (omega (arith, place, size_rest, above)) in
              of_binding j (size_of front + suc k) place one (ap (λ m. m + suc (size_of front + suc k)) low ∙ omega (arith, place, size_rest, size_outer, is))
              (second_joined front (bind t x back) (suc k) ∙ sym (second_joined front back k) ∙ ap (body_at rest) (sym is) ∙ one.is)

          look : NewOrOuter (declared rest) vars y u → OuterLooks p vars δ γ' γ fewer (λ x. x) up members middle y u ⊎ MemberLooks p vars δ γ' γ fewer (λ x. x) up members middle y u
          look (inl (j, place, found)) = of_place j place (bound_at others j u found) (cases_lt j (size_of front))
          look (inr (z, place, found)) =
              let high : up y ≡ y + 1 = raised_above b 1 y (omega (arith, place, size_rest)) in
              inl (λ m outside.
              let k = outside z u found in
              record {
                first = k.first;
                second = k.second;
                has_first = ap (thunk_at first) (let e : y ≡ z + size_of members = omega (arith, place, size_rest, size_members) in e) ∙ outside_at members γ' δ z ∙ k.has_first;
                has_second = ap (thunk_at middle) (high ∙ (let e : y + 1 ≡ z + size_of outer = omega (arith, place, size_rest, size_outer) in e)) ∙ outside_at outer γ δ z ∙ k.has_second;
                acts = k.acts;
              })
