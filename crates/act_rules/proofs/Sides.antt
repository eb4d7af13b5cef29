-- A letrec that is a right side of a letrec.
use Rattle.std.specs.Prelude.{slice_get}
use Rattle.std.proofs.Common.{◌≡◌, ◌+◌, ◌-◌, ◌<◌, ◌≤◌, ◌⊎◌, inl, inr, ℕ, suc, zero, List, length, Some, refl, sym, ap, ◌∙◌, subst, arith}
use Rattle.std.proofs.lemmas.Bool.{cases_lt}
use Rattle.chw_types.specs.declared.kind.Kind.{Kind}
use Rattle.chw_types.specs.TypeTree.{TypeTree}
use Rattle.chw_types.specs.TypeMoves.{Renaming, raised}
use Rattle.chw_types.proofs.TypeMoved.{raised_below, raised_above}
use Rattle.chw_terms.specs.declared.program.Program.{Program}
use Rattle.chw_terms.specs.TermMoves.{rename, rename_group, shift, exchanged}
use Rattle.chw_terms.specs.TermTree.{TermTree, letrec, Group, bind, size_of}
use Rattle.chw_terms.proofs.Renumbered.{exchanged_first, exchanged_next, exchanged_above}
use Rattle.chw_typing.specs.Scopes.{AreTermTypes, with_more, declared}
use Rattle.chw_typing.specs.Programs.{AreClosed, IsSound, IsTyped, setting_of}
use Rattle.chw_typing.specs.Typing.{HasType}
use Rattle.chw_typing.proofs.Kinded.{typed_more, bound_typed}
use Rattle.chw_typing.specs.Groups.{joined}
use Rattle.chw_typing.proofs.GroupParts.{size_joined}
use Rattle.rewriting.specs.Shapes.{shift_group}
use Rattle.rewriting.specs.Lets.{side_joined}
use Rattle.chw_meaning.specs.Values.{member, Thunks, thunk_at, closed_type, in_group, body_at}
use Rattle.chw_meaning.specs.Eval.{e_letrec}
use Rattle.chw_meaning.proofs.Once.{same_some}
use Rattle.acts.specs.Levels.{RunsAct, term_runs, term_has, thunk_has}
use Rattle.acts.specs.Acts.{acts_from}
use Rattle.acts.specs.Terms.{ActsUnder, OriginsTyped, setting_with}
use Rattle.rewriting.specs.Origins.{with_origins, with_origins_group}
use Rattle.acts.proofs.Filled.{size_declared}
use Rattle.acts.proofs.Levels.{from_turns, runs_more}
use Rattle.act_rules.proofs.Lets.{size_with_origins}
use Rattle.act_rules.proofs.RuleMoves.{moved_acts}
use Rattle.act_rules.proofs.CasePlaces.{NewOrOuter, new_or_outer, member_at, outside_at}
use Rattle.act_rules.proofs.Groups.{body_origins, body_renamed, size_renamed, first_joined, second_joined, joined_below, declared_between, BoundAt, bound_at, LetTyped, let_typed}
use Rattle.act_rules.proofs.Rights.{member_has, let_runs, outer_tied, right_acts}
use Rattle.act_rules.proofs.Turns.{OuterLooks, MemberLooks, by_turns}

-- room for c variables below, after the c change places with the next n
exchanged_up : (c n m : ℕ) → c ≡ m → (y : ℕ) → exchanged c n (y + m) ≡ raised n c y
exchanged_up c n m same y = ap (λ k. exchanged c n (y + k)) (sym same) ∙ at (cases_lt y n)
  where
    at : (y < n) ⊎ (n ≤ y) → exchanged c n (y + c) ≡ raised n c y
    at (inl below) =
        let back : y + c - c ≡ y = omega arith in
        exchanged_next 0 c n (y + c) (omega arith) (omega (arith, below)) ∙ back ∙ sym (raised_below n c y below)
    at (inr above) = exchanged_above 0 c n (y + c) (omega (arith, above)) ∙ sym (raised_above n c y above)

module _ (p : Program) (sound : IsSound (setting_of p)) (typed : IsTyped p) (types : List TypeTree) (o : ℕ → TermTree) (are_closed : AreClosed (setting_of p) types) (have : OriginsTyped p types o) where
  pub let_in_side : {kinds : List Kind} {vars : List TypeTree} {v : TypeTree} (front : Group) (t : TypeTree) (cs : Group) (x : TermTree) (back : Group) (e : TermTree) → AreTermTypes (setting_with p types) kinds vars → HasType (setting_with p types) kinds vars (letrec (joined front (bind t (letrec cs x) back)) e) v → ActsUnder p kinds vars (with_origins o (letrec (side_joined front t cs x back) (shift e (suc (size_of back)) (size_of cs)))) (with_origins o (letrec (joined front (bind t (letrec cs x) back)) e)) v
  unfolding with_origins
  let_in_side {kinds} {vars} {v} front t cs x back e scope d n δ γ' γ known names =
      let_runs (from_turns p n) o (closed_type v δ) new (shift e room c) γ' δ (term_has p (with_origins o (letrec old e)) γ δ)
      (runs_more (from_turns p n) (closed_type v δ) (term_runs p (with_origins o (shift e room c)) first δ) (term_has p (with_origins o e) middle δ) (term_has p (with_origins o (letrec old e)) γ δ) (λ h v q. (_, e_letrec q.1))
      (moved_acts p sound typed types o are_closed have up scope_between whole.has (acts_from p n) (from_turns p n) δ first middle known
      (outer_tied (declared cs) between swap up inner δ first middle size_inner (exchanged_up c room (length (declared cs)) (size_declared cs))
      (by_turns p vars δ γ' γ all swap (λ x. x) members second looks n names))))
    where
      c : ℕ
      c = size_of cs

      room : ℕ
      room = suc (size_of back)

      swap : Renaming
      swap = exchanged c room

      up : Renaming
      up = raised room c

      old : Group
      old = joined front (bind t (letrec cs x) back)

      before : Group
      before = shift_group front room c

      own : Group
      own = rename_group cs swap

      after : Group
      after = bind t (rename x swap) (shift_group back room c)

      new : Group
      new = joined before (joined own after)

      members : Group
      members = with_origins_group o new

      outer : Group
      outer = with_origins_group o old

      inner : Group
      inner = with_origins_group o cs

      middle : Thunks
      middle = in_group outer γ δ

      first : Thunks
      first = in_group members γ' δ

      second : Thunks
      second = in_group inner middle δ

      between : List TypeTree
      between = with_more (declared old) vars

      all : List TypeTree
      all = with_more (declared cs) between

      whole : LetTyped (setting_with p types) kinds vars old e v
      whole = let_typed d

      right_between : body_at old (size_of front) ≡ Some (letrec cs x)
      right_between = ap (body_at old) (let e : size_of front ≡ size_of front + 0 = omega arith in e) ∙ second_joined front (bind t (letrec cs x) back) 0

      side : BoundAt (setting_with p types) kinds between old (size_of front) t
      side = bound_at whole.bound (size_of front) t (declared_between front t (letrec cs x) back)

      own_typed : LetTyped (setting_with p types) kinds between cs x side.type
      own_typed = let_typed (subst (λ e. HasType (setting_with p types) kinds between e side.type) (same_some side.is right_between) side.has)

      scope_between : AreTermTypes (setting_with p types) kinds between
      scope_between = typed_more (setting_with p types) kinds (declared old) vars (bound_typed whole.bound) scope

      scope_all : AreTermTypes (setting_with p types) kinds all
      scope_all = typed_more (setting_with p types) kinds (declared cs) between (bound_typed own_typed.bound) scope_between

      size_inner : size_of inner ≡ length (declared cs)
      size_inner = size_with_origins o cs ∙ size_declared cs

      size_before : size_of before ≡ size_of front
      size_before = size_renamed front up

      size_own : size_of own ≡ c
      size_own = size_renamed cs swap

      size_outer : size_of outer ≡ length (declared old)
      size_outer = size_with_origins o old ∙ size_declared old

      size_old : length (declared old) ≡ size_of front + suc (size_of back)
      size_old = sym (size_declared old) ∙ size_joined front (bind t (letrec cs x) back)

      sizes : size_of members ≡ size_of front + (c + suc (size_of back))
      sizes =
          size_with_origins o new ∙ size_joined before (joined own after) ∙ ap (λ k. size_of before + k) (size_joined own after)
          ∙ (λ i. size_before i + (size_own i + suc (size_renamed back up i)))

      looks : (z : ℕ) (u : TypeTree) → slice_get all z ≡ Some u → OuterLooks p vars δ γ' γ all swap (λ x. x) members second z u ⊎ MemberLooks p vars δ γ' γ all swap (λ x. x) members second z u
      looks z u i = of_inner (new_or_outer (declared cs) between z u i)
        where
          -- a variable outside of cs is where the exchange takes it
          moved_to : (y : ℕ) → z ≡ y + length (declared cs) → swap z ≡ up y
          moved_to y at = ap swap at ∙ exchanged_up c room (length (declared cs)) (size_declared cs) y

          outside_inner : (y : ℕ) → z ≡ y + length (declared cs) → thunk_at second z ≡ thunk_at middle y
          outside_inner y at = ap (thunk_at second) (at ∙ ap (λ m. y + m) (sym size_inner)) ∙ outside_at inner middle δ y

          -- a binding that isn't the one between
          of_other : (y j k : ℕ) (right : TermTree) → z ≡ y + length (declared cs) → y + suc j ≡ length (declared old) → (one : BoundAt (setting_with p types) kinds between old j u) → one.right ≡ right → up y + suc k ≡ size_of members → body_at new k ≡ Some (rename right up) → OuterLooks p vars δ γ' γ all swap (λ x. x) members second z u ⊎ MemberLooks p vars δ γ' γ all swap (λ x. x) members second z u
          of_other y j k right at place one is size found =
              let there = member outer j γ δ in
              inr (record {
                place = k;
                right = with_origins o (rename right up);
                second = there;
                has_first = member_at members γ' δ (swap z) k (ap (λ m. m + suc k) (moved_to y at) ∙ size);
                has_right = body_origins o new k (rename right up) found;
                has_second = outside_inner y at ∙ member_at outer γ δ y j (place ∙ sym size_outer);
                acts = λ m outside inside.
                    let names = outer_tied (declared cs) between swap up inner δ first middle size_inner (exchanged_up c room (length (declared cs)) (size_declared cs)) inside in
                    subst (λ e. RunsAct (acts_from p m) (closed_type u δ) (term_runs p (with_origins o (rename e up)) first δ) (thunk_has p there)) is
                    (right_acts p sound typed types o are_closed have scope_between one.has one.has_kind one.same m up δ first middle known names
                    there (member_has p outer j (with_origins o one.right) γ δ (body_origins o old j one.right one.is)));
              })

          -- the binding between
          of_between : (y j : ℕ) → z ≡ y + length (declared cs) → y + suc j ≡ length (declared old) → j ≡ size_of front → (one : BoundAt (setting_with p types) kinds between old j u) → OuterLooks p vars δ γ' γ all swap (λ x. x) members second z u ⊎ MemberLooks p vars δ γ' γ all swap (λ x. x) members second z u
          of_between y j at place same one =
              let there = member outer j γ δ in
              let right = ap (body_at old) same ∙ right_between in
              let own_side = let_typed (subst (λ e. HasType (setting_with p types) kinds between e one.type) (same_some one.is right) one.has) in
              let k = size_of before + (size_of own + 0) in
              let found = second_joined before (joined own after) (size_of own + 0) ∙ second_joined own after 0 in
              let low : up y ≡ y = raised_below room c y (omega (arith, place, size_old, same)) in
              inr (record {
                place = k;
                right = with_origins o (rename x swap);
                second = there;
                has_first = member_at members γ' δ (swap z) k (ap (λ m. m + suc k) (moved_to y at ∙ low) ∙ omega (arith, place, size_old, same, sizes, size_before, size_own));
                has_right = body_origins o new k (rename x swap) found;
                has_second = outside_inner y at ∙ member_at outer γ δ y j (place ∙ sym size_outer);
                acts = λ m outside inside. right_acts p sound typed types o are_closed have scope_all own_side.has one.has_kind one.same m swap δ first second known inside
                    there (λ h v q. member_has p outer j (with_origins o (letrec cs x)) γ δ (body_origins o old j (letrec cs x) right) h v (_, e_letrec q.1));
              })

          behind : (y j k : ℕ) → z ≡ y + length (declared cs) → y + suc j ≡ length (declared old) → j ≡ size_of front + k → BoundAt (setting_with p types) kinds between old j u → OuterLooks p vars δ γ' γ all swap (λ x. x) members second z u ⊎ MemberLooks p vars δ γ' γ all swap (λ x. x) members second z u
          behind y j zero at place same one = of_between y j at place (omega (arith, same)) one
          behind y j (suc k) at place same one =
              let found = ap (body_at old) (sym same) ∙ one.is in
              let own_found = sym (second_joined front (bind t (letrec cs x) back) (suc k)) ∙ found in
              let low : up y ≡ y = raised_below room c y (omega (arith, place, size_old, same)) in
              of_other y j (size_of before + (size_of own + suc k)) one.right at place one refl
              (ap (λ m. m + suc (size_of before + (size_of own + suc k))) low ∙ omega (arith, place, size_old, same, sizes, size_before, size_own))
              (second_joined before (joined own after) (size_of own + suc k) ∙ second_joined own after (suc k) ∙ body_renamed back up k one.right own_found)

          of_bound : (y j : ℕ) → z ≡ y + length (declared cs) → y + suc j ≡ length (declared old) → BoundAt (setting_with p types) kinds between old j u → (j < size_of front) ⊎ (size_of front ≤ j) → OuterLooks p vars δ γ' γ all swap (λ x. x) members second z u ⊎ MemberLooks p vars δ γ' γ all swap (λ x. x) members second z u
          of_bound y j at place one (inl below) =
              let high : up y ≡ y + c = raised_above room c y (omega (arith, place, size_old, below)) in
              of_other y j j one.right at place one refl
              (ap (λ m. m + suc j) high ∙ omega (arith, place, size_old, sizes))
              (first_joined before (joined own after) j (rename one.right up) (body_renamed front up j one.right (sym (joined_below front (bind t (letrec cs x) back) j below) ∙ one.is)))
          of_bound y j at place one (inr above) = behind y j (j - size_of front) at place (omega (arith, above)) one

          of_outer : (y : ℕ) → z ≡ y + length (declared cs) → NewOrOuter (declared old) vars y u → OuterLooks p vars δ γ' γ all swap (λ x. x) members second z u ⊎ MemberLooks p vars δ γ' γ all swap (λ x. x) members second z u
          of_outer y at (inl (j, place, found)) = of_bound y j at place (bound_at whole.bound j u found) (cases_lt j (size_of front))
          of_outer y at (inr (w, place, found)) =
              let high : up y ≡ y + c = raised_above room c y (omega (arith, place, size_old)) in
              inl (λ m outside.
              let k = outside w u found in
              record {
                first = k.first;
                second = k.second;
                has_first = ap (thunk_at first) (moved_to y at ∙ high ∙ (let e : y + c ≡ w + size_of members = omega (arith, place, size_old, sizes) in e)) ∙ outside_at members γ' δ w ∙ k.has_first;
                has_second = outside_inner y at ∙ ap (thunk_at middle) (place ∙ ap (λ m. w + m) (sym size_outer)) ∙ outside_at outer γ δ w ∙ k.has_second;
                acts = k.acts;
              })

          of_inner : NewOrOuter (declared cs) between z u → OuterLooks p vars δ γ' γ all swap (λ x. x) members second z u ⊎ MemberLooks p vars δ γ' γ all swap (λ x. x) members second z u
          of_inner (inl (j, place, found)) =
              let one = bound_at own_typed.bound j u found in
              let there = member inner j middle δ in
              let k = size_of before + j in
              let low : swap z ≡ z + room = exchanged_first 0 c room z (omega arith) (omega (arith, place, size_declared cs)) in
              inr (record {
                place = k;
                right = with_origins o (rename one.right swap);
                second = there;
                has_first = member_at members γ' δ (swap z) k (ap (λ m. m + suc k) low ∙ omega (arith, place, size_declared cs, sizes, size_before));
                has_right = body_origins o new k (rename one.right swap) (second_joined before (joined own after) j ∙ first_joined own after j (rename one.right swap) (body_renamed cs swap j one.right one.is));
                has_second = member_at inner middle δ z j (place ∙ sym size_inner);
                acts = λ m outside inside. right_acts p sound typed types o are_closed have scope_all one.has one.has_kind one.same m swap δ first second known inside
                    there (member_has p inner j (with_origins o one.right) middle δ (body_origins o cs j one.right one.is));
              })
          of_inner (inr (y, at, found)) = of_outer y at (new_or_outer (declared old) vars y u found)
