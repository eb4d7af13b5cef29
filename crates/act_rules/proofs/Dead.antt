-- A letrec without the bindings that its body doesn't reach.
use Rattle.std.specs.Prelude.{slice_get}
use Rattle.std.proofs.Common.{◌≡◌, ◌+◌, ◌-◌, ◌<◌, ◌≤◌, ◌⊎◌, inl, inr, ℕ, suc, zero, Bool, true, List, length, reverse, Some, sym, ap, ◌∙◌, subst, arith}
use Rattle.std.proofs.lemmas.Bool.{cases_lt}
use Rattle.chw_types.specs.declared.kind.Kind.{Kind}
use Rattle.chw_types.specs.TypeTree.{TypeTree}
use Rattle.chw_types.specs.TypeMoves.{Renaming}
use Rattle.chw_types.proofs.SameLaws.{same_self}
use Rattle.chw_terms.specs.declared.program.Program.{Program}
use Rattle.chw_terms.specs.Occurs.{occurs}
use Rattle.chw_terms.specs.TermMoves.{rename, rename_group}
use Rattle.chw_terms.specs.TermTree.{TermTree, letrec, Group, no_bindings, bind, size_of}
use Rattle.chw_terms.proofs.Renamed.{rename_rename, rename_ids}
use Rattle.chw_typing.specs.Scopes.{AreTermTypes, with_more, declared}
use Rattle.chw_typing.specs.Programs.{AreClosed, IsSound, IsTyped, setting_of}
use Rattle.chw_typing.specs.Typing.{HasType}
use Rattle.chw_typing.proofs.Kinded.{typed_more, bound_typed, type_kinded}
use Rattle.chw_typing.specs.Groups.{binding_at, from_body, from_side}
use Rattle.chw_typing.proofs.Occurrences.{rename_where}
use Rattle.chw_typing.proofs.Where.{renamed_where}
use Rattle.rewriting.specs.Shapes.{or_body, marked, closed_up}
use Rattle.rewriting.specs.Lets.{MarksReached}
use Rattle.chw_meaning.specs.Values.{member, Thunks, thunk_at, closed_type, in_group, body_at}
use Rattle.chw_meaning.specs.Eval.{Evals, e_letrec}
use Rattle.acts.specs.Levels.{RunsAct, term_runs, term_has, thunk_has}
use Rattle.acts.specs.Acts.{acts_from}
use Rattle.acts.specs.Terms.{ActsUnder, OriginsTyped, setting_with}
use Rattle.rewriting.specs.Origins.{with_origins, with_origins_group}
use Rattle.acts.proofs.Filled.{size_declared}
use Rattle.acts.proofs.Globals.{sound_with}
use Rattle.acts.proofs.Levels.{from_turns}
use Rattle.act_rules.proofs.Lets.{size_with_origins}
use Rattle.act_rules.proofs.CaseNamed.{or_body_runs}
use Rattle.act_rules.proofs.CasePlaces.{NewOrOuter, new_or_outer, member_at, outside_at}
use Rattle.act_rules.proofs.Groups.{body_origins, body_renamed, size_renamed, bound_at, LetTyped, let_typed}
use Rattle.act_rules.proofs.Marks.{opened, stays, outer_stays, outer_was, marked_at, type_was, marked_typed}
use Rattle.act_rules.proofs.Rights.{member_has, renamed_right}
use Rattle.act_rules.proofs.Turns.{OuterLooks, MemberLooks, by_turns}

binding_of : (g : Group) (i : ℕ) (e : TermTree) → body_at g i ≡ Some e → (t : TypeTree) × (binding_at g i ≡ Some (t, e))
binding_of no_bindings i e is = cc
binding_of (bind t x g) zero e is = let same : x ≡ e = cc in (t, ap (λ e. Some (t, e)) same)
binding_of (bind t x g) (suc i) e is = binding_of g i e is

-- a variable comes back where each binding of the group that it may name stays
comes_back : (ms : List Bool) (g : Group) → length ms ≡ size_of g → (x : ℕ) → ((j : ℕ) → x + suc j ≡ size_of g → slice_get ms j ≡ Some true) → opened (reverse ms) (closed_up (reverse ms) x) ≡ x
comes_back ms g size x kept = at (cases_lt x (size_of g))
  where
    at : (x < size_of g) ⊎ (size_of g ≤ x) → opened (reverse ms) (closed_up (reverse ms) x) ≡ x
    at (inl below) =
        let j = size_of g - 1 - x in
        let place : x + suc j ≡ size_of g = omega (arith, below) in
        stays ms x j (kept j place) (place ∙ sym size)
    at (inr above) =
        let z = x - size_of g in
        let is : x ≡ z + length ms = omega (arith, above, size) in
        ap (λ k. opened (reverse ms) (closed_up (reverse ms) k)) is ∙ outer_stays ms z ∙ sym is

module _ (p : Program) (sound : IsSound (setting_of p)) (typed : IsTyped p) (types : List TypeTree) (o : ℕ → TermTree) (are_closed : AreClosed (setting_of p) types) (have : OriginsTyped p types o) where
  pub without_dead : {kinds : List Kind} {vars : List TypeTree} {t : TypeTree} (g : Group) (e : TermTree) (marks : List Bool) → MarksReached g e marks → AreTermTypes (setting_with p types) kinds vars → HasType (setting_with p types) kinds vars (letrec g e) t → ActsUnder p kinds vars (with_origins o (or_body (rename_group (marked marks g) (closed_up (reverse marks))) (rename e (closed_up (reverse marks))))) (with_origins o (letrec g e)) t
  unfolding with_origins
  without_dead {kinds} {vars} {t} g e marks reached scope d n δ γ' γ known names =
      or_body_runs (from_turns p n) o (closed_type t δ) new (rename e down) γ' δ (term_has p (with_origins o (letrec g e)) γ δ)
      (subst (λ b. RunsAct (acts_from p n) (closed_type t δ) (term_runs p (with_origins o b) first δ) (term_has p (with_origins o (letrec g e)) γ δ)) (rename_ids (rename e down))
      (renamed_right p sound typed types o are_closed have scope_fewer (fewer_typed e t whole.has of_body) (type_kinded whole.has (sound_with p types sound are_closed) scope_all).has (same_self t) n (λ x. x) back δ first second known
      (by_turns p vars δ γ' γ fewer (λ x. x) back members second looks n names)
      (term_has p (with_origins o (letrec g e)) γ δ) (λ h v q. (_, e_letrec (subst (λ b. Evals p q.0 (with_origins o b) second δ h v) (as_before e of_body) q.1)))))
    where
      down : Renaming
      down = closed_up (reverse marks)

      back : Renaming
      back = opened (reverse marks)

      kept : Group
      kept = marked marks g

      new : Group
      new = rename_group kept down

      members : Group
      members = with_origins_group o new

      outer : Group
      outer = with_origins_group o g

      first : Thunks
      first = in_group members γ' δ

      second : Thunks
      second = in_group outer γ δ

      all : List TypeTree
      all = with_more (declared g) vars

      fewer : List TypeTree
      fewer = with_more (declared kept) vars

      whole : LetTyped (setting_with p types) kinds vars g e t
      whole = let_typed d

      scope_all : AreTermTypes (setting_with p types) kinds all
      scope_all = typed_more (setting_with p types) kinds (declared g) vars (bound_typed whole.bound) scope

      scope_fewer : AreTermTypes (setting_with p types) kinds fewer
      scope_fewer = typed_more (setting_with p types) kinds (declared kept) vars (marked_typed (setting_with p types) kinds marks g (bound_typed whole.bound)) scope

      size : length marks ≡ size_of g
      size = reached.each_one

      size_outer : size_of outer ≡ size_of g
      size_outer = size_with_origins o g

      size_members : size_of members ≡ size_of kept
      size_members = size_with_origins o new ∙ size_renamed kept down

      of_body : (x : ℕ) → occurs e x ≡ true → back (down x) ≡ x
      of_body x here =
          comes_back marks g size x (λ j place. (reached.reached j (omega (arith, place))).1 (from_body (omega (arith, place)) (ap (occurs e) (let k : size_of g - 1 - j ≡ x = omega (arith, place) in k) ∙ here)))

      of_right : (i : ℕ) (b : TermTree) → slice_get marks i ≡ Some true → i < size_of g → body_at g i ≡ Some b → (x : ℕ) → occurs b x ≡ true → back (down x) ≡ x
      of_right i b mark less is x here =
          let there = binding_of g i b is in
          comes_back marks g size x (λ j place. (reached.reached j (omega (arith, place))).1 (from_side ((reached.reached i less).0 mark) there.1 (omega (arith, place)) (ap (occurs b) (let k : size_of g - 1 - j ≡ x = omega (arith, place) in k) ∙ here)))

      fewer_typed : (b : TermTree) (u : TypeTree) → HasType (setting_with p types) kinds all b u → ((x : ℕ) → occurs b x ≡ true → back (down x) ≡ x) → HasType (setting_with p types) kinds fewer (rename b down) u
      fewer_typed b u db comes = renamed_where db down fewer (λ x v here i. type_was marks g vars (down x) size ∙ ap (slice_get all) (comes x here) ∙ i)

      as_before : (b : TermTree) → ((x : ℕ) → occurs b x ≡ true → back (down x) ≡ x) → rename (rename b down) back ≡ b
      as_before b comes = rename_rename b down back ∙ rename_where b (λ x. back (down x)) (λ x. x) comes ∙ rename_ids b

      looks : (y : ℕ) (u : TypeTree) → slice_get fewer y ≡ Some u → OuterLooks p vars δ γ' γ fewer (λ x. x) back members second y u ⊎ MemberLooks p vars δ γ' γ fewer (λ x. x) back members second y u
      looks y u i = look (new_or_outer (declared kept) vars y u i)
        where
          look : NewOrOuter (declared kept) vars y u → OuterLooks p vars δ γ' γ fewer (λ x. x) back members second y u ⊎ MemberLooks p vars δ γ' γ fewer (λ x. x) back members second y u
          look (inl (j, place, found)) =
              let at = marked_at marks g size j y (place ∙ sym (size_declared kept)) in
              let one = bound_at whole.bound at.place u (sym at.declares ∙ found) in
              let comes = of_right at.place one.right at.is_marked (omega (arith, at.was)) one.is in
              let there = member outer at.place γ δ in
              let moved = rename (rename one.right down) (λ x. x) in
              inr (record {
                place = j;
                right = with_origins o moved;
                second = there;
                has_first = member_at members γ' δ y j (place ∙ sym (size_declared kept) ∙ sym size_members);
                has_right = body_origins o new j moved (body_renamed kept down j one.right (at.right ∙ one.is) ∙ ap Some (sym (rename_ids (rename one.right down))));
                has_second = member_at outer γ δ (back y) at.place (at.was ∙ sym size_outer);
                acts = λ m outside inside. renamed_right p sound typed types o are_closed have scope_fewer (fewer_typed one.right one.type one.has comes) one.has_kind one.same m (λ x. x) back δ first second known inside
                    (thunk_has p there) (λ h v q. member_has p outer at.place (with_origins o one.right) γ δ (body_origins o g at.place one.right one.is) h v (subst (λ b. term_has p (with_origins o b) second δ h v) (as_before one.right comes) q));
              })
          look (inr (z, place, found)) =
              inl (λ m outside.
              let k = outside z u found in
              record {
                first = k.first;
                second = k.second;
                has_first = ap (thunk_at first) (place ∙ ap (λ n. z + n) (sym (size_declared kept) ∙ sym size_members)) ∙ outside_at members γ' δ z ∙ k.has_first;
                has_second = ap (λ w. thunk_at second (back w)) (place ∙ ap (λ n. z + n) (sym (size_declared kept))) ∙ ap (thunk_at second) (outer_was marks g size z ∙ ap (λ n. z + n) (sym size_outer)) ∙ outside_at outer γ δ z ∙ k.has_second;
                acts = k.acts;
              })
