-- A letrec that is the body of a letrec.
use Rattle.std.specs.Prelude.{slice_get}
use Rattle.std.proofs.Common.{◌≡◌, ◌+◌, ◌⊎◌, inl, inr, ℕ, List, length, Some, sym, ap, ◌∙◌, arith}
use Rattle.chw_types.specs.declared.kind.Kind.{Kind}
use Rattle.chw_types.specs.TypeTree.{TypeTree}
use Rattle.chw_types.specs.TypeMoves.{raised}
use Rattle.chw_terms.specs.declared.program.Program.{Program}
use Rattle.chw_terms.specs.TermMoves.{rename}
use Rattle.chw_terms.specs.TermTree.{TermTree, letrec, Group, size_of}
use Rattle.chw_terms.proofs.Renamed.{rename_ids}
use Rattle.chw_typing.specs.Scopes.{AreTermTypes, with_more, declared}
use Rattle.chw_typing.specs.Programs.{AreClosed, IsSound, IsTyped, setting_of}
use Rattle.chw_typing.specs.Typing.{HasType, h_letrec}
use Rattle.chw_typing.proofs.Kinded.{typed_more, bound_typed}
use Rattle.chw_typing.specs.Groups.{joined}
use Rattle.chw_typing.proofs.GroupParts.{size_joined}
use Rattle.rewriting.specs.Shapes.{shift_group}
use Rattle.chw_meaning.specs.Values.{member, Thunks, thunk_at, closed_type, in_group}
use Rattle.chw_meaning.specs.Eval.{e_letrec}
use Rattle.acts.specs.Levels.{term_runs, term_has}
use Rattle.acts.specs.Acts.{acts_from}
use Rattle.acts.specs.Terms.{ActsUnder, OriginsTyped, setting_with}
use Rattle.rewriting.specs.Origins.{with_origins, with_origins_group}
use Rattle.acts.proofs.Filled.{size_declared}
use Rattle.acts.proofs.Levels.{from_turns, runs_more}
use Rattle.act_rules.proofs.Lets.{size_with_origins}
use Rattle.act_rules.proofs.RuleMoves.{same_term_acts}
use Rattle.act_rules.proofs.CasePlaces.{NewOrOuter, new_or_outer, member_at, outside_at}
use Rattle.act_rules.proofs.Groups.{body_origins, body_renamed, size_renamed, first_joined, second_joined, bound_at}
use Rattle.act_rules.proofs.Rights.{member_has, let_runs, outer_tied, right_acts}
use Rattle.act_rules.proofs.Turns.{OuterLooks, MemberLooks, by_turns}

module _ (p : Program) (sound : IsSound (setting_of p)) (typed : IsTyped p) (types : List TypeTree) (o : ℕ → TermTree) (are_closed : AreClosed (setting_of p) types) (have : OriginsTyped p types o) where
  pub let_in_let : {kinds : List Kind} {vars : List TypeTree} {t : TypeTree} (g cs : Group) (x : TermTree) → AreTermTypes (setting_with p types) kinds vars → HasType (setting_with p types) kinds vars (letrec g (letrec cs x)) t → ActsUnder p kinds vars (with_origins o (letrec (joined (shift_group g 0 (size_of cs)) cs) x)) (with_origins o (letrec g (letrec cs x))) t
  unfolding with_origins
  let_in_let {kinds} {vars} {t} g cs x scope (h_letrec {k = kg} (h_letrec {k = kc} dx kt2 bcs) kt bs) n δ γ' γ known names =
      let_runs (from_turns p n) o (closed_type t δ) both x γ' δ (term_has p (with_origins o (letrec g (letrec cs x))) γ δ)
      (runs_more (from_turns p n) (closed_type t δ) (term_runs p (with_origins o x) first δ) (term_has p (with_origins o x) second δ) (term_has p (with_origins o (letrec g (letrec cs x))) γ δ) (λ h v q. (_, e_letrec (e_letrec q.1)))
      (same_term_acts p sound typed types o are_closed have scope_all dx (acts_from p n) (from_turns p n) δ first second known
      (by_turns p vars δ γ' γ all (λ x. x) (λ x. x) members second looks n names)))
    where
      both : Group
      both = joined (shift_group g 0 (size_of cs)) cs

      members : Group
      members = with_origins_group o both

      outer : Group
      outer = with_origins_group o g

      inner : Group
      inner = with_origins_group o cs

      middle : Thunks
      middle = in_group outer γ δ

      first : Thunks
      first = in_group members γ' δ

      second : Thunks
      second = in_group inner middle δ

      between : List TypeTree
      between = with_more (declared g) vars

      all : List TypeTree
      all = with_more (declared cs) between

      scope_between : AreTermTypes (setting_with p types) kinds between
      scope_between = typed_more (setting_with p types) kinds (declared g) vars (bound_typed bs) scope

      scope_all : AreTermTypes (setting_with p types) kinds all
      scope_all = typed_more (setting_with p types) kinds (declared cs) between (bound_typed bcs) scope_between

      size_inner : size_of inner ≡ length (declared cs)
      size_inner = size_with_origins o cs ∙ size_declared cs

      size_outer : size_of outer ≡ length (declared g)
      size_outer = size_with_origins o g ∙ size_declared g

      size_first : size_of (shift_group g 0 (size_of cs)) ≡ length (declared g)
      size_first = size_renamed g (raised 0 (size_of cs)) ∙ size_declared g

      sizes : size_of members ≡ length (declared g) + length (declared cs)
      sizes = size_with_origins o both ∙ size_joined (shift_group g 0 (size_of cs)) cs ∙ (λ i. size_first i + size_declared cs i)

      looks : (x : ℕ) (u : TypeTree) → slice_get all x ≡ Some u → OuterLooks p vars δ γ' γ all (λ x. x) (λ x. x) members second x u ⊎ MemberLooks p vars δ γ' γ all (λ x. x) (λ x. x) members second x u
      looks x u i = of_inner (new_or_outer (declared cs) between x u i)
        where
          of_outer : (y : ℕ) → x ≡ y + length (declared cs) → NewOrOuter (declared g) vars y u → OuterLooks p vars δ γ' γ all (λ x. x) (λ x. x) members second x u ⊎ MemberLooks p vars δ γ' γ all (λ x. x) (λ x. x) members second x u
          of_outer y at (inl (j, place, found)) =
              let one = bound_at bs j u found in
              let moved = rename one.right (raised 0 (size_of cs)) in
              let right = first_joined (shift_group g 0 (size_of cs)) cs j moved (body_renamed g (raised 0 (size_of cs)) j one.right one.is) in
              let there = member outer j γ δ in
              inr (record {
                place = j;
                right = with_origins o moved;
                second = there;
                has_first = member_at members γ' δ x j (omega (arith, at, place, sizes));
                has_right = body_origins o both j moved right;
                has_second = ap (thunk_at second) (at ∙ ap (λ m. y + m) (sym size_inner)) ∙ outside_at inner middle δ y ∙ member_at outer γ δ y j (place ∙ sym size_outer);
                acts = λ m outside inside. right_acts p sound typed types o are_closed have scope_between one.has one.has_kind one.same m (raised 0 (size_of cs)) δ first middle known
                    (outer_tied (declared cs) between (λ x. x) (raised 0 (size_of cs)) inner δ first middle size_inner (λ y. ap (λ m. y + m) (sym (size_declared cs))) inside)
                    there (member_has p outer j (with_origins o one.right) γ δ (body_origins o g j one.right one.is));
              })
          of_outer y at (inr (z, place, found)) =
              inl (λ m outside.
              let k = outside z u found in
              record {
                first = k.first;
                second = k.second;
                has_first = ap (thunk_at first) (let e : x ≡ z + size_of members = omega (arith, at, place, sizes) in e) ∙ outside_at members γ' δ z ∙ k.has_first;
                has_second = ap (thunk_at second) (at ∙ ap (λ m. y + m) (sym size_inner)) ∙ outside_at inner middle δ y ∙ ap (thunk_at middle) (place ∙ ap (λ m. z + m) (sym size_outer)) ∙ outside_at outer γ δ z ∙ k.has_second;
                acts = k.acts;
              })

          of_inner : NewOrOuter (declared cs) between x u → OuterLooks p vars δ γ' γ all (λ x. x) (λ x. x) members second x u ⊎ MemberLooks p vars δ γ' γ all (λ x. x) (λ x. x) members second x u
          of_inner (inl (j, place, found)) =
              let one = bound_at bcs j u found in
              let right = second_joined (shift_group g 0 (size_of cs)) cs j ∙ one.is in
              let there = member inner j middle δ in
              inr (record {
                place = size_of (shift_group g 0 (size_of cs)) + j;
                right = with_origins o (rename one.right (λ x. x));
                second = there;
                has_first = member_at members γ' δ x (size_of (shift_group g 0 (size_of cs)) + j) (omega (arith, place, sizes, size_first));
                has_right = body_origins o both (size_of (shift_group g 0 (size_of cs)) + j) (rename one.right (λ x. x)) (right ∙ ap Some (sym (rename_ids one.right)));
                has_second = member_at inner middle δ x j (place ∙ sym size_inner);
                acts = λ m outside inside. right_acts p sound typed types o are_closed have scope_all one.has one.has_kind one.same m (λ x. x) δ first second known inside
                    there (member_has p inner j (with_origins o one.right) middle δ (body_origins o cs j one.right one.is));
              })
          of_inner (inr (y, at, found)) = of_outer y at (new_or_outer (declared g) vars y u found)
