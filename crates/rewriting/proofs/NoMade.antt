-- Where no made definition occurs, none is needed: whatever is put for them, the term is as it was.
use Rattle.std.proofs.Common.{◌≡◌, ℕ, refl, sym, ap, subst, List, []}
use Rattle.std.specs.Prelude.{unwrap_or}
use Rattle.std.specs.List.{slice_get}
use Rattle.chw_types.specs.declared.kind.Kind.{Kind}
use Rattle.chw_types.specs.declared.kind.Kind.TheVariants.{Val, Cir}
use Rattle.chw_types.specs.Kinds.{IsOfTerms, HasFunctions}
use Rattle.chw_types.specs.TypeTree.{TypeTree, nat_lit}
use Rattle.chw_types.proofs.SameLaws.{same_self}
use Rattle.chw_terms.specs.TermTree.{TermTree, var, letrec, no_bindings, bind}
use Rattle.chw_typing.specs.Scopes.{Setting, IsTermType, AreTermTypes}
use Rattle.chw_typing.specs.Programs.{IsSound}
use Rattle.chw_typing.specs.Typing.{HasType, h_var, h_letrec, none_bound, bound_and, HasTypeUpTo}
use Rattle.rewriting.specs.SceneLaws.{with_only_made, AreOfMade}
use Rattle.rewriting.specs.Origins.{HoldsNoMade}
use Rattle.rewriting.proofs.PutMade.{made_put, moved_one}

allows_itself : (k : Kind) → IsOfTerms k → HasFunctions k k
allows_itself Val h = tt
allows_itself Cir h = tt
allows_itself _ h = absurd h

-- `letrec { x : t = x; } in x` has the type t without made definitions
abbrev endless : TypeTree → TermTree
endless t = letrec (bind t (var 0) no_bindings) (var 0)

endless_typed : (s : Setting) (t : TypeTree) → IsTermType s [] t → HasType s [] [] (endless t) t
endless_typed s t h = h_letrec (h_var refl) h.has (bound_and h.has (allows_itself h.kind h.of_terms) (h_var refl) (same_self t) none_bound)

-- such a term for each made definition
abbrev stand_in : Setting → ℕ → TermTree
stand_in s m = endless (unwrap_or (slice_get s.made m) (nat_lit 0))

stand_ins_typed : (s : Setting) → IsSound s → AreOfMade s (with_only_made s []) (stand_in s)
stand_ins_typed s h m u e =
    let is : stand_in s m ≡ endless u = ap (λ o. endless (unwrap_or o (nat_lit 0))) e in
    record {
      type = u;
      has = subst (λ x. HasType (with_only_made s []) [] [] x u) (sym is) (endless_typed (with_only_made s []) u (moved_one s [] [] u (h.made m u e)));
      same = same_self u;
    }

pub sound_alone : (s : Setting) → IsSound s → IsSound (with_only_made s [])
sound_alone s h =
    record {
      begins = h.begins;
      kinds = h.kinds;
      fields = λ d it t e f. moved_one s [] _ t (h.fields d it t e f);
      defs = λ d t e. moved_one s [] [] t (h.defs d t e);
      made = λ m t e. absurd cc;
    }

pub no_made_typed : (s : Setting) (kinds : List Kind) (vars : List TypeTree) (e : TermTree) (t : TypeTree) → IsSound s → AreTermTypes s kinds vars → HoldsNoMade e → HasType s kinds vars e t → HasTypeUpTo (with_only_made s []) kinds vars e t
no_made_typed s kinds vars e t h g none d =
    subst (λ x. HasTypeUpTo (with_only_made s []) kinds vars x t) (none (stand_in s)) (made_put d h [] (sound_alone s h) (stand_in s) (stand_ins_typed s h) g)
