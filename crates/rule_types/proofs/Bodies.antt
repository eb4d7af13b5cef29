-- Cases of which each body changes, lets without bindings, and terms below more binders.
use Rattle.std.proofs.Common.{◌∙◌, ◌≡◌, List, [], length, reverse, subst, sym, ℕ}
use Rattle.std.proofs.lemmas.List.{length-reverse}
use Rattle.chw_types.proofs.SameLaws.{same_self, same_through, same_turned}
use Rattle.chw_types.specs.Arguments.{given}
use Rattle.chw_types.specs.Kinds.{HasFunctions}
use Rattle.chw_types.specs.SameTypes.{SameTypes}
use Rattle.chw_types.specs.TypeMoves.{raised}
use Rattle.chw_types.specs.TypeTree.{TypeTree}
use Rattle.chw_types.specs.declared.kind.Kind.{Kind}
use Rattle.chw_terms.specs.TermMoves.{shift}
use Rattle.chw_terms.specs.TermTree.{Alts, Group, TermTree, alt, bind, binders, case_of, letrec, no_bindings}
use Rattle.chw_typing.proofs.Kinded.{type_kinded, typed_more}
use Rattle.chw_typing.proofs.Patterns.{binds}
use Rattle.chw_typing.proofs.Renamed.{renames_shift, type_renamed}
use Rattle.chw_typing.proofs.TermsPut.{kind_same}
use Rattle.chw_typing.specs.Laws.{Renames}
use Rattle.chw_typing.specs.Programs.{IsSound}
use Rattle.chw_typing.specs.Scopes.{AreTermTypes, HasKind, Setting, with_more}
use Rattle.chw_typing.specs.Typing.{AllGive, HasType, HasTypeUpTo, give_and, h_case, h_letrec, none_give}
use Rattle.chw_typing.proofs.GroupParts.{none_hidden_by, patterns_of_each}
use Rattle.chw_typing.specs.Groups.{each_body}
use Rattle.rewriting.specs.Shapes.{or_body}

pub up_to : {s : Setting} {kinds : List Kind} {vars : List TypeTree} {e : TermTree} {t : TypeTree} → HasType s kinds vars e t → HasTypeUpTo s kinds vars e t
up_to {t = t} d = record { type = t; has = d; same = same_self t }

-- up to naturals also for what is the same
pub up_to_same : {s : Setting} {kinds : List Kind} {vars : List TypeTree} {e : TermTree} {t u : TypeTree} → HasTypeUpTo s kinds vars e u → SameTypes t u → HasTypeUpTo s kinds vars e t
up_to_same d x = record { type = d.type; has = d.has; same = same_through x d.same }

-- the variables outside of so many new ones
pub renames_past : (new vars : List TypeTree) (n : ℕ) → length new ≡ n → Renames (raised 0 n) vars (with_more new vars)
renames_past new vars n l =
    subst (λ m. Renames (raised 0 m) vars (with_more new vars)) (length-reverse new ∙ l) (renames_shift [] (reverse new) vars)

pub shifted_more : {s : Setting} {kinds : List Kind} {vars : List TypeTree} {e : TermTree} {t : TypeTree} (new : List TypeTree) (n : ℕ) → length new ≡ n → HasType s kinds vars e t → HasType s kinds (with_more new vars) (shift e 0 n) t
shifted_more {vars = vars} new n l d = type_renamed d (raised 0 n) (with_more new vars) (renames_past new vars n l)

pub or_body_typed : {s : Setting} {kinds : List Kind} {vars : List TypeTree} {e : TermTree} {t : TypeTree} (g : Group) → HasType s kinds vars (letrec g e) t → HasType s kinds vars (or_body g e) t
or_body_typed no_bindings (h_letrec d k b) = d
or_body_typed (bind u r g) d = d

-- a body with one type below binders of a pattern becomes, up to naturals, one with another
abbrev pub BodiesBecome : Setting → List Kind → List TypeTree → TypeTree → TypeTree → (ℕ → TermTree → TermTree) → Type 0
BodiesBecome s kinds vars t t' F =
    (bound : List TypeTree) (n : ℕ) (f : TermTree) (w : TypeTree)
    → length bound ≡ n → AreTermTypes s kinds bound
    → HasType s kinds (with_more bound vars) f w → SameTypes t w
    → HasTypeUpTo s kinds (with_more bound vars) (F n f) t'

each_given : {s : Setting} {kinds : List Kind} {vars : List TypeTree} {u t : TypeTree} {alts : Alts} → AllGive s kinds vars u t alts → (t' v : TypeTree) (F : ℕ → TermTree → TermTree) → BodiesBecome s kinds vars t t' F → SameTypes t' v → AllGive s kinds vars u v (each_body F alts)
each_given none_give t' v F h x = none_give
each_given (give_and {bound = bound} {v = w} {q = q} {e = e} b d y ds) t' v F h x =
    let of = h bound (binders q) e w (binds b) b.typed d y in
    give_and b of.has (same_through (same_turned x) of.same) (each_given ds t' v F h x)

-- a kind that a case may have allows one of the new type
abbrev pub KindsBecome : Setting → List Kind → TypeTree → TypeTree → Type 0
KindsBecome s kinds t t' =
    (i k : Kind) → HasKind s kinds t k → HasFunctions i k
    → (k' : Kind) × HasKind s kinds t' k' × HasFunctions i k'

pub each_case : {s : Setting} {kinds : List Kind} {vars : List TypeTree} {e : TermTree} {alts : Alts} {t : TypeTree} → IsSound s → AreTermTypes s kinds vars → HasType s kinds vars (case_of e alts) t → (t' : TypeTree) (F : ℕ → TermTree → TermTree) → BodiesBecome s kinds vars t t' F → KindsBecome s kinds t t' → HasTypeUpTo s kinds vars (case_of e (each_body F alts)) t'
each_case {s} {kinds} {vars} {t = t} h g (h_case {bound = bound} {q = q} {more = more} {u = u} {f = f} {j = j} {k = k} d look ku b df kt allow given hidden) t' F become kinds_become =
    let of = become bound (binders q) f t (binds b) b.typed df (same_self t) in
    let at = kinds_become j k kt allow in
    let is = type_kinded of.has h (typed_more s kinds bound vars b.typed g) in
    record {
      type = of.type;
      has = h_case d look ku b of.has (kind_same s kinds t' of.type at.0 at.1 is of.same) at.2 (each_given given t' of.type F become of.same)
          (none_hidden_by (alt q f more) (each_body F (alt q f more)) (sym (patterns_of_each F (alt q f more))) hidden);
      same = of.same;
    }
