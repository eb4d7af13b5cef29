-- Heads whose type is the same whatever the variables, and their arguments.
use Rattle.std.proofs.Common.{◌∷◌, ◌≡◌, List, Some, [], length, map, set, subst, suc, refl, zero, ℕ}
use Rattle.std.specs.List.{slice_get}
use Rattle.chw_types.proofs.SameLaws.{same_through}
use Rattle.chw_types.specs.Kinds.{HasFunctions}
use Rattle.chw_types.specs.TypeMoves.{Renaming, raised}
use Rattle.chw_types.specs.TypeTree.{TypeTree}
use Rattle.chw_types.specs.declared.declarations.Data.{Data}
use Rattle.chw_types.specs.declared.kind.Kind.{Kind}
use Rattle.type_laws.proofs.OneKind.{same_kind}
use Rattle.chw_terms.specs.TermMoves.{rename}
use Rattle.chw_terms.specs.TermTree.{TermTree, con, global, made, prim}
use Rattle.chw_terms.specs.TermView.{applied}
use Rattle.chw_terms.specs.declared.term.Arg.{Arg}
use Rattle.chw_terms.specs.declared.term.Arg.TheVariants.{OfTerm, OfType}
use Rattle.chw_typing.proofs.Kinded.{function_parts, type_kinded}
use Rattle.chw_typing.proofs.OneType.{one_type}
use Rattle.chw_typing.proofs.Renamed.{type_renamed}
use Rattle.chw_typing.proofs.SameScopes.{are_same_self}
use Rattle.chw_typing.specs.Laws.{Renames}
use Rattle.chw_typing.specs.Programs.{IsComplete, IsSound}
use Rattle.chw_typing.specs.Scopes.{AreTermTypes, HasKind, Setting, with_more}
use Rattle.chw_typing.specs.Typing.{HasType, HasTypeUpTo, h_con, h_global, h_made, h_prim}
use Rattle.chw_typing.specs.Groups.{rename_arg}
use Rattle.chw_typing.proofs.Applied.{type_applied_kind}
use Rattle.chw_typing.proofs.TypedSpines.{head_typed, kind_kept, spine_typed}
use Rattle.chw_typing.specs.TypedSpines.{AtArguments, at_none, at_term, at_type}
use Rattle.rewriting.specs.Shapes.{shift_args}
use Rattle.rule_types.proofs.Bodies.{renames_past}
use Rattle.rule_types.proofs.Complete.{ArgComplete, ArgsComplete, applied_complete, renamed_complete}

-- a name of a definition, a constructor or a primitive
abbrev pub IsHead : TermTree → Type 0
IsHead (global d) = Unit {0}
IsHead (made m) = Unit {0}
IsHead (con c) = Unit {0}
IsHead (prim p) = Unit {0}
IsHead _ = ⊥

pub head_anywhere : {s : Setting} {kinds : List Kind} {vars : List TypeTree} {u : TypeTree} (h : TermTree) → IsHead h → HasType s kinds vars h u → (vars' : List TypeTree) → HasType s kinds vars' h u
head_anywhere (global d) i (h_global e) vars' = h_global e
head_anywhere (made m) i (h_made e) vars' = h_made e
head_anywhere (con c) i (h_con e) vars' = h_con e
head_anywhere (prim p) i h_prim vars' = h_prim
head_anywhere _ i d vars' = absurd i

pub head_renamed : (h : TermTree) (ρ : Renaming) → IsHead h → rename h ρ ≡ h
unfolding rename
head_renamed (global d) ρ i = refl
head_renamed (made m) ρ i = refl
head_renamed (con c) ρ i = refl
head_renamed (prim p) ρ i = refl
head_renamed _ ρ i = absurd i

pub head_complete : (datas : List Data) (h : TermTree) → IsHead h → IsComplete datas h
head_complete datas (global d) i = tt
head_complete datas (made m) i = tt
head_complete datas (con c) i = tt
head_complete datas (prim p) i = tt
head_complete datas _ i = absurd i

-- arguments where the variables are others
pub args_renamed : {s : Setting} {kinds : List Kind} {vars : List TypeTree} {u t : TypeTree} {args : List Arg} → AtArguments s kinds vars u args t → (ρ : Renaming) (vars' : List TypeTree) → Renames ρ vars vars' → AtArguments s kinds vars' u (map (rename_arg ρ) args) t
args_renamed at_none ρ vars' h = at_none
args_renamed (at_term d x r) ρ vars' h = at_term (type_renamed d ρ vars' h) x (args_renamed r ρ vars' h)
args_renamed (at_type l x k r) ρ vars' h = at_type l x k (args_renamed r ρ vars' h)

-- and one of them is another term that has its type
arg_replaced : {s : Setting} {kinds : List Kind} {vars : List TypeTree} {u t : TypeTree} {args : List Arg} → AtArguments s kinds vars u args t → (ρ : Renaming) (vars' : List TypeTree) → Renames ρ vars vars' → (i : ℕ) (a b : TermTree) → slice_get args i ≡ Some (OfTerm a) → ((c : TypeTree) → HasType s kinds vars a c → HasTypeUpTo s kinds vars' b c) → AtArguments s kinds vars' u (set (map (rename_arg ρ) args) i (OfTerm b)) t
arg_replaced at_none ρ vars' h i a b e f = absurd (cc)
arg_replaced {s} {kinds} {vars} (at_term {c = c} {a = x} d y r) ρ vars' h zero a b e f =
    let is : x ≡ a = cc in
    let of = f c (subst (λ z. HasType s kinds vars z c) is d) in
    at_term of.has (same_through y of.same) (args_renamed r ρ vars' h)
arg_replaced (at_term d y r) ρ vars' h (suc i) a b e f = at_term (type_renamed d ρ vars' h) y (arg_replaced r ρ vars' h i a b e f)
arg_replaced (at_type l x k r) ρ vars' h zero a b e f = absurd (cc)
arg_replaced (at_type l x k r) ρ vars' h (suc i) a b e f = at_type l x k (arg_replaced r ρ vars' h i a b e f)

-- the kind of an argument allows that of the whole
pub arg_allows : {s : Setting} {kinds : List Kind} {vars : List TypeTree} {u t : TypeTree} {args : List Arg} → AtArguments s kinds vars u args t → IsSound s → AreTermTypes s kinds vars → (k : Kind) → HasKind s kinds u k → (i : ℕ) (a : TermTree) → slice_get args i ≡ Some (OfTerm a) → (c : TypeTree) (j : Kind) → HasType s kinds vars a c → HasKind s kinds c j → HasFunctions j k
arg_allows at_none h g k l i a e c j d m = absurd (cc)
arg_allows {s} {kinds} {vars} (at_term {c = b} {a = x} f y r) h g k l zero a e c j d m =
    let is : x ≡ a = cc in
    let parts = function_parts l in
    let same = one_type (subst (λ z. HasType s kinds vars z b) is f) d h g g (are_same_self vars) in
    subst (λ i. HasFunctions i k) (same_kind (same_through y same) parts.1 m) parts.3
arg_allows (at_term f y r) h g k l (suc i) a e c j d m = arg_allows r h g k (function_parts l).2 i a e c j d m
arg_allows (at_type n x q r) h g k l zero a e c j d m = absurd (cc)
arg_allows {s} {kinds} (at_type {j = p} {k = q} {a = o} {b = b} {u = v} n x z r) h g k l (suc i) a e c j d m =
    let is : q ≡ k = type_applied_kind s kinds b o v q p k l n x z in
    arg_allows r h g k (subst (HasKind s kinds v) is z) i a e c j d m

-- what the type of a head with a term among its arguments says
pub record ArgTyped (s : Setting) (vars : List TypeTree) (h : TermTree) (args : List Arg) (i : ℕ) (a : TermTree) (t : TypeTree) : Type 0 where
  pub kind : Kind
  pub has_kind : HasKind s [] t kind
  pub allows : (c : TypeTree) (j : Kind) → HasType s [] vars a c → HasKind s [] c j → HasFunctions j kind
  pub replaced : (new : List TypeTree) (n : ℕ) (b : TermTree) → length new ≡ n → ((c : TypeTree) → HasType s [] vars a c → HasTypeUpTo s [] (with_more new vars) b c) → HasType s [] (with_more new vars) (applied h (set (shift_args args 0 n) i (OfTerm b))) t

pub arg_typed : {s : Setting} {vars : List TypeTree} (h : TermTree) → IsHead h → (args : List Arg) {a : TermTree} {t : TypeTree} (i : ℕ) → IsSound s → AreTermTypes s [] vars → slice_get args i ≡ Some (OfTerm a) → HasType s [] vars (applied h args) t → ArgTyped s vars h args i a t
arg_typed {s} {vars} h q args {a} {t} i sound g e d =
    let head = head_typed s [] vars h args t d in
    let of = type_kinded head.1 sound g in
    record {
      kind = of.kind;
      has_kind = kind_kept head.2 of.kind of.has;
      allows = arg_allows head.2 sound g of.kind of.has i a e;
      replaced = λ new n b l f. spine_typed (arg_replaced head.2 (raised 0 n) (with_more new vars) (renames_past new vars n l) i a b e f) h (head_anywhere h q head.1 (with_more new vars));
    }

pub arg_complete : (datas : List Data) (args : List Arg) (i : ℕ) (a : TermTree) → ArgsComplete datas args → slice_get args i ≡ Some (OfTerm a) → IsComplete datas a
arg_complete datas [] i a h e = absurd (cc)
arg_complete datas (b ∷ args) zero a h e = let is : b ≡ OfTerm a = cc in subst (ArgComplete datas) is h.0
arg_complete datas (b ∷ args) (suc i) a h e = arg_complete datas args i a h.1 e

arg_shifted_complete : (datas : List Data) (n : ℕ) (a : Arg) → ArgComplete datas a → ArgComplete datas (rename_arg (raised 0 n) a)
arg_shifted_complete datas n (OfTerm e) h = renamed_complete datas e (raised 0 n) h
arg_shifted_complete datas n (OfType t) h = tt

pub args_shifted_complete : (datas : List Data) (n : ℕ) (args : List Arg) → ArgsComplete datas args → ArgsComplete datas (shift_args args 0 n)
args_shifted_complete datas n [] h = tt
args_shifted_complete datas n (a ∷ args) h = (arg_shifted_complete datas n a h.0, args_shifted_complete datas n args h.1)

pub args_set_complete : (datas : List Data) (args : List Arg) (i : ℕ) (a : TermTree) → ArgsComplete datas args → IsComplete datas a → ArgsComplete datas (set args i (OfTerm a))
args_set_complete datas [] zero a h f = tt
args_set_complete datas [] (suc i) a h f = tt
args_set_complete datas (b ∷ args) zero a h f = (f, h.1)
args_set_complete datas (b ∷ args) (suc i) a h f = (h.0, args_set_complete datas args i a h.1 f)

pub replaced_complete : (datas : List Data) (e : TermTree) → IsHead e → (args : List Arg) (i n : ℕ) (a : TermTree) → ArgsComplete datas args → IsComplete datas a → IsComplete datas (applied e (set (shift_args args 0 n) i (OfTerm a)))
replaced_complete datas e q args i n a h f =
    applied_complete datas e (set (shift_args args 0 n) i (OfTerm a)) (head_complete datas e q) (args_set_complete datas (shift_args args 0 n) i a (args_shifted_complete datas n args h) f)
