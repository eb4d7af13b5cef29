-- The types of cases.
use Rattle.std.proofs.Common.{◌≡◌, ℕ, suc, zero, ◌+◌, ◌<◌, ◌≤◌, Option, refl, sym, ap, subst, List, [], ◌∷◌, ◌++◌, length, take, get_or, arith}
use Rattle.std.specs.Prelude.{Some, None, MatchOption}
use Rattle.std.proofs.lemmas.List.{take_all}
use Rattle.chw_types.specs.declared.kind.Kind.{Kind}
use Rattle.chw_types.specs.TypeTree.{TypeTree}
use Rattle.chw_types.specs.Kinds.{HasFunctions}
use Rattle.chw_types.specs.SameTypes.{SameTypes}
use Rattle.chw_types.proofs.SameLaws.{same_self, same_turned, same_through}
use Rattle.type_laws.proofs.OneKind.{same_kind}
use Rattle.chw_terms.specs.declared.term.Alt.{Alt}
use Rattle.chw_terms.specs.TermTree.{TermTree, case_of, Alts, no_alts, alt}
use Rattle.chw_terms.specs.TermView.{alts_of}
use Rattle.chw_typing.specs.Alternatives.{NoneHidden}
use Rattle.chw_typing.specs.HeadTypes.{IsLookedAt}
use Rattle.chw_typing.specs.Scopes.{Setting, HasKind, with_more}
use Rattle.chw_typing.specs.Typing.{Binds, HasType, h_case, AllGive, none_give, give_and}
use Rattle.chw_typing.proofs.OneType.{one_type}
use Rattle.chw_typing.proofs.Patterns.{binds_same, one_binding, looked_at_same}
use Rattle.chw_typing.proofs.SameScopes.{are_same_self, same_more}
use Rattle.chw_typing.specs.Finding.{f_case}
use Rattle.term_types.specs.Answers.{HasNoType, IsTyped, IsAnswer, IsReady}
use Rattle.term_types.specs.Binding.{BindsFound}
use Rattle.term_types.specs.Cases.{Gives, GivesNothing, GiveTogether, IsJoined}
use Rattle.seen_types.specs.declared.found.Found.{Found}
use Rattle.term_types.proofs.Bound.{binds}
use Rattle.seen_types.proofs.EachItem.{next_taken}
use Rattle.chw_typing.proofs.FoundTyped.{found_is_type}
use Rattle.term_types.proofs.Ready.{one, kept, ready_more}

-- what a derivation for a case says of one alternative
pub record AltGives (s : Setting) (kinds : List Kind) (vars : List TypeTree) (u : TypeTree) (a : Alt) (t : TypeTree) : Type 0 where
  pub bound : List TypeTree
  pub given : TypeTree
  pub binds : Binds s kinds u a.pattern bound
  pub body : HasType s kinds (with_more bound vars) a.body given
  pub same : SameTypes t given

pub record CaseParts (s : Setting) (kinds : List Kind) (vars : List TypeTree) (e : TermTree) (a : Alt) (more : List Alt) (t : TypeTree) : Type 0 where
  pub on : TypeTree
  pub j : Kind
  pub k : Kind
  pub head : HasType s kinds vars e on
  pub looked : IsLookedAt on
  pub kind : HasKind s kinds on j
  pub first : AltGives s kinds vars on a t
  pub result : HasKind s kinds t k
  pub goes : HasFunctions j k
  pub rest : AllGive s kinds vars on t (alts_of more)
  pub hidden : NoneHidden (alts_of (a ∷ more))

case_parts : {s : Setting} {kinds : List Kind} {vars : List TypeTree} {e : TermTree} {t : TypeTree} (a : Alt) (more : List Alt) → HasType s kinds vars (case_of e (alt a.pattern a.body (alts_of more))) t → CaseParts s kinds vars e a more t
case_parts a more (h_case {bound = bound} {u = u} {t = t} {j = j} {k = k} d i l b f m g o n) = record {
  on = u;
  j = j;
  k = k;
  head = d;
  looked = i;
  kind = l;
  first = record { bound = bound; given = t; binds = b; body = f; same = same_self t };
  result = m;
  goes = g;
  rest = o;
  hidden = n;
}

no_case : {s : Setting} {kinds : List Kind} {vars : List TypeTree} {e : TermTree} {t : TypeTree} (alts : Alts) → alts ≡ no_alts → HasType s kinds vars (case_of e alts) t → ⊥
no_case alts is (h_case d i l b f m g o n) = absurd (cc)

give_parts : {s : Setting} {kinds : List Kind} {vars : List TypeTree} {u t : TypeTree} (a : Alt) (more : List Alt) → AllGive s kinds vars u t (alt a.pattern a.body (alts_of more)) → AltGives s kinds vars u a t × AllGive s kinds vars u t (alts_of more)
give_parts a more (give_and {bound = bound} {v = v} b d m rest) = (record { bound = bound; given = v; binds = b; body = d; same = m }, rest)

give_at : {s : Setting} {kinds : List Kind} {vars : List TypeTree} {u t : TypeTree} (alts : List Alt) (i : ℕ) (a d : Alt) → i < length alts → a ≡ get_or alts i d → AllGive s kinds vars u t (alts_of alts) → AltGives s kinds vars u a t
give_at [] i a d l is h = absurd (omega arith)
give_at {s} {kinds} {vars} {u} {t} (b ∷ more) zero a d l is h = subst (λ x. AltGives s kinds vars u x t) (sym is) (give_parts b more h).0
give_at (b ∷ more) (suc i) a d l is h = give_at more i a d (omega arith) is (give_parts b more h).1

-- a derivation for a case, whatever its alternatives
pub record CaseAt (s : Setting) (kinds : List Kind) (vars : List TypeTree) (e : TermTree) (alts : List Alt) (t : TypeTree) : Type 0 where
  pub on : TypeTree
  pub j : Kind
  pub k : Kind
  pub head : HasType s kinds vars e on
  pub looked : IsLookedAt on
  pub kind : HasKind s kinds on j
  pub result : HasKind s kinds t k
  pub goes : HasFunctions j k
  pub each : (i : ℕ) (a d : Alt) → i < length alts → a ≡ get_or alts i d → AltGives s kinds vars on a t
  pub hidden : NoneHidden (alts_of alts)

pub case_at : {s : Setting} {kinds : List Kind} {vars : List TypeTree} {e : TermTree} {t : TypeTree} (alts : List Alt) → HasType s kinds vars (case_of e (alts_of alts)) t → CaseAt s kinds vars e alts t
case_at [] h = absurd (no_case no_alts refl h)
case_at {s} {kinds} {vars} {e} {t} (b ∷ more) h =
    let p = case_parts b more h in
    record { on = p.on; j = p.j; k = p.k; head = p.head; looked = p.looked; kind = p.kind; result = p.result; goes = p.goes; each = λ i a d l is. at p i a d l is; hidden = p.hidden }
  where
    at : (p : CaseParts s kinds vars e b more t) (i : ℕ) (a d : Alt) → i < length (b ∷ more) → a ≡ get_or (b ∷ more) i d → AltGives s kinds vars p.on a t
    at p zero a d l is = subst (λ x. AltGives s kinds vars p.on x t) (sym is) p.first
    at p (suc i) a d l is = give_at more i a d (omega arith) is p.rest

pub case_on : {s : Setting} {kinds : List Kind} {vars : List TypeTree} {e : TermTree} (alts : List Alt) → HasNoType s kinds vars e → HasNoType s kinds vars (case_of e (alts_of alts))
case_on alts never t d = let p = case_at alts d in never p.on p.head

pub case_looked : {s : Setting} {kinds : List Kind} {vars : List TypeTree} {e : TermTree} (alts : List Alt) (on : Found) → IsReady s kinds vars → IsTyped s kinds vars e on → (IsLookedAt on.ty → ⊥) → HasNoType s kinds vars (case_of e (alts_of alts))
case_looked alts on h d never t other = let p = case_at alts other in never (looked_at_same p.on on.ty p.looked (one h p.head (found_is_type d.0)))

pub case_hidden : {s : Setting} {kinds : List Kind} {vars : List TypeTree} {e : TermTree} (alts : List Alt) → (NoneHidden (alts_of alts) → ⊥) → HasNoType s kinds vars (case_of e (alts_of alts))
case_hidden alts never t d = never (case_at alts d).hidden

pub case_empty : {s : Setting} {kinds : List Kind} {vars : List TypeTree} {e : TermTree} (alts : List Alt) → alts ≡ [] → HasNoType s kinds vars (case_of e (alts_of alts))
case_empty alts is t d = no_case (alts_of alts) (ap alts_of is) d

-- an alternative that gives nothing
pub case_alt : {s : Setting} {kinds : List Kind} {vars : List TypeTree} {e : TermTree} (alts : List Alt) (on : Found) (i : ℕ) (a d : Alt) → IsReady s kinds vars → IsTyped s kinds vars e on → i < length alts → a ≡ get_or alts i d → GivesNothing s kinds vars on.ty a → HasNoType s kinds vars (case_of e (alts_of alts))
case_alt alts on i a b h d l is never t other =
    let p = case_at alts other in
    let at = p.each i a b l is in
    never at.bound at.given (binds_same at.binds h.0 p.j on.ty p.kind (one h p.head (found_is_type d.0))) at.body

-- an alternative's type is the same, whatever was found first
alt_type : {s : Setting} {kinds : List Kind} {vars : List TypeTree} {e : TermTree} {t : TypeTree} (alts : List Alt) (on : Found) (i : ℕ) (a d : Alt) (f : Found) → IsReady s kinds vars → IsTyped s kinds vars e on → i < length alts → a ≡ get_or alts i d → Gives s kinds vars on.ty a f → CaseAt s kinds vars e alts t → SameTypes t f.ty
alt_type {s} {kinds} {vars} alts on i a b f h d l is g p =
    let at = p.each i a b l is in
    let bound = one_binding at.binds (binds g.binds) h.0 p.j p.kind (one h p.head (found_is_type d.0)) in
    let left = ready_more s kinds vars at.bound h at.binds.typed in
    let right = ready_more s kinds vars g.bound h g.binds.typed in
    same_through at.same (one_type at.body (found_is_type g.typed.0) h.0 left.1 right.1 (same_more at.bound g.bound vars vars bound (are_same_self vars)))

-- two alternatives of different types
pub case_differs : {s : Setting} {kinds : List Kind} {vars : List TypeTree} {e : TermTree} (alts : List Alt) (on : Found) (i : ℕ) (b d : Alt) (f g : Found) → IsReady s kinds vars → IsTyped s kinds vars e on → (0 < length alts) × Gives s kinds vars on.ty (get_or alts 0 d) f → i < length alts → b ≡ get_or alts i d → Gives s kinds vars on.ty b g → (SameTypes f.ty g.ty → ⊥) → HasNoType s kinds vars (case_of e (alts_of alts))
case_differs alts on i b d f g h t first m at y never w other =
    let p = case_at alts other in
    never (same_through (same_turned (alt_type alts on 0 (get_or alts 0 d) d f h t first.0 refl first.1 p)) (alt_type alts on i b d g h t m at y p))

-- the first alternative's kind doesn't go with that of what is looked at
pub case_kinds : {s : Setting} {kinds : List Kind} {vars : List TypeTree} {e : TermTree} (alts : List Alt) (on : Found) (i : ℕ) (a d : Alt) (f : Found) → IsReady s kinds vars → IsTyped s kinds vars e on → i < length alts → a ≡ get_or alts i d → Gives s kinds vars on.ty a f → (HasFunctions on.kind f.kind → ⊥) → HasNoType s kinds vars (case_of e (alts_of alts))
case_kinds alts on i a b f h d l is g never t other =
    let p = case_at alts other in
    let from : p.j ≡ on.kind = same_kind (one h p.head (found_is_type d.0)) p.kind d.1 in
    let to : p.k ≡ f.kind = same_kind (alt_type alts on i a b f h d l is g p) p.result g.typed.1 in
    never (subst (HasFunctions on.kind) to (subst (λ j. HasFunctions j p.k) from p.goes))

-- the alternatives so far
pub together_first : {s : Setting} {kinds : List Kind} {vars : List TypeTree} (on : Found) (alts : List Alt) (i : ℕ) (f : Found) (d : Alt) → GiveTogether s kinds vars on (take i alts) (Some f) → (0 < length alts) × Gives s kinds vars on.ty (get_or alts 0 d) f
together_first on [] zero f d h = absurd h
together_first on [] (suc i) f d h = absurd h
together_first on (a ∷ more) zero f d h = absurd h
together_first on (a ∷ more) (suc i) f d h = (omega arith, h.0)

give_last : {s : Setting} {kinds : List Kind} {vars : List TypeTree} (u t : TypeTree) (alts : List Alt) (a : Alt) → AllGive s kinds vars u t (alts_of alts) → AltGives s kinds vars u a t → AllGive s kinds vars u t (alts_of (alts ++ a ∷ []))
give_last u t [] a h g = give_and g.binds g.body g.same none_give
give_last {s} {kinds} {vars} u t (b ∷ more) a h g =
    let p = give_parts b more h in
    give_and p.0.binds p.0.body p.0.same (give_last u t more a p.1 g)

next_together : {s : Setting} {kinds : List Kind} {vars : List TypeTree} (on : Found) (xs : List Alt) (a : Alt) (f g : Found) → GiveTogether s kinds vars on xs (Some f) → Gives s kinds vars on.ty a g → SameTypes f.ty g.ty → GiveTogether s kinds vars on (xs ++ a ∷ []) (Some f)
next_together on [] a f g h x e = absurd h
next_together on (b ∷ more) a f g h x e = (h.0, h.1, give_last on.ty f.ty more a h.2 (record { bound = x.bound; given = g.ty; binds = binds x.binds; body = found_is_type x.typed.0; same = e }))

pub together_next : {s : Setting} {kinds : List Kind} {vars : List TypeTree} (on : Found) (alts : List Alt) (i : ℕ) (a d : Alt) (f g : Found) → i < length alts → a ≡ get_or alts i d → GiveTogether s kinds vars on (take i alts) (Some f) → Gives s kinds vars on.ty a g → SameTypes f.ty g.ty → GiveTogether s kinds vars on (take (i + 1) alts) (Some f)
together_next {s} {kinds} {vars} on alts i a d f g l is h x e =
    subst (λ xs. GiveTogether s kinds vars on xs (Some f)) (sym (next_taken alts i a d l is)) (next_together on (take i alts) a f g h x e)

start_together : {s : Setting} {kinds : List Kind} {vars : List TypeTree} (on : Found) (xs : List Alt) (a : Alt) (g : Found) → GiveTogether s kinds vars on xs None → Gives s kinds vars on.ty a g → HasFunctions on.kind g.kind → GiveTogether s kinds vars on (xs ++ a ∷ []) (Some g)
start_together on [] a g h x e = (x, e, none_give)
start_together on (b ∷ more) a g h x e = absurd h

pub together_start : {s : Setting} {kinds : List Kind} {vars : List TypeTree} (on : Found) (alts : List Alt) (i : ℕ) (a d : Alt) (g : Found) → i < length alts → a ≡ get_or alts i d → GiveTogether s kinds vars on (take i alts) None → Gives s kinds vars on.ty a g → HasFunctions on.kind g.kind → GiveTogether s kinds vars on (take (i + 1) alts) (Some g)
together_start {s} {kinds} {vars} on alts i a d g l is h x e =
    subst (λ xs. GiveTogether s kinds vars on xs (Some g)) (sym (next_taken alts i a d l is)) (start_together on (take i alts) a g h x e)

pub together_none : {s : Setting} {kinds : List Kind} {vars : List TypeTree} (on : Found) {e : TermTree} (alts : List Alt) → GiveTogether s kinds vars on alts None → HasNoType s kinds vars (case_of e (alts_of alts))
together_none on [] h = case_empty [] refl
together_none on (a ∷ more) h = absurd h

pub together_typed : {s : Setting} {kinds : List Kind} {vars : List TypeTree} (on : Found) {e : TermTree} (alts : List Alt) (f : Found) → GiveTogether s kinds vars on alts (Some f) → IsTyped s kinds vars e on → IsLookedAt on.ty → NoneHidden (alts_of alts) → IsTyped s kinds vars (case_of e (alts_of alts)) f
together_typed on [] f h d l n = absurd h
together_typed on (a ∷ more) f h d l n = (f_case d.0 l d.1 h.0.binds.pattern h.0.binds.are h.0.binds.typed h.0.typed.0 h.0.typed.1 h.1 h.2 n, h.0.typed.1)

-- one more that is joined with those so far
pub joined_next : {s : Setting} {kinds : List Kind} {vars : List TypeTree} (on : Found) (alts : List Alt) (i : ℕ) (a d : Alt) (given : Option Found) (next f : Found) → i < length alts → a ≡ get_or alts i d → GiveTogether s kinds vars on (take i alts) given → Gives s kinds vars on.ty a next → IsJoined on given next (Some f) → GiveTogether s kinds vars on (take (i + 1) alts) (Some f)
joined_next {s} {kinds} {vars} on alts i a d (Some first) next f l is h g j =
    subst (λ x. GiveTogether s kinds vars on (take (i + 1) alts) (Some x)) (sym j.0) (together_next on alts i a d first next l is h g j.1)
joined_next {s} {kinds} {vars} on alts i a d None next f l is h g j =
    subst (λ x. GiveTogether s kinds vars on (take (i + 1) alts) (Some x)) (sym j.0) (together_start on alts i a d next l is h g j.1)

-- one that can't be joined
pub joined_none : {s : Setting} {kinds : List Kind} {vars : List TypeTree} {e : TermTree} (on : Found) (alts : List Alt) (i : ℕ) (a d : Alt) (given : Option Found) (next : Found) → IsReady s kinds vars → IsTyped s kinds vars e on → i < length alts → a ≡ get_or alts i d → GiveTogether s kinds vars on (take i alts) given → Gives s kinds vars on.ty a next → IsJoined on given next None → HasNoType s kinds vars (case_of e (alts_of alts))
joined_none on alts i a d (Some first) next h t l is so_far g never = case_differs alts on i a d first next h t (together_first on alts i first d so_far) l is g never
joined_none on alts i a d None next h t l is so_far g never = case_kinds alts on i a d next h t l is g never

pub together_told : {s : Setting} {kinds : List Kind} {vars : List TypeTree} {e : TermTree} (on : Found) (alts : List Alt) (i : ℕ) (given : Option Found) → length alts ≤ i → GiveTogether s kinds vars on (take i alts) given → IsTyped s kinds vars e on → IsLookedAt on.ty → NoneHidden (alts_of alts) → IsAnswer s kinds vars (case_of e (alts_of alts)) given
together_told {s} {kinds} {vars} on alts i (Some f) l h t looked hidden =
    together_typed on alts f (subst (λ xs. GiveTogether s kinds vars on xs (Some f)) (take_all i alts l) h) t looked hidden
together_told {s} {kinds} {vars} on alts i None l h t looked hidden =
    together_none on alts (subst (λ xs. GiveTogether s kinds vars on xs None) (take_all i alts l) h)

pub nothing_joined : (on : Found) (given : Option Found) (next : Found) (r : Option Found) → ((f : Found) → r ≡ Some f → ⊥) → IsJoined on given next r → IsJoined on given next None
nothing_joined on given next None never h = h
nothing_joined on given next (Some f) never h = absurd (never f refl)

-- what an alternative gives, by what its body is found to have
pub gives_told : (s : Setting) (kinds : List Kind) (vars : List TypeTree) (u : TypeTree) (a : Alt) (bound : List TypeTree) (j : Kind) (r : Option Found) → IsReady s kinds vars → HasKind s kinds u j → BindsFound s kinds u a.pattern bound → IsAnswer s kinds (with_more bound vars) a.body r → MatchOption r (GivesNothing s kinds vars u a) (λ f. Gives s kinds vars u a f)
gives_told s kinds vars u a bound j (Some f) h k b t = record { bound = bound; binds = b; typed = t }
gives_told s kinds vars u a bound j None h k b never = λ other t c d.
    let same = one_binding c (binds b) h.0 j k (same_self u) in
    let up = kept (ready_more s kinds vars other h c.typed) (ready_more s kinds vars bound h b.typed) (same_more other bound vars vars same (are_same_self vars)) d in
    never up.type up.has
