-- The parameters' types of a primitive, closed: by the closed types that it is given, and by those
-- that it is written with.
use Rattle.std.specs.List.{AllByRecursion}
use Rattle.std.proofs.Common.{◌≡◌, ◌<◌, ◌⊎◌, inl, inr, ℕ, suc, zero, true, List, [], ◌∷◌, ◌++◌, length, reverse, refl, sym, ap, ◌∙◌, subst, arith}
use Rattle.std.proofs.lemmas.List.{append-nil, length-reverse}
use Rattle.std.proofs.lemmas.Option.{slice_get_within}
use Rattle.chw_types.specs.declared.kind.Kind.{Kind}
use Rattle.chw_types.specs.declared.kind.Kind.TheVariants.{Nat}
use Rattle.chw_types.specs.declared.declarations.Data.{Data}
use Rattle.chw_types.specs.Arguments.{given, arguments}
use Rattle.chw_types.specs.Kinds.{KindsOf, no_kinds, kind_and}
use Rattle.chw_types.specs.Polynomials.{is_natural}
use Rattle.chw_types.specs.SameTypes.{SameTypes}
use Rattle.chw_types.specs.TypeMoves.{Substitution, sub}
use Rattle.chw_types.specs.TypeTree.{TypeTree, nat_lit, TypeTrees, no_types, type_and}
use Rattle.chw_types.specs.TypeView.{trees_of}
use Rattle.chw_types.proofs.SameLaws.{same_self, same_turned, same_through}
use Rattle.chw_types.proofs.TypeLaws.{sub_sub}
use Rattle.chw_prims.specs.declared.prim.Primitive.{Primitive as Prim}
use Rattle.chw_prims.specs.Schemas.{schema_type}
use Rattle.chw_terms.specs.declared.program.Program.{Program}
use Rattle.chw_terms.proofs.TypesEvaluated.{evaluated_twice}
use Rattle.type_laws.specs.Standing.{InSums}
use Rattle.type_laws.proofs.Arguing.{kinds_of_arguments}
use Rattle.type_laws.proofs.OneKind.{nat_natural, sums_kind}
use Rattle.type_laws.proofs.PutSame.{same_put}
use Rattle.type_laws.proofs.Slots.{sum_slot}
use Rattle.chw_typing.specs.HeadTypes.{for_each, from_each}
use Rattle.chw_typing.specs.Programs.{IsSound, setting_of}
use Rattle.chw_typing.specs.Scopes.{Setting, HasKind}
use Rattle.chw_typing.proofs.EvaluatedTypes.{same_evaluated, kind_evaluated}
use Rattle.chw_typing.proofs.Kinded.{bound_part, function_parts, schema_kind}
use Rattle.chw_typing.proofs.Lists.{turned_onto}
use Rattle.chw_typing.proofs.Patterns.{are_of_terms}
use Rattle.chw_typing.proofs.PutAgreeing.{Agree, put_agreeing}
use Rattle.chw_typing.proofs.PutKinds.{sums_put}
use Rattle.chw_typing.proofs.Saturated.{turned_arguments}
use Rattle.chw_meaning.specs.Values.{type_at, closed_type}
use Rattle.acts.specs.Terms.{Kinded}
use Rattle.acts.proofs.Closing.{closed_kind, puts_closed}
use Rattle.acts.proofs.SameActs.{Same}
use Rattle.act_rules.proofs.Given.{at_env, types_onto, given_at}

-- each of these types has a kind
abbrev pub AllKinded : Setting → List Kind → List TypeTree → Type 0
AllKinded s scope ts = AllByRecursion (λ t. (j : Kind) × HasKind s scope t j) ts

unbound : (s : Setting) (ks scope : List Kind) (t : TypeTree) (k : Kind) → HasKind s scope (for_each ks t) k → HasKind s (reverse ks ++ scope) t k
unbound s [] scope t k d = d
unbound s (j ∷ ks) scope t k d = subst (λ sc. HasKind s sc t k) (sym (turned_onto j ks scope)) (unbound s ks (j ∷ scope) t k (bound_part d).0)

parts_kinded : (s : Setting) (scope : List Kind) (ps : List TypeTree) (r : TypeTree) (k : Kind) → HasKind s scope (from_each ps r) k → AllKinded s scope ps × ((j : Kind) × HasKind s scope r j)
parts_kinded s scope [] r k d = (tt, (k, d))
parts_kinded s scope (a ∷ ps) r k d =
    let at = function_parts d in
    let rest = parts_kinded s scope ps r k at.2 in
    (((at.0, at.1), rest.0), rest.1)

-- the parameters and the result of a primitive's type have kinds
pub schema_parts : (s : Setting) (q : Prim) → IsSound s → (ks : List Kind) (ps : List TypeTree) (r : TypeTree) → schema_type q ≡ for_each ks (from_each ps r) → AllKinded s (reverse ks) ps × ((j : Kind) × HasKind s (reverse ks) r j)
schema_parts s q sound ks ps r is =
    let whole = schema_kind s q sound in
    let opened = unbound s ks [] (from_each ps r) whole.kind (subst (λ t. HasKind s [] t whole.kind) is whole.has) in
    parts_kinded s (reverse ks) ps r whole.kind (subst (λ sc. HasKind s sc (from_each ps r) whole.kind) (append-nil (reverse ks)) opened)

-- a variable's type among those that are given
at_place : (f : TypeTree → TypeTree) (types us : List TypeTree) (ts : TypeTrees) → ((x : ℕ) → x < length us → type_at ts x ≡ f (given us x)) → (x : ℕ) → x < length (reverse types ++ us) → type_at (types_onto f types ts) x ≡ f (given (reverse types ++ us) x)
at_place f [] us ts at x less = at x less
at_place f (t ∷ more) us ts at x less =
    subst (λ zs. x < length zs → type_at (types_onto f (t ∷ more) ts) x ≡ f (given zs x)) (sym (turned_onto t more us)) (at_place f more (t ∷ us) (type_and (f t) ts) further x) less
  where
    further : (x : ℕ) → x < length (t ∷ us) → type_at (type_and (f t) ts) x ≡ f (given (t ∷ us) x)
    further zero less = refl
    further (suc x) less = at x (omega (arith, less))

-- evaluated types are the same as those that aren't
same_at : (δ : TypeTrees) (types : List TypeTree) (ts us : TypeTrees) → ((x : ℕ) → SameTypes (type_at ts x) (type_at us x)) → (x : ℕ) → SameTypes (type_at (types_onto (at_env δ) types ts) x) (type_at (types_onto (λ t. closed_type t δ) types us) x)
same_at δ [] ts us same x = same x
same_at δ (t ∷ more) ts us same x = same_at δ more (type_and (at_env δ t) ts) (type_and (closed_type t δ) us) further x
  where
    further : (x : ℕ) → SameTypes (type_at (type_and (at_env δ t) ts) x) (type_at (type_and (closed_type t δ) us) x)
    further zero = same_turned (same_evaluated (closed_type t δ))
    further (suc x) = same x

many_kinds : {datas : List Data} {domains : ℕ} {scope : List Kind} (types : List TypeTree) {ks : List Kind} → KindsOf datas domains scope (trees_of types) ks → length ks ≡ length types
many_kinds [] no_kinds = refl
many_kinds (t ∷ more) (kind_and d ds) = ap suc (many_kinds more ds)

module _ (p : Program) {kinds : List Kind} (δ : TypeTrees) (known : Kinded p kinds δ) where
  kinded_onto : (types : List TypeTree) {ks : List Kind} (before : List Kind) (ts : TypeTrees) → KindsOf p.datas (length p.domains) kinds (trees_of types) ks → Kinded p before ts → Kinded p (reverse ks ++ before) (types_onto (at_env δ) types ts)
  kinded_onto [] before ts no_kinds done = done
  kinded_onto (t ∷ more) before ts (kind_and {k = k} {ks = ks} d ds) done =
      subst (λ ks. Kinded p ks (types_onto (at_env δ) (t ∷ more) ts)) (sym (turned_onto k ks before))
      (kinded_onto more (k ∷ before) (type_and (at_env δ t) ts) ds (kind_evaluated (closed_kind p δ known d), evaluated_twice (closed_type t δ), done))

  -- the closed types have the parameters' kinds
  pub kinded_given : (types : List TypeTree) {ks : List Kind} → KindsOf p.datas (length p.domains) kinds (trees_of types) ks → Kinded p (reverse ks) (given_at δ types)
  kinded_given types {ks} d = subst (λ ks. Kinded p ks (given_at δ types)) (append-nil (reverse ks)) (kinded_onto types [] no_types d tt)

  -- a part of a primitive's type is the same, whichever way it is closed
  pub part_same : IsSound (setting_of p) → (types : List TypeTree) {ks : List Kind} {t u : TypeTree} {j k : Kind} → KindsOf p.datas (length p.domains) kinds (trees_of types) ks → HasKind (setting_of p) (reverse ks) t j → HasKind (setting_of p) kinds u k → SameTypes (sub t (arguments (trees_of types))) u → Same p (closed_type t (given_at δ types)) (closed_type u δ)
  part_same sound types {ks} {t} {u} {j} {k} have d e x =
      record { first = j; second = k; has_first = closed_kind p (given_at δ types) inside d; has_second = closed_kind p δ known e; same = same_through at_once (subst (λ z. SameTypes z (closed_type u δ)) (sub_sub t σ (type_at δ) ∙ sym placed) closed) }
    where
      inside : Kinded p (reverse ks) (given_at δ types)
      inside = kinded_given types have

      σ : Substitution
      σ = arguments (trees_of types)

      plain : TypeTrees
      plain = types_onto (λ t. closed_type t δ) types no_types

      at_once : SameTypes (closed_type t (given_at δ types)) (closed_type t plain)
      at_once =
          same_put (same_self t) (type_at (given_at δ types)) (type_at plain) (same_at δ types no_types no_types (λ x. same_self (nat_lit 0)))
          (λ y z. nat_natural (are_of_terms (setting_of p) sound) (puts_closed p (reverse ks) (given_at δ types) inside y Nat (sum_slot d d y z)).0 refl)

      agree : Agree (reverse ks) (type_at plain) (λ x. closed_type (σ x) δ)
      agree x i at =
          at_place (λ t. closed_type t δ) types [] no_types (λ y less. absurd (let bad : ⊥ = omega (arith, less) in bad)) x
          (let many = many_kinds types have in omega (arith, many, slice_get_within (reverse ks) x i at, length-reverse ks, length-reverse types, ap length (append-nil (reverse types))))
          ∙ ap (λ zs. closed_type (given zs x) δ) (turned_arguments types)

      placed : closed_type t plain ≡ sub t (λ x. closed_type (σ x) δ)
      placed = put_agreeing d (type_at plain) (λ x. closed_type (σ x) δ) agree

      natural : (y : ℕ) → InSums (sub t σ) y ⊎ InSums u y → is_natural (type_at δ y) ≡ true
      natural y (inl z) = nat_natural (are_of_terms (setting_of p) sound) (puts_closed p kinds δ known y Nat (sums_put d σ kinds (kinds_of_arguments p.datas (length p.domains) kinds ks (trees_of types) have) y z)).0 refl
      natural y (inr z) = nat_natural (are_of_terms (setting_of p) sound) (puts_closed p kinds δ known y Nat (sums_kind e y z)).0 refl

      closed : SameTypes (closed_type (sub t σ) δ) (closed_type u δ)
      closed = same_put x (type_at δ) (type_at δ) (λ y. same_self (type_at δ y)) natural
