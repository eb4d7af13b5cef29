-- The examples of programs that are not typed.
use Rattle.std.proofs.Common.{◌≡◌, ℕ, ◌<◌, Bool, ◌⊎◌, inl, inr, refl, ap, subst, List, [], ◌∷◌, length, arith}
use Rattle.std.specs.Prelude.{Option, Some, None, codes}
use Rattle.std.specs.List.{slice_get}
use Rattle.chw_types.specs.declared.declarations.Data.{Data}
use Rattle.type_ports.specs.declared.ports.Leaf.{Leaf}
use Rattle.chw_types.specs.declared.kind.Kind.{Kind}
use Rattle.chw_types.specs.declared.kind.Scalar.{Scalar}
use Rattle.chw_types.specs.declared.kind.Scalar.TheVariants.{U}
use Rattle.chw_types.specs.BuiltIn.{built_in, data_type_of, constructor_of}
use Rattle.type_ports.specs.Ports.{Leaves, one_leaf, leaves_of_fields}
use Rattle.chw_types.specs.SameTypes.{SameTypes}
use Rattle.chw_types.specs.TypeTree.{TypeTree, fun, scalar, nat_lit}
use Rattle.chw_prims.specs.Schemas.{bool}
use Rattle.chw_terms.specs.declared.program.Def.{Def}
use Rattle.type_laws.proofs.SameForms.{as_data}
use Rattle.chw_terms.specs.Constructors.{Constructor, con_at}
use Rattle.chw_terms.specs.declared.term.Pattern.TheVariants.{OfLit}
use Rattle.chw_terms.specs.TermTree.{var, lam, lit, no_alts, alt}
use Rattle.chw_typing.specs.Alternatives.{IsFor, ForAll}
use Rattle.chw_typing.specs.Programs.{LeadsToPort, to_port, from_port}
use Rattle.chw_typing.specs.Typing.{HasType, h_lit}
use Rattle.chw_typing.specs.Scopes.{Setting}
use Rattle.chw_typing.specs.HeadTypes.{literal_type}
use Rattle.chw_typing.specs.Examples.{no, yes, five, con_pattern, bits_of_a}
use Rattle.chw_typing.specs.ProgramExamples.{NoPort, NameMissing, OtherType, Incomplete, NoDefault}

abbrev bool_type : Data
bool_type = data_type_of (codes "Bool") [] (constructor_of (codes "False") [] ∷ constructor_of (codes "True") [] ∷ [])

no_leaf_of_bool : {t : TypeTree} {ls : List Leaf} → Leaves built_in t ls → t ≡ bool → ⊥
no_leaf_of_bool (one_leaf r) e = absurd (cc)
no_leaf_of_bool (leaves_of_fields {d = d} {it = it} {c = c} is l cons fields rest) e =
    let zero : d ≡ 0 = cc in
    let at : slice_get built_in 0 ≡ Some it = subst (λ n. slice_get built_in n ≡ Some it) zero is in
    two (subst (λ i. i.cons ≡ c ∷ []) (first it at) cons)
  where
    first : (it : Data) → slice_get built_in 0 ≡ Some it → it ≡ bool_type
    first it e = cc

    two : constructor_of (codes "False") [] ∷ constructor_of (codes "True") [] ∷ [] ≡ c ∷ [] → ⊥
    two e = absurd (cc)

abbrev number_of_data : Option Constructor → ℕ
number_of_data None = 0
number_of_data (Some it) = it.of

no_lead_of_bool : {t : TypeTree} {m n : ℕ} → LeadsToPort built_in t m n → t ≡ bool → ⊥
no_lead_of_bool (to_port d) e = no_leaf_of_bool d e
no_lead_of_bool (from_port d l) e = absurd (cc)

pub no_port : NoPort
no_port h = let at = h.top in no_lead_of_bool at.2 (ap (λ i. i.ty) (here at.0 at.1))
  where
    here : (it : Def) → Some (record { name = codes "f"; ty = bool; body = yes }) ≡ Some it → it ≡ record { name = codes "f"; ty = bool; body = yes }
    here it e = cc

type_of_literal : {s : Setting} {kinds : List Kind} {vars : List TypeTree} {r : Scalar} {bits : List Bool} {t : TypeTree} → HasType s kinds vars (lit r bits) t → t ≡ literal_type r bits
type_of_literal (h_lit l) = refl

pub other_type : OtherType
other_type h =
    let at = h.bodies 0 _ refl in
    not_scalar (subst (SameTypes bool) (type_of_literal at.has) at.same)
  where
    not_scalar : SameTypes bool (scalar U (nat_lit 8)) → ⊥
    not_scalar x = let is = as_data x in absurd (let e = is.1 in cc)

false_or_true : (c : ℕ) → IsFor c (alt (con_pattern 1 0) no no_alts) → c ≡ 1
false_or_true c (inl e) = e
false_or_true c (inr e) = absurd e

pub incomplete : Incomplete
incomplete h = by (h.complete 0 _ refl).0
  where
    by : ⊥ ⊎ ForAll built_in (alt (con_pattern 1 0) no no_alts) → ⊥
    by (inl e) = e
    by (inr all) =
        let con = false_or_true all.con all.has in
        let is = subst (λ c. con_at built_in c ≡ Some all.it) con all.is in
        let same = ap (λ o. number_of_data o) is in
        absurd (let e : ◌≡◌ {A = ℕ} 0 1 = false_or_true 0 (all.each 0 _ refl same) in cc)

pub no_default : NoDefault
no_default h = by (h.complete 0 _ refl).0
  where
    by : ⊥ ⊎ ForAll built_in (alt (OfLit U five) yes no_alts) → ⊥
    by (inl e) = e
    by (inr all) = all.has

leaves_of_signal : {t : TypeTree} {ls : List Leaf} → Leaves built_in t ls → t ≡ bits_of_a → 0 < length ls
leaves_of_signal (one_leaf r) e = omega arith
leaves_of_signal (leaves_of_fields is l cons fields rest) e = absurd (cc)

no_fewer : {t : TypeTree} {m n : ℕ} → LeadsToPort built_in t m n → t ≡ fun bits_of_a bits_of_a → m ≡ 0 → ⊥
no_fewer (to_port (one_leaf r)) e z = absurd (cc)
no_fewer (to_port (leaves_of_fields is l cons fields rest)) e z = absurd (cc)
no_fewer (from_port {a = a} d l) e z = absurd (omega (arith, leaves_of_signal d (let f : a ≡ bits_of_a = cc in f), z))

pub name_missing : NameMissing
name_missing h = let at = h.top in no_fewer at.2 (ap (λ i. i.ty) (here at.0 at.1)) refl
  where
    here : (it : Def) → Some (record { name = codes "f"; ty = fun bits_of_a bits_of_a; body = lam bits_of_a (var 0) }) ≡ Some it → it ≡ record { name = codes "f"; ty = fun bits_of_a bits_of_a; body = lam bits_of_a (var 0) }
    here it e = cc
