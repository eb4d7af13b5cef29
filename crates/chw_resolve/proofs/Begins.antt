-- The built-in data types stand first in a program whose data types have their kinds.
use Rattle.std.proofs.Common.{◌≡◌, ℕ, zero, suc, List, [], ◌∷◌, ◌++◌, map, Some, refl, sym, ap, ◌∙◌, subst, reverse}
use Rattle.std.specs.List.{slice_get}
use Rattle.std.proofs.lemmas.Option.{none-some, same_Some}
use Rattle.chw_types.specs.declared.kind.Kind.{Kind}
use Rattle.chw_types.specs.declared.kind.Kind.TheVariants.{Val, Cir}
use Rattle.chw_types.specs.declared.declarations.ConDecl.{ConDecl}
use Rattle.chw_types.specs.declared.declarations.Data.{Data}
use Rattle.chw_types.specs.TypeTree.{TypeTree}
use Rattle.chw_types.specs.BuiltIn.{built_in}
use Rattle.chw_types.specs.Kinds.{KindOf, kind_var}
use Rattle.chw_types.proofs.KindsFound.{one_kind}
use Rattle.chw_terms.specs.Tidy.{HasCircuit, HasItsKind}
use Rattle.chw_resolve.specs.Programs.{without_kind}

-- no field is a circuit: each is a value
abbrev AreValues : List Data → ℕ → List Kind → List TypeTree → Type 0
AreValues datas domains scope [] = Unit {0}
AreValues datas domains scope (t ∷ ts) = KindOf datas domains scope t Val × AreValues datas domains scope ts

abbrev HoldValues : List Data → ℕ → List Kind → List ConDecl → Type 0
HoldValues datas domains scope [] = Unit {0}
HoldValues datas domains scope (c ∷ cs) = AreValues datas domains scope c.fields × HoldValues datas domains scope cs

abbrev OfValues : List Data → ℕ → List Data → Type 0
OfValues datas domains [] = Unit {0}
OfValues datas domains (it ∷ its) = HoldValues datas domains (reverse it.params) it.cons × OfValues datas domains its

built_in_values : (datas : List Data) (domains : ℕ) → OfValues datas domains built_in
built_in_values datas domains = ((tt, (tt, tt)), ((tt, ((kind_var refl, tt), tt)), (((kind_var refl, (kind_var refl, tt)), tt), tt)))

module _ (datas : List Data) (domains : ℕ) where
  value_at : (scope : List Kind) (ts : List TypeTree) (i : ℕ) (t : TypeTree) → AreValues datas domains scope ts → slice_get ts i ≡ Some t → KindOf datas domains scope t Val
  value_at scope [] i t values h = absurd (none-some t h)
  value_at scope (u ∷ us) zero t values h = subst (λ (x : TypeTree). KindOf datas domains scope x Val) (same_Some u t h) values.0
  value_at scope (u ∷ us) (suc i) t values h = value_at scope us i t values.1 h

  values_at : (scope : List Kind) (cs : List ConDecl) (i : ℕ) (c : ConDecl) → HoldValues datas domains scope cs → slice_get cs i ≡ Some c → AreValues datas domains scope c.fields
  values_at scope [] i c values h = absurd (none-some c h)
  values_at scope (d ∷ ds) zero c values h = subst (λ (x : ConDecl). AreValues datas domains scope x.fields) (same_Some d c h) values.0
  values_at scope (d ∷ ds) (suc i) c values h = values_at scope ds i c values.1 h

  no_circuit : (it : Data) → HoldValues datas domains (reverse it.params) it.cons → HasCircuit datas domains it → ⊥
  no_circuit it values c =
      let scope = reverse it.params in
      let value : KindOf datas domains scope c.0 Val = value_at scope c.1.of.fields c.1.at c.0 (values_at scope it.cons c.1.con c.1.of values c.1.is_con) c.1.is_field in
      let same : Val ≡ Cir = one_kind value c.2 in
      cc

  -- a data type that holds values only, and has its kind, is as it was without a kind
  as_declared : (it own : Data) → without_kind it ≡ own → HoldValues datas domains (reverse own.params) own.cons → HasItsKind datas domains it → it ≡ own
  as_declared it own e values its =
      let held : HoldValues datas domains (reverse it.params) it.cons = subst (λ (x : Data). HoldValues datas domains (reverse x.params) x.cons) (sym e) values in
      let kind : it.kind ≡ own.kind = its.values (no_circuit it held) ∙ ap (λ (x : Data). x.kind) e in
      (λ i. record { name = (e i).name; params = (e i).params; kind = kind i; cons = (e i).cons })

  same_head : (x y : Data) (xs ys : List Data) → x ∷ xs ≡ y ∷ ys → x ≡ y
  same_head x y xs ys e = cc

  same_tail : (x y : Data) (xs ys : List Data) → x ∷ xs ≡ y ∷ ys → xs ≡ ys
  same_tail x y xs ys e = cc

  begins_with : (its first rest : List Data) → map without_kind its ≡ first ++ rest → OfValues datas domains first
      → ((d : ℕ) (it : Data) → slice_get its d ≡ Some it → HasItsKind datas domains it) → (declared : List Data) × (its ≡ first ++ declared)
  begins_with its [] rest e values kinds = (its, refl)
  begins_with [] (own ∷ first) rest e values kinds = absurd (cc)
  begins_with (it ∷ its) (own ∷ first) rest e values kinds =
      let more = begins_with its first rest (same_tail (without_kind it) own (map without_kind its) (first ++ rest) e) values.1 (λ d x h. kinds (suc d) x h) in
      let here = as_declared it own (same_head (without_kind it) own (map without_kind its) (first ++ rest) e) values.0 (kinds zero it refl) in
      (more.0, λ i. here i ∷ more.1 i)

pub begins : (datas rest : List Data) (domains : ℕ) → map without_kind datas ≡ built_in ++ rest
    → ((d : ℕ) (it : Data) → slice_get datas d ≡ Some it → HasItsKind datas domains it) → (declared : List Data) × (datas ≡ built_in ++ declared)
begins datas rest domains e kinds = begins_with datas domains datas built_in rest e (built_in_values datas domains) kinds
