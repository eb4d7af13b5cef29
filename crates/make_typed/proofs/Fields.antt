-- The built-in data types hold values, which are variables.
use Rattle.std.specs.Prelude.{◌≡◌, ℕ, zero, suc, ◌<◌, List, [], ◌∷◌, length, reverse, Some, slice_get, refl}
use Rattle.std.proofs.Common.{ap, arith, subst, sym, ◌∙◌}
use Rattle.std.proofs.lemmas.Bool.{false≢true}
use Rattle.std.proofs.lemmas.Option.{none-some, same_Some}
use Rattle.chw_terms.specs.References.{DataRefers, IsField, names_data}
use Rattle.chw_terms.specs.Tidy.{HasItsKind}
use Rattle.chw_types.specs.declared.declarations.ConDecl.{ConDecl}
use Rattle.chw_types.specs.declared.declarations.Data.{Data}
use Rattle.chw_types.specs.declared.kind.Kind.{Kind}
use Rattle.chw_types.specs.declared.kind.Kind.TheVariants.{Val, Cir}
use Rattle.chw_types.specs.BuiltIn.{built_in}
use Rattle.chw_types.specs.Kinds.{KindOf, kind_var}
use Rattle.chw_types.specs.TypeTree.{TypeTree, ty_var}
use Rattle.chw_types.proofs.KindsFound.{one_kind}
use Rattle.chw_typing.specs.Programs.{FieldsAreTyped}
use Rattle.chw_typing.specs.Scopes.{IsTermType}
use Rattle.graph_order.specs.References.{HasNoCycle, Leads, step, step_and}
use Rattle.make_typed.proofs.Good.{setting}

-- each item has it
abbrev All : {X : Type 0} → (X → Type 0) → List X → Type 0
All Has [] = Unit {0}
All Has (x ∷ xs) = Has x × All Has xs

all_at : {X : Type 0} (Has : X → Type 0) (xs : List X) (i : ℕ) (x : X) → All Has xs → slice_get xs i ≡ Some x → Has x
all_at Has [] i x all at = absurd (none-some x at)
all_at Has (y ∷ ys) zero x all at = subst Has (same_Some y x at) all.0
all_at Has (y ∷ ys) (suc i) x all at = all_at Has ys i x all.1 at

-- the type is a variable that stands for values
record IsValue (kinds : List Kind) (t : TypeTree) : Type 0 where
  place : ℕ
  is : t ≡ ty_var place
  value : slice_get kinds place ≡ Some Val

abbrev HoldsValues : List Kind → ConDecl → Type 0
HoldsValues kinds c = All (IsValue kinds) c.fields

abbrev IsOfValues : Data → Type 0
IsOfValues it = All (HoldsValues (reverse it.params)) it.cons × (it.kind ≡ Val) × (0 < length it.cons)

built_in_values : All IsOfValues built_in
built_in_values = (
  ((tt, (tt, tt)), refl, omega arith),
  ((
    ((tt, ((record { place = 0; is = refl; value = refl }, tt), tt)), refl, omega arith),
    ((((record { place = 1; is = refl; value = refl }, (record { place = 0; is = refl; value = refl }, tt)), tt), refl, omega arith), tt),
  )),
)

field_is_value : (d : ℕ) (it : Data) (t : TypeTree) → slice_get built_in d ≡ Some it → IsField it t → IsValue (reverse it.params) t
field_is_value d it t at field =
    let cons = (all_at IsOfValues built_in d it built_in_values at).0 in
    let fields = all_at (HoldsValues (reverse it.params)) it.cons field.con field.of cons field.is_con in
    all_at (IsValue (reverse it.params)) field.of.fields field.at t fields field.is_field

pub fields_typed : FieldsAreTyped setting
fields_typed d it t at field =
    let value = field_is_value d it t at field in
    subst (IsTermType setting (reverse it.params)) (sym value.is) (record { kind = Val; has = kind_var value.value; of_terms = tt })

pub built_in_kinds : (d : ℕ) (it : Data) → slice_get built_in d ≡ Some it → HasItsKind built_in 2 it
built_in_kinds d it at = record {
  circuit = λ circuit.
      let value = field_is_value d it circuit.0 at circuit.1 in
      let kind : KindOf built_in 2 (reverse it.params) (ty_var value.place) Cir =
      subst (λ (t : TypeTree). KindOf built_in 2 (reverse it.params) t Cir) value.is circuit.2 in
      let same : Val ≡ Cir = one_kind (kind_var value.value) kind in
      absurd (cc);
  values = λ none. (all_at IsOfValues built_in d it built_in_values at).1;
}

pub built_in_inhabited : (d : ℕ) (it : Data) → slice_get built_in d ≡ Some it → 0 < length it.cons
built_in_inhabited d it at = (all_at IsOfValues built_in d it built_in_values at).2

no_reference : (from to : ℕ) → DataRefers built_in from to → ⊥
no_reference from to refers =
    let value = field_is_value from refers.0 refers.1 refers.2 refers.3 in
    false≢true (ap (λ (t : TypeTree). names_data t to) (sym value.is) ∙ refers.4)

pub data_acyclic : HasNoCycle (DataRefers built_in)
data_acyclic a leads = by leads
  where
    by : {a b : ℕ} → Leads (DataRefers built_in) a b → ⊥
    by (step {a = a} {b = b} refers) = no_reference a b refers
    by (step_and {a = a} {b = b} refers more) = no_reference a b refers
