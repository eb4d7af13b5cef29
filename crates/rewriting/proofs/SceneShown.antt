-- The worked examples.
use Rattle.std.proofs.Common.{◌≡◌, ℕ, refl, subst, List, [], ◌∷◌, ◌<◌, arith}
use Rattle.chw_types.specs.BuiltIn.{built_in}
use Rattle.chw_types.specs.declared.kind.Kind.TheVariants.{Val, Cir}
use Rattle.chw_types.specs.declared.declarations.Data.{Data}
use Rattle.type_ports.specs.declared.ports.Leaf.{Leaf}
use Rattle.chw_types.specs.Kinds.{kind_domain, kind_data, kind_fun, kind_signal, no_kinds}
use Rattle.type_ports.specs.Representable.{Representable, representable_data, none_to_represent}
use Rattle.type_ports.specs.Ports.{Leaves, one_leaf, leaves_of_fields}
use Rattle.chw_types.specs.TypeTree.{TypeTree, fun}
use Rattle.chw_types.proofs.SameLaws.{same_self}
use Rattle.chw_prims.specs.Schemas.{bool}
use Rattle.chw_terms.specs.declared.scene.Mode.TheVariants.{V}
use Rattle.chw_terms.specs.TermTree.{TermTree, var, made, lam, con}
use Rattle.chw_typing.specs.Scopes.{HasKind}
use Rattle.chw_typing.specs.Typing.{HasType, h_var, h_lam, h_letrec, h_con, none_bound, bound_and}
use Rattle.chw_typing.specs.Given.{AsksForNone}
use Rattle.rewriting.specs.SceneExamples.{bare, bits, named_bits, TypedValue, TypedCircuit, NoLeadingLambda, UnnamedParameter, BoolInValues, NoBoolInCircuits, SignalInCircuits, NoSignalInValues, HoldsOne}
use Rattle.rewriting.specs.Named.{LeadsToNamed, to_named, from_named, UnderLambdas, under_none, under_one, HasLeadingLambdas}
use Rattle.rewriting.specs.Origins.{setting_at, with_origins, HoldsNoMade}

bool_kind : HasKind (setting_at bare) [] bool Val
bool_kind = kind_data refl no_kinds

bits_kind : HasKind (setting_at bare) [] bits Cir
bits_kind = let one : 0 < 1 = omega arith in kind_signal (kind_domain one) bool_kind

bits_to_bits : HasKind (setting_at bare) [] (fun bits bits) Cir
bits_to_bits = kind_fun bits_kind bits_kind tt

pub bool_in_values : BoolInValues
bool_in_values = representable_data refl refl none_to_represent

pub signal_in_circuits : SignalInCircuits
signal_in_circuits = (_, one_leaf {dom = record { number = 0 }} bool_in_values)

pub no_signal_in_values : NoSignalInValues
no_signal_in_values r = elim r [ ]

-- `Bool` has two constructors
no_port : {datas : List Data} {t : TypeTree} {ls : List Leaf} → Leaves datas t ls → datas ≡ built_in → t ≡ bool → ⊥
no_port (one_leaf r) d is = absurd cc
no_port {datas} (leaves_of_fields {d = n} {it = it} {ts = ts} known many one fields all) d is =
    let first : n ≡ 0 = cc in
    absurd cc

pub no_bool_in_circuits : NoBoolInCircuits
no_bool_in_circuits p = no_port p.1 refl refl

no_functions : {datas : List Data} {a b : TypeTree} → Representable datas (fun a b) → ⊥
no_functions r = elim r [ ]

from_functions : {t : TypeTree} → LeadsToNamed built_in V t → t ≡ fun (fun bool bool) bool → ⊥
from_functions (to_named n) is = no_functions (subst (Representable built_in) is n)
from_functions (from_named {a = a} n more) is = let first : a ≡ fun bool bool = cc in no_functions (subst (Representable built_in) first n)

pub unnamed_parameter : UnnamedParameter
unnamed_parameter l = from_functions l refl

no_lambda : {vars vs : List TypeTree} {e x : TermTree} {t : TypeTree} {p : List ℕ} → UnderLambdas vars e t p vs x → e ≡ made 0 → t ≡ fun bits bits → ⊥
no_lambda (under_none a) e is = subst AsksForNone is a
no_lambda (under_one s u) e is = absurd cc

pub no_leading_lambda : NoLeadingLambda
no_leading_lambda h = no_lambda h.under refl refl

pub holds_one : HoldsOne
unfolding with_origins
holds_one h = let same : var 0 ≡ made 0 = h (λ m. var 0) in absurd cc

truth_alone : HoldsNoMade (con 1)
unfolding with_origins
truth_alone o = refl

bits_alone : HoldsNoMade (lam bits (var 0))
unfolding with_origins
bits_alone o = refl

truth_leads : HasLeadingLambdas (con 1) bool
truth_leads = record { path = []; vars = []; body = con 1; under = under_none tt }

pub typed_value : TypedValue
typed_value =
    record {
      closed = record { kind = Val; has = bool_kind; of_terms = tt };
      named = to_named bool_in_values;
      origin_typed = record { type = bool; has = h_con refl; same = same_self bool };
      body_typed = record { type = bool; has = h_con refl; same = same_self bool };
      origin_complete = tt;
      body_complete = tt;
      no_made = truth_alone;
      origin_leads = truth_leads;
      body_leads = truth_leads;
    }

named_bits_typed : HasType (setting_at bare) [] [] named_bits (fun bits bits)
named_bits_typed = h_lam (h_letrec (h_var refl) bits_kind (bound_and bits_kind tt (h_var refl) (same_self bits) none_bound)) bits_to_bits

pub typed_circuit : TypedCircuit
typed_circuit =
    record {
      closed = record { kind = Cir; has = bits_to_bits; of_terms = tt };
      named = from_named signal_in_circuits (to_named signal_in_circuits);
      origin_typed = record { type = fun bits bits; has = h_lam (h_var refl) bits_to_bits; same = same_self (fun bits bits) };
      body_typed = record { type = fun bits bits; has = named_bits_typed; same = same_self (fun bits bits) };
      origin_complete = tt;
      body_complete = ((tt, tt), tt);
      no_made = bits_alone;
      origin_leads = record { path = 0 ∷ []; vars = bits ∷ []; body = var 0; under = under_one (same_self bits) (under_none tt) };
      body_leads = record { path = 0 ∷ []; vars = bits ∷ []; body = _; under = under_one (same_self bits) (under_none tt) };
    }
