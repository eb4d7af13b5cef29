-- The operands of a right side: variables with bits, at the types at which they are used.
use Rattle.std.proofs.Common.{◌≡◌, ℕ, Bool, List, [], Some, slice_get, sym, ap, subst, unwrap_or, option_map}
use Rattle.chw_base.specs.declared.index.WireId.{WireId}
use Rattle.chw_clock.specs.declared.event.Event.{Event}
use Rattle.chw_types.specs.declared.kind.Kind.{Kind}
use Rattle.chw_types.specs.SamePromises.{SameValues}
use Rattle.chw_types.specs.SameTypes.{SameTypes}
use Rattle.chw_types.specs.TypeTree.{TypeTree, TypeTrees}
use Rattle.type_laws.specs.SameKept.{FieldsKeepSame}
use Rattle.chw_terms.specs.declared.program.Program.{Program}
use Rattle.chw_terms.specs.TermTree.{var}
use Rattle.chw_typing.specs.Programs.{IsSound, setting_of}
use Rattle.chw_typing.specs.Scopes.{Setting, HasKind, AreTermTypes, IsTermType}
use Rattle.chw_typing.specs.Typing.{HasType, HasTypeUpTo, h_var}
use Rattle.chw_typing.specs.Alike.{AreLike}
use Rattle.rewriting.specs.Origins.{Origins, setting_at}
use Rattle.chw_meaning.specs.Values.{closed, Thunks}
use Rattle.carrying.specs.Carrying.{Carries}
use Rattle.netlist.specs.declared.net.Net.{Net}
use Rattle.net_built.specs.Terms.{Variable, wires_at}
use Rattle.cell_bits.specs.Bearing.{Bears}
use Rattle.net_grounds.specs.Facts.{Facts}
use Rattle.net_means.proofs.Lists.{found_before_map}
use Rattle.net_means.specs.SideBits.Sides.{types_in, HasBits, VariableHas}

-- what is typed over more made definitions than a program has is sound over the program
pub sound_alone : (o : Origins) → IsSound (setting_at o) → IsSound (setting_of o.program)
sound_alone o s =
    record {
      begins = s.begins;
      kinds = s.kinds;
      fields = λ d it t e f. alone (s.fields d it t e f);
      defs = λ x t e. alone (s.defs x t e);
      made = λ x t e. absurd cc;
    }
  where
    alone : {kinds : List Kind} {t : TypeTree} → IsTermType (setting_at o) kinds t → IsTermType (setting_of o.program) kinds t
    alone t = record { kind = t.kind; has = t.has; of_terms = t.of_terms }

-- a variable of this number, used at this type
pub record OperandHas (p : Program) (γ : Thunks) (δ : TypeTrees) (net : Net) (path : List ℕ) (h : List Event) (scope : List Variable) (x : ℕ) (t : TypeTree) : Type 0 where
  pub bits : List Bool
  pub carries : Carries p t (closed (var x) γ δ) bits
  pub bears : Bears net path h (wires_at scope x) bits

pub var_at : {s : Setting} {kinds : List Kind} {vars : List TypeTree} {x : ℕ} {t : TypeTree} → HasType s kinds vars (var x) t → slice_get vars x ≡ Some t
var_at (h_var is) = is

wires_there : (scope : List Variable) (x : ℕ) (v : Variable) → slice_get scope x ≡ Some v → wires_at scope x ≡ v.wires
wires_there scope x v e = ap (λ o. unwrap_or (option_map (λ (v : Variable). v.wires) o) []) e

-- what the proofs stand on
pub record Ground (o : Origins) : Type 0 where
  pub values : SameValues
  pub keep : FieldsKeepSame
  pub sound : IsSound (setting_at o)

module _ (facts : Facts) (o : Origins) (ground : Ground o) (scope : List Variable) (scoped : AreTermTypes (setting_at o) [] (types_in scope)) (γ : Thunks) (δ : TypeTrees) (net : Net) (path : List ℕ) (h : List Event) where
  pub operand_has : (x : ℕ) (c t : TypeTree) → HasTypeUpTo (setting_at o) [] (types_in scope) (var x) c → SameTypes c t → ((it : Variable) → slice_get scope x ≡ Some it → HasBits o.program net path h γ x it) → OperandHas o.program γ δ net path h scope x t
  operand_has x c t typed same has =
      let p : Program = o.program in
      let v = found_before_map (λ (v : Variable). v.ty) scope x typed.type (var_at typed.has) in
      let it : Variable = v.0 in
      let all = has it v.1 in
      let its : VariableHas p net path h γ x it all.0 = all.1 in
      let kinded : IsTermType (setting_at o) [] typed.type = facts.terms.type_kinded typed.has ground.sound scoped in
      let like : AreLike (setting_of p) it.ty t =
      record {
        kind = kinded.kind;
        has = subst (λ u. HasKind (setting_at o) [] u kinded.kind) (sym v.2) kinded.has;
        same = subst (λ u. SameTypes u t) (sym v.2) (facts.same.same_through (facts.same.same_turned typed.same) same);
      } in
      record {
        bits = all.0;
        carries = λ g. facts.shows.variable_shows its.there (facts.shows.shown_same p (sound_alone o ground.sound) ground.values ground.keep (its.carries g) like);
        bears = subst (λ (ws : List WireId). Bears net path h ws all.0) (sym (wires_there scope x it v.1)) its.bears;
      }
