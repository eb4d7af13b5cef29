-- Typed states in which no rule has an instance: a body that nothing blocks is in normal form.
use Rattle.std.proofs.Common.{refl, subst, List}
use Rattle.std.specs.Prelude.{Contains}
use Rattle.chw_terms.specs.declared.program.Program.{Program}
use Rattle.chw_terms.specs.declared.rule.Rule.{Rule}
use Rattle.chw_terms.specs.declared.rule.Rule.TheVariants.{TyBeta, Beta, AppLet, AppCase, CaseCon, CaseLet, CaseCase, Proj, PrimLet, PrimCase, Flat, Dead, Inline, Unfold, Unroll, Elem, Delta, ApPure, Eta, Spec, Anf}
use Rattle.chw_terms.specs.declared.scene.Made.{Made}
use Rattle.chw_typing.proofs.Lists.{found_before_map}
use Rattle.normal_forms.specs.Blocked.{BlockedPlace, HasBlocked}
use Rattle.normal_forms.specs.Normal.{IsNormal, all_rules}
use Rattle.normal_laws.specs.Laws.{NormalIsNotBlocked}
use Rattle.normal_laws.proofs.Declared.{contains_at}
use Rattle.rewriting.specs.Named.{LeadsToNamed, mode_of}
use Rattle.rewriting.specs.Origins.{MadeOf, made_of}
use Rattle.rewriting.specs.Steps.{origins_in}
use Rattle.rule_types.specs.States.{IsTypedState, StatesHaveTypedOrigins}
use Rattle.rest_places.specs.Chains.{MadeAreNamed}
use Rattle.ended_laws.specs.Laws.{NoneIsStuck, EndedIsNormal}
use Rattle.ended_laws.proofs.Roots.{Laws, ended_is_normal}

-- each rule is one of them
rule_among : (r : Rule) → Contains all_rules r
rule_among TyBeta = contains_at all_rules 0 TyBeta refl
rule_among Beta = contains_at all_rules 1 Beta refl
rule_among AppLet = contains_at all_rules 2 AppLet refl
rule_among AppCase = contains_at all_rules 3 AppCase refl
rule_among CaseCon = contains_at all_rules 4 CaseCon refl
rule_among CaseLet = contains_at all_rules 5 CaseLet refl
rule_among CaseCase = contains_at all_rules 6 CaseCase refl
rule_among Proj = contains_at all_rules 7 Proj refl
rule_among PrimLet = contains_at all_rules 8 PrimLet refl
rule_among PrimCase = contains_at all_rules 9 PrimCase refl
rule_among Flat = contains_at all_rules 10 Flat refl
rule_among Dead = contains_at all_rules 11 Dead refl
rule_among Inline = contains_at all_rules 12 Inline refl
rule_among Unfold = contains_at all_rules 13 Unfold refl
rule_among Unroll = contains_at all_rules 14 Unroll refl
rule_among Elem = contains_at all_rules 15 Elem refl
rule_among Delta = contains_at all_rules 16 Delta refl
rule_among ApPure = contains_at all_rules 17 ApPure refl
rule_among Eta = contains_at all_rules 18 Eta refl
rule_among Spec = contains_at all_rules 19 Spec refl
rule_among Anf = contains_at all_rules 20 Anf refl

made_are_named : (p : Program) (state : List Made) → IsTypedState p state → MadeAreNamed (origins_in p state)
made_are_named p state typed m it is =
    let found = found_before_map made_of state m it is in
    subst (λ (x : MadeOf). LeadsToNamed p.datas (mode_of x.sort) x.ty) found.2 (typed.each m found.0 found.1).named

pub none_is_stuck : Laws → StatesHaveTypedOrigins → NoneIsStuck
none_is_stuck laws origins p state m it typed no_step is free =
    ended_is_normal laws (origins_in p state) (made_of it) it.body
    (record {
      sound = (origins p state typed).sound;
      acyclic = typed.typed.data_acyclic;
      made = made_are_named p state typed;
      typed = typed.each m it is;
      still = λ path to x new r place has. no_step (record { number = m; path = path; rule = r }) new (rule_among r, record { it = it; is = is; at = to; term = x; place = place; made_new = has });
      free = free;
    })

pub ended_state_is_normal : NoneIsStuck → NormalIsNotBlocked → EndedIsNormal
ended_state_is_normal none normal p state typed no_step = (there, back)
  where
    there : ((at : BlockedPlace) → HasBlocked p state at → ⊥) → IsNormal p state
    there free =
        record {
          no_step = no_step;
          bodies = λ m it is. none p state m it typed no_step is (λ path b blocked. free (record { number = m; path = path; block = b }) (it, is, blocked));
        }

    back : IsNormal p state → (at : BlockedPlace) → HasBlocked p state at → ⊥
    back h at blocked = normal p state at.number blocked.0 at.path at.block typed blocked.1 (h.bodies at.number blocked.0 blocked.1) blocked.2
