use Rattle.std.proofs.Common.{◌≡◌, sym, ap, ◌∙◌, List, [], ◌∷◌, ◌++◌, map, append_assoc, append-nil}
use Rattle.std.proofs.lemmas.List.{map-append}
use Rattle.std.proofs.lemmas.Simd.{map-map}
use Rattle.std.proofs.lemmas.Iterator.Adapters.{YieldsList-from_rev_slice}
use Rattle.std.proofs.lemmas.Iterator.Consumers.{YieldsList-end}
use Rattle.chw_types.specs.TypeTree.{TypeTree}
use Rattle.chw_types.specs.TypeView.{trees_of}
use Rattle.chw_types.specs.TypeMoves.{sub}
use Rattle.chw_types.specs.Arguments.{arguments}
use Rattle.type_ports.proofs.ports.push_fields.Goals as goal

pushed_next : {A : Type 0} (g : A → TypeTree) (start now new : List TypeTree) (seen : List A) (x : A) (t : TypeTree) → t ≡ g x → new ≡ now ++ t ∷ [] → now ≡ start ++ map g seen → new ≡ start ++ map g (seen ++ x ∷ [])
pushed_next g start now new seen x t is e before =
    e ∙ (λ i. before i ++ is i ∷ []) ∙ append_assoc start (map g seen) (g x ∷ []) ∙ ap (λ us. start ++ us) (sym (map-append g seen (x ∷ [])))

pub loop-field-init : goal.loop-field-init
loop-field-init c = sym (append-nil c.args.todo.now.items)

pub loop-field-preserved : goal.loop-field-preserved
loop-field-preserved c =
    pushed_next (λ f. sub f.now (arguments (trees_of c.args.args.now))) c.args.todo.now.items c.loop-field.todo.items c.push.new.self.items c.loop-field.yielded c.in-Some.field c.in_ok-put_arguments_within.field-0 c.in_ok-put_arguments_within.ensures.is c.in_ok-push.ensures.items c.loop-field.invariant

pub returns : goal.returns
returns c =
    let all = YieldsList-end (YieldsList-from_rev_slice c.args.fields.now cc) c.loop-field.yielded _ c.loop-field.yielded_by _ _ c.in-None.is c.next.ensures.steps in
    c.loop-field.invariant
    ∙ ap (λ us. c.args.todo.now.items ++ us) (sym (map-map (λ f. sub f (arguments (trees_of c.args.args.now))) (λ f. f.now) c.loop-field.yielded) ∙ ap (map (λ f. sub f (arguments (trees_of c.args.args.now)))) all.0)
