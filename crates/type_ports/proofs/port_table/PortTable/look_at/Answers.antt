use Rattle.std.proofs.Common.{sym, ap, subst, ◌∙◌, length, ◌++◌, map}
use Rattle.std.specs.Prelude.{reverse}
use Rattle.chw_types.specs.TypeTree.{signal}
use Rattle.chw_types.specs.TypeView.{tree_of, trees_of}
use Rattle.type_ports.specs.Ports.{IsNoPort}
use Rattle.type_ports.specs.PortsFound.{IsProduct, IsNoProduct, HasForm}
use Rattle.chw_types.specs.TypeMoves.{sub}
use Rattle.chw_types.specs.Arguments.{arguments}
use Rattle.chw_types.proofs.Filled.{list_of_trees}
use Rattle.type_ports.proofs.LeavesFound.{no_product}
use Rattle.type_ports.proofs.port_table.PortTable.look_at.Goals as goal

pub returns-in_default-product_fields-clause-form : goal.returns-in_default-product_fields-clause-form
returns-in_default-product_fields-clause-form c =
    let as_many = c.len.ensures ∙ c.in-DataOf.args.ok.0 ∙ ap length (sym (list_of_trees c.in-DataOf.args.items)) in
    let none = subst (λ ds. IsNoProduct ds c.in-DataOf.at.number c.len.result) c.self.view_is c.in_default-product_fields.ensures.none in
    subst (IsNoPort c.args.self.now) (ap tree_of (sym c.in-DataOf.is) ∙ c.t.view_is)
    (no_product c.args.self.now c.in-DataOf.at.number c.len.result (trees_of c.in-DataOf.args.items) as_many none)

pub returns-in_ok-signal_form-in-Signal-clause-form : goal.returns-in_ok-signal_form-in-Signal-clause-form
returns-in_ok-signal_form-in-Signal-clause-form c =
    let todo = c.args.todo.now.items in
    let whole = (λ i. signal (c.deref.ensures i) (c.deref-in-Signal.ensures i)) ∙ ap tree_of (sym c.in-Signal.is) ∙ c.t.view_is in
    subst (λ u. HasForm c.args.self.now u todo todo c.in_ok-signal_form-in-Signal.field-0) whole (c.in_ok-signal_form-in-Signal.ensures.form todo)

pub returns-in_ok-push_fields-in-DataOf-clause-form : goal.returns-in_ok-push_fields-in-DataOf-clause-form
returns-in_ok-push_fields-in-DataOf-clause-form c =
    let as_many = c.len.ensures ∙ c.in-DataOf.args.ok.0 ∙ ap length (sym (list_of_trees c.in-DataOf.args.items)) in
    let d = c.in-DataOf.at.number in
    let fields = c.in-Some.fields.now in
    record {
      d = d;
      ts = trees_of c.in-DataOf.args.items;
      fields = fields;
      is = sym (ap tree_of (sym c.in-DataOf.is) ∙ c.t.view_is);
      product = subst (λ n. IsProduct c.args.self.now d n fields) as_many (subst (λ ds. IsProduct ds d c.len.result fields) c.self.view_is c.in-Some.ensures.some);
      todo = c.in_ok-push_fields-in-DataOf.ensures ∙ ap (λ us. c.args.todo.now.items ++ map (λ f. sub f (arguments (trees_of us))) (reverse fields)) c.deref-in-DataOf.ensures.value;
    }
