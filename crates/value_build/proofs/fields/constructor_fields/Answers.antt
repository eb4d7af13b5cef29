use Rattle.std.proofs.Common.{◌≡◌, ◌∙◌, ap, sym, map, length}
use Rattle.std.proofs.lemmas.Result.{IfOk-weaker}
use Rattle.chw_types.specs.Arguments.{arguments}
use Rattle.chw_types.specs.TypeMoves.{sub}
use Rattle.chw_types.specs.TypeTree.{data_of}
use Rattle.chw_types.specs.TypeView.{tree_of, trees_of}
use Rattle.chw_terms.specs.Constructors.{Constructor}
use Rattle.chw_terms.specs.declared.term.Pattern.TheVariants.{OfCon}
use Rattle.chw_typing.specs.HeadTypes.{PatternOf}
use Rattle.con_places.specs.Constructing.{constructor_of}
use Rattle.value_build.proofs.Patterns.{pattern_there, of_con_is, con_there, con_once, no_other_node, data_number}
use Rattle.value_build.proofs.fields.constructor_fields.Goals as goal

pub returns : goal.returns
returns c =
    let datas = c.args.base.now.datas in
    let fields = c.as_slice.result.now in
    let given = c.deref.result.now in
    let k = of_con_is c.requires.1 in
    let same : k.it ≡ constructor_of c.in-Some.it = con_once datas c.args.at.number k.it (constructor_of c.in-Some.it) k.at c.in-Some.ensures.is in
    let ty : data_of c.in-DataOf.field-0.number (trees_of c.in-DataOf.args.items) ≡ c.args.ty.now = ap tree_of (sym c.in-DataOf.is) ∙ c.ty.view_is in
    let of = data_number c.in-DataOf.field-0.number k.it.of (trees_of c.in-DataOf.args.items) k.args (ty ∙ k.ty) ∙ ap (λ (x : Constructor). x.of) same in
    let count = ap length c.as_slice.ensures ∙ ap (λ (x : Constructor). length x.decl.fields) (sym same) ∙ k.count in
    IfOk-weaker c.fields_put.result (λ ts. ts.items ≡ map (λ f. sub f (arguments (trees_of given))) fields)
    (λ ts. PatternOf datas c.args.ty.now (OfCon c.args.at c.args.names) ts.items)
    (λ ts made. pattern_there datas (constructor_of c.in-Some.it) c.args.at c.args.names c.in-DataOf.field-0.number c.in-DataOf.args.items given fields ts.items c.args.ty.now
    c.in-Some.ensures.is of c.as_slice.ensures count c.deref.ensures.value ty made)
    c.fields_put.ensures

pub unreachable-requires : goal.unreachable-requires
unreachable-requires c =
    let k = of_con_is c.requires.1 in
    con_there c.args.base.now.datas c.args.at.number k.it k.at c.in_default.ensures

pub unreachable-requires-in_default-node : goal.unreachable-requires-in_default-node
unreachable-requires-in_default-node c =
    let k = of_con_is c.requires.1 in
    no_other_node c.ty.inside.node c.args.ty.now k.it.of k.args c.ty.view_is k.ty c.in_default-node.not-DataOf
