use Rattle.std.proofs.Common.{◌≡◌, ℕ, List, map, sym, ap, ◌∙◌, arith}
use Rattle.chw_grammar.specs.TypeTree.{type_named}
use Rattle.chw_grammar.specs.TypeView.{types_of, type_of}
use Rattle.chw_resolve.specs.Types.{named_type, type_in}
use Rattle.chw_resolve.specs.Walks.{joined}
use Rattle.chw_resolve.proofs.Chains.{chain_more}
use Rattle.chw_resolve.proofs.Lists.{made_more_there, made_all}
use Rattle.chw_resolve.proofs.Smaller.{type_smaller}
use Rattle.chw_resolve.proofs.TypeMade.{chain_made, named_made}
use Rattle.chw_resolve.proofs.types.+type_in.Goals as goal

pub type_in-returns-in_ok-at_arguments-in-Named-clause-made : goal.type_in-returns-in_ok-at_arguments-in-Named-clause-made
type_in-returns-in_ok-at_arguments-in-Named-clause-made t c =
    let g = c.args.globals.now in
    let ts = c.in-Named.arguments.items in
    let whole : type_named c.in-Named.word (types_of ts) ≡ c.args.tree.now = ap type_of (sym c.in-Named.is) ∙ c.tree.view_is in
    c.in_ok-at_arguments-in-Named.ensures
    ∙ named_made g c.args.variables.now c.in-Named.word ts whole c.data_types_in.ensures (c.named_type-name.ensures ∙ ap (named_type g) c.as_slice-in-Named-2.ensures)
    (c.in_ok-arguments-in-Named.ensures.made ∙ ap (λ xs. map (type_in g c.args.variables.now) xs) c.as_slice-in-Named.ensures.value)

pub chain_in-type_in-requires : goal.chain_in-type_in-requires
chain_in-type_in-requires t c = (omega (arith, c.decreases, type_smaller c.args.parts.now c.loop-part.part-index c.part-item.result _ c.loop-part-test.true c.part-item.is), tt)

pub chain_in-loop-part-preserved : goal.chain_in-loop-part-preserved
chain_in-loop-part-preserved t c =
    let g = c.args.globals.now in
    record {
      scope = c.in_ok-part.ensures.scope ∙ c.loop-part.invariant.scope;
      chain = chain_more (joined c.args.join) (type_in g c.args.variables.now) c.args.parts.now c.loop-part.part-index c.part-item.result _ _ c.loop-part-test.true c.part-item.is c.loop-part.invariant.chain
          (c.in_ok-part.ensures.made ∙ ap (λ (vs : List (List ℕ)). type_in g vs c.part-item.result) c.loop-part.invariant.scope) c.in_ok-joined.ensures;
    }

pub chain_in-returns-clause-made : goal.chain_in-returns-clause-made
chain_in-returns-clause-made t c =
    c.or_zero.ensures ∙ chain_made (joined c.args.join) c.args.globals.now c.args.variables.now c.args.parts.now c.loop-part.part-index (omega (arith, c.loop-part-test.false)) c.loop-part.invariant.chain

pub types_in-type_in-requires : goal.types_in-type_in-requires
types_in-type_in-requires t c = (omega (arith, c.decreases, type_smaller c.args.trees.now c.loop-tree.tree-index c.tree-item.result _ c.loop-tree-test.true c.tree-item.is), tt)

pub types_in-loop-tree-preserved : goal.types_in-loop-tree-preserved
types_in-loop-tree-preserved t c = record {
  scope = c.in_ok-type_in.ensures.scope ∙ c.loop-tree.invariant.scope;
  made = c.in_ok-push.ensures.items
      ∙ made_more_there (type_in c.args.globals.now) c.args.variables.now c.loop-tree.variables c.args.trees.now c.loop-tree.tree-index c.tree-item.result _ c.loop-tree-test.true c.tree-item.is
      c.loop-tree.invariant.scope c.loop-tree.invariant.made c.in_ok-type_in.ensures.made;
}

pub types_in-returns-clause-made : goal.types_in-returns-clause-made
types_in-returns-clause-made t c =
    made_all (type_in c.args.globals.now c.args.variables.now) c.args.trees.now c.loop-tree.tree-index (omega (arith, c.loop-tree-test.false)) c.loop-tree.invariant.made
