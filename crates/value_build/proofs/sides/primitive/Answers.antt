use Rattle.std.proofs.Common.{subst}
use Rattle.std.proofs.lemmas.Result.{on_ok_weaker}
use Rattle.chw_prims.specs.declared.prim.Primitive.{Primitive as Prim}
use Rattle.net_ready.specs.Ready.{PrimitiveReady}
use Rattle.value_build.proofs.Heads.{words_ready}
use Rattle.value_build.proofs.sides.primitive.Goals as goal

pub element-requires : goal.element-requires
element-requires c = subst (λ (p : Prim). PrimitiveReady p c.args.args.now) c.in-VGet.is c.requires

pub element_at-requires : goal.element_at-requires
element_at-requires c = subst (λ (p : Prim). PrimitiveReady p c.args.args.now) c.in-VAt.is c.requires

pub on_words-requires : goal.on_words-requires
on_words-requires c = words_ready c.args.which c.args.args.now c.in_default.not-VGet c.in_default.not-VAt c.requires

pub returns-in_default : goal.returns-in_default
returns-in_default c = on_ok_weaker c.on_words.result (λ adds ground. adds ground c.args.w) c.on_words.ensures
