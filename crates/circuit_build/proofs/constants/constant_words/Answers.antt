use Rattle.std.proofs.Common.{◌≡◌, ◌∙◌, sym}
use Rattle.std.proofs.lemmas.Result.{IfOk-weaker}
use Rattle.chw_terms.specs.TermTree.{vec_lit}
use Rattle.chw_terms.specs.TermView.{tree_of, terms_of}
use Rattle.net_built.specs.Memories.{HasWords}
use Rattle.value_build.proofs.Spines.{bare_is}
use Rattle.circuit_build.specs.Constants.{AreWords}
use Rattle.circuit_build.proofs.ConstantBits.{words_of_vector}
use Rattle.circuit_build.proofs.ConstantParts.{words_form, words_parts}
use Rattle.circuit_build.proofs.constants.constant_words.Goals as goal

pub elements_of-requires : goal.elements_of-requires
elements_of-requires c =
    (words_form c.args.base.now.datas c.args.t.now c.e.inside.head c.e.inside.args.items c.args.e.now c.e.view_is c.requires.words).0

pub words-requires : goal.words-requires
words-requires c =
    let datas = c.args.base.now.datas in
    let h = c.e.inside.head in
    let args = c.e.inside.args.items in
    let none = (words_form datas c.args.t.now h args c.args.e.now c.e.view_is c.requires.words).1 in
    let r = c.elements_of.ensures in
    record { words = words_parts datas c.args.t.now r.0 c.args.e.now c.elements_of.result.now (sym c.e.view_is ∙ bare_is (tree_of h) args none ∙ r.1) c.requires.words }

pub returns-clause-words : goal.returns-clause-words
returns-clause-words c =
    let datas = c.args.base.now.datas in
    let h = c.e.inside.head in
    let args = c.e.inside.args.items in
    let es = c.elements_of.result.now in
    let none = (words_form datas c.args.t.now h args c.args.e.now c.e.view_is c.requires.words).1 in
    let r = c.elements_of.ensures in
    let whole : c.args.e.now ≡ vec_lit r.0 (terms_of es) = sym c.e.view_is ∙ bare_is (tree_of h) args none ∙ r.1 in
    IfOk-weaker c.words.result (AreWords datas c.args.t.now es) (HasWords datas c.args.t.now c.args.e.now)
    (λ ws are. words_of_vector datas c.args.t.now r.0 c.args.e.now es ws (sym whole) are)
    c.words.ensures.words
